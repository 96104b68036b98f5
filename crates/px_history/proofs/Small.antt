-- Each step of the small history may follow those before it, and so may those of a second run.
use Rattle.std.proofs.Common.{◌≡◌, ℕ, ◌<◌, ◌≤◌, ◌==◌, false, List, [], ◌∷◌, refl, sym, subst, arith, inl, inr}
use Rattle.std.proofs.lemmas.Bool.{ne_eqb}
use Rattle.std.proofs.lemmas.List.{append-nil}
use Rattle.std.proofs.lemmas.List.Elements.{All-cons, All-nil}
use Rattle.px_cells.specs.declared.slot.Slot.{Slot}
use Rattle.px_cells.specs.Form.{is_slot}
use Rattle.px_chain.specs.Links.{IsStored}
use Rattle.px_model.specs.declared.row.Row.{Row}
use Rattle.px_model.specs.Rows.{key_cmp, same_key}
use Rattle.px_shown.specs.Example.{row_with, written_by_3}
use Rattle.px_shown.specs.Moves.{MayMove, moved_slot}
use Rattle.px_shown.specs.Shown.{Done, Shows}
use Rattle.px_shown.specs.Writes.{IsInFront}
use Rattle.px_history.specs.Base.{IsBase}
use Rattle.px_told.specs.Writes.{rows_over}
use Rattle.px_history.specs.Example.{again_by_5, deleted_by_4, header_with, long_body, second_changes, second_run, small_base, small_history, two_places}
use Rattle.px_history.specs.Store.{Store, nothing, versions_of}
use Rattle.px_history.specs.Steps.{History, MayCommit, MayPut, MayUnlink, Step, after_step, after_steps}
use Rattle.px_history.specs.Told.{told_by}
use Rattle.px_told.specs.Changes.{IsUntold}
use Rattle.px_history.specs.Writers.{IsAlone}
use Rattle.px_told.proofs.Changes.{past_untold}
use Rattle.px_history.specs.Written.{AreChangesOf}
use Rattle.px_chain.proofs.Walks.{contains_first}
use Rattle.px_history.proofs.Agreeing.{IsNotOf, history_agrees, open_later}
use Rattle.px_history.proofs.Laying.{change_is_one}
use Rattle.px_history.proofs.Basing.{crashed_is_base, nothing_is_base}
use Rattle.px_history.proofs.Writing.{base_writer, may_commit, step_writer}

abbrev after_3 : Store
after_3 = after_step nothing (Step.put 2 (header_with 1) written_by_3)

abbrev committed_3 : Store
committed_3 = after_step after_3 (Step.commit 3 1)

abbrev after_4 : Store
after_4 = after_step committed_3 (Step.put 2 (header_with 2) deleted_by_4)

abbrev rolled_back_4 : Store
rolled_back_4 = after_step after_4 (Step.rollback 4)

row_stored : IsStored 16 written_by_3
unfolding is_slot
row_stored = record { form = refl; used = λ e. cc }

deletion_stored : IsStored 16 deleted_by_4
unfolding is_slot
deletion_stored = record { form = refl; used = λ e. cc }

first_put : MayPut 16 nothing 2 (header_with 1) written_by_3
first_put = record {
  stored = row_stored;
  writer = record { undone = refl; not_over = refl };
  link = inl (record { slots = refl; rows = refl; its_row = refl; next = refl; its_key = λ row used. absurd (omega (arith, used.0.0, used.0.1)) });
}

-- nothing is done yet
in_front : (done : Done) (xn : ℕ) (slots : List Slot) → ((n : ℕ) → done n ≡ false) → IsInFront done xn slots
in_front done xn slots none = record {
  before = slots;
  behind = [];
  split = sym (append-nil slots);
  not_done = λ k d within. none _;
  others = All-nil (λ (s : Slot). (s.xn == xn) ≡ false);
}

first_commit : MayCommit after_3 3
first_commit = record {
  writer = record { undone = refl; not_over = refl };
  in_front = λ t row used. in_front after_3.done 3 (versions_of after_3 t row) (λ n. refl);
}

second_put : MayPut 16 committed_3 2 (header_with 2) deleted_by_4
second_put = record {
  stored = deletion_stored;
  writer = record { undone = refl; not_over = refl };
  link = inr (record { slots = refl; rows = refl; its_row = ((omega arith, omega arith), refl); next = refl; its_key = refl });
}

one_goes : MayUnlink rolled_back_4 2 1 0 1
one_goes = record { used = ((omega arith, omega arith), refl); some = omega arith; within = omega arith; same = refl }

pub small_is_one : History two_places 16 nothing small_history (after_steps nothing small_history)
small_is_one = record { follow = (first_put, (first_commit, (second_put, (refl, (one_goes, tt))))); lead = refl }

-- ---- the second run

abbrev small_rows : List Row
small_rows = row_with (97 ∷ []) ∷ []

rows_are : rows_over [] (told_by two_places small_history) ≡ small_rows
unfolding rows_over key_cmp same_key
rows_are = refl

untold_from : (xn : ℕ) → 5 ≤ xn → IsUntold xn (told_by two_places small_history)
untold_from xn more = let past : 4 < xn = omega (arith, more) in past_untold (told_by two_places small_history) xn past

pub small_is_base : IsBase two_places 16 5 small_rows small_base
small_is_base = subst (λ (rows : List Row). IsBase two_places 16 5 rows small_base) rows_are
    (crashed_is_base two_places 16 0 5 [] nothing (after_steps nothing small_history) small_history (nothing_is_base two_places 16) small_is_one (omega arith) untold_from)

row_again : IsStored 16 again_by_5
unfolding is_slot
row_again = record { form = refl; used = λ e. cc }

third_put : MayPut 16 small_base 2 (header_with 2) again_by_5
third_put = record {
  stored = row_again;
  writer = record { undone = refl; not_over = refl };
  link = inr (record { slots = refl; rows = refl; its_row = ((omega arith, omega arith), refl); next = refl; its_key = refl });
}

abbrev after_5 : Store
after_5 = after_step small_base (Step.put 2 (header_with 2) again_by_5)

-- only 3 has a version of the row
alone_5 : IsAlone small_base (Step.put 2 (header_with 2) again_by_5)
alone_5 other its differ =
    let later = open_later two_places 16 5 small_rows small_base other small_is_base its in
    All-cons (IsNotOf other) written_by_3 [] (ne_eqb 3 other (λ same. omega (arith, same, later))) (All-nil (IsNotOf other))

second_commit : MayCommit after_5 5
second_commit = may_commit two_places 16 after_5 5 2
    (step_writer two_places 16 small_base (Step.put 2 (header_with 2) again_by_5) small_is_base.sound (base_writer two_places 16 5 small_rows small_base small_is_base) third_put alone_5)
    (record { undone = refl; not_over = refl })

abbrev committed_5 : Store
committed_5 = after_step after_5 (Step.commit 5 2)

moved_form : IsStored 16 (moved_slot again_by_5 2 24)
unfolding is_slot
moved_form = record { form = refl; used = λ e. cc }

part_goes : MayMove two_places 16 committed_5.tables committed_5.layouts 2 2 2 24
part_goes = record {
  row = 1;
  used = ((omega arith, omega arith), refl);
  linked = contains_first 2 (1 ∷ []);
  long = λ none. omega (arith, none);
  some = λ none. omega (arith, none);
  stored = moved_form;
  same = refl;
}

abbrev moved_5 : Store
moved_5 = after_step committed_5 (Step.move 2 2 2 24)

older_goes : MayUnlink moved_5 2 1 1 1
older_goes = record { used = ((omega arith, omega arith), refl); some = omega arith; within = omega arith; same = refl }

pub second_is_one : History two_places 16 small_base second_run (after_steps small_base second_run)
second_is_one = record { follow = (third_put, (second_commit, (part_goes, (older_goes, tt)))); lead = refl }

pub rows_again : rows_over small_rows (told_by two_places second_run) ≡ row_with long_body ∷ []
unfolding rows_over key_cmp same_key
rows_again = refl

pub second_shown : Shows two_places (after_steps small_base second_run).tables (after_steps small_base second_run).layouts (after_steps small_base second_run).done (row_with long_body ∷ [])
second_shown =
    let store = after_steps small_base second_run in
    subst (λ (rows : List Row). Shows two_places store.tables store.layouts store.done rows) rows_again
    (history_agrees two_places 16 5 small_rows small_base store second_run small_is_base second_is_one).shows

pub second_logged : AreChangesOf 16 small_base second_run second_changes
second_logged = (
  change_is_one 16 small_base (Step.put 2 (header_with 2) again_by_5),
  (
    change_is_one 16 after_5 (Step.commit 5 2),
    (change_is_one 16 committed_5 (Step.move 2 2 2 24), (record { mark = inr refl; cells = refl; commit = refl }, tt)),
  ),
)
