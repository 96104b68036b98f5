-- Each step leaves a store that agrees with what was told.
use Rattle.std.proofs.Common.{◌≡◌, ◌≢◌, ℕ, ◌<◌, ◌≤◌, ◌==◌, ◌||◌, ◌&&◌, not, Bool, cond, false, List, [], ◌∷◌, ◌++◌, drop, refl, sym, ap, subst, ◌∙◌, arith, inl, inr, append_assoc, ⊎_elim}
use Rattle.std.specs.Prelude.{◌⊎◌}
use Rattle.std.proofs.lemmas.Bool.{cases_eq, cases_lt, eq-eqb, ne_eqb, or_parts, or_from, or_left, or_right, and_left, and_right, false≢true, false_from_ne_true}
use Rattle.std.proofs.lemmas.List.{append-nil}
use Rattle.std.proofs.lemmas.List.Elements.{All-nil, All-cons, All-contains, All-drop, All-head, All-take, Contains-push}
use Rattle.std.proofs.lemmas.List.Folds.{list_any_none}
use Rattle.px_cells.specs.declared.header.Header.{Header}
use Rattle.px_cells.specs.declared.slot.Slot.{Slot}
use Rattle.px_chain.specs.Links.{BeginsRow, VariesRow, linked, row_taken, slot_taken}
use Rattle.px_chain.specs.Sound.{IsChain, IsSound, IsUsedRow, IsVariation, Layout, head_of}
use Rattle.px_chain.specs.Table.{Table}
use Rattle.px_chain.proofs.Walks.{all_from, contains_none}
use Rattle.px_model.specs.declared.row.Row.{Row}
use Rattle.px_model.specs.declared.write.Write.{Write}
use Rattle.px_shown.specs.Changes.{IsLink, taken_slot}
use Rattle.px_shown.specs.Shown.{Shows, done_with, write_of}
use Rattle.px_shown.specs.Writes.{AreWritesOf, HasNoneOf}
use Rattle.px_shown.proofs.Changes.{link_stays_sound, unlink_stays_sound}
use Rattle.px_shown.specs.Moves.{MayMove}
use Rattle.px_shown.proofs.Moving.{move_shows, move_sound, move_written}
use Rattle.px_shown.proofs.Showing.{commit_shows, link_hidden}
use Rattle.px_shown.proofs.Unlinking.{unlink_shows, unlink_written}
use Rattle.px_shown.proofs.Writing.{link_of_another, link_written, not_written, nothing_written}
use Rattle.px_told.specs.declared.change.Change.{Change}
use Rattle.px_told.specs.declared.change.Change.TheVariants.{Put, Commit, Rollback}
use Rattle.px_told.specs.Writes.{writes_of}
use Rattle.px_history.specs.Base.{IsBase}
use Rattle.px_told.specs.Writes.{rows_over}
use Rattle.px_history.specs.Store.{IsOpen, Store, versions_from, versions_of}
use Rattle.px_history.specs.Steps.{AreSteps, History, IsStep, MayCommit, MayPut, MayUnlink, Step, after_commit, after_move, after_put, after_rollback, after_step, after_steps, after_unlink, has_one_of, layout_linked}
use Rattle.px_history.specs.Told.{Agrees, told, told_by}
use Rattle.px_told.specs.Commits.{HasCommitOf}
use Rattle.px_told.specs.Changes.{IsUntold}
use Rattle.px_told.proofs.Rows.{no_changes, rows_committed, rows_more}
use Rattle.px_told.proofs.Commits.{no_commit_more, one_commit_more, still_commits, untold_ends}
use Rattle.px_told.proofs.Changes.{others_write, own_write, untold_before, untold_last, untold_writes, writes_of-append, writes_same}
use Rattle.px_shown.specs.Parts.{Parts}

-- ---- of whom nothing is told

abbrev pub IsNotOf : ℕ → Slot → Type 0
IsNotOf xn slot = (slot.xn == xn) ≡ false

pub none_among : (xn : ℕ) (slots : List Slot) → HasNoneOf xn slots → has_one_of xn slots ≡ false
none_among xn slots none = list_any_none (λ (slot : Slot). slot.xn == xn) slots none

pub untold_open : (parts : Parts) (short next : ℕ) (rows : List Row) (base : Store) (changes : List Change) (store : Store) (xn : ℕ) → Agrees parts short next rows base changes store
    → next ≤ xn → IsUntold xn changes → IsOpen store xn
untold_open parts short next rows base changes store xn a later untold = record {
  undone = false_from_ne_true (store.done xn) (λ is. untold_ends xn changes untold ((a.done xn).0 (later, is)));
  not_over = a.fresh xn later untold;
}

pub untold_none : (parts : Parts) (short next : ℕ) (rows : List Row) (base : Store) (changes : List Change) (store : Store) (xn t row : ℕ) → Agrees parts short next rows base changes store
    → next ≤ xn → IsUntold xn changes → IsUsedRow (store.tables t) row → HasNoneOf xn (versions_of store t row)
untold_none parts short next rows base changes store xn t row a later untold used =
    let wrote = subst (λ (writes : List Write). AreWritesOf parts xn store.tables store.layouts writes) (untold_writes xn changes untold)
    (a.wrote xn (untold_open parts short next rows base changes store xn a later untold)) in
    not_written parts xn store.tables store.layouts [] t row wrote used refl

-- ---- a base

pub open_later : (parts : Parts) (short next : ℕ) (rows : List Row) (base : Store) (xn : ℕ) → IsBase parts short next rows base → IsOpen base xn → next ≤ xn
open_later parts short next rows base xn b its = ⊎_elim
    (λ (less : xn < next). absurd (false≢true (sym its.not_over ∙ b.ended xn less ∙ ap not its.undone)))
    (λ (more : next ≤ xn). more)
    (cases_lt xn next)

pub none_later : (parts : Parts) (short next : ℕ) (rows : List Row) (base : Store) (xn t row : ℕ) → IsBase parts short next rows base → next ≤ xn → IsUsedRow (base.tables t) row
    → HasNoneOf xn (versions_of base t row)
none_later parts short next rows base xn t row b later used =
    let slots = versions_of base t row in
    all_from (IsNotOf xn) slots (λ slot there.
    let less = All-contains (λ (s : Slot). s.xn < next) slots slot (b.numbers t row used) there in
    ne_eqb slot.xn xn (λ same. omega (arith, less, later, same)))

pub base_agrees : (parts : Parts) (short next : ℕ) (rows : List Row) (base : Store) → IsBase parts short next rows base → Agrees parts short next rows base [] base
base_agrees parts short next rows base b = record {
  sound = b.sound;
  shows = subst (λ (l : List Row). Shows parts base.tables base.layouts base.done l) (sym (no_changes rows)) b.shows;
  done = λ xn. (λ is. absurd (false≢true (sym (b.later xn is.0).undone ∙ is.1)), λ has. absurd (contains_none (Commit xn has.0) has.1));
  earlier = λ xn less. refl;
  not_over = λ xn is. ⊎_elim
      (λ (less : xn < next). b.ended xn less ∙ ap not is)
      (λ (more : next ≤ xn). (b.later xn more).not_over)
      (cases_lt xn next);
  later = λ xn its. open_later parts short next rows base xn b its;
  fresh = λ xn later untold. (b.later xn later).not_over;
  wrote = λ xn its. nothing_written parts xn base.tables base.layouts (λ t row used. none_later parts short next rows base xn t row b (open_later parts short next rows base xn b its) used);
}

-- who may still commit after a step might before it
pub open_before : (store : Store) (step : Step) (xn : ℕ) → IsOpen (after_step store step) xn → IsOpen store xn
open_before store (Step.put t header slot) xn its = record { undone = its.undone; not_over = its.not_over }
open_before store (Step.commit by number) xn its = record { undone = (or_parts (xn == by) (store.done xn) its.undone).1; not_over = its.not_over }
open_before store (Step.rollback by) xn its = record { undone = its.undone; not_over = (or_parts (xn == by) (store.over xn) its.not_over).1 }
open_before store (Step.unlink t row from count) xn its =
    let gone = versions_from store t row from count in
    record { undone = its.undone; not_over = (or_parts (store.over xn) (not (store.done xn) && has_one_of xn gone) its.not_over).0 }
open_before store (Step.move t number log place) xn its = record { undone = its.undone; not_over = its.not_over }

-- ---- a link

head_some : (table : Table) (row : ℕ) (chain : List ℕ) → IsChain table row chain → 1 ≤ head_of table row
head_some table row [] c = absurd (c.some refl)
head_some table row (met ∷ others) c = subst (λ (n : ℕ). 1 ≤ n) (sym c.walk.0) (All-head (IsVariation table row) met others c.variations).place.0

abbrev linked_if : (table : Table) → Layout → Slot → Bool → Layout
linked_if table layout slot begins = linked (cond begins (row_taken (slot_taken layout)) (slot_taken layout)) (taken_slot table) slot.row

pub link_of : (short : ℕ) (table : Table) (layout : Layout) (header : Header) (slot : Slot) → IsSound short table layout
    → BeginsRow table header slot ⊎ VariesRow table header slot → IsLink table layout header slot (layout_linked table layout slot)
link_of short table layout header slot sound link = ⊎_elim
    (λ (begins : BeginsRow table header slot). inl (begins, ap (linked_if table layout slot) (eq-eqb slot.next 0 begins.next)))
    (λ (varies : VariesRow table header slot). inr (
      varies,
      ap (linked_if table layout slot) (ne_eqb slot.next 0 (λ none.
          let some = head_some table slot.row (layout.chain slot.row) (sound.chains slot.row varies.its_row) in
          omega (arith, some, varies.next, none))),
    ))
    link

put_agrees : (parts : Parts) (short next : ℕ) (rows : List Row) (base : Store) (changes : List Change) (store : Store) (t : ℕ) (header : Header) (slot : Slot) → Agrees parts short next rows base changes store → MayPut short store t header slot
    → Agrees parts short next rows base (changes ++ Put slot.xn (write_of parts t slot) ∷ []) (after_put store t header slot)
put_agrees parts short next rows base changes store t header slot a may =
    let layout = layout_linked (store.tables t) (store.layouts t) slot in
    let new = after_put store t header slot in
    let write = write_of parts t slot in
    let more = Put slot.xn write ∷ [] in
    let link : IsLink (store.tables t) (store.layouts t) header slot layout = link_of short (store.tables t) (store.layouts t) header slot (a.sound t) may.link in
    let was : (xn : ℕ) → IsOpen new xn → AreWritesOf parts xn store.tables store.layouts (writes_of xn changes) = λ xn its.
    a.wrote xn (open_before store (Step.put t header slot) xn its) in
    record {
      sound = link_stays_sound short store.tables store.layouts t header slot layout a.sound may.stored link;
      shows = subst (λ (l : List Row). Shows parts new.tables new.layouts store.done l) (sym (rows_more rows changes more))
          (link_hidden parts short store.tables store.layouts store.done (rows_over rows changes) t header slot layout a.sound may.stored link may.writer.undone a.shows);
      done = λ xn. (
        λ is. still_commits xn changes more ((a.done xn).0 is),
        λ has. (a.done xn).1 (no_commit_more xn changes (Put slot.xn write) (λ number same. cc) has),
      );
      earlier = a.earlier;
      not_over = a.not_over;
      later = λ xn its. a.later xn (open_before store (Step.put t header slot) xn its);
      fresh = λ xn later untold. a.fresh xn later (untold_before xn changes more untold);
      wrote = λ xn its. ⊎_elim
          (λ (own : slot.xn ≡ xn). subst (λ (n : ℕ). AreWritesOf parts n new.tables new.layouts (writes_of n (changes ++ more))) own
          (subst (λ (writes : List Write). AreWritesOf parts slot.xn new.tables new.layouts writes)
          (sym (writes_of-append slot.xn changes more ∙ ap (λ (l : List Write). writes_of slot.xn changes ++ l) (own_write slot.xn write)))
          (link_written parts short store.tables store.layouts (writes_of slot.xn changes) t header slot layout a.sound may.stored link (a.wrote slot.xn may.writer))))
          (λ (other : slot.xn ≢ xn). subst (λ (writes : List Write). AreWritesOf parts xn new.tables new.layouts writes)
          (sym (writes_same xn changes more (others_write xn slot.xn write other)))
          (link_of_another parts short store.tables store.layouts xn (writes_of xn changes) t header slot layout a.sound may.stored link other (was xn its)))
          (cases_eq slot.xn xn);
    }

-- the layout after a link is the one that the step leaves
pub one_layout : (short : ℕ) (table : Table) (layout after : Layout) (header : Header) (slot : Slot) → IsSound short table layout
    → IsLink table layout header slot after → after ≡ layout_linked table layout slot
one_layout short table layout after header slot sound link = ⊎_elim
    (λ (begins : BeginsRow table header slot × (after ≡ linked (row_taken (slot_taken layout)) (taken_slot table) slot.row)).
    begins.1 ∙ ap (linked_if table layout slot) (sym (eq-eqb slot.next 0 begins.0.next)))
    (λ (varies : VariesRow table header slot × (after ≡ linked (slot_taken layout) (taken_slot table) slot.row)).
    varies.1 ∙ ap (linked_if table layout slot) (sym (ne_eqb slot.next 0 (λ none.
    let some = head_some table slot.row (layout.chain slot.row) (sound.chains slot.row varies.0.its_row) in
    let next = varies.0.next in
    omega (arith, some, next, none)))))
    link

-- ---- an end

commit_agrees : (parts : Parts) (short next : ℕ) (rows : List Row) (base : Store) (changes : List Change) (store : Store) (xn number : ℕ) → Agrees parts short next rows base changes store → MayCommit store xn
    → Agrees parts short next rows base (changes ++ Commit xn number ∷ []) (after_commit store xn)
commit_agrees parts short next rows base changes store xn number a may =
    let more = Commit xn number ∷ [] in
    record {
      sound = a.sound;
      shows = subst (λ (l : List Row). Shows parts store.tables store.layouts (done_with xn store.done) l) (sym (rows_committed rows changes xn number))
          (commit_shows parts store.tables store.layouts store.done xn (rows_over rows changes) (writes_of xn changes) may.in_front (a.wrote xn may.writer) a.shows);
      done = λ n. (
        λ is. ⊎_elim
            (λ (its : n ≡ xn). subst (λ (m : ℕ). HasCommitOf m (changes ++ more)) (sym its) (number, Contains-push changes (Commit xn number)))
            (λ (other : n ≢ xn). still_commits n changes more ((a.done n).0 (is.0, ap (λ (b : Bool). b || store.done n) (sym (ne_eqb n xn other)) ∙ is.1)))
            (cases_eq n xn),
        λ has. ⊎_elim
            (λ (its : n ≡ xn). (subst (λ (m : ℕ). next ≤ m) (sym its) (a.later xn may.writer), or_left (n == xn) (store.done n) (eq-eqb n xn its)))
            (λ (other : n ≢ xn). let old = (a.done n).1 (one_commit_more n xn number changes (λ e. other (sym e)) has) in (old.0, or_right (n == xn) (store.done n) old.1))
            (cases_eq n xn),
      );
      earlier = λ n less.
          let from = a.later xn may.writer in
          ap (λ (b : Bool). b || store.done n) (ne_eqb n xn (λ its. omega (arith, less, from, its))) ∙ a.earlier n less;
      not_over = λ n is. ⊎_elim
          (λ (its : n ≡ xn). ap store.over its ∙ may.writer.not_over)
          (λ (other : n ≢ xn). a.not_over n (ap (λ (b : Bool). b || store.done n) (sym (ne_eqb n xn other)) ∙ is))
          (cases_eq n xn);
      later = λ n its. a.later n (open_before store (Step.commit xn number) n its);
      fresh = λ n later untold. a.fresh n later (untold_before n changes more untold);
      wrote = λ n its. subst (λ (writes : List Write). AreWritesOf parts n store.tables store.layouts writes) (sym (writes_same n changes more refl))
          (a.wrote n (open_before store (Step.commit xn number) n its));
    }

rollback_agrees : (parts : Parts) (short next : ℕ) (rows : List Row) (base : Store) (changes : List Change) (store : Store) (xn : ℕ) → Agrees parts short next rows base changes store → store.done xn ≡ false
    → Agrees parts short next rows base (changes ++ Rollback xn ∷ []) (after_rollback store xn)
rollback_agrees parts short next rows base changes store xn a undone =
    let more = Rollback xn ∷ [] in
    record {
      sound = a.sound;
      shows = subst (λ (l : List Row). Shows parts store.tables store.layouts store.done l) (sym (rows_more rows changes more)) a.shows;
      done = λ n. (
        λ is. still_commits n changes more ((a.done n).0 is),
        λ has. (a.done n).1 (no_commit_more n changes (Rollback xn) (λ number same. cc) has),
      );
      earlier = a.earlier;
      not_over = λ n is. or_from (n == xn) (store.over n) (ne_eqb n xn (λ its. false≢true (sym undone ∙ ap store.done (sym its) ∙ is))) (a.not_over n is);
      later = λ n its. a.later n (open_before store (Step.rollback xn) n its);
      fresh = λ n later untold. or_from (n == xn) (store.over n) (ne_eqb n xn (λ its. untold_last n changes (Rollback xn) untold (sym its))) (a.fresh n later (untold_before n changes more untold));
      wrote = λ n its. subst (λ (writes : List Write). AreWritesOf parts n store.tables store.layouts writes) (sym (writes_same n changes more refl))
          (a.wrote n (open_before store (Step.rollback xn) n its));
    }

-- ---- an unlink

pub none_of : (xn : ℕ) (slots : List Slot) → has_one_of xn slots ≡ false → HasNoneOf xn slots
none_of xn [] none = All-nil (λ (s : Slot). (s.xn == xn) ≡ false)
none_of xn (slot ∷ slots) none =
    let parts = or_parts (slot.xn == xn) (has_one_of xn slots) none in
    All-cons (λ (s : Slot). (s.xn == xn) ≡ false) slot slots parts.0 (none_of xn slots parts.1)

unlink_agrees : (parts : Parts) (short next : ℕ) (rows : List Row) (base : Store) (changes : List Change) (store : Store) (t row from count : ℕ) → Agrees parts short next rows base changes store → MayUnlink store t row from count
    → Agrees parts short next rows base changes (after_unlink store t row from count)
unlink_agrees parts short next rows base changes store t row from count a may =
    let gone = versions_from store t row from count in
    record {
      sound = unlink_stays_sound short store.tables store.layouts t row from count a.sound may.used may.some may.within;
      shows = unlink_shows parts short store.tables store.layouts store.done (rows_over rows changes) t row from count a.sound may.used may.some may.within may.same a.shows;
      done = a.done;
      earlier = a.earlier;
      not_over = λ xn is. or_from (store.over xn) (not (store.done xn) && has_one_of xn gone) (a.not_over xn is) (and_left (not (store.done xn)) (has_one_of xn gone) (ap not is));
      later = λ xn its. a.later xn (open_before store (Step.unlink t row from count) xn its);
      fresh = λ xn later untold. or_from (store.over xn) (not (store.done xn) && has_one_of xn gone) (a.fresh xn later untold)
          (and_right (not (store.done xn)) (has_one_of xn gone) (none_among xn gone (All-take (IsNotOf xn) count (drop from (versions_of store t row))
          (All-drop (IsNotOf xn) from (versions_of store t row) (untold_none parts short next rows base changes store xn t row a later untold may.used)))));
      wrote = λ xn its.
          let ends = or_parts (store.over xn) (not (store.done xn) && has_one_of xn gone) its.not_over in
          let none : has_one_of xn gone ≡ false = ap (λ (b : Bool). not b && has_one_of xn gone) (sym its.undone) ∙ ends.1 in
          unlink_written parts short store.tables store.layouts xn (writes_of xn changes) t row from count a.sound may.used may.some may.within (none_of xn gone none)
          (a.wrote xn (open_before store (Step.unlink t row from count) xn its));
    }

-- ---- a move

move_agrees : (parts : Parts) (short next : ℕ) (rows : List Row) (base : Store) (changes : List Change) (store : Store) (t number log place : ℕ) → Agrees parts short next rows base changes store
    → MayMove parts short store.tables store.layouts t number log place → Agrees parts short next rows base changes (after_move store t number log place)
move_agrees parts short next rows base changes store t number log place a may = record {
  sound = move_sound parts short store.tables store.layouts t number log place may a.sound;
  shows = move_shows parts short store.tables store.layouts store.done (rows_over rows changes) t number log place may a.shows;
  done = a.done;
  earlier = a.earlier;
  not_over = a.not_over;
  later = λ xn its. a.later xn (open_before store (Step.move t number log place) xn its);
  fresh = a.fresh;
  wrote = λ xn its. move_written parts short store.tables store.layouts xn (writes_of xn changes) t number log place may
      (a.wrote xn (open_before store (Step.move t number log place) xn its));
}

-- ---- steps

pub step_agrees : (parts : Parts) (short next : ℕ) (rows : List Row) (base : Store) (changes : List Change) (store : Store) (step : Step) → Agrees parts short next rows base changes store → IsStep parts short store step
    → Agrees parts short next rows base (changes ++ told parts step) (after_step store step)
step_agrees parts short next rows base changes store (Step.put t header slot) a may = put_agrees parts short next rows base changes store t header slot a may
step_agrees parts short next rows base changes store (Step.commit xn number) a may = commit_agrees parts short next rows base changes store xn number a may
step_agrees parts short next rows base changes store (Step.rollback xn) a may = rollback_agrees parts short next rows base changes store xn a may
step_agrees parts short next rows base changes store (Step.unlink t row from count) a may =
    subst (λ (l : List Change). Agrees parts short next rows base l (after_unlink store t row from count)) (sym (append-nil changes)) (unlink_agrees parts short next rows base changes store t row from count a may)
step_agrees parts short next rows base changes store (Step.move t number log place) a may =
    subst (λ (l : List Change). Agrees parts short next rows base l (after_move store t number log place)) (sym (append-nil changes)) (move_agrees parts short next rows base changes store t number log place a may)

steps_agree : (parts : Parts) (short next : ℕ) (rows : List Row) (base : Store) (changes : List Change) (store : Store) (steps : List Step) → Agrees parts short next rows base changes store
    → AreSteps parts short store steps → Agrees parts short next rows base (changes ++ told_by parts steps) (after_steps store steps)
steps_agree parts short next rows base changes store [] a follow = subst (λ (l : List Change). Agrees parts short next rows base l store) (sym (append-nil changes)) a
steps_agree parts short next rows base changes store (step ∷ steps) a follow =
    subst (λ (l : List Change). Agrees parts short next rows base l (after_steps (after_step store step) steps)) (append_assoc changes (told parts step) (told_by parts steps))
    (steps_agree parts short next rows base (changes ++ told parts step) (after_step store step) steps (step_agrees parts short next rows base changes store step a follow.0) follow.1)

pub history_agrees : (parts : Parts) (short next : ℕ) (rows : List Row) (base store : Store) (steps : List Step) → IsBase parts short next rows base → History parts short base steps store
    → Agrees parts short next rows base (told_by parts steps) store
history_agrees parts short next rows base store steps b h =
    subst (λ (s : Store). Agrees parts short next rows base (told_by parts steps) s) (sym h.lead) (steps_agree parts short next rows base [] base steps (base_agrees parts short next rows base b) h.follow)
