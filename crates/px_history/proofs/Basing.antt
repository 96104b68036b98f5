-- Stores that are bases, and histories from them.
use Rattle.std.proofs.Common.{◌≡◌, ◌≢◌, ℕ, ◌<◌, ◌≤◌, nat_lt, not, Bool, true, false, ◌&&◌, List, [], ◌∷◌, refl, sym, ap, subst, ◌∙◌, arith, ⊎_elim}
use Rattle.std.specs.Prelude.{All}
use Rattle.std.proofs.lemmas.Bool.{cases_Bool, cases_lt, false_from_ne_true, lt-ltb, ltb-true, eqb-false}
use Rattle.std.proofs.lemmas.List.Elements.{All-cons, All-contains, All-head, All-nil, All-tail}
use Rattle.px_cells.specs.declared.slot.Slot.{Slot}
use Rattle.px_chain.specs.Sound.{IsUsedRow}
use Rattle.px_chain.proofs.Walks.{all_from}
use Rattle.px_model.specs.declared.row.Row.{Row}
use Rattle.px_shown.proofs.Changes.{no_cells_sound}
use Rattle.px_shown.proofs.Showing.{alike_shown, none_shown}
use Rattle.px_told.specs.declared.change.Change.{Change}
use Rattle.px_told.specs.Changes.{stored_number}
use Rattle.px_history.specs.Base.{IsBase, done_before, ended_before}
use Rattle.px_told.specs.Writes.{rows_over}
use Rattle.px_history.specs.Store.{IsOpen, IsTidied, Store, nothing, versions_of}
use Rattle.px_history.specs.Steps.{History, IsUnlink, Step}
use Rattle.px_history.specs.Told.{Agrees, told_by}
use Rattle.px_told.specs.Changes.{AreUntoldFrom, IsUntold}
use Rattle.px_told.proofs.Rows.{no_changes}
use Rattle.px_history.proofs.Agreeing.{IsNotOf, history_agrees, untold_none, untold_open}
use Rattle.px_shown.specs.Parts.{Parts}

pub nothing_is_base : (parts : Parts) (short : ℕ) → IsBase parts short 0 [] nothing
nothing_is_base parts short = record {
  sound = no_cells_sound short nothing.tables (λ t. refl);
  shows = none_shown parts nothing.tables nothing.layouts nothing.done (λ t. refl);
  numbers = λ t row used. absurd (omega (arith, used.0.0, used.0.1));
  ended = λ xn less. absurd (omega (arith, less));
  later = λ xn more. record { undone = refl; not_over = refl };
}

abbrev IsBelow : ℕ → Slot → Type 0
IsBelow next slot = slot.xn < next

not_below : (xn next : ℕ) → next ≤ xn → nat_lt xn next ≡ false
not_below xn next more = false_from_ne_true (nat_lt xn next) (λ is. let less = ltb-true xn next is in omega (arith, less, more))

-- ---- after a crash or an end

all_below : (parts : Parts) (short next last : ℕ) (rows : List Row) (base : Store) (changes : List Change) (store : Store) (t row : ℕ) → Agrees parts short next rows base changes store
    → next ≤ last → AreUntoldFrom last changes → IsUsedRow (store.tables t) row → All (IsBelow last) (versions_of store t row)
all_below parts short next last rows base changes store t row a from untold used =
    let slots = versions_of store t row in
    all_from (IsBelow last) slots (λ slot there. ⊎_elim
    (λ (less : slot.xn < last). less)
    (λ (more : last ≤ slot.xn).
    let none = untold_none parts short next rows base changes store slot.xn t row a (omega (arith, from, more)) (untold slot.xn more) used in
    absurd (eqb-false slot.xn slot.xn (All-contains (IsNotOf slot.xn) slots slot none there) refl))
    (cases_lt slot.xn last))

pub crashed_is_base : (parts : Parts) (short next last : ℕ) (rows : List Row) (base store : Store) (steps : List Step) → IsBase parts short next rows base → History parts short base steps store
    → next ≤ last → AreUntoldFrom last (told_by parts steps) → IsBase parts short last (rows_over rows (told_by parts steps)) (ended_before last store)
crashed_is_base parts short next last rows base store steps b h from untold =
    let a = history_agrees parts short next rows base store steps b h in
    record {
      sound = a.sound;
      shows = a.shows;
      numbers = λ t row used. all_below parts short next last rows base (told_by parts steps) store t row a from untold used;
      ended = λ xn less. ap (λ (lower : Bool). lower && not (store.done xn)) (lt-ltb xn last less);
      later = λ xn more. record {
        undone = (untold_open parts short next rows base (told_by parts steps) store xn a (omega (arith, from, more)) (untold xn more)).undone;
        not_over = ap (λ (lower : Bool). lower && not (store.done xn)) (not_below xn last more);
      };
    }

-- who isn't open is done or over, and not both
done_or_over : (store : Store) (xn : ℕ) → (store.done xn ≡ true → store.over xn ≡ false) → (IsOpen store xn → ⊥) → store.over xn ≡ not (store.done xn)
done_or_over store xn not_over shut = ⊎_elim
    (λ (is : store.done xn ≡ true). not_over is ∙ sym (ap not is))
    (λ (undone : store.done xn ≡ false). ⊎_elim
    (λ (over : store.over xn ≡ true). over ∙ sym (ap not undone))
    (λ (not_over : store.over xn ≡ false). absurd (shut (record { undone = undone; not_over = not_over })))
    (cases_Bool (store.over xn)))
    (cases_Bool (store.done xn))

pub closed_is_base : (parts : Parts) (short next last : ℕ) (rows : List Row) (base store : Store) (steps : List Step) → IsBase parts short next rows base → History parts short base steps store
    → next ≤ last → AreUntoldFrom last (told_by parts steps) → ((xn : ℕ) → IsOpen store xn → last ≤ xn) → IsBase parts short last (rows_over rows (told_by parts steps)) store
closed_is_base parts short next last rows base store steps b h from untold past =
    let a = history_agrees parts short next rows base store steps b h in
    record {
      sound = a.sound;
      shows = a.shows;
      numbers = λ t row used. all_below parts short next last rows base (told_by parts steps) store t row a from untold used;
      ended = λ xn less. done_or_over store xn (a.not_over xn) (λ its. let more = past xn its in omega (arith, less, more));
      later = λ xn more. untold_open parts short next rows base (told_by parts steps) store xn a (omega (arith, from, more)) (untold xn more);
    }

-- ---- what is tidied

pub tidied_is_base : (parts : Parts) (short next : ℕ) (rows : List Row) (base : Store) → IsBase parts short next rows base → IsTidied base → IsBase parts short next rows (done_before next base)
tidied_is_base parts short next rows base b tidy = record {
  sound = b.sound;
  shows = alike_shown parts base.tables base.layouts base.done (done_before next base).done rows (λ t row used.
      let one = tidy.each t row used in
      let below = All-head (IsBelow next) one.slot [] (subst (λ (l : List Slot). All (IsBelow next) l) one.alone (b.numbers t row used)) in
      let Alike : Slot → Type 0 = λ slot. base.done slot.xn ≡ nat_lt slot.xn next in
      subst (λ (l : List Slot). All Alike l) (sym one.alone)
      (All-cons Alike one.slot [] (one.its_done ∙ sym (lt-ltb one.slot.xn next below)) (All-nil Alike))) b.shows;
  numbers = b.numbers;
  ended = λ xn less. sym (ap not (lt-ltb xn next less));
  later = λ xn more. record { undone = not_below xn next more; not_over = refl };
}

-- ---- unlinks

pub unlinks_tell : (parts : Parts) (steps : List Step) → All IsUnlink steps → told_by parts steps ≡ []
unlinks_tell parts [] all = refl
unlinks_tell parts (Step.put t header slot ∷ steps) all = absurd (All-head IsUnlink (Step.put t header slot) steps all)
unlinks_tell parts (Step.commit xn number ∷ steps) all = absurd (All-head IsUnlink (Step.commit xn number) steps all)
unlinks_tell parts (Step.rollback xn ∷ steps) all = absurd (All-head IsUnlink (Step.rollback xn) steps all)
unlinks_tell parts (Step.unlink t row from count ∷ steps) all = unlinks_tell parts steps (All-tail IsUnlink (Step.unlink t row from count) steps all)
unlinks_tell parts (Step.move t number log place ∷ steps) all = absurd (All-head IsUnlink (Step.move t number log place) steps all)

none_told : (last : ℕ) (changes : List Change) → changes ≡ [] → AreUntoldFrom last changes
none_told last changes none xn more = subst (IsUntold xn) (sym none) (All-nil (λ (change : Change). stored_number change ≢ xn))

pub unlinked_is_base : (parts : Parts) (short next : ℕ) (rows : List Row) (base store : Store) (steps : List Step) → IsBase parts short next rows base → History parts short base steps store
    → All IsUnlink steps → IsBase parts short next rows store
unlinked_is_base parts short next rows base store steps b h all =
    let none = unlinks_tell parts steps all in
    subst (λ (l : List Row). IsBase parts short next l store) (ap (rows_over rows) none ∙ no_changes rows)
    (closed_is_base parts short next next rows base store steps b h (omega arith) (none_told next (told_by parts steps) none) (history_agrees parts short next rows base store steps b h).later)
