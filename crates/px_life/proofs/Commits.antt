-- Whose Commits are among changes, and the number of the last one.
use Rattle.std.proofs.Common.{◌≡◌, ℕ, zero, suc, ◌+◌, ◌<◌, ◌≤◌, ◌==◌, ◌||◌, Bool, cond, max, true, false, List, [], ◌∷◌, ◌++◌, drop, refl, sym, ap, ◌∙◌, arith, append_assoc, inl, inr}
use Rattle.std.specs.Prelude.{All}
use Rattle.std.specs.List.{list_any}
use Rattle.std.proofs.lemmas.Bool.{ne_eqb}
use Rattle.std.proofs.lemmas.List.Elements.{All-weaker}
use Rattle.std.proofs.lemmas.List.Folds.{list_any-append, list_any_none}
use Rattle.px_change.specs.declared.change.Change.{Change}
use Rattle.px_history.specs.Steps.{Step, after_step, after_steps}
use Rattle.px_history.specs.Store.{Store}
use Rattle.px_history.specs.Told.{IsNumberedOn, last_after}
use Rattle.px_history.specs.Written.{AreChangesOf, IsChangeOf, IsMarkOf, commit_of}
use Rattle.px_restart.specs.declared.restart.Restart.{Restart}
use Rattle.px_life.specs.Life.{Life, between, committed_by, committer, end_of, grown}
use Rattle.px_life.specs.Front.{commits_at, commits_by, last_number}
use Rattle.px_life.proofs.Between.{one_more_between}
use Rattle.px_life.proofs.Over.{or_none}

-- ---- whose they are

abbrev pub is_among : (number : ℕ) → List ℕ → Bool
is_among number list = list_any (λ added. number == added) list

pub among_both : (number : ℕ) (some more : List ℕ) → is_among number (some ++ more) ≡ (is_among number some || is_among number more)
among_both number some more = list_any-append (λ (added : ℕ). number == added) some more

pub committed_both : (changes more : List Change) → committed_by (changes ++ more) ≡ committed_by changes ++ committed_by more
committed_both [] more = refl
committed_both (change ∷ changes) more =
    ap (λ (l : List ℕ). committer change.kind change.xn ++ l) (committed_both changes more)
    ∙ sym (append_assoc (committer change.kind change.xn) (committed_by changes) (committed_by more))

-- none of a number from `next` on
pub none_from : (next number : ℕ) (list : List ℕ) → All (λ xn. xn < next) list → next ≤ number → is_among number list ≡ false
none_from next number list below from =
    list_any_none (λ (added : ℕ). number == added) list
    (All-weaker (λ (xn : ℕ). xn < next) (λ (xn : ℕ). (number == xn) ≡ false) (λ xn less. ne_eqb number xn (λ same. omega (arith, less, from, same))) list below)

-- nor behind some of the changes
pub none_behind : (number count : ℕ) (changes : List Change) → is_among number (committed_by changes) ≡ false → is_among number (committed_by (drop count changes)) ≡ false
none_behind number zero changes none = none
none_behind number (suc count) [] none = none
none_behind number (suc count) (change ∷ changes) none =
    none_behind number count changes
    (or_none (is_among number (committer change.kind change.xn)) (is_among number (committed_by changes))
    (sym (among_both number (committer change.kind change.xn) (committed_by changes)) ∙ none)).1

-- ---- of a step

abbrev pub ended_by : Step → List ℕ
ended_by (Step.put t header slot) = []
ended_by (Step.commit xn number) = xn ∷ []
ended_by (Step.rollback xn) = []
ended_by (Step.unlink t row from count) = []
ended_by (Step.move t number log place) = []

pub mark_ends : (step : Step) (short : ℕ) (store : Store) (change : Change) → IsMarkOf step short store change → committer change.kind change.xn ≡ ended_by step
mark_ends (Step.put t header slot) short store change mark = ap (λ (c : Change). committer c.kind c.xn) mark
mark_ends (Step.commit xn number) short store change mark = ap (λ (c : Change). committer c.kind c.xn) mark
mark_ends (Step.rollback xn) short store change mark = ap (λ (c : Change). committer c.kind c.xn) mark
mark_ends (Step.unlink t row from count) short store change mark = elim mark [
  | inl tidy ↦ ap (λ k. committer k change.xn) tidy
  | inr sweep ↦ ap (λ k. committer k change.xn) sweep
]
mark_ends (Step.move t number log place) short store change mark = ap (λ (c : Change). committer c.kind c.xn) mark

or_nothing : (a b : Bool) → (a || b) ≡ ((a || false) || b)
or_nothing true b = refl
or_nothing false b = refl

pub done_after : (store : Store) (step : Step) (number : ℕ) → (after_step store step).done number ≡ (is_among number (ended_by step) || store.done number)
done_after store (Step.put t header slot) number = refl
done_after store (Step.commit xn commit) number = or_nothing (number == xn) (store.done number)
done_after store (Step.rollback xn) number = refl
done_after store (Step.unlink t row from count) number = refl
done_after store (Step.move t at log place) number = refl

-- who isn't done in the end has no Commit on the way, nor was done before
pub undone_before : (short : ℕ) (store : Store) (steps : List Step) (changes : List Change) (number : ℕ) → AreChangesOf short store steps changes
    → (after_steps store steps).done number ≡ false → (store.done number ≡ false) × (is_among number (committed_by changes) ≡ false)
undone_before short store [] [] number are undone = (undone, refl)
undone_before short store [] (change ∷ changes) number are undone = elim are [ ]
undone_before short store (step ∷ steps) [] number are undone = elim are [ ]
undone_before short store (step ∷ steps) (change ∷ changes) number are undone =
    let later = undone_before short (after_step store step) steps changes number are.1 undone in
    let here = or_none (is_among number (ended_by step)) (store.done number) (sym (done_after store step number) ∙ later.0) in (
      here.1,
      among_both number (committer change.kind change.xn) (committed_by changes)
          ∙ ap (λ (b : Bool). is_among number (committer change.kind change.xn) || b) later.1
          ∙ ap (λ (l : List ℕ). is_among number l || false) (mark_ends step short store change are.0.mark)
          ∙ ap (λ (b : Bool). b || false) here.0,
    )

-- ---- the number of the last one

pub last_of_more : (last : ℕ) (changes : List Change) (change : Change)
    → last_number last (changes ++ change ∷ []) ≡ cond (change.commit == 0) (last_number last changes) change.commit
last_of_more last [] change = refl
last_of_more last (first ∷ changes) change = last_of_more (cond (first.commit == 0) last first.commit) changes change

next_is_most : (count last : ℕ) → max count (max count last + 1) ≡ max count last + 1
next_is_most count last = omega arith

commit_is : (n last : ℕ) → 1 ≤ n → cond (n == 0) last n ≡ n
commit_is n last some = ap (λ (b : Bool). cond b last n) (ne_eqb n 0 (λ none. omega (arith, some, none)))

-- a commit's number is the next one, and nothing else has any
pub commits_after : (restart : Restart) (changes : List Change) (change : Change) (step : Step) → change.commit ≡ commit_of step
    → IsNumberedOn (commits_by restart changes) [] step → commits_by restart (changes ++ change ∷ []) ≡ last_after (commits_by restart changes) step
commits_after restart changes change step is numbered =
    ap (max restart.commits) (last_of_more 0 changes change ∙ ap (λ (n : ℕ). cond (n == 0) (last_number 0 changes) n) is) ∙ by_step step numbered
  where
    by_step : (step : Step) → IsNumberedOn (commits_by restart changes) [] step
        → max restart.commits (cond (commit_of step == 0) (last_number 0 changes) (commit_of step)) ≡ last_after (commits_by restart changes) step
    by_step (Step.put t header slot) numbered = refl
    by_step (Step.commit xn number) numbered =
        let some : 1 ≤ number = omega (arith, numbered) in
        ap (max restart.commits) (commit_is number (last_number 0 changes) some ∙ numbered) ∙ next_is_most restart.commits (last_number 0 changes) ∙ sym numbered
    by_step (Step.rollback xn) numbered = refl
    by_step (Step.unlink t row from count) numbered = refl
    by_step (Step.move t number log place) numbered = refl

pub commits_go_on : (short : ℕ) (life : Life) (restart : Restart) (store : Store) (step : Step) (change : Change) → life.first ≤ restart.first → restart.first ≤ end_of life
    → IsChangeOf short store step change → IsNumberedOn (commits_at restart life (end_of life)) [] step
    → commits_at restart (grown life step change) (end_of life + 1) ≡ last_after (commits_at restart life (end_of life)) step
commits_go_on short life restart store step change from to is numbered =
    ap (commits_by restart) (one_more_between life step change restart.first from to)
    ∙ commits_after restart (between life restart.first (end_of life)) change step is.commit numbered
