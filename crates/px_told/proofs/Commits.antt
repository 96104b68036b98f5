-- Commits that are numbered on, and a list of which only a front is left.
use Rattle.std.proofs.Common.{◌≡◌, ◌≢◌, ℕ, ◌+◌, ◌≤◌, List, [], ◌∷◌, ◌++◌, drop, length, take, refl, sym, ap, subst, ◌∙◌, arith, ⊎_elim}
use Rattle.std.specs.Prelude.{Contains}
use Rattle.std.proofs.lemmas.List.{append-nil, take-append-drop, take-take}
use Rattle.std.proofs.lemmas.List.Elements.{All-contains, Contains-append_left, Contains-push_cases}
use Rattle.px_model.specs.declared.write.Write.{Write}
use Rattle.px_model.specs.Rows.{after}
use Rattle.px_told.specs.declared.change.Change.{Change}
use Rattle.px_told.specs.declared.change.Change.TheVariants.{Put, Commit, Rollback}
use Rattle.px_told.specs.Changes.{IsUntold}
use Rattle.px_told.specs.Commits.{CountsFrom, HasAll, HasCommitOf, commits_in, last_commit}
use Rattle.px_told.specs.Writes.{committed_after, rows_in}
use Rattle.px_told.proofs.Changes.{IsOther}
use Rattle.px_told.proofs.Rows.{committed-append}

pub last_commit-append : (last : ℕ) (changes more : List Change) → last_commit last (changes ++ more) ≡ last_commit (last_commit last changes) more
last_commit-append last [] more = refl
last_commit-append last (Put xn write ∷ changes) more = last_commit-append last changes more
last_commit-append last (Commit xn commit ∷ changes) more = last_commit-append commit changes more
last_commit-append last (Rollback xn ∷ changes) more = last_commit-append last changes more

-- ---- of one transaction

pub still_commits : (xn : ℕ) (changes more : List Change) → HasCommitOf xn changes → HasCommitOf xn (changes ++ more)
still_commits xn changes more has = (has.0, Contains-append_left changes more (Commit xn has.0) has.1)

pub no_commit_more : (xn : ℕ) (changes : List Change) (change : Change) → ((number : ℕ) → change ≢ Commit xn number) → HasCommitOf xn (changes ++ change ∷ []) → HasCommitOf xn changes
no_commit_more xn changes change other has = (
  has.0,
  ⊎_elim
      (λ (old : Contains changes (Commit xn has.0)). old)
      (λ (new : change ≡ Commit xn has.0). absurd (other has.0 new))
      (Contains-push_cases changes change (Commit xn has.0) has.1),
)

pub one_commit_more : (xn by number : ℕ) (changes : List Change) → by ≢ xn → HasCommitOf xn (changes ++ Commit by number ∷ []) → HasCommitOf xn changes
one_commit_more xn by number changes other has = no_commit_more xn changes (Commit by number) (λ n same. let its : by ≡ xn = cc in other its) has

pub untold_ends : (xn : ℕ) (changes : List Change) → IsUntold xn changes → HasCommitOf xn changes → ⊥
untold_ends xn changes untold has = All-contains (IsOther xn) changes (Commit xn has.0) untold has.1 refl

-- ---- numbered on

pub counts_on : (last : ℕ) (changes more : List Change) → CountsFrom last changes → CountsFrom (last_commit last changes) more → CountsFrom last (changes ++ more)
counts_on last [] more counted on = on
counts_on last (Put xn write ∷ changes) more counted on = counts_on last changes more counted on
counts_on last (Commit xn commit ∷ changes) more counted on = (counted.0, counts_on commit changes more counted.1 on)
counts_on last (Rollback xn ∷ changes) more counted on = counts_on last changes more counted on

pub counts_before : (last : ℕ) (changes more : List Change) → CountsFrom last (changes ++ more) → CountsFrom last changes
counts_before last [] more counted = tt
counts_before last (Put xn write ∷ changes) more counted = counts_before last changes more counted
counts_before last (Commit xn commit ∷ changes) more counted = (counted.0, counts_before commit changes more counted.1)
counts_before last (Rollback xn ∷ changes) more counted = counts_before last changes more counted

pub few_commits : (last : ℕ) (changes : List Change) → CountsFrom last changes → last_commit last changes ≤ last + length changes
few_commits last [] counted = omega arith
few_commits last (Put xn write ∷ changes) counted = let few = few_commits last changes counted in omega (arith, few)
few_commits last (Commit xn commit ∷ changes) counted =
    let few = few_commits commit changes counted.1 in
    let next = counted.0 in
    omega (arith, few, next)
few_commits last (Rollback xn ∷ changes) counted = let few = few_commits last changes counted in omega (arith, few)

-- ---- a front

counts_least : (last : ℕ) (changes : List Change) → CountsFrom last changes → last ≤ last_commit last changes
counts_least last [] counted = omega arith
counts_least last (Put xn write ∷ changes) counted = counts_least last changes counted
counts_least last (Commit xn commit ∷ changes) counted = omega (arith, counted.0, counts_least commit changes counted.1)
counts_least last (Rollback xn ∷ changes) counted = counts_least last changes counted

counts_behind : (last : ℕ) (changes more : List Change) → CountsFrom last (changes ++ more) → CountsFrom (last_commit last changes) more
counts_behind last [] more counted = counted
counts_behind last (Put xn write ∷ changes) more counted = counts_behind last changes more counted
counts_behind last (Commit xn commit ∷ changes) more counted = counts_behind commit changes more counted.1
counts_behind last (Rollback xn ∷ changes) more counted = counts_behind last changes more counted

-- changes that count no commit have none
none_commits : (last : ℕ) (before changes : List Change) → CountsFrom last changes → last_commit last changes ≡ last → committed_after before changes ≡ []
none_commits last before [] counted same = refl
none_commits last before (Put xn write ∷ changes) counted same = none_commits last (before ++ Put xn write ∷ []) changes counted same
none_commits last before (Commit xn commit ∷ changes) counted same = absurd (omega (arith, counted.0, counts_least commit changes counted.1, same))
none_commits last before (Rollback xn ∷ changes) counted same = none_commits last (before ++ Rollback xn ∷ []) changes counted same

rows_of_front : (front more : List Change) → CountsFrom 0 (front ++ more) → last_commit 0 (front ++ more) ≡ last_commit 0 front → rows_in front ≡ rows_in (front ++ more)
unfolding rows_in
rows_of_front front more counted same =
    let none : committed_after front more ≡ [] = none_commits (last_commit 0 front) front more (counts_behind 0 front more counted) (sym (last_commit-append 0 front more) ∙ same) in
    ap (after []) (sym (append-nil (committed_after [] front)) ∙ ap (λ (writes : List Write). committed_after [] front ++ writes) (sym none) ∙ sym (committed-append [] front more))

front_counts_less : (front more : List Change) → CountsFrom 0 (front ++ more) → last_commit 0 front ≤ last_commit 0 (front ++ more)
front_counts_less front more counted = omega (arith, counts_least (last_commit 0 front) more (counts_behind 0 front more counted), last_commit-append 0 front more)

pub kept_has_all : (durable kept : ℕ) (changes : List Change) → CountsFrom 0 changes → commits_in (take durable changes) ≡ commits_in changes → durable ≤ kept → HasAll kept changes
unfolding commits_in
kept_has_all durable kept changes counted all within =
    let whole : take kept changes ++ drop kept changes ≡ changes = take-append-drop kept changes in
    let counts : CountsFrom 0 (take kept changes ++ drop kept changes) = subst (CountsFrom 0) (sym whole) counted in
    let front : CountsFrom 0 (take kept changes) = counts_before 0 (take kept changes) (drop kept changes) counts in
    let inner : take durable (take kept changes) ++ drop durable (take kept changes) ≡ take kept changes = take-append-drop durable (take kept changes) in
    let least : last_commit 0 (take durable changes) ≤ last_commit 0 (take kept changes) =
    omega (arith, front_counts_less (take durable (take kept changes)) (drop durable (take kept changes)) (subst (CountsFrom 0) (sym inner) front), ap (last_commit 0) inner, ap (last_commit 0) (take-take durable kept changes within)) in
    let most : last_commit 0 (take kept changes) ≤ last_commit 0 changes = omega (arith, front_counts_less (take kept changes) (drop kept changes) counts, ap (last_commit 0) whole) in
    let same : last_commit 0 (take kept changes) ≡ last_commit 0 changes = omega (arith, least, most, all) in
    record {
      counted = front;
      commits = same;
      rows = rows_of_front (take kept changes) (drop kept changes) counts (ap (last_commit 0) whole ∙ sym same) ∙ ap rows_in whole;
    }
