-- Commits that are numbered on.
use Rattle.std.proofs.Common.{◌≡◌, ℕ, ◌+◌, ◌≤◌, List, [], ◌∷◌, ◌++◌, drop, length, take, sym, ap, subst, ◌∙◌, arith}
use Rattle.std.proofs.lemmas.Grind.{flat_map-append}
use Rattle.std.proofs.lemmas.List.{take-append-drop}
use Rattle.px_told.specs.declared.change.Change.{Change}
use Rattle.px_told.specs.Commits.{CountsFrom, last_commit}
use Rattle.px_told.proofs.Commits.{counts_before, counts_on, few_commits, last_commit-append}
use Rattle.px_history.specs.Steps.{Step}
use Rattle.px_history.specs.Told.{IsNumberedOn, last_after, told, told_by}
use Rattle.px_shown.specs.Parts.{Parts}

pub step_numbered : (parts : Parts) (last : ℕ) (changes : List Change) (step : Step) → CountsFrom last changes → IsNumberedOn last changes step → CountsFrom last (changes ++ told parts step)
step_numbered parts last changes (Step.put t header slot) counted on = counts_on last changes (told parts (Step.put t header slot)) counted tt
step_numbered parts last changes (Step.commit xn number) counted on = counts_on last changes (told parts (Step.commit xn number)) counted (on, tt)
step_numbered parts last changes (Step.rollback xn) counted on = counts_on last changes (told parts (Step.rollback xn)) counted tt
step_numbered parts last changes (Step.unlink t row from count) counted on = counts_on last changes [] counted tt
step_numbered parts last changes (Step.move t number log place) counted on = counts_on last changes [] counted tt

pub step_commits : (parts : Parts) (last : ℕ) (changes : List Change) (step : Step) → last_commit last (changes ++ told parts step) ≡ last_after (last_commit last changes) step
step_commits parts last changes (Step.put t header slot) = last_commit-append last changes (told parts (Step.put t header slot))
step_commits parts last changes (Step.commit xn number) = last_commit-append last changes (told parts (Step.commit xn number))
step_commits parts last changes (Step.rollback xn) = last_commit-append last changes (told parts (Step.rollback xn))
step_commits parts last changes (Step.unlink t row from count) = last_commit-append last changes []
step_commits parts last changes (Step.move t number log place) = last_commit-append last changes []

pub front_numbered : (parts : Parts) (last : ℕ) (steps : List Step) (count : ℕ) → CountsFrom last (told_by parts steps) → CountsFrom last (told_by parts (take count steps))
front_numbered parts last steps count counted =
    let whole : told_by parts steps ≡ told_by parts (take count steps) ++ told_by parts (drop count steps) =
    sym (ap (told_by parts) (take-append-drop count steps)) ∙ flat_map-append (told parts) (take count steps) (drop count steps) in
    counts_before last (told_by parts (take count steps)) (told_by parts (drop count steps)) (subst (CountsFrom last) whole counted)

few_told : (parts : Parts) (steps : List Step) → length (told_by parts steps) ≤ length steps
few_told parts [] = omega arith
few_told parts (Step.put t header slot ∷ steps) = let few = few_told parts steps in omega (arith, few)
few_told parts (Step.commit xn number ∷ steps) = let few = few_told parts steps in omega (arith, few)
few_told parts (Step.rollback xn ∷ steps) = let few = few_told parts steps in omega (arith, few)
few_told parts (Step.unlink t row from count ∷ steps) = let few = few_told parts steps in omega (arith, few)
few_told parts (Step.move t number log place ∷ steps) = let few = few_told parts steps in omega (arith, few)

pub commits_due : (parts : Parts) (last : ℕ) (steps : List Step) → CountsFrom last (told_by parts steps) → last_commit last (told_by parts steps) ≤ last + length steps
commits_due parts last steps counted = let few = few_commits last (told_by parts steps) counted in let all = few_told parts steps in omega (arith, few, all)
