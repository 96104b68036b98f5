-- A life that goes on with steps.
use Rattle.std.proofs.Common.{◌≡◌, ℕ, zero, suc, ◌+◌, ◌-◌, ◌≤◌, List, [], ◌∷◌, ◌++◌, length, refl, sym, ap, ◌∙◌, arith, length-append}
use Rattle.std.proofs.lemmas.Grind.{fold-append}
use Rattle.std.proofs.lemmas.List.{take_all}
use Rattle.px_change.specs.declared.change.Change.{Change}
use Rattle.px_history.specs.Steps.{Step, after_step, after_steps}
use Rattle.px_history.specs.Store.{Store}
use Rattle.px_history.specs.Written.{change_of}
use Rattle.px_life.specs.Life.{Life, end_of, grown, store_at}
use Rattle.px_working.specs.Follows.{last_store, with_step}
use Rattle.px_beginning.specs.Tidied.{with_steps}

-- each frame from the start on is a step's
abbrev pub IsCounted : Life → Type 0
IsCounted life = life.start + length life.steps ≡ end_of life

pub grown_counted : (life : Life) (step : Step) (change : Change) → IsCounted life → IsCounted (grown life step change)
grown_counted life step change count = omega (arith, count, length-append life.steps (step ∷ []), length-append life.changes (change ∷ []))

last_of : (life : Life) → IsCounted life → last_store life ≡ after_steps life.base life.steps
last_of life count = ap (after_steps life.base) (take_all (end_of life - life.start) life.steps (omega (arith, count)))

pub last_grown : (life : Life) (step : Step) (change : Change) → IsCounted life → last_store (grown life step change) ≡ after_step (last_store life) step
last_grown life step change count =
    last_of (grown life step change) (grown_counted life step change count)
    ∙ fold-append after_step life.base life.steps (step ∷ [])
    ∙ ap (λ (s : Store). after_step s step) (sym (last_of life count))

pub last_steps : (short : ℕ) (life : Life) (steps : List Step) → IsCounted life → last_store (with_steps short life steps) ≡ after_steps (last_store life) steps
last_steps short life [] count = refl
last_steps short life (step ∷ steps) count =
    let change = change_of short (last_store life) step in
    last_steps short (with_step short life step) steps (grown_counted life step change count)
    ∙ ap (λ (s : Store). after_steps s steps) (last_grown life step change count)
