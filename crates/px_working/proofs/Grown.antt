-- A life with a frame more.
use Rattle.std.proofs.Common.{◌≡◌, ℕ, ◌+◌, ◌-◌, ◌≤◌, List, [], ◌∷◌, ◌++◌, drop, take, sym, ap, ◌∙◌, arith, length-append}
use Rattle.std.proofs.lemmas.Grind.{fold-append}
use Rattle.std.proofs.lemmas.List.{drop-append-le, length-drop, take-append-le, take_all}
use Rattle.px_change.specs.declared.change.Change.{Change}
use Rattle.px_history.specs.Steps.{Step, after_step, after_steps}
use Rattle.px_history.specs.Store.{Store}
use Rattle.px_laid.specs.Places.{Places, laid_over}
use Rattle.px_life.proofs.Between.{one_more_between}
use Rattle.px_life.specs.Life.{IsLife, Life, between, end_of, grown, places_at, store_at}
use Rattle.px_model.specs.declared.row.Row.{Row}
use Rattle.px_opened.specs.Opened.{changes_over}
use Rattle.px_shown.specs.Parts.{Parts}
use Rattle.px_working.specs.Follows.{last_store}

pub end_more : (life : Life) (step : Step) (change : Change) → end_of (grown life step change) ≡ end_of life + 1
end_more life step change = omega (arith, length-append life.changes (change ∷ []))

pub same_changes : (life : Life) (step : Step) (change : Change) (from to : ℕ) → life.first ≤ from → from ≤ to → to ≤ end_of life
    → between (grown life step change) from to ≡ between life from to
same_changes life step change from to a b c =
    ap (take (to - from)) (drop-append-le (from - life.first) life.changes (change ∷ []) (omega (arith, a, b, c)))
    ∙ take-append-le (to - from) (drop (from - life.first) life.changes) (change ∷ []) (omega (arith, a, b, c, length-drop (from - life.first) life.changes))

-- all steps of a life lead to its last store
pub whole : (parts : Parts) (short tables next : ℕ) (rows : List Row) (life : Life) → IsLife parts short tables next rows life → last_store life ≡ after_steps life.base life.steps
whole parts short tables next rows life is = ap (after_steps life.base) (take_all (end_of life - life.start) life.steps (omega (arith, is.count)))

module _ (parts : Parts) (short tables next : ℕ) (rows : List Row) (life : Life) (step : Step) (change : Change) (is : IsLife parts short tables next rows life) where
  pub last_more : last_store (grown life step change) ≡ after_step (last_store life) step
  last_more =
      ap (after_steps life.base) (take_all (end_of (grown life step change) - life.start) (life.steps ++ step ∷ [])
      (omega (arith, is.count, end_more life step change, length-append life.steps (step ∷ []))))
      ∙ fold-append after_step life.base life.steps (step ∷ [])
      ∙ ap (λ (s : Store). after_step s step) (sym (whole parts short tables next rows life is))

  pub same_store : (frame : ℕ) → frame ≤ end_of life → store_at (grown life step change) frame ≡ store_at life frame
  same_store frame to = ap (after_steps life.base) (take-append-le (frame - life.start) life.steps (step ∷ []) (omega (arith, is.count, to)))

  pub same_places : (frame : ℕ) → life.start ≤ frame → frame ≤ end_of life → places_at (grown life step change) frame ≡ places_at life frame
  same_places frame from to = ap (changes_over life.below) (same_changes life step change life.start frame (omega (arith, is.redo_from, is.start_from)) from to)

  pub last_laid : places_at (grown life step change) (end_of (grown life step change)) ≡ laid_over (places_at life (end_of life)) change.cells
  last_laid =
      let from : life.first ≤ life.start = omega (arith, is.redo_from, is.start_from) in
      let to : life.start ≤ end_of life = omega (arith, is.count) in
      ap (λ (frame : ℕ). places_at (grown life step change) frame) (end_more life step change)
      ∙ ap (changes_over life.below) (one_more_between life step change life.start from to)
      ∙ fold-append (λ (places : Places) (c : Change). laid_over places c.cells) life.below (between life life.start (end_of life)) (change ∷ [])
