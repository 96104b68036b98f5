-- A store that was just made is a life.
use Rattle.std.proofs.Common.{◌≡◌, ℕ, List, [], Some, None, is_some, true, false, refl, ap, subst, arith}
use Rattle.std.proofs.lemmas.Bool.{false≢true}
use Rattle.std.proofs.lemmas.List.Elements.{All-nil}
use Rattle.px_history.specs.Base.{IsBase, ended_before}
use Rattle.px_history.specs.Store.{nothing}
use Rattle.px_told.proofs.Rows.{no_changes}
use Rattle.px_history.proofs.Basing.{crashed_is_base, nothing_is_base}
use Rattle.px_history.proofs.Fronting.{no_steps}
use Rattle.px_shown.specs.Parts.{Parts}
use Rattle.px_model.specs.declared.row.Row.{Row}
use Rattle.px_opened.proofs.Kept.{none_held}
use Rattle.px_life.specs.Example.{new_life}
use Rattle.px_life.specs.Life.{IsLife}

nothing_there : {X : Type 0} {x : X} → None ≡ Some x → ⊥
nothing_there e = false≢true (ap is_some e)

nothing_laid : false ≡ true → ⊥
nothing_laid e = false≢true e

pub new_is_life : (parts : Parts) (short tables : ℕ) → IsLife parts short tables 1 [] new_life
new_is_life parts short tables = record {
  redo_from = omega arith;
  start_from = omega arith;
  count = refl;
  base = subst (λ (rows : List Row). IsBase parts short 1 rows (ended_before 1 nothing)) (no_changes [])
      (crashed_is_base parts short 0 1 [] nothing nothing [] (nothing_is_base parts short) (no_steps parts short nothing) (omega arith) (λ xn from. All-nil _));
  held = let none = none_held short tables in record { each = none.each; others = none.others };
  read = record { each = λ what table number bytes lies laid. elim (nothing_there lies) [ ]; headers = λ table laid. elim (nothing_laid laid) [ ] };
  follow = tt;
  alone = tt;
  written = tt;
  earlier = All-nil _;
  stand = tt;
  are = tt;
}
