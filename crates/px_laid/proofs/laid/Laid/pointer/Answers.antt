use Rattle.std.proofs.Common.{List, ℕ, Option, replicate, sym, ap, subst, ◌∙◌}
use Rattle.std.specs.Option.{option_copied, unwrap_or}
use Rattle.px_cells.specs.declared.limits.TheConstants.{POINTER_SIZE}
use Rattle.px_recs.specs.Text.{PointerAt}
use Rattle.px_cells.specs.Unused.{free_pointer}
use Rattle.px_laid.proofs.Unused.{unused_pointer}
use Rattle.px_laid.proofs.laid.Laid.pointer.Goals as goal

pub returns-in-None-clause-some : goal.returns-in-None-clause-some
returns-in-None-clause-some c =
    subst (λ (at : Option (List ℕ)). PointerAt (unwrap_or at (replicate POINTER_SIZE 0)) free_pointer) (sym (ap option_copied c.in-None.is) ∙ c.bytes.ensures) unused_pointer
