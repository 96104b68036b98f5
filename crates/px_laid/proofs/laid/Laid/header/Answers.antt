use Rattle.std.proofs.Common.{List, ℕ, Option, replicate, sym, ap, subst, ◌∙◌}
use Rattle.std.specs.Option.{option_copied, unwrap_or}
use Rattle.px_cells.specs.declared.limits.TheConstants.{HEADER_SIZE}
use Rattle.px_recs.specs.Text.{HeaderAt}
use Rattle.px_chain.specs.Sound.{no_places}
use Rattle.px_laid.proofs.Unused.{unused_header}
use Rattle.px_laid.proofs.laid.Laid.header.Goals as goal

pub returns-in-None-clause-some : goal.returns-in-None-clause-some
returns-in-None-clause-some c =
    subst (λ (at : Option (List ℕ)). HeaderAt (unwrap_or at (replicate HEADER_SIZE 0)) no_places) (sym (ap option_copied c.in-None.is) ∙ c.bytes.ensures) unused_header
