use Rattle.std.proofs.Common.{refl}
use Rattle.px_site.proofs.Causes.{kind_counted}
use Rattle.px_site.proofs.tally.Tally.fault.Goals as goal

pub returns-clause-counted : goal.returns-clause-counted
returns-clause-counted g c = kind_counted _ _ _ c.raise.ensures.none_fell c.raise.ensures.faults c.raise.ensures.tell c.raise.ensures.short refl
