use Rattle.std.proofs.Common.{sym, subst}
use Rattle.px_active.specs.Active.{AreStored, IsActiveOf}
use Rattle.px_active.proofs.Sweeping.{sweep_leaves, sweep_stored}
use Rattle.px_calls.specs.Sweeps.{swept_state}
use Rattle.px_xacts.specs.Transactions.{Transactions}
use Rattle.px_active.proofs.active.Active.swept.Goals as goal

pub returns-clause-active : goal.returns-clause-active
returns-clause-active c = λ m is.
    subst (λ (all : Transactions). IsActiveOf (swept_state m) (record c.args.self.now { xacts = all })) (sym c.swept.ensures)
    (sweep_leaves m c.args.self.now is c.requires)

pub returns-clause-stored : goal.returns-clause-stored
returns-clause-stored c = λ stored. subst AreStored (sym c.swept.ensures) (sweep_stored c.args.self.now.xacts stored)
