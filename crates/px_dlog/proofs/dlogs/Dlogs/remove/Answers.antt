use Rattle.std.proofs.Common.{subst}
use Rattle.px_dlog.specs.Inventory.{Kept, kept_of, logs_of}
use Rattle.px_dlog.specs.Logs.{IsWithout}
use Rattle.px_dlog.proofs.Removing.{removal_moments, removed_dlog}
use Rattle.px_dlog.proofs.dlogs.Dlogs.remove.Goals as goal

pub returns-in_err-remove-clause-moments : goal.returns-in_err-remove-clause-moments
returns-in_err-remove-clause-moments g c = λ t. removal_moments c.args.log _ _ (c.remove.ensures.moves t)

pub returns-clause-moments : goal.returns-clause-moments
returns-clause-moments g c = λ t. removal_moments c.args.log _ _ (c.remove.ensures.moves t)

pub returns-clause-removed : goal.returns-clause-removed
returns-clause-removed g c = λ t parts is.
    let now = logs_of (kept_of c.remove-2.new.self) in
    removed_dlog c.args.log (logs_of c.args.self.now) now parts _ _ (c.in_ok-remove.ensures.moves t)
    (subst (λ (k : Kept). IsWithout c.args.log (logs_of k) now) c.self.view_is c.remove-2.ensures.logs) is
