use Rattle.std.proofs.Common.{◌+◌, Option, sym, ap, subst, ◌∙◌}
use Rattle.std.specs.Prelude.{IfSome}
use Rattle.px_active.proofs.Sweeping.{due_stored}
use Rattle.px_history.specs.Fitting.{IsStoredNumber}
use Rattle.px_xacts.specs.declared.answers.Due.{Due}
use Rattle.px_xacts_laws.proofs.Marking.{due_mirrors}
use Rattle.px_xacts_laws.specs.Mirrors.{due_reply}
use Rattle.px_active.proofs.active.Active.due.Goals as goal

pub returns-clause-reply : goal.returns-clause-reply
returns-clause-reply c = λ m is. ap due_reply c.due.ensures ∙ due_mirrors m c.args.self.now.xacts is.mirrors

pub returns-clause-stored : goal.returns-clause-stored
returns-clause-stored c = λ stored.
    subst (λ (next : Option Due). IfSome next (λ (due : Due). IsStoredNumber (c.args.self.now.xacts.base + due.number))) (sym c.due.ensures)
    (due_stored c.args.self.now.xacts stored)
