use Rattle.std.proofs.Common.{refl, sym, ap, subst, ◌∙◌}
use Rattle.px_active.specs.Active.{AreStored}
use Rattle.px_active.proofs.Sweeping.{begin_stored}
use Rattle.px_active.proofs.Calls.{begin_leaves}
use Rattle.px_xacts_laws.specs.Mirrors.{begun_reply}
use Rattle.px_xacts_laws.proofs.Mirroring.{begin_answers}
use Rattle.px_active.proofs.active.Active.begin.Goals as goal

pub returns-clause-reply : goal.returns-clause-reply
returns-clause-reply c = λ m is.
    c.begun_reply.ensures ∙ ap begun_reply c.in_ok-begun.ensures.answer ∙ begin_answers m c.args.self.now.xacts c.args.session is.mirrors

pub returns-clause-active : goal.returns-clause-active
returns-clause-active c = λ m kept is.
    begin_leaves m c.args.self.now (record c.args.self.now { xacts = c.begin.new.self }) c.args.session c.args.frames kept is c.in_ok-begun.ensures.state refl refl refl

pub returns-clause-stored : goal.returns-clause-stored
returns-clause-stored c = λ stored.
    subst AreStored (sym c.in_ok-begun.ensures.state) (begin_stored c.args.self.now.xacts c.args.session c.args.frames stored)
