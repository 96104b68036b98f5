use Rattle.std.proofs.Common.{None, refl}
use Rattle.px_core.specs.declared.state.Kept.{Kept}
use Rattle.px_core.proofs.Beginning.{begins_works}
use Rattle.px_core.proofs.state.Core.new.Goals as goal

pub returns-clause-works : goal.returns-clause-works
returns-clause-works g c = λ m life restart marks may.
    let core : Kept g.row.W.Denot = record { alloc = c.args.alloc; site = c.args.site; held = c.args.held; active = c.args.active; log = c.args.log; error = None } in
    begins_works g.W.Site.state core m life restart marks refl may
