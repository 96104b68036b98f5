use Rattle.std.proofs.Common.{refl}
use Rattle.px_calls.specs.declared.call.Call.TheVariants.{Find}
use Rattle.px_core.specs.declared.state.Kept.{Kept}
use Rattle.px_core.proofs.Reading.{rows_read}
use Rattle.px_core.proofs.state.Kept.find.Goals as goal

pub returns : goal.returns
returns g c =
    let old : Kept g.row.W.Denot = c.args.self.now in
    let new : Kept g.row.W.Denot = record old { site = c.find.new.site; held = c.find.new.held } in
    rows_read g.W.Site.tells g.W.Site.state g.W.Site.counts c.args.session (Find c.args.table c.args.tag) old new c.caller-caller.result
    c.caller-caller.ensures.session c.caller-caller.ensures.xacts c.find.result refl (λ fault is. is) c.caller-caller.ensures.on refl c.find.ensures.reply c.find.ensures.reads
