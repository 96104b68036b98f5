use Rattle.std.proofs.Common.{refl}
use Rattle.px_working.specs.Follows.{last_store}
use Rattle.px_calls.specs.declared.call.Call.TheVariants.{Hold}
use Rattle.px_core.specs.declared.state.Kept.{Kept}
use Rattle.px_core.proofs.Reading.{caller_sees, hold_reads}
use Rattle.px_core.proofs.state.Kept.hold.Goals as goal

pub returns : goal.returns
returns g c =
    let tells = g.W.Site.tells in
    let state = g.W.Site.state in
    let counts = g.W.Site.counts in
    let old : Kept g.row.W.Denot = c.args.self.now in
    let new : Kept g.row.W.Denot = record old { site = c.hold.new.site; held = c.hold.new.held; active = record old.active { tickets = c.hold.new.tickets } } in
    let caller = c.caller-caller.result in
    let on = c.caller-caller.ensures in
    hold_reads tells state counts c.args.session c.args.table c.args.key.now old new caller on.session on.xacts c.hold.result on.on refl refl
    (λ t m works. c.hold.ensures.reply t on.on old.active.locks m (last_store works.life)
    (caller_sees tells state counts c.args.session (Hold c.args.table c.args.key.now) old new caller on.session on.xacts m works) works.active.kept)
    (λ t m works. c.hold.ensures.keeps t on.on old.active.locks m (last_store works.life)
    (caller_sees tells state counts c.args.session (Hold c.args.table c.args.key.now) old new caller on.session on.xacts m works) works.active.kept)
    c.hold.ensures.err c.hold.ensures.reads
