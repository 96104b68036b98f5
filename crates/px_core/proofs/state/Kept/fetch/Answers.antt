use Rattle.std.proofs.Common.{◌≡◌, ℕ, subst}
use Rattle.px_calls.specs.declared.call.Call.TheVariants.{Fetch}
use Rattle.px_calls.specs.Steps.{reply_of}
use Rattle.px_core.proofs.Reading.{caller_is, fetch_reads}
use Rattle.px_core.proofs.state.Kept.fetch.Goals as goal

pub returns : goal.returns
returns g c =
    let tells = g.W.Site.tells in
    let old = c.args.self.now in
    fetch_reads tells g.W.Site.state g.W.Site.counts c.args.session old c.args.ticket c.in_ok-fetch.field-0
    (λ m works. subst (λ (s : ℕ). c.in_ok-fetch.field-0 ≡ reply_of m s (Fetch c.args.ticket)) c.caller-caller.ensures.session
    (c.in_ok-fetch.ensures m
    (caller_is tells g.W.Site.state g.W.Site.counts c.args.session old c.caller-caller.result c.caller-caller.ensures.session c.caller-caller.ensures.xacts
    c.caller-caller.ensures.on m works)
    works.active.kept))
