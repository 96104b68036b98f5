use Rattle.std.proofs.Common.{◌≡◌, ◌+◌, ◌^◌, ◌<◌, List, None, Some, length, sym, subst, ◌∙◌, arith}
use Rattle.px_site.specs.State.{State}
use Rattle.px_site.specs.declared.name.FileName.TheVariants.{Dlog}
use Rattle.px_site.proofs.Causes.{then_none_fell}
use Rattle.px_dlog.specs.declared.inventory.ClosedLog.{ClosedLog}
use Rattle.px_dlog.specs.Finding.{IsNextLog}
use Rattle.px_dlog.specs.Inventory.{Rise}
use Rattle.px_dlog.proofs.Listing.{IsFoundTo, all_found, found_next, rise_next}
use Rattle.px_dlog.proofs.Searching.{rise_to}
use Rattle.px_dlog.proofs.finding.find_logs.Goals as goal

pub loop-logs-preserved : goal.loop-logs-preserved
loop-logs-preserved g c =
    let l = c.loop-logs in
    let state = g.W.Site.state in
    let past = rw c.in-Some.is at c.in_ok-number.ensures.past in
    let log : ClosedLog = record { number = c.in-Some.number; len = c.in_ok-len.len } in
    record {
      small = past.1;
      rise = subst (Rise 1 (c.in-Some.number + 1)) (sym c.in_ok-add.ensures) (rise_next l.logs.items l.last log l.invariant.rise past.0);
      found = λ t.
          let same = l.invariant.same t in
          let next = rw c.in-Some.is at (c.in_ok-number.ensures.next t) in
          let here = subst (λ (s : State). IsNextLog s.content l.last (Some c.in-Some.number)) same next in
          let len = subst (λ (s : State). c.in_ok-len.len ≡ length (s.content (Dlog c.in-Some.number))) (c.next_number.ensures.same t ∙ same) (c.in_ok-len.ensures.value t) in
          subst (λ (logs : List ClosedLog). IsFoundTo (state c.args.site.now).content logs c.in-Some.number) (sym c.in_ok-add.ensures)
          (found_next (state c.args.site.now).content l.logs.items l.last log l.invariant.rise (l.invariant.found t) past.0 here len);
      same = λ t. c.len.ensures.same t ∙ c.next_number.ensures.same t ∙ l.invariant.same t;
      none_fell = then_none_fell l.invariant.none_fell (then_none_fell c.next_number.ensures.counted.none_fell c.len.ensures.counted.none_fell);
    }

pub returns-clause-found : goal.returns-clause-found
returns-clause-found g c t =
    let l = c.loop-logs in
    let next = rw c.in_default.is at (c.in_ok-number.ensures.next t) in
    let none = subst (λ (s : State). IsNextLog s.content l.last None) (l.invariant.same t) next in
    all_found (g.W.Site.state c.args.site.now).content l.logs.items l.last l.invariant.rise (l.invariant.found t) none

pub returns-clause-order : goal.returns-clause-order
returns-clause-order g c =
    let l = c.loop-logs in
    let small : l.last < 2 ^ 32 = l.invariant.small in
    rise_to 1 (l.last + 1) (2 ^ 32) l.logs.items (omega (arith, small)) l.invariant.rise
