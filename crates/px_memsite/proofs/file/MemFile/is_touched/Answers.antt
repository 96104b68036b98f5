use Rattle.std.proofs.Common.{◌≡◌, ◌<◌, true, nat_le, length, get_or, sym, ap, ◌∙◌, arith}
use Rattle.px_site.specs.Disk.{touched}
use Rattle.px_memsite.specs.Files.{newest_first}
use Rattle.px_memsite.proofs.Pending.{touched_here, touched_past, either_true}
use Rattle.px_memsite.proofs.file.MemFile.is_touched.Goals as goal

pub returns-then-touches : goal.returns-then-touches
returns-then-touches c =
    let pending = c.args.self.now.pending.items in
    let items = c.deref-change-items.ensures.value in
    let i = c.loop-change.change-index in
    let lt : i < length pending = omega (arith, ap length items, c.loop-change-test.true) in
    let is = c.change-item.is ∙ ap (λ l. get_or l i c.change-item.result) items in
    let here = touched_here pending i c.change-item.result c.args.at lt is (sym c.if-touches.ensures) in
    let all : touched (newest_first pending) c.args.at ≡ true = sym c.loop-change.invariant ∙ here in
    either_true (nat_le (length c.args.self.now.synced.items) c.args.at) all

pub loop-change-preserved : goal.loop-change-preserved
loop-change-preserved c =
    let pending = c.args.self.now.pending.items in
    let items = c.deref-change-items.ensures.value in
    let i = c.loop-change.change-index in
    let lt : i < length pending = omega (arith, ap length items, c.loop-change-test.true) in
    let is = c.change-item.is ∙ ap (λ l. get_or l i c.change-item.result) items in
    touched_past pending i c.change-item.result c.args.at lt is (sym c.if-touches.ensures) ∙ c.loop-change.invariant
