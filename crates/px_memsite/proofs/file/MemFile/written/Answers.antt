use Rattle.std.proofs.Common.{◌<◌, [], ◌∷◌, length, get_or, subst, sym, ap, ◌∙◌, arith}
use Rattle.px_site.specs.Disk.{overlaid}
use Rattle.px_memsite.specs.Changes.{change_of, IsWithinLimit}
use Rattle.px_memsite.proofs.Pending.{overlaid_more, each_within}
use Rattle.px_memsite.proofs.file.MemFile.written.Goals as goal

pub written_over-requires : goal.written_over-requires
written_over-requires c =
    let self = c.args.self.now in
    let items = c.deref-change-items.ensures.value in
    let i = c.loop-change.change-index in
    let lt : i < length self.pending.items = omega (arith, ap length items, c.loop-change-test.true) in
    let is = c.change-item.is ∙ ap (λ l. get_or l i c.change-item.result) items in
    subst (λ change. IsWithinLimit (change_of change)) (sym is) (each_within (length self.synced.items) self.pending.items i c.change-item.result lt c.requires)

pub loop-change-preserved : goal.loop-change-preserved
loop-change-preserved c =
    let self = c.args.self.now in
    let items = c.deref-change-items.ensures.value in
    let i = c.loop-change.change-index in
    let lt : i < length self.pending.items = omega (arith, ap length items, c.loop-change-test.true) in
    let is = c.change-item.is ∙ ap (λ l. get_or l i c.change-item.result) items in
    c.in_ok-bytes-2.ensures ∙ ap (λ l. overlaid l (change_of c.change-item.result ∷ [])) c.loop-change.invariant
    ∙ overlaid_more self.synced.items self.pending.items i c.change-item.result lt is
