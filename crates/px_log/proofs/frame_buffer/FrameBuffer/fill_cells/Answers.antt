use Rattle.std.proofs.Common.{◌≡◌, List, ℕ, ◌++◌, length, drop, ap, ◌∙◌, arith}
use Rattle.std.proofs.lemmas.List.{drop_at}
use Rattle.px_change.specs.Text.{change_text}
use Rattle.px_change.proofs.Changes.{in_frame}
use Rattle.px_log.proofs.frame_buffer.FrameBuffer.fill_cells.Goals as goal

pub write_header-requires-clause-longest : goal.write_header-requires-clause-longest
write_header-requires-clause-longest g c =
    let change = g.P.Payload.change c.args.payload.now in
    let room = c.extend_from_slice.new.self.items in
    let sized : length room ≡ 16 = omega (arith, ap length (c.in_ok-extend_from_slice.ensures.items ∙ ap (λ (b : List ℕ). b ++ _) c.clear.ensures.items)) in
    let payload : drop 16 c.deref_mut.result.now ≡ change_text change =
    ap (drop 16) (c.deref_mut.ensures.value ∙ c.in_ok-encode.ensures.ok) ∙ drop_at room (change_text change) 16 sized in
    let size = in_frame c.args.short change c.requires in
    omega (arith, ap length payload, size.1)
