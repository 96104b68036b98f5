use Rattle.px_recs.specs.Text.{header_text}
use Rattle.px_bytes.proofs.Numbers.{u32_then}
use Rattle.px_recs.proofs.header.take_header.Goals as goal

pub returns-clause-taken : goal.returns-clause-taken
unfolding header_text
returns-clause-taken c =
    u32_then _ _ _ _ c.in_ok-slots.ensures.taken (u32_then _ _ _ _ c.in_ok-free_slot.ensures.taken
    (u32_then _ _ _ _ c.in_ok-rows.ensures.taken c.in_ok-free_row.ensures.taken))
