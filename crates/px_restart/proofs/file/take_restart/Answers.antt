use Rattle.px_restart.specs.Restart.{fields_text}
use Rattle.px_bytes.proofs.Numbers.{u32_then, u64_then}
use Rattle.px_restart.proofs.file.take_restart.Goals as goal

pub returns-clause-taken : goal.returns-clause-taken
unfolding fields_text
returns-clause-taken c =
    u64_then _ _ _ _ c.in_ok-serial.ensures.taken (u32_then _ _ _ _ c.in_ok-tables.ensures.taken (u32_then _ _ _ _ c.in_ok-short.ensures.taken
    (u64_then _ _ _ _ c.in_ok-commits.ensures.taken (u64_then _ _ _ _ c.in_ok-next.ensures.taken (u64_then _ _ _ _ c.in_ok-low.ensures.taken
    (u64_then _ _ _ _ c.in_ok-first.ensures.taken (u64_then _ _ _ _ c.in_ok-redo.ensures.taken (u64_then _ _ _ _ c.in_ok-durable.ensures.taken
    c.in_ok-segment.ensures.taken))))))))
