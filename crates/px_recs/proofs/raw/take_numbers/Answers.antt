use Rattle.px_recs.specs.Fields.{numbers_text}
use Rattle.px_bytes.proofs.Numbers.{u32_then, u64_then}
use Rattle.px_recs.proofs.raw.take_numbers.Goals as goal

pub returns-clause-taken : goal.returns-clause-taken
unfolding numbers_text
returns-clause-taken c =
    u64_then _ _ _ _ c.in_ok-xn.ensures.taken (u32_then _ _ _ _ c.in_ok-next.ensures.taken (u32_then _ _ _ _ c.in_ok-row.ensures.taken
    (u32_then _ _ _ _ c.in_ok-tag.ensures.taken (u32_then _ _ _ _ c.in_ok-total.ensures.taken (u32_then _ _ _ _ c.in_ok-log.ensures.taken
    c.in_ok-place.ensures.taken)))))
