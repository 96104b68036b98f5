use Rattle.std.proofs.Common.{◌≡◌, ◌++◌, List, ℕ, take, ap, ◌∙◌, arith}
use Rattle.px_restart.specs.Restart.{fields_text}
use Rattle.px_restart.specs.declared.text.TheConstants.{SUMMED_SIZE}
use Rattle.px_restart.proofs.text.put_summed.Goals as goal

-- one field more
then : (all front before field : List ℕ) → all ≡ front ++ field → front ≡ before → all ≡ before ++ field
then all front before field e f = e ∙ ap (λ (x : List ℕ). x ++ field) f

pub returns : goal.returns
unfolding fields_text
returns c =
    let size : SUMMED_SIZE ≡ c.put_u32_at-end.result = omega arith in
    ap (λ (n : ℕ). take n c.put_u32_at-end.new.bytes) size
    ∙ then _ _ _ _ c.put_u32_at-end.ensures.front (then _ _ _ _ c.put_u64_at-place-7.ensures.front (then _ _ _ _ c.put_u64_at-place-6.ensures.front
    (then _ _ _ _ c.put_u64_at-place-5.ensures.front (then _ _ _ _ c.put_u64_at-place-4.ensures.front (then _ _ _ _ c.put_u64_at-place-3.ensures.front
    (then _ _ _ _ c.put_u64_at-place-2.ensures.front (then _ _ _ _ c.put_u32_at-place-4.ensures.front (then _ _ _ _ c.put_u32_at-place-3.ensures.front
    (then _ _ _ _ c.put_u64_at-place.ensures.front (then _ _ _ _ c.put_u32_at-place-2.ensures.front c.put_u32_at-place.ensures.front))))))))))
