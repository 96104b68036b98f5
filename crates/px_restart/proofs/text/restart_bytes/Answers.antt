use Rattle.std.proofs.Common.{◌≡◌, ◌++◌, ◌≤◌, List, ℕ, length, ap, sym, ◌∙◌, arith}
use Rattle.std.specs.Int.{w32, to_be_bytes}
use Rattle.std.proofs.lemmas.List.{take_all}
use Rattle.px_bytes.specs.Sum.{fnv_of}
use Rattle.px_restart.specs.declared.text.TheConstants.{VERSION}
use Rattle.px_restart.specs.Restart.{restart_text, summed}
use Rattle.px_restart.proofs.text.restart_bytes.Goals as goal

pub returns : goal.returns
unfolding restart_text
returns c =
    let restart = c.args.restart.now in
    let sum : c.sum_of_fields-sum.result ≡ fnv_of (summed VERSION restart) = c.sum_of_fields-sum.ensures ∙ ap fnv_of c.put_summed.ensures in
    let all : length c.put_u32_at-end.new.bytes ≤ c.put_u32_at-end.result = omega arith in
    sym (take_all c.put_u32_at-end.result c.put_u32_at-end.new.bytes all)
    ∙ c.put_u32_at-end.ensures.front
    ∙ ap (λ (b : List ℕ). b ++ to_be_bytes w32 c.sum_of_fields-sum.result) c.put_summed.ensures
    ∙ ap (λ (n : ℕ). summed VERSION restart ++ to_be_bytes w32 n) sum
