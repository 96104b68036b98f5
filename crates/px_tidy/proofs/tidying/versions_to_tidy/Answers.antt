use Rattle.std.proofs.Common.{◌≡◌, ◌++◌, ◌∷◌, [], ◌-◌, ℕ, List, cond, length, vec_len, map, ap, subst, ◌∙◌}
use Rattle.std.specs.Prelude.{filter}
use Rattle.px_tables.specs.Held.{table_of}
use Rattle.px_tidy.specs.declared.tidying.Unneeded.{Unneeded}
use Rattle.px_tidy.specs.Kept.{is_other, oldest_first}
use Rattle.px_tidy.specs.Numbers.{done_of}
use Rattle.px_tidy.specs.Unneeded.{unneeded_at}
use Rattle.px_tidy.proofs.Walks.{all_pushed, one_more}
use Rattle.px_tidy.proofs.tidying.versions_to_tidy.Goals as goal

pub loop-place-preserved : goal.loop-place-preserved
loop-place-preserved c =
    let kept = c.place_kept-kept.result in
    let old : List Unneeded = c.loop-place.versions.items in
    let place = c.loop-place.place in
    one_more (unneeded_at c.in_ok-chain.chain.items) (is_other kept) old c.push_other.new.versions.items _ place c.loop-place-test.true
    (subst (λ (l : List ℕ). c.push_other.new.versions.items ≡ cond (is_other kept (place - 1)) (old ++ unneeded_at l (place - 1) ∷ []) old) c.as_slice.ensures.value
    c.in_ok-push_other.ensures)
    c.loop-place.invariant

pub returns : goal.returns
returns c = λ layout sound.
    let kept = c.place_kept-kept.result in
    let chain = c.in_ok-chain.chain in
    let len : vec_len chain ≡ length chain.items = chain.ok.0 in
    all_pushed unneeded_at (done_of c.args.done.now) (table_of c.args.table.now.cells) layout c.args.row kept c.loop-place.versions.items c.loop-place.place chain.items
    c.loop-place-test.false
    (c.loop-place.invariant
    ∙ ap (λ (n : ℕ). map (unneeded_at chain.items) (filter (is_other kept) (oldest_first n))) (c.len-place.ensures ∙ len))
    (c.place_kept-kept.ensures layout sound) (c.in_ok-chain.ensures layout sound)
