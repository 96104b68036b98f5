use Rattle.std.proofs.Common.{◌≡◌, ◌++◌, ℕ, List, replicate, ap, ◌∙◌}
use Rattle.std.proofs.lemmas.List.{take-replicate}
use Rattle.px_model.specs.declared.limits.TheConstants.{LONGEST_SHORT}
use Rattle.px_recs.proofs.padding.append_zeros.Goals as goal

pub returns-clause-ok : goal.returns-clause-ok
returns-clause-ok c =
    let padding : c.split_at.result.0.now ≡ replicate c.args.count 0 = c.split_at.ensures.front ∙ take-replicate c.args.count LONGEST_SHORT 0 c.requires in
    c.in_ok-extend_from_slice.ensures.items ∙ ap (λ (x : List ℕ). c.args.out.now.items ++ x) padding
