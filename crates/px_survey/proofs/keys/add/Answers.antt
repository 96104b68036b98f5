use Rattle.std.specs.BTreeSet.{contains_by}
use Rattle.std.specs.Cmp.Lexicographic.{slice_cmp}
use Rattle.std.specs.Ordering.{nat_cmp}
use Rattle.px_survey.proofs.AddedKeys.{key_added}
use Rattle.px_survey.proofs.keys.add.Goals as goal

pub returns-clause-adds : goal.returns-clause-adds
returns-clause-adds c =
    let updates = c.in_ok-insert.ensures.updates in
    key_added c.args.key.now (λ q. contains_by (λ k. slice_cmp nat_cmp q k.now) c.args.keys.now) (λ q. contains_by (λ k. slice_cmp nat_cmp q k.now) c.insert.new.self)
    updates.1 (λ q. updates.0 (record c.args.key { now = q }))
