use Rattle.std.proofs.Common.{◌≡◌, ◌++◌, map}
use Rattle.std.specs.Prelude.{filter}
use Rattle.px_tidy.specs.Kept.{is_other, oldest_first}
use Rattle.px_tidy.specs.Unneeded.{unneeded_at}
use Rattle.px_tidy.proofs.tidying.versions_to_tidy.Given as goal

abbrev pub invariant-loop-place : goal.invariant-loop-place
invariant-loop-place l = l.versions.items ++ map (unneeded_at l.chain.items) (filter (is_other l.kept) (oldest_first l.place))
    ≡ map (unneeded_at l.chain.items) (filter (is_other l.kept) (oldest_first l.initial.place))
