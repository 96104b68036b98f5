use Rattle.std.proofs.Common.{◌≡◌, cond, drop}
use Rattle.px_active.specs.Active.{has_key}
use Rattle.px_locks.specs.Holders.{holder_of, unless_held_by}
use Rattle.px_model.specs.Rows.{Key}
use Rattle.px_active.proofs.active.ending.release.Given as goal

abbrev pub invariant-loop-write : goal.invariant-loop-write
invariant-loop-write l = (q : Key)
    → cond (has_key q (drop l.write-index l.writes)) (unless_held_by l.number (holder_of q l.locks)) (holder_of q l.locks)
    ≡ cond (has_key q l.writes) (unless_held_by l.number (holder_of q l.fn.locks)) (holder_of q l.fn.locks)
