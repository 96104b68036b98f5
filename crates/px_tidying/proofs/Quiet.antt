-- Nothing but the log is touched, in no more calls than there are frames to be written, and one.
use Rattle.std.proofs.Common.{ℕ, ◌+◌, ◌≤◌, List, length, arith}
use Rattle.px_history.specs.Steps.{Step}
use Rattle.px_history.specs.Store.{Store}
use Rattle.px_log.proofs.Touching.{none_touched, touches_less, touches_then}
use Rattle.px_log.specs.Touching.{TouchesLog}
use Rattle.px_site.specs.State.{State}
use Rattle.px_tidying.specs.Opening.{Made, Opening}
use Rattle.std.specs.Prelude.{◌≡◌}

-- a call behind steps that were made, which all are no more than so many
pub touches_behind : (tells : Type 0) (store : Store) (steps : List Step) (a b : Opening) (c : State) (count all : ℕ) → tells → Made tells store steps a b → length steps + count ≤ all
    → TouchesLog count b.site c → TouchesLog all a.site c
touches_behind tells store steps a b c count all t made within touches = touches_less within (touches_then (made.touches t) touches)

-- and where it only reads
pub still_behind : (tells : Type 0) (store : Store) (steps : List Step) (a b : Opening) (c : State) (all : ℕ) → tells → Made tells store steps a b → length steps ≤ all → c ≡ b.site
    → TouchesLog all a.site c
still_behind tells store steps a b c all t made within same = touches_behind tells store steps a b c 0 all t made (omega (arith, within)) (none_touched same)

-- a call that only reads before it makes no difference
pub still_then : {calls : ℕ} {a b c : State} → b ≡ a → TouchesLog calls b c → TouchesLog calls a c
still_then same touches = touches_less (omega arith) (touches_then (none_touched same) touches)
