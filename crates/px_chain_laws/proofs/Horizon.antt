-- The horizon is at or below each open transaction's snapshot.
use Rattle.std.proofs.Common.{◌≡◌, ℕ, zero, suc, ◌≤◌, List, [], ◌∷◌, length, get_or, min, Option, Some, None, ap, arith}
use Rattle.std.specs.Prelude.{unwrap_or}
use Rattle.std.proofs.lemmas.Option.{none-some, same_Some}
use Rattle.px_model.specs.declared.machine.Open.{Open}
use Rattle.px_model.specs.Machine.{Machine, horizon, least_snap, lower_of}

-- a snapshot seen so far stays a bound
least_snap-seen : (least count : ℕ) (slots : List (Option Open)) → unwrap_or (least_snap (Some least) slots) count ≤ least
least_snap-seen least count [] = omega arith
least_snap-seen least count (None ∷ slots) = least_snap-seen least count slots
least_snap-seen least count (Some x ∷ slots) = omega (arith, least_snap-seen (min least x.snap) count slots)

seen_first : (least : Option ℕ) (count : ℕ) (x : Open) (slots : List (Option Open)) → unwrap_or (least_snap (Some (lower_of least x.snap)) slots) count ≤ x.snap
seen_first None count x slots = least_snap-seen x.snap count slots
seen_first (Some least) count x slots = omega (arith, least_snap-seen (min least x.snap) count slots)

below_each : (least : Option ℕ) (count : ℕ) (slots : List (Option Open)) (s : ℕ) (x : Open) → get_or slots s None ≡ Some x
    → unwrap_or (least_snap least slots) count ≤ x.snap
below_each least count [] s x at = absurd (none-some x at)
below_each least count (None ∷ slots) zero x at = absurd (none-some x at)
below_each least count (None ∷ slots) (suc s) x at = below_each least count slots s x at
below_each least count (Some y ∷ slots) zero x at = omega (arith, seen_first least count y slots, ap (λ (o : Open). o.snap) (same_Some y x at))
below_each least count (Some y ∷ slots) (suc s) x at = below_each (Some (lower_of least y.snap)) count slots s x at

pub horizon_below : (m : Machine) (s : ℕ) (x : Open) → get_or m.active s None ≡ Some x → horizon m ≤ x.snap
unfolding horizon
horizon_below m s x at = below_each None (length m.ended) m.active s x at
