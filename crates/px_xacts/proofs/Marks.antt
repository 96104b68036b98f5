-- Where the horizon and the low mark lie.
use Rattle.std.proofs.Common.{◌≡◌, ℕ, zero, suc, ◌≤◌, true, false, cond, ltb, List, [], ◌∷◌, ◌++◌, get_or, min, Option, Some, None, refl, ap, arith}
use Rattle.std.specs.Prelude.{All, IfSome, unwrap_or}
use Rattle.std.proofs.lemmas.Option.{none-some, same_Some}
use Rattle.std.proofs.lemmas.List.Elements.{All-head, All-tail, All-weaker}
use Rattle.px_model.specs.Machine.{lower_of}
use Rattle.px_model.specs.declared.standing.Standing.{Standing}
use Rattle.px_xacts.specs.declared.transaction.Transaction.{Transaction}
use Rattle.px_xacts.specs.declared.transaction.Start.{Start}
use Rattle.px_xacts.specs.declared.transaction.Outcome.{Outcome}
use Rattle.px_xacts.specs.declared.transaction.Unswept.{Unswept}
use Rattle.px_xacts.specs.Transactions.{least_snap, older_of, oldest_open, oldest_undone, oldest}
use Rattle.px_xacts.specs.Sound.{IsOf, IsSound}
use Rattle.px_xacts.proofs.Soundness.{outcome_given}

-- ---- the horizon

-- a snapshot seen so far stays a bound
least_snap-seen : (least count : ℕ) (slots : List (Option Transaction)) → unwrap_or (least_snap (Some least) slots) count ≤ least
least_snap-seen least count [] = omega arith
least_snap-seen least count (None ∷ slots) = least_snap-seen least count slots
least_snap-seen least count (Some x ∷ slots) = omega (arith, least_snap-seen (min least x.snap) count slots)

seen_first : (least : Option ℕ) (count : ℕ) (x : Transaction) (slots : List (Option Transaction))
    → unwrap_or (least_snap (Some (lower_of least x.snap)) slots) count ≤ x.snap
seen_first None count x slots = least_snap-seen x.snap count slots
seen_first (Some least) count x slots = omega (arith, least_snap-seen (min least x.snap) count slots)

pub horizon_below_each : (least : Option ℕ) (count : ℕ) (slots : List (Option Transaction)) (s : ℕ) (x : Transaction) → get_or slots s None ≡ Some x
    → unwrap_or (least_snap least slots) count ≤ x.snap
horizon_below_each least count [] s x at = absurd (none-some x at)
horizon_below_each least count (None ∷ slots) zero x at = absurd (none-some x at)
horizon_below_each least count (None ∷ slots) (suc s) x at = horizon_below_each least count slots s x at
horizon_below_each least count (Some y ∷ slots) zero x at =
    omega (arith, seen_first least count y slots, ap (λ (t : Transaction). t.snap) (same_Some y x at))
horizon_below_each least count (Some y ∷ slots) (suc s) x at = horizon_below_each (Some (lower_of least y.snap)) count slots s x at

lower_of-le : (least : Option ℕ) (snap count : ℕ) → snap ≤ count → lower_of least snap ≤ count
lower_of-le None snap count le = le
lower_of-le (Some least) snap count le = omega (arith, le)

pub horizon_within : (least : Option ℕ) (count : ℕ) (slots : List (Option Transaction)) → unwrap_or least count ≤ count
    → ((s : ℕ) (x : Transaction) → get_or slots s None ≡ Some x → x.snap ≤ count) → unwrap_or (least_snap least slots) count ≤ count
horizon_within least count [] le each = le
horizon_within least count (None ∷ slots) le each = horizon_within least count slots le (λ s x at. each (suc s) x at)
horizon_within least count (Some y ∷ slots) le each =
    horizon_within (Some (lower_of least y.snap)) count slots (lower_of-le least y.snap count (each zero y refl)) (λ s x at. each (suc s) x at)

-- ---- the low mark

-- its number was given out
abbrev pub WasGiven : ℕ → Start → Type 0
WasGiven begun start = (1 ≤ start.number) × (start.number ≤ begun)

older_of-given : (begun : ℕ) (oldest : Option Start) (start : Start) → IfSome oldest (WasGiven begun) → WasGiven begun start
    → WasGiven begun (older_of oldest start)
older_of-given begun None start given new = new
older_of-given begun (Some old) start given new =
    elim (ltb start.number old.number) as (λ b. WasGiven begun (cond b start old)) [ true ↦ new | false ↦ given ]

oldest_open-given : (begun : ℕ) (oldest : Option Start) (slots : List (Option Transaction)) → IfSome oldest (WasGiven begun)
    → ((s : ℕ) (x : Transaction) → get_or slots s None ≡ Some x → (1 ≤ x.number) × (x.number ≤ begun))
    → IfSome (oldest_open oldest slots) (WasGiven begun)
oldest_open-given begun oldest [] given each = given
oldest_open-given begun oldest (None ∷ slots) given each = oldest_open-given begun oldest slots given (λ s x at. each (suc s) x at)
oldest_open-given begun oldest (Some y ∷ slots) given each =
    let start : Start = record { number = y.number; frames = y.frames } in
    oldest_open-given begun (Some (older_of oldest start)) slots (older_of-given begun oldest start given (each zero y refl)) (λ s x at. each (suc s) x at)

oldest_undone-given : (begun : ℕ) (oldest : Option Start) (queue : List Unswept) → IfSome oldest (WasGiven begun)
    → All (λ (entry : Unswept). (1 ≤ entry.number) × (entry.number ≤ begun)) queue → IfSome (oldest_undone oldest queue) (WasGiven begun)
oldest_undone-given begun oldest [] given each = given
oldest_undone-given begun oldest (entry ∷ queue) given each =
    let start : Start = record { number = entry.number; frames = entry.frames } in
    let rest : All (λ (e : Unswept). (1 ≤ e.number) × (e.number ≤ begun)) queue = All-tail (λ (e : Unswept). (1 ≤ e.number) × (e.number ≤ begun)) entry queue each in
    elim entry.committed as (λ b. IfSome (cond b (oldest_undone oldest queue) (oldest_undone (Some (older_of oldest start)) queue)) (WasGiven begun)) [
      | true ↦ oldest_undone-given begun oldest queue given rest
      | false ↦ oldest_undone-given begun (Some (older_of oldest start)) queue
          (older_of-given begun oldest start given (All-head (λ (e : Unswept). (1 ≤ e.number) × (e.number ≤ begun)) entry queue each)) rest
    ]

-- the writes of the queue, in two parts
pub oldest_undone-append : (oldest : Option Start) (front back : List Unswept)
    → oldest_undone oldest (front ++ back) ≡ oldest_undone (oldest_undone oldest front) back
oldest_undone-append oldest [] back = refl
oldest_undone-append oldest (entry ∷ front) back =
    let start : Start = record { number = entry.number; frames = entry.frames } in
    elim entry.committed as (λ b. cond b (oldest_undone oldest (front ++ back)) (oldest_undone (Some (older_of oldest start)) (front ++ back))
    ≡ oldest_undone (cond b (oldest_undone oldest front) (oldest_undone (Some (older_of oldest start)) front)) back) [
      | true ↦ oldest_undone-append oldest front back
      | false ↦ oldest_undone-append (Some (older_of oldest start)) front back
    ]

pub oldest_given : (begun : ℕ) (outcomes : List Outcome) (standings : List Standing) (queue : List Unswept) (active : List (Option Transaction))
    → IsSound begun outcomes standings queue active → IfSome (oldest_undone (oldest_open None active) queue) (WasGiven begun)
oldest_given begun outcomes standings queue active sound =
    oldest_undone-given begun (oldest_open None active) queue
    (oldest_open-given begun None active tt (λ s x at. ((sound.are_open.each s x at).from_one, (sound.are_open.each s x at).given)))
    (All-weaker (IsOf outcomes) (λ (entry : Unswept). (1 ≤ entry.number) × (entry.number ≤ begun))
    (λ entry of.
    let outcome : Outcome = record { number = entry.number; committed = entry.committed } in
    (sound.are_outcomes.from_one entry.place outcome of, outcome_given begun outcomes standings queue active sound entry.place outcome of))
    queue sound.unswept_are)

pub ruleset marks = (oldest_undone-append)
