-- How many transactions are open, and how many writes they have, after a change of one place.
use Rattle.std.proofs.Common.{◌≡◌, ℕ, ◌+◌, ◌*◌, ◌≤◌, cond, List, [], Option, Some, None, length, get_or, set, sum_by, refl, sym, ap, ◌∙◌, arith, inl, inr}
use Rattle.std.specs.Prelude.{count_by, is_some}
use Rattle.std.proofs.lemmas.Bool.{cases_lt}
use Rattle.std.proofs.lemmas.Option.{none-some}
use Rattle.std.proofs.lemmas.List.{get_or_past, set_past, get_or_default}
use Rattle.std.proofs.lemmas.List.Sums.{sum_by-set, sum_by-le}
use Rattle.px_model.specs.declared.limits.TheConstants.{MOST_WRITES}
use Rattle.px_model.specs.declared.standing.Standing.{Standing}
use Rattle.px_xacts.specs.declared.transaction.Transaction.{Transaction}
use Rattle.px_xacts.specs.declared.transaction.Outcome.{Outcome}
use Rattle.px_xacts.specs.declared.transaction.Unswept.{Unswept}
use Rattle.px_xacts.specs.Sound.{IsSound, writes_in}

abbrev count_open : Option Transaction → ℕ
count_open slot = cond (is_some slot) 1 0

one_place : (f : Option Transaction → ℕ) (active : List (Option Transaction)) (s : ℕ) (x : Transaction) (slot : Option Transaction)
    → get_or active s None ≡ Some x → sum_by f (set active s slot) + f (Some x) ≡ sum_by f active + f slot
one_place f active s x slot o = elim (cases_lt s (length active)) [
  | inl lt ↦ ap (λ z. sum_by f (set active s slot) + f z) (sym o) ∙ sum_by-set f active s slot None lt
  | inr le ↦ absurd (none-some x (sym (get_or_past active s None le) ∙ o))
]

-- a transaction that changes stays open
pub opens-changed : (active : List (Option Transaction)) (s : ℕ) (x y : Transaction) → get_or active s None ≡ Some x
    → count_by is_some (set active s (Some y)) ≡ count_by is_some active
opens-changed active s x y o = omega (arith, one_place count_open active s x (Some y) o)

-- one that ends leaves room for its outcome
pub opens-closed : (active : List (Option Transaction)) (s : ℕ) (x : Transaction) → get_or active s None ≡ Some x
    → count_by is_some (set active s None) + 1 ≡ count_by is_some active
opens-closed active s x o = omega (arith, one_place count_open active s x None o)

-- and for each of its writes
pub writes-closed : (active : List (Option Transaction)) (s : ℕ) (x : Transaction) → get_or active s None ≡ Some x
    → sum_by writes_in (set active s None) + length x.writes ≡ sum_by writes_in active
writes-closed active s x o = omega (arith, one_place writes_in active s x None o)

pub writes-changed : (active : List (Option Transaction)) (s : ℕ) (x y : Transaction) → get_or active s None ≡ Some x
    → sum_by writes_in (set active s (Some y)) + length x.writes ≡ sum_by writes_in active + length y.writes
writes-changed active s x y o = one_place writes_in active s x (Some y) o

-- a transaction that begins has no writes
pub writes-begun : (active : List (Option Transaction)) (s : ℕ) (y : Transaction) → get_or active s None ≡ None → y.writes ≡ []
    → sum_by writes_in (set active s (Some y)) ≡ sum_by writes_in active
writes-begun active s y o none = elim (cases_lt s (length active)) [
  | inl lt ↦ omega (arith, ap writes_in o, ap length none, sum_by-set writes_in active s (Some y) None lt)
  | inr le ↦ ap (sum_by writes_in) (set_past active s (Some y) le)
]

at_most : (slot : Option Transaction) → ((x : Transaction) → slot ≡ Some x → length x.writes ≤ MOST_WRITES) → writes_in slot ≤ MOST_WRITES
at_most None each = omega arith
at_most (Some x) each = each x refl

-- sixteen transactions have few writes
pub few_writes : (begun : ℕ) (outcomes : List Outcome) (standings : List Standing) (queue : List Unswept) (active : List (Option Transaction))
    → IsSound begun outcomes standings queue active → sum_by writes_in active ≤ length active * MOST_WRITES
few_writes begun outcomes standings queue active sound = sum_by-le writes_in MOST_WRITES active
    (λ k d lt. at_most (get_or active k d) (λ x is. (sound.are_open.each k x (get_or_default active k None d lt ∙ is)).writes))
