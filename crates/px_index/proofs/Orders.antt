-- How entries compare.
use Rattle.std.proofs.Common.{◌≡◌, ℕ, ◌<◌, ◌≤◌, ◌==◌, true, false, ◌&&◌, List, [], ◌∷◌, ◌++◌, Option, Some, None, refl, sym, ap, ◌∙◌, arith}
use Rattle.std.specs.Ordering.{is_eq, is_gt, is_lt, nat_cmp, ordering_reverse, ordering_then}
use Rattle.std.specs.declared.cmp.Ordering.{Ordering}
use Rattle.std.specs.declared.cmp.Ordering.TheVariants.{Less, Equal, Greater}
use Rattle.std.specs.Cmp.{tied_itself}
use Rattle.std.specs.Cmp.Lexicographic.{slice_cmp, nat_list_cmp_total}
use Rattle.std.proofs.lemmas.Bool.{false≢true, true≢false}
use Rattle.std.proofs.lemmas.Bool.Decides.{nat_tests}
use Rattle.std.proofs.lemmas.Cmp.{nat_cmp_total, ranked, by_ranked}
use Rattle.std.proofs.lemmas.Map.Lookups.{exact_bytes, exact_unsigned}
use Rattle.px_index.specs.Order.{IsUpTo, entry_cmp, entry_cmp_total, field_cmp, place_cmp, place_cmp_total, same_entry}
use Rattle.px_index.specs.Walks.{IsBefore, IsPast, entry_at, least_past}
use Rattle.px_index.specs.declared.entry.Entry.{Entry}
use Rattle.px_index.specs.declared.field.Field.{Field}
use Rattle.px_index.specs.declared.field.Field.TheVariants.{Key, Tag}

-- ---- one comparison, and then another

pub is_equal : (o : Ordering) → is_eq o ≡ true → o ≡ Equal
is_equal Less h = absurd (false≢true h)
is_equal Equal h = refl
is_equal Greater h = absurd (false≢true h)

less_equal : Less ≡ Equal → ⊥
less_equal h = true≢false (ap is_lt h)

pub then_both : (o p : Ordering) → ordering_then o p ≡ Equal → (o ≡ Equal) × (p ≡ Equal)
then_both Less p h = absurd (less_equal h)
then_both Equal p h = (refl, h)
then_both Greater p h = absurd (true≢false (ap is_gt h))

pub then_equal : (o : Ordering) → ordering_then o Equal ≡ o
then_equal Less = refl
then_equal Equal = refl
then_equal Greater = refl

pub is_eq-then : (o p : Ordering) → is_eq (ordering_then o p) ≡ (is_eq o && is_eq p)
is_eq-then Less p = refl
is_eq-then Equal p = refl
is_eq-then Greater p = refl

pub first_not_past : (o p : Ordering) → is_gt (ordering_then o p) ≡ false → is_gt o ≡ false
first_not_past Less p h = refl
first_not_past Equal p h = refl
first_not_past Greater p h = h

pub both_not_past : (o p : Ordering) → is_gt o ≡ false → is_gt p ≡ false → is_gt (ordering_then o p) ≡ false
both_not_past Less p h g = refl
both_not_past Equal p h g = g
both_not_past Greater p h g = h

-- neither is past the other
pub tied : (o : Ordering) → is_gt o ≡ false → is_gt (ordering_reverse o) ≡ false → o ≡ Equal
tied Less h g = absurd (true≢false g)
tied Equal h g = refl
tied Greater h g = absurd (true≢false h)

-- ---- numbers

pub nat_itself : (n : ℕ) → nat_cmp n n ≡ Equal
nat_itself n = tied_itself nat_cmp_total n

pub is_eq-nat : (m n : ℕ) → is_eq (nat_cmp m n) ≡ (m == n)
is_eq-nat m n = grind (arith, nat_tests)

pub up_to_number : (m n : ℕ) → is_gt (nat_cmp m n) ≡ false → m ≤ n
up_to_number m n h = by_ranked (m < n) (m ≡ n) (n < m) (nat_cmp m n) (ranked m n (nat_cmp m n) refl)
    (λ e l. omega arith) (λ e l. omega arith) (λ e l. absurd (true≢false (sym (ap is_gt e) ∙ h)))

pub number_up_to : (m n : ℕ) → m ≤ n → is_gt (nat_cmp m n) ≡ false
number_up_to m n h = by_ranked (m < n) (m ≡ n) (n < m) (nat_cmp m n) (ranked m n (nat_cmp m n) refl)
    (λ e l. ap is_gt e) (λ e l. ap is_gt e) (λ e l. absurd (omega arith))

-- ---- entries that compare equal are one

pub field_exact : (field other : Field) → field_cmp field other ≡ Equal → field ≡ other
field_exact (Key key) (Key other) h = ap Key (exact_bytes key other (then_both (slice_cmp nat_cmp key other) Equal h).0)
field_exact (Key key) (Tag tag) h = absurd (less_equal h)
field_exact (Tag tag) (Key key) h = absurd (true≢false (ap is_gt h))
field_exact (Tag tag) (Tag other) h = ap Tag (exact_unsigned tag other h)

pub place_exact : (entry other : Entry) → place_cmp entry other ≡ Equal → (entry.table ≡ other.table) × (entry.field ≡ other.field)
place_exact entry other h =
    let both = then_both (nat_cmp entry.table other.table) (field_cmp entry.field other.field) h in
    (exact_unsigned entry.table other.table both.0, field_exact entry.field other.field both.1)

pub entry_exact : (entry other : Entry) → entry_cmp entry other ≡ Equal → entry ≡ other
entry_exact entry other h =
    let both = then_both (place_cmp entry other) (nat_cmp entry.slot other.slot) h in
    let place = place_exact entry other both.0 in
    let slot = exact_unsigned entry.slot other.slot both.1 in
    λ i. record { table = place.0 i; field = place.1 i; slot = slot i }

pub same_exact : (entry other : Entry) → same_entry entry other ≡ true → entry ≡ other
same_exact entry other h = entry_exact entry other (is_equal (entry_cmp entry other) h)

pub same_itself : (entry : Entry) → same_entry entry entry ≡ true
same_itself entry = ap is_eq (tied_itself entry_cmp_total entry)

-- ---- entries under one field

pub cmp_beside : (table : ℕ) (field : Field) (slot other : ℕ) → entry_cmp (entry_at table field slot) (entry_at table field other) ≡ nat_cmp slot other
cmp_beside table field slot other = ap (λ o. ordering_then o (nat_cmp slot other)) (tied_itself place_cmp_total (entry_at table field slot))

pub up_to_beside : (table : ℕ) (field : Field) (slot other : ℕ) → slot ≤ other → IsUpTo (entry_at table field slot) (entry_at table field other)
up_to_beside table field slot other h = ap is_gt (cmp_beside table field slot other) ∙ number_up_to slot other h

pub beside_up_to : (table : ℕ) (field : Field) (slot other : ℕ) → IsUpTo (entry_at table field slot) (entry_at table field other) → slot ≤ other
beside_up_to table field slot other h = up_to_number slot other (sym (ap is_gt (cmp_beside table field slot other)) ∙ h)

-- an entry between two of one field is under it too
pub between : (from found : Entry) (slot : ℕ) → IsUpTo from found → IsUpTo found (entry_at from.table from.field slot) → place_cmp found from ≡ Equal
between from found slot low high =
    tied (place_cmp found from) (first_not_past (place_cmp found from) (nat_cmp found.slot slot) high)
    (sym (ap is_gt (place_cmp_total.antisymm from found)) ∙ first_not_past (place_cmp from found) (nat_cmp from.slot found.slot) low)

-- ---- entries by key

pub cmp_keys : (table : ℕ) (key other : List ℕ) (slot at : ℕ)
    → entry_cmp (entry_at table (Key key) slot) (entry_at table (Key other) at) ≡ ordering_then (slice_cmp nat_cmp key other) (nat_cmp slot at)
cmp_keys table key other slot at =
    ap (λ o. ordering_then (ordering_then o (ordering_then (slice_cmp nat_cmp key other) Equal)) (nat_cmp slot at)) (nat_itself table)
    ∙ ap (λ o. ordering_then o (nat_cmp slot at)) (then_equal (slice_cmp nat_cmp key other))

pub keys_up_to : (table : ℕ) (key other : List ℕ) (slot at : ℕ) → IsUpTo (entry_at table (Key key) slot) (entry_at table (Key other) at)
    → is_gt (slice_cmp nat_cmp key other) ≡ false
keys_up_to table key other slot at h =
    first_not_past (slice_cmp nat_cmp key other) (nat_cmp slot at) (sym (ap is_gt (cmp_keys table key other slot at)) ∙ h)

pub up_to_keys : (table : ℕ) (key other : List ℕ) (slot at : ℕ) → is_gt (slice_cmp nat_cmp key other) ≡ false → slot ≤ at
    → IsUpTo (entry_at table (Key key) slot) (entry_at table (Key other) at)
up_to_keys table key other slot at h l =
    ap is_gt (cmp_keys table key other slot at) ∙ both_not_past (slice_cmp nat_cmp key other) (nat_cmp slot at) h (number_up_to slot at l)

pub not_before : (key other : List ℕ) → is_gt (slice_cmp nat_cmp key other) ≡ false → ¬ IsBefore other key
not_before key other h before =
    true≢false (sym (ap (λ o. is_gt (ordering_reverse o)) before) ∙ sym (ap is_gt (nat_list_cmp_total.antisymm key other)) ∙ h)

-- ---- the least key past another

step_down : (o p q : Ordering) → (p ≡ Less → is_gt q ≡ false) → ordering_then o p ≡ Less → is_gt (ordering_then o q) ≡ false
step_down Less p q f h = refl
step_down Equal p q f h = f h
step_down Greater p q f h = absurd (false≢true (ap is_lt h))

step_up : (o p q : Ordering) → (is_gt q ≡ false → p ≡ Less) → is_gt (ordering_then o q) ≡ false → ordering_then o p ≡ Less
step_up Less p q f h = refl
step_up Equal p q f h = f h
step_up Greater p q f h = absurd (true≢false h)

front_first : (key : List ℕ) → is_gt (slice_cmp nat_cmp [] key) ≡ false
front_first [] = refl
front_first (byte ∷ key) = refl

zero_next : (key other : List ℕ) → IsBefore key other → is_gt (slice_cmp nat_cmp (key ++ 0 ∷ []) other) ≡ false
zero_next [] [] h = absurd (true≢false (sym (ap is_lt h)))
zero_next [] (byte ∷ other) h = both_not_past (nat_cmp 0 byte) (slice_cmp nat_cmp [] other) (number_up_to 0 byte (omega arith)) (front_first other)
zero_next (first ∷ key) [] h = absurd (false≢true (ap is_lt h))
zero_next (first ∷ key) (byte ∷ other) h =
    step_down (nat_cmp first byte) (slice_cmp nat_cmp key other) (slice_cmp nat_cmp (key ++ 0 ∷ []) other) (zero_next key other) h

next_zero : (key other : List ℕ) → is_gt (slice_cmp nat_cmp (key ++ 0 ∷ []) other) ≡ false → IsBefore key other
next_zero [] [] h = absurd (true≢false h)
next_zero [] (byte ∷ other) h = refl
next_zero (first ∷ key) [] h = absurd (true≢false h)
next_zero (first ∷ key) (byte ∷ other) h =
    step_up (nat_cmp first byte) (slice_cmp nat_cmp key other) (slice_cmp nat_cmp (key ++ 0 ∷ []) other) (next_zero key other) h

pub from_least : (after : Option (List ℕ)) (key : List ℕ) → IsPast after key → is_gt (slice_cmp nat_cmp (least_past after) key) ≡ false
from_least None key past = front_first key
from_least (Some after) key past = zero_next after key past

pub is_past : (after : Option (List ℕ)) (key : List ℕ) → is_gt (slice_cmp nat_cmp (least_past after) key) ≡ false → IsPast after key
is_past None key h = tt
is_past (Some after) key h = next_zero after key h
