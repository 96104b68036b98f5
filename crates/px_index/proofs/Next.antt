-- What the least entry from another one on says of slots and of keys.
use Rattle.std.proofs.Common.{◌≡◌, ℕ, ◌==◌, Bool, true, false, List, Option, Some, None, refl, sym, ap, subst, ◌∙◌, arith}
use Rattle.std.specs.Prelude.{if◌then◌else◌}
use Rattle.std.specs.Ordering.{is_eq, is_gt, nat_cmp, ordering_then}
use Rattle.std.specs.Cmp.{nat_cmp_total}
use Rattle.std.specs.declared.cmp.Ordering.TheVariants.{Equal, Greater}
use Rattle.std.proofs.lemmas.Bool.{true≢false}
use Rattle.std.proofs.lemmas.Map.Lookups.{exact_unsigned}
use Rattle.std.proofs.lemmas.Map.Views.{exact_unsigned_eq}
use Rattle.px_index.specs.Listed.{HasNoneFrom, IsLeastFrom, has}
use Rattle.px_index.specs.Order.{IsUpTo, place_cmp, same_place}
use Rattle.px_index.specs.Walks.{HasNonePast, IsLeastKey, IsLeastSlot, IsNextKey, IsNextSlot, IsPast, entry_at, has_at, has_key_at, key_in, key_there, least_past, slot_there, HasNoneFrom as NoSlotFrom}
use Rattle.px_index.specs.declared.entry.Entry.{Entry}
use Rattle.px_index.specs.declared.field.Field.{Field}
use Rattle.px_index.specs.declared.field.Field.TheVariants.{Key, Tag}
use Rattle.px_index.proofs.Orders.{beside_up_to, between, from_least, first_not_past, is_eq-nat, is_equal, is_past, keys_up_to, nat_itself, not_before, place_exact, tied, up_to_beside, up_to_keys}

-- what isn't there where its being there can't be
pub isnt : (b : Bool) → (b ≡ true → ⊥) → b ≡ false
isnt true f = absurd (f refl)
isnt false f = refl

-- ---- slots

pub none_from : (entries : List Entry) (from : Entry) → HasNoneFrom entries from → NoSlotFrom (has_at entries from.table from.field) from.slot
none_from entries from none slot high =
    isnt (has entries (entry_at from.table from.field slot))
    (λ is. none (entry_at from.table from.field slot) is (up_to_beside from.table from.field from.slot slot high))

least_slot : (entries : List Entry) (table : ℕ) (field : Field) (from slot : ℕ) → IsLeastFrom entries (entry_at table field from) (entry_at table field slot)
    → IsLeastSlot (has_at entries table field) from slot
least_slot entries table field from slot found = record {
  is = found.is;
  not_below = beside_up_to table field from slot found.not_below;
  least = λ other high is.
      beside_up_to table field slot other (found.least (entry_at table field other) is (up_to_beside table field from other high));
}

slot_of : (entries : List Entry) (from found : Entry) → IsLeastFrom entries from found → (b : Bool) → same_place found from ≡ b
    → IsNextSlot entries from.table from.field from.slot (if b then Some found.slot else None)
slot_of entries from found least true same =
    let place = place_exact found from (is_equal (place_cmp found from) same) in
    least_slot entries from.table from.field from.slot found.slot
    (subst (λ (f : Entry). IsLeastFrom entries from f) (λ i. record { table = place.0 i; field = place.1 i; slot = found.slot }) least)
slot_of entries from found least false other = λ slot high.
    isnt (has entries (entry_at from.table from.field slot))
    (λ is.
    let up = least.least (entry_at from.table from.field slot) is (up_to_beside from.table from.field from.slot slot high) in
    true≢false (sym (ap is_eq (between from found slot least.not_below up)) ∙ other))

pub next_slot : (entries : List Entry) (from found : Entry) → IsLeastFrom entries from found
    → IsNextSlot entries from.table from.field from.slot (slot_there found from)
next_slot entries from found least = slot_of entries from found least (same_place found from) refl

-- ---- keys

abbrev probe : (table : ℕ) (after : Option (List ℕ)) → Entry
probe table after = entry_at table (Key (least_past after)) 0

from_probe : (table : ℕ) (after : Option (List ℕ)) (key : List ℕ) (slot : ℕ) → IsPast after key → IsUpTo (probe table after) (entry_at table (Key key) slot)
from_probe table after key slot past = up_to_keys table (least_past after) key 0 slot (from_least after key past) (omega arith)

pub none_past : (entries : List Entry) (table : ℕ) (after : Option (List ℕ)) → HasNoneFrom entries (probe table after) → HasNonePast (has_key_at entries table) after
none_past entries table after none key slot past =
    isnt (has entries (entry_at table (Key key) slot))
    (λ is. none (entry_at table (Key key) slot) is (from_probe table after key slot past))

least_key : (entries : List Entry) (table : ℕ) (after : Option (List ℕ)) (key : List ℕ) (slot : ℕ)
    → IsLeastFrom entries (probe table after) (entry_at table (Key key) slot) → IsLeastKey (has_key_at entries table) after key slot
least_key entries table after key slot found =
    let past = is_past after key (keys_up_to table (least_past after) key 0 slot found.not_below) in
    record {
      is = found.is;
      past = past;
      least = λ other at behind is.
          not_before key other
          (keys_up_to table key other slot at (found.least (entry_at table (Key other) at) is (from_probe table after other at behind)));
      first = λ at is.
          beside_up_to table (Key key) slot at (found.least (entry_at table (Key key) at) is (from_probe table after key at past));
    }

-- an entry between two by key of one table is by key of that table
tables_tied : (table : ℕ) (low : List ℕ) (key : List ℕ) (at : ℕ) (found : Entry) → IsUpTo (entry_at table (Key low) 0) found
    → IsUpTo found (entry_at table (Key key) at) → nat_cmp found.table table ≡ Equal
tables_tied table low key at found from to =
    let place = first_not_past (place_cmp found (entry_at table (Key key) at)) (nat_cmp found.slot at) to in
    let before = first_not_past (place_cmp (entry_at table (Key low) 0) found) (nat_cmp 0 found.slot) from in
    tied (nat_cmp found.table table) (first_not_past (nat_cmp found.table table) _ place)
    (sym (ap is_gt (nat_cmp_total.antisymm table found.table)) ∙ first_not_past (nat_cmp table found.table) _ before)

no_tag : (table tag slot : ℕ) (key : List ℕ) (at : ℕ) → ¬ IsUpTo (entry_at table (Tag tag) slot) (entry_at table (Key key) at)
no_tag table tag slot key at up =
    true≢false (sym (ap (λ o. is_gt (ordering_then (ordering_then o Greater) (nat_cmp slot at))) (nat_itself table)) ∙ up)

key_of : (entries : List Entry) (table : ℕ) (after : Option (List ℕ)) (field : Field) (slot : ℕ)
    → IsLeastFrom entries (probe table after) (entry_at table field slot) → IsNextKey entries table after (key_in field slot)
key_of entries table after (Key key) slot found = least_key entries table after key slot found
key_of entries table after (Tag tag) slot found = λ key at past.
    isnt (has entries (entry_at table (Key key) at))
    (λ is. no_tag table tag slot key at (found.least (entry_at table (Key key) at) is (from_probe table after key at past)))

key_by : (entries : List Entry) (table : ℕ) (after : Option (List ℕ)) (found : Entry) → IsLeastFrom entries (probe table after) found
    → (b : Bool) → (found.table == table) ≡ b → IsNextKey entries table after (if b then key_in found.field found.slot else None)
key_by entries table after found least true same =
    let its = exact_unsigned_eq found.table table same in
    key_of entries table after found.field found.slot
    (subst (λ (t : ℕ). IsLeastFrom entries (probe table after) (entry_at t found.field found.slot)) its least)
key_by entries table after found least false other = λ key at past.
    isnt (has entries (entry_at table (Key key) at))
    (λ is.
    let up = least.least (entry_at table (Key key) at) is (from_probe table after key at past) in
    let its = exact_unsigned found.table table (tables_tied table (least_past after) key at found least.not_below up) in
    true≢false (sym (ap (λ (n : ℕ). n == table) its ∙ same_number table) ∙ other))
  where
    same_number : (n : ℕ) → (n == n) ≡ true
    same_number n = sym (is_eq-nat n n) ∙ ap is_eq (nat_itself n)

pub next_key : (entries : List Entry) (table : ℕ) (after : Option (List ℕ)) (found : Entry) → IsLeastFrom entries (probe table after) found
    → IsNextKey entries table after (key_there found table)
next_key entries table after found least = key_by entries table after found least (found.table == table) refl
