-- What is found in entries: the next slot under a field, and the next key.
use Rattle.std.specs.Prelude.{◌≡◌, ◌≤◌, ℕ, ◌==◌, Bool, true, false, List, [], ◌∷◌, ◌++◌, Option, Some, None, MatchOption, ⊤, if◌then◌else◌}
use Rattle.std.specs.Cmp.Lexicographic.{slice_cmp}
use Rattle.std.specs.Ordering.{nat_cmp}
use Rattle.std.specs.declared.cmp.Ordering.TheVariants.{Less}
use Rattle.px_index.specs.Listed.{has}
use Rattle.px_index.specs.Order.{same_place}
use Rattle.px_index.specs.declared.entry.Entry.{Entry}
use Rattle.px_index.specs.declared.field.Field.{Field}
use Rattle.px_index.specs.declared.field.Field.TheVariants.{Key, Tag}

abbrev pub entry_at : (table : ℕ) → Field → (slot : ℕ) → Entry
entry_at table field slot = record { table = table; field = field; slot = slot }

-- ---- slots

abbrev pub HasNoneFrom : (there : ℕ → Bool) → (from : ℕ) → Type 0
HasNoneFrom there from = (slot : ℕ) → from ≤ slot → there slot ≡ false

-- the least slot from this one on
pub record IsLeastSlot (there : ℕ → Bool) (from slot : ℕ) : Type 0 where
  pub is : there slot ≡ true
  pub not_below : from ≤ slot
  pub least : (other : ℕ) → from ≤ other → there other ≡ true → slot ≤ other

abbrev pub IsNext : (there : ℕ → Bool) → (from : ℕ) → Option ℕ → Type 0
IsNext there from found = MatchOption found (HasNoneFrom there from) (IsLeastSlot there from)

-- the table has an entry of the field at the slot
abbrev pub has_at : List Entry → (table : ℕ) → Field → (slot : ℕ) → Bool
has_at entries table field slot = has entries (entry_at table field slot)

abbrev pub IsNextSlot : List Entry → (table : ℕ) → Field → (from : ℕ) → Option ℕ → Type 0
IsNextSlot entries table field from found = IsNext (has_at entries table field) from found

-- ---- keys

abbrev pub IsBefore : (key other : List ℕ) → Type 0
IsBefore key other = slice_cmp nat_cmp key other ≡ Less

-- every key is past None
abbrev pub IsPast : Option (List ℕ) → (key : List ℕ) → Type 0
IsPast None key = ⊤
IsPast (Some after) key = IsBefore after key

abbrev pub HasNonePast : (there : List ℕ → ℕ → Bool) → (after : Option (List ℕ)) → Type 0
HasNonePast there after = (key : List ℕ) (slot : ℕ) → IsPast after key → there key slot ≡ false

-- the least key past another one, and its least slot
pub record IsLeastKey (there : List ℕ → ℕ → Bool) (after : Option (List ℕ)) (key : List ℕ) (slot : ℕ) : Type 0 where
  pub is : there key slot ≡ true
  pub past : IsPast after key
  pub least : (other : List ℕ) (at : ℕ) → IsPast after other → there other at ≡ true → ¬ IsBefore other key
  pub first : (at : ℕ) → there key at ≡ true → slot ≤ at

abbrev pub IsFirstPast : (there : List ℕ → ℕ → Bool) → (after : Option (List ℕ)) → Option (List ℕ × ℕ) → Type 0
IsFirstPast there after found = MatchOption found (HasNonePast there after) (λ next. IsLeastKey there after next.0 next.1)

-- the table has an entry of the key at the slot
abbrev pub has_key_at : List Entry → (table : ℕ) → (key : List ℕ) (slot : ℕ) → Bool
has_key_at entries table key slot = has entries (entry_at table (Key key) slot)

abbrev pub IsNextKey : List Entry → (table : ℕ) → (after : Option (List ℕ)) → Option (List ℕ × ℕ) → Type 0
IsNextKey entries table after found = IsFirstPast (has_key_at entries table) after found

-- ---- how they are found

-- the entry's slot, where it stands under the field of the other
abbrev pub slot_there : (entry other : Entry) → Option ℕ
slot_there entry other = if same_place entry other then Some entry.slot else None

abbrev pub key_in : Field → (slot : ℕ) → Option (List ℕ × ℕ)
key_in (Key key) slot = Some (key, slot)
key_in (Tag tag) slot = None

-- the key and the slot of an entry by key of this table
abbrev pub key_there : Entry → (table : ℕ) → Option (List ℕ × ℕ)
key_there entry table = if entry.table == table then key_in entry.field entry.slot else None

-- no bytes are between a key and the same with a zero behind it
abbrev pub least_past : Option (List ℕ) → List ℕ
least_past None = []
least_past (Some key) = key ++ 0 ∷ []
