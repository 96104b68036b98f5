-- Entries as a list, and what calls do to it.
use Rattle.std.specs.Prelude.{◌≡◌, Bool, true, List, Option, MatchOption}
use Rattle.std.specs.List.{list_any}
use Rattle.std.specs.List.Sorted.{IsStrictlySortedBy}
use Rattle.std.specs.BTreeSet.{insert_key}
use Rattle.std.specs.Set.{remove_key}
use Rattle.px_index.specs.Order.{IsUpTo, entry_cmp, same_entry}
use Rattle.px_index.specs.declared.entry.Entry.{Entry}

abbrev pub has : List Entry → Entry → Bool
has entries entry = list_any (same_entry entry) entries

-- sorted, without twins
abbrev pub IsInOrder : List Entry → Type 0
IsInOrder entries = IsStrictlySortedBy entry_cmp entries

-- with the entry in its place; the same where it is there
abbrev pub with_entry : List Entry → Entry → List Entry
with_entry entries entry = insert_key entry_cmp entries entry

abbrev pub without_entry : List Entry → Entry → List Entry
without_entry entries entry = remove_key (same_entry entry) entries

-- ---- the next one

abbrev pub HasNoneFrom : List Entry → (from : Entry) → Type 0
HasNoneFrom entries from = (other : Entry) → has entries other ≡ true → ¬ IsUpTo from other

-- the least entry that isn't below this one
pub record IsLeastFrom (entries : List Entry) (from found : Entry) : Type 0 where
  pub is : has entries found ≡ true
  pub not_below : IsUpTo from found
  pub least : (other : Entry) → has entries other ≡ true → IsUpTo from other → IsUpTo found other

abbrev pub IsNextFrom : List Entry → (from : Entry) → Option Entry → Type 0
IsNextFrom entries from found = MatchOption found (HasNoneFrom entries from) (IsLeastFrom entries from)

-- ---- in memory

-- the entries are this list, in order
pub record IsListed (held entries : List Entry) : Type 0 where
  pub is : held ≡ entries
  pub in_order : IsInOrder entries
