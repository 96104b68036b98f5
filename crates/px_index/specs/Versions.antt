-- When entries are those of versions.
use Rattle.std.specs.Prelude.{◌≡◌, ℕ, ◌==◌, ◌&&◌, Bool, false, List, Option, Some, None}
use Rattle.std.specs.List.{list_any}
use Rattle.std.specs.Cmp.Lexicographic.{slice_cmp}
use Rattle.std.specs.Ordering.{is_eq, nat_cmp}
use Rattle.px_index.specs.Listed.{has, with_entry, without_entry}
use Rattle.px_index.specs.Walks.{IsFirstPast, IsNext, entry_at}
use Rattle.px_index.specs.declared.entry.Entry.{Entry}
use Rattle.px_index.specs.declared.field.Field.{Field}
use Rattle.px_index.specs.declared.field.Field.TheVariants.{Key, Tag}

-- a linked version: its table, its key, its tag where it is a row, and its slot
pub record Version : Type 0 where
  pub table : ℕ
  pub key : List ℕ
  pub tag : Option ℕ
  pub slot : ℕ

abbrev pub has_tag : Option ℕ → (tag : ℕ) → Bool
has_tag None tag = false
has_tag (Some its) tag = tag == its

-- the version has this key, or is a row with this tag
abbrev pub is_under : Field → Version → Bool
is_under (Key key) version = is_eq (slice_cmp nat_cmp key version.key)
is_under (Tag tag) version = has_tag version.tag tag

-- the entry is one of the version's
abbrev pub is_entry_of : Entry → Version → Bool
is_entry_of entry version = entry.table == version.table && entry.slot == version.slot && is_under entry.field version

-- Each version has an entry by its key, and one by its tag too where it is a row. Nothing else is there.
unfoldable pub AreEntries : List Version → List Entry → Type 0
AreEntries versions entries = (entry : Entry) → has entries entry ≡ list_any (is_entry_of entry) versions

-- ---- a version comes, or goes

abbrev pub key_entry : Version → Entry
key_entry version = entry_at version.table (Key version.key) version.slot

abbrev pub with_tag : List Entry → Version → Option ℕ → List Entry
with_tag entries version None = entries
with_tag entries version (Some tag) = with_entry entries (entry_at version.table (Tag tag) version.slot)

-- with the version's entries
abbrev pub with_version : List Entry → Version → List Entry
with_version entries version = with_tag (with_entry entries (key_entry version)) version version.tag

abbrev pub without_tag : List Entry → Version → Option ℕ → List Entry
without_tag entries version None = entries
without_tag entries version (Some tag) = without_entry entries (entry_at version.table (Tag tag) version.slot)

-- without the version's entries
abbrev pub without_version : List Entry → Version → List Entry
without_version entries version = without_tag (without_entry entries (key_entry version)) version version.tag

abbrev pub is_beside : (version other : Version) → Bool
is_beside version other = other.table == version.table && other.slot == version.slot

-- no version stands in the slot of this one
abbrev pub HasFreeSlot : List Version → Version → Type 0
HasFreeSlot versions version = list_any (is_beside version) versions ≡ false

-- ---- what is found of versions

-- a version of the table stands in the slot, and has this key or this tag
abbrev pub has_version : List Version → (table : ℕ) → Field → (slot : ℕ) → Bool
has_version versions table field slot = list_any (is_entry_of (entry_at table field slot)) versions

abbrev pub IsNextVersion : List Version → (table : ℕ) → Field → (from : ℕ) → Option ℕ → Type 0
IsNextVersion versions table field from found = IsNext (has_version versions table field) from found

abbrev pub has_version_of : List Version → (table : ℕ) → (key : List ℕ) (slot : ℕ) → Bool
has_version_of versions table key slot = has_version versions table (Key key) slot

abbrev pub IsNextVersionKey : List Version → (table : ℕ) → (after : Option (List ℕ)) → Option (List ℕ × ℕ) → Type 0
IsNextVersionKey versions table after found = IsFirstPast (has_version_of versions table) after found
