-- The order of entries.
use Rattle.std.specs.Prelude.{◌≡◌, ℕ, Bool, false, List, []}
use Rattle.std.specs.Cmp.{IsTotalOrder, nat_cmp_total, on_total, then_total}
use Rattle.std.specs.Cmp.Lexicographic.{nat_list_cmp_total, slice_cmp}
use Rattle.std.specs.declared.cmp.Ordering.{Ordering}
use Rattle.std.specs.Ordering.{eq_by_cmp, is_gt, nat_cmp, on, then_cmp}
use Rattle.px_index.specs.declared.entry.Entry.{Entry}
use Rattle.px_index.specs.declared.field.Field.{Field}
use Rattle.px_index.specs.declared.field.Field.TheVariants.{Key, Tag}

abbrev pub kind_of : Field → ℕ
kind_of (Key key) = 1
kind_of (Tag tag) = 2

-- of a key; a tag has none
abbrev pub bytes_of : Field → List ℕ
bytes_of (Key key) = key
bytes_of (Tag tag) = []

-- of a tag; a key has 0
abbrev pub tag_of : Field → ℕ
tag_of (Key key) = 0
tag_of (Tag tag) = tag

-- keys before tags, keys by their bytes and tags by their numbers
abbrev pub field_cmp : Field → Field → Ordering
field_cmp = then_cmp (on kind_of nat_cmp) (then_cmp (on bytes_of (slice_cmp nat_cmp)) (on tag_of nat_cmp))

pub field_cmp_total : IsTotalOrder field_cmp
field_cmp_total = then_total (on_total kind_of nat_cmp_total) (then_total (on_total bytes_of nat_list_cmp_total) (on_total tag_of nat_cmp_total))

-- by table, and then by field
abbrev pub place_cmp : Entry → Entry → Ordering
place_cmp = then_cmp (on (λ entry. entry.table) nat_cmp) (on (λ entry. entry.field) field_cmp)

pub place_cmp_total : IsTotalOrder place_cmp
place_cmp_total = then_total (on_total (λ entry. entry.table) nat_cmp_total) (on_total (λ entry. entry.field) field_cmp_total)

-- by table, field and slot
abbrev pub entry_cmp : Entry → Entry → Ordering
entry_cmp = then_cmp place_cmp (on (λ entry. entry.slot) nat_cmp)

pub entry_cmp_total : IsTotalOrder entry_cmp
entry_cmp_total = then_total place_cmp_total (on_total (λ entry. entry.slot) nat_cmp_total)

abbrev pub same_entry : Entry → Entry → Bool
same_entry = eq_by_cmp entry_cmp

-- of one table, under one field
abbrev pub same_place : Entry → Entry → Bool
same_place = eq_by_cmp place_cmp

-- the first isn't past the second
abbrev pub IsUpTo : (entry other : Entry) → Type 0
IsUpTo entry other = is_gt (entry_cmp entry other) ≡ false
