-- Rows, and what writes leave of them.
use Rattle.std.specs.Prelude.{ℕ, Bool, not, List, [], ◌∷◌, map, Option, Some, None, if◌then◌else◌, filter, fold}
use Rattle.std.specs.List.{list_any}
use Rattle.std.specs.declared.cmp.Ordering.{Ordering}
use Rattle.std.specs.Ordering.{nat_cmp, ordering_then, eq_by_cmp}
use Rattle.std.specs.Cmp.Lexicographic.{slice_cmp}
use Rattle.std.specs.FinMap.Entries.{by_order, is_sorted}
use Rattle.px_model.specs.declared.row.Row.{Row}
use Rattle.px_model.specs.declared.write.Write.{Write}
use Rattle.px_model.specs.declared.write.Write.TheVariants.{Put, Delete}

-- a row is named by its table and its key
abbrev pub Key : Type 0
Key = ℕ × List ℕ

-- by table, and then by the key's bytes
unfoldable pub key_cmp : Key → Key → Ordering
key_cmp a b = ordering_then (nat_cmp a.0 b.0) (slice_cmp nat_cmp a.1 b.1)

unfoldable pub same_key : Key → Key → Bool
same_key a b = eq_by_cmp key_cmp a b

abbrev pub key_of : Row → Key
key_of row = (row.table, row.key)

abbrev pub entries : List Row → List (Key × Row)
entries rows = map (λ row. (key_of row, row)) rows

-- Rows are a finite map from keys: a list whose keys strictly rise.
abbrev pub in_order : List Row → Bool
in_order rows = is_sorted key_cmp (entries rows)

abbrev pub row_at : Key → List Row → Option Row
row_at key [] = None
row_at key (r ∷ rows) = if same_key key (key_of r) then Some r else row_at key rows

-- the row in its place, over the one that has its key
abbrev pub with_row : Row → List Row → List Row
with_row row [] = row ∷ []
with_row row (r ∷ rows) =
    by_order (key_cmp (key_of row) (key_of r)) (row ∷ r ∷ rows) (row ∷ rows) (r ∷ with_row row rows)

abbrev pub without_key : Key → List Row → List Row
without_key key rows = filter (λ row. not (same_key key (key_of row))) rows

abbrev pub after_write : List Row → Write → List Row
after_write rows (Put row) = with_row row rows
after_write rows (Delete table key) = without_key (table, key) rows

-- the rows after writes, in their order
abbrev pub after : List Row → List Write → List Row
after rows writes = fold after_write rows writes

abbrev pub key_written : Write → Key
key_written (Put row) = key_of row
key_written (Delete table key) = (table, key)

-- some write is of the key
abbrev pub has_write_of : Key → List Write → Bool
has_write_of key writes = list_any (λ write. same_key key (key_written write)) writes
