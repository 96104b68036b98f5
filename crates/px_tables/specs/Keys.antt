-- The rows that keys name.
use Rattle.std.specs.Prelude.{◌≡◌, ◌≢◌, ℕ, true, List, Option, is_some, unwrap_or}
use Rattle.std.specs.Ordering.{nat_cmp, is_eq}
use Rattle.std.specs.Cmp.Lexicographic.{slice_cmp}
use Rattle.std.specs.Map.{lookup}
use Rattle.px_chain.specs.Sound.{IsUsedRow, key_of}
use Rattle.px_chain.specs.Table.{Table}

-- what a key is entered with
unfoldable pub entry_in : List (List ℕ × ℕ) → (key : List ℕ) → Option ℕ
entry_in keys key = lookup (λ stored. is_eq (slice_cmp nat_cmp key stored)) keys

-- the row that it names, 0 for none: a key can be entered without a row
abbrev pub row_named : List (List ℕ × ℕ) → (key : List ℕ) → ℕ
row_named keys key = unwrap_or (entry_in keys key) 0

-- another row for the key takes no memory
abbrev pub IsEntered : List (List ℕ × ℕ) → (key : List ℕ) → Type 0
IsEntered keys key = is_some (entry_in keys key) ≡ true

-- the row has the key
abbrev pub IsRowOf : Table → (key : List ℕ) (row : ℕ) → Type 0
IsRowOf table key row = IsUsedRow table row × (key_of table row ≡ key)

-- no row has the key
abbrev pub HasNoRow : Table → (key : List ℕ) → Type 0
HasNoRow table key = (row : ℕ) → IsUsedRow table row → key_of table row ≢ key

-- each row's key names it, and what a key names has that key
pub record AreKeys (table : Table) (keys : List (List ℕ × ℕ)) : Type 0 where
  pub of_row : (row : ℕ) → IsUsedRow table row → row_named keys (key_of table row) ≡ row
  pub of_key : (key : List ℕ) → row_named keys key ≢ 0 → IsRowOf table key (row_named keys key)
