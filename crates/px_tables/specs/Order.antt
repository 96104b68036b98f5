-- Keys in their order, by their bytes.
use Rattle.std.specs.Prelude.{◌≡◌, ◌≢◌, ℕ, List, Option, Some, None, ⊤}
use Rattle.std.specs.Cmp.Lexicographic.{slice_cmp}
use Rattle.std.specs.Ordering.{nat_cmp}
use Rattle.std.specs.declared.cmp.Ordering.TheVariants.{Less}
use Rattle.px_chain.specs.Sound.{IsUsedRow, key_of}
use Rattle.px_chain.specs.Table.{Table}
use Rattle.px_tables.specs.Keys.{IsRowOf, row_named}

abbrev pub IsBefore : (key other : List ℕ) → Type 0
IsBefore key other = slice_cmp nat_cmp key other ≡ Less

-- every key is past None
abbrev pub IsPast : Option (List ℕ) → (key : List ℕ) → Type 0
IsPast None key = ⊤
IsPast (Some after) key = IsBefore after key

-- ---- what keys name

abbrev pub NamesNonePast : List (List ℕ × ℕ) → (after : Option (List ℕ)) → Type 0
NamesNonePast keys after = (key : List ℕ) → IsPast after key → row_named keys key ≡ 0

-- the least key past another one that names a row
pub record IsNextName (keys : List (List ℕ × ℕ)) (after : Option (List ℕ)) (key : List ℕ) (row : ℕ) : Type 0 where
  pub some : row ≢ 0
  pub names : row_named keys key ≡ row
  pub past : IsPast after key
  pub least : (other : List ℕ) → IsPast after other → IsBefore other key → row_named keys other ≡ 0

-- ---- the keys of rows

abbrev pub HasNoKeyPast : Table → (after : Option (List ℕ)) → Type 0
HasNoKeyPast table after = (row : ℕ) → IsUsedRow table row → ¬ IsPast after (key_of table row)

-- the least key of a row past another one, and its row
pub record IsNextKey (table : Table) (after : Option (List ℕ)) (key : List ℕ) (row : ℕ) : Type 0 where
  pub its_row : IsRowOf table key row
  pub past : IsPast after key
  pub least : (other : ℕ) → IsUsedRow table other → IsPast after (key_of table other) → ¬ IsBefore (key_of table other) key
