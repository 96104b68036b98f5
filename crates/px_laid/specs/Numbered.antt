-- Which bytes lie at which number.
use Rattle.std.specs.Prelude.{ℕ, List, Option, None, slice_index_or}
use Rattle.std.specs.BTreeMap.{get}
use Rattle.std.specs.List.{slice_get}
use Rattle.std.specs.Option.{option_and_then, option_copied, option_or}
use Rattle.std.specs.Ordering.{nat_cmp}
use Rattle.px_laid.specs.declared.numbered.NumberedCells.{NumberedCells}

-- what lies near, or else far
abbrev pub bytes_at : NumberedCells → (number : ℕ) → Option (List ℕ)
bytes_at cells number = option_or (option_copied (slice_index_or cells.near.items number None)) (option_copied (get nat_cmp cells.far number))

-- the same of tables that stand at their numbers
abbrev pub bytes_in : List NumberedCells → (table number : ℕ) → Option (List ℕ)
bytes_in tables table number = option_and_then (λ cells. bytes_at cells number) (slice_get tables table)
