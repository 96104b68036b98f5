-- Keys that writes are of, and the keys of a machine.
use Rattle.std.specs.Prelude.{◌≡◌, ◌≤◌, Bool, List, [], Option, Some, None, count_by}
use Rattle.px_model.specs.declared.row.Row.{Row}
use Rattle.px_model.specs.declared.write.Write.{Write}
use Rattle.px_model.specs.declared.write.Write.TheVariants.{Put, Delete}
use Rattle.px_model.specs.Rows.{Key, same_key, key_written}
use Rattle.px_model.specs.Machine.{Machine}
use Rattle.px_model.specs.Chains.{chain}

-- what a write leaves at its key
abbrev pub row_written : Write → Option Row
row_written (Put row) = Some row
row_written (Delete table key) = None

abbrev pub is_of : Key → Write → Bool
is_of key write = same_key key (key_written write)

-- each key that has a chain is among these, and none stands there twice
pub record AreKeysOf (m : Machine) (keys : List Key) : Type 0 where
  pub once : (key : Key) → count_by (λ k. same_key k key) keys ≤ 1
  pub all : (key : Key) → count_by (λ k. same_key k key) keys ≡ 0 → chain m key ≡ []
