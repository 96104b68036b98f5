-- Who holds which key, while a machine is called.
use Rattle.std.specs.Prelude.{◌≡◌, ℕ, true, List, Option, Some, None, if◌then◌else◌, slice_index_or}
use Rattle.px_calls.specs.Steps.{open_writer}
use Rattle.px_locks.specs.Holders.{Holders, holder_of, unless_held_by}
use Rattle.px_model.specs.declared.machine.Open.{Open}
use Rattle.px_model.specs.declared.write.Write.{Write}
use Rattle.px_model.specs.Machine.{Machine}
use Rattle.px_model.specs.Rows.{Key, has_write_of, key_written, same_key}

-- the holder of a key is the open transaction that has written it
abbrev pub HoldsKeys : Machine → Holders → Type 0
HoldsKeys m holders = (key : Key) → holder_of key holders ≡ open_writer key m.active

-- no key is written by two open transactions
pub record WriteApart (active : List (Option Open)) : Type 0 where
  pub alone : (one other : ℕ) (x y : Open) (key : Key) → slice_index_or active one None ≡ Some x → slice_index_or active other None ≡ Some y
      → has_write_of key x.writes ≡ true → has_write_of key y.writes ≡ true → one ≡ other

-- the key of the write is taken by the transaction of that number
abbrev pub Takes : Write → (number : ℕ) → (old new : Holders) → Type 0
Takes write number old new = (key : Key) → holder_of key new ≡ (if same_key key (key_written write) then Some number else holder_of key old)

-- the keys of these writes are taken from the transaction of that number, where it holds them
abbrev pub Releases : List Write → (number : ℕ) → (old new : Holders) → Type 0
Releases writes number old new = (key : Key) → holder_of key new
    ≡ (if has_write_of key writes then unless_held_by number (holder_of key old) else holder_of key old)
