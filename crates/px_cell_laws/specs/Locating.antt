-- Where the writes stand in the cells that a store's transactions keep.
use Rattle.std.specs.Prelude.{◌≡◌, ℕ, List, [], ◌++◌, drop, map, filter, flat_map, reverse, Option, Some, None}
use Rattle.px_cells.specs.declared.slot.Slot.{Slot}
use Rattle.px_chain.specs.Sound.{IsUsedRow, key_of}
use Rattle.px_history.specs.Store.{Store}
use Rattle.px_model.specs.Rows.{Key, same_key}
use Rattle.px_shown.specs.Changes.{taken_slot}
use Rattle.px_xacts.specs.declared.transaction.Transaction.{Transaction}
use Rattle.px_xacts.specs.declared.write.WriteAt.{WriteAt}
use Rattle.px_xacts.specs.Transactions.{Transactions}
use Rattle.px_xacts_laws.specs.Mirrors.{key_at}

abbrev pub writes_of : Option Transaction → List WriteAt
writes_of None = []
writes_of (Some transaction) = transaction.writes

-- the writes that aren't swept, in the order in which chains have them: those of ended transactions, then those of open ones
abbrev pub unswept_writes : Transactions → List WriteAt
unswept_writes all = map (λ entry. entry.write) all.queue ++ flat_map writes_of all.active

abbrev pub of_key : Key → List WriteAt → List WriteAt
of_key key writes = filter (λ write. same_key key (key_at write)) writes

-- its row pointer and its slot
abbrev pub place_of : WriteAt → ℕ × ℕ
place_of write = (write.row, write.slot)

-- where a version will stand that is linked next
abbrev pub write_at : Store → (t : ℕ) → Slot → WriteAt
write_at store t slot = record { table = t; row = slot.row; slot = taken_slot (store.tables t); key = slot.key }

-- the list begins with these
pub record BeginsWith {X : Type 0} (first list : List X) : Type 0 where
  pub others : List X
  pub split : list ≡ first ++ others

-- The chain of each row begins with the places of the unswept writes of its key, the newest first.
pub record AreWrittenAt (all : Transactions) (store : Store) : Type 0 where
  pub chains : (t row : ℕ) → IsUsedRow (store.tables t) row
      → BeginsWith (reverse (map place_of (of_key (t, key_of (store.tables t) row) (unswept_writes all)))) (map (λ slot. (row, slot)) ((store.layouts t).chain row))

-- where the sweeper has passed one more write
abbrev pub without_first : Transactions → Transactions
without_first all = record all { queue = drop 1 all.queue }
