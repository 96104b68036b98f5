-- Which version a call writes, and which calls end a transaction.
use Rattle.std.specs.Prelude.{◌≡◌, ◌⊎◌, ℕ, ◌+◌, Bool, true, false, Some}
use Rattle.px_model.specs.declared.machine.Open.{Open}
use Rattle.px_model.specs.Machine.{Machine}
use Rattle.px_cells.specs.declared.header.Header.{Header}
use Rattle.px_cells.specs.declared.slot.Slot.{Slot}
use Rattle.px_calls.specs.declared.call.Call.{Call}
use Rattle.px_calls.specs.declared.call.Call.TheVariants.{Commit, Rollback}
use Rattle.px_calls.specs.Steps.{is_refusal, open_of, reply_of}
use Rattle.px_chain.specs.Links.{BeginsRow, IsStored, VariesRow}
use Rattle.px_chain_laws.specs.Writing as calls
use Rattle.px_history.specs.Store.{Store}
use Rattle.px_shown.specs.Shown.{write_of}
use Rattle.px_shown.specs.Parts.{Parts}

-- The session's transaction writes by the call, which is answered; the slot is its version, and may be linked in this table
-- with that header.
pub record IsWriteBy (parts : Parts) (m : Machine) (store : Store) (session : ℕ) (call : Call) (t : ℕ) (header : Header) (slot : Slot)
    : Type 0 where
  pub xact : Open
  pub is_open : open_of m session ≡ Some xact
  pub answered : is_refusal (reply_of m session call) ≡ false
  pub write : calls.write_of call ≡ Some (write_of parts t slot)
  pub number : slot.xn ≡ m.base + xact.number
  pub stored : IsStored m.short slot
  pub link : BeginsRow (store.tables t) header slot ⊎ VariesRow (store.tables t) header slot

-- the call ends a transaction
abbrev pub is_end : Call → Bool
is_end Commit = true
is_end Rollback = true
is_end _ = false
