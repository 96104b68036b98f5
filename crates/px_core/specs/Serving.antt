-- What a session's call does to what a core keeps, where that has no error.
use Rattle.std.specs.Prelude.{◌≡◌, ⊤, ℕ, ◌+◌, ◌<◌, true, length, Option, Some, None, Result, IfOk, IfErr, IsSomeAnd, OnOk, OnErr}
use Rattle.px_active.specs.Active.{AreStored, IsActiveOf, MayTake}
use Rattle.px_answers.specs.Reading.{ReadsOnly}
use Rattle.px_answers.specs.Writing.{reply_done}
use Rattle.px_calls.specs.declared.call.Call.{Call}
use Rattle.px_calls.specs.declared.call.Call.TheVariants.{Delete, Insert, Update}
use Rattle.px_calls.specs.declared.reply.Reply.{Reply}
use Rattle.px_calls.specs.Steps.{is_refusal, open_of, reply_of, state_after}
use Rattle.px_cell_laws.specs.Locating.{AreWrittenAt}
use Rattle.px_chain_laws.specs.Writing.{write_of}
use Rattle.px_committed.specs.Rows.{first_past}
use Rattle.px_held.specs.declared.error.HeldError.{HeldError}
use Rattle.px_held.specs.declared.error.HeldError.TheVariants as held
use Rattle.px_held.specs.Linking.{HasPlaceFor, IsNextPlace}
use Rattle.px_history.specs.Fitting.{IsStoredNumber}
use Rattle.px_history.specs.Store.{Store}
use Rattle.px_logged.specs.Recounting.{rows_now}
use Rattle.px_model.specs.declared.key.KeyOf.{KeyOf}
use Rattle.px_model.specs.declared.limits.TheConstants.{MOST_WRITES}
use Rattle.px_model.specs.declared.machine.Open.{Open}
use Rattle.px_model.specs.declared.row.Row.{Row}
use Rattle.px_model.specs.declared.write.Write.{Write}
use Rattle.px_model.specs.Machine.{Machine}
use Rattle.px_model.specs.Rows.{key_written}
use Rattle.px_site.specs.Cause.{Counts, NoneFell}
use Rattle.px_site.specs.State.{EachMoment, State}
use Rattle.px_standing.specs.Images.{LeavesOthers}
use Rattle.px_tables.specs.Linking.{FitsSlot, bytes_of_key}
use Rattle.px_working.specs.Follows.{last_store}
use Rattle.px_xacts.specs.Transactions as xacts
use Rattle.px_core.specs.Core.{HasRowCause, IsWell, MayMeet}
use Rattle.px_core.specs.Errors.{IsPassing}
use Rattle.px_core.specs.Working.{Answers, FindsFull, Refuses, StandsWithin, WorksFor}
use Rattle.px_core.specs.declared.error.CoreError.{CoreError}
use Rattle.px_core.specs.declared.state.Kept.{Kept}
use Rattle.px_core.specs.declared.state.writing.Ready.{Ready}

-- ---- a call that changes no cell and adds no frame

-- the call may meet the fault
abbrev pub MeetsOwn : Call → HeldError → Type 0
MeetsOwn call held.OutOfMemory = ⊤
MeetsOwn call (held.Fault fault) = MayMeet call fault
MeetsOwn call (held.Damaged file place) = ⊤

-- It only reads, and is answered as the machine answers it.
pub record Reads {W : Type 0} (tells : Type 0) (state : W → State) (counts : W → Counts) (session : ℕ) (call : Call) (old new : Kept W)
    (result : Result Reply HeldError) : Type 0 where
  pub rest : new ≡ record old { site = new.site; held = new.held; active = new.active }
  pub reads : ReadsOnly tells state counts old.site new.site old.held new.held result
  pub meets : IfErr result (MeetsOwn call)
  pub commits : new.active.commits ≡ old.active.commits
  pub stored : AreStored old.active.xacts → AreStored new.active.xacts
  pub err : OnErr result (new.active ≡ old.active)
  pub written : (store : Store) → AreWrittenAt old.active.xacts store → OnOk result (AreWrittenAt new.active.xacts store)
  pub reply : tells → (m : Machine) → WorksFor state old m → IfOk result (λ reply. reply ≡ reply_of m session call)
  pub active : tells → (m : Machine) → WorksFor state old m → OnOk result (IsActiveOf (state_after m session call) new.active)

-- ---- any call

-- What the call does. Of a machine that the core works for it is said where this is so.
pub record Does {W : Type 0} (tells : Type 0) (state : W → State) (counts : W → Counts) (session : ℕ) (call : Call) (old new : Kept W)
    (Holds : (m : Machine) → WorksFor state old m → Type 0) (result : Result Reply CoreError) : Type 0 where
  pub answered : tells → (m : Machine) (works : WorksFor state old m) → Holds m works → IfOk result (Answers state session call m old new)
  pub moments : tells → (m : Machine) (works : WorksFor state old m) → Holds m works → StandsWithin state session call m old new
  pub others : tells → (m : Machine) → WorksFor state old m → EachMoment (LeavesOthers (state old.site).now) (state old.site) (state new.site)
  pub refused : IfErr result (Refuses tells state counts call old new)
  pub full : tells → (m : Machine) (works : WorksFor state old m) → Holds m works → IfErr result (FindsFull session call m old)
  pub sound : tells → IfErr result IsPassing
  pub steady : OnOk result (new.error ≡ None)
  pub well : IsWell state new
  pub none_fell : NoneFell (counts old.site) (counts new.site)

abbrev pub Serves : {W : Type 0} → Type 0 → (W → State) → (W → Counts) → ℕ → Call → Kept W → Kept W → Result Reply CoreError → Type 0
Serves tells state counts session call old new result = Does tells state counts session call old new (λ m works. ⊤) result

-- ---- a write

-- the call writes a row of a table whose number fits a byte
abbrev pub IsSmallWrite : Call → Type 0
IsSmallWrite (Insert table key tag body) = table < 256
IsSmallWrite (Update table key tag body) = table < 256
IsSmallWrite (Delete table key) = table < 256
IsSmallWrite _ = ⊥

-- the version fits a slot, goes to that place of its table, and one more write may be added to the writer's
pub record HasRoom {W : Type 0} (core : Kept W) (session : ℕ) (call : Call) (ready : Ready) : Type 0 where
  pub small : IsSmallWrite call
  pub write : Write
  pub is : write_of call ≡ Some write
  pub fits : FitsSlot core.held.short write
  pub place : HasPlaceFor core.held (key_written write).0 (bytes_of_key write) ready.place
  pub stored : IsStoredNumber ready.writer.stored
  pub few : IsSomeAnd (xacts.open_of core.active.xacts session) (λ transaction. length transaction.writes < MOST_WRITES)
  pub may_take : MayTake (key_written write) ready.writer.number core.active.locks

-- the writer is the session's transaction in the machine, which answers the call as done, and that place is the store's next one
pub record MayPut (m : Machine) (store : Store) (session : ℕ) (call : Call) (ready : Ready) : Type 0 where
  pub xact : Open
  pub is_open : open_of m session ≡ Some xact
  pub number : ready.writer.number ≡ xact.number
  pub stored : ready.writer.stored ≡ m.base + xact.number
  pub done : reply_of m session call ≡ reply_done call
  pub place : (write : Write) → write_of call ≡ Some write → IsNextPlace (store.tables (key_written write).0) (bytes_of_key write) ready.place

-- Where the write's version goes, or why it isn't made.
pub record Finds {W : Type 0} (tells : Type 0) (state : W → State) (counts : W → Counts) (session : ℕ) (call : Call) (old new : Kept W)
    (result : Result (Result Ready Reply) HeldError) : Type 0 where
  pub rest : new ≡ record old { site = new.site; held = new.held }
  pub reads : ReadsOnly tells state counts old.site new.site old.held new.held result
  pub room : IfOk result (λ answer. IfOk answer (HasRoom new session call))
  pub may : tells → (m : Machine) (works : WorksFor state old m) → IfOk result (λ answer. IfOk answer (MayPut m (last_store works.life) session call))
  pub refusal : IfOk result (λ answer. IfErr answer (λ reply. is_refusal reply ≡ true))
  pub refused : tells → (m : Machine) → WorksFor state old m → IfOk result (λ answer. IfErr answer (λ reply. reply ≡ reply_of m session call))

-- ---- the committed rows

-- The answer is the first row past a key among the machine's that are committed now. It only reads.
pub record Walks {W : Type 0} (tells : Type 0) (state : W → State) (counts : W → Counts) (after : Option KeyOf) (old new : Kept W)
    (result : Result (Option Row) CoreError) : Type 0 where
  pub row : tells → (m : Machine) → WorksFor state old m → IfOk result (λ row. row ≡ first_past after (rows_now m))
  pub rest : new ≡ record old { site = new.site; held = new.held }
  pub same : tells → state new.site ≡ state old.site
  pub works : tells → (m : Machine) → WorksFor state old m → WorksFor state new m
  pub cause : IfErr result (HasRowCause counts old new)
  pub sound : tells → IfErr result IsPassing
  pub well : IsWell state new
  pub none_fell : NoneFell (counts old.site) (counts new.site)
