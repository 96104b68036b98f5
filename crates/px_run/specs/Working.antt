-- What is done before the line that a call ends with, for private clauses.
use Rattle.std.specs.Prelude.{◌≡◌, ◌⊎◌, ⊤, ℕ, ◌+◌, ◌-◌, ◌<◌, ◌≤◌, List, ◌++◌, length, map, take, Result, Ok, Err}
use Rattle.px_site.specs.State.{State, spoke}
use Rattle.px_site.specs.declared.error.Fault.TheVariants.{Read}
use Rattle.px_site.specs.Cause.{Counts, Rose}
use Rattle.px_model.specs.declared.row.Row.{Row}
use Rattle.px_model.specs.Machine.{Machine}
use Rattle.px_calls.specs.declared.status.Status.{Status}
use Rattle.px_calls.specs.declared.status.Status.TheVariants.{Done, Usage, NoStore, Damaged, DiskFault, OutputFault, OutOfMemory}
use Rattle.px_calls.specs.Closing.{closing_line}
use Rattle.px_calls.specs.Texts.{row_line}
use Rattle.px_script.specs.Lines.{lines_at_end}
use Rattle.px_cell_standing.specs.Found.{Found, HoldsStore, machine_of}
use Rattle.px_recovery.specs.Making.{IsFree}
use Rattle.px_play.specs.Input.{script_of}
use Rattle.px_play.specs.Playing.{AreNumbered, IsSpared, OnShort, UnlessBroken}
use Rattle.px_play.specs.Told.{joined, IsTold}
use Rattle.px_run.specs.Dumping.{DumpEnds, OnDone, dump_pieces}
use Rattle.px_run.specs.Making.{MakeEnds, made_pieces}
use Rattle.px_run.specs.Running.{RunEnds, TakesBehind, UnlessNoRoom, answers_made, engine_of, machine_after, machine_left, run_pieces}
use Rattle.px_run.specs.Told.{OnlyTells, TellFailed}

-- ---- one piece

-- a piece is told whole, or a front of it at an output's fault, or nothing for want of memory
abbrev pub TellsPiece : List ℕ → State → State → Result (Unit {0}) Status → Type 0
TellsPiece piece old new (Ok _) = new ≡ spoke piece piece old
TellsPiece piece old new (Err OutputFault) = (n : ℕ) × (new ≡ spoke piece (take n piece) old)
TellsPiece piece old new (Err OutOfMemory) = new ≡ old
TellsPiece piece old new (Err _) = ⊥

abbrev pub HasTellCause : Counts → Counts → Status → Type 0
HasTellCause old new OutputFault = Rose old.tell_faults new.tell_faults
HasTellCause old new OutOfMemory = ⊤
HasTellCause old new _ = ⊥

-- the line that the status ends with was told, all of it unless the tell failed, and nothing else was done
pub record Closes (status : Status) (old new : State) (counts counts_now : Counts) : Type 0 where
  pub front : ℕ
  pub is : (new ≡ spoke (closing_line status) (take front (closing_line status)) old) ⊎ ((new ≡ old) × (front ≡ 0))
  pub cut : front < length (closing_line status) → TellFailed counts counts_now

-- ---- a refusal

-- nothing is told, and nothing was done where no store is
abbrev pub RefusesQuietly : (old new : State) → Status → Type 0
RefusesQuietly old new Usage = new ≡ old
RefusesQuietly old new NoStore = new ≡ old
RefusesQuietly old new (Damaged file place) = new.now.told ≡ old.now.told
RefusesQuietly old new _ = ⊤

-- ---- each word

pub record MakesStore (tables short : ℕ) (old new : State) (status : Status) : Type 0 where
  pub whole : ℕ
  pub ends : MakeEnds tables short old new whole status
  pub spared : (IsFree old.content → ⊥) → OnlyTells old new
  pub told : IsTold (made_pieces tables short) whole status old new

-- why a row isn't told: it isn't read, or not told
abbrev pub HasRowCause : Counts → Counts → Status → Type 0
HasRowCause old new (DiskFault fault) = (fault ≡ Read) × Rose (old.faults Read) (new.faults Read)
HasRowCause old new (Damaged file place) = ⊤
HasRowCause old new status = HasTellCause old new status

abbrev pub HasDumpCause : Counts → Counts → Status → Type 0
HasDumpCause old new Done = ⊤
HasDumpCause old new status = HasRowCause old new status

-- the rows are told, one line after the other
abbrev pub TellsLines : List Row → State → State → Result (Unit {0}) Status → Type 0
TellsLines rows old new (Ok _) = new.now.told ≡ old.now.told ++ joined (map row_line rows)
TellsLines rows old new (Err status) = (whole : ℕ) × (whole < length rows) × IsTold (map row_line rows) whole status old new

pub record TellsRows (found : Found) (old new : State) (status : Status) : Type 0 where
  pub whole : ℕ
  pub ends : DumpEnds found whole status
  pub told : IsTold (dump_pieces found.rows) whole status old new

pub record DumpsRows (found : Found) (old new : State) (status : Status) : Type 0 where
  pub tells : TellsRows found old new status
  pub holds : OnDone status (HoldsStore (machine_of found) new)

-- what `run` told, and what holds of the machine after the requests
pub record RunsBy (Holds : Machine → Type 0) (found : Found) (input left : List ℕ) (old new : State) (counts counts_now : Counts) (status : Status) : Type 0 where
  pub taken : List ℕ
  pub in_order : input ≡ taken ++ left
  pub whole : ℕ
  pub read_before : whole ≤ 1 + length (lines_at_end taken)
  pub behind : TakesBehind input left whole
  pub ends : RunEnds found (script_of input) taken whole status
  pub told : IsTold (run_pieces found (script_of input)) whole status old new
  pub holds : UnlessNoRoom status whole (UnlessBroken status (Holds (machine_left found (script_of input) whole status)))
  pub spared : OnShort status (1 ≤ whole → IsSpared (λ requests. Holds (machine_after found requests)) (script_of input) (whole - 1) counts counts_now)
  pub numbered : AreNumbered (engine_of found) (take (answers_made status whole) (script_of input))

-- the site is a store that has all that this machine did
abbrev pub RunsScript : Found → (input left : List ℕ) → (old new : State) → (counts counts_now : Counts) → Status → Type 0
RunsScript found input left old new counts counts_now status = RunsBy (λ m. HoldsStore m new) found input left old new counts counts_now status
