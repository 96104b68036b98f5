-- `dump`: what it told, and what it left.
use Rattle.std.specs.Prelude.{◌≡◌, ℕ, ◌≤◌, List, ◌∷◌, length, map}
use Rattle.px_site.specs.State.{State}
use Rattle.px_site.specs.Cause.{Counts}
use Rattle.px_model.specs.declared.row.Row.{Row}
use Rattle.px_calls.specs.declared.status.Status.{Status}
use Rattle.px_calls.specs.declared.status.Status.TheVariants.{Done, DiskFault, OutputFault, OutOfMemory, LogFull}
use Rattle.px_calls.specs.Texts.{count_line, row_line}
use Rattle.px_cell_standing.specs.Found.{Found, HoldsStore, machine_of}
use Rattle.px_run.specs.Running.{FindsNoRoom}
use Rattle.px_run.specs.Told.{TellsInAll}

-- how many rows there are, and each of them
unfoldable pub dump_pieces : List Row → List (List ℕ)
dump_pieces rows = count_line (length rows) ∷ map row_line rows

-- how many pieces were told whole, by the status
abbrev pub DumpEnds : Found → (whole : ℕ) → Status → Type 0
DumpEnds found whole Done = whole ≡ length (dump_pieces found.rows)
DumpEnds found whole OutputFault = whole ≤ length found.rows
DumpEnds found whole (DiskFault fault) = whole ≤ length found.rows
DumpEnds found whole OutOfMemory = whole ≤ length found.rows
DumpEnds found whole (LogFull n) = (whole ≡ 0) × FindsNoRoom found n
DumpEnds found whole _ = ⊥

abbrev pub OnDone : Status → Type 0 → Type 0
OnDone Done P = P
OnDone _ P = Unit {0}

-- what `dump` told, and that the site stands for the same as before, whatever a crash leaves of it
pub record DumpsRight (found : Found) (old new : State) (counts counts_now : Counts) (status : Status) : Type 0 where
  pub whole : ℕ
  pub ends : DumpEnds found whole status
  pub told : TellsInAll (dump_pieces found.rows) whole status old new counts counts_now
  pub holds : OnDone status (HoldsStore (machine_of found) new)
