-- Why an opening gives up, and what it leaves then.
use Rattle.std.proofs.Common.{◌≡◌, ◌≢◌, ◌<◌, ℕ, sym, ap, subst, ◌∙◌, inl, inr, arith, Result, Ok, Err}
use Rattle.std.specs.Prelude.{IfErr, IsErrAnd}
use Rattle.px_held.specs.Errors.{HasReadCause, IsPassing as PassesHeld}
use Rattle.px_held.specs.declared.error.HeldError.{HeldError}
use Rattle.px_held.specs.declared.error.HeldError.TheVariants as held
use Rattle.px_restart.specs.Restart.{IsPicked}
use Rattle.px_restart.specs.declared.restart.Restart.{Restart}
use Rattle.px_site.specs.Cause.{Counts, NoneFell, Rose}
use Rattle.px_site.specs.State.{State}
use Rattle.px_site.specs.declared.error.Fault as faults
use Rattle.px_site.specs.declared.error.Fault.TheVariants.{Read, Tell}
use Rattle.px_standing.specs.Files.{Files, HasNoRestart, first_restart, second_restart}
use Rattle.px_xlog.specs.Contents.{the_log}
use Rattle.px_cell_opening.specs.Errors.{HasCellsCause, HasNoRoom, IsDamage, IsFileFault, LeavesDamaged}
use Rattle.px_cell_opening.specs.Errors as cell
use Rattle.px_cell_opening.specs.declared.error.CellsError.{CellsError}
use Rattle.px_cell_opening.specs.declared.error.CellsError.TheVariants as cells
use Rattle.px_cell_standing.specs.Found.{Found}
use Rattle.px_recovery.specs.Errors.{CountsFault, FindsNoRoom, HasNoRoomIn, HasRefusal, KeepsContent, SaysNothing, open_of_cells, open_of_held}
use Rattle.px_recovery.specs.declared.error.OpenError.{OpenError}
use Rattle.px_recovery.specs.declared.error.OpenError.TheVariants.{OutOfMemory, Fault, NoStore, LogFull, Damaged}

-- ---- where a store is

pub no_absence : (files : Files) (restart : Restart) → IsPicked (first_restart files) (second_restart files) restart → HasNoRestart files → ⊥
no_absence files restart picked none = elim picked as (λ _. ⊥) [
  | inl first ↦ none.first restart first.0
  | inr second ↦ none.second restart second.0
]

-- ---- an error that is passed on

pub passed : {T : Type 0} (P : OpenError → Type 0) (result : Result T OpenError) (error : OpenError) → IsErrAnd result (λ e. e ≡ error) → P error → IfErr result P
passed P (Ok x) error is holds = tt
passed P (Err e) error is holds = subst P (sym is) holds

-- ---- of the cells

module _ (restart : Restart) (a c : State) (content : c.content ≡ a.content) (picked : IsPicked (first_restart a.content) (second_restart a.content) restart) where
  pub cells_refused : (error : CellsError) → cell.HasRefusal restart (c.content the_log) error → HasRefusal a.content (open_of_cells error)
  cells_refused cells.OutOfMemory refusal = tt
  cells_refused (cells.Fault fault) refusal = tt
  cells_refused (cells.LogFull frame) refusal = record {
    restart = restart;
    picked = picked;
    no_room = subst (λ (files : Files). HasNoRoom restart (files the_log) frame) content refusal;
  }
  cells_refused (cells.Damaged file place) refusal = record {
    restart = restart;
    picked = picked;
    damage = subst (λ (files : Files). IsDamage restart (files the_log) file place) content refusal;
  }

pub cells_kept : (a c d : State) → c.content ≡ a.content → (error : CellsError) → LeavesDamaged c d error → KeepsContent a d (open_of_cells error)
cells_kept a c d content cells.OutOfMemory left = tt
cells_kept a c d content (cells.Fault fault) left = tt
cells_kept a c d content (cells.LogFull frame) left = tt
cells_kept a c d content (cells.Damaged file place) left = ap (λ (s : State). s.content) left ∙ content

pub cells_fault : (a c d : Counts) (error : CellsError) → NoneFell a c → HasCellsCause c d error → IsFileFault error → CountsFault a d (open_of_cells error)
cells_fault a c d cells.OutOfMemory fell cause own = tt
cells_fault a c d (cells.Fault fault) fell cause own = (own, omega (arith, fell.faults fault, cause))
cells_fault a c d (cells.LogFull frame) fell cause own = cause
cells_fault a c d (cells.Damaged file place) fell cause own = tt

-- ---- of the rows

no_tell : (fault : faults.Fault) → fault ≡ Read → fault ≢ Tell
no_tell fault is other = absurd (read_tell (sym is ∙ other))
  where
    read_tell : Read ≡ Tell → ⊥
    read_tell e = cc

pub held_fault : (a c d : Counts) (error : HeldError) → NoneFell a c → HasReadCause c d error → CountsFault a d (open_of_held error)
held_fault a c d held.OutOfMemory fell cause = tt
held_fault a c d (held.Fault fault) fell cause =
    (no_tell fault cause.0, subst (λ (f : faults.Fault). Rose (a.faults f) (d.faults f)) (sym cause.0) (omega (arith, fell.faults Read, cause.1)))
held_fault a c d (held.Damaged file place) fell cause = tt

pub held_says_nothing : (error : HeldError) → PassesHeld error → SaysNothing (open_of_held error)
held_says_nothing held.OutOfMemory passes = tt
held_says_nothing (held.Fault fault) passes = tt
held_says_nothing (held.Damaged file place) passes = absurd passes

-- ---- an error that says nothing of the files

pub nothing_refused : (files : Files) (error : OpenError) → SaysNothing error → HasRefusal files error
nothing_refused files OutOfMemory says = tt
nothing_refused files (Fault fault) says = tt
nothing_refused files NoStore says = absurd says
nothing_refused files (LogFull frame) says = absurd says
nothing_refused files (Damaged file place) says = absurd says

pub nothing_kept : (a d : State) (error : OpenError) → SaysNothing error → KeepsContent a d error
nothing_kept a d OutOfMemory says = tt
nothing_kept a d (Fault fault) says = tt
nothing_kept a d NoStore says = absurd says
nothing_kept a d (LogFull frame) says = absurd says
nothing_kept a d (Damaged file place) says = absurd says

-- a fault that was counted behind other calls
pub later_fault : (a c d : Counts) (error : OpenError) → NoneFell a c → CountsFault c d error → CountsFault a d error
later_fault a c d OutOfMemory fell counts = tt
later_fault a c d (Fault fault) fell counts = (counts.0, omega (arith, fell.faults fault, counts.1))
later_fault a c d NoStore fell counts = tt
later_fault a c d (LogFull frame) fell counts = counts
later_fault a c d (Damaged file place) fell counts = tt

-- ---- of what is found

-- where the log is full, the frame that it doesn't take is one that what was found needs
pub no_room_found : (files : Files) (found : Found) → ((frame : ℕ) → HasNoRoomIn files frame → frame < found.frames) → (error : OpenError) → HasRefusal files error
    → FindsNoRoom found error
no_room_found files found below OutOfMemory refusal = tt
no_room_found files found below (Fault fault) refusal = tt
no_room_found files found below NoStore refusal = tt
no_room_found files found below (LogFull frame) refusal = (refusal.no_room.none_left, below frame refusal)
no_room_found files found below (Damaged file place) refusal = tt
