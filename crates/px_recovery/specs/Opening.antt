-- What opening a store finds, and what it leaves of the site at each moment.
use Rattle.std.specs.Prelude.{◌≡◌, ℕ, ◌-◌, List, [], length, None, Result, Ok, Err}
use Rattle.std.specs.declared.alloc.Global.{Global}
use Rattle.px_active.specs.declared.active.Active.{Active}
use Rattle.px_change.specs.declared.change.Change.{Change}
use Rattle.px_core.specs.Core.{durable_of, frames_of}
use Rattle.px_core.specs.Working.{MayBegin, WorksFor}
use Rattle.px_core.specs.declared.state.Kept.{Kept}
use Rattle.px_laid.specs.Places.{none_laid}
use Rattle.px_life.specs.Front.{AreStored, commits_by}
use Rattle.px_life.specs.Life.{Life}
use Rattle.px_log.specs.Contents.{Scans}
use Rattle.px_opened.specs.Opened.{Opens, changes_over}
use Rattle.px_reached.specs.Reachable.{Marks}
use Rattle.px_restart.specs.Restart.{IsPicked}
use Rattle.px_restart.specs.declared.restart.Restart.{Restart}
use Rattle.px_shown.specs.Tables.{Layouts, Tables}
use Rattle.px_site.specs.State.{Moment, State}
use Rattle.px_model.specs.declared.row.Row.{Row}
use Rattle.px_standing.specs.Files.{Files, first_restart, second_restart}
use Rattle.px_tidying.specs.Opening.{Opening}
use Rattle.px_xlog.specs.Contents.{the_log}
use Rattle.px_cell_standing.specs.Found.{Found, IsFound, machine_of}
use Rattle.px_cell_standing.specs.Standing.{StandsFor}
use Rattle.px_recovery.specs.declared.opening.NotOpened.{NotOpened}
use Rattle.px_recovery.specs.declared.opening.OpenReport.{OpenReport}
use Rattle.px_recovery.specs.declared.opening.Opened.{Opened}
use Rattle.px_recovery.specs.declared.opening.Parts.{Parts}

-- ---- what

abbrev pub report_of : Found → OpenReport
report_of found = record { commits = found.commits; rows = length found.rows; redone = found.redone }

-- What was opened is what the files say: which restart counts, the changes of the log, and the tables to which their cells open.
pub record OpensAs (files : Files) (report : OpenReport) : Type 0 where
  pub restart : Restart
  pub picked : IsPicked (first_restart files) (second_restart files) restart
  pub changes : List Change
  pub scan : Scans restart (files the_log) changes
  pub tables : Tables
  pub layouts : Layouts
  pub opens : Opens restart.short restart.tables (changes_over none_laid changes) tables layouts
  pub stored : AreStored tables layouts
  pub commits_are : report.commits ≡ commits_by restart changes
  pub redone_are : report.redone ≡ length changes - restart.redo

-- what was opened is this, all of its log synced, and the core works for the machine that starts there
pub record OpensTo {W : Type 0} (state : W → State) (found : Found) (core : Kept W) (report : OpenReport) : Type 0 where
  pub report_is : report ≡ report_of found
  pub frames : frames_of core ≡ found.frames
  pub durable : durable_of core ≡ found.frames
  pub works : WorksFor state core (machine_of found)

-- the same without the core: the machine that starts there may begin to work
pub record BeginsWith (found : Found) (o : Opening) (active : Active) (report : OpenReport) : Type 0 where
  pub report_is : report ≡ report_of found
  pub frames : o.log.frames ≡ found.frames
  pub durable : o.log.durable ≡ found.frames
  pub life : Life
  pub restart : Restart
  pub marks : Marks
  pub may : MayBegin (machine_of found) life restart marks o active

-- the core of these parts over a site
abbrev pub core_of : {W : Type 0} → Global → W → Parts → Kept W
core_of alloc site parts = record { alloc = alloc; site = site; held = parts.held; active = parts.active; log = parts.log; error = None }

-- the site comes out of both answers
abbrev pub site_after : {W : Type 0} → Result (Opened W) (NotOpened W) → W
site_after (Ok opened) = opened.core.site
site_after (Err refused) = refused.site

-- no two stores are found in the same files
abbrev pub FindsOne : Type 0
FindsOne = (files : Files) (found other : Found) → IsFound found files → IsFound other files → found ≡ other

-- files stand for one number of commits, and for one list of rows
abbrev pub StandsForOne : Type 0
StandsForOne = (files : Files) (count counted : ℕ) (rows others : List Row) → StandsFor files count rows → StandsFor files counted others → (count ≡ counted) × (rows ≡ others)

-- ---- at each moment

-- nothing is told meanwhile
pub record TellsNothing (before m : Moment) : Type 0 where
  pub told : m.told ≡ before.told
  pub telling : m.telling ≡ []
