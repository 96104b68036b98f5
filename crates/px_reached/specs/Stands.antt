-- What files of cells stand for.
use Rattle.std.specs.Prelude.{◌≡◌, ℕ, ◌+◌, ◌-◌, ◌<◌, ◌≤◌, List, [], drop, length, map}
use Rattle.px_site.specs.declared.name.FileName.TheVariants.{Restart as RestartFile, Xlog}
use Rattle.px_apply.specs.Contents.{Contents}
use Rattle.px_change.specs.declared.change.Change.{Change}
use Rattle.px_change.specs.Text.{change_text}
use Rattle.px_model.specs.declared.row.Row.{Row}
use Rattle.px_restart.specs.declared.restart.Restart.{Restart}
use Rattle.px_restart.specs.Restart.{IsPicked}
use Rattle.px_opened.specs.Opened.{Opens, changes_over}
use Rattle.px_shown.specs.Parts.{Parts}
use Rattle.px_shown.specs.Shown.{Shows}
use Rattle.px_shown.specs.Tables.{Layouts, Tables}
use Rattle.px_life.specs.Front.{AreStored, commits_by, done_by}
use Rattle.px_life.specs.Life.{MayStand}
use Rattle.px_filed.specs.Filed.{file_places}
use Rattle.px_reached.specs.Scanned.{last_scanned, scan}

-- What the scan of a restart finds in the files.
pub record Finds (files : Contents) (restart : Restart) (changes : List Change) (found : Tables) (layouts : Layouts) : Type 0 where
  pub picked : IsPicked (files (RestartFile 0)) (files (RestartFile 1)) restart
  pub scanned : scan restart files ≡ map change_text changes
  pub held : MayStand restart.tables restart.first restart.short changes
  pub reached : restart.durable ≤ restart.first + length changes
  pub behind : (segment : ℕ) → last_scanned restart files < segment → files (Xlog segment) ≡ []
  pub opens : Opens restart.short restart.tables (changes_over (file_places restart.short files) (drop (restart.redo - restart.first) changes)) found layouts
  pub numbers : AreStored found layouts

-- over these data logs the files stand for this number of commits and these rows
pub record StandsFor (parts : Parts) (files : Contents) (commits : ℕ) (rows : List Row) : Type 0 where
  pub restart : Restart
  pub changes : List Change
  pub found : Tables
  pub layouts : Layouts
  pub finds : Finds files restart changes found layouts
  pub shows : Shows parts found layouts (done_by restart changes) rows
  pub commits_are : commits ≡ commits_by restart changes
