-- What was opened goes on where its tables are only read.
use Rattle.std.proofs.Common.{ℕ, List, sym, subst}
use Rattle.px_answers.specs.Reading.{Stays}
use Rattle.px_held.specs.Serving.{HeldTables}
use Rattle.px_history.specs.Store.{Store}
use Rattle.px_model.specs.declared.row.Row.{Row}
use Rattle.px_restart.specs.declared.restart.Restart.{Restart}
use Rattle.px_shown.specs.Parts.{no_parts}
use Rattle.px_site.specs.Cause.{Counts}
use Rattle.px_site.specs.State.{State}
use Rattle.px_tidying.proofs.Composing.{OnlyReads, still_life}
use Rattle.px_tidying.proofs.Readying.{held_reads}
use Rattle.px_tidying.specs.Opening.{HasStore, opening}
use Rattle.px_cell_opening.specs.Opened.{WorksFrom, machine_of}
use Rattle.px_cell_opening.specs.declared.opening.Cells.{Cells}
use Rattle.px_cell_standing.specs.Found.{CanBeFound}

module _ {W : Type 0} (tells : Type 0) (state : W → State) (counts : W → Counts) (a b : W) (cells : Cells) (after : HeldTables)
    (stays : Stays tells state counts a b cells.held after) where
  only_reads : OnlyReads tells (opening (state a) cells.held cells.log) (opening (state b) after cells.log)
  only_reads = held_reads tells (state a) (state b) cells.held after cells.log stays.keeps stays.form stays.same

  pub still_has : ((store : Store) × HasStore store (opening (state a) cells.held cells.log)) → (store : Store) × HasStore store (opening (state b) after cells.log)
  still_has has = (has.0, only_reads.store has.0 has.1)

  pub still_works : tells → (restart : Restart) (commits : ℕ) (rows : List Row) → WorksFrom restart commits rows (state a) cells
      → WorksFrom restart commits rows (state b) (record cells { held = after })
  still_works t restart commits rows works =
      let m = machine_of restart commits rows cells.base in
      record {
        commits_are = works.commits_are;
        life = works.life;
        marks = works.marks;
        has = still_life tells no_parts commits m works.life restart works.marks (opening (state a) cells.held cells.log) (opening (state b) after cells.log) only_reads t works.has;
        works = works.works;
        found = subst (λ (s : State). CanBeFound m works.life restart s.now) (sym (stays.same t)) works.found;
        durable = works.durable;
      }
