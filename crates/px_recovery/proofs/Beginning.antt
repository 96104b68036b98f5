-- What was opened is what was found, and its machine may begin to work.
use Rattle.std.proofs.Common.{◌≡◌, ℕ, true, List, length, sym, ap, subst, ◌∙◌, arith}
use Rattle.px_active.specs.Active.{IsActiveOf}
use Rattle.px_active.specs.declared.active.Active.{Active}
use Rattle.px_cell_standing.specs.Found.{Found}
use Rattle.px_core.specs.Working.{MayBegin}
use Rattle.px_log.specs.Log.{Log}
use Rattle.px_model.specs.Machine.{Machine, commits, fresh}
use Rattle.px_model.specs.Rows.{in_order}
use Rattle.px_model.specs.declared.row.Row.{Row}
use Rattle.px_restart.specs.declared.restart.Restart.{Restart}
use Rattle.px_shown.specs.Parts.{no_parts}
use Rattle.px_tidying.specs.Opening.{HasLife, Opening}
use Rattle.px_xacts.specs.Transactions as transactions
use Rattle.px_cell_opening.specs.Opened as cells
use Rattle.px_cell_opening.specs.declared.opening.Cells.{Cells}
use Rattle.px_recovery.specs.Cells.{AreCellsOf}
use Rattle.px_recovery.specs.Opening.{BeginsWith}
use Rattle.px_recovery.specs.declared.opening.OpenReport.{OpenReport}

fresh_order : (tables short : ℕ) (rows : List Row) (before base : ℕ) → in_order rows ≡ true → in_order (fresh tables short rows before base).opening ≡ true
unfolding fresh
fresh_order tables short rows before base order = order

fresh_commits : (tables short : ℕ) (rows : List Row) (before base : ℕ) → commits (fresh tables short rows before base) ≡ before
unfolding fresh commits
fresh_commits tables short rows before base = omega arith

fresh_base : (tables short : ℕ) (rows : List Row) (before base : ℕ) → (fresh tables short rows before base).base ≡ base
unfolding fresh
fresh_base tables short rows before base = omega arith

-- what the opening gave, over cells that it opened
pub record IsGiven (restart : Restart) (opened : Cells) (found : Found) (o : Opening) (active : Active) (report : OpenReport) : Type 0 where
  pub commits_are : report.commits ≡ opened.commits
  pub redone_are : report.redone ≡ opened.redone
  pub rows_are : report.rows ≡ length found.rows
  pub log : o.log ≡ opened.log
  pub works : cells.WorksFrom restart found.commits found.rows o.site (record opened { held = o.held; log = o.log })
  pub active_is : (tables short : ℕ) (rows : List Row) → IsActiveOf (fresh tables short rows opened.commits opened.base) active
  pub fresh_is : active.xacts ≡ transactions.fresh opened.base

module _ (restart : Restart) (opened : Cells) (found : Found) (o : Opening) (active : Active) (report : OpenReport) (are : AreCellsOf found restart opened)
    (order : in_order found.rows ≡ true) (given : IsGiven restart opened found o active report) where
  abbrev m : Machine
  m = cells.machine_of restart found.commits found.rows opened.base

  -- the machine that started
  may : MayBegin m given.works.life restart given.works.marks o active
  may = record {
    order = fresh_order restart.tables restart.short found.rows found.commits opened.base order;
    has = subst (λ (least : ℕ). HasLife no_parts least m given.works.life restart given.works.marks o)
        (sym (fresh_commits restart.tables restart.short found.rows found.commits opened.base)) given.works.has;
    works = given.works.works;
    found = given.works.found;
    active_is = subst (λ (count : ℕ). IsActiveOf (fresh restart.tables restart.short found.rows count opened.base) active) (sym are.commits_are)
        (given.active_is restart.tables restart.short found.rows);
    fresh = given.fresh_is ∙ ap transactions.fresh (sym (fresh_base restart.tables restart.short found.rows found.commits opened.base));
  }

  pub begins_with : BeginsWith found o active report
  begins_with = record {
    report_is = λ i. record {
      commits = (given.commits_are ∙ sym are.commits_are) i;
      rows = given.rows_are i;
      redone = (given.redone_are ∙ sym are.redone_are) i;
    };
    frames = ap (λ (log : Log). log.frames) given.log ∙ sym are.frames;
    durable = given.works.durable ∙ ap (λ (log : Log). log.frames) given.log ∙ sym are.frames;
    life = given.works.life;
    restart = restart;
    marks = given.works.marks;
    may = subst (λ (n : Machine). MayBegin n given.works.life restart given.works.marks o active) (sym are.machine) may;
  }
