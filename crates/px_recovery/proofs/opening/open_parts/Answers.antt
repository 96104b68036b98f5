use Rattle.std.proofs.Common.{sym, subst, ◌∙◌}
use Rattle.px_site.proofs.Causes.{then_none_fell}
use Rattle.px_restart.specs.Restart.{IsPicked}
use Rattle.px_site.specs.State.{State}
use Rattle.px_standing.specs.Files.{first_restart, second_restart}
use Rattle.px_tidying.specs.Opening.{opening}
use Rattle.px_cell_standing.specs.Images.{KeepsStanding}
use Rattle.px_cell_standing.specs.Settled.{Settled}
use Rattle.px_recovery.proofs.Beginning.{begins_with}
use Rattle.px_recovery.proofs.Begun.{IsBegun, content_is, found_may_open, opening_stands, opens_first, then_reads}
use Rattle.px_recovery.proofs.Quiet.{quiet_from, standing_from, two_quiet}
use Rattle.px_recovery.proofs.Refusals.{cells_fault, cells_kept, cells_refused, later_fault, no_absence, nothing_kept, nothing_refused, passed}
use Rattle.px_recovery.specs.Errors.{CountsFault, HasRefusal, KeepsContent, open_of_cells}
use Rattle.px_recovery.specs.Opening.{TellsNothing}
use Rattle.px_recovery.proofs.Touched.{opened_touched, restarts_touched, touched_from, touched_still}
use Rattle.px_recovery.proofs.opening.open_parts.Goals as goal

-- ---- the restart files weren't synced

pub returns-in_err-sync_restarts-clause-moments : goal.returns-in_err-sync_restarts-clause-moments
returns-in_err-sync_restarts-clause-moments g c = λ t commits rows settled.
    standing_from (c.read_restart.ensures.same t)
    (c.sync_restarts.ensures.standing t commits rows (subst (λ (s : State). Settled s commits rows) (sym (c.read_restart.ensures.same t)) settled))

pub returns-in_err-sync_restarts-clause-quiet : goal.returns-in_err-sync_restarts-clause-quiet
returns-in_err-sync_restarts-clause-quiet g c = λ t.
    quiet_from (c.read_restart.ensures.same t) (c.sync_restarts.ensures.quiet t)

pub returns-in_err-sync_restarts-clause-absent : goal.returns-in_err-sync_restarts-clause-absent
returns-in_err-sync_restarts-clause-absent g c = λ t none.
    absurd (no_absence (g.W.Site.state c.args.site.now).content c.in-Some.restart (rw c.in-Some.is at (c.in_ok-restart.ensures.found t)) none)

-- ---- the cells weren't opened

pub returns-in_err-cells-clause-moments : goal.returns-in_err-cells-clause-moments
returns-in_err-cells-clause-moments g c = λ t commits rows settled.
    let begun : IsBegun c.in-Some.restart (g.W.Site.state c.args.site.now) (g.W.Site.state c.read_restart.new.site) (g.W.Site.state c.sync_restarts.new.site) = record {
      picked = rw c.in-Some.is at (c.in_ok-restart.ensures.found t);
      same = c.read_restart.ensures.same t;
      content = c.sync_restarts.ensures.content t;
      rests = c.in_ok-sync_restarts.ensures.rests t;
    } in
    opening_stands c.in-Some.restart (g.W.Site.state c.args.site.now) (g.W.Site.state c.read_restart.new.site) (g.W.Site.state c.sync_restarts.new.site) begun
    c.a_settled_site_may_be_opened.ensures.may (g.W.Site.state c.open_cells.new.site) commits rows (c.sync_restarts.ensures.standing t commits rows)
    (c.in_ok-sync_restarts.ensures.settled t commits rows) (c.open_cells.ensures.moments t commits rows) settled

pub returns-in_err-cells-clause-quiet : goal.returns-in_err-cells-clause-quiet
returns-in_err-cells-clause-quiet g c = λ t.
    two_quiet (c.read_restart.ensures.same t) (c.sync_restarts.ensures.quiet t) (c.open_cells.ensures.touches t).touches.alone

pub returns-in_err-cells-clause-absent : goal.returns-in_err-cells-clause-absent
returns-in_err-cells-clause-absent g c = λ t none.
    absurd (no_absence (g.W.Site.state c.args.site.now).content c.in-Some.restart (rw c.in-Some.is at (c.in_ok-restart.ensures.found t)) none)

pub returns-in_err-cells-clause-refused : goal.returns-in_err-cells-clause-refused
returns-in_err-cells-clause-refused g c = λ t.
    let begun : IsBegun c.in-Some.restart (g.W.Site.state c.args.site.now) (g.W.Site.state c.read_restart.new.site) (g.W.Site.state c.sync_restarts.new.site) = record {
      picked = rw c.in-Some.is at (c.in_ok-restart.ensures.found t);
      same = c.read_restart.ensures.same t;
      content = c.sync_restarts.ensures.content t;
      rests = c.in_ok-sync_restarts.ensures.rests t;
    } in
    let error = c.in_err-cells.field-0.0 in
    passed (HasRefusal (g.W.Site.state c.args.site.now).content) c.from_residual-in_err-cells.result (open_of_cells error) c.from_residual-in_err-cells.ensures.1
    (cells_refused c.in-Some.restart (g.W.Site.state c.args.site.now) (g.W.Site.state c.sync_restarts.new.site)
    (content_is c.in-Some.restart (g.W.Site.state c.args.site.now) (g.W.Site.state c.read_restart.new.site) (g.W.Site.state c.sync_restarts.new.site) begun)
    begun.picked error (c.in_err-cells.ensures.refused t))

pub returns-in_err-cells-clause-kept : goal.returns-in_err-cells-clause-kept
returns-in_err-cells-clause-kept g c = λ t.
    let begun : IsBegun c.in-Some.restart (g.W.Site.state c.args.site.now) (g.W.Site.state c.read_restart.new.site) (g.W.Site.state c.sync_restarts.new.site) = record {
      picked = rw c.in-Some.is at (c.in_ok-restart.ensures.found t);
      same = c.read_restart.ensures.same t;
      content = c.sync_restarts.ensures.content t;
      rests = c.in_ok-sync_restarts.ensures.rests t;
    } in
    let error = c.in_err-cells.field-0.0 in
    passed (KeepsContent (g.W.Site.state c.args.site.now) (g.W.Site.state c.open_cells.new.site)) c.from_residual-in_err-cells.result (open_of_cells error)
    c.from_residual-in_err-cells.ensures.1
    (cells_kept (g.W.Site.state c.args.site.now) (g.W.Site.state c.sync_restarts.new.site) (g.W.Site.state c.open_cells.new.site)
    (content_is c.in-Some.restart (g.W.Site.state c.args.site.now) (g.W.Site.state c.read_restart.new.site) (g.W.Site.state c.sync_restarts.new.site) begun)
    error (c.in_err-cells.ensures.kept t))

pub returns-in_err-cells-clause-fault : goal.returns-in_err-cells-clause-fault
returns-in_err-cells-clause-fault g c =
    let error = c.in_err-cells.field-0.0 in
    let counts = g.W.Site.counts in
    passed (CountsFault (counts c.args.site.now) (counts c.open_cells.new.site)) c.from_residual-in_err-cells.result (open_of_cells error) c.from_residual-in_err-cells.ensures.1
    (cells_fault (counts c.args.site.now) (counts c.sync_restarts.new.site) (counts c.open_cells.new.site) error
    (then_none_fell c.read_restart.ensures.none_fell c.sync_restarts.ensures.none_fell) c.in_err-cells.ensures.cause c.in_err-cells.ensures.own)

-- ---- the rows weren't counted

pub returns-in_err-parts-clause-moments : goal.returns-in_err-parts-clause-moments
returns-in_err-parts-clause-moments g c = λ t commits rows settled.
    let begun : IsBegun c.in-Some.restart (g.W.Site.state c.args.site.now) (g.W.Site.state c.read_restart.new.site) (g.W.Site.state c.sync_restarts.new.site) = record {
      picked = rw c.in-Some.is at (c.in_ok-restart.ensures.found t);
      same = c.read_restart.ensures.same t;
      content = c.sync_restarts.ensures.content t;
      rests = c.in_ok-sync_restarts.ensures.rests t;
    } in
    then_reads (KeepsStanding commits rows (g.W.Site.state c.args.site.now).now) (g.W.Site.state c.args.site.now) (g.W.Site.state c.open_cells.new.site)
    (g.W.Site.state c.parts_of.new.site) (c.parts_of.ensures.same t)
    (opening_stands c.in-Some.restart (g.W.Site.state c.args.site.now) (g.W.Site.state c.read_restart.new.site) (g.W.Site.state c.sync_restarts.new.site) begun
    c.a_settled_site_may_be_opened.ensures.may (g.W.Site.state c.open_cells.new.site) commits rows (c.sync_restarts.ensures.standing t commits rows)
    (c.in_ok-sync_restarts.ensures.settled t commits rows) (c.open_cells.ensures.moments t commits rows) settled)

pub returns-in_err-parts-clause-quiet : goal.returns-in_err-parts-clause-quiet
returns-in_err-parts-clause-quiet g c = λ t.
    then_reads (TellsNothing (g.W.Site.state c.args.site.now).now) (g.W.Site.state c.args.site.now) (g.W.Site.state c.open_cells.new.site)
    (g.W.Site.state c.parts_of.new.site) (c.parts_of.ensures.same t)
    (two_quiet (c.read_restart.ensures.same t) (c.sync_restarts.ensures.quiet t) (c.open_cells.ensures.touches t).touches.alone)

pub returns-in_err-parts-clause-absent : goal.returns-in_err-parts-clause-absent
returns-in_err-parts-clause-absent g c = λ t none.
    absurd (no_absence (g.W.Site.state c.args.site.now).content c.in-Some.restart (rw c.in-Some.is at (c.in_ok-restart.ensures.found t)) none)

pub returns-in_err-parts-clause-refused : goal.returns-in_err-parts-clause-refused
returns-in_err-parts-clause-refused g c = λ t.
    let error = c.in_err-parts.field-0.0 in
    passed (HasRefusal (g.W.Site.state c.args.site.now).content) c.from_residual-in_err-parts.result error c.from_residual-in_err-parts.ensures.1
    (nothing_refused (g.W.Site.state c.args.site.now).content error (c.in_err-parts.ensures.sound t))

pub returns-in_err-parts-clause-kept : goal.returns-in_err-parts-clause-kept
returns-in_err-parts-clause-kept g c = λ t.
    let error = c.in_err-parts.field-0.0 in
    passed (KeepsContent (g.W.Site.state c.args.site.now) (g.W.Site.state c.parts_of.new.site)) c.from_residual-in_err-parts.result error c.from_residual-in_err-parts.ensures.1
    (nothing_kept (g.W.Site.state c.args.site.now) (g.W.Site.state c.parts_of.new.site) error (c.in_err-parts.ensures.sound t))

pub returns-in_err-parts-clause-fault : goal.returns-in_err-parts-clause-fault
returns-in_err-parts-clause-fault g c =
    let error = c.in_err-parts.field-0.0 in
    let counts = g.W.Site.counts in
    passed (CountsFault (counts c.args.site.now) (counts c.parts_of.new.site)) c.from_residual-in_err-parts.result error c.from_residual-in_err-parts.ensures.1
    (later_fault (counts c.args.site.now) (counts c.open_cells.new.site) (counts c.parts_of.new.site) error
    (then_none_fell c.read_restart.ensures.none_fell (then_none_fell c.sync_restarts.ensures.none_fell c.open_cells.ensures.none_fell)) c.in_err-parts.ensures.fault)

-- ---- all was opened

pub returns-clause-moments : goal.returns-clause-moments
returns-clause-moments g c = λ t commits rows settled.
    let begun : IsBegun c.in-Some.restart (g.W.Site.state c.args.site.now) (g.W.Site.state c.read_restart.new.site) (g.W.Site.state c.sync_restarts.new.site) = record {
      picked = rw c.in-Some.is at (c.in_ok-restart.ensures.found t);
      same = c.read_restart.ensures.same t;
      content = c.sync_restarts.ensures.content t;
      rests = c.in_ok-sync_restarts.ensures.rests t;
    } in
    then_reads (KeepsStanding commits rows (g.W.Site.state c.args.site.now).now) (g.W.Site.state c.args.site.now) (g.W.Site.state c.open_cells.new.site)
    (g.W.Site.state c.parts_of.new.site) (c.parts_of.ensures.same t)
    (opening_stands c.in-Some.restart (g.W.Site.state c.args.site.now) (g.W.Site.state c.read_restart.new.site) (g.W.Site.state c.sync_restarts.new.site) begun
    c.a_settled_site_may_be_opened.ensures.may (g.W.Site.state c.open_cells.new.site) commits rows (c.sync_restarts.ensures.standing t commits rows)
    (c.in_ok-sync_restarts.ensures.settled t commits rows) (c.open_cells.ensures.moments t commits rows) settled)

pub returns-clause-quiet : goal.returns-clause-quiet
returns-clause-quiet g c = λ t.
    then_reads (TellsNothing (g.W.Site.state c.args.site.now).now) (g.W.Site.state c.args.site.now) (g.W.Site.state c.open_cells.new.site)
    (g.W.Site.state c.parts_of.new.site) (c.parts_of.ensures.same t)
    (two_quiet (c.read_restart.ensures.same t) (c.sync_restarts.ensures.quiet t) (c.open_cells.ensures.touches t).touches.alone)

pub returns-clause-opened : goal.returns-clause-opened
returns-clause-opened g c = λ t.
    let begun : IsBegun c.in-Some.restart (g.W.Site.state c.args.site.now) (g.W.Site.state c.read_restart.new.site) (g.W.Site.state c.sync_restarts.new.site) = record {
      picked = rw c.in-Some.is at (c.in_ok-restart.ensures.found t);
      same = c.read_restart.ensures.same t;
      content = c.sync_restarts.ensures.content t;
      rests = c.in_ok-sync_restarts.ensures.rests t;
    } in
    let cells = c.in_ok-cells.ensures in
    let opens = opens_first c.in-Some.restart (g.W.Site.state c.args.site.now) (g.W.Site.state c.read_restart.new.site) (g.W.Site.state c.sync_restarts.new.site) begun
    c.in_ok-cells.cells (g.W.Site.state c.open_cells.new.site) (cells.report t) in
    record {
      restart = c.in-Some.restart;
      picked = begun.picked;
      changes = opens.changes;
      scan = opens.scan;
      tables = opens.found;
      layouts = opens.layouts;
      opens = opens.opens;
      stored = opens.stored;
      commits_are = c.in_ok-parts.ensures.counted.0 ∙ opens.commits_are;
      redone_are = c.in_ok-parts.ensures.counted.1 ∙ opens.redone_are;
    }

pub returns-clause-stored : goal.returns-clause-stored
returns-clause-stored g c = λ t found on.
    let begun : IsBegun c.in-Some.restart (g.W.Site.state c.args.site.now) (g.W.Site.state c.read_restart.new.site) (g.W.Site.state c.sync_restarts.new.site) = record {
      picked = rw c.in-Some.is at (c.in_ok-restart.ensures.found t);
      same = c.read_restart.ensures.same t;
      content = c.sync_restarts.ensures.content t;
      rests = c.in_ok-sync_restarts.ensures.rests t;
    } in
    let a = g.W.Site.state c.args.site.now in
    let b = g.W.Site.state c.read_restart.new.site in
    let d = g.W.Site.state c.open_cells.new.site in
    let restart = c.in-Some.restart in
    let cells = c.in_ok-cells.cells in
    let parts = c.in_ok-parts.ensures in
    let synced = g.W.Site.state c.sync_restarts.new.site in
    let opens = opens_first restart a b synced begun cells d (c.in_ok-cells.ensures.report t) in
    let works = c.in_ok-cells.ensures.opened t found.commits found.rows
    (found_may_open restart a b synced begun c.a_settled_site_may_be_opened.ensures.found (c.in_ok-sync_restarts.ensures.alone t) found on) in
    let order = c.what_was_opened_was_found.ensures.order a.content found on.is_found in
    begins_with restart cells found (opening (g.W.Site.state c.parts_of.new.site) c.in_ok-parts.parts.held c.in_ok-parts.parts.log) c.in_ok-parts.parts.active
    c.in_ok-parts.parts.report (c.what_was_opened_was_found.ensures.cells a.content found restart cells d on.is_found on.alone.content begun.picked opens) order
    (record {
      commits_are = parts.counted.0;
      redone_are = parts.counted.1;
      rows_are = parts.rows t found.commits found.rows order works;
      log = parts.log;
      works = parts.works t found.commits found.rows works;
      active_is = parts.active;
      fresh_is = parts.fresh;
    })

-- ---- what is touched

pub returns-in_err-sync_restarts-clause-touches : goal.returns-in_err-sync_restarts-clause-touches
returns-in_err-sync_restarts-clause-touches g c = λ t.
    touched_from (c.read_restart.ensures.same t) (restarts_touched (c.sync_restarts.ensures.own_files t) (c.sync_restarts.ensures.few t) (c.sync_restarts.ensures.content t))

pub returns-in_err-cells-clause-touches : goal.returns-in_err-cells-clause-touches
returns-in_err-cells-clause-touches g c = λ t.
    let same = c.read_restart.ensures.same t in
    let picked = subst (λ (s : State). IsPicked (first_restart s.content) (second_restart s.content) c.in-Some.restart) (sym same) (rw c.in-Some.is at (c.in_ok-restart.ensures.found t)) in
    touched_from same
    (opened_touched c.in-Some.restart picked (c.sync_restarts.ensures.own_files t) (c.sync_restarts.ensures.few t) (c.sync_restarts.ensures.content t) (c.open_cells.ensures.touches t))

pub returns-in_err-parts-clause-touches : goal.returns-in_err-parts-clause-touches
returns-in_err-parts-clause-touches g c = λ t.
    let same = c.read_restart.ensures.same t in
    let picked = subst (λ (s : State). IsPicked (first_restart s.content) (second_restart s.content) c.in-Some.restart) (sym same) (rw c.in-Some.is at (c.in_ok-restart.ensures.found t)) in
    touched_still (touched_from same
    (opened_touched c.in-Some.restart picked (c.sync_restarts.ensures.own_files t) (c.sync_restarts.ensures.few t) (c.sync_restarts.ensures.content t) (c.open_cells.ensures.touches t)))
    (c.parts_of.ensures.same t)

pub returns-clause-touches : goal.returns-clause-touches
returns-clause-touches g c = λ t.
    let same = c.read_restart.ensures.same t in
    let picked = subst (λ (s : State). IsPicked (first_restart s.content) (second_restart s.content) c.in-Some.restart) (sym same) (rw c.in-Some.is at (c.in_ok-restart.ensures.found t)) in
    touched_still (touched_from same
    (opened_touched c.in-Some.restart picked (c.sync_restarts.ensures.own_files t) (c.sync_restarts.ensures.few t) (c.sync_restarts.ensures.content t) (c.open_cells.ensures.touches t)))
    (c.parts_of.ensures.same t)
