use Rattle.std.proofs.Common.{List, All, subst, sym, ◌∙◌}
use Rattle.px_change.specs.declared.change.Change.{Change}
use Rattle.px_history.specs.Fitting.{IsStoredNumber}
use Rattle.px_laid.specs.Places.{none_laid}
use Rattle.px_log.specs.Contents.{Scans}
use Rattle.px_log.specs.Scanning.{ScansTo}
use Rattle.px_opened.specs.Damage.{IsErrorIn}
use Rattle.px_opened.specs.Opened.{changes_over}
use Rattle.px_site.specs.State.{State}
use Rattle.px_tidying.proofs.Next.{if_err}
use Rattle.px_tidying.proofs.Quiet.{still_then}
use Rattle.px_xlog.specs.Contents.{the_log}
use Rattle.px_cell_opening.proofs.Cutting.{cut_behind}
use Rattle.px_cell_opening.proofs.Numbers.{all_stored}
use Rattle.px_cell_opening.proofs.Refusals.{log_refusal, next_refusal, same_leaves, tables_refusal}
use Rattle.px_cell_opening.proofs.Tables.{found_is}
use Rattle.px_cell_opening.specs.Errors.{HasRefusal, LeavesDamaged, of_held, of_log, of_tables}
use Rattle.px_cell_opening.specs.declared.opening.Found.{Found}
use Rattle.px_cell_opening.proofs.opening.find_cells.Goals as goal

pub next_number-requires-clause-frames : goal.next_number-requires-clause-frames
next_number-requires-clause-frames g c =
    subst (λ (l : List Change). All (λ change. IsStoredNumber change.xn) l) (sym c.as_slice-2.ensures)
    (all_stored c.args.restart.now.tables 0 c.args.restart.now.short c.in_ok-scan.scan.changes c.in_ok-scan.ensures.log.held)

pub open-requires-clause-scan : goal.open-requires-clause-scan
open-requires-clause-scan g c = λ t.
    subst (λ (s : State). ScansTo (s.content the_log) c.in_ok-scan.scan.changes c.in_ok-scan.scan.stop)
    (sym (c.next_number.ensures.same t ∙ c.scan_log.ensures.same t)) (c.in_ok-scan.ensures.scan t)

pub returns-in_err-scan-clause-refused : goal.returns-in_err-scan-clause-refused
returns-in_err-scan-clause-refused g c = λ t.
    let restart = c.args.restart.now in
    let bytes = (g.W.Site.state c.args.site.now).content the_log in
    let error = c.in_err-scan.field-0.0 in
    if_err c.from_residual.result (HasRefusal restart bytes) (of_log error) c.from_residual.ensures.1
    (log_refusal restart bytes (g.W.Site.counts c.args.site.now) (g.W.Site.counts c.scan_log.new.site) error (c.in_err-scan.ensures.cause t))

pub returns-in_err-held-clause-refused : goal.returns-in_err-held-clause-refused
returns-in_err-held-clause-refused g c = λ t.
    let restart = c.args.restart.now in
    let bytes = (g.W.Site.state c.args.site.now).content the_log in
    let error = c.in_err-held.field-0.0 in
    if_err c.from_residual-in_err-held.result (HasRefusal restart bytes) (of_tables error) c.from_residual-in_err-held.ensures.1
    (tables_refusal restart bytes c.in_ok-scan.scan.changes error (c.in_ok-scan.ensures.read t)
    (subst (λ (l : List Change). IsErrorIn restart.short restart.tables (changes_over none_laid l) error) c.as_slice.ensures c.in_err-held.ensures.error))

pub returns-in_err-next-clause-refused : goal.returns-in_err-next-clause-refused
returns-in_err-next-clause-refused g c = λ t.
    let restart = c.args.restart.now in
    let bytes = (g.W.Site.state c.args.site.now).content the_log in
    let error = c.in_err-next.field-0.0 in
    if_err c.from_residual-in_err-next.result (HasRefusal restart bytes) (of_held error) c.from_residual-in_err-next.ensures.1
    (next_refusal restart bytes c.in_ok-scan.scan.changes c.as_slice.result.now c.in_ok-held.held (g.W.Site.state c.scan_log.new.site) error (c.in_ok-scan.ensures.read t)
    c.as_slice.ensures c.in_ok-held.ensures.holds (c.in_err-next.ensures.unstored t))

-- ---- what an error leaves

pub returns-in_err-scan-clause-kept : goal.returns-in_err-scan-clause-kept
returns-in_err-scan-clause-kept g c = λ t.
    let old = g.W.Site.state c.args.site.now in
    let new = g.W.Site.state c.scan_log.new.site in
    let error = c.in_err-scan.field-0.0 in
    if_err c.from_residual.result (LeavesDamaged old new) (of_log error) c.from_residual.ensures.1 (same_leaves old new (of_log error) (c.scan_log.ensures.same t))

pub returns-in_err-held-clause-kept : goal.returns-in_err-held-clause-kept
returns-in_err-held-clause-kept g c = λ t.
    let old = g.W.Site.state c.args.site.now in
    let new = g.W.Site.state c.scan_log.new.site in
    let error = c.in_err-held.field-0.0 in
    if_err c.from_residual-in_err-held.result (LeavesDamaged old new) (of_tables error) c.from_residual-in_err-held.ensures.1
    (same_leaves old new (of_tables error) (c.scan_log.ensures.same t))

pub returns-in_err-next-clause-kept : goal.returns-in_err-next-clause-kept
returns-in_err-next-clause-kept g c = λ t.
    let old = g.W.Site.state c.args.site.now in
    let new = g.W.Site.state c.next_number.new.site in
    let error = c.in_err-next.field-0.0 in
    if_err c.from_residual-in_err-next.result (LeavesDamaged old new) (of_held error) c.from_residual-in_err-next.ensures.1
    (same_leaves old new (of_held error) (c.next_number.ensures.same t ∙ c.scan_log.ensures.same t))

-- ---- while the log is cut

pub returns-in_err-log-clause-moments : goal.returns-in_err-log-clause-moments
returns-in_err-log-clause-moments g c = λ t.
    cut_behind (g.W.Site.state c.args.site.now) (g.W.Site.state c.next_number.new.site) (g.W.Site.state c.open.new.site) (c.next_number.ensures.same t ∙ c.scan_log.ensures.same t)
    (c.open.ensures.moments t)

pub returns-clause-moments : goal.returns-clause-moments
returns-clause-moments g c = λ t.
    cut_behind (g.W.Site.state c.args.site.now) (g.W.Site.state c.next_number.new.site) (g.W.Site.state c.open.new.site) (c.next_number.ensures.same t ∙ c.scan_log.ensures.same t)
    (c.open.ensures.moments t)

pub returns-in_err-log-clause-touches : goal.returns-in_err-log-clause-touches
returns-in_err-log-clause-touches g c = λ t. still_then (c.next_number.ensures.same t ∙ c.scan_log.ensures.same t) (c.open.ensures.touches t)

pub returns-clause-touches : goal.returns-clause-touches
returns-clause-touches g c = λ t. still_then (c.next_number.ensures.same t ∙ c.scan_log.ensures.same t) (c.open.ensures.touches t)

-- ---- what was found

pub returns-clause-read : goal.returns-clause-read
returns-clause-read g c = λ t.
    subst (Scans c.args.restart.now ((g.W.Site.state c.args.site.now).content the_log)) (sym c.in_ok-log.ensures.changes) (c.in_ok-scan.ensures.read t)

pub returns-clause-found : goal.returns-clause-found
returns-clause-found g c =
    let found : Found = record { log = c.in_ok-log.log; held = c.next_number.new.held; changes = c.in_ok-log.changes; next = c.in_ok-next.next } in
    let state = g.W.Site.state in
    let next = c.in_ok-next.ensures in
    found_is c.args.restart.now c.in_ok-scan.scan c.as_slice.result.now c.as_slice-2.result.now c.in_ok-held.held found (state c.scan_log.new.site) (state c.next_number.new.site)
    c.in_ok-scan.ensures.log c.in_ok-log.ensures.changes c.in_ok-log.ensures.log c.as_slice.ensures c.as_slice-2.ensures c.in_ok-held.ensures.holds next.form next.keeps next.next
    next.stored next.end
