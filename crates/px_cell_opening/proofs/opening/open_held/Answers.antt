use Rattle.px_cell_opening.proofs.Tables.{tables_held}
use Rattle.px_held.proofs.Numbered.{opened_numbered}
use Rattle.px_laid.specs.Places.{places}
use Rattle.px_laid.specs.Places.{Places}
use Rattle.px_opened.specs.Opened.{Opens, tables_of}
use Rattle.px_shown.specs.Tables.{Layouts}
use Rattle.std.proofs.Common.{subst}
use Rattle.px_cell_opening.proofs.opening.open_held.Goals as goal

pub new-requires-clause-numbered : goal.new-requires-clause-numbered
new-requires-clause-numbered c =
    opened_numbered c.args.restart.now.short c.args.restart.now.tables (places c.in_ok-laid.laid) c.in_ok-tables.tables.items c.in_ok-tables.ensures.ok

pub returns-clause-holds : goal.returns-clause-holds
returns-clause-holds c =
    let short = c.args.restart.now.short in
    let tables = c.args.restart.now.tables in
    let opened = c.in_ok-tables.tables.items in
    tables_held short tables c.args.changes.now opened c.new.result
    (subst (λ (p : Places). (layouts : Layouts) × Opens short tables p (tables_of opened) layouts) c.in_ok-laid.ensures c.in_ok-tables.ensures.opens)
    c.in_ok-tables.ensures.counted c.in_ok-tables.ensures.ok.long c.new.ensures.is c.new.ensures.serves
