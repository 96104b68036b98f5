use Rattle.std.proofs.Common.{ℕ}
use Rattle.px_beginning.specs.Numbers.{IsNext}
use Rattle.px_life.specs.Front.{AreStored}
use Rattle.px_tidying.specs.Numbers.{IsPastTables}
use Rattle.px_tidying.proofs.Next.{are_stored, is_next, ok_weaker}
use Rattle.px_tidying.proofs.numbers.next_number.Goals as goal

pub returns-clause-next : goal.returns-clause-next
returns-clause-next g c = λ store serves.
    let restart = c.args.restart.now in
    let first = c.past_changes-next.result in
    ok_weaker c.past_tables.result (IsPastTables first store.tables restart.tables) (IsNext restart c.args.changes.now store.tables store.layouts)
    (λ next past. is_next (g.W.Site.state c.args.site.now) c.args.held.now store restart.tables serves c.requires.held restart c.args.changes.now first next
    c.past_changes-next.ensures.past past)
    (c.past_tables.ensures.past store serves)

pub returns-clause-stored : goal.returns-clause-stored
returns-clause-stored g c = λ store serves.
    let restart = c.args.restart.now in
    let first = c.past_changes-next.result in
    ok_weaker c.past_tables.result (IsPastTables first store.tables restart.tables) (λ (next : ℕ). AreStored store.tables store.layouts)
    (λ next past. are_stored (g.W.Site.state c.args.site.now) c.args.held.now store restart.tables serves c.requires.held first next past)
    (c.past_tables.ensures.past store serves)
