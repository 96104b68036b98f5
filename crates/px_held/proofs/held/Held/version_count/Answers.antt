use Rattle.std.proofs.Common.{◌+◌, ◌<◌, ◌^◌, subst, sym, arith}
use Rattle.px_held.specs.Serving.{AreNumbered, HeldTables}
use Rattle.px_held.proofs.Counting.{IsCountOf, all_counted, counted_for_the_machine, few_tables, next_counted, none_counted, stands_at}
use Rattle.px_held.proofs.held.Held.version_count.Goals as goal

pub loop-table-init : goal.loop-table-init
loop-table-init c = none_counted c.args.self.now

pub overflow_add-count : goal.overflow_add-count
overflow_add-count c =
    let numbered = subst (λ (h : HeldTables). AreNumbered h.short h.tables) c.self.view_is c.self.invariant.1 in
    let at = stands_at _ c.args.self.now c.deref-table-items.result.now c.loop-table.table-index c.table-item.result c.self.view_is c.deref-table-items.ensures.value
    c.loop-table-test.true c.table-item.is in
    let number : c.table-item.result.cells.number < 256 = omega (arith, c.number-number.ensures, c.number-number.type_inv) in
    let few = few_tables c.args.self.now c.table-item.result c.loop-table.table-index numbered at number in
    let count = c.loop-table.invariant.few in
    let many : c.version_count.result < 2 ^ 32 = c.version_count.type_inv in
    omega (arith, few, count, many, c.from-count.ensures)

pub loop-table-preserved : goal.loop-table-preserved
loop-table-preserved c =
    let numbered = subst (λ (h : HeldTables). AreNumbered h.short h.tables) c.self.view_is c.self.invariant.1 in
    let at = stands_at _ c.args.self.now c.deref-table-items.result.now c.loop-table.table-index c.table-item.result c.self.view_is c.deref-table-items.ensures.value
    c.loop-table-test.true c.table-item.is in
    subst (λ many. IsCountOf c.args.self.now (c.loop-table.table-index + 1) (c.loop-table.count + many)) (sym c.from-count.ensures)
    (next_counted c.args.self.now c.table-item.result c.loop-table.table-index c.loop-table.count c.version_count.result numbered at
    c.version_count.type_inv c.version_count.ensures c.loop-table.invariant)

pub returns-clause-chains : goal.returns-clause-chains
returns-clause-chains c = λ site store serves.
    (all_counted _ c.args.self.now c.deref-table-items.result.now c.loop-table.table-index c.loop-table.count c.self.view_is c.deref-table-items.ensures.value
    (omega (arith, c.loop-table-test.false, c.loop-table.auto.table-index-end)) c.loop-table.invariant).chains site store serves

pub returns-clause-machine : goal.returns-clause-machine
returns-clause-machine c = λ site store parts m serves holds opening.
    counted_for_the_machine site c.args.self.now store parts m c.loop-table.count serves holds opening
    (all_counted _ c.args.self.now c.deref-table-items.result.now c.loop-table.table-index c.loop-table.count c.self.view_is c.deref-table-items.ensures.value
    (omega (arith, c.loop-table-test.false, c.loop-table.auto.table-index-end)) c.loop-table.invariant)
