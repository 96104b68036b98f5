use Rattle.std.proofs.Common.{◌+◌, ℕ, List, subst, sym, arith}
use Rattle.px_cells.specs.declared.cell.Cell.{Cell}
use Rattle.px_change.proofs.Cells.{Taken, taken_none, taken_more, taken_all, no_more, more_follows}
use Rattle.px_change.proofs.read.read_cells.Goals as goal

pub loop-init : goal.loop-init
loop-init c =
    let at_none : Taken c.args.bytes.now 0 c.new-cells.result c.args.bytes.now = subst (λ (cells : List Cell). Taken c.args.bytes.now 0 cells c.args.bytes.now) (sym c.new-cells.ensures) (taken_none c.args.bytes.now) in
    subst (λ (rest : List ℕ). Taken c.args.bytes.now 0 c.new-cells.result rest) (sym c.new-fields.ensures) at_none

pub returns-in_default-clause-none : goal.returns-in_default-clause-none
returns-in_default-clause-none c = no_more c.args.bytes.now c.loop.counter c.args.count c.loop.cells c.loop.fields c.loop.invariant c.loop-test.true (rw c.in_default.is at c.in_ok-read.ensures.none)

pub loop-preserved : goal.loop-preserved
loop-preserved c =
    let more = taken_more c.args.bytes.now c.loop.counter c.loop.cells c.loop.fields c.in-Some.cell c.take_cell.new.fields c.loop.invariant (rw c.in-Some.is at c.in_ok-read.ensures.some) in
    subst (λ (cells : List Cell). Taken c.args.bytes.now (c.loop.counter + 1) cells c.take_cell.new.fields) (sym c.in_ok-push.ensures.ok) more

pub returns-then-left-ne0-clause-none : goal.returns-then-left-ne0-clause-none
returns-then-left-ne0-clause-none c =
    let all : Taken c.args.bytes.now c.args.count c.loop.cells c.loop.fields = subst (λ (n : ℕ). Taken c.args.bytes.now n c.loop.cells c.loop.fields) (omega arith) c.loop.invariant in
    more_follows c.args.bytes.now c.args.count c.loop.cells c.loop.fields all (λ none. c.if-left-ne0.true (omega (arith, c.left.ensures, none)))

pub returns-clause-some : goal.returns-clause-some
returns-clause-some c =
    let all : Taken c.args.bytes.now c.args.count c.loop.cells c.loop.fields = subst (λ (n : ℕ). Taken c.args.bytes.now n c.loop.cells c.loop.fields) (omega arith) c.loop.invariant in
    taken_all c.args.bytes.now c.args.count c.loop.cells c.loop.fields all (omega (arith, c.left.ensures, c.if-left-ne0.false))
