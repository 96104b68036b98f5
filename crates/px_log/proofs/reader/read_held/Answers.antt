use Rattle.std.proofs.Common.{sym}
use Rattle.px_log.proofs.Held.{held_by, foreign_none, foreign_other}
use Rattle.px_log.proofs.reader.read_held.Goals as goal

pub returns-in_default-clause-none : goal.returns-in_default-clause-none
returns-in_default-clause-none c = foreign_none c.args.payload.now c.args.restart.now c.args.number (rw c.in_default.is at c.in_ok-read.ensures.none)

pub returns-then-may_stand-clause-some : goal.returns-then-may_stand-clause-some
returns-then-may_stand-clause-some c =
    held_by c.args.payload.now c.args.restart.now.tables c.args.number c.args.restart.now.short c.in-Some.change (rw c.in-Some.is at c.in_ok-read.ensures.some) (sym c.if-may_stand.ensures)

pub returns-else-may_stand-clause-none : goal.returns-else-may_stand-clause-none
returns-else-may_stand-clause-none c = foreign_other c.args.payload.now c.args.restart.now c.args.number c.in-Some.change (rw c.in-Some.is at c.in_ok-read.ensures.some) (sym c.if-may_stand.ensures)
