use Rattle.std.proofs.Common.{sym, arith}
use Rattle.px_dlog.proofs.Numbers.{current_from_one, from_one, none_at_next}
use Rattle.px_dlog.proofs.inventory.Inventory.end.Goals as goal

pub returns-in-Some-clause-from_one : goal.returns-in-Some-clause-from_one
returns-in-Some-clause-from_one c = (current_from_one c.args.self.now.closed.items c.args.self.now.current c.args.self.now.next c.in-Some.current c.requires.order c.in-Some.ensures.some.0).0

pub returns-in-Ok-clause-from_one : goal.returns-in-Ok-clause-from_one
returns-in-Ok-clause-from_one c = omega (arith, from_one c.args.self.now.closed.items c.args.self.now.current c.args.self.now.next c.requires.order, c.in-Ok.ensures)

pub returns-in-Ok-clause-place : goal.returns-in-Ok-clause-place
returns-in-Ok-clause-place c = sym (none_at_next c.args.self.now.closed.items c.args.self.now.current c.args.self.now.next c.requires.order c.in-Ok.log (omega (arith, c.in-Ok.ensures)))
