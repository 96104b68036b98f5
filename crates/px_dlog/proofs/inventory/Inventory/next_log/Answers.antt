use Rattle.std.proofs.Common.{ℕ, ◌+◌, subst}
use Rattle.px_dlog.specs.Inventory.{IsFirstFrom}
use Rattle.px_dlog.proofs.Searching.{next_is_closed}
use Rattle.px_dlog.proofs.inventory.Inventory.next_log.Goals as goal

pub returns-in-Some-clause-next : goal.returns-in-Some-clause-next
returns-in-Some-clause-next c =
    let logs = c.args.self.now.closed.items in
    next_is_closed logs c.args.self.now.current c.args.self.now.next c.args.after c.in-Some.log c.requires.order
    (subst (λ (n : ℕ). IsFirstFrom (n + 1) logs c.in-Some.log) c.from.ensures c.in-Some.ensures.first)
