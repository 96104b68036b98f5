use Rattle.px_chain.proofs.Orders.{part_rises, cells_counted}
use Rattle.px_chain.proofs.laws.unlinked_cells_are_in_order.Goals as goal

pub returns-clause-order : goal.returns-clause-order
returns-clause-order c = part_rises

pub returns-clause-count : goal.returns-clause-count
returns-clause-count c = cells_counted
