use Rattle.px_index.proofs.Owned as owned
use Rattle.px_index.proofs.laws.versions_stand_in_any_order.Goals as goal

pub returns : goal.returns
returns c = record { to_front = owned.to_front; from_front = owned.from_front }
