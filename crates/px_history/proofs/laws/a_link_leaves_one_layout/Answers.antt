use Rattle.px_history.proofs.Agreeing.{one_layout}
use Rattle.px_history.proofs.laws.a_link_leaves_one_layout.Goals as goal

pub returns : goal.returns
returns c = one_layout
