use Rattle.px_tidy.proofs.Stores.{one_of_them}
use Rattle.px_tidy.proofs.laws.each_step_may_follow.Goals as goal

pub returns : goal.returns
returns c = λ parts short store before behind step follow. one_of_them parts short store before behind step follow
