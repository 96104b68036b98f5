use Rattle.px_history.proofs.Agreeing.{history_agrees}
use Rattle.px_history.proofs.laws.done_is_told.Goals as goal

pub returns-clause-told : goal.returns-clause-told
returns-clause-told c = λ parts short next rows base store steps xn b h. (history_agrees parts short next rows base store steps b h).done xn

pub returns-clause-earlier : goal.returns-clause-earlier
returns-clause-earlier c = λ parts short next rows base store steps xn b h less. (history_agrees parts short next rows base store steps b h).earlier xn less

pub returns-clause-not_over : goal.returns-clause-not_over
returns-clause-not_over c = λ parts short next rows base store steps xn b h is. (history_agrees parts short next rows base store steps b h).not_over xn is
