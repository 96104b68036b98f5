use Rattle.px_history.proofs.Agreeing.{history_agrees}
use Rattle.px_history.proofs.Basing.{unlinks_tell}
use Rattle.px_history.proofs.laws.a_history_shows_what_it_tells.Goals as goal

pub returns-clause-shows : goal.returns-clause-shows
returns-clause-shows c = λ parts short next rows base store steps b h. (history_agrees parts short next rows base store steps b h).shows

pub returns-clause-wrote : goal.returns-clause-wrote
returns-clause-wrote c = λ parts short next rows base store steps xn b h its. (history_agrees parts short next rows base store steps b h).wrote xn its

pub returns-clause-unlinks : goal.returns-clause-unlinks
returns-clause-unlinks c = unlinks_tell
