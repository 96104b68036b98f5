use Rattle.px_history.specs.Told.{told_by}
use Rattle.px_history.proofs.Agreeing.{history_agrees, untold_none, untold_open}
use Rattle.px_history.proofs.Writing.{stays_open}
use Rattle.px_history.proofs.laws.a_new_transaction_is_open.Goals as goal

pub returns-clause-is_open : goal.returns-clause-is_open
returns-clause-is_open c = λ parts short next rows base store steps xn b h later untold.
    untold_open parts short next rows base (told_by parts steps) store xn (history_agrees parts short next rows base store steps b h) later untold

pub returns-clause-no_versions : goal.returns-clause-no_versions
returns-clause-no_versions c = λ parts short next rows base store steps xn t row b h later untold used.
    untold_none parts short next rows base (told_by parts steps) store xn t row (history_agrees parts short next rows base store steps b h) later untold used

pub returns-clause-stays : goal.returns-clause-stays
returns-clause-stays c = stays_open

pub returns-clause-later : goal.returns-clause-later
returns-clause-later c = λ parts short next rows base store steps xn b h its. (history_agrees parts short next rows base store steps b h).later xn its
