use Rattle.std.proofs.Common.{take}
use Rattle.px_history.specs.Steps.{after_steps}
use Rattle.px_history.proofs.Agreeing.{history_agrees}
use Rattle.px_history.proofs.Fronting.{front_changes, front_history, front_logged, front_told}
use Rattle.px_history.proofs.laws.fronts_are_histories.Goals as goal

pub returns-clause-history : goal.returns-clause-history
returns-clause-history c = front_history

pub returns-clause-shows : goal.returns-clause-shows
returns-clause-shows c = λ parts short next rows base store steps count b h.
    (history_agrees parts short next rows base (after_steps base (take count steps)) (take count steps) b (front_history parts short base store steps count h)).shows

pub returns-clause-told : goal.returns-clause-told
returns-clause-told c = front_told

pub returns-clause-changes : goal.returns-clause-changes
returns-clause-changes c = front_changes

pub returns-clause-logged : goal.returns-clause-logged
returns-clause-logged c = front_logged
