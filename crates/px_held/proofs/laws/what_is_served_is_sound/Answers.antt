use Rattle.px_held.proofs.Serving.{served}
use Rattle.px_held.proofs.Unlinked.{used_there}
use Rattle.px_held.proofs.laws.what_is_served_is_sound.Goals as goal

pub returns-clause-sound : goal.returns-clause-sound
returns-clause-sound c = λ site held store serves. (served site held store serves).sound

pub returns-clause-tables : goal.returns-clause-tables
returns-clause-tables c = used_there
