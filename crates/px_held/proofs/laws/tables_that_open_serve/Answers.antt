use Rattle.std.proofs.Common.{refl}
use Rattle.px_opened.proofs.One.{all_sound}
use Rattle.px_opened.specs.Opened.{tables_of}
use Rattle.px_held.proofs.Making.{made_sound}
use Rattle.px_held.proofs.Serving.{serving}
use Rattle.px_held.proofs.laws.tables_that_open_serve.Goals as goal

pub returns-clause-made : goal.returns-clause-made
returns-clause-made c = λ site short made done over none.
    serving site _ _ (record { tables = λ t. refl; sound = made_sound short made none })

pub returns-clause-opened : goal.returns-clause-opened
returns-clause-opened c = λ site short tables places opened layouts done over opens.
    serving site _ _ (record { tables = λ t. refl; sound = all_sound short tables places (tables_of opened) layouts opens })
