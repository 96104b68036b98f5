use Rattle.px_held.proofs.Serving.{serving}
use Rattle.px_held.proofs.held.Held.new.Goals as goal

pub returns-clause-serves : goal.returns-clause-serves
returns-clause-serves c = λ site store tables sound. serving site _ store (record { tables = tables; sound = sound })
