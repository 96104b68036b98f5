use Rattle.px_recs.proofs.Texts.{header_size, pointer_size}
use Rattle.px_recs.proofs.Slots.{at_parts, parts_size}
use Rattle.px_recs.proofs.laws.sizes_of_texts.Goals as goal

pub returns-clause-header : goal.returns-clause-header
returns-clause-header c = λ short. header_size

pub returns-clause-pointer : goal.returns-clause-pointer
returns-clause-pointer c = λ short. pointer_size

pub returns-clause-slot : goal.returns-clause-slot
returns-clause-slot c = λ short bytes slot at. parts_size short bytes slot (at_parts short bytes slot at)
