use Rattle.px_chain.proofs.Near.{cells_told, header_told, pointer_told, slots_told}
use Rattle.px_chain.proofs.laws.neighbours_tell_an_unlink.Goals as goal

pub returns-clause-header : goal.returns-clause-header
returns-clause-header c = header_told

pub returns-clause-slots : goal.returns-clause-slots
returns-clause-slots c = slots_told

pub returns-clause-pointer : goal.returns-clause-pointer
returns-clause-pointer c = pointer_told

pub returns-clause-cells : goal.returns-clause-cells
returns-clause-cells c = cells_told
