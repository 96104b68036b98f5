use Rattle.px_chain.proofs.SoundLaws.{chain_alike, free_slots_alike, free_rows_alike}
use Rattle.px_chain.proofs.laws.sound_cells_have_one_layout.Goals as goal

pub returns-clause-chains : goal.returns-clause-chains
returns-clause-chains c = chain_alike

pub returns-clause-free_slots : goal.returns-clause-free_slots
returns-clause-free_slots c = free_slots_alike

pub returns-clause-free_rows : goal.returns-clause-free_rows
returns-clause-free_rows c = free_rows_alike
