use Rattle.px_chain.proofs.SoundLaws.{chain_once, free_slots_once, free_rows_once, one_chain, chain_or_free}
use Rattle.px_chain.proofs.Standing.{one_place}
use Rattle.px_chain.proofs.laws.a_place_stands_once.Goals as goal

pub returns-clause-chains : goal.returns-clause-chains
returns-clause-chains c = chain_once

pub returns-clause-free_slots : goal.returns-clause-free_slots
returns-clause-free_slots c = free_slots_once

pub returns-clause-free_rows : goal.returns-clause-free_rows
returns-clause-free_rows c = free_rows_once

pub returns-clause-one_chain : goal.returns-clause-one_chain
returns-clause-one_chain c = one_chain

pub returns-clause-chain_or_free : goal.returns-clause-chain_or_free
returns-clause-chain_or_free c = chain_or_free

pub returns-clause-one_place : goal.returns-clause-one_place
returns-clause-one_place c = one_place
