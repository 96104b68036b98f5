use Rattle.px_counted.proofs.Full.{a_slot_each, chains_fill, full_in_chains, slots_are_first}
use Rattle.px_counted.proofs.laws.row_pointers_last_as_long_as_slots.Goals as goal

pub returns-clause-full : goal.returns-clause-full
returns-clause-full c = λ short table layout sound fits. (full_in_chains short table layout sound, chains_fill short table layout sound fits)

pub returns-clause-one_each : goal.returns-clause-one_each
returns-clause-one_each c = a_slot_each

pub returns-clause-rows_first : goal.returns-clause-rows_first
returns-clause-rows_first c = slots_are_first
