use Rattle.px_chain.proofs.Standing.{head_leads, slot_leads, slot_stands}
use Rattle.px_chain.proofs.laws.each_slot_leads_to_the_one_behind.Goals as goal

pub returns-clause-head : goal.returns-clause-head
returns-clause-head c = head_leads

pub returns-clause-next : goal.returns-clause-next
returns-clause-next c = slot_leads

pub returns-clause-variation : goal.returns-clause-variation
returns-clause-variation c = slot_stands
