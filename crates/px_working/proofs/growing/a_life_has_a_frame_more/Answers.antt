use Rattle.px_working.proofs.Grown.{end_more, last_laid, last_more, same_changes, same_places, same_store}
use Rattle.px_working.proofs.growing.a_life_has_a_frame_more.Goals as goal

pub returns-clause-end : goal.returns-clause-end
returns-clause-end c = end_more

pub returns-clause-last : goal.returns-clause-last
returns-clause-last c = last_more

pub returns-clause-last_places : goal.returns-clause-last_places
returns-clause-last_places c = last_laid

pub returns-clause-store : goal.returns-clause-store
returns-clause-store c = λ parts short tables next frame rows life step change is. same_store parts short tables next rows life step change is frame

pub returns-clause-places : goal.returns-clause-places
returns-clause-places c = λ parts short tables next frame rows life step change is. same_places parts short tables next rows life step change is frame

pub returns-clause-changes : goal.returns-clause-changes
returns-clause-changes c = same_changes
