use Rattle.px_machine_laws.proofs.Sweeping.{commits_stay, full_may_have_room, no_more_versions, replies_stay, room_stays, views_stay}
use Rattle.px_machine_laws.proofs.laws.the_sweeper_only_makes_room.Goals as goal

pub returns-clause-versions : goal.returns-clause-versions
returns-clause-versions c = no_more_versions

pub returns-clause-room : goal.returns-clause-room
returns-clause-room c = room_stays

pub returns-clause-replies : goal.returns-clause-replies
returns-clause-replies c = replies_stay

pub returns-clause-full : goal.returns-clause-full
returns-clause-full c = full_may_have_room

pub returns-clause-views : goal.returns-clause-views
returns-clause-views c = views_stay

pub returns-clause-commits : goal.returns-clause-commits
returns-clause-commits c = commits_stay
