use Rattle.px_shown.proofs.Showing.{commit_shows}
use Rattle.px_shown.proofs.Writing.{commit_in_front, commit_elsewhere}
use Rattle.px_shown.proofs.laws.a_commit_shows_its_writes.Goals as goal

pub returns-clause-shows : goal.returns-clause-shows
returns-clause-shows c = commit_shows

pub returns-clause-in_front : goal.returns-clause-in_front
returns-clause-in_front c = commit_in_front

pub returns-clause-in_front_elsewhere : goal.returns-clause-in_front_elsewhere
returns-clause-in_front_elsewhere c = commit_elsewhere
