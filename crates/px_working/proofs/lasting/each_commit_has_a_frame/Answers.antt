use Rattle.px_working.proofs.Few.{no_more_commits}
use Rattle.px_working.proofs.lasting.each_commit_has_a_frame.Goals as goal

pub returns : goal.returns
returns c = no_more_commits
