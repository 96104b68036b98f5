use Rattle.px_shown.proofs.Unlinking.{none_of_them_done, one_in_front_done}
use Rattle.px_shown.proofs.Firsts.{left_deleted}
use Rattle.px_shown.proofs.laws.what_may_be_unlinked.Goals as goal

pub returns-clause-not_done : goal.returns-clause-not_done
returns-clause-not_done c = none_of_them_done

pub returns-clause-older : goal.returns-clause-older
returns-clause-older c = one_in_front_done

pub returns-clause-deleted : goal.returns-clause-deleted
returns-clause-deleted c = left_deleted
