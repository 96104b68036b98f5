use Rattle.px_xacts.proofs.TakenBack.{begin_taken_back}
use Rattle.px_xacts.proofs.xacts.Xacts.unbegin.Goals as goal

pub returns-clause-takes_back : goal.returns-clause-takes_back
returns-clause-takes_back c = λ before frames closed was.
    begin_taken_back c.args.self.now _ before c.args.session frames c.take_back_begin.ensures closed was
