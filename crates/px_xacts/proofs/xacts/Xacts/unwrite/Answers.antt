use Rattle.px_xacts.proofs.TakenBack.{write_taken_back}
use Rattle.px_xacts.proofs.xacts.Xacts.unwrite.Goals as goal

pub returns-clause-takes_back : goal.returns-clause-takes_back
returns-clause-takes_back c = λ before write was.
    write_taken_back c.args.self.now _ before c.args.session write c.drop_last_write.ensures was
