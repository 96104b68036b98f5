use Rattle.px_xacts.specs.Transactions.{open_of}
use Rattle.px_xacts_tests.proofs.Writing.{HasWrites}
use Rattle.px_xacts_tests.proofs.store.add_writes.Given as goal

abbrev pub invariant-loop-index : goal.invariant-loop-index
invariant-loop-index l = HasWrites l.index (open_of l.all l.session)
