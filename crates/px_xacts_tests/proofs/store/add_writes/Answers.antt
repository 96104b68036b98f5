use Rattle.std.proofs.Common.{◌+◌, sym, subst, arith}
use Rattle.px_model.specs.declared.limits.TheConstants.{MOST_WRITES}
use Rattle.px_xacts.specs.Transactions.{Transactions, open_of}
use Rattle.px_xacts_tests.proofs.Writing.{HasWrites, may_write, one_more}
use Rattle.px_xacts_tests.proofs.store.add_writes.Goals as goal

pub add_write-requires : goal.add_write-requires
add_write-requires c =
    may_write (open_of c.loop-index.all c.args.session) c.loop-index.index MOST_WRITES
    (omega (arith, c.loop-index-test.true, c.requires.few)) c.loop-index.invariant

pub loop-index-preserved : goal.loop-index-preserved
loop-index-preserved c =
    subst (λ (all : Transactions). HasWrites (c.loop-index.index + 1) (open_of all c.args.session)) (sym c.in_ok-add_write.ensures.ok)
    (one_more c.loop-index.all c.args.session _ c.loop-index.index c.loop-index.invariant)
