use Rattle.std.proofs.Common.{ℕ, sym, subst}
use Rattle.px_tables.specs.Linking.{FitsSlot}
use Rattle.px_bench.proofs.chains.linked.Goals as goal

pub prepare-requires : goal.prepare-requires
prepare-requires c = subst (λ (short : ℕ). FitsSlot short c.in_ok-write.write) (sym c.loop-number.invariant) c.in_ok-write.ensures
