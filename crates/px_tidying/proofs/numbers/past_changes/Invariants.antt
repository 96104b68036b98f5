use Rattle.std.proofs.Common.{◌≤◌, take}
use Rattle.px_model.specs.declared.limits.TheConstants.{STORED_NUMBERS_END}
use Rattle.px_tidying.specs.Numbers.{IsPastChanges}
use Rattle.px_tidying.proofs.numbers.past_changes.Given as goal

abbrev pub invariant-loop-change : goal.invariant-loop-change
invariant-loop-change l = record {
  past : IsPastChanges l.first (take l.change-index l.changes) l.next;
  end : l.next ≤ STORED_NUMBERS_END;
}
