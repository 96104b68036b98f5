use Rattle.std.proofs.Common.{◌+◌, arith}
use Rattle.px_calls.specs.declared.call.Call.TheVariants.{Commit, Rollback}
use Rattle.px_history.specs.Steps.{Step}
use Rattle.px_model.specs.Machine.{commits}
use Rattle.px_cell_standing.proofs.Going.{call_names, empty_still, follow_names, follow_sweep_names, swept_names}
use Rattle.px_cell_standing.proofs.calls.what_can_be_found_goes_on.Goals as goal

pub returns-clause-write : goal.returns-clause-write
returns-clause-write c = λ parts least m life restart marks before now session call t header slot lasts works can by places fits others. record {
  names = follow_names parts m life restart session call (Step.put t header slot) lasts.is_life.count works
      (c.a_write_goes_on.ensures.follows parts least m life restart marks before session call t header slot lasts works by places fits) tt
      (omega (arith, by.number, works.kept.numbered.open_ones.given session by.xact by.is_open)) can.names;
  tables = empty_still before now others can.tables;
  redo = can.redo;
}

pub returns-clause-commit : goal.returns-clause-commit
returns-clause-commit c = λ parts least m life restart marks before now session xact lasts works can is_open wrote few others. record {
  names = follow_names parts m life restart session Commit (Step.commit (m.base + xact.number) (commits m + 1)) lasts.is_life.count works
      (c.a_commit_goes_on.ensures.follows parts least m life restart marks before session xact lasts works is_open wrote few) tt
      (omega (arith, works.kept.numbered.open_ones.given session xact is_open)) can.names;
  tables = empty_still before now others can.tables;
  redo = can.redo;
}

pub returns-clause-rollback : goal.returns-clause-rollback
returns-clause-rollback c = λ parts least m life restart marks before now session xact lasts works can is_open wrote others. record {
  names = follow_names parts m life restart session Rollback (Step.rollback (m.base + xact.number)) lasts.is_life.count works
      (c.a_rollback_goes_on.ensures.follows parts least m life restart marks before session xact lasts works is_open wrote) tt
      (omega (arith, works.kept.numbered.open_ones.given session xact is_open)) can.names;
  tables = empty_still before now others can.tables;
  redo = can.redo;
}

pub returns-clause-others : goal.returns-clause-others
returns-clause-others c = λ m life restart before now session call can others. record {
  names = call_names m life restart session call can.names;
  tables = empty_still before now others can.tables;
  redo = can.redo;
}

pub returns-clause-still : goal.returns-clause-still
returns-clause-still c = λ m life restart before now can others. record { names = can.names; tables = empty_still before now others can.tables; redo = can.redo }

pub returns-clause-sweep : goal.returns-clause-sweep
returns-clause-sweep c = λ parts least m life restart marks before now w t row place lasts works can at some others. record {
  names = follow_sweep_names parts m life restart w t row place lasts.is_life.count works at
      (c.a_sweep_goes_on.ensures.follows parts least m life restart marks before w t row place lasts works at some) can.names;
  tables = empty_still before now others can.tables;
  redo = can.redo;
}

pub returns-clause-swept_nothing : goal.returns-clause-swept_nothing
returns-clause-swept_nothing c = λ m life restart before now can others. record {
  names = swept_names m life restart can.names;
  tables = empty_still before now others can.tables;
  redo = can.redo;
}
