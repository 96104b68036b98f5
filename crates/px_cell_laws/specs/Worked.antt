-- A worked example: in a new store, whose base is 2, a transaction writes a row of table 2 and commits, another one deletes it and
-- commits, and both writes are swept.
use Rattle.std.specs.Prelude.{ℕ, List, [], ◌∷◌}
use Rattle.px_calls.specs.declared.call.Call.TheVariants.{Begin, Commit, Delete, Insert}
use Rattle.px_calls.specs.Histories.{state_after_all}
use Rattle.px_calls.specs.Sweeps.{swept_state}
use Rattle.px_history.specs.Example.{deleted_by_4, header_with}
use Rattle.px_history.specs.Steps.{Step, after_step}
use Rattle.px_history.specs.Store.{Store, nothing}
use Rattle.px_model.specs.Machine.{Machine, fresh}
use Rattle.px_shown.specs.Example.{key, one_place, written_by_3}

abbrev pub new_machine : Machine
new_machine = fresh 2 16 [] 0 2

abbrev pub body : List ℕ
body = 97 ∷ []

abbrev pub begun : Machine
begun = state_after_all new_machine ((0, Begin) ∷ [])

abbrev pub written : Machine
written = state_after_all new_machine ((0, Begin) ∷ (0, Insert 2 key 7 body) ∷ [])

abbrev pub committed : Machine
committed = state_after_all new_machine ((0, Begin) ∷ (0, Insert 2 key 7 body) ∷ (0, Commit) ∷ [])

abbrev pub one_version : Store
one_version = after_step nothing (Step.put 2 one_place written_by_3)

abbrev pub one_row : Store
one_row = after_step one_version (Step.commit 3 1)

-- ---- the row is deleted

abbrev pub second_begun : Machine
second_begun = state_after_all committed ((0, Begin) ∷ [])

abbrev pub unwritten : Machine
unwritten = state_after_all committed ((0, Begin) ∷ (0, Delete 2 key) ∷ [])

abbrev pub deleted : Machine
deleted = state_after_all committed ((0, Begin) ∷ (0, Delete 2 key) ∷ (0, Commit) ∷ [])

abbrev pub two_versions : Store
two_versions = after_step one_row (Step.put 2 (header_with 2) deleted_by_4)

abbrev pub deleted_row : Store
deleted_row = after_step two_versions (Step.commit 4 2)

-- ---- and swept

-- the sweeper has passed the first write
abbrev pub swept_once : Machine
swept_once = swept_state deleted

-- and the second
abbrev pub swept_twice : Machine
swept_twice = swept_state swept_once

-- both versions go with that
abbrev pub no_row : Store
no_row = after_step deleted_row (Step.unlink 2 1 0 2)
