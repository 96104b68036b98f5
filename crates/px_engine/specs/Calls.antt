-- Calls of sessions as steps.
use Rattle.std.specs.Prelude.{ℕ, List, map}
use Rattle.px_calls.specs.declared.call.Call.{Call}
use Rattle.px_calls.specs.Histories.{Step, by}

abbrev pub steps_of_calls : List (ℕ × Call) → List Step
steps_of_calls calls = map (λ c. by c.0 c.1) calls
