-- What the lines of a script ask for, and what is told of it.
use Rattle.std.specs.Prelude.{ℕ, List, [], ◌∷◌, ◌++◌}
use Rattle.px_calls.specs.Histories.{Step, step_reply}
use Rattle.px_calls.specs.Texts.{reply_text}
use Rattle.px_engine.specs.Counts.{census_of, marks_at}
use Rattle.px_engine.specs.Engine.{Engine, after_step}
use Rattle.px_engine.specs.Texts.{stat_text}

-- a step, or the numbers of the engine
pub data Request : Type 0 where
  Ask : Step → Request
  Stat : Request

abbrev pub answer_text : Engine → Request → List ℕ
answer_text e (Ask step) = reply_text (step_reply e.machine step)
answer_text e Stat = stat_text (census_of e.machine) (marks_at e.frames e.durable)

abbrev pub after_request : Engine → Request → Engine
after_request e (Ask step) = after_step e step
after_request e Stat = e

abbrev pub after_requests : Engine → List Request → Engine
after_requests e [] = e
after_requests e (request ∷ requests) = after_requests (after_request e request) requests

-- the text of each answer, in order
abbrev pub answer_texts : Engine → List Request → List (List ℕ)
answer_texts e [] = []
answer_texts e (request ∷ requests) = answer_text e request ∷ answer_texts (after_request e request) requests

-- the steps among them
abbrev pub step_in : Request → List Step
step_in (Ask step) = step ∷ []
step_in Stat = []

abbrev pub steps_of : List Request → List Step
steps_of [] = []
steps_of (request ∷ requests) = step_in request ++ steps_of requests
