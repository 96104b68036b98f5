-- What many steps leave as it was, and where they lead.
use Rattle.std.proofs.Common.{◌≡◌, ℕ, ◌-◌, ◌≤◌, List, [], ◌∷◌, ◌++◌, refl, ap, ◌∙◌, arith}
use Rattle.px_model.specs.Machine.{Machine, commits, published}
use Rattle.px_calls.specs.declared.call.Call.{Call}
use Rattle.px_calls.specs.Histories.{Step, by, sweep, machine_after, state_after_all, step_state}
use Rattle.px_calls.specs.Sweeps.{swept_state}
use Rattle.px_logged.specs.Growing.{KeepsOpening}
use Rattle.px_logged.proofs.Grown.{commits_rise, opening_stays, published_stays}
use Rattle.px_engine.specs.Calls.{steps_of_calls}
use Rattle.px_engine.specs.Engine.{Engine, after_step, after_steps}
use Rattle.px_engine.specs.Requests.{Request, Ask, Stat, after_request, after_requests, steps_of}

pub calls_as_steps : (m : Machine) (calls : List (ℕ × Call)) → machine_after m (steps_of_calls calls) ≡ state_after_all m calls
calls_as_steps m [] = refl
calls_as_steps m (c ∷ calls) = calls_as_steps (step_state m (by c.0 c.1)) calls

pub requests_as_steps : (e : Engine) (requests : List Request) → after_requests e requests ≡ after_steps e (steps_of requests)
requests_as_steps e [] = refl
requests_as_steps e (Ask step ∷ requests) = requests_as_steps (after_step e step) requests
requests_as_steps e (Stat ∷ requests) = requests_as_steps e requests

pub machine_of_steps : (e : Engine) (steps : List Step) → (after_steps e steps).machine ≡ machine_after e.machine steps
machine_of_steps e [] = refl
machine_of_steps e (step ∷ steps) = machine_of_steps (after_step e step) steps

pub machine_of_requests : (e : Engine) (requests : List Request) → (after_requests e requests).machine ≡ machine_after e.machine (steps_of requests)
machine_of_requests e requests = ap (λ (f : Engine). f.machine) (requests_as_steps e requests) ∙ machine_of_steps e (steps_of requests)

pub engine_behind : (e : Engine) (requests more : List Request) → after_requests e (requests ++ more) ≡ after_requests (after_requests e requests) more
engine_behind e [] more = refl
engine_behind e (request ∷ requests) more = engine_behind (after_request e request) requests more

pub machine_behind : (m : Machine) (steps more : List Step) → machine_after m (steps ++ more) ≡ machine_after (machine_after m steps) more
machine_behind m [] more = refl
machine_behind m (step ∷ steps) more = machine_behind (step_state m step) steps more

-- ---- what stays

pub step_keeps_opening : (m : Machine) (step : Step) → KeepsOpening m (step_state m step)
unfolding swept_state
step_keeps_opening m (by session call) = opening_stays m ((session, call) ∷ [])
step_keeps_opening m sweep = record { tables = refl; short = refl; opening = refl; before = refl; base = refl }

pub step_commits : (m : Machine) (step : Step) → commits m ≤ commits (step_state m step)
unfolding swept_state commits
step_commits m (by session call) = commits_rise m ((session, call) ∷ [])
step_commits m sweep = omega arith

step_published : (m : Machine) (step : Step) (count : ℕ) → count ≤ commits m - m.before → published (step_state m step) count ≡ published m count
unfolding swept_state published
step_published m (by session call) count within = published_stays m ((session, call) ∷ []) count within
step_published m sweep count within = refl

pub steps_keep_opening : (m : Machine) (steps : List Step) → KeepsOpening m (machine_after m steps)
steps_keep_opening m [] = record { tables = refl; short = refl; opening = refl; before = refl; base = refl }
steps_keep_opening m (step ∷ steps) =
    let first = step_keeps_opening m step in
    let others = steps_keep_opening (step_state m step) steps in
    record {
      tables = others.tables ∙ first.tables;
      short = others.short ∙ first.short;
      opening = others.opening ∙ first.opening;
      before = others.before ∙ first.before;
      base = others.base ∙ first.base;
    }

pub steps_commit : (m : Machine) (steps : List Step) → commits m ≤ commits (machine_after m steps)
steps_commit m [] = omega arith
steps_commit m (step ∷ steps) = omega (arith, step_commits m step, steps_commit (step_state m step) steps)

pub steps_published : (m : Machine) (steps : List Step) (count : ℕ) → count ≤ commits m - m.before → published (machine_after m steps) count ≡ published m count
steps_published m [] count within = refl
steps_published m (step ∷ steps) count within =
    steps_published (step_state m step) steps count (omega (arith, within, step_commits m step, (step_keeps_opening m step).before))
    ∙ step_published m step count within
