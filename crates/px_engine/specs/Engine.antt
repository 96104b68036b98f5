-- The engine as contracts see it, and what steps make of it.
use Rattle.std.specs.Prelude.{ℕ, ◌+◌, List, [], ◌∷◌, if◌then◌else◌}
use Rattle.px_model.specs.Machine.{Machine}
use Rattle.px_calls.specs.Histories.{Step, step_state}
use Rattle.px_engine.specs.Frames.{step_frames, syncs}

-- the machine that an engine works for, how many frames its log has, and how many of them are synced
pub record Engine : Type 0 where
  pub machine : Machine
  pub frames : ℕ
  pub durable : ℕ

-- how many frames there are with the step
abbrev pub frames_with : Engine → Step → ℕ
frames_with e step = e.frames + step_frames e.machine step

abbrev pub durable_with : Engine → Step → ℕ
durable_with e step = if syncs e.machine step then frames_with e step else e.durable

abbrev pub after_step : Engine → Step → Engine
after_step e step = record { machine = step_state e.machine step; frames = frames_with e step; durable = durable_with e step }

abbrev pub after_steps : Engine → List Step → Engine
after_steps e [] = e
after_steps e (step ∷ steps) = after_steps (after_step e step) steps
