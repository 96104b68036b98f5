-- A core as an engine.
use Rattle.std.specs.Prelude.{◌≡◌}
use Rattle.px_site.specs.State.{State}
use Rattle.px_core.specs.Core.{durable_of, frames_of}
use Rattle.px_core.specs.declared.state.Kept.{Kept}
use Rattle.px_core.specs.Working.{WorksFor}
use Rattle.px_engine.specs.Engine.{Engine}

-- the core works for the engine's machine, and its log is as far as the engine's
pub record IsEngine {W : Type 0} (state : W → State) (core : Kept W) (e : Engine) : Type 0 where
  pub works : WorksFor state core e.machine
  pub frames : frames_of core ≡ e.frames
  pub durable : durable_of core ≡ e.durable
