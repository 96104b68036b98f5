-- Steps that name each version which they take.
use Rattle.std.specs.Prelude.{◌≡◌}
use Rattle.px_history.specs.Steps.{Step}

-- A session's step, or an unlink of one version alone: its frame names who wrote that.
abbrev pub IsOneVersion : Step → Type 0
IsOneVersion (Step.put t header slot) = Unit {0}
IsOneVersion (Step.commit xn number) = Unit {0}
IsOneVersion (Step.rollback xn) = Unit {0}
IsOneVersion (Step.unlink t row from count) = count ≡ 1
IsOneVersion (Step.move t number log place) = ⊥
