-- The calls that are to fail.
use Rattle.std.specs.Prelude.{ℕ, map, cond, nat_eq, List, [], ◌∷◌, Option, Some, None}
use Rattle.px_memsite.specs.declared.failure.Failure.{Failure}

-- these calls fail before a byte is through
abbrev pub before_any_byte : List ℕ → List Failure
before_any_byte calls = map (λ call. record { call = call; bytes = 0 }) calls

-- where the call of this number is to fail, how many of its bytes go through
abbrev pub failure_of : List Failure → ℕ → Option ℕ
failure_of [] call = None
failure_of (failure ∷ rest) call = cond (nat_eq failure.call call) (Some failure.bytes) (failure_of rest call)
