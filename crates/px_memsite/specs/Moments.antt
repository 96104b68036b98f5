-- The moments of a state, by number.
use Rattle.std.specs.Prelude.{ℕ, cond, nat_lt, List, [], ◌∷◌, length}
use Rattle.px_site.specs.State.{State, Moment}

-- the one with so many moments before it, or the latest where there are not so many
abbrev pub moment_from : ℕ → Moment → List Moment → Moment
moment_from number latest [] = latest
moment_from number latest (before ∷ earlier) = cond (nat_lt (length earlier) number) latest (moment_from number before earlier)

abbrev pub moment_at : ℕ → State → Moment
moment_at number s = moment_from number s.now s.past
