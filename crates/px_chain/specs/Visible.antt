-- Which version of a chain a reader sees.
use Rattle.std.specs.Prelude.{ℕ, Bool, true, false, ◌==◌, ◌||◌, nat_lt}
use Rattle.px_model.specs.declared.standing.Standing.{Standing}
use Rattle.px_model.specs.declared.standing.Standing.TheVariants.{Before, Open, RolledBack, Committed}
use Rattle.px_chain.specs.declared.views.SlotView.{SlotView}

-- it was done before the reader began
abbrev pub is_done : (snapshot : ℕ) → Standing → Bool
is_done snapshot Before = true
is_done snapshot Open = false
is_done snapshot RolledBack = false
is_done snapshot (Committed place) = nat_lt place snapshot

-- a reader sees what it wrote itself, and what was done before it began
abbrev pub is_visible : (own snapshot : ℕ) → SlotView → Bool
is_visible own snapshot view = (view.xn == own) || is_done snapshot view.standing
