-- A version that goes.
use Rattle.std.specs.Prelude.{ℕ, List}
use Rattle.px_chain.specs.Places.{slot_before, slot_in}
use Rattle.px_tidy.specs.declared.tidying.Unneeded.{Unneeded}

-- the slot at a place of a chain, and the one in front of it
abbrev pub unneeded_at : List ℕ → (place : ℕ) → Unneeded
unneeded_at chain place = record { slot = slot_in chain place; newer = slot_before chain place }
