-- Sound cells have no flaw.
use Rattle.std.proofs.Common.{ℕ, ◌+◌, arith}
use Rattle.px_chain.specs.Table.{Table}
use Rattle.px_chain.specs.Sound.{IsSound, Layout}
use Rattle.px_survey.specs.declared.flaw.Flaw.{Flaw}
use Rattle.px_survey.specs.declared.flaw.Flaw.TheVariants.{Header, Pointer, Slot}
use Rattle.px_survey.specs.Flaws.{IsFlaw}
use Rattle.px_survey.proofs.Surveyed.{no_flawed_header, no_flawed_pointer, listed_met, sound_surveyed, sound_listed}

pub no_flaw : (short : ℕ) (table : Table) (layout : Layout) (flaw : Flaw) → IsSound short table layout → IsFlaw table flaw → ⊥
no_flaw short table layout Header sound is = no_flawed_header table 0 layout (sound_surveyed short table 0 layout sound) is
no_flaw short table layout (Pointer row) sound is =
    no_flawed_pointer table (row + 1) layout (sound_surveyed short table (row + 1) layout sound) row (λ place. omega arith) is
no_flaw short table layout (Slot slot) sound is =
    let rows = table.header.rows + 1 in
    listed_met table rows layout (sound_surveyed short table rows layout sound) slot (sound_listed short table rows layout sound (omega arith) slot is.place) is
