use Rattle.std.proofs.Common.{refl}
use Rattle.px_chain.specs.Unused.{unused_table}
use Rattle.px_laid.proofs.Counts.{nothing}
use Rattle.px_laid.proofs.Holds.{new_row, new_variation, other_table, unlink}
use Rattle.px_laid.proofs.Unused.{never_used, unused_header, unused_pointer}
use Rattle.px_laid.proofs.laws.held_tables_stay_held.Goals as goal

pub returns-clause-nothing : goal.returns-clause-nothing
returns-clause-nothing c = λ short number. record {
  sound = c.no_cells_are_sound.ensures short unused_table refl;
  says = record { header = unused_header; slot = λ n. never_used short; pointer = λ n. unused_pointer };
  counts = nothing number;
}

pub returns-clause-new_row : goal.returns-clause-new_row
returns-clause-new_row c = λ short number table layout places header slot holds stored begins fits slot_fits.
    new_row short number table layout places header slot (c.a_new_row_is_sound.ensures short table layout header slot holds.sound stored begins) holds stored begins fits slot_fits

pub returns-clause-new_variation : goal.returns-clause-new_variation
returns-clause-new_variation c = λ short number table layout places header slot holds stored varies fits slot_fits.
    new_variation short number table layout places header slot (c.a_new_variation_is_sound.ensures short table layout header slot holds.sound stored varies) holds stored varies fits slot_fits

pub returns-clause-unlinked : goal.returns-clause-unlinked
returns-clause-unlinked c = λ short number table layout places row from count holds used some within.
    unlink short number table layout places row from count (c.unlinked_cells_are_sound.ensures short table layout row from count holds.sound used some within) holds used

pub returns-clause-other_table : goal.returns-clause-other_table
returns-clause-other_table c = other_table
