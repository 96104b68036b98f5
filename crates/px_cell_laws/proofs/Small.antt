-- The worked example, law by law.
use Rattle.std.proofs.Common.{◌≡◌, ◌-◌, [], ◌∷◌, List, Some, refl, subst, arith, inl}
use Rattle.px_calls.specs.declared.call.Call.TheVariants.{Begin, Insert, Commit}
use Rattle.px_calls.specs.Steps.{begins_spent, conflict_of, fits_body, fits_key, has_table, is_full, longest_body, open_of, reply_of, state_after, state_when_done, write_refusal}
use Rattle.px_cells.specs.Form.{is_slot}
use Rattle.px_chain.specs.Links.{IsStored}
use Rattle.px_chain_laws.specs.Kept.{IsKept}
use Rattle.px_chain_laws.proofs.Keeping.{kept_call, kept_fresh}
use Rattle.px_history.specs.Store.{nothing}
use Rattle.px_model.specs.Chains.{all_variations, base_rows, variations_of_table}
use Rattle.px_model.specs.Machine.{commits, fresh, published, view}
use Rattle.px_model.specs.Rows.{key_cmp, same_key}
use Rattle.px_model.specs.declared.machine.Open.{Open}
use Rattle.px_model.specs.declared.row.Row.{Row}
use Rattle.px_model.specs.declared.write.Write.TheVariants.{Put}
use Rattle.px_shown.specs.Example.{key, one_place, row_with, written_by_3}
use Rattle.px_shown.specs.Shown.{Shows}
use Rattle.px_shown.proofs.Changes.{no_cells_sound}
use Rattle.px_shown.proofs.Showing.{none_shown}
use Rattle.px_cell_laws.specs.Holding.{HoldsChains}
use Rattle.px_cell_laws.specs.Worked.{begun, body, committed, new_machine, one_row, one_version, written}
use Rattle.px_cell_laws.specs.Writing.{IsWriteBy}
use Rattle.px_cell_laws.proofs.Beginning.{tidied_holds}
use Rattle.px_cell_laws.proofs.Calling.{reads_leave}
use Rattle.px_cell_laws.proofs.Ending.{commit_holds}
use Rattle.px_cell_laws.proofs.Showing.{committed_shown}
use Rattle.px_cell_laws.proofs.Writing.{put_holds}
use Rattle.px_shown.specs.Parts.{Parts}

new_kept : IsKept new_machine
new_kept = kept_fresh 2 16 [] 0 2

begun_kept : IsKept begun
begun_kept = kept_call new_machine 0 Begin new_kept

written_kept : IsKept written
written_kept = kept_call begun 0 (Insert 2 key 7 body) begun_kept

pub committed_kept : IsKept committed
committed_kept = kept_call written 0 Commit written_kept

pub new_holds : (parts : Parts) → HoldsChains parts new_machine nothing
new_holds parts = tidied_holds parts 2 16 [] 0 2 nothing
    (no_cells_sound 16 nothing.tables (λ t. refl))
    (record { each = λ t row used. absurd (omega (arith, used.0.0, used.0.1)) })
    (none_shown parts nothing.tables nothing.layouts nothing.done (λ t. refl))
    (λ t row used. absurd (omega (arith, used.0.0, used.0.1)))
    (λ xn past. record { undone = refl; not_over = refl })

pub begun_holds : (parts : Parts) → HoldsChains parts begun nothing
begun_holds parts = reads_leave parts new_machine nothing 0 Begin (new_holds parts) new_kept refl refl

first : Open
first = record { number = 1; snap = 0; writes = []; kept = [] }

stored : IsStored 16 written_by_3
unfolding is_slot
stored = record { form = refl; used = λ e. cc }

first_write : (parts : Parts) → IsWriteBy parts begun nothing 0 (Insert 2 key 7 body) 2 one_place written_by_3
unfolding first fresh state_after state_when_done reply_of begins_spent write_refusal has_table fits_key fits_body longest_body conflict_of is_full variations_of_table all_variations base_rows view same_key key_cmp
first_write parts = record {
  xact = first;
  is_open = refl;
  answered = refl;
  write = refl;
  number = refl;
  stored = stored;
  link = inl (record { slots = refl; rows = refl; its_row = refl; next = refl; its_key = λ row used. absurd (omega (arith, used.0.0, used.0.1)) });
}

pub written_holds : (parts : Parts) → HoldsChains parts written one_version
unfolding fresh state_after state_when_done reply_of begins_spent
written_holds parts = put_holds parts begun nothing 0 (Insert 2 key 7 body) 2 one_place written_by_3 (begun_holds parts) begun_kept (first_write parts)

writer : Open
writer = record { number = 1; snap = 0; writes = Put (row_with body) ∷ []; kept = [] }

writer_open : open_of written 0 ≡ Some writer
unfolding writer fresh state_after state_when_done reply_of begins_spent write_refusal has_table fits_key fits_body longest_body conflict_of is_full variations_of_table all_variations base_rows view same_key key_cmp
writer_open = refl

pub committed_holds : (parts : Parts) → HoldsChains parts committed one_row
unfolding writer fresh state_after state_when_done reply_of begins_spent write_refusal has_table fits_key fits_body longest_body conflict_of is_full variations_of_table all_variations base_rows view
committed_holds parts = commit_holds parts written one_version 0 writer (written_holds parts) written_kept writer_open (λ none. cc)

one_row_now : published committed (commits committed - committed.before) ≡ row_with body ∷ []
unfolding published commits fresh state_after state_when_done reply_of begins_spent write_refusal has_table fits_key fits_body longest_body conflict_of is_full variations_of_table all_variations base_rows view same_key key_cmp
one_row_now = refl

pub committed_shows : (parts : Parts) → Shows parts one_row.tables one_row.layouts one_row.done (row_with body ∷ [])
unfolding fresh state_after state_when_done reply_of begins_spent write_refusal has_table fits_key fits_body longest_body conflict_of is_full variations_of_table all_variations base_rows view
committed_shows parts =
    subst (λ (rows : List Row). Shows parts one_row.tables one_row.layouts one_row.done rows) one_row_now (committed_shown parts committed one_row (committed_holds parts) committed_kept refl)
