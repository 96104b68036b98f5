-- The worked example goes on: the row is deleted and swept.
use Rattle.std.proofs.Common.{◌≡◌, ◌-◌, [], ◌∷◌, List, true, Some, refl, subst, inr, lit<, lit≤}
use Rattle.px_calls.specs.declared.call.Call.TheVariants.{Begin, Commit, Delete as DeleteCall}
use Rattle.px_calls.specs.Steps.{begins_spent, conflict_of, fits_body, fits_key, has_table, is_full, longest_body, open_of, reply_of, state_after, state_when_done, write_refusal}
use Rattle.px_calls.specs.Sweeps.{sweep_reply, swept_state}
use Rattle.px_cells.specs.Form.{is_slot}
use Rattle.px_chain.specs.Links.{IsStored}
use Rattle.px_chain_laws.specs.Kept.{IsKept}
use Rattle.px_chain_laws.proofs.Keeping.{kept_call, kept_sweep}
use Rattle.px_history.specs.Example.{deleted_by_4, header_with}
use Rattle.px_model.specs.Chains.{all_variations, base_rows, variations_of_table}
use Rattle.px_model.specs.Machine.{commits, fresh, horizon, published, view}
use Rattle.px_model.specs.Rows.{key_cmp, same_key}
use Rattle.px_model.specs.declared.machine.Flat.{Flat}
use Rattle.px_model.specs.declared.machine.Open.{Open}
use Rattle.px_model.specs.declared.row.Row.{Row}
use Rattle.px_model.specs.declared.write.Write.TheVariants.{Delete, Put}
use Rattle.px_shown.specs.Example.{key, row_with}
use Rattle.px_shown.specs.Parts.{Parts}
use Rattle.px_shown.specs.Shown.{Shows}
use Rattle.px_cell_laws.specs.Holding.{HoldsChains}
use Rattle.px_cell_laws.specs.Sweeping.{IsSweptAt}
use Rattle.px_cell_laws.specs.Worked.{body, committed, deleted, deleted_row, no_row, one_row, second_begun, swept_once, swept_twice, two_versions, unwritten}
use Rattle.px_cell_laws.specs.Writing.{IsWriteBy}
use Rattle.px_cell_laws.proofs.Calling.{reads_leave}
use Rattle.px_cell_laws.proofs.Ending.{commit_holds}
use Rattle.px_cell_laws.proofs.Showing.{committed_shown}
use Rattle.px_cell_laws.proofs.Small.{committed_holds, committed_kept}
use Rattle.px_cell_laws.proofs.Swept.{nothing_goes, sweep_holds}
use Rattle.px_cell_laws.proofs.Writing.{put_holds}

second_kept : IsKept second_begun
second_kept = kept_call committed 0 Begin committed_kept

unwritten_kept : IsKept unwritten
unwritten_kept = kept_call second_begun 0 (DeleteCall 2 key) second_kept

deleted_kept : IsKept deleted
deleted_kept = kept_call unwritten 0 Commit unwritten_kept

second_holds : (parts : Parts) → HoldsChains parts second_begun one_row
second_holds parts = reads_leave parts committed one_row 0 Begin (committed_holds parts) committed_kept refl refl

second : Open
second = record { number = 2; snap = 1; writes = []; kept = [] }

stored : IsStored 16 deleted_by_4
unfolding is_slot
stored = record { form = refl; used = λ e. cc }

second_write : (parts : Parts) → IsWriteBy parts second_begun one_row 0 (DeleteCall 2 key) 2 (header_with 2) deleted_by_4
unfolding second fresh state_after state_when_done reply_of begins_spent write_refusal has_table fits_key fits_body longest_body conflict_of is_full variations_of_table all_variations base_rows view same_key key_cmp
second_write parts = record {
  xact = second;
  is_open = refl;
  answered = refl;
  write = refl;
  number = refl;
  stored = stored;
  link = inr (record { slots = refl; rows = refl; its_row = ((lit≤ tt, lit≤ tt), refl); next = refl; its_key = refl });
}

unwritten_holds : (parts : Parts) → HoldsChains parts unwritten two_versions
unwritten_holds parts = put_holds parts second_begun one_row 0 (DeleteCall 2 key) 2 (header_with 2) deleted_by_4 (second_holds parts) second_kept (second_write parts)

deleting : Open
deleting = record { number = 2; snap = 1; writes = Delete 2 key ∷ []; kept = [] }

deleting_open : open_of unwritten 0 ≡ Some deleting
unfolding deleting fresh state_after state_when_done reply_of begins_spent write_refusal has_table fits_key fits_body longest_body conflict_of is_full variations_of_table all_variations base_rows view same_key key_cmp
deleting_open = refl

pub deleted_holds : (parts : Parts) → HoldsChains parts deleted deleted_row
unfolding deleting fresh commits state_after state_when_done reply_of begins_spent write_refusal has_table fits_key fits_body longest_body conflict_of is_full variations_of_table all_variations base_rows view same_key key_cmp
deleted_holds parts = commit_holds parts unwritten two_versions 0 deleting (unwritten_holds parts) unwritten_kept deleting_open (λ none. cc)

-- ---- the sweeps

insertion : Flat
insertion = record { place = 0; number = 1; committed = true; write = Put (row_with body) }

deletion : Flat
deletion = record { place = 1; number = 2; committed = true; write = Delete 2 key }

insertion_swept : IsSweptAt deleted deleted_row insertion 2 1 1
unfolding insertion horizon fresh state_after state_when_done reply_of begins_spent write_refusal has_table fits_key fits_body longest_body conflict_of is_full variations_of_table all_variations base_rows view same_key key_cmp
insertion_swept = record { next = refl; due = lit< tt; used = ((lit≤ tt, lit≤ tt), refl); its_key = refl; behind = refl }

pub swept_once_holds : (parts : Parts) → HoldsChains parts swept_once deleted_row
unfolding insertion
swept_once_holds parts = nothing_goes parts deleted deleted_row insertion 2 1 1 (deleted_holds parts) deleted_kept insertion_swept refl

once_kept : IsKept swept_once
once_kept = kept_sweep deleted deleted_kept

twice_kept : IsKept swept_twice
twice_kept = kept_sweep swept_once once_kept

deletion_swept : IsSweptAt swept_once deleted_row deletion 2 1 0
unfolding deletion horizon swept_state sweep_reply fresh state_after state_when_done reply_of begins_spent write_refusal has_table fits_key fits_body longest_body conflict_of is_full variations_of_table all_variations base_rows view same_key key_cmp
deletion_swept = record { next = refl; due = lit< tt; used = ((lit≤ tt, lit≤ tt), refl); its_key = refl; behind = refl }

pub swept_twice_holds : (parts : Parts) → HoldsChains parts swept_twice no_row
unfolding deletion
swept_twice_holds parts = sweep_holds parts swept_once deleted_row deletion 2 1 0 (swept_once_holds parts) once_kept deletion_swept (lit≤ tt)

nothing_now : published swept_twice (commits swept_twice - swept_twice.before) ≡ []
unfolding published commits swept_state sweep_reply fresh state_after state_when_done reply_of begins_spent write_refusal has_table fits_key fits_body longest_body conflict_of is_full variations_of_table all_variations base_rows view same_key key_cmp
nothing_now = refl

pub nothing_shown : (parts : Parts) → Shows parts no_row.tables no_row.layouts no_row.done []
unfolding swept_state fresh state_after state_when_done reply_of begins_spent write_refusal has_table fits_key fits_body longest_body conflict_of view is_full variations_of_table all_variations base_rows same_key key_cmp
nothing_shown parts =
    subst (λ (rows : List Row). Shows parts no_row.tables no_row.layouts no_row.done rows) nothing_now (committed_shown parts swept_twice no_row (swept_twice_holds parts) twice_kept refl)
