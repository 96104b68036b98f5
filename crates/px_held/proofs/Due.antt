-- That what is due is what the machine sweeps next.
use Rattle.std.proofs.Common.{◌≡◌, ℕ, ◌+◌, ◌<◌, ◌≤◌, Bool, List, length, map, Some, refl, sym, ap, subst, ◌∙◌, arith}
use Rattle.std.specs.Prelude.{Contains, option_map, slice_get}
use Rattle.std.proofs.lemmas.List.{length-map}
use Rattle.std.proofs.lemmas.List.Elements.{at_from_Contains}
use Rattle.std.proofs.lemmas.Option.{slice_get-get_or, slice_get-map}
use Rattle.px_cell_laws.specs.Holding.{HoldsChains}
use Rattle.px_cell_laws.specs.Locating.{AreWrittenAt}
use Rattle.px_cell_laws.specs.Sweeping.{IsSweptAt, sweep_count, sweep_from}
use Rattle.px_cells.specs.declared.slot.Slot.{Slot}
use Rattle.px_cells.specs.declared.slot.SlotState.{SlotState}
use Rattle.px_cells.specs.declared.slot.SlotState.TheVariants as state
use Rattle.px_chain.specs.Places.{slot_in}
use Rattle.px_chain.specs.Sound.{IsUsedRow}
use Rattle.px_chain_laws.specs.Sweeping.{base_of}
use Rattle.px_history.specs.Steps.{Step}
use Rattle.px_history.specs.Store.{Store, versions_of}
use Rattle.px_model.specs.Chains.{is_put}
use Rattle.px_model.specs.Machine.{Machine}
use Rattle.px_model.specs.Rows.{Key, key_written}
use Rattle.px_model.specs.declared.machine.Flat.{Flat}
use Rattle.px_model.specs.declared.write.Write.{Write}
use Rattle.px_shown.specs.Parts.{Parts}
use Rattle.px_shown.specs.Shown.{write_in, write_of}
use Rattle.px_tidy.specs.Kept.{is_row}
use Rattle.px_xacts.specs.Transactions as xacts
use Rattle.px_xacts.specs.Transactions.{Transactions}
use Rattle.px_xacts.specs.declared.answers.Due.{Due}
use Rattle.px_xacts_laws.specs.Mirrors.{Mirrors}
use Rattle.px_held.specs.Sweeping.{IsSweepOf, is_put_at}

-- ---- what is used of the laws below

abbrev pub DueIsThere : Type 0
DueIsThere = (parts : Parts) (m : Machine) (all : Transactions) (store : Store) (due : Due)
    → Mirrors m all → HoldsChains parts m store → AreWrittenAt all store → xacts.due all ≡ Some due
    → IsUsedRow (store.tables due.table) due.row × Contains ((store.layouts due.table).chain due.row) due.slot

abbrev pub DueIsSwept : Type 0
DueIsSwept = (parts : Parts) (m : Machine) (all : Transactions) (store : Store) (due : Due) (place : ℕ)
    → Mirrors m all → HoldsChains parts m store → AreWrittenAt all store → xacts.due all ≡ Some due
    → slice_get ((store.layouts due.table).chain due.row) place ≡ Some due.slot
    → (w : Flat) × IsSweptAt m store w due.table due.row place × (w.number ≡ due.number) × (w.committed ≡ due.committed)

abbrev pub SlotIsWrite : Type 0
SlotIsWrite = (parts : Parts) (m : Machine) (store : Store) (w : Flat) (t row place : ℕ) (slot : Slot) → HoldsChains parts m store
    → IsSweptAt m store w t row place → slice_get (versions_of store t row) place ≡ Some slot
    → (slot.xn ≡ m.base + w.number) × (write_of parts t slot ≡ w.write)

abbrev pub OneBase : Type 0
OneBase = (m : Machine) (key : Key) → length (base_of m key) ≤ 1

-- ---- one write

put_is : (parts : Parts) (state : SlotState) (t : ℕ) (slot : Slot) → is_put (write_in parts state t slot) ≡ is_row state
put_is parts state.Row t slot = refl
put_is parts state.Deletion t slot = refl
put_is parts state.Free t slot = refl

pub due_is_swept : DueIsThere → DueIsSwept → SlotIsWrite → OneBase → (parts : Parts) (m : Machine) (all : Transactions) (store : Store) (due : Due)
    → Mirrors m all → HoldsChains parts m store → AreWrittenAt all store → xacts.due all ≡ Some due
    → (w : Flat) × (place : ℕ) × IsSweepOf m store due w place
due_is_swept there swept slot_is one_base parts m all store due mirrors holds written is = (
  w,
  place,
  record {
    at = record {
      used = found.0;
      stands = (within, here);
      last = omega (arith, its.behind, one_base m (key_written w.write), many);
    };
    swept = its;
    number = sweep.2;
    count = same;
    unlink = ap (λ (from : ℕ). Step.unlink due.table due.row from (sweep_count w.committed (is_put w.write) place (length versions))) same_from
        ∙ ap (λ (count : ℕ). Step.unlink due.table due.row (sweep_from due.committed (is_put_at store due) place) count) same;
  },
)
  where
    chain : List ℕ
    chain = (store.layouts due.table).chain due.row

    versions : List Slot
    versions = versions_of store due.table due.row

    found : IsUsedRow (store.tables due.table) due.row × Contains chain due.slot
    found = there parts m all store due mirrors holds written is

    place : ℕ
    place = (at_from_Contains chain due.slot found.1).0

    within : place < length chain
    within = (at_from_Contains chain due.slot found.1).1

    here : slot_in chain place ≡ due.slot
    here = (at_from_Contains chain due.slot found.1).2 0

    its_slot : slice_get chain place ≡ Some due.slot
    its_slot = slice_get-get_or chain place 0 within ∙ ap Some here

    sweep : (w : Flat) × IsSweptAt m store w due.table due.row place × (w.number ≡ due.number) × (w.committed ≡ due.committed)
    sweep = swept parts m all store due place mirrors holds written is its_slot

    w : Flat
    w = sweep.0

    its : IsSweptAt m store w due.table due.row place
    its = sweep.1

    many : length versions ≡ length chain
    many = length-map chain (store.tables due.table).slot

    its_version : slice_get versions place ≡ Some ((store.tables due.table).slot due.slot)
    its_version = slice_get-map (store.tables due.table).slot chain place ∙ ap (option_map (store.tables due.table).slot) its_slot

    same_put : is_put w.write ≡ is_put_at store due
    same_put =
        ap is_put (sym (slot_is parts m store w due.table due.row place ((store.tables due.table).slot due.slot) holds its its_version).1)
        ∙ put_is parts ((store.tables due.table).slot due.slot).state due.table ((store.tables due.table).slot due.slot)

    same_committed : w.committed ≡ due.committed
    same_committed = sweep.3

    same_from : sweep_from w.committed (is_put w.write) place ≡ sweep_from due.committed (is_put_at store due) place
    same_from =
        ap (λ (committed : Bool). sweep_from committed (is_put w.write) place) same_committed
        ∙ ap (λ (put : Bool). sweep_from due.committed put place) same_put

    same : sweep_count w.committed (is_put w.write) place (length versions) ≡ sweep_count due.committed (is_put_at store due) place (length chain)
    same =
        ap (λ (committed : Bool). sweep_count committed (is_put w.write) place (length versions)) same_committed
        ∙ ap (λ (put : Bool). sweep_count due.committed put place (length versions)) same_put
        ∙ ap (sweep_count due.committed (is_put_at store due) place) many
