-- Where a survey comes to its end.
use Rattle.std.proofs.Common.{ℕ, ◌+◌, ◌<◌, ◌≤◌, Bool, List, arith}
use Rattle.std.specs.Prelude.{IsTrue}
use Rattle.px_cells.specs.Form.{is_slot}
use Rattle.px_chain.specs.Table.{Table}
use Rattle.px_chain.specs.Sound.{IsSlot, Layout, IsSound}
use Rattle.px_survey.specs.declared.flaw.Flaw.{Flaw}
use Rattle.px_survey.specs.declared.flaw.Flaw.TheVariants.{Header, Pointer, Slot}
use Rattle.px_survey.specs.Walked.{IsMarked}
use Rattle.px_survey.specs.Flaws.{IsFlaw, IsBefore, IsFirstFlaw, IsFlawedPointer}
use Rattle.px_survey.specs.Surveyed.{Reaches}
use Rattle.px_survey.proofs.Surveyed.{no_flawed_header, no_flawed_pointer, listed_met, unlisted_unmet, surveyed_sound}

pub first_pointer : (table : Table) (row : ℕ) (slots rows : List Bool) → Reaches table row slots rows → IsFlawedPointer table row → IsFirstFlaw table (Pointer row)
first_pointer table row slots rows reaches is = record { is = is; first = none }
  where
    none : (other : Flaw) → IsBefore other (Pointer row) → IsFlaw table other → ⊥
    none Header before flaw = no_flawed_header table row reaches.layout reaches.surveyed flaw
    none (Pointer r) before flaw = no_flawed_pointer table row reaches.layout reaches.surveyed r (λ place. before) flaw
    none (Slot slot) before flaw = before

pub first_slot : (table : Table) (slot : ℕ) (slots rows : List Bool) → Reaches table (table.header.rows + 1) slots rows → IsSlot table slot
    → (IsMarked slots slot → ⊥) → ((p : ℕ) → 1 ≤ p → p < slot → IsMarked slots p) → IsFirstFlaw table (Slot slot)
first_slot table slot slots rows reaches place unmarked front =
    record {
      is = unlisted_unmet table row reaches.layout reaches.surveyed (omega arith) slot place (λ listed. unmarked (reaches.marked slot listed));
      first = none;
    }
  where
    row : ℕ
    row = table.header.rows + 1

    none : (other : Flaw) → IsBefore other (Slot slot) → IsFlaw table other → ⊥
    none Header before flaw = no_flawed_header table row reaches.layout reaches.surveyed flaw
    none (Pointer r) before flaw = no_flawed_pointer table row reaches.layout reaches.surveyed r (λ p. let to = p.1 in omega arith) flaw
    none (Slot other) before flaw = listed_met table row reaches.layout reaches.surveyed other (reaches.listed other flaw.place (front other flaw.place.0 before)) flaw

pub all_sound : (short : ℕ) (table : Table) (slots rows : List Bool) → Reaches table (table.header.rows + 1) slots rows
    → ((slot : ℕ) → IsSlot table slot → IsMarked slots slot) → ((slot : ℕ) → IsSlot table slot → IsTrue (is_slot short (table.slot slot)))
    → (layout : Layout) × IsSound short table layout
all_sound short table slots rows reaches marked form =
    (reaches.layout, surveyed_sound short table (table.header.rows + 1) reaches.layout reaches.surveyed (omega arith) (λ slot place. reaches.listed slot place (marked slot place)) form)
