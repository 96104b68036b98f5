-- Places that hold a store hold the next one, once the change of a step is laid over them; and they open to it.
use Rattle.std.proofs.Common.{◌≡◌, ◌≢◌, ℕ, ◌+◌, ◌^◌, ◌<◌, ◌==◌, Bool, cond, true, false, List, [], ◌∷◌, map, replicate, refl, sym, ap, subst, ◌∙◌, inl, inr, ⊎_elim}
use Rattle.std.specs.Prelude.{◌⊎◌}
use Rattle.std.proofs.lemmas.Bool.{cases_eq, eq-eqb, ne_eqb}
use Rattle.px_cells.specs.declared.cell.Cell.{Cell}
use Rattle.px_cells.specs.declared.cell.CellKind.TheVariants.{Slot as ASlot, Pointer as APointer}
use Rattle.px_cells.specs.declared.header.Header.{Header}
use Rattle.px_cells.specs.declared.limits.TheConstants.{POINTER_SIZE}
use Rattle.px_cells.specs.declared.slot.Slot.{Slot}
use Rattle.px_change.specs.declared.change.Change.{Change}
use Rattle.px_chain.specs.Cells.{cell_of}
use Rattle.px_chain.specs.Links.{BeginsRow, IsStored, VariesRow, chain_of, link_cells, linked, parts_of, row_taken, slot_taken, unlink_cells, unlinked}
use Rattle.px_chain.specs.Sound.{IsSound, Layout, no_layout}
use Rattle.px_chain.specs.Table.{Content, Table, laid}
use Rattle.px_chain.proofs.SoundLaws.{sound_none}
use Rattle.px_chain.proofs.SoundLink.{row_begun, row_varied}
use Rattle.px_chain.proofs.SoundUnlink.{part_unlinked}
use Rattle.px_free.specs.Places as free
use Rattle.px_history.specs.Fitting.{AreWritten, IsTable, IsWritten, MoveFits, PlacesFit}
use Rattle.px_history.specs.Steps.{AreSteps, IsStep, Step, after_step, after_steps, layout_linked}
use Rattle.px_history.specs.Store.{Store, nothing}
use Rattle.px_history.specs.Written.{AreChangesOf, IsChangeOf, change_of}
use Rattle.px_laid.specs.Holds.{Holds}
use Rattle.px_laid.specs.Places.{Places, laid_over, none_laid}
use Rattle.px_chain.specs.Unused.{unused_table}
use Rattle.px_laid.proofs.Counts as counts
use Rattle.px_laid.proofs.Holds as holds
use Rattle.px_laid.proofs.Says.{laid_holds, says_laid}
use Rattle.px_laid.proofs.Unused as unused
use Rattle.px_recs.specs.Place.{size_of}
use Rattle.px_recs.specs.Text.{HeaderFits, PointerAt, SlotAt, SlotFits}
use Rattle.px_shown.specs.Changes.{IsLink, taken_slot}
use Rattle.px_shown.specs.Moves.{move_cells, moved_slot}
use Rattle.px_shown.specs.Parts.{Parts}
use Rattle.px_shown.proofs.Moving.{one_moved}
use Rattle.px_opened.specs.Kept.{HoldsStore}
use Rattle.px_opened.specs.Opened.{IsUnused, Opens, changes_over}

-- ---- nothing

nothing_held : (short number : ℕ) → Holds short number unused_table no_layout none_laid
nothing_held short number = record {
  sound = sound_none short unused_table refl;
  says = record { header = unused.unused_header; slot = λ n. unused.never_used short; pointer = λ n. unused.unused_pointer };
  counts = counts.nothing number;
}

pub none_held : (short tables : ℕ) → HoldsStore short tables nothing none_laid
none_held short tables = record {
  each = λ t is. nothing_held short t;
  others = λ t not. record { header = refl; lists = refl };
}

-- ---- a link

-- what a link leaves as a layout is that of its step
abbrev pub OneLayout : Type 0
OneLayout = (short : ℕ) (table : Table) (layout after : Layout) (header : Header) (slot : Slot) → IsSound short table layout
    → IsLink table layout header slot after → after ≡ layout_linked table layout slot

front_fits : (places : free.Places) (behind : ℕ) → places.front < 2 ^ 32 → behind < 2 ^ 32 → (free.after_taking places behind).front < 2 ^ 32
front_fits places behind old new =
    elim (places.front == 0) as (λ b. (cond b (record places { used = places.used + 1 }) (record places { front = behind })).front < 2 ^ 32) [ true ↦ old | false ↦ new ]

header_fits : (header : Header) → PlacesFit header → header.free_slot < 2 ^ 32 → header.free_row < 2 ^ 32 → HeaderFits header
header_fits header fits slot row = record { slots = fits.slots; free_slot = slot; rows = fits.rows; free_row = row }

-- the table after a link, and the places with its cells
abbrev IsHeldLinked : (short number : ℕ) → Table → Layout → Places → Header → Slot → Type 0
IsHeldLinked short number table layout places header slot =
    Holds short number (laid table (link_cells header (taken_slot table) slot)) layout (laid_over places (map (cell_of number short) (link_cells header (taken_slot table) slot)))

begun_held : OneLayout → (short number : ℕ) (table : Table) (layout : Layout) (places : Places) (header : Header) (slot : Slot) → Holds short number table layout places
    → IsStored short slot → BeginsRow table header slot → PlacesFit header → SlotFits slot
    → IsHeldLinked short number table (layout_linked table layout slot) places header slot
begun_held one short number table layout places header slot held stored begins fits slot_fits =
    let after = linked (row_taken (slot_taken layout)) (taken_slot table) slot.row in
    let its_header = held.says.header.fits in
    let slot_front : header.free_slot < 2 ^ 32 =
    subst (λ (p : free.Places). p.front < 2 ^ 32) (sym begins.slots) (front_fits (free.slots_of table.header) _ its_header.free_slot (held.says.slot table.header.free_slot).fits.next) in
    let row_front : header.free_row < 2 ^ 32 =
    subst (λ (p : free.Places). p.front < 2 ^ 32) (sym begins.rows) (front_fits (free.rows_of table.header) _ its_header.free_row (held.says.pointer table.header.free_row).fits) in
    subst (λ (l : Layout). IsHeldLinked short number table l places header slot) (one short table layout after header slot held.sound (inl (begins, refl)))
    (holds.new_row short number table layout places header slot (row_begun short table layout header slot held.sound stored begins) held stored begins
    (header_fits header fits slot_front row_front) slot_fits)

varied_held : OneLayout → (short number : ℕ) (table : Table) (layout : Layout) (places : Places) (header : Header) (slot : Slot) → Holds short number table layout places
    → IsStored short slot → VariesRow table header slot → PlacesFit header → SlotFits slot
    → IsHeldLinked short number table (layout_linked table layout slot) places header slot
varied_held one short number table layout places header slot held stored varies fits slot_fits =
    let after = linked (slot_taken layout) (taken_slot table) slot.row in
    let its_header = held.says.header.fits in
    let slot_front : header.free_slot < 2 ^ 32 =
    subst (λ (p : free.Places). p.front < 2 ^ 32) (sym varies.slots) (front_fits (free.slots_of table.header) _ its_header.free_slot (held.says.slot table.header.free_slot).fits.next) in
    let row_front : header.free_row < 2 ^ 32 = subst (λ (p : free.Places). p.front < 2 ^ 32) (sym varies.rows) its_header.free_row in
    subst (λ (l : Layout). IsHeldLinked short number table l places header slot) (one short table layout after header slot held.sound (inr (varies, refl)))
    (holds.new_variation short number table layout places header slot (row_varied short table layout header slot held.sound stored varies) held stored varies
    (header_fits header fits slot_front row_front) slot_fits)

linked_held : OneLayout → (short number : ℕ) (table : Table) (layout : Layout) (places : Places) (header : Header) (slot : Slot) → Holds short number table layout places
    → IsStored short slot → BeginsRow table header slot ⊎ VariesRow table header slot → PlacesFit header → SlotFits slot
    → IsHeldLinked short number table (layout_linked table layout slot) places header slot
linked_held one short number table layout places header slot held stored link fits slot_fits = ⊎_elim
    (λ (begins : BeginsRow table header slot). begun_held one short number table layout places header slot held stored begins fits slot_fits)
    (λ (varies : VariesRow table header slot). varied_held one short number table layout places header slot held stored varies fits slot_fits)
    link

-- ---- one table of a store changes

changed : (short tables at : ℕ) (store : Store) (places : Places) (contents : List Content) (layout : Layout) → HoldsStore short tables store places → IsTable tables at
    → Holds short at (laid (store.tables at) contents) layout (laid_over places (map (cell_of at short) contents))
    → (other : Store) → ((t : ℕ) → other.tables t ≡ cond (t == at) (laid (store.tables at) contents) (store.tables t))
    → ((t : ℕ) → other.layouts t ≡ cond (t == at) layout (store.layouts t))
    → HoldsStore short tables other (laid_over places (map (cell_of at short) contents))
changed short tables at store places contents layout held is here other its_tables its_layouts = record {
  each = λ t its. ⊎_elim
      (λ (same : t ≡ at).
      let table : other.tables t ≡ new = its_tables t ∙ ap (λ (b : Bool). cond b new (store.tables t)) (eq-eqb t at same) in
      let layout_is : other.layouts t ≡ layout = its_layouts t ∙ ap (λ (b : Bool). cond b layout (store.layouts t)) (eq-eqb t at same) in
      subst (λ (x : Table). Holds short t x (other.layouts t) after) (sym table)
      (subst (λ (l : Layout). Holds short t new l after) (sym layout_is) (subst (λ (n : ℕ). Holds short n new layout after) (sym same) here)))
      (λ (away : t ≢ at).
      subst (λ (x : Table). Holds short t x (other.layouts t) after) (sym (old_table t away))
      (subst (λ (l : Layout). Holds short t (store.tables t) l after) (sym (old_layout t away))
      (holds.other_table short t at (store.tables t) (store.layouts t) places contents away (held.each t its))))
      (cases_eq t at);
  others = λ t not.
      let away : t ≢ at = λ same. not (subst (λ (n : ℕ). IsTable tables n) (sym same) is) in
      subst (λ (x : Table). IsUnused x (other.layouts t)) (sym (old_table t away))
      (subst (λ (l : Layout). IsUnused (store.tables t) l) (sym (old_layout t away)) (held.others t not));
}
  where
    new : Table
    new = laid (store.tables at) contents

    after : Places
    after = laid_over places (map (cell_of at short) contents)

    old_table : (t : ℕ) → t ≢ at → other.tables t ≡ store.tables t
    old_table t away = its_tables t ∙ ap (λ (b : Bool). cond b new (store.tables t)) (ne_eqb t at away)

    old_layout : (t : ℕ) → t ≢ at → other.layouts t ≡ store.layouts t
    old_layout t away = its_layouts t ∙ ap (λ (b : Bool). cond b layout (store.layouts t)) (ne_eqb t at away)

-- ---- a move

moved_fits : (slot : Slot) (log place : ℕ) → SlotFits slot → log < 2 ^ 32 → place < 2 ^ 32 → SlotFits (moved_slot slot log place)
moved_fits slot log place fits to_log to_place = record {
  xn = fits.xn;
  next = fits.next;
  row = fits.row;
  tag = fits.tag;
  total = fits.total;
  log = to_log;
  place = to_place;
  key = fits.key;
  short = fits.short;
}

moved_held : (short tables t number log place : ℕ) (table : Table) (layout : Layout) (places : Places) → Holds short t table layout places
    → IsStored short (moved_slot (table.slot number) log place) → MoveFits tables t number log place
    → Holds short t (laid table (move_cells table number log place)) layout (laid_over places (map (cell_of t short) (move_cells table number log place)))
moved_held short tables t number log place table layout places held stored fits =
    let contents = move_cells table number log place in
    let cells = map (cell_of t short) contents in
    record {
      sound = one_moved short table layout number log place stored held.sound;
      says = says_laid short t table places contents held.says
          ((stored.form, moved_fits (table.slot number) log place (held.says.slot number).fits fits.its_log fits.its_place), tt);
      counts = record {
        slots = λ n low high. counts.stays cells places ASlot t n (held.counts.slots n low high);
        pointers = λ n low high. counts.stays cells places APointer t n (held.counts.pointers n low high);
      };
    }

-- ---- a step

itself : {X : Type 0} (of : ℕ → X) (n t : ℕ) → of n ≡ cond (n == t) (of t) (of n)
itself of n t = ⊎_elim
    (λ (same : n ≡ t). rw (eq-eqb n t same) (ap of same))
    (λ (away : n ≢ t). rw (ne_eqb n t away) refl)
    (cases_eq n t)

own_held : OneLayout → (parts : Parts) (short tables : ℕ) (store : Store) (step : Step) (places : Places) → HoldsStore short tables store places → IsStep parts short store step
    → IsWritten tables step → HoldsStore short tables (after_step store step) (laid_over places (change_of short store step).cells)
own_held one parts short tables store (Step.put t header slot) places held may written =
    changed short tables t store places (link_cells header (taken_slot (store.tables t)) slot) (layout_linked (store.tables t) (store.layouts t) slot) held written.table
    (linked_held one short t (store.tables t) (store.layouts t) places header slot (held.each t written.table) may.stored may.link written.places written.its_slot)
    (after_step store (Step.put t header slot)) (λ n. refl) (λ n. refl)
own_held one parts short tables store (Step.commit xn number) places held may written = record { each = held.each; others = held.others }
own_held one parts short tables store (Step.rollback xn) places held may written = record { each = held.each; others = held.others }
own_held one parts short tables store (Step.unlink t row from count) places held may written =
    let table = store.tables t in
    let layout = store.layouts t in
    changed short tables t store places (unlink_cells table.header (parts_of (chain_of table (layout.chain row)) from count)) (unlinked layout row from count) held written
    (holds.unlink short t table layout places row from count (part_unlinked short table layout row from count (held.each t written).sound may.used may.some may.within)
    (held.each t written) may.used)
    (after_step store (Step.unlink t row from count)) (λ n. refl) (λ n. refl)
own_held one parts short tables store (Step.move t number log place) places held may written =
    changed short tables t store places (move_cells (store.tables t) number log place) (store.layouts t) held written.table
    (moved_held short tables t number log place (store.tables t) (store.layouts t) places (held.each t written.table) may.stored written)
    (after_step store (Step.move t number log place)) (λ n. refl) (λ n. itself store.layouts n t)

pub step_held : OneLayout → (parts : Parts) (short tables : ℕ) (store : Store) (step : Step) (change : Change) (places : Places) → HoldsStore short tables store places
    → IsStep parts short store step → IsWritten tables step → IsChangeOf short store step change → HoldsStore short tables (after_step store step) (laid_over places change.cells)
step_held one parts short tables store step change places held may written is =
    subst (λ (cells : List Cell). HoldsStore short tables (after_step store step) (laid_over places cells)) (sym is.cells) (own_held one parts short tables store step places held may written)

pub steps_held : OneLayout → (parts : Parts) (short tables : ℕ) (store : Store) (steps : List Step) (changes : List Change) (places : Places) → HoldsStore short tables store places
    → AreSteps parts short store steps → AreWritten tables steps → AreChangesOf short store steps changes → HoldsStore short tables (after_steps store steps) (changes_over places changes)
steps_held one parts short tables store [] [] places held may written are = held
steps_held one parts short tables store [] (change ∷ changes) places held may written are = absurd are
steps_held one parts short tables store (step ∷ steps) [] places held may written are = absurd are
steps_held one parts short tables store (step ∷ steps) (change ∷ changes) places held may written are =
    steps_held one parts short tables (after_step store step) steps changes (laid_over places change.cells)
    (step_held one parts short tables store step change places held may.0 written.0 are.0) may.1 written.1 are.1

-- ---- what is held opens

pub held_opens : (short tables : ℕ) (store : Store) (places : Places) → HoldsStore short tables store places → Opens short tables places store.tables store.layouts
held_opens short tables store places held = record {
  each = λ t is.
      let h = held.each t is in
      let table = store.tables t in
      record {
        read = record {
          header = h.says.header;
          pointers = λ n place. laid_holds (places APointer t n) (replicate POINTER_SIZE 0) (λ (bytes : List ℕ). PointerAt bytes (table.pointer n))
              (h.counts.pointers n place.0 place.1) (h.says.pointer n);
          slots = λ n place. laid_holds (places ASlot t n) (replicate (size_of short ASlot) 0) (λ (bytes : List ℕ). SlotAt short bytes (table.slot n))
              (h.counts.slots n place.0 place.1) (h.says.slot n);
        };
        sound = h.sound;
      };
  others = held.others;
}
