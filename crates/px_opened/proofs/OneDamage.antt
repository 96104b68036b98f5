-- There is one first damage.
use Rattle.std.proofs.Common.{◌≡◌, ℕ, ◌<◌, ◌≤◌, List, length, refl, sym, ap, subst, ◌∙◌, arith, inl, inr, ⊎_elim}
use Rattle.std.specs.Prelude.{◌⊎◌}
use Rattle.std.proofs.lemmas.Bool.{cases_order}
use Rattle.px_cells.specs.declared.cell.CellKind.{CellKind}
use Rattle.px_cells.specs.declared.cell.CellKind.TheVariants.{Header as AHeader, Slot as ASlot, Pointer as APointer}
use Rattle.px_cells.specs.declared.header.Header.{Header}
use Rattle.px_cells.specs.declared.pointer.Pointer.{Pointer}
use Rattle.px_cells.specs.declared.slot.Slot.{Slot}
use Rattle.px_chain.specs.Table.{Table}
use Rattle.px_laid.specs.Places.{Places}
use Rattle.px_laid.specs.Whole.{AreCellsOf, IsBadPointer, IsBadSlot, IsFirstBad, IsFirstWithout, IsLaidPointer, IsLaidSlot}
use Rattle.px_laid.specs.declared.table.TableCells.{TableCells}
use Rattle.px_laid.proofs.Readings.{OneReading}
use Rattle.px_recs.specs.Place.{place_of}
use Rattle.px_site.specs.declared.name.FileName.{FileName}
use Rattle.px_survey.specs.Cells.{table_of}
use Rattle.px_survey.specs.Flaws.{IsBefore, IsFirstFlaw}
use Rattle.px_survey.specs.declared.flaw.Flaw.{Flaw}
use Rattle.px_opened.specs.Damage.{IsDamage, IsDamageOf, IsDamagedAt, IsFlawedAt, flawed_kind, flawed_number}
use Rattle.px_recs.specs.Place.{table_file}
use Rattle.px_opened.proofs.Harm.{never_bad, never_damaged}
use Rattle.px_opened.proofs.Numbers.{one_list, some_value}
use Rattle.px_opened.proofs.One.{one_pointer, one_slot}
use Rattle.px_opened.proofs.Reading.{table_read}

-- it is the same cell
record IsSameCell (what other : CellKind) (cell at : ℕ) : Type 0 where
  pub kinds : what ≡ other
  pub numbers : cell ≡ at

-- ---- cells that aren't read

earlier : {X : Type 0} (At : ℕ → X → Type 0) (count other n m : ℕ) → IsFirstWithout At count n → IsFirstWithout At other m → n < m → ⊥
earlier At count other n m first second less =
    let some : 1 ≤ n = (let b = first.behind in omega (arith, b)) in
    let within : n ≤ length second.front = (let b = second.behind in omega (arith, b, less)) in
    let value = some_value At (length second.front) second.front n (record { long = refl; each = second.each }) some within in
    first.without value.0 value.1

first_one : {X : Type 0} (At : ℕ → X → Type 0) (count other n m : ℕ) → IsFirstWithout At count n → IsFirstWithout At other m → n ≡ m
first_one At count other n m first second = ⊎_elim
    (λ (same : n ≡ m). same)
    (λ (apart : (n < m) ⊎ (m < n)). absurd (⊎_elim (λ (less : n < m). earlier At count other n m first second less) (λ (more : m < n). earlier At other count m n second first more) apart))
    (cases_order n m)

pointer_then_slot : OneReading → (short number : ℕ) (places : Places) (n m : ℕ) → IsBadPointer places number n → IsBadSlot short places number m → ⊥
pointer_then_slot one short number places n m bad later =
    let header = one.header _ bad.header later.header bad.header_at later.header_at in
    let some : 1 ≤ n = (let b = bad.first.behind in omega (arith, b)) in
    let within : n ≤ later.header.rows = subst (λ (h : Header). n ≤ h.rows) header bad.first.within in
    let value = some_value (IsLaidPointer places number) later.header.rows later.pointers n later.pointers_at some within in
    bad.first.without value.0 value.1

one_bad : OneReading → (short number : ℕ) (places : Places) (what other : CellKind) (cell at : ℕ) → IsFirstBad short places number what cell
    → IsFirstBad short places number other at → IsSameCell what other cell at
one_bad one short number places AHeader AHeader n m a b = record { kinds = refl; numbers = a.0 ∙ sym b.0 }
one_bad one short number places AHeader APointer n m a b = absurd (a.1 b.header b.header_at)
one_bad one short number places AHeader ASlot n m a b = absurd (a.1 b.header b.header_at)
one_bad one short number places APointer AHeader n m a b = absurd (b.1 a.header a.header_at)
one_bad one short number places ASlot AHeader n m a b = absurd (b.1 a.header a.header_at)
one_bad one short number places APointer APointer n m a b =
    record { kinds = refl; numbers = first_one (IsLaidPointer places number) a.header.rows b.header.rows n m a.first b.first }
one_bad one short number places ASlot ASlot n m a b =
    record { kinds = refl; numbers = first_one (IsLaidSlot short places number) a.header.slots b.header.slots n m a.first b.first }
one_bad one short number places APointer ASlot n m a b = absurd (pointer_then_slot one short number places n m a b)
one_bad one short number places ASlot APointer n m a b = absurd (pointer_then_slot one short number places m n b a)

-- ---- flaws

flaws_in_order : (a b : Flaw) → (a ≡ b) ⊎ (IsBefore a b ⊎ IsBefore b a)
flaws_in_order Flaw.Header Flaw.Header = inl refl
flaws_in_order Flaw.Header (Flaw.Pointer row) = inr (inl tt)
flaws_in_order Flaw.Header (Flaw.Slot slot) = inr (inl tt)
flaws_in_order (Flaw.Pointer row) Flaw.Header = inr (inr tt)
flaws_in_order (Flaw.Pointer row) (Flaw.Slot slot) = inr (inl tt)
flaws_in_order (Flaw.Slot slot) Flaw.Header = inr (inr tt)
flaws_in_order (Flaw.Slot slot) (Flaw.Pointer row) = inr (inr tt)
flaws_in_order (Flaw.Pointer row) (Flaw.Pointer other) = ⊎_elim
    (λ (same : row ≡ other). inl (ap Flaw.Pointer same)) (λ (apart : (row < other) ⊎ (other < row)). inr apart) (cases_order row other)
flaws_in_order (Flaw.Slot slot) (Flaw.Slot other) = ⊎_elim
    (λ (same : slot ≡ other). inl (ap Flaw.Slot same)) (λ (apart : (slot < other) ⊎ (other < slot)). inr apart) (cases_order slot other)

one_flaw : (table : Table) (a b : Flaw) → IsFirstFlaw table a → IsFirstFlaw table b → a ≡ b
one_flaw table a b first second = ⊎_elim
    (λ (same : a ≡ b). same)
    (λ (apart : IsBefore a b ⊎ IsBefore b a). absurd (⊎_elim (λ (less : IsBefore a b). second.first a less first.is) (λ (more : IsBefore b a). first.first b more second.is) apart))
    (flaws_in_order a b)

-- the cells that are read are one table's
one_table : OneReading → (short number : ℕ) (places : Places) (a b : TableCells) → AreCellsOf short places number a → AreCellsOf short places number b
    → table_of a.header a.pointers.items a.slots.items ≡ table_of b.header b.pointers.items b.slots.items
one_table one short number places a b of_a of_b =
    let header = one.header _ a.header b.header of_a.header of_b.header in
    let pointers : a.pointers.items ≡ b.pointers.items =
    one_list (IsLaidPointer places number) (one_pointer one places number) 1 a.pointers.items b.pointers.items
    (of_a.pointers.long ∙ ap (λ (h : Header). h.rows) header ∙ sym of_b.pointers.long) of_a.pointers.each of_b.pointers.each in
    let slots : a.slots.items ≡ b.slots.items =
    one_list (IsLaidSlot short places number) (one_slot one short places number) 1 a.slots.items b.slots.items
    (of_a.slots.long ∙ ap (λ (h : Header). h.slots) header ∙ sym of_b.slots.long) of_a.slots.each of_b.slots.each in
    ap (λ (h : Header). table_of h a.pointers.items a.slots.items) header
    ∙ ap (λ (p : List Pointer). table_of b.header p a.slots.items) pointers
    ∙ ap (λ (s : List Slot). table_of b.header b.pointers.items s) slots

one_flawed : OneReading → (short number : ℕ) (places : Places) (what other : CellKind) (cell at : ℕ) → IsFlawedAt short places number what cell
    → IsFlawedAt short places number other at → IsSameCell what other cell at
one_flawed one short number places what other cell at a b =
    let table = one_table one short number places a.cells b.cells a.read b.read in
    let flaw = one_flaw _ a.flaw b.flaw (subst (λ (t : Table). IsFirstFlaw t a.flaw) table a.first) b.first in
    record {
      kinds = a.its_kind ∙ ap flawed_kind flaw ∙ sym b.its_kind;
      numbers = a.its_number ∙ ap flawed_number flaw ∙ sym b.its_number;
    }

-- ---- damages

read_of_flawed : OneReading → (short number : ℕ) (places : Places) (what other : CellKind) (cell at : ℕ) → IsFirstBad short places number what cell
    → IsFlawedAt short places number other at → ⊥
read_of_flawed one short number places what other cell at bad flawed =
    never_bad one short number places (table_of flawed.cells.header flawed.cells.pointers.items flawed.cells.slots.items)
    (table_read short number places flawed.cells flawed.read) what cell bad

one_cell : OneReading → (short number : ℕ) (places : Places) (what other : CellKind) (cell at : ℕ) → IsDamagedAt short places number what cell
    → IsDamagedAt short places number other at → IsSameCell what other cell at
one_cell one short number places what other cell at a b = ⊎_elim
    (λ (bad : IsFirstBad short places number what cell). ⊎_elim
    (λ (bad_too : IsFirstBad short places number other at). one_bad one short number places what other cell at bad bad_too)
    (λ (flawed : IsFlawedAt short places number other at). absurd (read_of_flawed one short number places what other cell at bad flawed))
    b)
    (λ (flawed : IsFlawedAt short places number what cell). ⊎_elim
    (λ (bad : IsFirstBad short places number other at). absurd (read_of_flawed one short number places other what at cell bad flawed))
    (λ (flawed_too : IsFlawedAt short places number other at). one_flawed one short number places what other cell at flawed flawed_too)
    b)
    a

no_lower : OneReading → (short tables : ℕ) (places : Places) (file other : FileName) (place at : ℕ) (a : IsDamage short tables places file place)
    → (b : IsDamage short tables places other at) → a.number < b.number → ⊥
no_lower one short tables places file other place at a b less =
    let intact = b.before a.number a.within.0 less in
    never_damaged one short a.number places intact.table intact.layout intact.opens a.damage.what a.damage.cell a.damage.damaged

one_number : OneReading → (short tables : ℕ) (places : Places) (file other : FileName) (place at : ℕ) (a : IsDamage short tables places file place)
    → (b : IsDamage short tables places other at) → a.number ≡ b.number
one_number one short tables places file other place at a b = ⊎_elim
    (λ (same : a.number ≡ b.number). same)
    (λ (apart : (a.number < b.number) ⊎ (b.number < a.number)). absurd (⊎_elim
    (λ (less : a.number < b.number). no_lower one short tables places file other place at a b less)
    (λ (more : b.number < a.number). no_lower one short tables places other file at place b a more) apart))
    (cases_order a.number b.number)

one_damage : OneReading → (short number : ℕ) (places : Places) (file other : FileName) (place at : ℕ) → IsDamageOf short places number file place
    → IsDamageOf short places number other at → (file ≡ other) × (place ≡ at)
one_damage one short number places file other place at a b =
    let same = one_cell one short number places a.what b.what a.cell b.cell a.damaged b.damaged in (
      a.its_file ∙ ap (λ (k : CellKind). table_file k number) same.kinds ∙ sym b.its_file,
      a.its_place ∙ ap (λ (k : CellKind). place_of short k a.cell) same.kinds ∙ ap (place_of short b.what) same.numbers ∙ sym b.its_place,
    )

pub damage_one : OneReading → (short tables : ℕ) (places : Places) (file other : FileName) (place at : ℕ) → IsDamage short tables places file place
    → IsDamage short tables places other at → (file ≡ other) × (place ≡ at)
damage_one one short tables places file other place at a b =
    let number = one_number one short tables places file other place at a b in
    one_damage one short b.number places file other place at (subst (λ (n : ℕ). IsDamageOf short places n file place) number a.damage) b.damage
