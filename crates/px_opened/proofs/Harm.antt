-- Where the places open there is no damage.
use Rattle.std.proofs.Common.{ℕ, ◌≤◌, subst, arith, ⊎_elim}
use Rattle.px_cells.specs.declared.cell.CellKind.{CellKind}
use Rattle.px_cells.specs.declared.cell.CellKind.TheVariants.{Header as AHeader, Slot as ASlot, Pointer as APointer}
use Rattle.px_cells.specs.declared.header.Header.{Header}
use Rattle.px_chain.specs.Sound.{Layout}
use Rattle.px_chain.specs.Table.{Table}
use Rattle.px_laid.specs.Places.{Places}
use Rattle.px_laid.specs.Whole.{IsFirstBad}
use Rattle.px_laid.proofs.Readings.{OneReading}
use Rattle.px_shown.specs.Tables.{Layouts, Tables}
use Rattle.px_site.specs.declared.name.FileName.{FileName}
use Rattle.px_survey.specs.Cells.{table_of}
use Rattle.px_survey.proofs.SoundLaws.{no_flaw}
use Rattle.px_opened.specs.Damage.{IsDamage, IsDamagedAt, IsFlawedAt}
use Rattle.px_opened.specs.Opened.{IsReadOf, Opens, OpensTo}
use Rattle.px_opened.proofs.One.{same_read, same_sound}
use Rattle.px_opened.proofs.Reading.{table_read}

pub never_bad : OneReading → (short number : ℕ) (places : Places) (table : Table) → IsReadOf short places number table → (what : CellKind) (cell : ℕ)
    → IsFirstBad short places number what cell → ⊥
never_bad one short number places table read AHeader cell bad = bad.1 table.header read.header
never_bad one short number places table read APointer cell bad =
    let header = one.header _ bad.header table.header bad.header_at read.header in
    let low : 1 ≤ cell = (let b = bad.first.behind in omega (arith, b)) in
    bad.first.without (table.pointer cell) (read.pointers cell (low, subst (λ (h : Header). cell ≤ h.rows) header bad.first.within))
never_bad one short number places table read ASlot cell bad =
    let header = one.header _ bad.header table.header bad.header_at read.header in
    let low : 1 ≤ cell = (let b = bad.first.behind in omega (arith, b)) in
    bad.first.without (table.slot cell) (read.slots cell (low, subst (λ (h : Header). cell ≤ h.slots) header bad.first.within))

never_flawed : OneReading → (short number : ℕ) (places : Places) (table : Table) (layout : Layout) → OpensTo short places number table layout → (what : CellKind) (cell : ℕ)
    → IsFlawedAt short places number what cell → ⊥
never_flawed one short number places table layout opens what cell flawed =
    let cells = flawed.cells in
    let other = table_of cells.header cells.pointers.items cells.slots.items in
    let same = same_read one short number places table other opens.read (table_read short number places cells flawed.read) in
    no_flaw short other layout flawed.flaw (same_sound short table other layout opens.sound same) flawed.first.is

pub never_damaged : OneReading → (short number : ℕ) (places : Places) (table : Table) (layout : Layout) → OpensTo short places number table layout
    → (what : CellKind) (cell : ℕ) → IsDamagedAt short places number what cell → ⊥
never_damaged one short number places table layout opens what cell damaged = ⊎_elim
    (λ (bad : IsFirstBad short places number what cell). never_bad one short number places table opens.read what cell bad)
    (λ (flawed : IsFlawedAt short places number what cell). never_flawed one short number places table layout opens what cell flawed)
    damaged

pub no_damage : OneReading → (short tables : ℕ) (places : Places) (found : Tables) (layouts : Layouts) (file : FileName) (place : ℕ)
    → Opens short tables places found layouts → IsDamage short tables places file place → ⊥
no_damage one short tables places found layouts file place opens damage =
    never_damaged one short damage.number places (found damage.number) (layouts damage.number) (opens.each damage.number damage.within)
    damage.damage.what damage.damage.cell damage.damage.damaged
