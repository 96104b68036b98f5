-- The frame of a version: that the log may hold it, and what the tables then are.
use Rattle.std.proofs.Common.{◌≡◌, ◌≢◌, ℕ, zero, suc, ◌+◌, ◌-◌, ◌^◌, ◌<◌, Bool, cond, true, false, List, [], ◌∷◌, length, get_or, refl, sym, ap, subst, ◌∙◌, arith, ⊎_elim}
use Rattle.std.proofs.lemmas.Bool.{cases_eq, eq-eqb, ne_eqb}
use Rattle.px_cells.specs.declared.header.Header.{Header}
use Rattle.px_cells.specs.declared.slot.Slot.{Slot}
use Rattle.px_chain.specs.Links.{IsStored}
use Rattle.px_chain.specs.Table.{Table}
use Rattle.px_change.specs.Grammar.{may_hold}
use Rattle.px_change.specs.declared.change.Change.{Change}
use Rattle.px_held.proofs.Serving.{anywhere, served}
use Rattle.px_held.specs.Linking.{IsReady, step_of}
use Rattle.px_held.specs.Serving.{HasSameForm, HeldTables, Serves}
use Rattle.px_held.specs.declared.prepared.Prepared.{Prepared}
use Rattle.px_history.proofs.Holding.{change_held}
use Rattle.px_history.specs.Fitting.{IsStoredNumber, IsTable, PlacesFit}
use Rattle.px_history.specs.Steps.{MayPut, after_put, after_step}
use Rattle.px_history.specs.Store.{Store}
use Rattle.px_history.specs.Written.{change_of}
use Rattle.px_life.proofs.Writers.{step_leaves_writers}
use Rattle.px_log.specs.Log.{with_frame}
use Rattle.px_opened.specs.Opened.{numbered_from, tables_of}
use Rattle.px_shown.specs.Parts.{no_parts}
use Rattle.px_site.specs.State.{State}
use Rattle.px_tables.specs.Held.{Held, table_of}
use Rattle.px_tables.specs.Linking.{IsLink}
use Rattle.px_tidying.specs.Opening.{HasStore, Opening}
use Rattle.px_appending.specs.Versions.{FitsFields, MayBeAppended}
use Rattle.px_appending.proofs.Going.{IsOfStep, store_after}

-- ---- the table that is ready

-- so many places behind the first
pub table_there : (first : ℕ) (tables : List Held) (place : ℕ) (table : Held) → place < length tables → table ≡ get_or tables place table
    → numbered_from first tables (first + place) ≡ table_of table.cells
table_there first [] place table within is = absurd (omega (arith, within))
table_there first (old ∷ others) zero table within is =
    let here : first + 0 ≡ first = omega arith in
    ap (λ (b : Bool). cond b (table_of old.cells) (numbered_from (suc first) others (first + 0))) (eq-eqb (first + 0) first here)
    ∙ ap (λ (h : Held). table_of h.cells) (sym is)
table_there first (old ∷ others) (suc place) table within is =
    let on : first + suc place ≡ suc first + place = omega arith in
    let past : first + suc place ≢ first = omega arith in
    ap (λ (b : Bool). cond b (table_of old.cells) (numbered_from (suc first) others (first + suc place))) (ne_eqb (first + suc place) first past)
    ∙ ap (numbered_from (suc first) others) on
    ∙ table_there (suc first) others place table (omega (arith, within)) is

-- it is the store's
ready_table : (site : State) (held : HeldTables) (store : Store) (prepared : Prepared) (ready : IsReady held prepared) → Serves site held store
    → table_of ready.table.cells ≡ store.tables prepared.table
ready_table site held store prepared ready serves =
    let some = ready.at.there.0 in
    let within = ready.at.there.1 in
    let same : 1 + (prepared.table - 1) ≡ prepared.table = omega (arith, some) in
    let is : tables_of held.tables prepared.table ≡ table_of ready.table.cells =
    subst (λ (n : ℕ). tables_of held.tables n ≡ table_of ready.table.cells) same
    (table_there 1 held.tables (prepared.table - 1) ready.table (omega (arith, some, within)) ready.at.is) in
    sym is ∙ (served site held store serves).tables prepared.table

-- ---- the step

-- The same tables, where each transaction is open: which cells are written doesn't depend on that.
abbrev pub with_all_open : Store → Store
with_all_open store = record store { done = λ xn. false; over = λ xn. false }

may_put : (site : State) (held : HeldTables) (store : Store) (prepared : Prepared) → IsReady held prepared → Serves site held store
    → MayPut held.short (with_all_open store) prepared.table prepared.linking.header prepared.linking.slot
may_put site held store prepared ready serves = record {
  stored = subst (λ (n : ℕ). IsStored n prepared.linking.slot) ready.at.numbered.its_short ready.linking_is.stored;
  writer = record { undone = refl; not_over = refl };
  link = subst (λ (t : Table). IsLink t prepared.linking.header prepared.linking.slot) (ready_table site held store prepared ready serves) ready.linking_is.link;
}

-- what its frame carries: the change of the step, whichever store is served
abbrev pub IsItsChange : HeldTables → Prepared → Change → Type 0
IsItsChange held prepared change = (site : State) (store : Store) → Serves site held store → change ≡ change_of held.short store (step_of prepared)

pub is_of_step : (o : Opening) (prepared : Prepared) (change : Change) → IsItsChange o.held prepared change → IsOfStep (step_of prepared) change o
is_of_step o prepared change is store has = is o.site store has.serves

pub version_held : (store : Store) (o : Opening) (prepared : Prepared) (change : Change) → HasStore store o → MayBeAppended o.held prepared → FitsFields prepared
    → IsItsChange o.held prepared change → may_hold o.log.tables o.log.frames o.log.short change ≡ true
version_held store o prepared change has may fits is =
    let unended = with_all_open store in
    let step = step_of prepared in
    let its_table : IsTable o.log.tables prepared.table = subst (λ (n : ℕ). IsTable n prepared.table) has.tables may.ready.at.there in
    subst (λ (c : Change). may_hold o.log.tables o.log.frames o.log.short c ≡ true) (sym (is_of_step o prepared change is store has))
    (subst (λ (n : ℕ). may_hold o.log.tables o.log.frames n (change_of o.held.short store step) ≡ true) (sym has.short)
    (change_held no_parts o.held.short o.log.tables o.log.frames unended step (change_of o.held.short store step)
    has.is_short has.few (served o.site o.held store has.serves).sound (may_put o.site o.held store prepared may.ready has.serves)
    (record { mark = refl; cells = refl; commit = refl }) may.writer (record { table = its_table; places = fits.places; its_slot = fits.its_slot }) tt))

-- ---- the store

places_after : (store : Store) (t : ℕ) (header : Header) (slot : Slot) → PlacesFit header → ((n : ℕ) → PlacesFit (store.tables n).header)
    → (n : ℕ) → PlacesFit ((after_put store t header slot).tables n).header
places_after store t header slot new fit n =
    let after = (after_put store t header slot).tables t in
    ⊎_elim
    (λ (here : n ≡ t). rw (eq-eqb n t here) (record { slots = new.slots; rows = new.rows }))
    (λ (away : n ≢ t). rw (ne_eqb n t away) (fit n))
    (cases_eq n t)

pub version_laid : (old new : Opening) (prepared : Prepared) (change : Change) → MayBeAppended old.held prepared → FitsFields prepared
    → ((site : State) (store : Store) → Serves site old.held store → Serves site new.held (after_step store (step_of prepared))) → HasSameForm old.held new.held
    → new.log ≡ with_frame change old.log → old.log.frames < 2 ^ 48 → (store : Store) → HasStore store old → HasStore (after_step store (step_of prepared)) new
version_laid old new prepared change may fits laid form log below store has =
    store_after store (after_step store (step_of prepared)) old new change has (laid new.site store (anywhere old.site new.site old.held store has.serves))
    (step_leaves_writers IsStoredNumber no_parts old.held.short (with_all_open store) (step_of prepared) (served old.site old.held store has.serves).sound
    (may_put old.site old.held store prepared may.ready has.serves) may.writer has.numbers)
    (places_after store prepared.table prepared.linking.header prepared.linking.slot fits.places has.places)
    form log below
