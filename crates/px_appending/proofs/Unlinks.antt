-- The frame of a sweep: that the log may hold it, and what the tables then are.
use Rattle.std.proofs.Common.{◌≡◌, ◌≢◌, ℕ, ◌+◌, ◌-◌, ◌^◌, ◌<◌, ◌≤◌, Bool, cond, true, false, List, [], ◌∷◌, length, None, refl, sym, ap, subst, ◌∙◌, arith, inr, ⊎_elim}
use Rattle.std.proofs.lemmas.Bool.{cases_eq, eq-eqb, ne_eqb}
use Rattle.px_cells.specs.declared.cell.Cell.{Cell}
use Rattle.px_cells.specs.declared.slot.Slot.{Slot}
use Rattle.px_chain.proofs.SoundLaws.{chain_alike}
use Rattle.px_chain.proofs.Standing.{one_place}
use Rattle.px_chain.specs.Links.{chain_of, parts_of, unlink_cells}
use Rattle.px_chain.specs.Places.{StandsAt}
use Rattle.px_chain.specs.Sound.{IsUsedRow, Layout}
use Rattle.px_chain.specs.Table.{Table, laid}
use Rattle.px_change.specs.Grammar.{may_hold}
use Rattle.px_change.specs.declared.change.Change.{Change}
use Rattle.px_change.specs.declared.change.ChangeKind.TheVariants.{Sweep}
use Rattle.px_held.proofs.Serving.{anywhere, layout_served, served, table_served}
use Rattle.px_held.specs.Serving.{HasSameForm, HeldTables, IsTableOf, Serves}
use Rattle.px_held.specs.Unlinking.{GoFrom, IsUnlinkReady, unlink_from}
use Rattle.px_held.specs.declared.prepared.PreparedUnlink.{PreparedUnlink}
use Rattle.px_history.proofs.Holding.{change_held}
use Rattle.px_history.specs.Fitting.{IsStoredNumber, IsTable, PlacesFit}
use Rattle.px_history.specs.Steps.{MayUnlink, after_step, after_unlink}
use Rattle.px_history.specs.Store.{Store, versions_of}
use Rattle.px_history.specs.Written.{change_of}
use Rattle.px_life.proofs.Writers.{step_leaves_writers}
use Rattle.px_log.specs.Log.{with_frame}
use Rattle.px_opened.specs.Opened.{tables_of}
use Rattle.px_shown.specs.Changes.{left_of}
use Rattle.px_shown.specs.Parts.{no_parts}
use Rattle.px_shown.specs.Shown.{slot_shown}
use Rattle.px_site.specs.State.{State}
use Rattle.px_tables.specs.Held.{HasLayout, table_of}
use Rattle.px_tidying.proofs.Made.{header_left}
use Rattle.px_tidying.specs.Opening.{HasStore, Opening}
use Rattle.px_working.specs.Follows.{swept_change}
use Rattle.px_appending.specs.Unlinks.{GoesFrom, MayBeUnlinked, sweeping}
use Rattle.px_appending.proofs.Going.{IsChange, store_after}
use Rattle.px_appending.proofs.Versions.{table_there, with_all_open}

-- ---- the table that is ready

ready_at : (held : HeldTables) (prepared : PreparedUnlink) (ready : IsUnlinkReady held prepared) → IsTableOf held prepared.table ready.table
ready_at held prepared ready =
    let some = ready.at.there.0 in
    let within = ready.at.there.1 in
    let same : 1 + (prepared.table - 1) ≡ prepared.table = omega (arith, some) in
    record {
      is = subst (λ (n : ℕ). tables_of held.tables n ≡ table_of ready.table.cells) same
          (table_there 1 held.tables (prepared.table - 1) ready.table (omega (arith, some, within)) ready.at.is);
      numbered = ready.at.numbered;
    }

layout_is : (o : Opening) (store : Store) (prepared : PreparedUnlink) (ready : IsUnlinkReady o.held prepared) → HasStore store o
    → HasLayout ready.table.cells (store.layouts prepared.table)
layout_is o store prepared ready has = layout_served o.site o.held store prepared.table has.serves (ready_at o.held prepared ready)

-- where the versions stand is the same, whichever store the tables are those of
pub goes_alike : (o : Opening) (store other : Store) (prepared : PreparedUnlink) (from : ℕ) → IsUnlinkReady o.held prepared → GoesFrom store prepared from o → HasStore other o
    → GoFrom other prepared from
goes_alike o store other prepared from ready goes has =
    let table = table_of ready.table.cells in
    subst (λ (chain : List ℕ). StandsAt chain from prepared.unlinking.first)
    (chain_alike ready.table.cells.short table (store.layouts prepared.table) (other.layouts prepared.table) prepared.unlinking.row
    (layout_is o store prepared ready goes.has) (layout_is o other prepared ready has))
    goes.stand

-- ---- the step

none_shown : (slots : List Slot) → slot_shown (λ xn. false) slots ≡ None
none_shown [] = refl
none_shown (slot ∷ slots) = none_shown slots

may_go : (o : Opening) (store : Store) (prepared : PreparedUnlink) (from : ℕ) → IsUnlinkReady o.held prepared → GoesFrom store prepared from o
    → MayUnlink (with_all_open store) prepared.table prepared.unlinking.row from prepared.unlinking.count
may_go o store prepared from ready goes =
    let unlink = ready.unlink_is in
    let layout = store.layouts prepared.table in
    let sound = layout_is o store prepared ready goes.has in
    let table = table_of ready.table.cells in
    let same : unlink.from ≡ from =
    one_place ready.table.cells.short table layout prepared.unlinking.row unlink.from from prepared.unlinking.first sound (unlink.stands layout sound) goes.stand in
    record {
      used = subst (λ (t : Table). IsUsedRow t prepared.unlinking.row) (sym (table_served o.site o.held store prepared.table goes.has.serves (ready_at o.held prepared ready))) unlink.used;
      some = unlink.some;
      within = subst (λ (n : ℕ). n + prepared.unlinking.count ≤ length (layout.chain prepared.unlinking.row)) same (unlink.within layout sound);
      same = none_shown (left_of (versions_of store prepared.table prepared.unlinking.row) from prepared.unlinking.count)
          ∙ sym (none_shown (versions_of store prepared.table prepared.unlinking.row));
    }

-- ---- its frame

-- what it carries
abbrev pub sweep_of : (xn : ℕ) → List Cell → Change
sweep_of xn cells = record { kind = Sweep; xn = xn; commit = 0; cells = cells }

-- the cells are those of the step, whichever store is served
abbrev pub AreItsCells : HeldTables → PreparedUnlink → List Cell → Type 0
AreItsCells held prepared cells = (site : State) (store : Store) (from : ℕ) → Serves site held store → GoFrom store prepared from
    → cells ≡ (change_of held.short store (unlink_from prepared from)).cells

pub is_sweep : (o : Opening) (store : Store) (prepared : PreparedUnlink) (from xn : ℕ) (cells : List Cell) → IsUnlinkReady o.held prepared → GoesFrom store prepared from o
    → AreItsCells o.held prepared cells → IsChange (sweeping prepared from xn) (sweep_of xn cells) o
is_sweep o store prepared from xn cells ready goes are other has =
    ap (sweep_of xn) (are o.site other from has.serves (goes_alike o store other prepared from ready goes has))

pub sweep_held : (o : Opening) (store : Store) (prepared : PreparedUnlink) (from xn : ℕ) (cells : List Cell) → GoesFrom store prepared from o → MayBeUnlinked o.held prepared xn
    → AreItsCells o.held prepared cells → may_hold o.log.tables o.log.frames o.log.short (sweep_of xn cells) ≡ true
sweep_held o store prepared from xn cells goes may are =
    let has = goes.has in
    let unended = with_all_open store in
    let step = unlink_from prepared from in
    let its_table : IsTable o.log.tables prepared.table = subst (λ (n : ℕ). IsTable n prepared.table) has.tables may.ready.at.there in
    subst (λ (c : Change). may_hold o.log.tables o.log.frames o.log.short c ≡ true) (sym (is_sweep o store prepared from xn cells may.ready goes are store has))
    (subst (λ (n : ℕ). may_hold o.log.tables o.log.frames n (swept_change o.held.short store step xn) ≡ true) (sym has.short)
    (change_held no_parts o.held.short o.log.tables o.log.frames unended step (swept_change o.held.short store step xn)
    has.is_short has.few (served o.site o.held store has.serves).sound (may_go o store prepared from may.ready goes)
    (record { mark = inr refl; cells = refl; commit = refl }) may.swept its_table (has.places prepared.table, may.room)))

-- ---- the store

places_left : (store : Store) (t row from count : ℕ) → ((n : ℕ) → PlacesFit (store.tables n).header)
    → (n : ℕ) → PlacesFit ((after_unlink store t row from count).tables n).header
places_left store t row from count fit n =
    let table = store.tables t in
    let parts = parts_of (chain_of table ((store.layouts t).chain row)) from count in
    let after = laid table (unlink_cells table.header parts) in
    ⊎_elim
    (λ (here : n ≡ t). subst (λ (b : Bool). PlacesFit (cond b after (store.tables n)).header) (sym (eq-eqb n t here))
    (subst PlacesFit (sym (header_left table table.header parts)) (record { slots = (fit t).slots; rows = (fit t).rows })))
    (λ (away : n ≢ t). subst (λ (b : Bool). PlacesFit (cond b after (store.tables n)).header) (sym (ne_eqb n t away)) (fit n))
    (cases_eq n t)

pub unlinked_laid : (old new : Opening) (prepared : PreparedUnlink) (from : ℕ) (change : Change) → IsUnlinkReady old.held prepared
    → ((site : State) (store : Store) (from : ℕ) → Serves site old.held store → GoFrom store prepared from → Serves site new.held (after_step store (unlink_from prepared from)))
    → HasSameForm old.held new.held → new.log ≡ with_frame change old.log → old.log.frames < 2 ^ 48
    → (store : Store) → GoesFrom store prepared from old → HasStore (after_step store (unlink_from prepared from)) new
unlinked_laid old new prepared from change ready laid form log below store goes =
    let has = goes.has in
    let step = unlink_from prepared from in
    store_after store (after_step store step) old new change has (laid new.site store from (anywhere old.site new.site old.held store has.serves) goes.stand)
    (step_leaves_writers IsStoredNumber no_parts old.held.short (with_all_open store) step (served old.site old.held store has.serves).sound
    (may_go old store prepared from ready goes) tt has.numbers)
    (places_left store prepared.table prepared.unlinking.row from prepared.unlinking.count has.places)
    form log below
