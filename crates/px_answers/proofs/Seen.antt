-- The row that a reader sees, as it is read off the cells.
use Rattle.std.proofs.Common.{◌≡◌, ℕ, ◌+◌, Bool, true, false, cond, List, [], ◌∷◌, map, Option, Some, None, option_map, refl, sym, ap, subst, ◌∙◌}
use Rattle.std.specs.Prelude.{T, find}
use Rattle.std.specs.List.{All}
use Rattle.std.proofs.lemmas.List.Elements.{All-head, All-tail, All-weaker}
use Rattle.std.proofs.lemmas.Option.{none-some, same_Some}
use Rattle.px_cell_laws.proofs.Showing.{no_row_in_cells, row_in_cells}
use Rattle.px_cell_laws.specs.Reading.{slot_seen, view_of}
use Rattle.px_cells.specs.declared.slot.Slot.{Slot}
use Rattle.px_chain.specs.declared.views.SlotView.{SlotView}
use Rattle.px_chain.specs.Sound.{IsSlot, IsUsedRow, IsVariation, key_of}
use Rattle.px_chain.specs.Table.{Table}
use Rattle.px_chain.specs.Visible.{is_visible}
use Rattle.px_held.specs.declared.reader.Reader.{Reader}
use Rattle.px_held.specs.Serving.{HeldTables}
use Rattle.px_history.specs.Store.{Store}
use Rattle.px_locks.specs.Holders.{Holders}
use Rattle.px_machine_laws.specs.Seen.{row_left}
use Rattle.px_model.specs.declared.machine.Open.{Open}
use Rattle.px_model.specs.declared.row.Row.{Row}
use Rattle.px_model.specs.Machine.{Machine, view}
use Rattle.px_model.specs.Rows.{row_at}
use Rattle.px_model_laws.proofs.Laws.{views_are_in_order}
use Rattle.px_model_laws.proofs.RowsAsMap.{AreRows}
use Rattle.px_model_laws.specs.Keys.{row_written}
use Rattle.px_shown.specs.Parts.{no_parts}
use Rattle.px_shown.specs.Shown.{write_of}
use Rattle.px_shown.specs.Tables.{AreSound}
use Rattle.px_site.specs.State.{State}
use Rattle.px_tables.specs.Keys.{HasNoRow}
use Rattle.px_xacts.specs.Transactions.{Transactions}
use Rattle.px_answers.specs.Reading.{IsReaderOf}
use Rattle.px_answers.specs.Seeing.{Sees}

-- what is found among the versions of a chain stands there
pub found_there : (P : ℕ → Type 0) (test : SlotView → Bool) (all : Transactions) (table : Table) (chain : List ℕ) (found : SlotView)
    → find test (map (view_of all table) chain) ≡ Some found → All P chain → P found.slot × (found ≡ view_of all table found.slot) × (test found ≡ true)
found_there P test all table [] found is are = absurd (none-some found is)
found_there P test all table (n ∷ chain) found is are =
    (elim (test (view_of all table n)) as (λ b. test (view_of all table n) ≡ b
    → cond b (Some (view_of all table n)) (find test (map (view_of all table) chain)) ≡ Some found → P found.slot × (found ≡ view_of all table found.slot) × (test found ≡ true)) [
      | true ↦ λ passes here.
          let same : view_of all table n ≡ found = same_Some (view_of all table n) found here in (
            subst P (ap (λ (v : SlotView). v.slot) same) (All-head P n chain are),
            sym same ∙ ap (λ (v : SlotView). view_of all table v.slot) same,
            ap test (sym same) ∙ passes,
          )
      | false ↦ λ _ behind. found_there P test all table chain found behind (All-tail P n chain are)
    ]) refl is

-- the slots of a row's chain are slots of its table
pub chain_slots : (short : ℕ) (store : Store) (t row : ℕ) → AreSound short store.tables store.layouts → IsUsedRow (store.tables t) row
    → All (IsSlot (store.tables t)) ((store.layouts t).chain row)
chain_slots short store t row sound used =
    All-weaker (IsVariation (store.tables t) row) (IsSlot (store.tables t)) (λ n is. is.place) ((store.layouts t).chain row)
    ((sound t).chains row used).variations

mapped_some : (o : Option SlotView) (slot : ℕ) → option_map (λ (v : SlotView). v.slot) o ≡ Some slot → (v : SlotView) × ((o ≡ Some v) × (v.slot ≡ slot))
mapped_some None slot is = absurd (none-some slot is)
mapped_some (Some v) slot is = (v, (refl, same_Some v.slot slot is))

pub seen_slot : (short : ℕ) (all : Transactions) (store : Store) (own snapshot t row slot : ℕ) → AreSound short store.tables store.layouts
    → IsUsedRow (store.tables t) row → slot_seen all store own snapshot t row ≡ Some slot → IsSlot (store.tables t) slot
seen_slot short all store own snapshot t row slot sound used is =
    let found = mapped_some (find (is_visible own snapshot) (map (view_of all (store.tables t)) ((store.layouts t).chain row))) slot is in
    subst (IsSlot (store.tables t)) found.1.1
    (found_there (IsSlot (store.tables t)) (is_visible own snapshot) all (store.tables t) ((store.layouts t).chain row) found.0 found.1.0
    (chain_slots short store t row sound used)).0

-- what is seen of a row's slot is the row of the view
pub row_of_view : {site : State} {held : HeldTables} {holders : Holders} {m : Machine} {store : Store} {session : ℕ} {xact : Open} (reader : Reader) (t row : ℕ)
    → Sees site held reader.xacts.now holders m store → IsReaderOf m session xact reader → IsUsedRow (store.tables t) row
    → row_left None (option_map (λ slot. write_of no_parts t ((store.tables t).slot slot)) (slot_seen reader.xacts.now store reader.own reader.snapshot t row))
    ≡ row_at (t, key_of (store.tables t) row) (view m xact)
row_of_view {m = m} {store = store} {session = session} {xact = xact} reader t row sees is used =
    let left : Option ℕ → Option Row = λ o. row_left None (option_map (λ slot. write_of no_parts t ((store.tables t).slot slot)) o) in
    ap (λ own. left (slot_seen reader.xacts.now store own reader.snapshot t row)) is.own
    ∙ ap (λ snapshot. left (slot_seen reader.xacts.now store (m.base + xact.number) snapshot t row)) is.snapshot
    ∙ row_in_cells no_parts m reader.xacts.now store session xact t row sees.holds sees.kept sees.mirrors is.is_open used

-- a key without a row has none in the view
pub no_row_of_view : {site : State} {held : HeldTables} {holders : Holders} {m : Machine} {store : Store} {session : ℕ} {xact : Open} (reader : Reader) (t : ℕ) (key : List ℕ)
    → Sees site held reader.xacts.now holders m store → IsReaderOf m session xact reader → HasNoRow (store.tables t) key
    → row_at (t, key) (view m xact) ≡ None
no_row_of_view {m = m} {store = store} {session = session} {xact = xact} reader t key sees is none =
    no_row_in_cells no_parts m store session xact (t, key) sees.holds sees.kept is.is_open none

-- it sees no version
pub none_seen : {site : State} {held : HeldTables} {holders : Holders} {m : Machine} {store : Store} {session : ℕ} {xact : Open} (reader : Reader) (t row : ℕ) (slot : Option ℕ)
    → Sees site held reader.xacts.now holders m store → IsReaderOf m session xact reader → IsUsedRow (store.tables t) row
    → slot ≡ slot_seen reader.xacts.now store reader.own reader.snapshot t row → slot ≡ None → None ≡ row_at (t, key_of (store.tables t) row) (view m xact)
none_seen {store = store} reader t row slot sees is used seen none =
    ap (λ (o : Option ℕ). row_left None (option_map (λ n. write_of no_parts t ((store.tables t).slot n)) o)) (sym none ∙ seen) ∙ row_of_view reader t row sees is used

-- it sees this one
pub some_seen : {site : State} {held : HeldTables} {holders : Holders} {m : Machine} {store : Store} {session : ℕ} {xact : Open} (reader : Reader) (t row : ℕ) (slot : Option ℕ)
    (number : ℕ) (copy : Slot) → Sees site held reader.xacts.now holders m store → IsReaderOf m session xact reader → IsUsedRow (store.tables t) row
    → slot ≡ slot_seen reader.xacts.now store reader.own reader.snapshot t row → slot ≡ Some number → copy ≡ (store.tables t).slot number
    → row_written (write_of no_parts t copy) ≡ row_at (t, key_of (store.tables t) row) (view m xact)
some_seen {store = store} reader t row slot number copy sees is used seen some same =
    ap (λ (s : Slot). row_written (write_of no_parts t s)) same
    ∙ ap (λ (o : Option ℕ). row_left None (option_map (λ n. write_of no_parts t ((store.tables t).slot n)) o)) (sym some ∙ seen)
    ∙ row_of_view reader t row sees is used

-- the view's rows are in order
pub view_rows : {site : State} {held : HeldTables} {all : Transactions} {holders : Holders} {m : Machine} {store : Store} (xact : Open) → Sees site held all holders m store
    → AreRows (view m xact)
view_rows {m = m} xact sees = subst T (sym (views_are_in_order m xact sees.order)) tt
