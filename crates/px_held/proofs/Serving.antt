-- What serves a store.
use Rattle.std.proofs.Common.{◌≡◌, ℕ, List, map, Option, option_map, sym, ap, subst, ◌∙◌, arith}
use Rattle.std.specs.Prelude.{find}
use Rattle.px_cell_laws.specs.Reading.{slot_seen, view_of}
use Rattle.px_chain.specs.Sound.{IsSound, IsUsedRow, Layout}
use Rattle.px_chain.specs.Table.{Table}
use Rattle.px_chain.specs.Unused.{unused_table}
use Rattle.px_chain.specs.Visible.{is_visible}
use Rattle.px_chain.specs.declared.views.SlotView.{SlotView}
use Rattle.px_chain_laws.specs.Reading.{is_committed}
use Rattle.px_history.specs.Steps.{after_commit, after_rollback}
use Rattle.px_history.specs.Store.{Store}
use Rattle.px_opened.specs.Opened.{tables_of}
use Rattle.px_shown.specs.Tables.{Layouts, Tables}
use Rattle.px_site.specs.State.{State}
use Rattle.px_tables.specs.Held.{HasLayout, Held, table_of}
use Rattle.px_tables.specs.Keys.{HasNoRow}
use Rattle.px_tables.specs.Order.{HasNoKeyPast}
use Rattle.px_xacts.specs.Transactions.{Transactions}
use Rattle.px_held.specs.Reading.{newest_committed}
use Rattle.px_held.specs.Serving.{AreTablesOf, HasSameTables, HeldTables, IsTableOf, Serves}

-- what makes it so, and what it says
pub serving : (site : State) (held : HeldTables) (store : Store) → AreTablesOf held store → Serves site held store
unfolding Serves
serving site held store are = are

pub served : (site : State) (held : HeldTables) (store : Store) → Serves site held store → AreTablesOf held store
unfolding Serves
served site held store serves = serves

pub elsewhere : (site other : State) (held : HeldTables) (store : Store) → HasSameTables site other → Serves site held store → Serves other held store
elsewhere site other held store same serves = serving other held store (served site held store serves)

pub anywhere : (site other : State) (held : HeldTables) (store : Store) → Serves site held store → Serves other held store
anywhere site other held store serves = serving other held store (served site held store serves)

pub same_tables : (site : State) (held : HeldTables) (store other : Store) → other.tables ≡ store.tables → other.layouts ≡ store.layouts
    → Serves site held store → Serves site held other
same_tables site held store other tables layouts serves =
    let are = served site held store serves in
    serving site held other (record {
      tables = λ t. are.tables t ∙ sym (ap (λ (f : Tables). f t) tables);
      sound = λ t. subst (λ (f : Tables). IsSound held.short (f t) (other.layouts t)) (sym tables)
          (subst (λ (f : Layouts). IsSound held.short (store.tables t) (f t)) (sym layouts) (are.sound t));
    })

pub one_store : (site : State) (held : HeldTables) (one other : Store) → Serves site held one → Serves site held other → (t : ℕ) → one.tables t ≡ other.tables t
one_store site held one other a b t = sym ((served site held one a).tables t) ∙ (served site held other b).tables t

-- an end of a transaction

pub committed : (site : State) (held : HeldTables) (store : Store) (xn : ℕ) → Serves site held store → Serves site held (after_commit store xn)
committed site held store xn serves =
    let are = served site held store serves in
    serving site held (after_commit store xn) (record { tables = are.tables; sound = are.sound })

pub rolled_back : (site : State) (held : HeldTables) (store : Store) (xn : ℕ) → Serves site held store → Serves site held (after_rollback store xn)
rolled_back site held store xn serves =
    let are = served site held store serves in
    serving site held (after_rollback store xn) (record { tables = are.tables; sound = are.sound })

-- ---- a table of what serves

-- the store's table with that number
pub table_served : {table : Held} (site : State) (held : HeldTables) (store : Store) (number : ℕ) → Serves site held store → IsTableOf held number table
    → store.tables number ≡ table_of table.cells
table_served site held store number serves at = sym ((served site held store serves).tables number) ∙ at.is

-- no row of an unused table is used
pub none_used : (table : Table) (row : ℕ) → table ≡ unused_table → IsUsedRow table row → ⊥
none_used table row unused used =
    let place : IsUsedRow unused_table row = subst (λ (t : Table). IsUsedRow t row) unused used in
    omega (arith, place.0.0, place.0.1)

pub no_row : (site : State) (held : HeldTables) (store : Store) (number : ℕ) (key : List ℕ) → Serves site held store → tables_of held.tables number ≡ unused_table
    → HasNoRow (store.tables number) key
no_row site held store number key serves unused row used =
    absurd (none_used (store.tables number) row (sym ((served site held store serves).tables number) ∙ unused) used)

-- its cells are sound, with the store's layout
pub layout_served : {table : Held} (site : State) (held : HeldTables) (store : Store) (number : ℕ) → Serves site held store → IsTableOf held number table
    → HasLayout table.cells (store.layouts number)
layout_served {table} site held store number serves at =
    subst (λ (t : Table). IsSound table.cells.short t (store.layouts number)) (table_served site held store number serves at)
    (subst (λ (n : ℕ). IsSound n (store.tables number) (store.layouts number)) (sym at.numbered.its_short) ((served site held store serves).sound number))

-- what the table in memory doesn't have, the store's doesn't
pub served_alike : (P : Table → Type 0) (site : State) (held : HeldTables) (store : Store) (number : ℕ) → Serves site held store → P (store.tables number)
    → P (tables_of held.tables number)
served_alike P site held store number serves has = subst P (sym ((served site held store serves).tables number)) has

pub slot_served : {table : Held} (site : State) (held : HeldTables) (store : Store) (number : ℕ) (all : Transactions) (own snapshot row : ℕ) (result : Option ℕ)
    → Serves site held store → IsTableOf held number table
    → ((layout : Layout) → HasLayout table.cells layout
    → result ≡ option_map (λ view. view.slot) (find (is_visible own snapshot) (map (view_of all (table_of table.cells)) (layout.chain row))))
    → result ≡ slot_seen all store own snapshot number row
slot_served {table} site held store number all own snapshot row result serves at is =
    is (store.layouts number) (layout_served site held store number serves at)
    ∙ ap (λ (t : Table). option_map (λ (view : SlotView). view.slot) (find (is_visible own snapshot) (map (view_of all t) ((store.layouts number).chain row))))
    (sym (table_served site held store number serves at))

pub newest_served : {table : Held} (site : State) (held : HeldTables) (store : Store) (number : ℕ) (all : Transactions) (row : ℕ) (result : Option SlotView)
    → Serves site held store → IsTableOf held number table
    → ((layout : Layout) → HasLayout table.cells layout
    → result ≡ find (λ view. is_committed view.standing) (map (view_of all (table_of table.cells)) (layout.chain row)))
    → result ≡ newest_committed all store number row
newest_served {table} site held store number all row result serves at is =
    is (store.layouts number) (layout_served site held store number serves at)
    ∙ ap (λ (t : Table). find (λ (view : SlotView). is_committed view.standing) (map (view_of all t) ((store.layouts number).chain row)))
    (sym (table_served site held store number serves at))

pub no_key : (site : State) (held : HeldTables) (store : Store) (number : ℕ) (after : Option (List ℕ)) → Serves site held store → tables_of held.tables number ≡ unused_table
    → HasNoKeyPast (store.tables number) after
no_key site held store number after serves unused row used past =
    none_used (store.tables number) row (sym ((served site held store serves).tables number) ∙ unused) used
