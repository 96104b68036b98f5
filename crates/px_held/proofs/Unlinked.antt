-- That versions go from one of the tables.
use Rattle.std.proofs.Common.{◌≡◌, ◌≢◌, ℕ, ◌-◌, ◌<◌, ◌≤◌, cond, ⊎_elim, List, length, map, get_or, sym, ap, subst, ◌∙◌, arith}
use Rattle.std.proofs.lemmas.Bool.{cases_eq, cases_lt, eq-eqb, ne_eqb}
use Rattle.std.proofs.lemmas.List.{get_or_default}
use Rattle.px_chain.specs.Cells.{cell_of}
use Rattle.px_chain.specs.Links.{chain_of, parts_of, unlink_cells, unlinked}
use Rattle.px_chain.specs.Places.{IsRun}
use Rattle.px_chain.specs.Sound.{IsSound, IsUsedRow, Layout}
use Rattle.px_chain.specs.Table.{Table, laid}
use Rattle.px_chain.specs.Unused.{unused_table}
use Rattle.px_chain.proofs.SoundLaws.{chain_alike}
use Rattle.px_history.specs.Steps.{after_unlink}
use Rattle.px_history.specs.Store.{Store}
use Rattle.px_history.specs.Written.{change_of}
use Rattle.px_opened.specs.Opened.{tables_of}
use Rattle.px_shown.specs.Tables.{AreSound, Layouts, Tables, with_layout, with_table}
use Rattle.px_site.specs.State.{State}
use Rattle.px_tables.specs.Held.{HasLayout, Held, table_of}
use Rattle.px_tables.specs.Unlinking.{IsUnlink, parts_in}
use Rattle.px_held.specs.declared.prepared.PreparedUnlink.{PreparedUnlink}
use Rattle.px_held.specs.Linking.{HasTable}
use Rattle.px_held.specs.Serving.{HeldTables, IsTableOf, Serves}
use Rattle.px_held.specs.Unlinking.{HasVersions, IsUnlinkReady, unlink_from}
use Rattle.px_held.proofs.Numbered.{no_table_past, none_below}
use Rattle.px_held.proofs.Replaced.{tables_replaced, with_held}
use Rattle.px_held.proofs.Serving.{layout_served, none_used, served, serving, table_served}

-- a table with a used row is there
pub used_there : (site : State) (held : HeldTables) (store : Store) (t row : ℕ) → Serves site held store → IsUsedRow (store.tables t) row → HasTable held t
used_there site held store t row serves used =
    let none : ¬ (tables_of held.tables t ≡ unused_table) = λ unused. none_used (store.tables t) row (sym ((served site held store serves).tables t) ∙ unused) used in (
      ⊎_elim (λ (low : t < 1). absurd (none (none_below 1 held.tables t low))) (λ (some : 1 ≤ t). some) (cases_lt t 1),
      ⊎_elim (λ (past : length held.tables < t). absurd (none (no_table_past held.tables t past))) (λ (within : t ≤ length held.tables). within) (cases_lt (length held.tables) t),
    )

-- the versions of the store stand so in the table in memory, whatever its layout
pub run_held : (site : State) (held : HeldTables) (store : Store) (t row newer first count : ℕ) (table : Held) → Serves site held store → IsTableOf held t table
    → HasVersions store t row newer first count
    → (from : ℕ) × ((layout : Layout) → HasLayout table.cells layout → IsRun (layout.chain row) from newer first count)
run_held site held store t row newer first count table serves at versions = (
  versions.from,
  λ layout sound. subst (λ (chain : List ℕ). IsRun chain versions.from newer first count)
      (sym (chain_alike table.cells.short (table_of table.cells) layout (store.layouts t) row sound (layout_served site held store t serves at))) versions.run,
)

pub used_held : (site : State) (held : HeldTables) (store : Store) (t row : ℕ) (table : Held) → Serves site held store → IsTableOf held t table
    → IsUsedRow (store.tables t) row → IsUsedRow (table_of table.cells) row
used_held site held store t row table serves at used = subst (λ (t : Table). IsUsedRow t row) (table_served site held store t serves at) used

-- what stands there is what was prepared for
pub unlink_there : (held : HeldTables) (prepared : PreparedUnlink) (table : Held) → IsUnlinkReady held prepared → table ≡ get_or held.tables (prepared.table - 1) table
    → IsUnlink table.cells prepared.unlinking
unlink_there held prepared table ready is =
    let some = ready.at.there.0 in
    let within = ready.at.there.1 in
    subst (λ (t : Held). IsUnlink t.cells prepared.unlinking)
    (ready.at.is ∙ get_or_default held.tables (prepared.table - 1) ready.table table (omega (arith, some, within)) ∙ sym is) ready.unlink_is

-- ---- the cells

-- an unlink's cells over a table
abbrev cells_over : Table → Layout → (row from count : ℕ) → Table
cells_over table layout row from count = laid table (unlink_cells table.header (parts_of (chain_of table (layout.chain row)) from count))

-- one table and its layout replaced, all others sound
sound_replaced : (short : ℕ) (tables : Tables) (layouts : Layouts) (t : ℕ) (table : Table) (layout : Layout) → AreSound short tables layouts → IsSound short table layout
    → AreSound short (with_table tables t table) (with_layout layouts t layout)
sound_replaced short tables layouts t table layout all its n = ⊎_elim
    (λ (is : n ≡ t). subst (λ b. IsSound short (cond b table (tables n)) (cond b layout (layouts n))) (sym (eq-eqb n t is)) its)
    (λ (other : n ≢ t). subst (λ b. IsSound short (cond b table (tables n)) (cond b layout (layouts n))) (sym (ne_eqb n t other)) (all n))
    (cases_eq n t)

pub serves_unlinked : (site : State) (held : HeldTables) (store : Store) (t row from count : ℕ) (old table : Held) → HasTable held t → IsTableOf held t old
    → table_of table.cells ≡ laid (table_of old.cells) (unlink_cells old.cells.header (parts_in old.cells (store.layouts t) row from count))
    → HasLayout table.cells (unlinked (store.layouts t) row from count) → table.cells.short ≡ old.cells.short
    → Serves site held store → Serves site (with_held held t table) (after_unlink store t row from count)
serves_unlinked site held store t row from count old table there at is sound short serves =
    let are = served site held store serves in
    let before = store.tables t in
    let layout = store.layouts t in
    let after = cells_over before layout row from count in
    let laid_is : table_of table.cells ≡ after =
    is ∙ ap (λ (t : Table). cells_over t layout row from count) (sym (table_served site held store t serves at)) in
    let new_sound : IsSound held.short after (unlinked layout row from count) =
    subst (λ (n : ℕ). IsSound n after (unlinked layout row from count)) (short ∙ at.numbered.its_short)
    (subst (λ (t : Table). IsSound table.cells.short t (unlinked layout row from count)) laid_is sound) in
    serving site (with_held held t table) (after_unlink store t row from count) (record {
      tables = λ n. tables_replaced site held store t table after n there laid_is serves;
      sound = sound_replaced held.short store.tables store.layouts t after (unlinked layout row from count) are.sound new_sound;
    })

pub cells_unlinked_are : (site : State) (held : HeldTables) (store : Store) (prepared : PreparedUnlink) (from : ℕ) (old : Held) → IsTableOf held prepared.table old
    → Serves site held store
    → map (cell_of old.cells.number old.cells.short)
    (unlink_cells old.cells.header (parts_in old.cells (store.layouts prepared.table) prepared.unlinking.row from prepared.unlinking.count))
    ≡ (change_of held.short store (unlink_from prepared from)).cells
cells_unlinked_are site held store prepared from old at serves =
    let chain = (store.layouts prepared.table).chain prepared.unlinking.row in
    let count = prepared.unlinking.count in
    let same : table_of old.cells ≡ store.tables prepared.table = sym (table_served site held store prepared.table serves at) in
    ap (λ (t : ℕ). map (cell_of t old.cells.short) (unlink_cells old.cells.header (parts_of (chain_of (table_of old.cells) chain) from count))) at.numbered.its_number
    ∙ ap (λ (short : ℕ). map (cell_of prepared.table short) (unlink_cells old.cells.header (parts_of (chain_of (table_of old.cells) chain) from count))) at.numbered.its_short
    ∙ ap (λ (t : Table). map (cell_of prepared.table held.short) (unlink_cells t.header (parts_of (chain_of t chain) from count))) same
