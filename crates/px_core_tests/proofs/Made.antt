-- The store of tables that were just made.
use Rattle.std.proofs.Common.{◌≡◌, ◌≢◌, ℕ, suc, ◌^◌, ◌≤◌, Bool, cond, true, false, All, List, [], ◌∷◌, length, refl, sym, ap, subst, ◌∙◌, arith, ⊎_elim}
use Rattle.std.proofs.lemmas.Bool.{cases_eq, eq-eqb, ne_eqb}
use Rattle.std.proofs.lemmas.List.Elements.{All-head, All-tail}
use Rattle.px_cells.specs.Form.{is_short}
use Rattle.px_cells.specs.declared.header.Header.{Header}
use Rattle.px_chain.specs.Sound.{IsUsedRow, no_layout, no_places}
use Rattle.px_chain.specs.Table.{Table}
use Rattle.px_held.specs.Serving.{HeldTables, Serves}
use Rattle.px_history.specs.Fitting.{PlacesFit}
use Rattle.px_history.specs.Store.{Store}
use Rattle.px_log.specs.Log.{Log}
use Rattle.px_model.specs.declared.limits.TheConstants.{MOST_TABLES}
use Rattle.px_opened.specs.Opened.{numbered_from, tables_of}
use Rattle.px_site.specs.State.{State}
use Rattle.px_tables.specs.Held.{Held, table_of}
use Rattle.px_tidying.specs.Opening.{HasStore, opening}

abbrev pub IsUnused : Held → Type 0
IsUnused table = table.cells.header ≡ no_places

none_used : (first : ℕ) (made : List Held) → All IsUnused made → (t : ℕ) → (numbered_from first made t).header ≡ no_places
none_used first [] none t = refl
none_used first (table ∷ others) none t = ⊎_elim
    (λ (here : t ≡ first). ap (λ (b : Bool). (cond b (table_of table.cells) (numbered_from (suc first) others t)).header) (eq-eqb t first here)
    ∙ All-head IsUnused table others none)
    (λ (away : t ≢ first). ap (λ (b : Bool). (cond b (table_of table.cells) (numbered_from (suc first) others t)).header) (ne_eqb t first away)
    ∙ none_used (suc first) others (All-tail IsUnused table others none) t)
    (cases_eq t first)

no_row : (table : Table) (row : ℕ) → table.header ≡ no_places → IsUsedRow table row → ⊥
no_row table row none used =
    let rows = ap (λ (h : Header). h.rows) none in
    let some = used.0.0 in
    let within = used.0.1 in
    omega (arith, rows, some, within)

abbrev pub made_store : List Held → Store
made_store made = record { tables = tables_of made; layouts = λ t. no_layout; done = λ xn. false; over = λ xn. false }

has_made : (s : State) (held : HeldTables) (log : Log) → Serves s held (made_store held.tables) → All IsUnused held.tables → held.short ≡ 64
    → length held.tables ≡ 2 → log.tables ≡ 2 → log.short ≡ 64 → log.frames ≤ 2 ^ 48 → HasStore (made_store held.tables) (opening s held log)
has_made s held log serves none short count tables its_short room =
    let unused = none_used 1 held.tables none in
    record {
      serves = serves;
      numbers = λ t row used. absurd (no_row (tables_of held.tables t) row (unused t) used);
      places = λ t. subst PlacesFit (sym (unused t)) (record { slots = omega arith; rows = omega arith });
      is_short = subst (λ (n : ℕ). is_short n ≡ true) (sym short) refl;
      few = subst (λ (n : ℕ). n ≤ MOST_TABLES) (sym tables) (omega arith);
      room = room;
      tables = count ∙ sym tables;
      short = its_short ∙ sym short;
    }

pub has_after : (s : State) (new held : HeldTables) (log : Log) → new ≡ held → Serves s new (made_store held.tables) → All IsUnused held.tables
    → held.short ≡ 64 → length held.tables ≡ 2 → log.tables ≡ 2 → log.short ≡ 64 → log.frames ≤ 2 ^ 48
    → (store : Store) × HasStore store (opening s new log)
has_after s new held log is serves none short count tables its_short room =
    let there = subst (λ (h : HeldTables). Serves s h (made_store held.tables)) is serves in
    subst (λ (h : HeldTables). (store : Store) × HasStore store (opening s h log)) (sym is)
    (made_store held.tables, has_made s held log there none short count tables its_short room)
