-- Rows and tables one after the other: what the tables have meanwhile says what the store had before.
use Rattle.std.proofs.Common.{◌≡◌, ◌≢◌, ℕ, zero, suc, ◌<◌, Bool, cond, All, List, [], ◌∷◌, ◌++◌, map, refl, sym, ap, ◌∙◌, arith, ⊎_elim}
use Rattle.std.proofs.lemmas.Bool.{cases_eq, eq-eqb, ne_eqb}
use Rattle.std.proofs.lemmas.List.Elements.{All-head, All-tail}
use Rattle.px_beginning.proofs.Unlinks.{tables_unlink}
use Rattle.px_cells.specs.declared.header.Header.{Header}
use Rattle.px_cells.specs.declared.slot.Slot.{Slot}
use Rattle.px_chain.specs.Links.{chain_of, parts_of, unlink_cells}
use Rattle.px_chain.specs.Table.{laid}
use Rattle.px_history.specs.Steps.{IsUnlink, Step, after_steps, after_unlink}
use Rattle.px_history.specs.Store.{Store, versions_of}
use Rattle.px_shown.specs.Shown.{Done}
use Rattle.px_shown.specs.Tables.{AreSound}
use Rattle.px_tidy.proofs.Stores.{last_steps, next_steps, rows_tidied, tables_tidied}
use Rattle.px_tidy.specs.Kept.{tidied_away}
use Rattle.px_tidy.specs.Rows.{HasNoRowPast, IsNextRow}
use Rattle.px_tidy.specs.Steps.{IsOfTableUpTo, IsRowSame, IsRowUpTo, Tidies, tidying_row, tidying_rows, tidying_table, tidying_tables}
use Rattle.px_tidying.specs.Going.{HasRow, IsDoneBy}
use Rattle.px_tidying.proofs.Made.{header_left}

-- ---- the same steps in a store with the same versions

same_row_steps : (store middle : Store) (t row : ℕ) → middle.done ≡ store.done → versions_of middle t row ≡ versions_of store t row
    → tidying_row middle t row ≡ tidying_row store t row
same_row_steps store middle t row done same =
    ap (λ (d : Done). map (λ (place : ℕ). Step.unlink t row place 1) (tidied_away d (versions_of middle t row))) done
    ∙ ap (λ (l : List Slot). map (λ (place : ℕ). Step.unlink t row place 1) (tidied_away store.done l)) same

same_rows_steps : (store middle : Store) (t last : ℕ) → middle.done ≡ store.done → ((row : ℕ) → versions_of middle t row ≡ versions_of store t row)
    → tidying_rows middle t last ≡ tidying_rows store t last
same_rows_steps store middle t zero done same = refl
same_rows_steps store middle t (suc last) done same =
    ap (λ (l : List Step). l ++ tidying_row middle t (suc last)) (same_rows_steps store middle t last done same)
    ∙ ap (λ (l : List Step). tidying_rows store t last ++ l) (same_row_steps store middle t (suc last) done (same (suc last)))

-- ---- the rows of a table

module _ (short : ℕ) (store : Store) (t last : ℕ) (sound : AreSound short store.tables store.layouts) where
  abbrev middle : Store
  middle = after_steps store (tidying_rows store t last)

  tidies : Tidies short store (tidying_rows store t last) middle (IsRowUpTo t last)
  tidies = rows_tidied short store t last sound

  past_same : (row : ℕ) → last < row → IsRowSame store middle t row
  past_same row past = tidies.others t row (λ is. let to = is.2 in omega (arith, to, past))

  pub next_before : (row : ℕ) → IsNextRow (middle.tables t) last row → IsNextRow (store.tables t) last row
  next_before row next = record {
    past = next.past;
    used = (past_same row next.past).used.0 next.used;
    least = λ other past below used. next.least other past below ((past_same other past).used.1 used);
  }

  pub none_before : HasNoRowPast (middle.tables t) last → tidying_rows store t last ≡ tidying_table store t
  none_before none = last_steps short store t last sound (λ other past used. none other past ((past_same other past).used.1 used))

  pub next_has_row : (done : Done) (row : ℕ) → IsDoneBy done store → IsNextRow (middle.tables t) last row → HasRow done t row middle
  next_has_row done row is next = (tidies.done ∙ is, next.used)

  pub next_row_steps : (row : ℕ) → IsNextRow (middle.tables t) last row → tidying_rows store t last ++ tidying_row middle t row ≡ tidying_rows store t row
  next_row_steps row next =
      ap (λ (l : List Step). tidying_rows store t last ++ l) (same_row_steps store middle t row tidies.done (past_same row next.past).versions)
      ∙ sym (next_steps short store t last row sound (next_before row next))

-- ---- the tables of a store

rows_left : (store : Store) (t row from count n : ℕ) → ((after_unlink store t row from count).tables n).header.rows ≡ (store.tables n).header.rows
rows_left store t row from count n =
    let table = store.tables t in
    let parts = parts_of (chain_of table ((store.layouts t).chain row)) from count in
    let after = laid table (unlink_cells table.header parts) in
    ⊎_elim
    (λ (here : n ≡ t). ap (λ (b : Bool). (cond b after (store.tables n)).header.rows) (eq-eqb n t here)
    ∙ ap (λ (header : Header). header.rows) (header_left table table.header parts)
    ∙ ap (λ (m : ℕ). (store.tables m).header.rows) (sym here))
    (λ (away : n ≢ t). ap (λ (b : Bool). (cond b after (store.tables n)).header.rows) (ne_eqb n t away))
    (cases_eq n t)

rows_counted : (store : Store) (steps : List Step) → All IsUnlink steps → (n : ℕ) → ((after_steps store steps).tables n).header.rows ≡ (store.tables n).header.rows
rows_counted store [] all n = refl
rows_counted store (Step.put t header slot ∷ steps) all n = absurd (All-head IsUnlink (Step.put t header slot) steps all)
rows_counted store (Step.commit xn number ∷ steps) all n = absurd (All-head IsUnlink (Step.commit xn number) steps all)
rows_counted store (Step.rollback xn ∷ steps) all n = absurd (All-head IsUnlink (Step.rollback xn) steps all)
rows_counted store (Step.unlink t row from count ∷ steps) all n =
    rows_counted (after_unlink store t row from count) steps (All-tail IsUnlink (Step.unlink t row from count) steps all) n ∙ rows_left store t row from count n
rows_counted store (Step.move t number log place ∷ steps) all n = absurd (All-head IsUnlink (Step.move t number log place) steps all)

module _ (short : ℕ) (store : Store) (last : ℕ) (sound : AreSound short store.tables store.layouts) where
  abbrev between : Store
  between = after_steps store (tidying_tables store last)

  tables_done : Tidies short store (tidying_tables store last) between (IsOfTableUpTo last)
  tables_done = tables_tidied short store last sound

  pub next_is_done : (done : Done) → IsDoneBy done store → IsDoneBy done between
  next_is_done done is = tables_done.done ∙ is

  next_same : tidying_table between (suc last) ≡ tidying_table store (suc last)
  next_same =
      ap (tidying_rows between (suc last)) (rows_counted store (tidying_tables store last) (tables_unlink store last) (suc last))
      ∙ same_rows_steps store between (suc last) (store.tables (suc last)).header.rows tables_done.done
      (λ row. (tables_done.others (suc last) row (λ is. let to = is.1 in omega (arith, to))).versions)

  pub next_table_steps : (next : ℕ) → next ≡ suc last → tidying_tables store last ++ tidying_table between next ≡ tidying_tables store next
  next_table_steps next is =
      ap (λ (n : ℕ). tidying_tables store last ++ tidying_table between n) is
      ∙ ap (λ (l : List Step). tidying_tables store last ++ l) next_same
      ∙ ap (tidying_tables store) (sym is)
