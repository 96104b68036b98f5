-- One row after the other, and one table after the other.
use Rattle.std.proofs.Common.{◌≡◌, ◌≢◌, ℕ, zero, suc, ◌<◌, ◌≤◌, List, [], ◌∷◌, ◌++◌, map, refl, sym, ap, subst, ◌∙◌, arith, inl, inr, ⊎_elim}
use Rattle.std.specs.Prelude.{◌⊎◌}
use Rattle.std.proofs.lemmas.Bool.{cases_eq, cases_lt}
use Rattle.std.proofs.lemmas.Grind.{fold-append}
use Rattle.std.proofs.lemmas.List.{append-nil}
use Rattle.px_cells.specs.declared.slot.Slot.{Slot}
use Rattle.px_chain.specs.Sound.{IsUsedRow}
use Rattle.px_history.specs.Store.{IsTidied, Store, versions_of}
use Rattle.px_history.specs.Steps.{AreSteps, IsStep, Step, after_step, after_steps}
use Rattle.px_shown.specs.Parts.{Parts}
use Rattle.px_shown.specs.Shown.{Done}
use Rattle.px_shown.specs.Tables.{AreSound}
use Rattle.px_tidy.specs.Kept.{kept, tidied_away}
use Rattle.px_tidy.specs.Rows.{HasNoRowPast, IsNextRow}
use Rattle.px_tidy.specs.Steps.{HasTables, IsOfTable, IsOfTableUpTo, IsRow, IsRowSame, IsRowTidied, IsRowUpTo, Tidies, tidying_row, tidying_rows, tidying_table, tidying_tables}
use Rattle.px_tidy.proofs.OneRow.{one_row, same_row, tidied_row, tidy_row, unlink_at}
use Rattle.px_tidy.proofs.Unlinks.{unused_none}

-- ---- steps behind steps

follow_both : (parts : Parts) (short : ℕ) (store : Store) (steps more : List Step) → AreSteps parts short store steps → AreSteps parts short (after_steps store steps) more
    → AreSteps parts short store (steps ++ more)
follow_both parts short store [] more follow then = then
follow_both parts short store (step ∷ steps) more follow then = (follow.0, follow_both parts short (after_step store step) steps more follow.1 then)

pub one_of_them : (parts : Parts) (short : ℕ) (store : Store) (before behind : List Step) (step : Step) → AreSteps parts short store (before ++ step ∷ behind)
    → IsStep parts short (after_steps store before) step
one_of_them parts short store [] behind step follow = follow.0
one_of_them parts short store (first ∷ before) behind step follow = one_of_them parts short (after_step store first) before behind step follow.1

-- these rows, and those ones, and no others
record AreBoth (A B C : ℕ → ℕ → Type 0) : Type 0 where
  pub apart : (t row : ℕ) → A t row → B t row → ⊥
  pub either : (t row : ℕ) → C t row → A t row ⊎ B t row
  pub first : (t row : ℕ) → A t row → C t row
  pub second : (t row : ℕ) → B t row → C t row

first_tidied : (store middle after : Store) (t row : ℕ) → IsRowTidied store middle t row → IsRowSame middle after t row → IsRowTidied store after t row
first_tidied store middle after t row tidied same = record {
  versions = same.versions ∙ tidied.versions;
  used = (λ used. tidied.used.0 (same.used.0 used), λ some. same.used.1 (tidied.used.1 some));
}

second_tidied : (short : ℕ) (store middle after : Store) (t row : ℕ) → AreSound short after.tables after.layouts → middle.done ≡ store.done
    → IsRowSame store middle t row → IsRowTidied middle after t row → IsRowTidied store after t row
second_tidied short store middle after t row sound done same tidied =
    tidied_row short store after t row sound
    (tidied.versions ∙ ap (λ (d : Done). kept d (versions_of middle t row)) done ∙ ap (kept store.done) same.versions)

both_tidy : (short : ℕ) (store middle after : Store) (steps more : List Step) (A B C : ℕ → ℕ → Type 0) → AreBoth A B C → Tidies short store steps middle A
    → Tidies short middle more after B → Tidies short store (steps ++ more) after C
both_tidy short store middle after steps more A B C are a b = record {
  lead = b.lead ∙ ap (λ (s : Store). after_steps s more) a.lead ∙ sym (fold-append after_step store steps more);
  follow = λ parts. follow_both parts short store steps more (a.follow parts) (subst (λ (s : Store). AreSteps parts short s more) a.lead (b.follow parts));
  sound = b.sound;
  shows = λ parts rows shows. b.shows parts rows (a.shows parts rows shows);
  done = b.done ∙ a.done;
  tidied = λ t row is. ⊎_elim
      (λ (one : A t row). first_tidied store middle after t row (a.tidied t row one) (b.others t row (λ two. are.apart t row one two)))
      (λ (two : B t row). second_tidied short store middle after t row b.sound a.done (a.others t row (λ one. are.apart t row one two)) (b.tidied t row two))
      (are.either t row is);
  others = λ t row no.
      let one = a.others t row (λ is. no (are.first t row is)) in
      let two = b.others t row (λ is. no (are.second t row is)) in
      record { versions = two.versions ∙ one.versions; used = (λ used. one.used.0 (two.used.0 used), λ used. two.used.1 (one.used.1 used)) };
}

-- ---- the rows of a table

steps_same : (store middle : Store) (t row : ℕ) → middle.done ≡ store.done → versions_of middle t row ≡ versions_of store t row
    → tidying_row middle t row ≡ tidying_row store t row
steps_same store middle t row done same =
    ap (λ (d : Done). map (unlink_at t row) (tidied_away d (versions_of middle t row))) done
    ∙ ap (λ (l : List Slot). map (unlink_at t row) (tidied_away store.done l)) same

rows_same : (store middle : Store) (t last : ℕ) → middle.done ≡ store.done → ((row : ℕ) → versions_of middle t row ≡ versions_of store t row)
    → tidying_rows middle t last ≡ tidying_rows store t last
rows_same store middle t zero done same = refl
rows_same store middle t (suc last) done same =
    ap (λ (l : List Step). l ++ tidying_row middle t (suc last)) (rows_same store middle t last done same)
    ∙ ap (λ (l : List Step). tidying_rows store t last ++ l) (steps_same store middle t (suc last) done (same (suc last)))

none_to_tidy : (short : ℕ) (store : Store) (IsOne : ℕ → ℕ → Type 0) → AreSound short store.tables store.layouts → ((t row : ℕ) → IsOne t row → ⊥)
    → Tidies short store [] store IsOne
none_to_tidy short store IsOne sound none = record {
  lead = refl;
  follow = λ parts. tt;
  sound = sound;
  shows = λ parts rows shows. shows;
  done = refl;
  tidied = λ t row is. absurd (none t row is);
  others = λ t row no. same_row short store store t row sound sound refl;
}

one_row_more : (t last : ℕ) → AreBoth (IsRowUpTo t last) (IsRow t (suc last)) (IsRowUpTo t (suc last))
one_row_more t last = record {
  apart = λ n q one two. let high = one.2 in let is = two.1 in omega (arith, high, is);
  either = λ n q is. ⊎_elim
      (λ (e : q ≡ suc last). inr (is.0, e))
      (λ (e : q ≢ suc last). let high = is.2 in inl (is.0, is.1, omega (arith, high, e)))
      (cases_eq q (suc last));
  first = λ n q one. let high = one.2 in (one.0, one.1, omega (arith, high));
  second = λ n q two. let is = two.1 in (two.0, omega (arith, is), omega (arith, is));
}

tidy_rows : (short : ℕ) (store : Store) (t last : ℕ) → AreSound short store.tables store.layouts
    → (after : Store) × Tidies short store (tidying_rows store t last) after (IsRowUpTo t last)
tidy_rows short store t zero sound = (store, none_to_tidy short store (IsRowUpTo t zero) sound (λ n q is. let low = is.1 in let high = is.2 in omega (arith, low, high)))
tidy_rows short store t (suc last) sound =
    let a = tidy_rows short store t last sound in
    let middle = a.0 in
    let same : tidying_row middle t (suc last) ≡ tidying_row store t (suc last) =
    steps_same store middle t (suc last) a.1.done (a.1.others t (suc last) (λ is. let high = is.2 in omega (arith, high))).versions in
    let b = tidy_row short middle t (suc last) a.1.sound in (
      after_steps middle (tidying_row middle t (suc last)),
      both_tidy short store middle (after_steps middle (tidying_row middle t (suc last))) (tidying_rows store t last) (tidying_row store t (suc last))
          (IsRowUpTo t last) (IsRow t (suc last)) (IsRowUpTo t (suc last)) (one_row_more t last) a.1
          (subst (λ (l : List Step). Tidies short middle l (after_steps middle (tidying_row middle t (suc last))) (IsRow t (suc last))) same b),
    )

-- ---- a table

-- no row past this one is used
tidy_table : (short : ℕ) (store : Store) (t last : ℕ) → AreSound short store.tables store.layouts → ((row : ℕ) → IsUsedRow (store.tables t) row → row ≤ last)
    → (after : Store) × Tidies short store (tidying_rows store t last) after (IsOfTable t)
tidy_table short store t last sound least =
    let a = tidy_rows short store t last sound in
    let after = a.0 in
    let unused : (row : ℕ) → (IsRowUpTo t last t row → ⊥) → IsRowTidied store after t row = λ row no.
    let none = unused_none short (store.tables t) (store.layouts t) row (sound t) (λ used. no (refl, used.0.0, least row used)) in
    tidied_row short store after t row a.1.sound ((a.1.others t row no).versions ∙ none ∙ sym (ap (kept store.done) none)) in
    let each : (row : ℕ) → IsRowTidied store after t row = λ row. ⊎_elim
    (λ (low : row < 1). unused row (λ is. let from = is.1 in omega (arith, low, from)))
    (λ (from : 1 ≤ row). ⊎_elim
    (λ (high : last < row). unused row (λ is. let to = is.2 in omega (arith, high, to)))
    (λ (to : row ≤ last). a.1.tidied t row (refl, from, to))
    (cases_lt last row))
    (cases_lt row 1) in (
      after,
      record {
        lead = a.1.lead;
        follow = a.1.follow;
        sound = a.1.sound;
        shows = a.1.shows;
        done = a.1.done;
        tidied = λ n row is. subst (λ (m : ℕ). IsRowTidied store after m row) (sym is) (each row);
        others = λ n row no. a.1.others n row (λ is. no is.0);
      },
    )

-- ---- the tables of a store

one_table_more : (last : ℕ) → AreBoth (IsOfTableUpTo last) (IsOfTable (suc last)) (IsOfTableUpTo (suc last))
one_table_more last = record {
  apart = λ n q one two. let high = one.1 in omega (arith, high, two);
  either = λ n q is. ⊎_elim
      (λ (e : n ≡ suc last). inr e)
      (λ (e : n ≢ suc last). let high = is.1 in inl (is.0, omega (arith, high, e)))
      (cases_eq n (suc last));
  first = λ n q one. let high = one.1 in (one.0, omega (arith, high));
  second = λ n q two. (omega (arith, two), omega (arith, two));
}

tidy_tables : (short : ℕ) (store : Store) (last : ℕ) → AreSound short store.tables store.layouts
    → (after : Store) × Tidies short store (tidying_tables store last) after (IsOfTableUpTo last)
tidy_tables short store zero sound = (store, none_to_tidy short store (IsOfTableUpTo zero) sound (λ n q is. let low = is.0 in let high = is.1 in omega (arith, low, high)))
tidy_tables short store (suc last) sound =
    let a = tidy_tables short store last sound in
    let middle = a.0 in
    let rows = (store.tables (suc last)).header.rows in
    let others : (row : ℕ) → IsRowSame store middle (suc last) row = λ row. a.1.others (suc last) row (λ is. let high = is.1 in omega (arith, high)) in
    let same : tidying_rows middle (suc last) rows ≡ tidying_rows store (suc last) rows = rows_same store middle (suc last) rows a.1.done (λ row. (others row).versions) in
    let b = tidy_table short middle (suc last) rows a.1.sound (λ row used. ((others row).used.0 used).0.1) in (
      b.0,
      both_tidy short store middle b.0 (tidying_tables store last) (tidying_rows store (suc last) rows)
          (IsOfTableUpTo last) (IsOfTable (suc last)) (IsOfTableUpTo (suc last)) (one_table_more last) a.1
          (subst (λ (l : List Step). Tidies short middle l b.0 (IsOfTable (suc last))) same b.1),
    )

-- ---- the laws

at_end : (short : ℕ) (store : Store) (steps : List Step) (IsOne : ℕ → ℕ → Type 0) → ((after : Store) × Tidies short store steps after IsOne)
    → Tidies short store steps (after_steps store steps) IsOne
at_end short store steps IsOne a = subst (λ (s : Store). Tidies short store steps s IsOne) a.1.lead a.1

pub rows_tidied : (short : ℕ) (store : Store) (t last : ℕ) → AreSound short store.tables store.layouts
    → Tidies short store (tidying_rows store t last) (after_steps store (tidying_rows store t last)) (IsRowUpTo t last)
rows_tidied short store t last sound = at_end short store (tidying_rows store t last) (IsRowUpTo t last) (tidy_rows short store t last sound)

pub table_tidied : (short : ℕ) (store : Store) (t : ℕ) → AreSound short store.tables store.layouts
    → Tidies short store (tidying_table store t) (after_steps store (tidying_table store t)) (IsOfTable t)
table_tidied short store t sound = at_end short store (tidying_table store t) (IsOfTable t)
    (tidy_table short store t (store.tables t).header.rows sound (λ row used. used.0.1))

pub tables_tidied : (short : ℕ) (store : Store) (last : ℕ) → AreSound short store.tables store.layouts
    → Tidies short store (tidying_tables store last) (after_steps store (tidying_tables store last)) (IsOfTableUpTo last)
tables_tidied short store last sound = at_end short store (tidying_tables store last) (IsOfTableUpTo last) (tidy_tables short store last sound)

pub store_tidied : (short : ℕ) (store : Store) (last : ℕ) → AreSound short store.tables store.layouts → HasTables store last
    → IsTidied (after_steps store (tidying_tables store last))
store_tidied short store last sound has =
    let after = after_steps store (tidying_tables store last) in
    let a = tables_tidied short store last sound in
    record {
      each = λ t row used.
          let out : (IsOfTableUpTo last t row → ⊥) → ⊥ = λ no. no (has t row ((a.others t row no).used.0 used)) in
          ⊎_elim
          (λ (low : t < 1). absurd (out (λ is. let from = is.0 in omega (arith, low, from))))
          (λ (from : 1 ≤ t). ⊎_elim
          (λ (high : last < t). absurd (out (λ is. let to = is.1 in omega (arith, high, to))))
          (λ (to : t ≤ last). one_row short store after t row a.done (a.tidied t row (from, to)) used)
          (cases_lt last t))
          (cases_lt t 1);
    }

-- ---- rows that aren't used

no_steps : (short : ℕ) (store : Store) (t row : ℕ) → AreSound short store.tables store.layouts → (IsUsedRow (store.tables t) row → ⊥) → tidying_row store t row ≡ []
no_steps short store t row sound unused =
    ap (λ (l : List Slot). map (unlink_at t row) (tidied_away store.done l)) (unused_none short (store.tables t) (store.layouts t) row (sound t) unused)

passed_over : (short : ℕ) (store : Store) (t last row : ℕ) → AreSound short store.tables store.layouts → last ≤ row
    → ((other : ℕ) → last < other → other ≤ row → IsUsedRow (store.tables t) other → ⊥) → tidying_rows store t row ≡ tidying_rows store t last
passed_over short store t last zero sound from none =
    let same : last ≡ 0 = omega (arith, from) in ap (tidying_rows store t) (sym same)
passed_over short store t last (suc row) sound from none = ⊎_elim
    (λ (e : last ≡ suc row). ap (tidying_rows store t) (sym e))
    (λ (e : last ≢ suc row).
    ap (λ (l : List Step). tidying_rows store t row ++ l) (no_steps short store t (suc row) sound (none (suc row) (omega (arith, from, e)) (omega arith)))
    ∙ append-nil (tidying_rows store t row)
    ∙ passed_over short store t last row sound (omega (arith, from, e)) (λ other past to. none other past (omega (arith, to))))
    (cases_eq last (suc row))

pub next_steps : (short : ℕ) (store : Store) (t last row : ℕ) → AreSound short store.tables store.layouts → IsNextRow (store.tables t) last row
    → tidying_rows store t row ≡ tidying_rows store t last ++ tidying_row store t row
next_steps short store t last zero sound next = let past = next.past in absurd (omega (arith, past))
next_steps short store t last (suc row) sound next =
    let past = next.past in
    ap (λ (l : List Step). l ++ tidying_row store t (suc row)) (passed_over short store t last row sound (omega (arith, past))
    (λ other from to. next.least other from (omega (arith, to))))

pub last_steps : (short : ℕ) (store : Store) (t last : ℕ) → AreSound short store.tables store.layouts → HasNoRowPast (store.tables t) last
    → tidying_rows store t last ≡ tidying_table store t
last_steps short store t last sound none =
    let rows = (store.tables t).header.rows in
    ⊎_elim
    (λ (before : last < rows). sym (passed_over short store t last rows sound (omega (arith, before)) (λ other past to. none other past)))
    (λ (behind : rows ≤ last). passed_over short store t rows last sound behind (λ other past to used. let high = used.0.1 in omega (arith, past, high)))
    (cases_lt last rows)
