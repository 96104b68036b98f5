-- The numbers that a machine knows once its store is opened.
use Rattle.std.proofs.Common.{◌≡◌, ℕ, zero, suc, ◌+◌, ◌-◌, ◌≤◌, All, List, [], ◌∷◌, drop, refl, sym, subst, arith}
use Rattle.std.proofs.lemmas.List.Elements.{All-append, All-head, All-map, All-nil, All-tail}
use Rattle.px_beginning.proofs.Fresh.{base_of_fresh}
use Rattle.px_beginning.proofs.Steps.{IsCounted, grown_counted, last_grown}
use Rattle.px_beginning.proofs.Unlinks.{TablesTidied}
use Rattle.px_beginning.specs.Found.{Reading, life_of}
use Rattle.px_beginning.specs.Numbers.{IsUnnamed}
use Rattle.px_beginning.specs.Tidied.{tidied, with_steps}
use Rattle.px_filed.specs.Filed.{file_places}
use Rattle.px_history.specs.Steps.{AreSteps, IsStep, MayUnlink, Step}
use Rattle.px_history.specs.Store.{Store, versions_from, versions_of}
use Rattle.px_history.specs.Written.{change_of, first_writer}
use Rattle.px_laid.specs.Places.{Places}
use Rattle.px_life.proofs.Found.{counted_extend, found_held}
use Rattle.px_life.specs.Found.{counted_places}
use Rattle.px_life.specs.Front.{commits_by, done_by}
use Rattle.px_life.specs.Life.{Life}
use Rattle.px_model.specs.Machine.{Machine, fresh}
use Rattle.px_model.specs.declared.row.Row.{Row}
use Rattle.px_opened.proofs.One.{all_sound}
use Rattle.px_opened.specs.Opened.{Opens, changes_over}
use Rattle.px_reached.proofs.Standing.{MoreOpens}
use Rattle.px_restart.specs.declared.restart.Restart.{Restart}
use Rattle.px_shown.proofs.Changes.{unlink_stays_sound}
use Rattle.px_shown.specs.Parts.{no_parts}
use Rattle.px_shown.specs.Tables.{AreSound}
use Rattle.px_standing.specs.Files.{Files}
use Rattle.px_tidy.specs.Kept.{tidied_away}
use Rattle.px_tidy.specs.Steps.{tidying_row, tidying_rows, tidying_table, tidying_tables}
use Rattle.px_working.specs.Follows.{last_store, with_step}
use Rattle.px_cell_standing.specs.Found.{IsReadIn, NamesNumbers, found_in, machine_of, store_of}
use Rattle.px_cell_standing.proofs.Beginning.{found_store}
use Rattle.px_cell_standing.proofs.Finding.{next_from}
use Rattle.px_cell_standing.proofs.Naming.{names_step, unlink_within}
use Rattle.px_cell_standing.proofs.One.{SameLayouts, SameTables, unnamed_alike}

-- ---- unlinks of one version each

abbrev IsOneUnlink : Step → Type 0
IsOneUnlink (Step.put t header slot) = ⊥
IsOneUnlink (Step.commit xn number) = ⊥
IsOneUnlink (Step.rollback xn) = ⊥
IsOneUnlink (Step.unlink t row from count) = count ≡ 1
IsOneUnlink (Step.move t number log place) = ⊥

row_unlinks : (store : Store) (t row : ℕ) → All IsOneUnlink (tidying_row store t row)
row_unlinks store t row = All-map IsOneUnlink (λ (place : ℕ). Step.unlink t row place 1) (tidied_away store.done (versions_of store t row)) (λ n d within. refl)

rows_unlink : (store : Store) (t last : ℕ) → All IsOneUnlink (tidying_rows store t last)
rows_unlink store t zero = All-nil IsOneUnlink
rows_unlink store t (suc last) = All-append IsOneUnlink (tidying_rows store t last) (tidying_row store t (suc last)) (rows_unlink store t last) (row_unlinks store t (suc last))

tables_unlink : (store : Store) (last : ℕ) → All IsOneUnlink (tidying_tables store last)
tables_unlink store zero = All-nil IsOneUnlink
tables_unlink store (suc last) =
    All-append IsOneUnlink (tidying_tables store last) (tidying_table store (suc last)) (tables_unlink store last) (rows_unlink store (suc last) (store.tables (suc last)).header.rows)

-- ---- one after the other

-- the number of whom it unlinks is known, and the cells stay sound
unlink_goes_on : (m : Machine) (life : Life) (restart : Restart) (step : Step) → IsCounted life → AreSound restart.short (last_store life).tables (last_store life).layouts
    → IsStep no_parts restart.short (last_store life) step → IsOneUnlink step → NamesNumbers m life restart
    → NamesNumbers m (with_step restart.short life step) restart
    × AreSound restart.short (last_store (with_step restart.short life step)).tables (last_store (with_step restart.short life step)).layouts
unlink_goes_on m life restart (Step.put t header slot) count sound may one names = absurd one
unlink_goes_on m life restart (Step.commit xn number) count sound may one names = absurd one
unlink_goes_on m life restart (Step.rollback xn) count sound may one names = absurd one
unlink_goes_on m life restart (Step.move t number log place) count sound may one names = absurd one
unlink_goes_on m life restart (Step.unlink t row from size) count sound may one names =
    let step = Step.unlink t row from size in
    let store = last_store life in
    let within = unlink_within (m.base + m.begun + 1) restart.short store t row from sound (subst (λ (c : ℕ). MayUnlink store t row from c) one may) names.to.versions in
    let writer : first_writer (versions_from store t row from size) ≤ m.base + m.begun =
    subst (λ (c : ℕ). first_writer (versions_from store t row from c) ≤ m.base + m.begun) (sym one) (omega (arith, within)) in (
      names_step no_parts m m life restart step count sound may one refl (omega arith) writer names,
      subst (λ (s : Store). AreSound restart.short s.tables s.layouts) (sym (last_grown life step (change_of restart.short store step) count))
          (unlink_stays_sound restart.short store.tables store.layouts t row from size sound may.used may.some may.within),
    )

unlinks_go_on : (m : Machine) (life : Life) (restart : Restart) (steps : List Step) → IsCounted life → AreSound restart.short (last_store life).tables (last_store life).layouts
    → AreSteps no_parts restart.short (last_store life) steps → All IsOneUnlink steps → NamesNumbers m life restart
    → NamesNumbers m (with_steps restart.short life steps) restart
unlinks_go_on m life restart [] count sound may one names = names
unlinks_go_on m life restart (step ∷ steps) count sound may one names =
    let change = change_of restart.short (last_store life) step in
    let next = unlink_goes_on m life restart step count sound may.0 (All-head IsOneUnlink step steps one) names in
    unlinks_go_on m (with_step restart.short life step) restart steps (grown_counted life step change count) next.1
    (subst (λ (s : Store). AreSteps no_parts restart.short s steps) (sym (last_grown life step change count)) may.1)
    (All-tail IsOneUnlink step steps one) next.0

-- ---- what was opened

begun_of_fresh : (tables short : ℕ) (rows : List Row) (before base : ℕ) → (fresh tables short rows before base).begun ≡ 0
unfolding fresh
begun_of_fresh tables short rows before base = refl

module _ (tables_are : SameTables) (layouts_are : SameLayouts) (more : MoreOpens) (tidies : TablesTidied) (files : Files) (read : Reading) (reads : IsReadIn files read) where
  abbrev restart : Restart
  restart = read.restart

  abbrev places : Places
  places = changes_over (file_places read.restart.short files) (drop (read.restart.redo - read.restart.first) read.changes)

  abbrev m : Machine
  m = machine_of (found_in read)

  -- what the headers don't count isn't read
  counted_opens : Opens restart.short restart.tables places (store_of read).tables (store_of read).layouts
  counted_opens = more restart.short restart.tables (store_of read) (counted_places read.found places) places
      (found_held restart.short restart.tables read.next places read.found read.layouts (done_by restart read.changes) reads.finds.opens) (counted_extend read.found places)

  base_is : m.base ≡ read.next - 1
  base_is = base_of_fresh restart.tables restart.short read.rows (commits_by restart read.changes) (read.next - 1)

  begun_is : m.begun ≡ 0
  begun_is = begun_of_fresh restart.tables restart.short read.rows (commits_by restart read.changes) (read.next - 1)

  upto_is : m.base + m.begun + 1 ≡ read.next
  upto_is = omega (arith, base_is, begun_is, next_from files read reads)

  read_names : NamesNumbers m (life_of read files) restart
  read_names = record {
    from = λ next unnamed.
        let here : IsUnnamed restart read.changes (store_of read).tables (store_of read).layouts next =
        subst (λ (s : Store). IsUnnamed restart read.changes s.tables s.layouts next) (found_store read files) unnamed in
        let least = reads.number.least next
        (unnamed_alike tables_are layouts_are restart.short restart.tables places (store_of read).tables read.found (store_of read).layouts read.layouts counted_opens reads.finds.opens restart read.changes next here) in
        omega (arith, least, base_is, next_from files read reads);
    to = subst (λ (n : ℕ). IsUnnamed restart read.changes (last_store (life_of read files)).tables (last_store (life_of read files)).layouts n) (sym upto_is)
        (subst (λ (s : Store). IsUnnamed restart read.changes s.tables s.layouts read.next) (sym (found_store read files))
        (unnamed_alike tables_are layouts_are restart.short restart.tables places read.found (store_of read).tables read.layouts (store_of read).layouts reads.finds.opens counted_opens restart read.changes
        read.next reads.number.unnamed));
  }

  sound : AreSound restart.short (last_store (life_of read files)).tables (last_store (life_of read files)).layouts
  sound = subst (λ (s : Store). AreSound restart.short s.tables s.layouts) (sym (found_store read files))
      (all_sound restart.short restart.tables places (store_of read).tables (store_of read).layouts counted_opens)

  pub opened_names : NamesNumbers m (tidied restart (life_of read files)) restart
  opened_names =
      let store = last_store (life_of read files) in
      unlinks_go_on m (life_of read files) restart (tidying_tables store restart.tables) (omega arith) sound
      ((tidies restart.short store restart.tables sound).follow no_parts) (tables_unlink store restart.tables) read_names
