-- Files stand for one store, in which one thing is found.
use Rattle.std.proofs.Common.{◌≡◌, ℕ, ◌+◌, ◌-◌, ◌<◌, ◌≤◌, not, ◌&&◌, Bool, cond, true, false, List, [], ◌∷◌, All, drop, length, map, refl, sym, ap, subst, ◌∙◌, arith, inl, inr}
use Rattle.std.specs.Prelude.{nat_le, nat_lt}
use Rattle.std.proofs.Math.Path.{fun_ext}
use Rattle.std.proofs.lemmas.Bool.{and_parts, leb-true}
use Rattle.px_beginning.specs.Found.{Reading}
use Rattle.px_beginning.specs.Numbers.{IsUnnamed}
use Rattle.px_cells.specs.Unused.{free_pointer, unused_slot}
use Rattle.px_cells.specs.declared.header.Header.{Header}
use Rattle.px_cells.specs.declared.pointer.Pointer.{Pointer}
use Rattle.px_cells.specs.declared.slot.Slot.{Slot}
use Rattle.px_chain.specs.Sound.{Layout}
use Rattle.px_chain.specs.Table.{Table}
use Rattle.px_change.proofs.Changes.{one_change}
use Rattle.px_change.specs.Grammar.{may_hold}
use Rattle.px_change.specs.Text.{change_text}
use Rattle.px_change.specs.declared.change.Change.{Change}
use Rattle.px_history.specs.Store.{Store}
use Rattle.px_laid.specs.Places.{Places}
use Rattle.px_life.specs.Found.{counted_table, counted_tables}
use Rattle.px_life.specs.Front.{commits_by, done_by}
use Rattle.px_life.specs.Life.{MayStand}
use Rattle.px_log.proofs.FramesOfChanges.{may_be_written}
use Rattle.px_model.specs.declared.row.Row.{Row}
use Rattle.px_opened.proofs.One.{IsSameRow, all_sound, same_row}
use Rattle.px_opened.specs.Opened.{IsSameLayout, IsSameTable, Opens, changes_over}
use Rattle.px_filed.specs.Filed.{file_places}
use Rattle.px_reached.specs.Stands.{Finds}
use Rattle.px_restart.proofs.Restarts.{one_restart}
use Rattle.px_restart.specs.Restart.{IsPicked}
use Rattle.px_restart.specs.declared.restart.Restart.{Restart}
use Rattle.px_shown.specs.Parts.{Parts, no_parts}
use Rattle.px_shown.specs.Shown.{Done, Shows}
use Rattle.px_shown.specs.Tables.{Layouts, Tables}
use Rattle.px_site.specs.declared.name.FileName.TheVariants.{Restart as RestartFile}
use Rattle.px_standing.specs.Files.{Files}
use Rattle.px_tidy.specs.Steps.{tidying_tables}
use Rattle.px_cell_standing.specs.Found.{Found, IsFound, IsReadIn, found_in}
use Rattle.px_cell_standing.specs.Standing.{StandsFor}

-- ---- one restart, and one list of changes

pub one_picked : (a b : List ℕ) (r s : Restart) → IsPicked a b r → IsPicked a b s → r ≡ s
one_picked a b r s one two = elim one as (λ _. r ≡ s) [
  | inl r_in_a ↦ elim two as (λ _. r ≡ s) [
    | inl s_in_a ↦ one_restart a r s r_in_a.0 s_in_a.0
    | inr s_in_b ↦ absurd (omega (arith, r_in_a.1 s s_in_b.0, s_in_b.1 r r_in_a.0))
  ]
  | inr r_in_b ↦ elim two as (λ _. r ≡ s) [
    | inl s_in_a ↦ absurd (omega (arith, s_in_a.1 r r_in_b.0, r_in_b.1 s s_in_a.0))
    | inr s_in_b ↦ one_restart b r s r_in_b.0 s_in_b.0
  ]
]

first_text : (x y : List ℕ) (xs ys : List (List ℕ)) → x ∷ xs ≡ y ∷ ys → x ≡ y
first_text x y xs ys e = cc

one_held : (tables number short : ℕ) (x y : Change) → may_hold tables number short x ≡ true → may_hold tables number short y ≡ true → change_text x ≡ change_text y → x ≡ y
one_held tables number short x y x_held y_held same =
    one_change short short (change_text x) x y
    (record { grammar = may_be_written tables number short x x_held; text = refl })
    (record { grammar = may_be_written tables number short y y_held; text = same })

pub changes_alike : (tables number short : ℕ) (xs ys : List Change) → MayStand tables number short xs → MayStand tables number short ys → map change_text xs ≡ map change_text ys → xs ≡ ys
changes_alike tables number short [] [] xs_stand ys_stand same = refl
changes_alike tables number short [] (y ∷ ys) xs_stand ys_stand same = absurd (cc)
changes_alike tables number short (x ∷ xs) [] xs_stand ys_stand same = absurd (cc)
changes_alike tables number short (x ∷ xs) (y ∷ ys) xs_stand ys_stand same =
    let one : x ≡ y = one_held tables number short x y xs_stand.0 ys_stand.0 (first_text (change_text x) (change_text y) (map change_text xs) (map change_text ys) same) in
    let rest : xs ≡ ys = changes_alike tables (number + 1) short xs ys xs_stand.1 ys_stand.1 (ap (λ (texts : List (List ℕ)). drop 1 texts) same) in
    cc

-- ---- one table, as far as its header counts

is_place : (used n : ℕ) → (nat_le 1 n && nat_le n used) ≡ true → (1 ≤ n) × (n ≤ used)
is_place used n is = let both = and_parts (nat_le 1 n) (nat_le n used) is in (leb-true 1 n both.0, leb-true n used both.1)

where_so : {X : Type 0} (b : Bool) (x y other : X) → (b ≡ true → x ≡ y) → cond b x other ≡ cond b y other
where_so true x y other same = same refl
where_so false x y other same = refl

slots_alike : (a b : Table) → IsSameTable a b → (n : ℕ) → (counted_table a).slot n ≡ (counted_table b).slot n
slots_alike a b same n =
    where_so (nat_le 1 n && nat_le n a.header.slots) (a.slot n) (b.slot n) unused_slot (λ is. same.slots n (is_place a.header.slots n is))
    ∙ ap (λ (h : Header). cond (nat_le 1 n && nat_le n h.slots) (b.slot n) unused_slot) same.header

pointers_alike : (a b : Table) → IsSameTable a b → (n : ℕ) → (counted_table a).pointer n ≡ (counted_table b).pointer n
pointers_alike a b same n =
    where_so (nat_le 1 n && nat_le n a.header.rows) (a.pointer n) (b.pointer n) free_pointer (λ is. same.pointers n (is_place a.header.rows n is))
    ∙ ap (λ (h : Header). cond (nat_le 1 n && nat_le n h.rows) (b.pointer n) free_pointer) same.header

abbrev table_with : Header → (ℕ → Slot) → (ℕ → Pointer) → Table
table_with header slot pointer = record { header = header; slot = slot; pointer = pointer }

table_alike : (a b : Table) → IsSameTable a b → counted_table a ≡ counted_table b
table_alike a b same =
    ap (λ (h : Header). table_with h (counted_table a).slot (counted_table a).pointer) same.header
    ∙ ap (λ (s : ℕ → Slot). table_with b.header s (counted_table a).pointer) (fun_ext (slots_alike a b same))
    ∙ ap (λ (p : ℕ → Pointer). table_with b.header (counted_table b).slot p) (fun_ext (pointers_alike a b same))

abbrev layout_with : (ℕ → List ℕ) → (slots rows : List ℕ) → Layout
layout_with chain slots rows = record { chain = chain; free_slots = slots; free_rows = rows }

layout_alike : (a b : Layout) → IsSameLayout a b → a ≡ b
layout_alike a b same =
    ap (λ (c : ℕ → List ℕ). layout_with c a.free_slots a.free_rows) (fun_ext same.chains)
    ∙ ap (λ (s : List ℕ). layout_with b.chain s a.free_rows) same.free_slots
    ∙ ap (λ (r : List ℕ). layout_with b.chain b.free_slots r) same.free_rows

-- ---- what is used of the laws below

abbrev pub SameTables : Type 0
SameTables = (short tables : ℕ) (places : Places) (a b : Tables) (of_a of_b : Layouts) (t : ℕ)
    → Opens short tables places a of_a → Opens short tables places b of_b → IsSameTable (a t) (b t)

abbrev pub SameLayouts : Type 0
SameLayouts = (short tables : ℕ) (places : Places) (a b : Tables) (of_a of_b : Layouts) (t : ℕ)
    → Opens short tables places a of_a → Opens short tables places b of_b → IsSameLayout (of_a t) (of_b t)

abbrev pub SameShown : Type 0
SameShown = (parts : Parts) (short tables : ℕ) (places : Places) (a b : Tables) (of_a of_b : Layouts) (done : Done) (rows : List Row)
    → Opens short tables places a of_a → Opens short tables places b of_b → Shows parts a of_a done rows → Shows parts b of_b done rows

abbrev pub OneShown : Type 0
OneShown = (parts : Parts) (tables : Tables) (layouts : Layouts) (done : Done) (a b : List Row)
    → Shows parts tables layouts done a → Shows parts tables layouts done b → a ≡ b

-- ---- one store

-- what another reading finds, of the restart and the changes of this one
moved : (files : Files) (r s : Restart) (xs ys : List Change) (found : Tables) (layouts : Layouts) → r ≡ s → xs ≡ ys → Finds files s ys found layouts → Finds files r xs found layouts
moved files r s xs ys found layouts same alike finds =
    subst (λ (restart : Restart). Finds files restart xs found layouts) (sym same) (subst (λ (changes : List Change). Finds files s changes found layouts) (sym alike) finds)

module _ (files : Files) (r s : Restart) (xs ys : List Change) (a b : Tables) (of_a of_b : Layouts) (in_a : Finds files r xs a of_a) (in_b : Finds files s ys b of_b) where
  pub restarts_alike : r ≡ s
  restarts_alike = one_picked (files (RestartFile 0)) (files (RestartFile 1)) r s in_a.picked in_b.picked

  its_finds : Finds files r ys b of_b
  its_finds = moved files r s ys ys b of_b restarts_alike refl in_b

  pub changes_read : xs ≡ ys
  changes_read = changes_alike r.tables r.first r.short xs ys in_a.held its_finds.held (sym in_a.scanned ∙ its_finds.scanned)

  pub both_find : Finds files r xs b of_b
  both_find = moved files r s xs ys b of_b restarts_alike changes_read in_b

-- two openings of the same places
module _ (tables_are : SameTables) (layouts_are : SameLayouts) (short tables : ℕ) (places : Places) (a b : Tables) (of_a of_b : Layouts)
    (opens_a : Opens short tables places a of_a) (opens_b : Opens short tables places b of_b) where
  pub counted_alike : counted_tables a ≡ counted_tables b
  counted_alike = fun_ext (λ t. table_alike (a t) (b t) (tables_are short tables places a b of_a of_b t opens_a opens_b))

  pub layouts_alike : of_a ≡ of_b
  layouts_alike = fun_ext (λ t. layout_alike (of_a t) (of_b t) (layouts_are short tables places a b of_a of_b t opens_a opens_b))

  -- what no number of the one is past, none of the other is
  pub unnamed_alike : (restart : Restart) (changes : List Change) (next : ℕ) → IsUnnamed restart changes a of_a next → IsUnnamed restart changes b of_b next
  unnamed_alike restart changes next unnamed = record {
    restart_is = unnamed.restart_is;
    frames = unnamed.frames;
    versions = λ t row used.
        let its : IsSameRow (a t) (b t) (of_a t) (of_b t) row =
        same_row short (a t) (b t) (of_a t) (of_b t) row (all_sound short tables places a of_a opens_a t)
        (tables_are short tables places a b of_a of_b t opens_a opens_b) (layouts_are short tables places a b of_a of_b t opens_a opens_b) used in
        subst (All (λ (slot : Slot). slot.xn < next)) its.slots (unnamed.versions t row its.used);
  }

-- ---- what stands

pub one_store : SameShown → OneShown → (files : Files) (count counted : ℕ) (rows others : List Row) → StandsFor files count rows → StandsFor files counted others
    → (count ≡ counted) × (rows ≡ others)
one_store shown one files count counted rows others x y =
    let same = restarts_alike files x.restart y.restart x.changes y.changes x.found y.found x.layouts y.layouts x.finds y.finds in
    let alike = changes_read files x.restart y.restart x.changes y.changes x.found y.found x.layouts y.layouts x.finds y.finds in
    let finds = both_find files x.restart y.restart x.changes y.changes x.found y.found x.layouts y.layouts x.finds y.finds in
    let shows : Shows no_parts y.found y.layouts (done_by x.restart x.changes) others =
    subst (λ (restart : Restart). Shows no_parts y.found y.layouts (done_by restart x.changes) others) (sym same)
    (subst (λ (changes : List Change). Shows no_parts y.found y.layouts (done_by y.restart changes) others) (sym alike) y.shows) in (
      x.commits_are ∙ ap (λ (restart : Restart). commits_by restart x.changes) same ∙ ap (commits_by y.restart) alike ∙ sym y.commits_are,
      one no_parts x.found x.layouts (done_by x.restart x.changes) rows others x.shows
          (shown no_parts x.restart.short x.restart.tables (changes_over (file_places x.restart.short files) (drop (x.restart.redo - x.restart.first) x.changes)) y.found x.found y.layouts x.layouts
          (done_by x.restart x.changes) others finds.opens x.finds.opens shows),
    )

-- ---- what is found

abbrev found_of : Restart → List Change → List Row → (next : ℕ) → Tables → Layouts → Found
found_of restart changes rows next found layouts =
    let store : Store = record {
      tables = found;
      layouts = layouts;
      done = λ xn. nat_lt xn next && done_by restart changes xn;
      over = λ xn. nat_lt xn next && not (done_by restart changes xn);
    } in
    record {
      tables = restart.tables;
      short = restart.short;
      rows = rows;
      commits = commits_by restart changes;
      base = next - 1;
      redone = restart.first + length changes - restart.redo;
      frames = restart.first + length changes + length (tidying_tables store restart.tables);
    }

found_alike : (r s : Restart) (xs ys : List Change) (rows others : List Row) (next number : ℕ) (a b : Tables) (of_a of_b : Layouts)
    → r ≡ s → xs ≡ ys → rows ≡ others → next ≡ number → a ≡ b → of_a ≡ of_b → found_of r xs rows next a of_a ≡ found_of s ys others number b of_b
found_alike r s xs ys rows others next number a b of_a of_b e1 e2 e3 e4 e5 e6 =
    ap (λ (x : Restart). found_of x xs rows next a of_a) e1
    ∙ ap (λ (x : List Change). found_of s x rows next a of_a) e2
    ∙ ap (λ (x : List Row). found_of s ys x next a of_a) e3
    ∙ ap (λ (x : ℕ). found_of s ys others x a of_a) e4
    ∙ ap (λ (x : Tables). found_of s ys others number x of_a) e5
    ∙ ap (λ (x : Layouts). found_of s ys others number b x) e6

module _ (tables_are : SameTables) (layouts_are : SameLayouts) (shown : SameShown) (one : OneShown) (files : Files) (x y : Reading) (in_x : IsReadIn files x) (in_y : IsReadIn files y) where
  same : x.restart ≡ y.restart
  same = restarts_alike files x.restart y.restart x.changes y.changes x.found y.found x.layouts y.layouts in_x.finds in_y.finds

  alike : x.changes ≡ y.changes
  alike = changes_read files x.restart y.restart x.changes y.changes x.found y.found x.layouts y.layouts in_x.finds in_y.finds

  its : Finds files x.restart x.changes y.found y.layouts
  its = both_find files x.restart y.restart x.changes y.changes x.found y.found x.layouts y.layouts in_x.finds in_y.finds

  abbrev short : ℕ
  short = x.restart.short

  abbrev tables : ℕ
  tables = x.restart.tables

  abbrev places : Places
  places = changes_over (file_places x.restart.short files) (drop (x.restart.redo - x.restart.first) x.changes)

  stands_x : StandsFor files (commits_by x.restart x.changes) x.rows
  stands_x = record { restart = x.restart; changes = x.changes; found = x.found; layouts = x.layouts; finds = in_x.finds; shows = in_x.shows; commits_are = refl }

  stands_y : StandsFor files (commits_by y.restart y.changes) y.rows
  stands_y = record { restart = y.restart; changes = y.changes; found = y.found; layouts = y.layouts; finds = in_y.finds; shows = in_y.shows; commits_are = refl }

  rows_alike : x.rows ≡ y.rows
  rows_alike = (one_store shown one files (commits_by x.restart x.changes) (commits_by y.restart y.changes) x.rows y.rows stands_x stands_y).1

  -- none of the other's numbers is past its next one, read as those of this one
  to_y : (next : ℕ) → IsUnnamed x.restart x.changes x.found x.layouts next → IsUnnamed y.restart y.changes y.found y.layouts next
  to_y next unnamed =
      subst (λ (restart : Restart). IsUnnamed restart y.changes y.found y.layouts next) same
      (subst (λ (changes : List Change). IsUnnamed x.restart changes y.found y.layouts next) alike
      (unnamed_alike tables_are layouts_are short tables places x.found y.found x.layouts y.layouts in_x.finds.opens its.opens x.restart x.changes next unnamed))

  to_x : (next : ℕ) → IsUnnamed y.restart y.changes y.found y.layouts next → IsUnnamed x.restart x.changes x.found x.layouts next
  to_x next unnamed =
      unnamed_alike tables_are layouts_are short tables places y.found x.found y.layouts x.layouts its.opens in_x.finds.opens x.restart x.changes next
      (subst (λ (restart : Restart). IsUnnamed restart x.changes y.found y.layouts next) (sym same)
      (subst (λ (changes : List Change). IsUnnamed y.restart changes y.found y.layouts next) (sym alike) unnamed))

  next_alike : x.next ≡ y.next
  next_alike = omega (arith, in_x.number.least y.next (to_x y.next in_y.number.unnamed), in_y.number.least x.next (to_y x.next in_x.number.unnamed))

  pub one_read : found_in x ≡ found_in y
  one_read = found_alike x.restart y.restart x.changes y.changes x.rows y.rows x.next y.next (counted_tables x.found) (counted_tables y.found) x.layouts y.layouts
      same alike rows_alike next_alike
      (counted_alike tables_are layouts_are short tables places x.found y.found x.layouts y.layouts in_x.finds.opens its.opens)
      (layouts_alike tables_are layouts_are short tables places x.found y.found x.layouts y.layouts in_x.finds.opens its.opens)

pub one_found : SameTables → SameLayouts → SameShown → OneShown → (files : Files) (found other : Found) → IsFound found files → IsFound other files → found ≡ other
one_found tables_are layouts_are shown one files found other is is_other =
    is.is ∙ one_read tables_are layouts_are shown one files is.read is_other.read is.reads is_other.reads ∙ sym is_other.is
