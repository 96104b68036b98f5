-- What an opening found is a life without steps.
use Rattle.std.proofs.Common.{◌≡◌, ℕ, ◌+◌, ◌-◌, ◌<◌, ◌≤◌, ◌&&◌, not, Bool, cond, true, false, List, [], All, IsSome, Option, Some, None, drop, is_some, length, replicate, refl, sym, ap, subst, ◌∙◌, arith, inl, inr}
use Rattle.std.specs.Prelude.{nat_le, nat_lt, IsSomeAnd, unwrap_or}
use Rattle.std.proofs.lemmas.Bool.{and_from, and_parts, cases_Bool, false≢true, le-leb, leb-true, lt-ltb, le-ltb}
use Rattle.std.proofs.lemmas.List.{drop_all, length-drop, take_all}
use Rattle.px_cells.specs.Unused.{free_pointer, unused_slot}
use Rattle.px_cells.specs.declared.cell.CellKind.TheVariants as kind
use Rattle.px_cells.specs.declared.limits.TheConstants.{POINTER_SIZE}
use Rattle.px_cells.specs.declared.pointer.Pointer.{Pointer}
use Rattle.px_cells.specs.declared.slot.Slot.{Slot}
use Rattle.px_change.specs.declared.change.Change.{Change}
use Rattle.px_chain.specs.Sound.{IsPlace, IsSlot, IsUsedRow, Layout}
use Rattle.px_chain.specs.Table.{Table}
use Rattle.px_free.specs.Places.{rows_of}
use Rattle.px_history.specs.Written.{AreChangesOf}
use Rattle.px_history.specs.Base.{IsBase}
use Rattle.px_history.specs.Store.{Store}
use Rattle.px_laid.specs.Holds.{Holds}
use Rattle.px_laid.specs.Places.{Places, none_laid}
use Rattle.px_laid.proofs.Unused as unused
use Rattle.px_model.specs.declared.row.Row.{Row}
use Rattle.px_recs.specs.Place.{size_of}
use Rattle.px_recs.specs.Text.{PointerAt, SlotAt}
use Rattle.px_shown.specs.Parts.{Parts}
use Rattle.px_shown.specs.Shown.{Done, Shows}
use Rattle.px_shown.specs.Tables.{Layouts, Tables, slots_of_row}
use Rattle.px_opened.specs.Kept.{HoldsStore}
use Rattle.px_opened.specs.Opened.{IsSameTable, Opens, OpensTo, changes_over}
use Rattle.px_opened.proofs.One.{all_sound, same_row, same_sound}
use Rattle.px_life.specs.Extends.{Extends}
use Rattle.px_life.specs.Found.{AreBelow, counted_places, counted_table, counted_tables, is_counted, life_found, store_found}
use Rattle.px_life.specs.Laid.{cells_by, is_laid_by}
use Rattle.px_life.specs.Life.{AreRead, IsLife, Life, MayStand, between, committed_by}
use Rattle.px_life.proofs.Over.{here, here_some}

-- ---- what is counted

counts : (used n : ℕ) → 1 ≤ n → n ≤ used → (nat_le 1 n && nat_le n used) ≡ true
counts used n from to = and_from (nat_le 1 n) (nat_le n used) (le-leb 1 n from) (le-leb n used to)

is_place : (used n : ℕ) → (nat_le 1 n && nat_le n used) ≡ true → (1 ≤ n) × (n ≤ used)
is_place used n is = let both = and_parts (nat_le 1 n) (nat_le n used) is in (leb-true 1 n both.0, leb-true n used both.1)

slot_counted : (table : Table) (n : ℕ) → IsSlot table n → (counted_table table).slot n ≡ table.slot n
slot_counted table n is = ap (λ (b : Bool). cond b (table.slot n) unused_slot) (counts table.header.slots n is.0 is.1)

pointer_counted : (table : Table) (n : ℕ) → IsPlace (rows_of table.header) n → (counted_table table).pointer n ≡ table.pointer n
pointer_counted table n is = ap (λ (b : Bool). cond b (table.pointer n) free_pointer) (counts table.header.rows n is.0 is.1)

pub same_counted : (table : Table) → IsSameTable table (counted_table table)
same_counted table = record {
  header = refl;
  pointers = λ n is. sym (pointer_counted table n is);
  slots = λ n is. sym (slot_counted table n is);
}

-- ---- places hold what is counted

some_slot : (short : ℕ) (o : Option (List ℕ)) (zeros : List ℕ) (slot : Slot) → IsSomeAnd o (λ bytes. SlotAt short bytes slot) → SlotAt short (unwrap_or o zeros) slot
some_slot short None zeros slot at = elim at [ ]
some_slot short (Some bytes) zeros slot at = at

some_pointer : (o : Option (List ℕ)) (zeros : List ℕ) (pointer : Pointer) → IsSomeAnd o (λ bytes. PointerAt bytes pointer) → PointerAt (unwrap_or o zeros) pointer
some_pointer None zeros pointer at = elim at [ ]
some_pointer (Some bytes) zeros pointer at = at

is_some_and : {X : Type 0} (o : Option X) (P : X → Type 0) → IsSomeAnd o P → IsSome o
is_some_and None P at = elim at [ ]
is_some_and (Some x) P at = refl

module _ (short : ℕ) (places : Places) (found : Tables) (t : ℕ) (layout : Layout) (opens : OpensTo short places t (found t) layout) where
  table : Table
  table = found t

  slot_is : (n : ℕ) → SlotAt short (unwrap_or (counted_places found places kind.Slot t n) (replicate (size_of short kind.Slot) 0)) ((counted_table (found t)).slot n)
  slot_is n = elim (cases_Bool (is_counted (found t) kind.Slot n)) [
    | inl is ↦
        subst (λ (b : Bool). SlotAt short (unwrap_or (cond b (places kind.Slot t n) None) (replicate (size_of short kind.Slot) 0)) (cond b ((found t).slot n) unused_slot)) (sym is)
        (some_slot short (places kind.Slot t n) (replicate (size_of short kind.Slot) 0) ((found t).slot n) (opens.read.slots n (is_place (found t).header.slots n is)))
    | inr not ↦
        subst (λ (b : Bool). SlotAt short (unwrap_or (cond b (places kind.Slot t n) None) (replicate (size_of short kind.Slot) 0)) (cond b ((found t).slot n) unused_slot)) (sym not)
        (unused.never_used short)
  ]

  pointer_is : (n : ℕ) → PointerAt (unwrap_or (counted_places found places kind.Pointer t n) (replicate POINTER_SIZE 0)) ((counted_table (found t)).pointer n)
  pointer_is n = elim (cases_Bool (is_counted (found t) kind.Pointer n)) [
    | inl is ↦
        subst (λ (b : Bool). PointerAt (unwrap_or (cond b (places kind.Pointer t n) None) (replicate POINTER_SIZE 0)) (cond b ((found t).pointer n) free_pointer)) (sym is)
        (some_pointer (places kind.Pointer t n) (replicate POINTER_SIZE 0) ((found t).pointer n) (opens.read.pointers n (is_place (found t).header.rows n is)))
    | inr not ↦
        subst (λ (b : Bool). PointerAt (unwrap_or (cond b (places kind.Pointer t n) None) (replicate POINTER_SIZE 0)) (cond b ((found t).pointer n) free_pointer)) (sym not)
        unused.unused_pointer
  ]

  slots_laid : (n : ℕ) → 1 ≤ n → n ≤ (found t).header.slots → IsSome (counted_places found places kind.Slot t n)
  slots_laid n from to =
      subst (λ (b : Bool). IsSome (cond b (places kind.Slot t n) None)) (sym (counts (found t).header.slots n from to))
      (is_some_and (places kind.Slot t n) (λ bytes. SlotAt short bytes ((found t).slot n)) (opens.read.slots n (from, to)))

  pointers_laid : (n : ℕ) → 1 ≤ n → n ≤ (found t).header.rows → IsSome (counted_places found places kind.Pointer t n)
  pointers_laid n from to =
      subst (λ (b : Bool). IsSome (cond b (places kind.Pointer t n) None)) (sym (counts (found t).header.rows n from to))
      (is_some_and (places kind.Pointer t n) (λ bytes. PointerAt bytes ((found t).pointer n)) (opens.read.pointers n (from, to)))

  pub counted_hold : Holds short t (counted_table (found t)) layout (counted_places found places)
  counted_hold = record {
    sound = same_sound short (found t) (counted_table (found t)) layout opens.sound (same_counted (found t));
    says = record { header = opens.read.header; slot = slot_is; pointer = pointer_is };
    counts = record { slots = slots_laid; pointers = pointers_laid };
  }

pub found_held : (short tables next : ℕ) (places : Places) (found : Tables) (layouts : Layouts) (done : Done) → Opens short tables places found layouts
    → HoldsStore short tables (store_found next found layouts done) (counted_places found places)
found_held short tables next places found layouts done opens = record {
  each = λ t is. counted_hold short places found t (layouts t) (opens.each t is);
  others = λ t not. record { header = (opens.others t not).header; lists = (opens.others t not).lists };
}

-- what is counted lies there
counted_some : (b : Bool) (o : Option (List ℕ)) (bytes : List ℕ) → cond b o None ≡ Some bytes → o ≡ Some bytes
counted_some true o bytes is = is
counted_some false o bytes is = elim (false≢true (ap is_some is)) [ ]

pub counted_extend : (found : Tables) (places : Places) → Extends (counted_places found places) places
counted_extend found places = record {
  laid = λ what table number bytes is. counted_some (is_counted (found table) what number) (places what table number) bytes is;
  headers = λ table. refl;
}

-- a number below the next one is done as it was found
pub done_cut : (next : ℕ) (done : Done) (xn : ℕ) → xn < next → done xn ≡ (nat_lt xn next && done xn)
done_cut next done xn low = ap (λ (b : Bool). b && done xn) (sym (lt-ltb xn next low))

-- what is so of the slots in the chains is so of what is counted
pub counted_slots : (P : Slot → Type 0) (short tables : ℕ) (places : Places) (found : Tables) (layouts : Layouts) → Opens short tables places found layouts
    → ((t row : ℕ) → IsUsedRow (found t) row → All P (slots_of_row (found t) (layouts t) row))
    → (t row : ℕ) → IsUsedRow (counted_table (found t)) row → All P (slots_of_row (counted_table (found t)) (layouts t) row)
counted_slots P short tables places found layouts opens each t row used =
    let row_is = same_row short (found t) (counted_table (found t)) (layouts t) (layouts t) row (all_sound short tables places found layouts opens t) (same_counted (found t))
    (record { chains = λ r. refl; free_slots = refl; free_rows = refl }) used in
    subst (All P) row_is.slots (each t row row_is.used)

-- ---- a base

-- what is said of the laws below: cells show what those that places open to show, and who is done is asked of numbers in chains alone
abbrev pub OpensShow : Type 0
OpensShow = (parts : Parts) (short tables : ℕ) (places : Places) (a b : Tables) (of_a of_b : Layouts) (done : Done) (rows : List Row)
    → Opens short tables places a of_a → Opens short tables places b of_b → Shows parts a of_a done rows → Shows parts b of_b done rows

abbrev pub NumbersAreAsked : Type 0
NumbersAreAsked = (parts : Parts) (tables : Tables) (layouts : Layouts) (done other : Done) (rows : List Row)
    → ((t row : ℕ) → IsUsedRow (tables t) row → All (λ slot. done slot.xn ≡ other slot.xn) (slots_of_row (tables t) (layouts t) row))
    → Shows parts tables layouts done rows → Shows parts tables layouts other rows

abbrev pub HeldOpens : Type 0
HeldOpens = (short tables : ℕ) (store : Store) (below above : Places) → HoldsStore short tables store below → Extends below above
    → Opens short tables above store.tables store.layouts

module _ (show : OpensShow) (ask : NumbersAreAsked) (open_held : HeldOpens) (parts : Parts) (short tables next : ℕ) (places : Places) (found : Tables) (layouts : Layouts) (done : Done)
    (rows : List Row) (opens : Opens short tables places found layouts) (shows : Shows parts found layouts done rows) (below : AreBelow next found layouts) where
  base : Store
  base = store_found next found layouts done

  again : Opens short tables places (counted_tables found) layouts
  again = open_held short tables (store_found next found layouts done) (counted_places found places) places (found_held short tables next places found layouts done opens) (counted_extend found places)

  counted_below : AreBelow next (counted_tables found) layouts
  counted_below = counted_slots (λ (slot : Slot). slot.xn < next) short tables places found layouts opens below

  pub found_is_base : IsBase parts short next rows (store_found next found layouts done)
  found_is_base = record {
    sound = all_sound short tables places (counted_tables found) layouts again;
    shows = ask parts (counted_tables found) layouts done (λ xn. nat_lt xn next && done xn) rows
        (λ t row used k d within. done_cut next done _ (counted_below t row used k d within))
        (show parts short tables places found (counted_tables found) layouts layouts done rows opens again shows);
    numbers = counted_below;
    ended = λ xn low. ap (λ (b : Bool). b && not (done xn)) (lt-ltb xn next low) ∙ ap not (done_cut next done xn low);
    later = λ xn high. record {
      undone = ap (λ (b : Bool). b && done xn) (le-ltb xn next high);
      not_over = ap (λ (b : Bool). b && not (done xn)) (le-ltb xn next high);
    };
  }

-- ---- a life

module _ (next first redo : ℕ) (changes : List Change) (files : Places) (found : Tables) (layouts : Layouts) (done : Done) (from : first ≤ redo) (to : redo ≤ first + length changes) where
  life : Life
  life = life_found next first redo changes files found layouts done

  log : List Change
  log = drop (redo - first) changes

  -- what was laid over the files is all from `redo` on
  log_is : between (life_found next first redo changes files found layouts done) redo (first + length changes) ≡ drop (redo - first) changes
  log_is = take_all (first + length changes - redo) (drop (redo - first) changes) (omega (arith, length-drop (redo - first) changes, from, to))

  found_is_read : AreRead (life_found next first redo changes files found layouts done)
  found_is_read = record {
    each = λ what table number bytes lies laid.
        let its : changes_over files (drop (redo - first) changes) what table number ≡ Some bytes =
        counted_some (is_counted (found table) what number) (changes_over files (drop (redo - first) changes) what table number) bytes lies in
        let by_log : is_laid_by (cells_by (drop (redo - first) changes)) what table number ≡ true =
        subst (λ (l : List Change). is_laid_by (cells_by l) what table number ≡ true) log_is laid in
        subst (λ (l : List Change). changes_over none_laid l what table number ≡ Some bytes) (sym log_is)
        (sym (here files none_laid (drop (redo - first) changes) what table number by_log) ∙ its);
    headers = λ table laid.
        let by_log : is_laid_by (cells_by (drop (redo - first) changes)) kind.Header table 0 ≡ true =
        subst (λ (l : List Change). is_laid_by (cells_by l) kind.Header table 0 ≡ true) log_is laid in
        not_none (changes_over files (drop (redo - first) changes) kind.Header table 0) (here_some files (drop (redo - first) changes) kind.Header table 0 by_log);
  }
    where
      not_none : (o : Option (List ℕ)) → (o ≡ None → ⊥) → IsSome o
      not_none None not = elim (not refl) [ ]
      not_none (Some x) not = refl

pub life_begins : OpensShow → NumbersAreAsked → HeldOpens → (parts : Parts) (short tables next first redo : ℕ) (rows : List Row) (changes : List Change) (files : Places) (found : Tables) (layouts : Layouts)
    (done : Done) → first ≤ redo → redo ≤ first + length changes → MayStand tables first short changes → All (λ xn. xn < next) (committed_by changes)
    → Opens short tables (changes_over files (drop (redo - first) changes)) found layouts → Shows parts found layouts done rows → AreBelow next found layouts
    → IsLife parts short tables next rows (life_found next first redo changes files found layouts done)
life_begins show ask open_held parts short tables next first redo rows changes files found layouts done from to stand earlier opens shows below = record {
  redo_from = from;
  start_from = to;
  count = omega arith;
  base = found_is_base show ask open_held parts short tables next (changes_over files (drop (redo - first) changes)) found layouts done rows opens shows below;
  held = found_held short tables next (changes_over files (drop (redo - first) changes)) found layouts done opens;
  read = found_is_read next first redo changes files found layouts done from to;
  follow = tt;
  alone = tt;
  written = tt;
  earlier = subst (λ (l : List Change). All (λ xn. xn < next) (committed_by l)) (sym (take_all (first + length changes - first) changes (omega arith))) earlier;
  stand = stand;
  are = subst (λ (l : List Change). AreChangesOf short (store_found next found layouts done) [] l) (sym (drop_all (first + length changes - first) changes (omega arith))) tt;
}
