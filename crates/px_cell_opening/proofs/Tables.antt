-- The tables that were found are a store's.
use Rattle.std.proofs.Common.{◌≡◌, ℕ, ◌^◌, ◌≤◌, ◌&&◌, Bool, cond, true, false, List, length, refl, sym, ap, subst, ◌∙◌, arith, inl, inr}
use Rattle.std.specs.Prelude.{nat_le}
use Rattle.std.proofs.Math.Path.{fun_ext}
use Rattle.std.proofs.lemmas.Bool.{and_from, false≢true, le-leb}
use Rattle.px_beginning.specs.Numbers.{IsNext}
use Rattle.px_cells.specs.Form.{is_short}
use Rattle.px_cells.specs.Unused.{free_pointer, unused_slot}
use Rattle.px_chain.specs.Table.{Table}
use Rattle.px_change.specs.declared.change.Change.{Change}
use Rattle.px_held.proofs.Serving.{anywhere}
use Rattle.px_held.specs.Serving.{HasSameForm, HeldTables, Serves}
use Rattle.px_history.specs.Fitting.{PlacesFit}
use Rattle.px_history.specs.Store.{Store}
use Rattle.px_laid.specs.Places.{none_laid}
use Rattle.px_life.specs.Found.{counted_table, counted_tables}
use Rattle.px_life.specs.Front.{AreStored}
use Rattle.px_log.specs.Log.{Log}
use Rattle.px_log.specs.MayStand.{MayStand}
use Rattle.px_log.specs.Scanned.{IsScan, log_of}
use Rattle.px_log.specs.declared.reader.LogScan.{LogScan}
use Rattle.px_model.specs.declared.limits.TheConstants.{STORED_NUMBERS_END}
use Rattle.px_opened.proofs.Numbers.{table_or_not}
use Rattle.px_opened.proofs.One.{all_sound}
use Rattle.px_opened.specs.Opened.{IsCounted, Opens, changes_over, tables_of}
use Rattle.px_restart.specs.Restart.{CanRestart}
use Rattle.px_restart.specs.declared.restart.Restart.{Restart}
use Rattle.px_shown.specs.Tables.{AreSound, Layouts, Tables}
use Rattle.px_site.specs.State.{State}
use Rattle.px_tables.specs.Held.{Held}
use Rattle.px_tidying.specs.Opening.{HasStore, opening}
use Rattle.px_cell_opening.specs.Found.{HasFound, HoldsTables}
use Rattle.px_cell_opening.specs.Opened.{store_of}
use Rattle.px_cell_opening.specs.declared.opening.Found.{Found}

-- ---- what the headers don't count

counted_or : {X : Type 0} (from to : Bool) (x d : X) → ((from ≡ true → to ≡ true → ⊥) → x ≡ d) → cond (from && to) x d ≡ x
counted_or true true x d other = refl
counted_or true false x d other = sym (other (λ a b. false≢true b))
counted_or false to x d other = sym (other (λ a b. false≢true a))

counted_is : (table : Table) → IsCounted table → counted_table table ≡ table
counted_is table counted = λ i. record {
  header = table.header;
  slot = λ n. slots n i;
  pointer = λ n. pointers n i;
}
  where
    slots : (n : ℕ) → (counted_table table).slot n ≡ table.slot n
    slots n = counted_or (nat_le 1 n) (nat_le n table.header.slots) (table.slot n) unused_slot
        (λ out. counted.slots n (λ is. out (le-leb 1 n is.0) (le-leb n table.header.slots is.1)))

    pointers : (n : ℕ) → (counted_table table).pointer n ≡ table.pointer n
    pointers n = counted_or (nat_le 1 n) (nat_le n table.header.rows) (table.pointer n) free_pointer
        (λ out. counted.pointers n (λ is. out (le-leb 1 n is.0) (le-leb n table.header.rows is.1)))

pub all_counted : (found : Tables) → ((t : ℕ) → IsCounted (found t)) → counted_tables found ≡ found
all_counted found counted = fun_ext (λ t. counted_is (found t) (counted t))

-- ---- what is held

pub tables_held : (short tables : ℕ) (changes : List Change) (opened : List Held) (held : HeldTables)
    → ((layouts : Layouts) × Opens short tables (changes_over none_laid changes) (tables_of opened) layouts)
    → ((t : ℕ) → IsCounted (tables_of opened t)) → length opened ≡ tables → held ≡ record { short = short; tables = opened }
    → ((site : State) (store : Store) → ((t : ℕ) → tables_of opened t ≡ store.tables t) → AreSound short store.tables store.layouts → Serves site held store)
    → HoldsTables short tables changes held
tables_held short tables changes opened held opens counted count is serves = record {
  found = tables_of opened;
  layouts = opens.0;
  opens = opens.1;
  counted = counted;
  serves = λ site store its_tables its_layouts. serves site store (λ t. sym (ap (λ (f : Tables). f t) its_tables))
      (sound store its_tables its_layouts);
  its_short = ap (λ (h : HeldTables). h.short) is;
  its_tables = ap (λ (h : HeldTables). length h.tables) is ∙ count;
}
  where
    sound : (store : Store) → store.tables ≡ tables_of opened → store.layouts ≡ opens.0 → AreSound short store.tables store.layouts
    sound store its_tables its_layouts =
        subst (λ (l : Layouts). AreSound short store.tables l) (sym its_layouts)
        (subst (λ (f : Tables). AreSound short f opens.0) (sym its_tables) (all_sound short tables (changes_over none_laid changes) (tables_of opened) opens.0 opens.1))

-- a call that only reads leaves what is held
pub still_held : (short tables : ℕ) (changes : List Change) (before now : HeldTables) (old new : State) → HasSameForm before now
    → ((store : Store) → Serves old before store → Serves new now store)
    → HoldsTables short tables changes before → HoldsTables short tables changes now
still_held short tables changes before now old new form keeps holds = record {
  found = holds.found;
  layouts = holds.layouts;
  opens = holds.opens;
  counted = holds.counted;
  serves = λ site store its_tables its_layouts. anywhere new site now store (keeps store (holds.serves old store its_tables its_layouts));
  its_short = form.short ∙ holds.its_short;
  its_tables = form.count ∙ holds.its_tables;
}

-- ---- what was found

abbrev any_store : Tables → Layouts → Store
any_store found layouts = record { tables = found; layouts = layouts; done = λ xn. false; over = λ xn. false }

pub found_is : (restart : Restart) (scan : LogScan) (slice other : List Change) (before : HeldTables) (found : Found) (old new : State) → IsScan restart scan
    → found.changes ≡ scan.changes → found.log ≡ log_of restart scan → slice ≡ scan.changes → other ≡ scan.changes
    → HoldsTables restart.short restart.tables slice before → HasSameForm before found.held
    → ((store : Store) → Serves old before store → Serves new found.held store)
    → ((store : Store) → Serves old before store → IsNext restart other store.tables store.layouts found.next)
    → ((store : Store) → Serves old before store → AreStored store.tables store.layouts) → found.next ≤ STORED_NUMBERS_END → HasFound restart found
unfolding still_held
found_is restart scan slice other before found old new is changes_are log_is slice_is other_is holds form keeps next stored end =
    let held : HoldsTables restart.short restart.tables found.changes before =
    subst (λ (l : List Change). HoldsTables restart.short restart.tables l before) (slice_is ∙ sym changes_are) holds in
    let store = any_store held.found held.layouts in
    let serves = held.serves old store refl refl in
    record {
      holds = still_held restart.short restart.tables found.changes before found.held old new form keeps held;
      next = subst (λ (l : List Change). IsNext restart l held.found held.layouts found.next) (other_is ∙ sym changes_are) (next store serves);
      stored = stored store serves;
      end = end;
      stand = subst (MayStand restart.tables 0 restart.short) (sym changes_are) is.held;
      frames = ap (λ (l : Log). l.frames) log_is ∙ is.count ∙ ap (λ (l : List Change). length l) (sym changes_are);
      room = subst (λ (l : Log). l.frames ≤ 2 ^ 48) (sym log_is) is.below;
      reached = subst (λ (l : Log). restart.durable ≤ l.frames) (sym log_is) is.reached;
      durable = subst (λ (l : Log). l.durable ≡ l.frames) (sym log_is) refl;
      log_tables = ap (λ (l : Log). l.tables) log_is;
      log_short = ap (λ (l : Log). l.short) log_is;
    }

-- ---- the store

module _ (restart : Restart) (found : Found) (has : HasFound restart found) where
  abbrev its : Tables
  its = has.holds.found

  places_fit : (t : ℕ) → PlacesFit (its t).header
  places_fit t = elim (table_or_not restart.tables t) [
    | inl is ↦ let fits = (has.holds.opens.each t is).read.header.fits in record { slots = fits.slots; rows = fits.rows }
    | inr not ↦ subst PlacesFit (sym (has.holds.opens.others t not).header) (record { slots = omega arith; rows = omega arith })
  ]

  pub has_store : (site : State) → CanRestart restart
      → HasStore (store_of restart found.changes found.next has.holds.found has.holds.layouts) (opening site found.held found.log)
  has_store site can = record {
    serves = has.holds.serves site (store_of restart found.changes found.next its has.holds.layouts) (all_counted its has.holds.counted) refl;
    numbers = subst (λ (f : Tables). AreStored f has.holds.layouts) (sym (all_counted its has.holds.counted)) has.stored;
    places = places_fit;
    is_short = subst (λ (n : ℕ). is_short n ≡ true) (sym has.holds.its_short)
        (and_from _ _ (le-leb _ _ can.shape.short_from) (le-leb _ _ can.shape.short_to));
    few = omega (arith, has.log_tables, can.shape.tables_to);
    room = has.room;
    tables = has.holds.its_tables ∙ sym has.log_tables;
    short = has.log_short ∙ sym has.holds.its_short;
  }
