-- Unlinks of what nobody sees, and what they leave.
use Rattle.std.proofs.Common.{◌≡◌, ℕ, zero, suc, ◌+◌, ◌-◌, ◌<◌, ◌≤◌, true, All, List, [], ◌∷◌, ◌++◌, length, map, refl, sym, ap, subst, ◌∙◌, arith, inl, inr, ⊎_elim}
use Rattle.std.proofs.lemmas.Bool.{and_from, le-leb}
use Rattle.std.proofs.lemmas.List.Elements.{All-append, All-map, All-nil, All-weaker}
use Rattle.px_cells.specs.Form.{is_short}
use Rattle.px_cells.specs.declared.header.Header.{Header}
use Rattle.px_cells.specs.declared.slot.Slot.{Slot}
use Rattle.px_change.specs.Grammar.{may_hold}
use Rattle.px_change.specs.declared.change.Change.{Change}
use Rattle.px_chain.proofs.SoundLaws.{sound_none}
use Rattle.px_chain.specs.Sound.{IsSound, IsUsedRow, Layout}
use Rattle.px_history.specs.Base.{IsBase}
use Rattle.px_history.specs.Fitting.{FitsFrame, HasRoomFor, IsStoredNumber, IsTable, IsWritten, PlacesFit}
use Rattle.px_history.specs.Steps.{AreSteps, History, IsStep, IsUnlink, MayUnlink, Step, after_step, after_steps}
use Rattle.px_history.specs.Store.{IsOpen, IsTidied, Store, versions_of}
use Rattle.px_history.specs.Written.{IsChangeOf}
use Rattle.px_laid.specs.Places.{Places}
use Rattle.px_life.specs.Front.{commits_by}
use Rattle.px_life.specs.Life.{IsLife, Life, end_of, places_at, store_at}
use Rattle.px_model.specs.Machine.{Machine, commits, fresh, published}
use Rattle.px_model.specs.declared.limits.TheConstants.{LONGEST_SHORT, MOST_TABLES, SHORTEST_SHORT, STORED_NUMBERS_END}
use Rattle.px_model.specs.declared.row.Row.{Row}
use Rattle.px_opened.proofs.Numbers.{table_or_not}
use Rattle.px_opened.specs.Kept.{HoldsStore}
use Rattle.px_reached.specs.Reachable.{Marks}
use Rattle.px_restart.specs.Restart.{HasMarks, HasShape}
use Rattle.px_restart.specs.declared.restart.Restart.{Restart}
use Rattle.px_shown.proofs.Unlinking.{unlink_shows}
use Rattle.px_shown.specs.Parts.{Parts}
use Rattle.px_shown.specs.Shown.{Shows}
use Rattle.px_shown.specs.Tables.{AreSound}
use Rattle.px_site.specs.State.{Moment, State}
use Rattle.px_tidy.specs.Kept.{tidied_away}
use Rattle.px_tidy.specs.Steps.{HasTables, IsOfTableUpTo, Tidies, tidying_row, tidying_rows, tidying_table, tidying_tables}
use Rattle.px_working.specs.Follows.{Follows, last_store}
use Rattle.px_working.specs.Lasts.{Lasts}
use Rattle.px_working.specs.Works.{Works}
use Rattle.px_beginning.specs.Found.{IsFound, Reading, life_of, machine_of}
use Rattle.px_beginning.specs.Tidied.{tidied}
use Rattle.px_beginning.proofs.Fresh.{base_of_fresh, opening_of_fresh}
use Rattle.px_beginning.proofs.Lasting.{Begins, can_of, can_restart, found_is_life, found_store}
use Rattle.px_beginning.proofs.Steps.{last_steps}

-- ---- what is used of the laws below

abbrev pub FrontsHold : Type 0
FrontsHold = (parts : Parts) (short tables next : ℕ) (rows : List Row) (life : Life) (frame : ℕ) → IsLife parts short tables next rows life
    → life.start ≤ frame → frame ≤ end_of life → HoldsStore short tables (store_at life frame) (places_at life frame)

abbrev pub FrameHolds : Type 0
FrameHolds = (parts : Parts) (short tables frame : ℕ) (store : Store) (step : Step) (change : Change)
    → is_short short ≡ true → tables ≤ MOST_TABLES
    → AreSound short store.tables store.layouts → IsStep parts short store step
    → IsChangeOf short store step change → IsStoredNumber change.xn
    → IsWritten tables step → FitsFrame frame store step
    → may_hold tables frame short change ≡ true

-- what is held is sound
held_sound : (short tables : ℕ) (store : Store) (places : Places) → HoldsStore short tables store places → AreSound short store.tables store.layouts
held_sound short tables store places holds t = ⊎_elim
    (λ (is : IsTable tables t). (holds.each t is).sound)
    (λ (not : IsTable tables t → ⊥).
    let none = holds.others t not in
    subst (λ (l : Layout). IsSound short (store.tables t) l) (sym none.lists) (sound_none short (store.tables t) none.header))
    (table_or_not tables t)

-- ---- an unlink follows

shape_of : {parts : Parts} {least : ℕ} {m : Machine} {life : Life} {restart : Restart} {marks : Marks} {now : Moment} → Lasts parts least m life restart marks now → HasShape restart
shape_of {restart = restart} lasts = (can_of lasts.valid.first lasts.valid.second restart lasts.valid.picked).shape

short_is : (restart : Restart) → HasShape restart → is_short restart.short ≡ true
short_is restart shape =
    and_from _ _ (le-leb SHORTEST_SHORT restart.short shape.short_from) (le-leb restart.short LONGEST_SHORT shape.short_to)

places_fit : (short tables : ℕ) (store : Store) (places : Places) → HoldsStore short tables store places → (t : ℕ) → IsTable tables t → PlacesFit (store.tables t).header
places_fit short tables store places holds t is =
    let fits = (holds.each t is).says.header.fits in
    record { slots = fits.slots; rows = fits.rows }

pub unlink_follows : FrontsHold → FrameHolds
    → (parts : Parts) (least : ℕ) (m : Machine) (life : Life) (restart : Restart) (marks : Marks) (now : Moment) (t row from count : ℕ) (change : Change)
    → Lasts parts least m life restart marks now → MayUnlink (last_store life) t row from count
    → IsTable restart.tables t → HasRoomFor count → IsStoredNumber change.xn
    → IsChangeOf restart.short (last_store life) (Step.unlink t row from count) change
    → Follows parts m life restart (Step.unlink t row from count) change m
unlink_follows hold frames parts least m life restart marks now t row from count change lasts may table room stored of = record {
  may = may;
  alone = tt;
  fits = table;
  change_is = of;
  stands = frames parts restart.short restart.tables (end_of life) store (Step.unlink t row from count) change
      (short_is restart shape) shape.tables_to sound may of stored table (places_fit restart.short restart.tables store (places_at life (end_of life)) held t table, room);
  low = tt;
  number = tt;
  opening = record { tables = refl; short = refl; opening = refl; before = refl; base = refl };
  commits_are = refl;
  published_stays = λ known within. refl;
  shows = unlink_shows parts restart.short store.tables store.layouts store.done (published m (commits m - m.before)) t row from count sound may.used may.some may.within may.same
      (subst (λ (n : ℕ). Shows parts store.tables store.layouts store.done (published m (n - m.before))) lasts.all_commits
      (lasts.publishes (end_of life) lasts.reachable.end (omega arith)));
}
  where
    store : Store
    store = last_store life

    shape : HasShape restart
    shape = shape_of lasts

    held : HoldsStore restart.short restart.tables store (places_at life (end_of life))
    held = hold parts restart.short restart.tables (m.base + 1) m.opening life (end_of life) lasts.is_life (omega (arith, lasts.is_life.count)) (omega arith)

    sound : AreSound restart.short store.tables store.layouts
    sound = held_sound restart.short restart.tables store (places_at life (end_of life)) held

-- ---- what was tidied

abbrev pub StoreTidied : Type 0
StoreTidied = (short : ℕ) (store : Store) (last : ℕ) → AreSound short store.tables store.layouts → HasTables store last
    → IsTidied (after_steps store (tidying_tables store last))

abbrev pub TablesTidied : Type 0
TablesTidied = (short : ℕ) (store : Store) (last : ℕ) → AreSound short store.tables store.layouts
    → Tidies short store (tidying_tables store last) (after_steps store (tidying_tables store last)) (IsOfTableUpTo last)

abbrev pub LeavesBase : Type 0
LeavesBase = (parts : Parts) (short next : ℕ) (rows : List Row) (base store : Store) (steps : List Step)
    → IsBase parts short next rows base → History parts short base steps store → All IsUnlink steps → IsBase parts short next rows store

abbrev pub BeginsToWork : Type 0
BeginsToWork = (parts : Parts) (rows : List Row) (before base : ℕ) (life : Life) (restart : Restart)
    → let store = last_store life in
    IsLife parts restart.short restart.tables (base + 1) rows life → IsTidied store
    → Shows parts store.tables store.layouts store.done rows
    → ((t row : ℕ) → IsUsedRow (store.tables t) row → All (λ slot. slot.xn ≤ base) (versions_of store t row))
    → ((xn : ℕ) → base < xn → IsOpen store xn)
    → restart.low ≤ base + 1 → base < STORED_NUMBERS_END
    → Works parts (fresh restart.tables restart.short rows before base) life restart

row_unlinks : (store : Store) (t row : ℕ) → All IsUnlink (tidying_row store t row)
row_unlinks store t row = one (tidied_away store.done (versions_of store t row))
  where
    one : (places : List ℕ) → All IsUnlink (map (λ place. Step.unlink t row place 1) places)
    one places = All-map IsUnlink (λ (place : ℕ). Step.unlink t row place 1) places (λ n d within. tt)

rows_unlink : (store : Store) (t last : ℕ) → All IsUnlink (tidying_rows store t last)
rows_unlink store t zero = All-nil IsUnlink
rows_unlink store t (suc last) = All-append IsUnlink (tidying_rows store t last) (tidying_row store t (suc last)) (rows_unlink store t last) (row_unlinks store t (suc last))

pub tables_unlink : (store : Store) (last : ℕ) → All IsUnlink (tidying_tables store last)
tables_unlink store zero = All-nil IsUnlink
tables_unlink store (suc last) =
    All-append IsUnlink (tidying_tables store last) (tidying_table store (suc last)) (tables_unlink store last) (rows_unlink store (suc last) (store.tables (suc last)).header.rows)

-- a table that the store hasn't has no row
has_tables : (short tables : ℕ) (store : Store) (places : Places) → HoldsStore short tables store places → HasTables store tables
has_tables short tables store places holds t row used = ⊎_elim
    (λ (is : IsTable tables t). is)
    (λ (not : IsTable tables t → ⊥).
    let none = (holds.others t not).header in
    let rows : (store.tables t).header.rows ≡ 0 = ap (λ (header : Header). header.rows) none in
    let place = used.0 in
    absurd (omega (arith, rows, place.0, place.1)))
    (table_or_not tables t)

pub tidied_works : StoreTidied → TablesTidied → LeavesBase → BeginsToWork → Begins
    → (parts : Parts) (read : Reading) (s : State) (least : ℕ) (marks : Marks) (now : Moment) → IsFound parts read s
    → Lasts parts least (machine_of read) (tidied read.restart (life_of read s.content)) read.restart marks now → read.next ≤ STORED_NUMBERS_END
    → Works parts (machine_of read) (tidied read.restart (life_of read s.content)) read.restart
tidied_works store_tidied tables_tidied leaves works begins parts read s least marks now is lasts few =
    works parts read.rows (commits_by restart read.changes) (read.next - 1) (tidied restart life) restart
    (subst (λ (n : ℕ). IsLife parts restart.short restart.tables (n + 1) read.rows (tidied restart life)) base_is
    (subst (λ (l : List Row). IsLife parts restart.short restart.tables ((machine_of read).base + 1) l (tidied restart life)) opening_is lasts.is_life))
    (subst IsTidied (sym last_is) (store_tidied restart.short store restart.tables sound has))
    (subst (λ (st : Store). Shows parts st.tables st.layouts st.done read.rows) (sym last_is) (tidies.shows parts read.rows base.shows))
    (subst (λ (st : Store). (t row : ℕ) → IsUsedRow (st.tables t) row → All (λ (slot : Slot). slot.xn ≤ read.next - 1) (versions_of st t row)) (sym last_is)
    (λ t row used. All-weaker (λ (slot : Slot). slot.xn < read.next) (λ (slot : Slot). slot.xn ≤ read.next - 1) (λ slot below. omega (arith, below))
    (versions_of after t row) (left.numbers t row used)))
    (subst (λ (st : Store). (xn : ℕ) → read.next - 1 < xn → IsOpen st xn) (sym last_is) (λ xn past. left.later xn (omega (arith, past, some))))
    (omega (arith, some, shown.low_to, is.number.restart_is))
    (omega (arith, some, few))
  where
    restart : Restart
    restart = read.restart

    life : Life
    life = life_of read s.content

    store : Store
    store = last_store life

    steps : List Step
    steps = tidying_tables store restart.tables

    after : Store
    after = after_steps store steps

    shown : HasMarks restart
    shown = (can_restart read s is).marks

    some : 1 ≤ read.next
    some = omega (arith, shown.low_from, shown.low_to, is.number.restart_is)

    base_is : (machine_of read).base ≡ read.next - 1
    base_is = base_of_fresh restart.tables restart.short read.rows (commits_by restart read.changes) (read.next - 1)

    opening_is : (machine_of read).opening ≡ read.rows
    opening_is = opening_of_fresh restart.tables restart.short read.rows (commits_by restart read.changes) (read.next - 1)

    whole : IsLife parts restart.short restart.tables read.next read.rows life
    whole = found_is_life begins parts read s is

    store_is : store ≡ life.base
    store_is = found_store read s.content (end_of life)

    base : IsBase parts restart.short read.next read.rows store
    base = subst (IsBase parts restart.short read.next read.rows) (sym store_is) whole.base

    sound : AreSound restart.short store.tables store.layouts
    sound = base.sound

    has : HasTables store restart.tables
    has = subst (λ (st : Store). HasTables st restart.tables) (sym store_is) (has_tables restart.short restart.tables life.base life.below whole.held)

    tidies : Tidies restart.short store steps after (IsOfTableUpTo restart.tables)
    tidies = tables_tidied restart.short store restart.tables sound

    left : IsBase parts restart.short read.next read.rows after
    left = leaves parts restart.short read.next read.rows store after steps base (record { follow = tidies.follow parts; lead = refl }) (tables_unlink store restart.tables)

    last_is : last_store (tidied restart life) ≡ after
    last_is = last_steps restart.short life steps (omega arith)
