-- One version unlinked: its frame, and what the tables, the log and the life then are.
use Rattle.std.proofs.Common.{◌≡◌, ◌≢◌, ℕ, zero, suc, ◌+◌, ◌-◌, ◌^◌, ◌<◌, ◌≤◌, Bool, cond, true, false, All, List, [], ◌∷◌, ◌++◌, drop, length, map, take, refl, sym, ap, subst, ◌∙◌, arith, inl, ⊎_elim}
use Rattle.std.proofs.lemmas.Bool.{cases_eq, eq-eqb, ne_eqb}
use Rattle.std.proofs.lemmas.Grind.{fold-append}
use Rattle.std.proofs.lemmas.List.Elements.{All-head, All-tail}
use Rattle.px_beginning.proofs.Steps.{last_grown}
use Rattle.px_beginning.proofs.Unlinks.{FrontsHold, unlink_follows}
use Rattle.px_cells.specs.Form.{is_short}
use Rattle.px_cells.specs.declared.cell.Cell.{Cell}
use Rattle.px_cells.specs.declared.header.Header.{Header}
use Rattle.px_cells.specs.declared.pointer.Pointer.{Pointer}
use Rattle.px_cells.specs.declared.slot.Slot.{Slot}
use Rattle.px_chain.proofs.Overlays.{laid_header}
use Rattle.px_chain.specs.Links.{Parts as ChainParts, chain_of, content_of, parts_of, unlink_cells, unlinked_header, unlinked_pointer, unlinked_slots}
use Rattle.px_chain.specs.Places.{StandsAt, slot_in}
use Rattle.px_chain.specs.Sound.{IsUsedRow}
use Rattle.px_chain.specs.Table.{Content, Table, laid, overlaid}
use Rattle.px_change.specs.Grammar.{may_hold}
use Rattle.px_change.specs.declared.change.Change.{Change}
use Rattle.px_change.specs.declared.change.ChangeKind.TheVariants.{Tidy}
use Rattle.px_held.proofs.Serving.{anywhere, served}
use Rattle.px_held.proofs.Unlinked.{used_there}
use Rattle.px_held.specs.Serving.{HasSameForm, Serves}
use Rattle.px_history.proofs.Agreeing.{one_layout}
use Rattle.px_history.proofs.Holding.{change_held}
use Rattle.px_history.specs.Fitting.{HasRoomFor, IsStoredNumber, IsTable, PlacesFit}
use Rattle.px_history.specs.Steps.{Step, after_step, after_steps, after_unlink}
use Rattle.px_history.specs.Store.{Store}
use Rattle.px_history.specs.Written.{IsChangeOf, change_of, first_writer}
use Rattle.px_life.proofs.Commits as life_commits
use Rattle.px_life.proofs.Done as life_done
use Rattle.px_life.proofs.Fronts.{front_held, life_grows}
use Rattle.px_life.proofs.Writers.{step_leaves_writers}
use Rattle.px_life.specs.Front.{HasStoredNumber}
use Rattle.px_life.specs.Life.{Life, end_of, grown, store_at}
use Rattle.px_log.proofs.Appending.{first_survive}
use Rattle.px_log.proofs.FramesOfChanges.{can_frames}
use Rattle.px_log.specs.Log.{HasFirst, IsLogOf, Log, with_frame}
use Rattle.px_log.specs.Touching.{TouchesLog}
use Rattle.px_model.specs.Machine.{Machine}
use Rattle.px_model.specs.declared.limits.TheConstants.{MOST_TABLES}
use Rattle.px_opened.proofs.Kept.{steps_held}
use Rattle.px_reached.specs.Reachable.{Marks}
use Rattle.px_restart.specs.declared.restart.Restart.{Restart}
use Rattle.px_shown.specs.Changes.{with_unlink}
use Rattle.px_shown.specs.Parts.{Parts, no_parts}
use Rattle.px_site.specs.Disk.{FileState}
use Rattle.px_site.specs.Names.{same_file}
use Rattle.px_site.specs.State.{EachMoment, Moment, OnFile, State}
use Rattle.px_site.specs.declared.name.FileName.{FileName}
use Rattle.px_site.proofs.Moments.{weaker_moments}
use Rattle.px_tidy.specs.declared.tidying.Unneeded.{Unneeded}
use Rattle.px_working.proofs.Stepping.{step_lasts}
use Rattle.px_working.specs.Follows.{Follows, last_store, with_step}
use Rattle.px_working.specs.Lasts.{HasOthersOf, Lasts, LeavesFronts}
use Rattle.px_xlog.specs.Contents.{the_log}
use Rattle.px_beginning.specs.Tidied.{with_steps}
use Rattle.px_tidying.specs.Going.{MayGo}
use Rattle.px_tidying.specs.Opening.{HasLife, HasStore, LastsStill, LastsThrough, Made, Opening}
use Rattle.px_log.proofs.Touching.{last_moment}

abbrev pub unlink_of : (t row place : ℕ) → Step
unlink_of t row place = Step.unlink t row place 1

-- ---- the change

number_at : (slot : ℕ → Slot) (chain : List ℕ) (place : ℕ) → place < length chain → first_writer (take 1 (drop place (map slot chain))) ≡ (slot (slot_in chain place)).xn
number_at slot [] place within = absurd (omega (arith, within))
number_at slot (n ∷ chain) zero within = refl
number_at slot (n ∷ chain) (suc place) within = number_at slot chain place (omega (arith, within))

pub within_chain : (store : Store) (t row place : ℕ) (version : Unneeded) → MayGo store t row place version → place < length ((store.layouts t).chain row)
within_chain store t row place version may = let within = may.run.within in omega (arith, within)

-- what the frame carries is the step's change
pub change_is : (short : ℕ) (store : Store) (t row place : ℕ) (version : Unneeded) (xn : ℕ) (cells : List Cell) → MayGo store t row place version
    → xn ≡ ((store.tables t).slot version.slot).xn → cells ≡ (change_of short store (unlink_of t row place)).cells
    → record { kind = Tidy; xn = xn; commit = 0; cells = cells } ≡ change_of short store (unlink_of t row place)
change_is short store t row place version xn cells may its are =
    let chain = (store.layouts t).chain row in
    let number : xn ≡ first_writer (take 1 (drop place (map (store.tables t).slot chain))) =
    its ∙ ap (λ (n : ℕ). ((store.tables t).slot n).xn) (sym may.run.start) ∙ sym (number_at (store.tables t).slot chain place (within_chain store t row place version may)) in
    ap (λ (n : ℕ). record { kind = Tidy; xn = n; commit = 0; cells = cells }) number
    ∙ ap (λ (l : List Cell). record { kind = Tidy; xn = first_writer (take 1 (drop place (map (store.tables t).slot chain))); commit = 0; cells = l }) are

all_at : (P : Slot → Type 0) (slot : ℕ → Slot) (chain : List ℕ) (place : ℕ) → All P (map slot chain) → place < length chain → P (slot (slot_in chain place))
all_at P slot [] place all within = absurd (omega (arith, within))
all_at P slot (n ∷ chain) zero all within = All-head P (slot n) (map slot chain) all
all_at P slot (n ∷ chain) (suc place) all within = all_at P slot chain place (All-tail P (slot n) (map slot chain) all) (omega (arith, within))

stored : (store : Store) (t row place : ℕ) (version : Unneeded) (o : Opening) → HasStore store o → MayGo store t row place version
    → IsStoredNumber (change_of o.held.short store (unlink_of t row place)).xn
stored store t row place version o has may =
    let chain = (store.layouts t).chain row in
    let within = within_chain store t row place version may in
    subst IsStoredNumber (sym (number_at (store.tables t).slot chain place within))
    (all_at HasStoredNumber (store.tables t).slot chain place (has.numbers t row may.unlink.used) within)

its_change : (short : ℕ) (store : Store) (t row place : ℕ) → IsChangeOf short store (unlink_of t row place) (change_of short store (unlink_of t row place))
its_change short store t row place = record { mark = inl refl; cells = refl; commit = refl }

its_table : (store : Store) (t row place : ℕ) (version : Unneeded) (o : Opening) → HasStore store o → MayGo store t row place version → IsTable o.log.tables t
its_table store t row place version o has may =
    subst (λ (n : ℕ). IsTable n t) has.tables (used_there o.site o.held store t row has.serves may.unlink.used)

one_has_room : HasRoomFor 1
one_has_room = omega arith

pub frame_holds : (store : Store) (t row place : ℕ) (version : Unneeded) (o : Opening) (change : Change) → HasStore store o → MayGo store t row place version
    → change ≡ change_of o.held.short store (unlink_of t row place) → may_hold o.log.tables o.log.frames o.log.short change ≡ true
frame_holds store t row place version o change has may is =
    subst (λ (c : Change). may_hold o.log.tables o.log.frames o.log.short c ≡ true) (sym is)
    (subst (λ (n : ℕ). may_hold o.log.tables o.log.frames n (change_of o.held.short store (unlink_of t row place)) ≡ true) (sym has.short)
    (change_held no_parts o.held.short o.log.tables o.log.frames store (unlink_of t row place) (change_of o.held.short store (unlink_of t row place))
    has.is_short has.few (served o.site o.held store has.serves).sound may.unlink (its_change o.held.short store t row place)
    (stored store t row place version o has may) (its_table store t row place version o has may) (has.places t, one_has_room)))

-- ---- the store

pointer_kept : (table : Table) (b : Bool) (number : ℕ) (pointer : Pointer) → (laid table (cond b (Content.pointer_is number pointer ∷ []) [])).header ≡ table.header
pointer_kept table true number pointer = refl
pointer_kept table false number pointer = refl

pub header_left : (table : Table) (header : Header) (parts : ChainParts) → (laid table (unlink_cells header parts)).header ≡ unlinked_header header parts
header_left table header parts =
    let start : Table = record table { header = unlinked_header header parts } in
    let slots = unlinked_slots header parts in
    ap (λ (t : Table). t.header) (fold-append overlaid start (map content_of slots) (unlinked_pointer header parts))
    ∙ pointer_kept (laid start (map content_of slots)) _ _ _
    ∙ laid_header start slots

places_left : (store : Store) (t row place : ℕ) → ((n : ℕ) → PlacesFit (store.tables n).header) → (n : ℕ) → PlacesFit ((after_unlink store t row place 1).tables n).header
places_left store t row place fit n =
    let table = store.tables t in
    let parts = parts_of (chain_of table ((store.layouts t).chain row)) place 1 in
    let after = laid table (unlink_cells table.header parts) in
    ⊎_elim
    (λ (here : n ≡ t). subst (λ (b : Bool). PlacesFit (cond b after (store.tables n)).header) (sym (eq-eqb n t here))
    (subst PlacesFit (sym (header_left table table.header parts)) (record { slots = (fit t).slots; rows = (fit t).rows })))
    (λ (away : n ≢ t). subst (λ (b : Bool). PlacesFit (cond b after (store.tables n)).header) (sym (ne_eqb n t away)) (fit n))
    (cases_eq n t)

pub store_left : (store : Store) (t row place : ℕ) (version : Unneeded) (old new : Opening) (change : Change) → HasStore store old → MayGo store t row place version
    → Serves new.site new.held (after_unlink store t row place 1) → HasSameForm old.held new.held → new.log ≡ with_frame change old.log → new.log.frames ≤ 2 ^ 48
    → HasStore (after_unlink store t row place 1) new
store_left store t row place version old new change has may serves form log room = record {
  serves = serves;
  numbers = step_leaves_writers IsStoredNumber no_parts old.held.short store (unlink_of t row place) (served old.site old.held store has.serves).sound may.unlink tt has.numbers;
  places = places_left store t row place has.places;
  is_short = subst (λ (n : ℕ). is_short n ≡ true) (sym form.short) has.is_short;
  few = subst (λ (l : Log). l.tables ≤ MOST_TABLES) (sym log) has.few;
  room = room;
  tables = form.count ∙ has.tables ∙ sym (ap (λ (l : Log). l.tables) log);
  short = ap (λ (l : Log). l.short) log ∙ has.short ∙ sym form.short;
}

-- ---- the log

pub log_first : (log : Log) (changes : List Change) (s : State) → IsLogOf log changes s → log.frames ≤ 2 ^ 48 → LeavesFronts log.durable changes (s.now.files the_log)
log_first log changes s is room =
    let count = is.count in
    (subst (HasFirst log.durable changes) (sym is.file)
    (first_survive log.durable changes (can_frames log.tables 0 log.short changes is.held (omega (arith, count, room))) is.durable)).each

-- ---- the life

fronts_hold : FrontsHold
fronts_hold = front_held (steps_held one_layout)

module _ (parts : Parts) (least : ℕ) (m : Machine) (life : Life) (restart : Restart) (marks : Marks) (t row place : ℕ) (version : Unneeded) (old : Opening)
    (has : HasLife parts least m life restart marks old) (may : MayGo (last_store life) t row place version) where
  abbrev store : Store
  store = last_store life

  abbrev change : Change
  change = change_of restart.short store (unlink_of t row place)

  short_is : old.held.short ≡ restart.short
  short_is = sym has.store.short ∙ has.short

  follows : Follows parts m life restart (unlink_of t row place) change m
  follows = unlink_follows fronts_hold change_held parts least m life restart marks old.site.now t row place 1 change has.lasts may.unlink
      (subst (λ (n : ℕ). IsTable n t) has.tables (its_table store t row place version old has.store may)) one_has_room
      (stored store t row place version old has.store may)
      (its_change restart.short store t row place)

  pub unlinked_lasts : (now : Moment) → HasOthersOf old.site.now now → LeavesFronts marks.durable (life.changes ++ change ∷ []) (now.files the_log)
      → Lasts parts least m (with_step restart.short life (unlink_of t row place)) restart marks now
  unlinked_lasts now others leaves =
      step_lasts life_grows
      (λ parts short tables next rows life restart step change is. life_done.done_goes_on parts short tables next rows life step change is restart)
      (λ short life restart step change. life_commits.commits_go_on short life restart (store_at life (end_of life)) step change)
      parts least m m life restart marks (unlink_of t row place) change old.site.now now has.lasts follows others leaves

  same_change : (given : Change) → given ≡ change_of old.held.short store (unlink_of t row place) → given ≡ change
  same_change given is = is ∙ ap (λ (n : ℕ). change_of n store (unlink_of t row place)) short_is

  pub still_lasts : (given : Change) → given ≡ change_of old.held.short store (unlink_of t row place) → (now : Moment)
      → OnFile the_log old.site.now (HasFirst old.log.durable (life.changes ++ given ∷ [])) now → LastsStill parts least m restart old.site.now now
  still_lasts given is now on = record {
    life = with_step restart.short life (unlink_of t row place);
    marks = marks;
    lasts = unlinked_lasts now on.others
        (subst (λ (n : ℕ). LeavesFronts n (life.changes ++ change ∷ []) (now.files the_log)) has.durable
        (subst (λ (c : Change). LeavesFronts old.log.durable (life.changes ++ c ∷ []) (now.files the_log)) (same_change given is) on.this.each));
    told = on.told;
    telling = on.telling;
  }

  pub life_left : (given : Change) (new : Opening) → given ≡ change_of old.held.short store (unlink_of t row place)
      → HasStore (after_unlink store t row place 1) new → new.log ≡ with_frame given old.log
      → IsLogOf new.log (life.changes ++ given ∷ []) new.site
      → EachMoment (OnFile the_log old.site.now (HasFirst old.log.durable (life.changes ++ given ∷ []))) old.site new.site
      → HasLife parts least m (with_step restart.short life (unlink_of t row place)) restart marks new
  life_left given new is left log logged moments =
      let others : HasOthersOf old.site.now new.site.now =
      last_moment (HasOthersOf old.site.now) (λ name away. refl) (weaker_moments (λ now on. on.others) moments) in
      let same = same_change given is in
      let durable : new.log.durable ≡ marks.durable = ap (λ (l : Log). l.durable) log ∙ has.durable in
      let whole : IsLogOf new.log (life.changes ++ change ∷ []) new.site = subst (λ (c : Change). IsLogOf new.log (life.changes ++ c ∷ []) new.site) same logged in
      record {
        lasts = unlinked_lasts new.site.now others
            (subst (λ (n : ℕ). LeavesFronts n (life.changes ++ change ∷ []) (new.site.now.files the_log)) durable (log_first new.log (life.changes ++ change ∷ []) new.site whole left.room));
        store = subst (λ (s : Store). HasStore s new) (sym (last_grown life (unlink_of t row place) change has.lasts.is_life.count)) left;
        logged = whole;
        durable = durable;
        tables = ap (λ (l : Log). l.tables) log ∙ has.tables;
        short = ap (λ (l : Log). l.short) log ∙ has.short;
      }

-- ---- what the call says of it

-- the frame was appended, and the tables changed
pub one_made : (tells : Type 0) (store : Store) (t row place : ℕ) (version : Unneeded) (old new : Opening) (change : Change) → HasStore store old → MayGo store t row place version
    → change ≡ change_of old.held.short store (unlink_of t row place)
    → Serves new.site new.held (after_unlink store t row place 1) → HasSameForm old.held new.held → new.log ≡ with_frame change old.log → old.log.frames < 2 ^ 48
    → (tells → (changes : List Change) → IsLogOf old.log changes old.site → IsLogOf new.log (changes ++ change ∷ []) new.site)
    → (tells → (changes : List Change) → IsLogOf old.log changes old.site
    → EachMoment (OnFile the_log old.site.now (HasFirst old.log.durable (changes ++ change ∷ []))) old.site new.site)
    → (tells → TouchesLog 1 old.site new.site) → Made tells store (unlink_of t row place ∷ []) old new
one_made tells store t row place version old new change has may is serves form log below logged moments touches =
    let more = ap (λ (l : Log). l.frames) log in
    let left = store_left store t row place version old new change has may serves form log (omega (arith, more, below)) in
    record {
      after = left;
      frames = more;
      tables = ap (λ (l : Log). l.tables) log;
      touches = touches;
      life = λ tell parts least m life restart marks its had.
          life_left parts least m life restart marks t row place version old had (subst (λ (s : Store). MayGo s t row place version) (sym its) may) change new
          (subst (λ (s : Store). change ≡ change_of old.held.short s (unlink_of t row place)) (sym its) is)
          (subst (λ (s : Store). HasStore (after_unlink s t row place 1) new) (sym its) left)
          log (logged tell life.changes had.logged) (moments tell life.changes had.logged);
    }

pub one_lasts : (tells : Type 0) (store : Store) (t row place : ℕ) (version : Unneeded) (old new : Opening) (change : Change) → MayGo store t row place version
    → change ≡ change_of old.held.short store (unlink_of t row place)
    → (tells → (changes : List Change) → IsLogOf old.log changes old.site
    → EachMoment (OnFile the_log old.site.now (HasFirst old.log.durable (changes ++ change ∷ []))) old.site new.site)
    → LastsThrough tells store old new
one_lasts tells store t row place version old new change may is moments tell parts least m life restart marks its had =
    weaker_moments
    (still_lasts parts least m life restart marks t row place version old had (subst (λ (s : Store). MayGo s t row place version) (sym its) may) change
    (subst (λ (s : Store). change ≡ change_of old.held.short s (unlink_of t row place)) (sym its) is))
    (moments tell life.changes had.logged)
