-- A sweep: the unlink that it adds, and what the machine is after it.
use Rattle.std.proofs.Common.{◌≡◌, ℕ, ◌+◌, ◌-◌, ◌<◌, ◌≤◌, true, List, length, Some, refl, sym, ap, subst, ◌∙◌, arith, inl, inr, ⊎_elim}
use Rattle.std.specs.Prelude.{slice_get}
use Rattle.std.proofs.lemmas.Option.{get_or_from_slice_get, slice_get_within}
use Rattle.px_calls.specs.Steps.{open_of}
use Rattle.px_calls.specs.Sweeps.{swept_state}
use Rattle.px_cell_laws.specs.Holding.{HoldsChains}
use Rattle.px_cell_laws.specs.Sweeping.{IsSweptAt, sweep_count_of, sweep_of}
use Rattle.px_cells.specs.declared.header.Header.{Header}
use Rattle.px_chain.specs.Sound.{IsUsedRow}
use Rattle.px_chain_laws.proofs.Ended.{flats_from}
use Rattle.px_chain_laws.specs.Kept.{IsKept}
use Rattle.px_change.specs.declared.change.Change.{Change}
use Rattle.px_history.specs.Fitting.{IsStoredNumber, IsTable, PlacesFit}
use Rattle.px_history.specs.Steps.{IsStep, Step, after_step}
use Rattle.px_history.specs.Store.{Store}
use Rattle.px_laid.specs.Places.{Places}
use Rattle.px_life.specs.Life.{IsLife, Life, end_of, places_at, store_at}
use Rattle.px_logged.specs.Growing.{KeepsOpening}
use Rattle.px_model.specs.Machine.{Machine, commits, flat, published}
use Rattle.px_model.specs.Rows.{in_order}
use Rattle.px_model.specs.declared.limits.TheConstants.{STORED_NUMBERS_END}
use Rattle.px_model.specs.declared.machine.Flat.{Flat}
use Rattle.px_model.specs.declared.machine.Open.{Open}
use Rattle.px_model.specs.declared.row.Row.{Row}
use Rattle.px_opened.proofs.Numbers.{table_or_not}
use Rattle.px_opened.specs.Kept.{HoldsStore}
use Rattle.px_reached.specs.Reachable.{Marks}
use Rattle.px_restart.specs.declared.restart.Restart.{Restart}
use Rattle.px_shown.specs.Parts.{Parts}
use Rattle.px_shown.specs.Tables.{AreSound}
use Rattle.px_site.specs.State.{Moment}
use Rattle.px_xlog.specs.Contents.{the_log}
use Rattle.px_working.specs.Follows.{Follows, KeepsPublished, last_store, swept_change, with_sweep}
use Rattle.px_working.specs.Lasts.{HasOthersOf, Lasts, LeavesFronts}
use Rattle.px_working.specs.Works.{Works}
use Rattle.px_working.proofs.Calling.{CommittedShown, FramesHold, StepsLast, short_of}
use Rattle.px_working.proofs.Grown.{last_more}
use Rattle.px_working.proofs.Moments.{another_lasts, can_restart}

-- ---- what is used of the laws below

abbrev pub FrontsHold : Type 0
FrontsHold = (parts : Parts) (short tables next : ℕ) (rows : List Row) (life : Life) (frame : ℕ) → IsLife parts short tables next rows life
    → life.start ≤ frame → frame ≤ end_of life → HoldsStore short tables (store_at life frame) (places_at life frame)

-- of the unlink of a sweep that takes versions
abbrev pub OnSweeps : ((parts : Parts) (m : Machine) (store : Store) (step : Step) → Type 0) → Type 0
OnSweeps Holds = (parts : Parts) (m : Machine) (store : Store) (w : Flat) (t row place : ℕ) → HoldsChains parts m store → IsKept m
    → IsSweptAt m store w t row place → 1 ≤ sweep_count_of store w t row place → Holds parts m store (sweep_of store w t row place)

abbrev pub Follow : (parts : Parts) (m : Machine) (store : Store) (step : Step) → Type 0
Follow parts m store step = IsStep parts m.short store step

abbrev pub LeaveChains : (parts : Parts) (m : Machine) (store : Store) (step : Step) → Type 0
LeaveChains parts m store step = HoldsChains parts (swept_state m) (after_step store step)

abbrev pub NothingHolds : Type 0
NothingHolds = (parts : Parts) (m : Machine) (store : Store) (w : Flat) (t row place : ℕ) → HoldsChains parts m store → IsKept m
    → IsSweptAt m store w t row place → sweep_count_of store w t row place ≡ 0 → HoldsChains parts (swept_state m) store

abbrev pub AreFew : Type 0
AreFew = (m : Machine) (store : Store) (w : Flat) (t row place : ℕ) → IsSweptAt m store w t row place → sweep_count_of store w t row place ≤ 2

abbrev pub SweepsKeep : Type 0
SweepsKeep = (m : Machine) → IsKept m → IsKept (swept_state m)

-- ---- what a sweep leaves of the machine

swept_opening : (m : Machine) → KeepsOpening m (swept_state m)
unfolding swept_state
swept_opening m = record { tables = refl; short = refl; opening = refl; before = refl; base = refl }

swept_commits : (m : Machine) → commits (swept_state m) ≡ commits m
unfolding swept_state commits
swept_commits m = refl

swept_published : (m : Machine) → KeepsPublished m (swept_state m)
unfolding swept_state published
swept_published m count within = refl

same_open : (m : Machine) (session : ℕ) → open_of (swept_state m) session ≡ open_of m session
unfolding swept_state
same_open m session = refl

same_begun : (m : Machine) → (swept_state m).begun ≡ m.begun
unfolding swept_state
same_begun m = refl

pub swept_lasts : (parts : Parts) (least : ℕ) (m : Machine) (life : Life) (restart : Restart) (marks : Marks) (now : Moment)
    → Lasts parts least m life restart marks now → Lasts parts least (swept_state m) life restart marks now
swept_lasts parts least m life restart marks now lasts =
    another_lasts parts least m (swept_state m) life restart marks now lasts (swept_opening m) (swept_commits m) (swept_published m)

swept_works : (parts : Parts) (m : Machine) (life other : Life) (restart : Restart) → Works parts m life restart
    → HoldsChains parts (swept_state m) (last_store other) → IsKept (swept_state m) → Works parts (swept_state m) other restart
swept_works parts m life other restart works holds kept =
    let opening = swept_opening m in
    let begun = same_begun m in
    record {
      short = works.short ∙ sym opening.short;
      tables = works.tables ∙ sym opening.tables;
      holds = holds;
      kept = kept;
      allows = record {
        next = omega (arith, works.allows.next, opening.base, begun);
        open_ones = λ session xact at. omega (arith, works.allows.open_ones session xact (sym (same_open m session) ∙ at), opening.base);
      };
      numbers = omega (arith, works.numbers, opening.base, begun);
    }

pub nothing_works : NothingHolds → SweepsKeep → (parts : Parts) (m : Machine) (life : Life) (restart : Restart) (w : Flat) (t row place : ℕ) → Works parts m life restart
    → IsSweptAt m (last_store life) w t row place → sweep_count_of (last_store life) w t row place ≡ 0 → Works parts (swept_state m) life restart
nothing_works leaves keeps parts m life restart w t row place works at none =
    swept_works parts m life life restart works (leaves parts m (last_store life) w t row place works.holds works.kept at none) (keeps m works.kept)

-- ---- the write that is swept

abbrev IsGiven : (begun : ℕ) → Flat → Type 0
IsGiven begun w = (1 ≤ w.number) × (w.number ≤ begun)

-- it is one of a transaction that has begun
next_given : (m : Machine) (w : Flat) → IsKept m → slice_get (flat m) m.swept ≡ Some w → IsGiven m.begun w
next_given m w kept at =
    subst (IsGiven m.begun) (get_or_from_slice_get (flat m) m.swept w w at)
    (flats_from (IsGiven m.begun) 0 m.ended (λ i e write is. (kept.numbered.from_one i e is, kept.numbered.given i e is)) m.swept w (slice_get_within (flat m) m.swept w at))

swept_number : (parts : Parts) (m : Machine) (life : Life) (restart : Restart) (w : Flat) → Works parts m life restart → slice_get (flat m) m.swept ≡ Some w
    → IsStoredNumber (m.base + w.number)
swept_number parts m life restart w works at =
    let given = next_given m w works.kept at in
    (omega (arith, given.0), omega (arith, given.1, works.numbers))

-- a used row is one of a table that the store has
used_table : (short tables : ℕ) (store : Store) (places : Places) (t row : ℕ) → HoldsStore short tables store places → IsUsedRow (store.tables t) row → IsTable tables t
used_table short tables store places t row holds used = ⊎_elim
    (λ (is : IsTable tables t). is)
    (λ (not : IsTable tables t → ⊥).
    let rows : (store.tables t).header.rows ≡ 0 = ap (λ (header : Header). header.rows) (holds.others t not).header in
    let within = used.0 in
    absurd (omega (arith, rows, within.0, within.1)))
    (table_or_not tables t)

places_fit : (short tables : ℕ) (store : Store) (places : Places) → HoldsStore short tables store places → (t : ℕ) → IsTable tables t → PlacesFit (store.tables t).header
places_fit short tables store places holds t is =
    let fits = (holds.each t is).says.header.fits in
    record { slots = fits.slots; rows = fits.rows }

-- ---- the unlink

module _ (follow : OnSweeps Follow) (leave : OnSweeps LeaveChains) (few : AreFew) (keep : SweepsKeep) (shown : CommittedShown) (hold : FramesHold) (fronts : FrontsHold)
    (parts : Parts) (least : ℕ) (m : Machine) (life : Life) (restart : Restart) (marks : Marks) (before : Moment) (w : Flat) (t row place : ℕ)
    (lasts : Lasts parts least m life restart marks before) (works : Works parts m life restart)
    (at : IsSweptAt m (last_store life) w t row place) (some : 1 ≤ sweep_count_of (last_store life) w t row place) where
  abbrev store : Store
  store = last_store life

  abbrev step : Step
  step = sweep_of store w t row place

  abbrev change : Change
  change = swept_change restart.short store step (m.base + w.number)

  held : HoldsStore restart.short restart.tables store (places_at life (end_of life))
  held = fronts parts restart.short restart.tables (m.base + 1) m.opening life (end_of life) lasts.is_life (omega (arith, lasts.is_life.count)) (omega arith)

  its_table : IsTable restart.tables t
  its_table = used_table restart.short restart.tables store (places_at life (end_of life)) t row held at.used

  may : IsStep parts restart.short store step
  may = subst (λ (short : ℕ). IsStep parts short store step) (sym works.short) (follow parts m store w t row place works.holds works.kept at some)

  chains : HoldsChains parts (swept_state m) (after_step store step)
  chains = leave parts m store w t row place works.holds works.kept at some

  pub sweep_follows : Follows parts m life restart step change (swept_state m)
  sweep_follows =
      let can = can_restart restart before lasts.valid in
      record {
        may = may;
        alone = tt;
        fits = its_table;
        change_is = record { mark = inr refl; cells = refl; commit = refl };
        stands = hold parts restart.short restart.tables (end_of life) store step change (short_of restart can) can.shape.tables_to
            (subst (λ (short : ℕ). AreSound short store.tables store.layouts) (sym works.short) works.holds.sound)
            may (record { mark = inr refl; cells = refl; commit = refl }) (swept_number parts m life restart w works at.next) its_table
            (places_fit restart.short restart.tables store (places_at life (end_of life)) held t its_table, omega (arith, few m store w t row place at));
        low = tt;
        number = tt;
        opening = swept_opening m;
        commits_are = swept_commits m;
        published_stays = swept_published m;
        shows = shown parts (swept_state m) (after_step store step) chains (keep m works.kept)
            (subst (λ (rows : List Row). in_order rows ≡ true) (sym (swept_opening m).opening) lasts.is_life.base.shows.order);
      }

  pub sweep_lasts : StepsLast → (now : Moment) → HasOthersOf before now
      → LeavesFronts marks.durable (with_sweep restart.short life step (m.base + w.number)).changes (now.files the_log)
      → Lasts parts least (swept_state m) (with_sweep restart.short life step (m.base + w.number)) restart marks now
  sweep_lasts last now = last parts least m (swept_state m) life restart marks step change before now lasts sweep_follows

  pub sweep_works : Works parts (swept_state m) (with_sweep restart.short life step (m.base + w.number)) restart
  sweep_works =
      swept_works parts m life (with_sweep restart.short life step (m.base + w.number)) restart works
      (subst (HoldsChains parts (swept_state m)) (sym (last_more parts restart.short restart.tables (m.base + 1) m.opening life step change lasts.is_life)) chains)
      (keep m works.kept)
