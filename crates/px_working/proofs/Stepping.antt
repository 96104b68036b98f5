-- What lasts goes on with a step.
use Rattle.std.proofs.Common.{◌≡◌, ℕ, ◌+◌, ◌-◌, ◌<◌, ◌≤◌, max, true, All, List, [], refl, sym, ap, subst, ◌∙◌, arith, ⊎_elim}
use Rattle.std.proofs.lemmas.Bool.{cases_lt}
use Rattle.px_chain.specs.Sound.{IsUsedRow}
use Rattle.px_change.specs.Grammar.{may_hold}
use Rattle.px_change.specs.declared.change.Change.{Change}
use Rattle.px_filed.specs.Filed.{KeepCells}
use Rattle.px_history.specs.Fitting.{IsWritten}
use Rattle.px_history.specs.Steps.{IsStep, Step, after_step}
use Rattle.px_history.specs.Store.{Store, versions_of}
use Rattle.px_history.specs.Told.{IsNumberedOn, last_after}
use Rattle.px_history.specs.Writers.{IsAlone}
use Rattle.px_history.specs.Written.{IsChangeOf}
use Rattle.px_laid.specs.Places.{Places}
use Rattle.px_life.specs.Front.{AreStored, IsFrom, KnowsDone, commits_at, commits_by, done_by}
use Rattle.px_life.specs.Laid.{cells_by}
use Rattle.px_life.specs.Life.{IsLife, Life, between, end_of, grown, places_at, store_at}
use Rattle.px_model.specs.Machine.{Machine, commits, published}
use Rattle.px_model.specs.declared.row.Row.{Row}
use Rattle.px_reached.specs.Reachable.{Marks}
use Rattle.px_restart.specs.Restart.{CanRestart}
use Rattle.px_restart.specs.declared.restart.Restart.{Restart}
use Rattle.px_shown.specs.Parts.{Parts}
use Rattle.px_shown.specs.Shown.{Shows}
use Rattle.px_site.specs.State.{Moment}
use Rattle.px_xlog.specs.Contents.{the_log}
use Rattle.px_working.specs.Follows.{Follows}
use Rattle.px_working.specs.Lasts.{HasOthersOf, Lasts, LeavesFronts}
use Rattle.px_working.proofs.Grown.{end_more, last_more, same_changes, same_places, same_store}
use Rattle.px_working.proofs.Moments.{can_restart, same_cells, same_life, same_rows, same_segment, same_valid}
use Rattle.px_working.proofs.Log.{log_kept}

-- ---- what is used of the laws below

abbrev pub LivesGrow : Type 0
LivesGrow = (parts : Parts) (short tables next : ℕ) (rows : List Row) (life : Life) (step : Step) (change : Change) → IsLife parts short tables next rows life
    → IsStep parts short (store_at life (end_of life)) step → IsAlone (store_at life (end_of life)) step → IsWritten tables step
    → IsChangeOf short (store_at life (end_of life)) step change
    → may_hold tables (end_of life) short change ≡ true → IsLife parts short tables next rows (grown life step change)

abbrev pub DoneGoesOn : Type 0
DoneGoesOn = (parts : Parts) (short tables next : ℕ) (rows : List Row) (life : Life) (restart : Restart) (step : Step) (change : Change)
    → IsLife parts short tables next rows (grown life step change) → life.first ≤ restart.first → restart.first ≤ end_of life
    → IsFrom restart.low step → KnowsDone restart life (end_of life) → KnowsDone restart (grown life step change) (end_of life + 1)

abbrev pub CommitsGoOn : Type 0
CommitsGoOn = (short : ℕ) (life : Life) (restart : Restart) (step : Step) (change : Change) → life.first ≤ restart.first → restart.first ≤ end_of life
    → IsChangeOf short (store_at life (end_of life)) step change → IsNumberedOn (commits_at restart life (end_of life)) [] step
    → commits_at restart (grown life step change) (end_of life + 1) ≡ last_after (commits_at restart life (end_of life)) step

-- ---- fronts

-- who is done there is whom these changes tell
abbrev Knows : Restart → Store → List Change → Type 0
Knows restart store changes =
    ((t row : ℕ) → IsUsedRow (store.tables t) row → All (λ slot. store.done slot.xn ≡ done_by restart changes slot.xn) (versions_of store t row))
    × AreStored store.tables store.layouts

-- no step takes a commit back
no_fewer : (last : ℕ) (step : Step) → IsNumberedOn last [] step → last ≤ last_after last step
no_fewer last (Step.put t header slot) numbered = omega arith
no_fewer last (Step.commit xn number) numbered = omega (arith, numbered)
no_fewer last (Step.rollback xn) numbered = omega arith
no_fewer last (Step.unlink t row from count) numbered = omega arith
no_fewer last (Step.move t number log place) numbered = omega arith

module _ (grow : LivesGrow) (done_goes_on : DoneGoesOn) (commits_go_on : CommitsGoOn)
    (parts : Parts) (least : ℕ) (m later : Machine) (life : Life) (restart : Restart) (marks : Marks) (step : Step) (change : Change) (before now : Moment)
    (lasts : Lasts parts least m life restart marks before) (follows : Follows parts m life restart step change later) (others : HasOthersOf before now) where
  abbrev pub next : Life
  next = grown life step change

  is : IsLife parts restart.short restart.tables (m.base + 1) m.opening life
  is = lasts.is_life

  is_next : IsLife parts restart.short restart.tables (m.base + 1) m.opening next
  is_next = grow parts restart.short restart.tables (m.base + 1) m.opening life step change is follows.may follows.alone follows.fits follows.change_is follows.stands

  can : CanRestart restart
  can = can_restart restart before lasts.valid

  from_first : restart.first ≤ marks.durable
  from_first = omega (arith, can.marks.first_to, lasts.reachable.redo_to, lasts.reachable.applied)

  within : restart.first ≤ end_of life
  within = omega (arith, from_first, lasts.reachable.end)

  ends : end_of next ≡ end_of life + 1
  ends = end_more life step change

  -- ---- the fronts of the life are those of the next one

  store_is : (frame : ℕ) → frame ≤ end_of life → store_at next frame ≡ store_at life frame
  store_is frame to = same_store parts restart.short restart.tables (m.base + 1) m.opening life step change is frame to

  changes_are : (frame : ℕ) → marks.durable ≤ frame → frame ≤ end_of life → between next restart.first frame ≡ between life restart.first frame
  changes_are frame from to = same_changes life step change restart.first frame lasts.reachable.first (omega (arith, from, from_first)) to

  commits_are : (frame : ℕ) → marks.durable ≤ frame → frame ≤ end_of life → commits_at restart next frame ≡ commits_at restart life frame
  commits_are frame from to = ap (commits_by restart) (changes_are frame from to)

  -- ---- and the last one is a step further

  last_is : (frame : ℕ) → frame ≡ end_of life + 1 → store_at next frame ≡ after_step (store_at life (end_of life)) step
  last_is frame whole = ap (store_at next) (whole ∙ sym ends) ∙ last_more parts restart.short restart.tables (m.base + 1) m.opening life step change is

  last_commits : commits_at restart next (end_of life + 1) ≡ commits later
  last_commits =
      commits_go_on restart.short life restart step change lasts.reachable.first within follows.change_is
      (subst (λ (last : ℕ). IsNumberedOn last [] step) (sym lasts.all_commits) follows.number)
      ∙ ap (λ (last : ℕ). last_after last step) lasts.all_commits
      ∙ sym follows.commits_are

  rose : commits m ≤ commits later
  rose = omega (arith, no_fewer (commits m) step follows.number, follows.commits_are)

  -- so what holds of each of those and of the last one holds of all
  each : (P : ℕ → Type 0) → ((frame : ℕ) → marks.durable ≤ frame → frame ≤ end_of life → P frame) → P (end_of life + 1)
      → (frame : ℕ) → marks.durable ≤ frame → frame ≤ end_of next → P frame
  each P fronts last frame from to = ⊎_elim
      (λ (past : end_of life < frame). let whole : end_of life + 1 ≡ frame = omega (arith, past, to, ends) in subst P whole last)
      (λ (inside : frame ≤ end_of life). fronts frame from inside)
      (cases_lt (end_of life) frame)

  known : (frame : ℕ) → marks.durable ≤ frame → frame ≤ end_of life → KnowsDone restart next frame
  known frame from to =
      let was = lasts.reachable.prefix frame from to in
      let knows : Knows restart (store_at life frame) (between life restart.first frame) = (was.done, was.numbers) in
      let still = subst (λ (s : Store). Knows restart s (between next restart.first frame)) (sym (store_is frame to))
      (subst (Knows restart (store_at life frame)) (sym (changes_are frame from to)) knows) in
      record { done = still.0; numbers = still.1 }

  last_known : KnowsDone restart next (end_of life + 1)
  last_known = done_goes_on parts restart.short restart.tables (m.base + 1) m.opening life restart step change is_next lasts.reachable.first within follows.low
      (lasts.reachable.prefix (end_of life) lasts.reachable.end (omega arith))

  abbrev ShowsAt : Store → ℕ → Type 0
  ShowsAt store count = Shows parts store.tables store.layouts store.done (published later (count - later.before))

  shown : (frame : ℕ) → marks.durable ≤ frame → frame ≤ end_of life → ShowsAt (store_at next frame) (commits_at restart next frame)
  shown frame from to =
      let store = store_at life frame in
      let count = commits_at restart life frame in
      subst (λ (s : Store). ShowsAt s (commits_at restart next frame)) (sym (store_is frame to))
      (subst (ShowsAt store) (sym (commits_are frame from to))
      (subst (Shows parts store.tables store.layouts store.done) (sym (same_rows m later follows.opening follows.published_stays count (lasts.made frame from to)))
      (lasts.publishes frame from to)))

  last_shown : ShowsAt (store_at next (end_of life + 1)) (commits_at restart next (end_of life + 1))
  last_shown =
      subst (λ (s : Store). ShowsAt s (commits_at restart next (end_of life + 1))) (sym (last_is (end_of life + 1) refl))
      (subst (ShowsAt (after_step (store_at life (end_of life)) step)) (sym last_commits) follows.shows)

  files : KeepCells restart.short (places_at next (max restart.redo next.start)) (cells_by (between next restart.redo (max marks.applied next.start))) now.files
  files =
      let reach = lasts.reachable in
      same_cells restart.short (places_at next (max restart.redo life.start)) (cells_by (between next restart.redo (max marks.applied life.start))) before now others
      (subst (λ (places : Places). KeepCells restart.short places (cells_by (between next restart.redo (max marks.applied life.start))) before.files)
      (sym (same_places parts restart.short restart.tables (m.base + 1) m.opening life step change is (max restart.redo life.start)
      (omega arith) (omega (arith, reach.redo_to, reach.applied, reach.start, reach.end))))
      (subst (λ (changes : List Change). KeepCells restart.short (places_at life (max restart.redo life.start)) (cells_by changes) before.files)
      (sym (same_changes life step change restart.redo (max marks.applied life.start)
      (omega (arith, is.redo_from, reach.redo_from)) (omega (arith, reach.redo_to)) (omega (arith, reach.applied, reach.start, reach.end))))
      reach.files))

  pub step_lasts : LeavesFronts marks.durable next.changes (now.files the_log) → Lasts parts least later next restart marks now
  step_lasts leaves =
      let one = same_segment restart life next before now refl others lasts.segment in
      let reach = lasts.reachable in
      record {
        is_life = same_life parts restart.short restart.tables m later next follows.opening is_next;
        segment = one;
        valid = same_valid restart before now others lasts.valid;
        reachable = record {
          first = reach.first;
          redo_from = reach.redo_from;
          redo_to = reach.redo_to;
          applied = reach.applied;
          durable = reach.durable;
          start = reach.start;
          end = omega (arith, reach.end, ends);
          log = log_kept next restart marks now one leaves;
          files = files;
          prefix = each (KnowsDone restart next) known last_known;
        };
        publishes = each (λ frame. ShowsAt (store_at next frame) (commits_at restart next frame)) shown last_shown;
        acknowledged = each (λ frame. least ≤ commits_at restart next frame)
            (λ frame from to. omega (arith, commits_are frame from to, lasts.acknowledged frame from to))
            (omega (arith, last_commits, rose, lasts.all_commits, lasts.acknowledged (end_of life) reach.end (omega arith)));
        made = each (λ frame. commits_at restart next frame ≤ commits later)
            (λ frame from to. omega (arith, commits_are frame from to, lasts.made frame from to, rose))
            (omega (arith, last_commits));
        all_commits = ap (commits_at restart next) ends ∙ last_commits;
      }
