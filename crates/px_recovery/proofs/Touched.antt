-- An opening touches no file but the log and the restart files.
use Rattle.std.proofs.Common.{◌≡◌, ℕ, ◌+◌, false, Result, refl, sym, ap, subst, ◌∙◌, inl, inr, arith}
use Rattle.px_log.proofs.Touching.{changes_fewer, changes_then, none_changes}
use Rattle.px_log.specs.Touching.{ChangesAtMost, LogAlone}
use Rattle.px_restart.specs.Restart.{IsPicked}
use Rattle.px_restart.specs.declared.restart.Restart.{Restart}
use Rattle.px_site.proofs.Files.{with_file_other, with_file_same}
use Rattle.px_site.proofs.Moments.{same_moment, sync_moments, then_moments, weaker_moments}
use Rattle.px_site.specs.Disk.{at_rest}
use Rattle.px_site.specs.State.{EachMoment, Moment, State, Syncs, durable}
use Rattle.px_site.specs.declared.error.SiteError.{SiteError}
use Rattle.px_site.specs.declared.name.FileName.{FileName}
use Rattle.px_standing.specs.Files.{Files, first_restart, second_restart}
use Rattle.px_xlog.specs.Contents.{the_log}
use Rattle.px_cell_standing.specs.Touching.{IsAsRead, TouchesOwn}
use Rattle.px_cell_opening.specs.Opened.{TouchesAsOpened, Unlinks}
use Rattle.px_recovery.specs.Making.{first_file, second_file}
use Rattle.px_recovery.specs.Touching.{TouchesOwnFiles, UnlinksIn}
use Rattle.px_recovery.proofs.Quiet.{last_moment}

-- ---- at each moment

pub none_touched : (a : State) → TouchesOwn a a.now
none_touched a = record { first = inl refl; second = inl refl; others = λ name log first second. refl }

still_read : (name : FileName) (a : State) (m n : Moment) → n.files name ≡ m.files name → IsAsRead name a m → IsAsRead name a n
still_read name a m n same (inl is) = inl (same ∙ is)
still_read name a m n same (inr rests) = inr (same ∙ rests)

pub first_synced : {T : Type 0} {a b c : State} {r : Result T SiteError} → TouchesOwn a b.now → b.content ≡ a.content → Syncs first_file b c r → EachMoment (TouchesOwn a) b c
first_synced {T} {a} {b} touched content syncs = sync_moments syncs
    (record { first = touched.first; second = touched.second; others = touched.others })
    (record {
      first = inr (with_file_same first_file (at_rest (b.content first_file)) b.now.files ∙ ap (λ (files : Files). at_rest (files first_file)) content);
      second = still_read second_file a b.now (durable first_file (b.content first_file) b.now) (with_file_other first_file second_file (at_rest (b.content first_file)) b.now.files refl) touched.second;
      others = λ name log first second.
          with_file_other first_file name (at_rest (b.content first_file)) b.now.files first ∙ touched.others name log first second;
    })

pub second_synced : {T : Type 0} {a b c : State} {r : Result T SiteError} → TouchesOwn a b.now → b.content ≡ a.content → Syncs second_file b c r → EachMoment (TouchesOwn a) b c
second_synced {T} {a} {b} touched content syncs = sync_moments syncs
    (record { first = touched.first; second = touched.second; others = touched.others })
    (record {
      first = still_read first_file a b.now (durable second_file (b.content second_file) b.now) (with_file_other second_file first_file (at_rest (b.content second_file)) b.now.files refl) touched.first;
      second = inr (with_file_same second_file (at_rest (b.content second_file)) b.now.files ∙ ap (λ (files : Files). at_rest (files second_file)) content);
      others = λ name log first second.
          with_file_other second_file name (at_rest (b.content second_file)) b.now.files second ∙ touched.others name log first second;
    })

-- one restart file, and then the other
pub both_synced : {T U : Type 0} {a b c : State} {r : Result T SiteError} {q : Result U SiteError} → Syncs first_file a b r → b.content ≡ a.content → Syncs second_file b c q
    → EachMoment (TouchesOwn a) a c
both_synced {T} {U} {a} {b} {c} one content two =
    let first = first_synced (none_touched a) refl one in
    then_moments first (second_synced (last_moment (TouchesOwn a) (none_touched a) first) content two)

-- and then the log alone
log_behind : {a b c : State} → EachMoment (TouchesOwn a) a b → EachMoment (LogAlone b.now) b c → EachMoment (TouchesOwn a) a c
log_behind {a} {b} {c} before alone =
    let touched = last_moment (TouchesOwn a) (none_touched a) before in
    then_moments before (weaker_moments (λ m on. record {
      first = still_read first_file a b.now m (on.others first_file refl) touched.first;
      second = still_read second_file a b.now m (on.others second_file refl) touched.second;
      others = λ name log first second. on.others name log ∙ touched.others name log first second;
    }) alone)

-- ---- call by call

pub nothing_touched : {a b : State} → b ≡ a → TouchesOwnFiles a b
nothing_touched {a} {b} same = record {
  count = 0;
  unlinked = inl refl;
  own = same_moment same;
  few = changes_fewer (omega arith) (none_changes same);
  others = λ name away. ap (λ (s : State). s.content name) same;
}

pub touched_from : {a b c : State} → b ≡ a → TouchesOwnFiles b c → TouchesOwnFiles a c
touched_from {a} {b} {c} same = subst (λ (s : State). TouchesOwnFiles s c) same

pub touched_still : {a b c : State} → TouchesOwnFiles a b → c ≡ b → TouchesOwnFiles a c
touched_still {a} touched same = subst (TouchesOwnFiles a) (sym same) touched

-- the restart files alone
pub restarts_touched : {a b : State} → EachMoment (TouchesOwn a) a b → ChangesAtMost 2 a b → b.content ≡ a.content → TouchesOwnFiles a b
restarts_touched own few content = record {
  count = 0;
  unlinked = inl refl;
  own = own;
  few = changes_fewer (omega arith) few;
  others = λ name away. ap (λ (files : Files). files name) content;
}

-- behind them the store was opened
pub opened_touched : (restart : Restart) {a b c : State} → IsPicked (first_restart a.content) (second_restart a.content) restart → EachMoment (TouchesOwn a) a b → ChangesAtMost 2 a b → b.content ≡ a.content
    → TouchesAsOpened restart (b.content the_log) b c → TouchesOwnFiles a c
opened_touched restart {a} {b} {c} picked own few content opened = record {
  count = opened.count;
  unlinked = elim opened.unlinked [
    | inl none ↦ inl none
    | inr unlinks ↦ inr (record { restart = restart; picked = picked; unlinks = subst (λ bytes. Unlinks restart bytes opened.count) (ap (λ (files : Files). files the_log) content) unlinks })
  ];
  own = log_behind own opened.touches.alone;
  few = changes_fewer (omega arith) (changes_then few opened.touches.few);
  others = λ name away. opened.touches.others name away ∙ ap (λ (files : Files). files name) content;
}
