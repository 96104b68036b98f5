-- Commit and rollback.
use Rattle.std.proofs.Common.{◌≡◌, ◌≢◌, ℕ, ◌+◌, ◌≤◌, ◌<◌, ◌^◌, Bool, true, false, List, [], ◌∷◌, ◌++◌, length, zero, suc, Option, Some, None, Ok, Err, refl, sym, ap, subst, ◌∙◌, inr, arith, append-nil}
use Rattle.std.specs.Prelude.{◌&&◌, cond, is_some, nat_lt, slice_index_or, slice_set}
use Rattle.px_active.specs.Active.{AreStored, IsActiveOf, IsWriterIn, commits_after, end_call, writer_in}
use Rattle.px_active.specs.declared.active.Active.{Active}
use Rattle.px_appending.specs.Appending.{IsFlushed, LastsThere}
use Rattle.px_log.specs.Touching.{TouchesLog}
use Rattle.px_calls.specs.Histories.{by}
use Rattle.px_calls.specs.declared.call.Call.TheVariants.{Commit, Rollback}
use Rattle.px_calls.specs.declared.reply.Reply.{Reply}
use Rattle.px_calls.specs.Steps.{open_of, reply_of, state_after}
use Rattle.px_cell_laws.proofs.Closing.{commit_written, end_written, rollback_written}
use Rattle.px_cell_laws.proofs.Ending.{commit_follows, commit_holds, rollback_follows, rollback_holds}
use Rattle.px_cell_laws.proofs.Showing.{committed_shown}
use Rattle.px_cell_laws.specs.Locating.{AreWrittenAt}
use Rattle.px_chain_laws.proofs.Keeping.{kept_call}
use Rattle.px_chain_laws.specs.Kept.{IsKept}
use Rattle.px_history.proofs.Holding.{change_held}
use Rattle.px_history.proofs.Writing.{history_writer}
use Rattle.px_history.specs.Steps.{Step, after_step}
use Rattle.px_history.specs.Store.{Store}
use Rattle.px_life.specs.Life.{end_of}
use Rattle.px_logged.proofs.Adding.{commit_adds as commit_logs, rollback_adds as rollback_logs}
use Rattle.px_logged.proofs.Grown.{others_keep_committed}
use Rattle.px_logged.specs.Logged.{logged}
use Rattle.px_model.specs.declared.machine.Open.{Open}
use Rattle.px_model.specs.declared.write.Write.{Write}
use Rattle.px_model.specs.Machine.{Machine, commits}
use Rattle.px_shown.specs.Parts.{no_parts}
use Rattle.px_site.proofs.Causes.{then_none_fell}
use Rattle.px_site.proofs.Moments.{weaker_moments}
use Rattle.px_site.specs.Cause.{Counts, HasCause, IsOwn, NoneFell, Rose}
use Rattle.px_site.specs.declared.error.Fault.{Fault}
use Rattle.px_site.specs.declared.error.Fault.TheVariants.{Sync}
use Rattle.px_site.specs.declared.error.SiteError.{SiteError}
use Rattle.px_site.specs.declared.error.SiteError.TheVariants.{OutOfMemory as SiteShort, Fault as SiteFault}
use Rattle.px_site.specs.State.{EachMoment, State}
use Rattle.px_standing.specs.Images.{LeavesOthers, acked}
use Rattle.px_tidying.specs.Opening.{HasStore}
use Rattle.px_working.proofs.Adding.{commit_adds, rollback_adds}
use Rattle.px_working.proofs.Calling.{adds_follows, works_on}
use Rattle.px_working.specs.Follows.{last_store, with_step}
use Rattle.px_working.specs.Works.{Works}
use Rattle.px_xacts.specs.declared.transaction.Transaction.{Transaction}
use Rattle.px_xacts.specs.Transactions as xacts
use Rattle.px_xacts.specs.Transactions.{Transactions}
use Rattle.px_xacts_laws.proofs.Mirroring.{session_known}
use Rattle.px_xacts_laws.specs.Mirrors.{Mirrors, known_of_open, known_of_transaction}
use Rattle.px_core.specs.Core.{IsWell, durable_of, frames_of, opening_of}
use Rattle.px_core.specs.Errors.{IsPassing, of_site}
use Rattle.px_core.specs.Serving.{Does}
use Rattle.px_core.specs.Working.{LeavesAtFault, Refuses, StandsWithin, WorksFor, durable_after}
use Rattle.px_core.specs.declared.error.CoreError.TheVariants.{LogFull}
use Rattle.px_core.specs.declared.state.Kept.{Kept}
use Rattle.px_core.proofs.Appended.{Appends, FollowsBy, IsFramed, life_on, stands_on, works_with, found_with, last_others}
use Rattle.px_core.proofs.Crashing.{each_stands, others_then, stands_then}
use Rattle.px_core.proofs.Leaving.{LeavesCells}
use Rattle.px_core.proofs.Still.{Still, same_stored, still_answered}

-- ---- an end without writes

same_slot : {X : Type 0} (slots : List (Option X)) (at : ℕ) → slice_index_or slots at None ≡ None → slice_set slots at None ≡ slots
same_slot [] at none = refl
same_slot (slot ∷ slots) zero none = ap (λ (s : Option _). s ∷ slots) (sym none)
same_slot (slot ∷ slots) (suc at) none = ap (λ (others : List (Option _)). slot ∷ others) (same_slot slots at none)

unopened_end : (all : Transactions) (session : ℕ) (committed : Bool) → xacts.open_of all session ≡ None → xacts.ended all session committed ≡ all
unopened_end all session committed none =
    ap (λ (slot : Option Transaction). record all {
      outcomes = all.outcomes ++ xacts.outcomes_of committed slot;
      queue = all.queue ++ xacts.unswept_of (length all.outcomes) committed slot;
      active = slice_set all.active session None;
    }) none
    ∙ ap (λ (l : List _). record all { outcomes = l; queue = all.queue ++ []; active = slice_set all.active session None }) (append-nil all.outcomes)
    ∙ ap (λ (l : List _). record all { queue = l; active = slice_set all.active session None }) (append-nil all.queue)
    ∙ ap (λ (l : List _). record all { active = l }) (same_slot all.active session none)

known_none : (slot : Option Transaction) → known_of_transaction slot ≡ None → slot ≡ None
known_none None known = refl
known_none (Some transaction) known = absurd cc

pub ended_written : (m : Machine) (all : Transactions) (store : Store) (session : ℕ) (committed : Bool) → Mirrors m all → IsKept m → AreWrittenAt all store
    → AreWrittenAt (xacts.ended all session committed) store
ended_written m all store session committed mirrors kept written = by_slot (open_of m session) refl
  where
    by_slot : (slot : Option Open) → open_of m session ≡ slot → AreWrittenAt (xacts.ended all session committed) store
    by_slot None at = subst (λ (a : Transactions). AreWrittenAt a store)
        (sym (unopened_end all session committed (known_none (xacts.open_of all session) (session_known m all session mirrors ∙ ap known_of_open at)))) written
    by_slot (Some x) at = end_written m all store session committed x mirrors kept at written

-- the transaction ended in memory, and all else is as it was
pub record EndsInMemory {W : Type 0} (session : ℕ) (committed : Bool) (old new : Kept W) (reply : Reply) : Type 0 where
  pub reply_is : (m : Machine) → IsActiveOf m old.active → reply ≡ reply_of m session (end_call committed)
  pub active : (m : Machine) → IsKept m → IsActiveOf m old.active → IsActiveOf (state_after m session (end_call committed)) new.active
  pub xacts : new.active.xacts ≡ xacts.ended old.active.xacts session committed

-- the sessions' things were the same when it ended
pub ends_behind : {W : Type 0} (session : ℕ) (committed : Bool) (old mid new : Kept W) (reply : Reply) → mid.active ≡ old.active
    → EndsInMemory session committed mid new reply → EndsInMemory session committed old new reply
ends_behind session committed old mid new reply same ends = record {
  reply_is = λ m is. ends.reply_is m (subst (IsActiveOf m) (sym same) is);
  active = λ m kept is. ends.active m kept (subst (IsActiveOf m) (sym same) is);
  xacts = ends.xacts ∙ ap (λ (a : Active). xacts.ended a.xacts session committed) same;
}

module _ {W : Type 0} (tells : Type 0) (state : W → State) (counts : W → Counts) (session : ℕ) (committed : Bool) (old new : Kept W) (reply : Reply)
    (Holds : (m : Machine) → WorksFor state old m → Type 0) (ends : EndsInMemory session committed old new reply) where
  written_ended : (m : Machine) (works : WorksFor state old m) → AreWrittenAt new.active.xacts (last_store works.life)
  written_ended m works = subst (λ (all : Transactions). AreWrittenAt all (last_store works.life)) (sym ends.xacts)
      (ended_written m old.active.xacts (last_store works.life) session committed works.active.mirrors works.works.kept works.written_at)

  pub empty_end_does : Still tells state old new → IsWell state old → old.error ≡ None → new.active.commits ≡ old.active.commits
      → (AreStored old.active.xacts → AreStored new.active.xacts) → NoneFell (counts old.site) (counts new.site)
      → ((m : Machine) → WorksFor state old m → LeavesCells m session (end_call committed))
      → Does tells state counts session (end_call committed) old new Holds (Ok reply)
  empty_end_does still well whole count keeps fell leaves =
      still_answered tells state counts session (end_call committed) old new Holds still well whole count keeps fell reply
      (λ t m works holds. record {
        reply_is = ends.reply_is m works.active;
        leaves = leaves m works;
        active = ends.active m works.works.kept works.active;
        written = written_ended m works;
      })

-- only the sessions' things are others
pub unmoved : {W : Type 0} (tells : Type 0) (state : W → State) (old : Kept W) (active : Active) → Still tells state old (record old { active = active })
unmoved tells state old active = record { form = record { short = refl; count = refl }; keeps = λ store serves. serves; same = λ t. refl; log = refl; error = refl }

pub none_counted : (active : Active) (session : ℕ) (committed : Bool) → writer_in active.xacts session ≡ None → commits_after active session committed ≡ active.commits
none_counted active session true none = ap (λ (who : Option ℕ). cond (true && is_some who) (active.commits + 1) active.commits) none
none_counted active session false none = refl

-- ---- an end with writes

some_writes : (writes : List Write) → writes ≢ [] → 0 < length writes
some_writes [] some = absurd (some refl)
some_writes (w ∷ writes) some = omega arith

pub commit_step : {W : Type 0} (state : W → State) (session xn number : ℕ) (old : Kept W) (m : Machine) (works : WorksFor state old m) (writer : IsWriterIn m session xn)
    → number ≡ commits m + 1 → number < 2 ^ 64 → FollowsBy state session Commit old m works (Step.commit xn number)
commit_step state session xn number old m works writer counted small =
    let x = writer.xact in
    subst (λ (k : ℕ). FollowsBy state session Commit old m works (Step.commit xn k)) (sym counted)
    (subst (λ (n : ℕ). FollowsBy state session Commit old m works (Step.commit n (commits m + 1))) (sym writer.stored)
    (adds_follows committed_shown change_held no_parts (acked m) m works.life works.restart works.marks (state old.site).now session Commit
    (Step.commit (m.base + x.number) (commits m + 1)) works.has.lasts works.works
    (commit_adds commit_follows commit_holds kept_call history_writer no_parts (acked m) m works.life works.restart works.marks (state old.site).now session x
    works.has.lasts works.works writer.is_open writer.has_writes (subst (λ (k : ℕ). k < 2 ^ 64) counted small))))

pub rollback_step : {W : Type 0} (state : W → State) (session xn : ℕ) (old : Kept W) (m : Machine) (works : WorksFor state old m) (writer : IsWriterIn m session xn)
    → FollowsBy state session Rollback old m works (Step.rollback xn)
rollback_step state session xn old m works writer =
    let x = writer.xact in
    subst (λ (n : ℕ). FollowsBy state session Rollback old m works (Step.rollback n)) (sym writer.stored)
    (adds_follows committed_shown change_held no_parts (acked m) m works.life works.restart works.marks (state old.site).now session Rollback
    (Step.rollback (m.base + x.number)) works.has.lasts works.works
    (rollback_adds rollback_follows rollback_holds kept_call no_parts m works.life works.restart session x works.works writer.is_open writer.has_writes))

pub commit_logged : (m : Machine) (session xn : ℕ) → IsWriterIn m session xn → length (logged m session Commit) ≡ 1
commit_logged m session xn writer = ap length (commit_logs m session writer.xact writer.is_open (some_writes writer.xact.writes writer.has_writes))

pub rollback_logged : (m : Machine) (session xn : ℕ) → IsWriterIn m session xn → length (logged m session Rollback) ≡ 1
rollback_logged m session xn writer = ap length (rollback_logs m session writer.xact writer.is_open (some_writes writer.xact.writes writer.has_writes))

pub some_logged : {A : Type 0} (changes : List A) → length changes ≡ 1 → changes ≢ []
some_logged [] one none = absurd cc
some_logged (change ∷ changes) one none = absurd cc

-- ---- the frame of an end

-- what the machine has for the frame of a rollback
pub rollback_framed : {W : Type 0} (tells : Type 0) (state : W → State) (counts : W → Counts) (session xn : ℕ) (old new : Kept W) (reply : Reply)
    (Holds : (m : Machine) → WorksFor state old m → Type 0) (ends : EndsInMemory session false old new reply)
    → (m : Machine) (works : WorksFor state old m) → IsWriterIn m session xn → IsFramed state session Rollback old new (Step.rollback xn) m works reply
rollback_framed {W} tells state counts session xn old new reply Holds ends m works is = record {
  reply_is = ends.reply_is m works.active;
  follows = rollback_step state session xn old m works is;
  goes = subst (λ (n : ℕ). Works no_parts (state_after m session Rollback) (with_step works.restart.short works.life (Step.rollback n)) works.restart) (sym is.stored)
      (works_on no_parts (acked m) m works.life works.restart works.marks (state old.site).now session Rollback (Step.rollback (m.base + is.xact.number))
      works.has.lasts works.works (rollback_holds no_parts m (last_store works.life) session is.xact works.works.holds works.works.kept is.is_open is.has_writes)
      (kept_call m session Rollback works.works.kept));
  active = ends.active m works.works.kept works.active;
  written = rollback_written new.active.xacts (last_store works.life) xn (written_ended tells state counts session false old new reply Holds ends m works);
  one = rollback_logged m session xn is;
  one_version = tt;
  writer = omega (arith, is.stored, works.works.kept.numbered.open_ones.given session is.xact is.is_open);
}

pub rollback_commits : (m : Machine) (session : ℕ) → commits (state_after m session Rollback) ≡ commits m
rollback_commits m session = (others_keep_committed m session Rollback (λ e. absurd cc)).commits

-- and for that of a commit
pub commit_framed : {W : Type 0} (tells : Type 0) (state : W → State) (counts : W → Counts) (session xn number : ℕ) (old new : Kept W) (reply : Reply)
    (Holds : (m : Machine) → WorksFor state old m → Type 0) (ends : EndsInMemory session true old new reply)
    → (m : Machine) (works : WorksFor state old m) → IsWriterIn m session xn → number ≡ commits m + 1 → number < 2 ^ 64
    → IsFramed state session Commit old new (Step.commit xn number) m works reply
commit_framed {W} tells state counts session xn number old new reply Holds ends m works is counted small =
    subst (λ (n : ℕ). IsFramed state session Commit old new (Step.commit xn n) m works reply) (sym counted) (record {
      reply_is = ends.reply_is m works.active;
      follows = commit_step state session xn (commits m + 1) old m works is refl (subst (λ (n : ℕ). n < 2 ^ 64) counted small);
      goes = subst (λ (n : ℕ). Works no_parts (state_after m session Commit) (with_step works.restart.short works.life (Step.commit n (commits m + 1))) works.restart) (sym is.stored)
          (works_on no_parts (acked m) m works.life works.restart works.marks (state old.site).now session Commit (Step.commit (m.base + is.xact.number) (commits m + 1))
          works.has.lasts works.works (commit_holds no_parts m (last_store works.life) session is.xact works.works.holds works.works.kept is.is_open is.has_writes)
          (kept_call m session Commit works.works.kept));
      active = ends.active m works.works.kept works.active;
      written = commit_written new.active.xacts (last_store works.life) xn (commits m + 1) (written_ended tells state counts session true old new reply Holds ends m works);
      one = commit_logged m session xn is;
      one_version = tt;
      writer = omega (arith, is.stored, works.works.kept.numbered.open_ones.given session is.xact is.is_open);
    })

-- ---- the sync of a commit

-- all frames are synced with a commit that has one
all_synced : {W : Type 0} (m : Machine) (session : ℕ) (old : Kept W) → length (logged m session Commit) ≡ 1 → durable_after m (by session Commit) old ≡ frames_of old + 1
all_synced m session old one = ap (λ (n : ℕ). cond (nat_lt 0 n) (frames_of old + n) (durable_of old)) one

-- the frames of the core are made durable, or not; the tables and the log stay as they were but for that
pub record Flushes {W : Type 0} (tells : Type 0) (state : W → State) (counts : W → Counts) (mid new : Kept W) : Type 0 where
  pub store : (store : Store) → HasStore store (opening_of state mid) → HasStore store (opening_of state new)
  pub moments : LastsThere tells (opening_of state mid) (opening_of state new)
  pub touches : tells → TouchesLog 1 (state mid.site) (state new.site)
  pub frames : new.log.frames ≡ mid.log.frames
  pub none_fell : NoneFell (counts mid.site) (counts new.site)

module _ {W : Type 0} (tells : Type 0) (state : W → State) (counts : W → Counts) (session xn number : ℕ) (old mid new : Kept W)
    (appends : Appends tells state counts (Step.commit xn number) old mid) (flushes : Flushes tells state counts mid new) (well : IsWell state old)
    (Holds : (m : Machine) → WorksFor state old m → Type 0)
    (follows : (m : Machine) (works : WorksFor state old m) → FollowsBy state session Commit old m works (Step.commit xn number)) where
  abbrev after : Machine → Machine
  after m = state_after m session Commit

  both_stand : tells → (m : Machine) (works : WorksFor state old m) → StandsWithin state session Commit m old new
  both_stand t m works =
      let step = Step.commit xn number in
      let next = after m in
      let has = life_on tells state session Commit old mid step t m works (follows m works) appends.goes in
      stands_then (acked m) (commits next) next (state old.site) (state mid.site) (state new.site)
      (stands_on tells state session Commit old mid step t m works (follows m works) appends.moments)
      (each_stands (acked m) next works.restart (state mid.site) (state new.site)
      (flushes.moments t no_parts (acked m) next (with_step works.restart.short works.life step) works.restart works.marks has))

  both_others : tells → (m : Machine) → WorksFor state old m → EachMoment (LeavesOthers (state old.site).now) (state old.site) (state new.site)
  both_others t m works =
      others_then (state old.site) (state mid.site) (state new.site)
      (weaker_moments (λ now on. on.others) (appends.touches t).alone) (weaker_moments (λ now on. on.others) (flushes.touches t).alone)

  both_well : new.active.commits ≤ old.active.commits + 1 → (AreStored old.active.xacts → AreStored new.active.xacts) → IsWell state new
  both_well count keeps = record {
    store = after_step well.store (Step.commit xn number);
    has = flushes.store (after_step well.store (Step.commit xn number)) (appends.store well.store well.has);
    few = omega (arith, well.few, count, flushes.frames, appends.frames);
    stored = keeps well.stored;
  }

  -- the sync was done
  pub commit_does : (reply : Reply) → new.error ≡ None → new.active.commits ≤ old.active.commits + 1
      → (AreStored old.active.xacts → AreStored new.active.xacts) → durable_of new ≡ frames_of mid
      → IsFlushed tells (opening_of state mid) (opening_of state new)
      → ((m : Machine) (works : WorksFor state old m) → IsFramed state session Commit old new (Step.commit xn number) m works reply)
      → Does tells state counts session Commit old new Holds (Ok reply)
  commit_does reply whole count keeps marks flushed framed = record {
    answered = λ t m works holds.
        let step = Step.commit xn number in
        let is = framed m works in
        let has = life_on tells state session Commit old mid step t m works (follows m works) appends.goes in
        let later = with_step works.restart.short works.life step in
        record {
          reply_is = is.reply_is;
          works = works_with tells state session Commit old new step t m works (follows m works) (record works.marks { durable = end_of later }) whole
              (flushed t no_parts (acked m) (after m) later works.restart works.marks has) is.goes is.active is.written
              (found_with tells state session Commit old new step t m works (follows m works) is.one_version is.writer (last_others state old new (both_others t m works)));
          frames = omega (arith, flushes.frames, appends.frames, is.one);
          durable = marks ∙ appends.frames ∙ sym (all_synced m session old is.one);
          room = λ full. absurd (omega (arith, full, appends.room));
        };
    moments = λ t m works holds. both_stand t m works;
    others = both_others;
    refused = tt;
    full = λ t m works holds. tt;
    sound = λ t. tt;
    steady = whole;
    well = both_well count keeps;
    none_fell = then_none_fell appends.none_fell flushes.none_fell;
  }

  -- it wasn't
  rose_before : (f : Counts → ℕ) → f (counts old.site) ≤ f (counts mid.site) → Rose (f (counts mid.site)) (f (counts new.site)) → Rose (f (counts old.site)) (f (counts new.site))
  rose_before f below rose = omega (arith, below, rose)

  sync_fault : (fault : Fault) → fault ≡ Sync → new.error ≡ Some (SiteFault fault) → LeavesAtFault tells state fault old new
  sync_fault fault is error = subst (λ (f : Fault). new.error ≡ Some (SiteFault f) → LeavesAtFault tells state f old new) (sym is) (λ e. e) error

  refuses_sync : (error : SiteError) → new.error ≡ Some error → HasCause (counts mid.site) (counts new.site) error → IsOwn Sync error
      → Refuses tells state counts Commit old new (of_site error)
  refuses_sync SiteShort kept cause own =
      let rose = rose_before (λ c. c.shorts) appends.none_fell.shorts (cause.short refl) in
      record { leaves = inr (kept, rose); cause = rose }
  refuses_sync (SiteFault fault) kept cause own = record {
    leaves = sync_fault fault own kept;
    cause = (inr own, rose_before (λ c. c.faults fault) (appends.none_fell.faults fault) (cause.fault fault refl));
  }

  not_full : (error : SiteError) (n : ℕ) → of_site error ≡ LogFull n → ⊥
  not_full SiteShort n is = cc is
  not_full (SiteFault fault) n is = cc is

  passes : (error : SiteError) → IsPassing (of_site error)
  passes SiteShort = tt
  passes (SiteFault fault) = tt

  pub sync_fails : (error : SiteError) → new.error ≡ Some error → new.active ≡ old.active → HasCause (counts mid.site) (counts new.site) error → IsOwn Sync error
      → Does tells state counts session Commit old new Holds (Err (of_site error))
  sync_fails error kept same cause own = record {
    answered = λ t m works holds. tt;
    moments = λ t m works holds. both_stand t m works;
    others = both_others;
    refused = refuses_sync error kept cause own;
    full = λ t m works holds n is. absurd (not_full error n is);
    sound = λ t. passes error;
    steady = tt;
    well = both_well (let count = ap (λ (a : Active). a.commits) same in omega (arith, count)) (same_stored old.active new.active same);
    none_fell = then_none_fell appends.none_fell flushes.none_fell;
  }
