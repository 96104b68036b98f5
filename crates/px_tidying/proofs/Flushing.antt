-- The sync behind the last frame.
use Rattle.std.proofs.Common.{◌≡◌, ℕ, ◌+◌, ◌≤◌, List, [], length, refl, sym, ap, subst, ◌∙◌, arith}
use Rattle.px_change.specs.declared.change.Change.{Change}
use Rattle.px_held.proofs.Serving.{anywhere}
use Rattle.px_held.specs.Serving.{HeldTables, Serves}
use Rattle.px_history.specs.Store.{Store}
use Rattle.px_life.specs.Life.{Life, end_of}
use Rattle.px_log.specs.Log.{HasFirst, IsLogOf, Log}
use Rattle.px_model.specs.Machine.{Machine, commits}
use Rattle.px_model.specs.declared.limits.TheConstants.{MOST_TABLES}
use Rattle.px_reached.specs.Reachable.{Marks}
use Rattle.px_restart.specs.declared.restart.Restart.{Restart}
use Rattle.px_shown.specs.Parts.{Parts}
use Rattle.px_site.proofs.Moments.{weaker_moments}
use Rattle.px_site.specs.State.{EachMoment, Moment, OnFile, State}
use Rattle.px_working.proofs.Moments.{synced_all, synced_meanwhile}
use Rattle.px_working.specs.Follows.{last_store}
use Rattle.px_working.specs.Lasts.{HasOthersOf, Lasts, LeavesFronts}
use Rattle.px_xlog.specs.Contents.{the_log}
use Rattle.px_tidying.specs.Opening.{HasLife, HasStore, LastsStill, LastsThrough, Opening}
use Rattle.px_log.proofs.Touching.{last_moment}
use Rattle.px_tidying.proofs.Made.{log_first}

-- at each moment of it the log has the fronts that it had
abbrev pub HasFronts : (tells : Type 0) (old new : Opening) → Type 0
HasFronts tells old new =
    tells → (changes : List Change) → IsLogOf old.log changes old.site
    → EachMoment (OnFile the_log old.site.now (HasFirst old.log.durable changes)) old.site new.site

meanwhile : (parts : Parts) (least : ℕ) (m : Machine) (life : Life) (restart : Restart) (marks : Marks) (old : Opening) → HasLife parts least m life restart marks old
    → (now : Moment) → OnFile the_log old.site.now (HasFirst old.log.durable life.changes) now → LastsStill parts least m restart old.site.now now
meanwhile parts least m life restart marks old has now on = record {
  life = life;
  marks = record marks { durable = marks.durable };
  lasts = synced_meanwhile parts least marks.durable m life restart marks old.site.now now has.lasts on.others (omega arith) has.lasts.reachable.end
      (subst (λ (n : ℕ). LeavesFronts n life.changes (now.files the_log)) has.durable on.this.each);
  told = on.told;
  telling = on.telling;
}

pub flush_lasts : (tells : Type 0) (store : Store) (old new : Opening) → HasFronts tells old new → LastsThrough tells store old new
flush_lasts tells store old new moments tell parts least m life restart marks its has =
    weaker_moments (meanwhile parts least m life restart marks old has) (moments tell life.changes has.logged)

pub flush_store : (store : Store) (old new : Opening) → HasStore store old → new.held ≡ old.held → new.log ≡ record old.log { durable = old.log.frames } → HasStore store new
flush_store store old new has held log = record {
  serves = anywhere old.site new.site new.held store (subst (λ (h : HeldTables). Serves old.site h store) (sym held) has.serves);
  numbers = has.numbers;
  places = has.places;
  is_short = rw held has.is_short;
  few = rw log has.few;
  room = rw log has.room;
  tables = rw (held, log) has.tables;
  short = rw (log, held) has.short;
}

pub flush_life : (tells : Type 0) (parts : Parts) (least : ℕ) (m : Machine) (life : Life) (restart : Restart) (marks : Marks) (old new : Opening) → tells
    → HasLife parts least m life restart marks old → new.held ≡ old.held → new.log ≡ record old.log { durable = old.log.frames }
    → IsLogOf new.log life.changes new.site → HasFronts tells old new
    → HasLife parts (commits m) m life restart (record marks { durable = end_of life }) new
flush_life tells parts least m life restart marks old new tell has held log logged moments =
    let store = flush_store (last_store life) old new has.store held log in
    let others : HasOthersOf old.site.now new.site.now =
    last_moment (HasOthersOf old.site.now) (λ name away. refl) (weaker_moments (λ now on. on.others) (moments tell life.changes has.logged)) in
    let known = has.lasts.segment.known in
    let count = has.logged.count in
    let whole : old.log.frames ≡ end_of life = omega (arith, known, count) in
    let durable : new.log.durable ≡ end_of life = ap (λ (l : Log). l.durable) log ∙ whole in
    record {
      lasts = synced_all parts least m life restart marks old.site.now new.site.now has.lasts others
          (subst (λ (n : ℕ). LeavesFronts n life.changes (new.site.now.files the_log)) durable (log_first new.log life.changes new.site logged store.room));
      store = store;
      logged = logged;
      durable = durable;
      tables = ap (λ (l : Log). l.tables) log ∙ has.tables;
      short = ap (λ (l : Log). l.short) log ∙ has.short;
    }
