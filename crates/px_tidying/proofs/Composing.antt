-- Calls one after the other: which steps they made, and that a store lasts through them.
use Rattle.std.proofs.Common.{◌≡◌, ℕ, ◌+◌, ◌≤◌, List, [], ◌++◌, length, refl, sym, ap, subst, ◌∙◌, arith, length-append}
use Rattle.std.proofs.lemmas.Grind.{fold-append}
use Rattle.px_beginning.proofs.Steps.{last_steps}
use Rattle.px_beginning.specs.Tidied.{with_steps}
use Rattle.px_history.specs.Steps.{Step, after_step, after_steps}
use Rattle.px_history.specs.Store.{Store}
use Rattle.px_life.specs.Life.{Life}
use Rattle.px_log.proofs.Touching.{last_moment, none_touched, touches_less, touches_then}
use Rattle.px_model.specs.Machine.{Machine}
use Rattle.px_reached.specs.Reachable.{Marks}
use Rattle.px_restart.specs.declared.restart.Restart.{Restart}
use Rattle.px_shown.specs.Parts.{Parts}
use Rattle.px_site.proofs.Moments.{same_moment, then_moments, weaker_moments}
use Rattle.px_site.specs.State.{State}
use Rattle.px_working.specs.Follows.{last_store, with_step}
use Rattle.px_working.specs.Lasts.{Lasts}
use Rattle.px_tidying.specs.Opening.{HasLife, HasStore, LastsStill, LastsThrough, Made, Opening}

-- ---- calls that only read

-- The tables serve what they served, the log is the same one and, where the site tells, nothing happened.
pub record OnlyReads (tells : Type 0) (old new : Opening) : Type 0 where
  pub store : (store : Store) → HasStore store old → HasStore store new
  pub log : new.log ≡ old.log
  pub site : tells → new.site ≡ old.site

pub reads_twice : (tells : Type 0) (a b c : Opening) → OnlyReads tells a b → OnlyReads tells b c → OnlyReads tells a c
reads_twice tells a b c first second = record {
  store = λ store has. second.store store (first.store store has);
  log = second.log ∙ first.log;
  site = λ t. second.site t ∙ first.site t;
}

pub still_life : (tells : Type 0) (parts : Parts) (least : ℕ) (m : Machine) (life : Life) (restart : Restart) (marks : Marks) (old new : Opening)
    → OnlyReads tells old new → tells → HasLife parts least m life restart marks old → HasLife parts least m life restart marks new
still_life tells parts least m life restart marks old new reads t has = record {
  lasts = subst (λ (s : State). Lasts parts least m life restart marks s.now) (sym (reads.site t)) has.lasts;
  store = reads.store (last_store life) has.store;
  logged = rw (reads.log, reads.site t) has.logged;
  durable = ap (λ log. log.durable) reads.log ∙ has.durable;
  tables = ap (λ log. log.tables) reads.log ∙ has.tables;
  short = ap (λ log. log.short) reads.log ∙ has.short;
}

-- ---- none

pub none_made : (tells : Type 0) (store : Store) (old new : Opening) → OnlyReads tells old new → HasStore store old → Made tells store [] old new
none_made tells store old new reads has = record {
  after = reads.store store has;
  frames = let same : old.log.frames + 0 ≡ old.log.frames = omega arith in ap (λ log. log.frames) reads.log ∙ sym same;
  tables = ap (λ log. log.tables) reads.log;
  touches = λ t. none_touched (reads.site t);
  life = λ t parts least m life restart marks its had. still_life tells parts least m life restart marks old new reads t had;
}

pub reads_last : (tells : Type 0) (store : Store) (old new : Opening) → (tells → new.site ≡ old.site) → LastsThrough tells store old new
reads_last tells store old new same t parts least m life restart marks its has = same_moment (same t)

-- and behind others they make no difference
pub made_still : (tells : Type 0) (store : Store) (steps : List Step) (a b c : Opening) → Made tells store steps a b → OnlyReads tells b c → Made tells store steps a c
made_still tells store steps a b c made reads = record {
  after = reads.store (after_steps store steps) made.after;
  frames = ap (λ log. log.frames) reads.log ∙ made.frames;
  tables = ap (λ log. log.tables) reads.log ∙ made.tables;
  touches = λ t. touches_less (omega arith) (touches_then (made.touches t) (none_touched (reads.site t)));
  life = λ t parts least m life restart marks its had.
      still_life tells parts least m (with_steps restart.short life steps) restart marks b c reads t (made.life t parts least m life restart marks its had);
}

-- ---- one call, and then another

pub both_made : (tells : Type 0) (store : Store) (steps more : List Step) (a b c : Opening) → Made tells store steps a b → Made tells (after_steps store steps) more b c
    → Made tells store (steps ++ more) a c
both_made tells store steps more a b c first second = record {
  after = subst (λ (s : Store). HasStore s c) (sym (fold-append after_step store steps more)) second.after;
  frames =
      let one = first.frames in
      let two = second.frames in
      omega (arith, one, two, length-append steps more);
  tables = second.tables ∙ first.tables;
  touches = λ t. touches_less (omega (arith, length-append steps more)) (touches_then (first.touches t) (second.touches t));
  life = λ t parts least m life restart marks its has.
      let middle = first.life t parts least m life restart marks its has in
      let at : last_store (with_steps restart.short life steps) ≡ after_steps store steps =
      last_steps restart.short life steps has.lasts.is_life.count ∙ ap (λ (s : Store). after_steps s steps) its in
      subst (λ (l : Life). HasLife parts least m l restart marks c) (sym (fold-append (with_step restart.short) life steps more))
      (second.life t parts least m (with_steps restart.short life steps) restart marks at middle);
}

pub both_last : (tells : Type 0) (store : Store) (steps : List Step) (a b c : Opening) → Made tells store steps a b → LastsThrough tells store a b
    → LastsThrough tells (after_steps store steps) b c → LastsThrough tells store a c
both_last tells store steps a b c made first second t parts least m life restart marks its has =
    let middle = made.life t parts least m life restart marks its has in
    let at : last_store (with_steps restart.short life steps) ≡ after_steps store steps =
    last_steps restart.short life steps has.lasts.is_life.count ∙ ap (λ (s : Store). after_steps s steps) its in
    let before = first t parts least m life restart marks its has in
    let told : b.site.now.told ≡ a.site.now.told =
    last_moment (λ now. now.told ≡ a.site.now.told) refl (weaker_moments (λ now still. still.told) before) in
    then_moments before
    (weaker_moments (λ now still. record { life = still.life; marks = still.marks; lasts = still.lasts; told = still.told ∙ told; telling = still.telling })
    (second t parts least m (with_steps restart.short life steps) restart marks at middle))

-- a call that only reads before it makes no difference
pub reads_then : (tells : Type 0) (store : Store) (a b c : Opening) → OnlyReads tells a b → HasStore store a → LastsThrough tells store b c → LastsThrough tells store a c
reads_then tells store a b c reads has second =
    both_last tells store [] a b c (none_made tells store a b reads has) (reads_last tells store a b reads.site) second
