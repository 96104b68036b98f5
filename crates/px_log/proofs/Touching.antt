-- Calls that touch only the log, and how they add up.
use Rattle.std.proofs.Common.{◌≡◌, ℕ, ◌+◌, ◌*◌, ◌≤◌, false, List, [], ◌∷◌, ◌++◌, length, Result, Ok, Err, OnOk, refl, sym, ap, subst, ◌∙◌, append_assoc, arith, length-append}
use Rattle.std.specs.List.{AllByRecursion}
use Rattle.px_site.proofs.Moments.{same_moment, then_moments, weaker_moments}
use Rattle.px_site.specs.Disk.{Change}
use Rattle.px_site.specs.Names.{same_file}
use Rattle.px_site.specs.State.{Changes, EachMoment, Moment, OnFault, OnShort, State, Syncs, changed, failed, history, not_synced, synced}
use Rattle.px_site.specs.declared.error.SiteError.{SiteError}
use Rattle.px_site.specs.declared.error.SiteError.TheVariants.{OutOfMemory, Fault}
use Rattle.px_site.specs.declared.name.FileName.{FileName}
use Rattle.px_xlog.specs.Contents.{the_log}
use Rattle.px_log.specs.Touching.{ChangesAtMost, LogAlone, TouchesLog}
use Rattle.px_log.proofs.Alone.{change_alone, sync_alone}
use Rattle.px_log.proofs.OtherFiles.{change_leaves_others, sync_leaves_contents}

-- ---- how many calls

pub none_changes : {old new : State} → new ≡ old → ChangesAtMost 0 old new
none_changes {old} {new} same = record { added = []; grown = ap history same; few = omega arith }

pub changes_then : {m n : ℕ} {a b c : State} → ChangesAtMost m a b → ChangesAtMost n b c → ChangesAtMost (m + n) a c
changes_then {m} {n} {a} {b} {c} first second = record {
  added = second.added ++ first.added;
  grown = second.grown ∙ ap (λ (h : List Moment). second.added ++ h) first.grown ∙ sym (append_assoc second.added first.added (history a));
  few = let one = first.few in let two = second.few in omega (arith, one, two, length-append second.added first.added);
}

pub changes_fewer : {m n : ℕ} {a b : State} → m ≤ n → ChangesAtMost m a b → ChangesAtMost n a b
changes_fewer {m} {n} {a} {b} le changes = record { added = changes.added; grown = changes.grown; few = let few = changes.few in omega (arith, few, le) }

-- the two moments of a call
two_more : {a b : State} (within after : Moment) → history b ≡ after ∷ within ∷ history a → ChangesAtMost 1 a b
two_more within after grown = record { added = after ∷ within ∷ []; grown = grown; few = omega arith }

pub one_change : {T : Type 0} {file : FileName} {change : Change} {a b : State} {r : Result T SiteError} → Changes file change a b r → ChangesAtMost 1 a b
one_change {T} {file} {change} {a} {b} {r} moves = by_result r moves.ok moves.fault moves.short
  where
    by_result : (r : Result T SiteError) → OnOk r (b ≡ changed file change a) → OnFault r ((left : List ℕ) × (b ≡ failed file change left a)) → OnShort r (b ≡ a) → ChangesAtMost 1 a b
    by_result (Ok _) ok fault short = two_more _ _ (ap history ok)
    by_result (Err OutOfMemory) ok fault short = changes_fewer (omega arith) (none_changes short)
    by_result (Err (Fault _)) ok fault short = two_more _ _ (ap history fault.1)

pub one_sync : {T : Type 0} {file : FileName} {a b : State} {r : Result T SiteError} → Syncs file a b r → ChangesAtMost 1 a b
one_sync {T} {file} {a} {b} {r} moves = by_result r moves.ok moves.fault moves.short
  where
    by_result : (r : Result T SiteError) → OnOk r (b ≡ synced file a) → OnFault r (b ≡ not_synced a) → OnShort r (b ≡ a) → ChangesAtMost 1 a b
    by_result (Ok _) ok fault short = two_more _ _ (ap history ok)
    by_result (Err OutOfMemory) ok fault short = changes_fewer (omega arith) (none_changes short)
    by_result (Err (Fault _)) ok fault short = two_more _ _ (ap history fault)

-- ---- what is touched

same_head : {X : Type 0} (x y : X) (xs ys : List X) → x ∷ xs ≡ y ∷ ys → x ≡ y
same_head x y xs ys same = cc

-- what holds before a call and at each moment of it holds after it
pub last_moment : {old new : State} (P : Moment → Type 0) → P old.now → EachMoment P old new → P new.now
last_moment {old} {new} P here moments = by_added moments.added moments.grown moments.each
  where
    by_added : (added : List Moment) → history new ≡ added ++ history old → AllByRecursion P added → P new.now
    by_added [] grown each = subst P (sym (same_head new.now old.now new.past old.past grown)) here
    by_added (m ∷ added) grown each = subst P (sym (same_head new.now m new.past (added ++ history old) grown)) each.0

-- the others are as they were, and no more was told
record IsBesideLog (before now : Moment) : Type 0 where
  pub others : (name : FileName) → same_file the_log name ≡ false → now.files name ≡ before.files name
  pub told : now.told ≡ before.told

alone_then : {a b c : State} → EachMoment (LogAlone a.now) a b → EachMoment (LogAlone b.now) b c → EachMoment (LogAlone a.now) a c
alone_then {a} {b} {c} first second =
    let same : IsBesideLog a.now b.now =
    last_moment (IsBesideLog a.now) (record { others = λ name away. refl; told = refl }) (weaker_moments (λ m on. record { others = on.others; told = on.told }) first) in
    then_moments first
    (weaker_moments (λ m on. record { this = tt; others = λ name away. on.others name away ∙ same.others name away; told = on.told ∙ same.told; telling = on.telling }) second)

-- a call that only reads
pub none_touched : {old new : State} → new ≡ old → TouchesLog 0 old new
none_touched {old} {new} same = record { alone = same_moment same; few = none_changes same; others = λ name away. ap (λ (s : State). s.content name) same }

-- one call, and then another
pub touches_then : {m n : ℕ} {a b c : State} → TouchesLog m a b → TouchesLog n b c → TouchesLog (m + n) a c
touches_then {m} {n} {a} {b} {c} first second = record {
  alone = alone_then first.alone second.alone;
  few = changes_then first.few second.few;
  others = λ name away. second.others name away ∙ first.others name away;
}

pub touches_less : {m n : ℕ} {a b : State} → m ≤ n → TouchesLog m a b → TouchesLog n a b
touches_less {m} {n} {a} {b} le touches = record { alone = touches.alone; few = changes_fewer le touches.few; others = touches.others }

-- where nothing changed, however many calls there might have been
pub still_touched : {n : ℕ} {old new : State} → new ≡ old → TouchesLog n old new
still_touched {n} {old} {new} same = touches_less (omega arith) (none_touched same)

pub change_touches : {T : Type 0} {file : FileName} {change : Change} {a b : State} {r : Result T SiteError} → file ≡ the_log → Changes file change a b r → TouchesLog 1 a b
change_touches {T} {file} {change} {a} {b} {r} is moves = record { alone = change_alone is moves; few = one_change moves; others = change_leaves_others is moves }

pub sync_touches : {T : Type 0} {file : FileName} {a b : State} {r : Result T SiteError} → file ≡ the_log → Syncs file a b r → TouchesLog 1 a b
sync_touches {T} {file} {a} {b} {r} is moves = record { alone = sync_alone is moves; few = one_sync moves; others = λ name away. sync_leaves_contents moves name }
