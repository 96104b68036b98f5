-- The frame of an end: that the log may hold it, and that no table changes.
use Rattle.std.proofs.Common.{◌≡◌, ℕ, ◌+◌, ◌^◌, ◌<◌, true, Option, Some, None, refl, ap, subst, sym}
use Rattle.std.specs.Prelude.{IfSome, nat_le, nat_lt}
use Rattle.std.proofs.lemmas.Bool.{and_from, le-leb, lt-ltb}
use Rattle.px_change.specs.Grammar.{has_commit, is_change, is_stored, may_hold}
use Rattle.px_change.specs.declared.change.Change.{Change}
use Rattle.px_change.specs.declared.change.ChangeKind.TheVariants.{Commit}
use Rattle.px_held.proofs.Serving.{anywhere, committed, rolled_back}
use Rattle.px_held.specs.Serving.{HeldTables}
use Rattle.px_history.specs.Fitting.{IsStoredNumber}
use Rattle.px_history.specs.Steps.{after_commit, after_rollback, after_step}
use Rattle.px_history.specs.Store.{Store, nothing}
use Rattle.px_history.specs.Written.{change_of}
use Rattle.px_log.specs.Log.{Log, with_frame}
use Rattle.px_model.specs.declared.limits.TheConstants.{STORED_NUMBERS_END}
use Rattle.px_site.specs.State.{State}
use Rattle.px_tidying.specs.Opening.{HasStore, opening}
use Rattle.px_appending.specs.Ends.{IsDue, end_step}
use Rattle.px_appending.proofs.Going.{store_after}

stored : (xn : ℕ) → IsStoredNumber xn → is_stored xn ≡ true
stored xn is = and_from (nat_le 1 xn) (nat_lt xn STORED_NUMBERS_END) (le-leb 1 xn is.0) (lt-ltb xn STORED_NUMBERS_END is.1)

change_held : (log : Log) (xn : ℕ) (commit : Option ℕ) → IsStoredNumber xn → IfSome commit (IsDue log) → IfSome commit (λ number. number < 2 ^ 64)
    → may_hold log.tables log.frames log.short (change_of log.short nothing (end_step xn commit)) ≡ true
unfolding may_hold is_change
change_held log xn None is due small = and_from _ _ (and_from (is_stored xn) _ (stored xn is) refl) refl
change_held log xn (Some number) is due small =
    and_from _ _
    (and_from (is_stored xn) _ (stored xn is)
    (and_from (has_commit Commit number) _ (and_from (nat_le 1 number) (nat_lt number (2 ^ 64)) (le-leb 1 number due.some) (lt-ltb number (2 ^ 64) small)) refl))
    (le-leb number (log.frames + 1) due.within)

number_small : (xn : ℕ) (commit : Option ℕ) (change : Change) → change ≡ change_of 0 nothing (end_step xn commit) → change.commit < 2 ^ 64
    → IfSome commit (λ number. number < 2 ^ 64)
number_small xn None change is small = tt
number_small xn (Some number) change is small = subst (λ (n : ℕ). n < 2 ^ 64) (ap (λ (c : Change). c.commit) is) small

pub end_held : (log : Log) (xn : ℕ) (commit : Option ℕ) (change : Change) → IsStoredNumber xn → IfSome commit (IsDue log)
    → ((short : ℕ) (store : Store) → change ≡ change_of short store (end_step xn commit)) → change.commit < 2 ^ 64
    → may_hold log.tables log.frames log.short change ≡ true
end_held log xn commit change is due of small =
    subst (λ (c : Change). may_hold log.tables log.frames log.short c ≡ true) (sym (of log.short nothing))
    (change_held log xn commit is due (number_small xn commit change (of 0 nothing) small))

pub end_stored : (store : Store) (xn : ℕ) (commit : Option ℕ) (s other : State) (held : HeldTables) (log later : Log) (change : Change) → HasStore store (opening s held log)
    → later ≡ with_frame change log → log.frames < 2 ^ 48 → HasStore (after_step store (end_step xn commit)) (opening other held later)
end_stored store xn None s other held log later change has its below =
    store_after store (after_rollback store xn) (opening s held log) (opening other held later) change has
    (rolled_back other held store xn (anywhere s other held store has.serves)) has.numbers has.places (record { short = refl; count = refl }) its below
end_stored store xn (Some number) s other held log later change has its below =
    store_after store (after_commit store xn) (opening s held log) (opening other held later) change has
    (committed other held store xn (anywhere s other held store has.serves)) has.numbers has.places (record { short = refl; count = refl }) its below
