-- A reading call leaves the machine as it was, whatever it replies.
use Rattle.std.proofs.Common.{◌≡◌, ℕ, Bool, true, false, cond, List, refl}
use Rattle.px_calls.specs.declared.call.Call.TheVariants.{Get, Fetch, Find, Scan}
use Rattle.px_model.specs.Machine.{Machine}
use Rattle.px_calls.specs.Steps.{is_refusal, reply_of, state_after, state_when_done}

either_way : {A : Type 0} (b : Bool) (x : A) → cond b x x ≡ x
either_way true x = refl
either_way false x = refl

pub get_changes_nothing : (m : Machine) (session table : ℕ) (key : List ℕ) → state_after m session (Get table key) ≡ m
unfolding state_after state_when_done
get_changes_nothing m session table key = either_way (is_refusal (reply_of m session (Get table key))) m

pub fetch_changes_nothing : (m : Machine) (session ticket : ℕ) → state_after m session (Fetch ticket) ≡ m
unfolding state_after state_when_done
fetch_changes_nothing m session ticket = either_way (is_refusal (reply_of m session (Fetch ticket))) m

pub find_changes_nothing : (m : Machine) (session table tag : ℕ) → state_after m session (Find table tag) ≡ m
unfolding state_after state_when_done
find_changes_nothing m session table tag = either_way (is_refusal (reply_of m session (Find table tag))) m

pub scan_changes_nothing : (m : Machine) (session table : ℕ) → state_after m session (Scan table) ≡ m
unfolding state_after state_when_done
scan_changes_nothing m session table = either_way (is_refusal (reply_of m session (Scan table))) m

pub ruleset reads_change_nothing = (get_changes_nothing, fetch_changes_nothing, find_changes_nothing, scan_changes_nothing)
