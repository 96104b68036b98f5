-- Calls that leave the cells.
use Rattle.std.proofs.Common.{◌≡◌, ℕ, ◌-◌, ◌≤◌, Bool, true, false, cond, leb, List, [], ◌++◌, map, reverse, Option, Some, None, refl, sym, ap, subst, ◌∙◌, arith}
use Rattle.std.specs.Prelude.{All}
use Rattle.std.proofs.lemmas.Bool.{false≢true}
use Rattle.std.proofs.lemmas.List.{append-nil}
use Rattle.px_calls.specs.declared.call.Call.{Call}
use Rattle.px_calls.specs.declared.call.Call.TheVariants.{Begin, Get, Hold, Fetch, Find, Scan, Insert, Update, Delete as DeleteCall, Commit, Rollback}
use Rattle.px_calls.specs.Steps.{entry_of, is_refusal, open_of, reply_of, state_after, state_when_done}
use Rattle.px_cells.specs.declared.slot.Slot.{Slot}
use Rattle.px_model.specs.declared.standing.Standing.TheVariants.{Before}
use Rattle.px_chain.specs.Sound.{key_of}
use Rattle.px_chain_laws.specs.Kept.{IsKept}
use Rattle.px_chain_laws.specs.Reading.{is_committed, standing_in}
use Rattle.px_chain_laws.specs.Writing.{write_of}
use Rattle.px_chain_laws.proofs.Moving.{calls_keep_chains}
use Rattle.px_history.specs.Store.{Store, versions_of}
use Rattle.px_model.specs.Chains.{chain}
use Rattle.px_model.specs.Machine.{Machine}
use Rattle.px_model.specs.Rows.{Key}
use Rattle.px_model.specs.declared.machine.Ended.{Ended}
use Rattle.px_model.specs.declared.machine.Open.{Open}
use Rattle.px_model.specs.declared.machine.Variation.{Variation}
use Rattle.px_shown.specs.Shown.{AreToldByChains}
use Rattle.px_shown.specs.Tables.{AreSound}
use Rattle.px_xacts.specs.Transactions.{standing_from}
use Rattle.px_xacts_laws.specs.Mirrors.{outcome_of}
use Rattle.px_cell_laws.specs.Holding.{HoldsChains, if_any, is_rolled_back, newest_first, variations_in}
use Rattle.px_cell_laws.specs.Writing.{is_end}
use Rattle.px_cell_laws.proofs.Ends.{KeepsBase, calls_keep_base, calls_keep_ended, commit_ends, no_entry, rollback_ends}
use Rattle.px_shown.specs.Parts.{Parts}

pub same_standing : (m n : Machine) (xn : Option ℕ) → n.base ≡ m.base → n.ended ≡ m.ended → standing_in n xn ≡ standing_in m xn
same_standing m n None base ended = refl
same_standing m n (Some xn) base ended =
    ap (λ (b : ℕ). cond (leb xn b) Before (standing_from 0 (map outcome_of n.ended) (xn - b))) base
    ∙ ap (λ (l : List Ended). cond (leb xn m.base) Before (standing_from 0 (map outcome_of l) (xn - m.base))) ended

-- what was found at the opening is done, whatever the base is called
pub found_of : (store : Store) (base other : ℕ) → other ≡ base → ((t row : ℕ) → All (λ slot. slot.xn ≤ base → store.done slot.xn ≡ true) (versions_of store t row))
    → (t row : ℕ) → All (λ slot. slot.xn ≤ other → store.done slot.xn ≡ true) (versions_of store t row)
found_of store base other same found t row =
    subst (λ (b : ℕ). All (λ (slot : Slot). slot.xn ≤ b → store.done slot.xn ≡ true) (versions_of store t row)) (sym same) (found t row)

pub same_chains : (parts : Parts) (m n : Machine) (store : Store) → HoldsChains parts m store → n.base ≡ m.base → ((key : Key) → chain n key ≡ chain m key)
    → AreToldByChains store.tables store.layouts (variations_in parts n.base) (newest_first n)
same_chains parts m n store h base same = record {
  of_row = λ t row used.
      ap (λ (l : List Variation). if_any (reverse l)) (same (t, key_of (store.tables t) row))
      ∙ h.chains.of_row t row used
      ∙ ap (λ (b : ℕ). variations_in parts b t (versions_of store t row)) (sym base);
  of_none = λ key none. ap (λ (l : List Variation). if_any (reverse l)) (same key) ∙ h.chains.of_none key none;
}

-- another machine with these chains and ends
pub holds_the_same : (parts : Parts) (m n : Machine) (store : Store) → HoldsChains parts m store → KeepsBase m n → n.ended ≡ m.ended → ((key : Key) → chain n key ≡ chain m key)
    → HoldsChains parts n store
holds_the_same parts m n store h keeps ended same = record {
  sound = subst (λ (short : ℕ). AreSound short store.tables store.layouts) (sym keeps.short) h.sound;
  chains = same_chains parts m n store h keeps.base same;
  found = found_of store m.base n.base keeps.base h.found;
  done = λ xn past. h.done xn (omega (arith, past, keeps.base)) ∙ ap is_committed (sym (same_standing m n (Some xn) keeps.base ended));
  over = λ xn past. h.over xn (omega (arith, past, keeps.base)) ∙ ap is_rolled_back (sym (same_standing m n (Some xn) keeps.base ended));
}

pub refused_leaves : (parts : Parts) (m : Machine) (store : Store) (session : ℕ) (call : Call) → HoldsChains parts m store → is_refusal (reply_of m session call) ≡ true
    → HoldsChains parts (state_after m session call) store
unfolding state_after
refused_leaves parts m store session call h refused =
    subst (λ (b : Bool). HoldsChains parts (cond b m (state_when_done m session call)) store) (sym refused) h

pub reads_leave : (parts : Parts) (m : Machine) (store : Store) (session : ℕ) (call : Call) → HoldsChains parts m store → IsKept m → write_of call ≡ None → is_end call ≡ false
    → HoldsChains parts (state_after m session call) store
reads_leave parts m store session call h k writes ends =
    holds_the_same parts m (state_after m session call) store h (calls_keep_base m session call) (calls_keep_ended m session call ends)
    (λ key. calls_keep_chains m session call key k writes)

without_writes : (m : Machine) (x : Open) (committed : Bool) (ended : List Ended) → x.writes ≡ [] → ended ≡ m.ended ++ entry_of committed x → ended ≡ m.ended
without_writes m x committed ended none is = is ∙ ap (λ (l : List Ended). m.ended ++ l) (no_entry committed x none) ∙ append-nil m.ended

pub empty_end_leaves : (parts : Parts) (m : Machine) (store : Store) (session : ℕ) (call : Call) (xact : Open) → HoldsChains parts m store → IsKept m
    → is_end call ≡ true → open_of m session ≡ Some xact → xact.writes ≡ [] → HoldsChains parts (state_after m session call) store
empty_end_leaves parts m store session Begin xact h k ends at none = absurd (false≢true ends)
empty_end_leaves parts m store session (Get table key) xact h k ends at none = absurd (false≢true ends)
empty_end_leaves parts m store session (Hold table key) xact h k ends at none = absurd (false≢true ends)
empty_end_leaves parts m store session (Fetch ticket) xact h k ends at none = absurd (false≢true ends)
empty_end_leaves parts m store session (Find table tag) xact h k ends at none = absurd (false≢true ends)
empty_end_leaves parts m store session (Scan table) xact h k ends at none = absurd (false≢true ends)
empty_end_leaves parts m store session (Insert table key tag body) xact h k ends at none = absurd (false≢true ends)
empty_end_leaves parts m store session (Update table key tag body) xact h k ends at none = absurd (false≢true ends)
empty_end_leaves parts m store session (DeleteCall table key) xact h k ends at none = absurd (false≢true ends)
empty_end_leaves parts m store session Commit xact h k ends at none =
    holds_the_same parts m (state_after m session Commit) store h (calls_keep_base m session Commit)
    (without_writes m xact true (state_after m session Commit).ended none (commit_ends m session xact at))
    (λ key. calls_keep_chains m session Commit key k refl)
empty_end_leaves parts m store session Rollback xact h k ends at none =
    holds_the_same parts m (state_after m session Rollback) store h (calls_keep_base m session Rollback)
    (without_writes m xact false (state_after m session Rollback).ended none (rollback_ends m session xact at))
    (λ key. calls_keep_chains m session Rollback key k refl)
