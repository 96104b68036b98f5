-- What the sessions have, and calls that neither write nor end a transaction.
use Rattle.std.proofs.Common.{◌≡◌, ℕ, Bool, true, false, cond, List, Option, Some, None, option_map, refl, sym, ap, subst, ◌∙◌, arith}
use Rattle.std.proofs.lemmas.Bool.{true≢false}
use Rattle.std.proofs.Math.Seq.{map-set_same}
use Rattle.px_active.specs.declared.active.Active.{Active}
use Rattle.px_active.specs.Active.{IsActiveOf, only_reads}
use Rattle.px_answers.specs.Keeping.{Kept, KeepsTickets, none_kept}
use Rattle.px_answers.proofs.KeptByTickets.{call_keeps, fresh_keeps}
use Rattle.px_calls.specs.declared.call.Call.{Call}
use Rattle.px_calls.specs.declared.call.Call.TheVariants.{Begin, Commit, Delete as DeleteCall, Fetch, Find, Get, Hold, Insert, Rollback, Scan, Update}
use Rattle.px_calls.specs.Steps.{is_refusal, open_of, plus_kept, reply_of, state_after, state_when_done, with_slot}
use Rattle.px_calls.proofs.EveryMachine.{refusal_changes_nothing}
use Rattle.px_cell_laws.specs.Writing.{is_end}
use Rattle.px_chain_laws.specs.Kept.{IsKept}
use Rattle.px_locks.specs.Holders.{holder_of}
use Rattle.px_locks_laws.proofs.Calls.{at_first, others}
use Rattle.px_model.specs.declared.machine.Open.{Open}
use Rattle.px_model.specs.declared.row.Row.{Row}
use Rattle.px_model.specs.Machine.{Machine, commits, fresh, view}
use Rattle.px_model.specs.Rows.{Key, row_at}
use Rattle.px_xacts.specs.Transactions as transactions
use Rattle.px_xacts.specs.Transactions.{Transactions}
use Rattle.px_xacts_laws.specs.Mirrors.{Mirrors, known_of_open}
use Rattle.px_xacts_laws.proofs.Mirroring.{begin_mirrors, fresh_mirrors}

-- ---- commits

done_commits_none : (m : Machine) (session : ℕ) (call : Call) → is_end call ≡ false → commits (state_when_done m session call) ≡ commits m
unfolding state_when_done commits
done_commits_none m session Begin no_end = refl
done_commits_none m session (Get table key) no_end = refl
done_commits_none m session (Hold table key) no_end = refl
done_commits_none m session (Fetch ticket) no_end = refl
done_commits_none m session (Find table tag) no_end = refl
done_commits_none m session (Scan table) no_end = refl
done_commits_none m session (Insert table key tag body) no_end = refl
done_commits_none m session (Update table key tag body) no_end = refl
done_commits_none m session (DeleteCall table key) no_end = refl
done_commits_none m session Commit no_end = absurd (true≢false no_end)
done_commits_none m session Rollback no_end = absurd (true≢false no_end)

-- a call that ends no transaction makes no commit
pub commits_none : (m : Machine) (session : ℕ) (call : Call) → is_end call ≡ false → commits (state_after m session call) ≡ commits m
unfolding state_after
commits_none m session call no_end = elim (is_refusal (reply_of m session call)) as (λ b. commits (cond b m (state_when_done m session call)) ≡ commits m) [
  | true ↦ refl
  | false ↦ done_commits_none m session call no_end
]

-- ---- calls that change nothing

pub refused_leaves : (m : Machine) (active : Active) (session : ℕ) (call : Call) → IsActiveOf m active → is_refusal (reply_of m session call) ≡ true
    → IsActiveOf (state_after m session call) active
refused_leaves m active session call is refused =
    subst (λ (o : Machine). IsActiveOf o active) (sym (refusal_changes_nothing m session call refused)) is

both : (b : Bool) (m : Machine) → cond b m m ≡ m
both true m = refl
both false m = refl

changes_nothing : (m : Machine) (session : ℕ) (call : Call) → only_reads call ≡ true → state_after m session call ≡ m
unfolding state_after state_when_done
changes_nothing m session (Get table key) reads = both (is_refusal (reply_of m session (Get table key))) m
changes_nothing m session (Fetch ticket) reads = both (is_refusal (reply_of m session (Fetch ticket))) m
changes_nothing m session (Find table tag) reads = both (is_refusal (reply_of m session (Find table tag))) m
changes_nothing m session (Scan table) reads = both (is_refusal (reply_of m session (Scan table))) m
changes_nothing m session _ reads = absurd (true≢false (sym reads))

pub reading_leaves : (m : Machine) (active : Active) (session : ℕ) (call : Call) → IsActiveOf m active → only_reads call ≡ true
    → IsActiveOf (state_after m session call) active
reading_leaves m active session call is reads = subst (λ (o : Machine). IsActiveOf o active) (sym (changes_nothing m session call reads)) is

-- ---- a hold

-- the session's transaction changes, and what both know of it doesn't
same_known : (m : Machine) (all : Transactions) (session : ℕ) (slot : Option Open) → Mirrors m all → known_of_open slot ≡ known_of_open (open_of m session)
    → Mirrors (with_slot m session slot) all
same_known m all session slot h same = record {
  base = h.base;
  begun = h.begun;
  outcomes = h.outcomes;
  queue = h.queue;
  active = h.active ∙ sym (map-set_same known_of_open m.active session slot None same);
  swept = h.swept;
}

keeping_is_unknown : (f : Open → Option Row) (slot : Option Open) → known_of_open (option_map (λ x. plus_kept (f x) x) slot) ≡ known_of_open slot
keeping_is_unknown f None = refl
keeping_is_unknown f (Some x) = refl

hold_mirrors : (m : Machine) (all : Transactions) (session table : ℕ) (key : List ℕ) → Mirrors m all → Mirrors (state_after m session (Hold table key)) all
unfolding state_after state_when_done
hold_mirrors m all session table key h =
    elim (is_refusal (reply_of m session (Hold table key))) as (λ b. Mirrors (cond b m (state_when_done m session (Hold table key))) all) [
      | true ↦ h
      | false ↦ same_known m all session (option_map (λ x. plus_kept (row_at (table, key) (view m x)) x) (open_of m session)) h
          (keeping_is_unknown (λ x. row_at (table, key) (view m x)) (open_of m session))
    ]

pub hold_leaves : (m : Machine) (active : Active) (tickets : Kept) (session table : ℕ) (key : List ℕ) → IsKept m → IsActiveOf m active
    → KeepsTickets tickets (state_after m session (Hold table key)) → IsActiveOf (state_after m session (Hold table key)) (record active { tickets = tickets })
hold_leaves m active tickets session table key kept is keeps = record {
  mirrors = hold_mirrors m active.xacts session table key is.mirrors;
  holders = others m active.locks session (Hold table key) kept is.holders refl (λ e. absurd cc) (λ e. absurd cc);
  kept = keeps;
  commits = is.commits ∙ sym (commits_none m session (Hold table key) refl);
}

-- ---- a begin, and an opening

pub begin_leaves : (m : Machine) (old new : Active) (session frames : ℕ) → IsKept m → IsActiveOf m old
    → new.xacts ≡ transactions.after_begin old.xacts session frames → new.locks ≡ old.locks → new.tickets ≡ old.tickets → new.commits ≡ old.commits
    → IsActiveOf (state_after m session Begin) new
begin_leaves m old new session frames kept is xacts locks tickets count = record {
  mirrors = subst (λ (all : Transactions). Mirrors (state_after m session Begin) all) (sym xacts) (begin_mirrors m old.xacts session frames is.mirrors);
  holders = λ (key : Key). ap (holder_of key) locks ∙ others m old.locks session Begin kept is.holders refl (λ e. absurd cc) (λ e. absurd cc) key;
  kept = subst (λ (t : Kept). KeepsTickets t (state_after m session Begin)) (sym tickets) (call_keeps old.tickets m session Begin refl refl is.kept);
  commits = count ∙ is.commits ∙ sym (commits_none m session Begin refl);
}

fresh_commits : (tables short : ℕ) (opening : List Row) (before base : ℕ) → commits (fresh tables short opening before base) ≡ before
unfolding fresh commits
fresh_commits tables short opening before base = omega arith

pub fresh_is : (tables short : ℕ) (opening : List Row) (before base : ℕ) (active : Active) → active.xacts ≡ transactions.fresh base
    → ((key : Key) → holder_of key active.locks ≡ None) → active.tickets ≡ none_kept → active.commits ≡ before
    → IsActiveOf (fresh tables short opening before base) active
fresh_is tables short opening before base active xacts free tickets count = record {
  mirrors = subst (λ (all : Transactions). Mirrors (fresh tables short opening before base) all) (sym xacts) (fresh_mirrors tables short opening before base);
  holders = at_first tables short opening before base active.locks free;
  kept = subst (λ (t : Kept). KeepsTickets t (fresh tables short opening before base)) (sym tickets) (fresh_keeps tables short opening before base);
  commits = count ∙ sym (fresh_commits tables short opening before base);
}
