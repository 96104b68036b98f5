-- What holds of every machine.
use Rattle.std.proofs.Common.{◌≡◌, ℕ, ◌+◌, ◌-◌, Bool, true, false, cond, List, [], ◌∷◌, ◌++◌, length, take, Option, Some, None, arith, refl, sym, ap, ◌∙◌}
use Rattle.std.specs.Prelude.{filter, flat_map, count_by, ◌==◌, if◌then◌else◌}
use Rattle.std.proofs.Math.Seq.{take-length}
use Rattle.std.proofs.lemmas.List.Sums.{length-filter, sum_by-append}
use Rattle.px_model.specs.declared.machine.Ended.{Ended}
use Rattle.px_model.specs.declared.machine.Open.{Open}
use Rattle.px_model.specs.Rows.{after}
use Rattle.px_model.specs.Machine.{Machine, commits, published, view}
use Rattle.px_calls.specs.declared.call.Call.{Call}
use Rattle.px_calls.specs.declared.call.Call.TheVariants.{Commit}
use Rattle.px_calls.specs.declared.reply.Reply.{Reply}
use Rattle.px_calls.specs.declared.reply.Reply.TheVariants.{Committed, EndedEmpty}
use Rattle.px_calls.specs.Steps.{is_refusal, new_transaction, open_of, reply_of, state_when_done, state_after, if_open, entries_of, closed}

pub refusal_changes_nothing : (m : Machine) (session : ℕ) (call : Call) → is_refusal (reply_of m session call) ≡ true → state_after m session call ≡ m
unfolding state_after
refusal_changes_nothing m session call refused = ap (λ (b : Bool). cond b m (state_when_done m session call)) refused

-- ---- commits

abbrev is_committed : Ended → Bool
is_committed e = e.committed

-- one committed entry more counts one more
one_more : (ended : List Ended) (e : Ended) → e.committed ≡ true → count_by is_committed (ended ++ e ∷ []) ≡ count_by is_committed ended + 1
one_more ended e done =
    sum_by-append (λ (x : Ended). cond x.committed 1 0) ended (e ∷ [])
    ∙ ap (λ (b : Bool). count_by is_committed ended + (0 + cond b 1 0)) done

-- what a commit replies, by the session's transaction
abbrev commit_reply : Machine → Option Open → Reply
commit_reply m slot = if_open slot (λ xact. if length xact.writes == 0 then EndedEmpty else Committed (commits m + 1))

counted : (m : Machine) (count : ℕ) (slot : Option Open) → commit_reply m slot ≡ Committed count
    → m.before + count_by is_committed (m.ended ++ entries_of true slot) ≡ count
unfolding commits
counted m count None replied = cc
counted m count (Some xact) replied =
    let e : Ended = record { number = xact.number; committed = true; snap = xact.snap; writes = xact.writes } in
    (elim (length xact.writes == 0) as (λ b. cond b EndedEmpty (Committed (m.before + count_by is_committed m.ended + 1)) ≡ Committed count
    → m.before + count_by is_committed (m.ended ++ cond b [] (e ∷ [])) ≡ count) [
      | true ↦ λ r. cc
      | false ↦ λ r. let same : m.before + count_by is_committed m.ended + 1 ≡ count = cc in omega (arith, one_more m.ended e refl)
    ]) replied

pub commit_counts_itself : (m : Machine) (session count : ℕ) → reply_of m session Commit ≡ Committed count → commits (state_after m session Commit) ≡ count
unfolding reply_of state_after state_when_done commits
commit_counts_itself m session count replied =
    ap (λ (reply : Reply). commits (cond (is_refusal reply) m (closed m session true))) replied ∙ counted m count (open_of m session) replied

-- ---- snapshots

pub new_transaction_sees_all : (m : Machine) → view m (new_transaction m) ≡ published m (commits m - m.before)
unfolding view published commits
new_transaction_sees_all m =
    let committed = λ (e : Ended). e.committed in
    let count : m.before + count_by committed m.ended - m.before ≡ length (filter committed m.ended) =
    omega (arith, length-filter committed m.ended) in
    ap (λ (ended : List Ended). after m.opening (flat_map (λ (e : Ended). e.writes) (filter committed ended))) (take-length m.ended)
    ∙ ap (λ (ended : List Ended). after m.opening (flat_map (λ (e : Ended). e.writes) ended)) (sym (take-length (filter committed m.ended)))
    ∙ ap (λ (k : ℕ). after m.opening (flat_map (λ (e : Ended). e.writes) (take k (filter committed m.ended)))) (sym count)
