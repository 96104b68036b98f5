-- What became of transactions, and that calls which end none leave it.
use Rattle.std.proofs.Common.{◌≡◌, ◌≢◌, ℕ, ◌+◌, ◌-◌, ◌<◌, Bool, true, false, not, cond, eqb, List, [], ◌∷◌, ◌++◌, map, length, Option, Some, refl, sym, ap, ◌∙◌, arith}
use Rattle.std.proofs.lemmas.Bool.{cond_both, lt-leb, ne_eqb, true≢false}
use Rattle.std.proofs.lemmas.Option.{none-some}
use Rattle.std.proofs.lemmas.List.{map-append, nil_from_length}
use Rattle.px_model.specs.declared.machine.Ended.{Ended}
use Rattle.px_model.specs.declared.machine.Open.{Open}
use Rattle.px_model.specs.declared.write.Write.{Write}
use Rattle.px_model.specs.Machine.{Machine, commits}
use Rattle.px_calls.specs.declared.call.Call.{Call}
use Rattle.px_calls.specs.declared.call.Call.TheVariants.{Begin, Get, Hold, Fetch, Find, Scan, Insert, Update, Delete as DeleteCall, Commit, Rollback}
use Rattle.px_calls.specs.declared.reply.Reply.TheVariants.{Committed as CommittedReply, EndedEmpty, RolledBack as RolledBackReply}
use Rattle.px_calls.specs.Steps.{closed, entries_of, entry_of, if_open, is_refusal, open_of, reply_of, state_after, state_when_done}
use Rattle.px_model.specs.declared.standing.Standing.TheVariants.{Before, Open as OpenYet}
use Rattle.px_xacts.specs.declared.transaction.Outcome.{Outcome}
use Rattle.px_xacts.specs.Transactions.{standing_at, standing_from}
use Rattle.px_xacts.proofs.Standings.{standing_from-push_other, standing_from-push_same}
use Rattle.px_xacts_laws.specs.Mirrors.{outcome_of}
use Rattle.px_chain_laws.specs.Kept.{IsKept}
use Rattle.px_chain_laws.specs.Reading.{standing_in}
use Rattle.px_chain_laws.specs.Writing.{write_of}
use Rattle.px_chain_laws.proofs.Keeping.{by_call}
use Rattle.px_chain_laws.proofs.Standings.{open_are_open}
use Rattle.px_cell_laws.specs.Holding.{is_rolled_back}
use Rattle.px_cell_laws.specs.Writing.{is_end}

pub rolled_back_at : (place : ℕ) (committed : Bool) → is_rolled_back (standing_at place committed) ≡ not committed
rolled_back_at place true = refl
rolled_back_at place false = refl

pub standing_past : (m : Machine) (xn : ℕ) → m.base < xn → standing_in m (Some xn) ≡ standing_from 0 (map outcome_of m.ended) (xn - m.base)
standing_past m xn past = ap (λ b. cond b Before (standing_from 0 (map outcome_of m.ended) (xn - m.base))) (lt-leb xn m.base past)

-- ---- the base

pub record KeepsBase (m n : Machine) : Type 0 where
  pub short : n.short ≡ m.short
  pub base : n.base ≡ m.base

pub calls_keep_base : (m : Machine) (s : ℕ) (call : Call) → KeepsBase m (state_after m s call)
calls_keep_base m s call = by_call (KeepsBase m) m s
    (record { short = refl; base = refl })
    (record { short = refl; base = refl })
    (λ x y at number snap. record { short = refl; base = refl })
    (λ x committed at. record { short = refl; base = refl })
    call

-- ---- a call that ends no transaction

pub calls_keep_ended : (m : Machine) (s : ℕ) (call : Call) → is_end call ≡ false → (state_after m s call).ended ≡ m.ended
unfolding state_after state_when_done
calls_keep_ended m s Begin is = cond_both _ m _ (λ (n : Machine). n.ended ≡ m.ended) (λ h. refl) (λ h. refl)
calls_keep_ended m s (Get table key) is = cond_both _ m _ (λ (n : Machine). n.ended ≡ m.ended) (λ h. refl) (λ h. refl)
calls_keep_ended m s (Hold table key) is = cond_both _ m _ (λ (n : Machine). n.ended ≡ m.ended) (λ h. refl) (λ h. refl)
calls_keep_ended m s (Fetch ticket) is = cond_both _ m _ (λ (n : Machine). n.ended ≡ m.ended) (λ h. refl) (λ h. refl)
calls_keep_ended m s (Find table tag) is = cond_both _ m _ (λ (n : Machine). n.ended ≡ m.ended) (λ h. refl) (λ h. refl)
calls_keep_ended m s (Scan table) is = cond_both _ m _ (λ (n : Machine). n.ended ≡ m.ended) (λ h. refl) (λ h. refl)
calls_keep_ended m s (Insert table key tag body) is = cond_both _ m _ (λ (n : Machine). n.ended ≡ m.ended) (λ h. refl) (λ h. refl)
calls_keep_ended m s (Update table key tag body) is = cond_both _ m _ (λ (n : Machine). n.ended ≡ m.ended) (λ h. refl) (λ h. refl)
calls_keep_ended m s (DeleteCall table key) is = cond_both _ m _ (λ (n : Machine). n.ended ≡ m.ended) (λ h. refl) (λ h. refl)
calls_keep_ended m s Commit is = absurd (true≢false is)
calls_keep_ended m s Rollback is = absurd (true≢false is)

pub writes_end_nothing : (call : Call) (w : Write) → write_of call ≡ Some w → is_end call ≡ false
writes_end_nothing Begin w writes = refl
writes_end_nothing (Get table key) w writes = refl
writes_end_nothing (Hold table key) w writes = refl
writes_end_nothing (Fetch ticket) w writes = refl
writes_end_nothing (Find table tag) w writes = refl
writes_end_nothing (Scan table) w writes = refl
writes_end_nothing (Insert table key tag body) w writes = refl
writes_end_nothing (Update table key tag body) w writes = refl
writes_end_nothing (DeleteCall table key) w writes = refl
writes_end_nothing Commit w writes = absurd (none-some w writes)
writes_end_nothing Rollback w writes = absurd (none-some w writes)

-- ---- an end

pub commit_answered : (m : Machine) (s : ℕ) (x : Open) → open_of m s ≡ Some x → is_refusal (reply_of m s Commit) ≡ false
unfolding reply_of
commit_answered m s x at =
    ap (λ (slot : Option Open). is_refusal (if_open slot (λ y. cond (eqb (length y.writes) 0) EndedEmpty (CommittedReply (commits m + 1))))) at
    ∙ (elim (eqb (length x.writes) 0) as (λ b. is_refusal (cond b EndedEmpty (CommittedReply (commits m + 1))) ≡ false) [ true ↦ refl | false ↦ refl ])

pub rollback_answered : (m : Machine) (s : ℕ) (x : Open) → open_of m s ≡ Some x → is_refusal (reply_of m s Rollback) ≡ false
unfolding reply_of
rollback_answered m s x at = ap (λ (slot : Option Open). is_refusal (if_open slot (λ y. RolledBackReply))) at

pub commit_ends : (m : Machine) (s : ℕ) (x : Open) → open_of m s ≡ Some x → (state_after m s Commit).ended ≡ m.ended ++ entry_of true x
unfolding state_after state_when_done
commit_ends m s x at =
    ap (λ (b : Bool). (cond b m (closed m s true)).ended) (commit_answered m s x at)
    ∙ ap (λ (slot : Option Open). m.ended ++ entries_of true slot) at

pub rollback_ends : (m : Machine) (s : ℕ) (x : Open) → open_of m s ≡ Some x → (state_after m s Rollback).ended ≡ m.ended ++ entry_of false x
unfolding state_after state_when_done
rollback_ends m s x at =
    ap (λ (b : Bool). (cond b m (closed m s false)).ended) (rollback_answered m s x at)
    ∙ ap (λ (slot : Option Open). m.ended ++ entries_of false slot) at

abbrev pub entry : Bool → Open → Ended
entry committed x = record { number = x.number; committed = committed; snap = x.snap; writes = x.writes }

pub no_entry : (committed : Bool) (x : Open) → x.writes ≡ [] → entry_of committed x ≡ []
no_entry committed x none = ap (λ (writes : List Write). cond (eqb (length writes) 0) [] (entry committed x ∷ [])) none

pub one_entry : (committed : Bool) (x : Open) → x.writes ≢ [] → entry_of committed x ≡ entry committed x ∷ []
one_entry committed x some =
    ap (λ (b : Bool). cond b [] (entry committed x ∷ [])) (ne_eqb (length x.writes) 0 (λ none. some (nil_from_length x.writes none)))

-- an end leaves what became of the others, and of the transaction itself it tells the end
pub record Ends (m n : Machine) (x : Open) (committed : Bool) : Type 0 where
  pub others : (xn : ℕ) → m.base < xn → xn ≢ m.base + x.number → standing_in n (Some xn) ≡ standing_in m (Some xn)
  pub place : ℕ
  pub its : standing_in n (Some (m.base + x.number)) ≡ standing_at place committed

pub ended_is : (m n : Machine) (s : ℕ) (x : Open) (committed : Bool) → IsKept m → open_of m s ≡ Some x → n.base ≡ m.base
    → n.ended ≡ m.ended ++ entry committed x ∷ [] → Ends m n x committed
ended_is m n s x committed k at base ended =
    let outcomes = map outcome_of m.ended in
    let outcome : Outcome = outcome_of (entry committed x) in
    let one = k.numbered.open_ones.from_one s x at in
    let number : m.base + x.number - m.base ≡ x.number = omega arith in
    let now : (xn : ℕ) → m.base < xn → standing_in n (Some xn) ≡ standing_from 0 (outcomes ++ outcome ∷ []) (xn - m.base) = λ xn past.
    standing_past n xn (omega (arith, past, base))
    ∙ ap (λ (b : ℕ). standing_from 0 (map outcome_of n.ended) (xn - b)) base
    ∙ ap (λ (l : List Ended). standing_from 0 (map outcome_of l) (xn - m.base)) ended
    ∙ ap (λ (l : List Outcome). standing_from 0 l (xn - m.base)) (map-append outcome_of m.ended (entry committed x ∷ [])) in
    let open' : standing_from 0 outcomes x.number ≡ OpenYet =
    ap (standing_from 0 outcomes) (sym number) ∙ sym (standing_past m (m.base + x.number) (omega (arith, one))) ∙ open_are_open m k.numbered s x at in
    record {
      others = λ xn past other.
          now xn past
          ∙ standing_from-push_other 0 outcomes outcome (xn - m.base) (λ same. other (omega (arith, same, past)))
          ∙ sym (standing_past m xn past);
      place = 0 + length outcomes;
      its =
          now (m.base + x.number) (omega (arith, one))
          ∙ ap (standing_from 0 (outcomes ++ outcome ∷ [])) number
          ∙ standing_from-push_same 0 outcomes outcome open';
    }
