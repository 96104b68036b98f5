-- Who writes, and an end of a transaction.
use Rattle.std.proofs.Common.{◌≡◌, ◌≢◌, ℕ, ◌+◌, ◌<◌, ◌==◌, ◌&&◌, ◌||◌, Bool, true, false, not, cond, List, [], ◌∷◌, ◌++◌, map, length, Option, Some, None, is_some, refl, sym, ap, subst, ◌∙◌, arith}
use Rattle.std.specs.Prelude.{MatchOption, count_by}
use Rattle.std.specs.List.{list_any}
use Rattle.std.proofs.lemmas.List.{length-map, nil_from_length}
use Rattle.std.proofs.lemmas.List.Sums.{sum_by-append}
use Rattle.std.proofs.lemmas.Option.{none-some, same_Some}
use Rattle.px_active.specs.declared.active.Active.{Active}
use Rattle.px_active.specs.Active.{AreReleased, HasNoWrites, IsActiveOf, IsWriterIn, commits_after, counted, end_call, end_reply, has_key, writer_in, writing_in}
use Rattle.px_answers.specs.Keeping.{Kept, KeepsTickets, without_kept}
use Rattle.px_answers.proofs.KeptByTickets.{end_keeps}
use Rattle.px_calls.specs.declared.reply.Reply.TheVariants.{Committed, EndedEmpty, NoTransaction, RolledBack}
use Rattle.px_calls.specs.Steps.{closed, entries_of, if_open, is_refusal, open_of, open_writer, reply_of, state_after, state_when_done}
use Rattle.px_cell_laws.specs.Writing.{is_end}
use Rattle.px_chain_laws.specs.Kept.{IsKept}
use Rattle.px_locks.specs.Holders.{holder_of, unless_held_by}
use Rattle.px_locks_laws.proofs.Calls.{ended}
use Rattle.px_machine_laws.specs.Writers.{number_with_writes, writer_of}
use Rattle.px_machine_laws.proofs.Writers.{writer_none, writer_some}
use Rattle.px_model.specs.declared.machine.Ended.{Ended}
use Rattle.px_model.specs.declared.machine.Open.{Open}
use Rattle.px_model.specs.declared.write.Write.{Write}
use Rattle.px_model.specs.Machine.{Machine, commits}
use Rattle.px_model.specs.Rows.{Key, has_write_of, key_written, same_key}
use Rattle.px_xacts.specs.declared.transaction.Transaction.{Transaction}
use Rattle.px_xacts.specs.Transactions as transactions
use Rattle.px_xacts.specs.Transactions.{Transactions}
use Rattle.px_xacts_laws.specs.Mirrors.{Known, Mirrors, key_at, known_of_open, known_of_transaction}
use Rattle.px_xacts_laws.proofs.Mirroring.{end_mirrors, session_known}

-- ---- the session's transaction on both sides

abbrev known_number : Option Known → Option ℕ
known_number None = None
known_number (Some known) = Some known.0

abbrev known_keys : Option Known → List Key
known_keys None = []
known_keys (Some known) = known.1.1

-- one of both has the other's number and keys
record IsAlike (t : Transaction) (x : Open) : Type 0 where
  number : t.number ≡ x.number
  keys : map key_at t.writes ≡ map key_written x.writes

alike : (t : Transaction) (slot : Option Open) → known_of_transaction (Some t) ≡ known_of_open slot → (x : Open) × (slot ≡ Some x) × IsAlike t x
alike t None e = absurd (none-some _ (sym e))
alike t (Some x) e = (x, refl, record { number = same_Some t.number x.number (ap known_number e); keys = ap known_keys e })

open_alike : (m : Machine) (active : Active) (session : ℕ) (t : Transaction) → IsActiveOf m active → transactions.open_of active.xacts session ≡ Some t
    → (x : Open) × (open_of m session ≡ Some x) × IsAlike t x
open_alike m active session t is at = alike t (open_of m session) (sym (ap known_of_transaction at) ∙ session_known m active.xacts session is.mirrors)

none_alike : (slot : Option Open) → known_of_transaction None ≡ known_of_open slot → slot ≡ None
none_alike None e = refl
none_alike (Some x) e = absurd (none-some _ e)

none_open : (m : Machine) (active : Active) (session : ℕ) → IsActiveOf m active → transactions.open_of active.xacts session ≡ None → open_of m session ≡ None
none_open m active session is at = none_alike (open_of m session) (sym (ap known_of_transaction at) ∙ session_known m active.xacts session is.mirrors)

as_many : (t : Transaction) (x : Open) → IsAlike t x → length t.writes ≡ length x.writes
as_many t x like = sym (length-map t.writes key_at) ∙ ap (λ (l : List Key). length l) like.keys ∙ length-map x.writes key_written

-- ---- who writes

abbrev writing_known : (base : ℕ) → Option Known → Option ℕ
writing_known base None = None
writing_known base (Some known) = cond (length known.1.1 == 0) None (Some (base + known.0))

writing_at : (base : ℕ) (slot : Option Transaction) → writing_in base slot ≡ writing_known base (known_of_transaction slot)
writing_at base None = refl
writing_at base (Some t) = ap (λ (n : ℕ). cond (n == 0) None (Some (base + t.number))) (sym (length-map t.writes key_at))

writing_of : (base : ℕ) (slot : Option Open) → writing_known base (known_of_open slot) ≡ number_with_writes base slot
writing_of base None = refl
writing_of base (Some x) = ap (λ (n : ℕ). cond (n == 0) None (Some (base + x.number))) (length-map x.writes key_written)

pub writer_is : (m : Machine) (active : Active) (session : ℕ) → IsActiveOf m active → writer_in active.xacts session ≡ writer_of m session
writer_is m active session is =
    writing_at active.xacts.base (transactions.open_of active.xacts session)
    ∙ ap (writing_known active.xacts.base) (session_known m active.xacts session is.mirrors)
    ∙ writing_of active.xacts.base (open_of m session)
    ∙ ap (λ (n : ℕ). number_with_writes n (open_of m session)) is.mirrors.base

not_empty : (writes : List Write) → 0 < length writes → writes ≢ []
not_empty writes some none = omega (arith, some, ap (λ (l : List Write). length l) none)

pub who_writes : (m : Machine) (session : ℕ) (who : Option ℕ) → who ≡ writer_of m session → MatchOption who (HasNoWrites m session) (IsWriterIn m session)
who_writes m session None is = λ x at. nil_from_length x.writes (writer_none m session (sym is) x at)
who_writes m session (Some xn) is =
    let w = writer_some m session xn (sym is) in
    record { xact = w.0; is_open = w.1; has_writes = not_empty w.0.writes w.2; stored = w.3 }

has_writer : (base : ℕ) (t : Transaction) → not (length t.writes == 0) ≡ is_some (writing_in base (Some t))
has_writer base t = elim (length t.writes == 0) as (λ b. not b ≡ is_some (cond b None (Some (base + t.number)))) [ true ↦ refl | false ↦ refl ]

-- the commits after an end, by whether its transaction has writes
pub counts : (active : Active) (session : ℕ) (committed has_writes : Bool) (t : Transaction) → transactions.open_of active.xacts session ≡ Some t
    → has_writes ≡ not (length t.writes == 0) → counted committed has_writes active.commits ≡ commits_after active session committed
counts active session committed has_writes t at has =
    ap (λ b. counted committed b active.commits)
    (has ∙ has_writer active.xacts.base t ∙ ap (λ (slot : Option Transaction). is_some (writing_in active.xacts.base slot)) (sym at))

-- ---- what an end is answered

pub no_end : (m : Machine) (active : Active) (session : ℕ) (committed : Bool) → IsActiveOf m active → transactions.open_of active.xacts session ≡ None
    → NoTransaction ≡ reply_of m session (end_call committed)
unfolding reply_of
no_end m active session true is at = ap (λ slot. if_open slot (λ x. cond (length x.writes == 0) EndedEmpty (Committed (commits m + 1)))) (sym (none_open m active session is at))
no_end m active session false is at = ap (λ slot. if_open slot (λ x. RolledBack)) (sym (none_open m active session is at))

reply_empty : (empty : Bool) (n : ℕ) → end_reply true (not empty) n ≡ cond empty EndedEmpty (Committed (n + 1))
reply_empty true n = refl
reply_empty false n = refl

pub end_answers : (m : Machine) (active : Active) (session : ℕ) (committed has_writes : Bool) (t : Transaction) → IsActiveOf m active
    → transactions.open_of active.xacts session ≡ Some t → has_writes ≡ not (length t.writes == 0)
    → end_reply committed has_writes active.commits ≡ reply_of m session (end_call committed)
unfolding reply_of
end_answers m active session true has_writes t is at has =
    let x = open_alike m active session t is at in
    ap (λ b. end_reply true b active.commits) has
    ∙ reply_empty (length t.writes == 0) active.commits
    ∙ ap (λ (n : ℕ). cond (n == 0) EndedEmpty (Committed (active.commits + 1))) (as_many t x.0 x.2)
    ∙ ap (λ (n : ℕ). cond (length x.0.writes == 0) EndedEmpty (Committed (n + 1))) is.commits
    ∙ ap (λ slot. if_open slot (λ y. cond (length y.writes == 0) EndedEmpty (Committed (commits m + 1)))) (sym x.1)
end_answers m active session false has_writes t is at has =
    let x = open_alike m active session t is at in
    ap (λ slot. if_open slot (λ y. RolledBack)) (sym x.1)

-- ---- what an end leaves

not_refused : (b : Bool) (n : ℕ) → is_refusal (cond b EndedEmpty (Committed n)) ≡ false
not_refused true n = refl
not_refused false n = refl

-- the machine's transaction is closed
ended_is : (m : Machine) (session : ℕ) (committed : Bool) (x : Open) → open_of m session ≡ Some x → state_after m session (end_call committed) ≡ closed m session committed
unfolding state_after state_when_done reply_of
ended_is m session true x at =
    ap (λ slot. cond (is_refusal (if_open slot (λ y. cond (length y.writes == 0) EndedEmpty (Committed (commits m + 1))))) m (closed m session true)) at
    ∙ ap (λ b. cond b m (closed m session true)) (not_refused (length x.writes == 0) (commits m + 1))
ended_is m session false x at = ap (λ slot. cond (is_refusal (if_open slot (λ y. RolledBack))) m (closed m session false)) at

-- no transaction is open, and nothing changes
unopened_is : (m : Machine) (session : ℕ) (committed : Bool) → open_of m session ≡ None → state_after m session (end_call committed) ≡ m
unfolding state_after state_when_done reply_of
unopened_is m session true at =
    ap (λ slot. cond (is_refusal (if_open slot (λ y. cond (length y.writes == 0) EndedEmpty (Committed (commits m + 1))))) m (closed m session true)) at
unopened_is m session false at = ap (λ slot. cond (is_refusal (if_open slot (λ y. RolledBack))) m (closed m session false)) at

any_mapped : {A : Type 0} (f : A → Key) (key : Key) (l : List A) → list_any (λ a. same_key key (f a)) l ≡ list_any (same_key key) (map f l)
any_mapped f key [] = refl
any_mapped f key (a ∷ l) = ap (λ b. same_key key (f a) || b) (any_mapped f key l)

same_keys : (t : Transaction) (x : Open) (key : Key) → IsAlike t x → has_key key t.writes ≡ has_write_of key x.writes
same_keys t x key like = any_mapped key_at key t.writes ∙ ap (list_any (same_key key)) like.keys ∙ sym (any_mapped key_written key x.writes)

entry_counts : (empty committed : Bool) (e : Ended) → e.committed ≡ committed
    → count_by (λ (x : Ended). x.committed) (cond empty [] (e ∷ [])) ≡ cond (committed && not empty) 1 0
entry_counts true true e is = refl
entry_counts true false e is = refl
entry_counts false true e is = ap (λ b. 0 + cond b 1 0) is
entry_counts false false e is = ap (λ b. 0 + cond b 1 0) is

one_or_none : (b : Bool) (n : ℕ) → n + cond b 1 0 ≡ cond b (n + 1) n
one_or_none true n = refl
one_or_none false n = omega arith

closed_commits : (m : Machine) (session : ℕ) (committed : Bool) (x : Open) → open_of m session ≡ Some x
    → commits (closed m session committed) ≡ counted committed (not (length x.writes == 0)) (commits m)
unfolding commits
closed_commits m session committed x at =
    let e : Ended = record { number = x.number; committed = committed; snap = x.snap; writes = x.writes } in
    let is_committed = λ (e : Ended). e.committed in
    ap (λ (slot : Option Open). m.before + count_by is_committed (m.ended ++ entries_of committed slot)) at
    ∙ ap (λ (n : ℕ). m.before + n)
    (sum_by-append (λ (y : Ended). cond y.committed 1 0) m.ended (entries_of committed (Some x))
    ∙ ap (λ (n : ℕ). count_by is_committed m.ended + n) (entry_counts (length x.writes == 0) committed e refl))
    ∙ (omega arith)
    ∙ one_or_none (committed && not (length x.writes == 0)) (m.before + count_by is_committed m.ended)

ends : (committed : Bool) → is_end (end_call committed) ≡ true
ends true = refl
ends false = refl

pub end_leaves : (m : Machine) (old new : Active) (session : ℕ) (committed : Bool) (t : Transaction) → IsKept m → IsActiveOf m old
    → transactions.open_of old.xacts session ≡ Some t → new.xacts ≡ transactions.ended old.xacts session committed
    → AreReleased t.writes t.number old.locks new.locks → new.tickets ≡ without_kept old.tickets session
    → new.commits ≡ commits_after old session committed
    → IsActiveOf (state_after m session (end_call committed)) new
end_leaves m old new session committed t kept is at xacts released tickets count =
    let x = open_alike m old session t is at in
    let state = ended_is m session committed x.0 x.1 in
    record {
      mirrors =
          subst (λ (o : Machine). Mirrors o new.xacts) (sym state)
          (subst (λ (all : Transactions). Mirrors (closed m session committed) all) (sym xacts) (end_mirrors m old.xacts session committed is.mirrors));
      holders = λ key.
          ended m old.locks new.locks session x.0 committed kept is.holders x.1
          (λ q. released q
          ∙ ap (λ b. cond b (unless_held_by t.number (holder_of q old.locks)) (holder_of q old.locks)) (same_keys t x.0 q x.2)
          ∙ ap (λ n. cond (has_write_of q x.0.writes) (unless_held_by n (holder_of q old.locks)) (holder_of q old.locks)) x.2.number) key
          ∙ ap (λ (o : Machine). open_writer key o.active) (sym state);
      kept =
          subst (λ (k : Kept). KeepsTickets k (state_after m session (end_call committed))) (sym tickets)
          (end_keeps old.tickets m session (end_call committed) (ends committed) is.kept);
      commits =
          count
          ∙ sym (counts old session committed (not (length t.writes == 0)) t at refl)
          ∙ ap (λ (n : ℕ). counted committed (not (n == 0)) old.commits) (as_many t x.0 x.2)
          ∙ ap (λ (n : ℕ). counted committed (not (length x.0.writes == 0)) n) is.commits
          ∙ sym (closed_commits m session committed x.0 x.1)
          ∙ ap commits (sym state);
    }

pub no_end_leaves : (m : Machine) (active : Active) (session : ℕ) (committed : Bool) → IsActiveOf m active → transactions.open_of active.xacts session ≡ None
    → IsActiveOf (state_after m session (end_call committed)) active
no_end_leaves m active session committed is at =
    subst (λ (o : Machine). IsActiveOf o active) (sym (unopened_is m session committed (none_open m active session is at))) is
