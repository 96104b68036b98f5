-- Where unswept writes stand after an end.
use Rattle.std.proofs.Common.{◌≡◌, ℕ, ◌+◌, Bool, true, false, List, [], ◌++◌, map, length, set, Option, Some, None, refl, sym, ap, ◌∙◌}
use Rattle.std.proofs.lemmas.List.{append-nil, append_assoc, map-append, map-id, nil_from_length}
use Rattle.std.proofs.lemmas.List.Elements.{filter-append}
use Rattle.px_calls.specs.Steps.{open_of}
use Rattle.px_chain_laws.specs.Kept.{IsKept}
use Rattle.px_chain_laws.proofs.Moving.{alone_where_written, none_at}
use Rattle.std.proofs.lemmas.Simd.{map-map}
use Rattle.px_history.specs.Steps.{Step, after_step}
use Rattle.px_history.specs.Store.{Store}
use Rattle.px_model.specs.Machine.{Machine}
use Rattle.px_model.specs.Rows.{Key, has_write_of, same_key}
use Rattle.px_model.specs.declared.machine.Open.{Open}
use Rattle.px_xacts.specs.declared.transaction.Transaction.{Transaction}
use Rattle.px_xacts.specs.declared.transaction.Unswept.{Unswept}
use Rattle.px_xacts.specs.declared.write.WriteAt.{WriteAt}
use Rattle.px_xacts.specs.Transactions as xacts
use Rattle.px_xacts.specs.Transactions.{Transactions}
use Rattle.px_xacts_laws.specs.Mirrors.{Mirrors, key_at, known_of_open}
use Rattle.px_xacts_laws.proofs.Mirroring.{session_known}
use Rattle.px_cell_laws.specs.Locating.{AreWrittenAt, of_key, writes_of}
use Rattle.px_cell_laws.proofs.Locating.{as_many_of_slot, of_key_parts}
use Rattle.px_cell_laws.proofs.Noting.{open_at, same_writes, slot_alike}
use Rattle.px_cell_laws.proofs.Placing.{no_others, own_at}

writes_unswept : (place : ℕ) (committed : Bool) (slot : Option Transaction) → map (λ (e : Unswept). e.write) (xacts.unswept_of place committed slot) ≡ writes_of slot
writes_unswept place committed None = refl
writes_unswept place committed (Some x) =
    map-map (λ (e : Unswept). e.write) (xacts.unswept place committed x) x.writes ∙ map-id x.writes

-- the writes of a transaction that ends are in front of those of the others
moved_at : (m : Machine) (all : Transactions) (session : ℕ) (x : Open) (key : Key) → Mirrors m all → IsKept m → open_of m session ≡ Some x
    → of_key key (writes_of (xacts.open_of all session)) ++ open_at key (set all.active session None) ≡ open_at key all.active
moved_at m all session x key mirrors k at =
    let slot = xacts.open_of all session in
    let own = of_key key (writes_of slot) in
    elim (has_write_of key x.writes) as (λ b. has_write_of key x.writes ≡ b → own ++ open_at key (set all.active session None) ≡ open_at key all.active) [
      | true ↦ λ e.
          let none = alone_where_written m session x key k at e in
          ap (λ l. own ++ l) (no_others m all session key mirrors none) ∙ append-nil own ∙ sym (own_at m all session x key mirrors at none)
      | false ↦ λ e.
          let nothing : own ≡ [] = nil_from_length own
          (as_many_of_slot key m.base slot (Some x) (session_known m all session mirrors ∙ ap known_of_open at)
          ∙ ap (λ l. length l) (none_at key (Some (m.base + x.number)) x.writes e)) in
          ap (λ l. l ++ open_at key (set all.active session None)) nothing ∙ slot_alike key all.active session None (sym nothing)
    ] refl

pub end_written : (m : Machine) (all : Transactions) (store : Store) (session : ℕ) (committed : Bool) (x : Open) → Mirrors m all → IsKept m → open_of m session ≡ Some x
    → AreWrittenAt all store → AreWrittenAt (xacts.ended all session committed) store
end_written m all store session committed x mirrors k at h =
    let slot = xacts.open_of all session in
    let new = xacts.unswept_of (length all.outcomes) committed slot in
    let write : Unswept → WriteAt = λ e. e.write in
    same_writes all (xacts.ended all session committed) store (λ key.
    let test : WriteAt → Bool = λ w. same_key key (key_at w) in
    let swept = of_key key (map write all.queue) in
    let closed = open_at key (set all.active session None) in
    of_key_parts key (xacts.ended all session committed)
    ∙ ap (λ (l : List WriteAt). of_key key l ++ closed) (map-append write all.queue new ∙ ap (λ (l : List WriteAt). map write all.queue ++ l) (writes_unswept (length all.outcomes) committed slot))
    ∙ ap (λ (l : List WriteAt). l ++ closed) (filter-append test (map write all.queue) (writes_of slot))
    ∙ append_assoc swept (of_key key (writes_of slot)) closed
    ∙ ap (λ (l : List WriteAt). swept ++ l) (moved_at m all session x key mirrors k at)
    ∙ sym (of_key_parts key all)) h

pub commit_written : (all : Transactions) (store : Store) (xn number : ℕ) → AreWrittenAt all store → AreWrittenAt all (after_step store (Step.commit xn number))
commit_written all store xn number h = record { chains = h.chains }

pub rollback_written : (all : Transactions) (store : Store) (xn : ℕ) → AreWrittenAt all store → AreWrittenAt all (after_step store (Step.rollback xn))
rollback_written all store xn h = record { chains = h.chains }
