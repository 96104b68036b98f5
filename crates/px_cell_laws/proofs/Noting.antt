-- Where unswept writes stand, when the transactions change and the cells don't.
use Rattle.std.proofs.Common.{◌≡◌, ℕ, ◌+◌, Bool, true, false, cond, List, ◌++◌, map, reverse, get_or, set, Option, Some, None, refl, sym, ap, subst, ◌∙◌}
use Rattle.std.specs.Prelude.{flat_map, is_some}
use Rattle.std.proofs.lemmas.Bool.{true≢false}
use Rattle.px_chain.specs.Sound.{key_of}
use Rattle.px_chain_laws.proofs.Gathered.{gathered_alike}
use Rattle.px_history.specs.Store.{Store}
use Rattle.px_model.specs.Rows.{Key, same_key}
use Rattle.px_xacts.specs.declared.answers.Begun.{Begun}
use Rattle.px_xacts.specs.declared.transaction.Transaction.{Transaction}
use Rattle.px_xacts.specs.declared.transaction.Unswept.{Unswept}
use Rattle.px_xacts.specs.declared.write.WriteAt.{WriteAt}
use Rattle.px_xacts.specs.Transactions as xacts
use Rattle.px_xacts.specs.Transactions.{Transactions}
use Rattle.px_xacts_laws.specs.Mirrors.{key_at}
use Rattle.px_cell_laws.specs.Locating.{AreWrittenAt, BeginsWith, of_key, place_of, unswept_writes, writes_of}
use Rattle.px_cell_laws.proofs.Locating.{of_key_parts}

abbrev pub in_row : (row : ℕ) → List ℕ → List (ℕ × ℕ)
in_row row slots = map (λ slot. (row, slot)) slots

-- the chain of this row begins with the places of these writes
abbrev pub Locates : (row : ℕ) → List WriteAt → (slots : List ℕ) → Type 0
Locates row writes slots = BeginsWith (reverse (map place_of writes)) (in_row row slots)

-- ---- other transactions over the same cells

pub same_writes : (all other : Transactions) (store : Store) → ((key : Key) → of_key key (unswept_writes other) ≡ of_key key (unswept_writes all))
    → AreWrittenAt all store → AreWrittenAt other store
same_writes all other store same h = record {
  chains = λ t row used.
      let key : Key = (t, key_of (store.tables t) row) in
      subst (λ (writes : List WriteAt). Locates row writes ((store.layouts t).chain row)) (sym (same key)) (h.chains t row used);
}

-- what is of the key in the slots of sessions
abbrev pub open_at : Key → List (Option Transaction) → List WriteAt
open_at key slots = of_key key (flat_map writes_of slots)

pub with_slots : (all other : Transactions) (key : Key) → other.queue ≡ all.queue → open_at key other.active ≡ open_at key all.active
    → of_key key (unswept_writes other) ≡ of_key key (unswept_writes all)
with_slots all other key queue same =
    of_key_parts key other
    ∙ ap (λ (l : List Unswept). of_key key (map (λ (e : Unswept). e.write) l) ++ open_at key other.active) queue
    ∙ ap (λ (l : List WriteAt). of_key key (map (λ (e : Unswept). e.write) all.queue) ++ l) same
    ∙ sym (of_key_parts key all)

pub slot_alike : (key : Key) (active : List (Option Transaction)) (s : ℕ) (slot : Option Transaction)
    → of_key key (writes_of slot) ≡ of_key key (writes_of (get_or active s None)) → open_at key (set active s slot) ≡ open_at key active
slot_alike key active s slot same = gathered_alike (λ (write : WriteAt). same_key key (key_at write)) writes_of active s slot None same

-- ---- a begin

pub nothing_written : (base : ℕ) (store : Store) → AreWrittenAt (xacts.fresh base) store
nothing_written base store = record { chains = λ t row used. record { others = in_row row ((store.layouts t).chain row); split = refl } }

when_answered : (P : Transactions → Type 0) (all next : Transactions) (is_open spent : Bool) (number : ℕ) → P all → (is_open ≡ false → P next)
    → P (xacts.when_answered (cond is_open Begun.OpenAlready (cond spent Begun.LimitBegins (Begun.Number number))) all next)
when_answered P all next true spent number was is = was
when_answered P all next false true number was is = was
when_answered P all next false false number was is = is refl

none_of : (slot : Option Transaction) → is_some slot ≡ false → slot ≡ None
none_of None e = refl
none_of (Some x) e = absurd (true≢false e)

pub begin_written : (all : Transactions) (store : Store) (session frames : ℕ) → AreWrittenAt all store → AreWrittenAt (xacts.after_begin all session frames) store
unfolding xacts.begin_answer
begin_written all store session frames h =
    when_answered (λ (t : Transactions). AreWrittenAt t store) all (xacts.opened all session frames) (is_some (xacts.open_of all session)) (xacts.begins_spent all) (all.begun + 1) h
    (λ closed. same_writes all (xacts.opened all session frames) store (λ key.
    with_slots all (xacts.opened all session frames) key refl
    (slot_alike key all.active session _ (ap (λ (slot : Option Transaction). of_key key (writes_of slot)) (sym (none_of (xacts.open_of all session) closed))))) h)
