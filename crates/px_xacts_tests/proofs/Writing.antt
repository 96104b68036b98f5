-- How many writes a transaction has.
use Rattle.std.proofs.Common.{◌≡◌, ℕ, ◌+◌, ◌<◌, inl, inr, [], ◌∷◌, length, get_or, set, Option, Some, None, option_map, refl, sym, ap, subst, ◌∙◌, arith, length-append}
use Rattle.std.specs.Prelude.{IsSomeAnd}
use Rattle.std.proofs.lemmas.Bool.{cases_lt}
use Rattle.std.proofs.lemmas.List.{get_or-set_same, get_or_past}
use Rattle.std.proofs.lemmas.Option.{none-some}
use Rattle.px_xacts.specs.declared.transaction.Transaction.{Transaction}
use Rattle.px_xacts.specs.declared.write.WriteAt.{WriteAt}
use Rattle.px_xacts.specs.Transactions.{Transactions, open_of, plus_write, with_write}

-- so many writes
abbrev pub HasWrites : ℕ → Option Transaction → Type 0
HasWrites count slot = IsSomeAnd slot (λ (t : Transaction). length t.writes ≡ count)

pub may_write : (slot : Option Transaction) (count most : ℕ) → count < most → HasWrites count slot
    → IsSomeAnd slot (λ (t : Transaction). length t.writes < most)
may_write None count most lt has = has
may_write (Some x) count most lt has = omega (arith, lt, has)

written : (all : Transactions) (session : ℕ) (w : WriteAt) (t : Transaction) → open_of all session ≡ Some t → open_of (with_write all session w) session ≡ Some (plus_write w t)
written all session w t at = elim (cases_lt session (length all.active)) [
  | inl lt ↦
      get_or-set_same all.active session (option_map (plus_write w) (open_of all session)) None lt ∙ ap (option_map (plus_write w)) at
  | inr le ↦ absurd (none-some t (sym (get_or_past all.active session None le) ∙ at))
]

-- one write more than before
pub one_more : (all : Transactions) (session : ℕ) (w : WriteAt) (count : ℕ) → HasWrites count (open_of all session)
    → HasWrites (count + 1) (open_of (with_write all session w) session)
one_more all session w count has = of_slot (open_of all session) refl has
  where
    of_slot : (slot : Option Transaction) → open_of all session ≡ slot → HasWrites count slot → HasWrites (count + 1) (open_of (with_write all session w) session)
    of_slot None at has = absurd has
    of_slot (Some t) at has =
        subst (HasWrites (count + 1)) (sym (written all session w t at)) (omega (arith, has, length-append t.writes (w ∷ [])))
