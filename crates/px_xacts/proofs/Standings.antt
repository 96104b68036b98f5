-- What became of a transaction, after one more outcome.
use Rattle.std.proofs.Common.{◌≡◌, ℕ, suc, ◌+◌, ◌-◌, ◌≤◌, Bool, true, false, cond, eqb, inl, inr, List, [], ◌∷◌, ◌++◌, length, get_or, set, refl, sym, ap, ◌∙◌, arith, rules}
use Rattle.std.proofs.lemmas.Bool.{false≢true, cases_eq, ne_eqb}
use Rattle.std.proofs.lemmas.List.{get_or-set_same, get_or-set_other}
use Rattle.px_model.specs.declared.standing.Standing.{Standing}
use Rattle.px_model.specs.declared.standing.Standing.TheVariants.{Before, Open, RolledBack, Committed}
use Rattle.px_xacts.specs.declared.transaction.Outcome.{Outcome}
use Rattle.px_xacts.specs.Transactions.{standing_at, standing_from}
use Rattle.px_xacts.specs.Sound.{AreStandings}

is_open : Standing → Bool
is_open Before = false
is_open Open = true
is_open RolledBack = false
is_open (Committed place) = false

-- one that ended isn't open
pub ended_not_open : (place : ℕ) (committed : Bool) → standing_at place committed ≡ Open → ⊥
unfolding is_open
ended_not_open place true e = false≢true (ap is_open e)
ended_not_open place false e = false≢true (ap is_open e)

eqb_same : (n : ℕ) → eqb n n ≡ true
eqb_same n = search rules

-- the outcome of another transaction
pub standing_from-push_other : (place : ℕ) (outcomes : List Outcome) (outcome : Outcome) (number : ℕ) → (outcome.number ≡ number → ⊥)
    → standing_from place (outcomes ++ outcome ∷ []) number ≡ standing_from place outcomes number
standing_from-push_other place [] outcome number ne =
    ap (λ b. cond b (standing_at place outcome.committed) Open) (ne_eqb outcome.number number ne)
standing_from-push_other place (first ∷ outcomes) outcome number ne =
    ap (cond (eqb first.number number) (standing_at place first.committed)) (standing_from-push_other (place + 1) outcomes outcome number ne)

-- the outcome of one that was open
pub standing_from-push_same : (place : ℕ) (outcomes : List Outcome) (outcome : Outcome) → standing_from place outcomes outcome.number ≡ Open
    → standing_from place (outcomes ++ outcome ∷ []) outcome.number ≡ standing_at (place + length outcomes) outcome.committed
standing_from-push_same place [] outcome open' =
    ap (λ b. cond b (standing_at place outcome.committed) Open) (eqb_same outcome.number)
    ∙ ap (λ (p : ℕ). standing_at p outcome.committed) (omega arith)
standing_from-push_same place (first ∷ outcomes) outcome open' =
    elim (eqb first.number outcome.number) as (λ b. eqb first.number outcome.number ≡ b
    → cond b (standing_at place first.committed) (standing_from (place + 1) (outcomes ++ outcome ∷ []) outcome.number) ≡ standing_at (place + suc (length outcomes)) outcome.committed) [
      | true ↦ λ e. absurd (ended_not_open place first.committed
          (ap (λ b. cond b (standing_at place first.committed) (standing_from (place + 1) outcomes outcome.number)) (sym e) ∙ open'))
      | false ↦ λ e.
          standing_from-push_same (place + 1) outcomes outcome
          (ap (λ b. cond b (standing_at place first.committed) (standing_from (place + 1) outcomes outcome.number)) (sym e) ∙ open')
          ∙ ap (λ (p : ℕ). standing_at p outcome.committed) (omega arith)
    ] refl

-- one more outcome, of a transaction that was open
pub standings_ended : (standings : List Standing) (outcomes : List Outcome) (outcome : Outcome) → AreStandings standings outcomes
    → 1 ≤ outcome.number → outcome.number ≤ length standings → standing_from 0 outcomes outcome.number ≡ Open
    → AreStandings (set standings (outcome.number - 1) (standing_at (length outcomes) outcome.committed)) (outcomes ++ outcome ∷ [])
standings_ended standings outcomes outcome are one in' open' = λ k.
    let now : Standing = standing_at (length outcomes) outcome.committed in
    elim (cases_eq k (outcome.number - 1)) [
      | inl e ↦
          ap (λ i. get_or (set standings (outcome.number - 1) now) i Open) e
          ∙ get_or-set_same standings (outcome.number - 1) now Open (omega (arith, one, in'))
          ∙ ap (λ (p : ℕ). standing_at p outcome.committed) (omega arith)
          ∙ sym (standing_from-push_same 0 outcomes outcome open')
          ∙ ap (standing_from 0 (outcomes ++ outcome ∷ [])) (omega (arith, e, one))
      | inr ne ↦
          get_or-set_other standings (outcome.number - 1) k now Open ne
          ∙ are k
          ∙ sym (standing_from-push_other 0 outcomes outcome (k + 1) (λ same. ne (omega (arith, same))))
    ]
