-- Sessions' transactions, of which one changes.
use Rattle.std.proofs.Common.{◌≡◌, ◌≢◌, ◌⊎◌, ℕ, zero, suc, pred, List, [], ◌∷◌, get_or, set, Option, Some, None, refl, ap, inl, inr}
use Rattle.px_model.specs.declared.machine.Open.{Open}

-- the transaction that the session has now, or one that another has
pub record IsNow (session s : ℕ) (slot : Option Open) (xact : Open) : Type 0 where
  pub same : s ≡ session
  pub is : slot ≡ Some xact

pub record IsStill (active : List (Option Open)) (session s : ℕ) (xact : Open) : Type 0 where
  pub other : s ≢ session
  pub is : get_or active s None ≡ Some xact

next : (active : List (Option Open)) (first : Option Open) (session s : ℕ) (slot : Option Open) (xact : Open) → IsNow session s slot xact ⊎ IsStill active session s xact
    → IsNow (suc session) (suc s) slot xact ⊎ IsStill (first ∷ active) (suc session) (suc s) xact
next active first session s slot xact (inl now) = inl (record { same = ap suc now.same; is = now.is })
next active first session s slot xact (inr still) = inr (record { other = λ same. still.other (ap pred same); is = still.is })

pub slot_is : (active : List (Option Open)) (session s : ℕ) (slot : Option Open) (xact : Open) → get_or (set active session slot) s None ≡ Some xact
    → IsNow session s slot xact ⊎ IsStill active session s xact
slot_is [] session s slot xact is = absurd cc
slot_is (first ∷ active) zero zero slot xact is = inl (record { same = refl; is = is })
slot_is (first ∷ active) zero (suc s) slot xact is = inr (record { other = λ same. absurd cc; is = is })
slot_is (first ∷ active) (suc session) zero slot xact is = inr (record { other = λ same. absurd cc; is = is })
slot_is (first ∷ active) (suc session) (suc s) slot xact is = next active first session s slot xact (slot_is active session s slot xact is)
