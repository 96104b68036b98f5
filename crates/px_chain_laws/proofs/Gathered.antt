-- What slots have together that passes a test, when one of them changes.
use Rattle.std.proofs.Common.{◌≡◌, ℕ, zero, suc, ◌<◌, Bool, List, [], ◌∷◌, ◌++◌, length, get_or, set, refl, sym, ap, ◌∙◌, arith}
use Rattle.std.specs.Prelude.{filter, flat_map}
use Rattle.std.proofs.lemmas.List.{append-nil}
use Rattle.std.proofs.lemmas.List.Elements.{filter-append}

abbrev pub gathered : {S X : Type 0} → (X → Bool) → (S → List X) → List S → List X
gathered test of slots = filter test (flat_map of slots)

pub gathered_first : {S X : Type 0} (test : X → Bool) (of : S → List X) (slot : S) (slots : List S)
    → gathered test of (slot ∷ slots) ≡ filter test (of slot) ++ gathered test of slots
gathered_first test of slot slots = filter-append test (of slot) (flat_map of slots)

-- a slot changes, and has the same
pub gathered_alike : {S X : Type 0} (test : X → Bool) (of : S → List X) (slots : List S) (s : ℕ) (slot other : S)
    → filter test (of slot) ≡ filter test (of (get_or slots s other)) → gathered test of (set slots s slot) ≡ gathered test of slots
gathered_alike test of [] s slot other same = refl
gathered_alike test of (z ∷ slots) zero slot other same =
    gathered_first test of slot slots ∙ ap (λ l. l ++ gathered test of slots) same ∙ sym (gathered_first test of z slots)
gathered_alike test of (z ∷ slots) (suc s) slot other same =
    gathered_first test of z (set slots s slot)
    ∙ ap (λ l. filter test (of z) ++ l) (gathered_alike test of slots s slot other same)
    ∙ sym (gathered_first test of z slots)

empty_parts : {X : Type 0} (a b : List X) → a ++ b ≡ [] → (a ≡ []) × (b ≡ [])
empty_parts [] b h = (refl, h)
empty_parts (x ∷ a) b h = absurd cc

-- one slot has all of it
pub gathered_alone : {S X : Type 0} (test : X → Bool) (of : S → List X) (slots : List S) (s : ℕ) (slot none : S) → s < length slots
    → gathered test of (set slots s none) ≡ [] → gathered test of (set slots s slot) ≡ filter test (of slot)
gathered_alone test of [] s slot none within nothing = absurd (omega (arith, within))
gathered_alone test of (z ∷ slots) zero slot none within nothing =
    let others : gathered test of slots ≡ [] = (empty_parts (filter test (of none)) (gathered test of slots) (sym (gathered_first test of none slots) ∙ nothing)).1 in
    gathered_first test of slot slots ∙ ap (λ l. filter test (of slot) ++ l) others ∙ append-nil (filter test (of slot))
gathered_alone test of (z ∷ slots) (suc s) slot none within nothing =
    let parts = empty_parts (filter test (of z)) (gathered test of (set slots s none)) (sym (gathered_first test of z (set slots s none)) ∙ nothing) in
    gathered_first test of z (set slots s slot)
    ∙ ap (λ l. l ++ gathered test of (set slots s slot)) parts.0
    ∙ gathered_alone test of slots s slot none (omega (arith, within)) parts.1
