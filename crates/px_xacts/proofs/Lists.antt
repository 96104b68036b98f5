-- Lists with one place set, or with one more element.
use Rattle.std.proofs.Common.{◌≡◌, ◌≢◌, ℕ, zero, suc, ◌<◌, ◌⊎◌, false, inl, inr, List, [], ◌∷◌, ◌++◌, length, get_or, set, Option, Some, None, refl, sym, ap, subst, ◌∙◌, arith}
use Rattle.std.specs.Prelude.{slice_get, is_some, IfSome, IsSomeAnd}
use Rattle.std.proofs.lemmas.Bool.{false≢true, cases_eq, cases_lt}
use Rattle.std.proofs.lemmas.Option.{none-some, same_Some}
use Rattle.std.proofs.lemmas.List.{get_or-set_same, get_or-set_other, get_or_past, get_or_read, set_past, set-set, set-get_or}

-- what stands at a place after one was set
pub slot_cases : {X : Type 0} (slots : List (Option X)) (s t : ℕ) (slot : Option X) (y : X) → get_or (set slots s slot) t None ≡ Some y
    → ((t ≡ s) × (slot ≡ Some y)) ⊎ ((t ≢ s) × (get_or slots t None ≡ Some y))
slot_cases slots s t slot y at = elim (cases_eq t s) [
  | inl e ↦ elim (cases_lt s (length slots)) [
    | inl lt ↦ inl (e, sym (get_or-set_same slots s slot None lt) ∙ ap (λ k. get_or (set slots s slot) k None) (sym e) ∙ at)
    | inr le ↦ absurd (none-some y (sym (get_or_past slots t None (omega (arith, e, le))) ∙ ap (λ l. get_or l t None) (sym (set_past slots s slot le)) ∙ at))
  ]
  | inr ne ↦ inr (ne, sym (get_or-set_other slots s t slot None ne) ∙ at)
]

-- a place that is set and set back
pub set_back : {X : Type 0} (slots : List (Option X)) (s : ℕ) (slot back : Option X) → back ≡ get_or slots s None
    → set (set slots s slot) s back ≡ slots
set_back slots s slot back is =
    ap (set (set slots s slot) s) is ∙ set-set slots s slot (get_or slots s None) ∙ set-get_or slots s None

-- one more default at the end changes no look-up
pub get_or-push_default : {X : Type 0} (xs : List X) (d : X) (k : ℕ) → get_or (xs ++ d ∷ []) k d ≡ get_or xs k d
get_or-push_default [] d zero = refl
get_or-push_default [] d (suc k) = refl
get_or-push_default (x ∷ xs) d zero = refl
get_or-push_default (x ∷ xs) d (suc k) = get_or-push_default xs d k

pub slice_get-append_left : {X : Type 0} (xs : List X) (y : X) (i : ℕ) (x : X) → slice_get xs i ≡ Some x → slice_get (xs ++ y ∷ []) i ≡ Some x
slice_get-append_left [] y i x at = absurd (none-some x at)
slice_get-append_left (z ∷ xs) y zero x at = at
slice_get-append_left (z ∷ xs) y (suc i) x at = slice_get-append_left xs y i x at

pub slice_get-push : {X : Type 0} (xs : List X) (y : X) → slice_get (xs ++ y ∷ []) (length xs) ≡ Some y
slice_get-push [] y = refl
slice_get-push (x ∷ xs) y = slice_get-push xs y

pub push_cases : {X : Type 0} (xs : List X) (y : X) (i : ℕ) (x : X) → slice_get (xs ++ y ∷ []) i ≡ Some x
    → (slice_get xs i ≡ Some x) ⊎ ((i ≡ length xs) × (y ≡ x))
push_cases [] y zero x at = inr (refl, same_Some y x at)
push_cases [] y (suc i) x at = absurd (none-some x at)
push_cases (z ∷ xs) y zero x at = inl at
push_cases (z ∷ xs) y (suc i) x at = elim (push_cases xs y i x at) [ inl p ↦ inl p | inr p ↦ inr (omega (arith, p.0), p.1) ]

-- what was read at a place, as the slot of that place
pub read_slot : {X : Type 0} (slots : List (Option X)) (s : ℕ) (now : Option X) (x : X) → s < length slots → now ≡ get_or slots s now → now ≡ Some x
    → get_or slots s None ≡ Some x
read_slot slots s now x lt read is = sym (get_or_read slots s now lt read None) ∙ is

pub if_some : {X : Type 0} (slot : Option X) (P : X → Type 0) → ((x : X) → slot ≡ Some x → P x) → IfSome slot P
if_some None P each = tt
if_some (Some x) P each = each x refl

pub in_some : {X : Type 0} (slot : Option X) (P : X → Type 0) (x : X) → IsSomeAnd slot P → slot ≡ Some x → P x
in_some None P x holds is = absurd (none-some x is)
in_some (Some y) P x holds is = subst P (same_Some y x is) holds

none_of : {X : Type 0} (slot : Option X) → is_some slot ≡ false → slot ≡ None
none_of None e = refl
none_of (Some x) e = absurd (false≢true (sym e))

-- a slot that was read as empty
pub read_none : {X : Type 0} (slots : List (Option X)) (s : ℕ) (now : Option X) → s < length slots → now ≡ get_or slots s now → is_some now ≡ false
    → get_or slots s None ≡ None
read_none slots s now lt read e = sym (get_or_read slots s now lt read None) ∙ none_of now e
