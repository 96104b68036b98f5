-- Lists in which an item stands at its number.
use Rattle.std.proofs.Common.{◌≡◌, ◌≢◌, ℕ, ◌+◌, ◌<◌, ◌≤◌, List, [], ◌∷◌, ◌++◌, length, get_or, refl, sym, ap, ◌∙◌, arith, length-append, inl, inr, ⊎_elim}
use Rattle.std.proofs.Math.ListN.{get_or-append}
use Rattle.std.proofs.Math.Seq.{get_or-append_seam}
use Rattle.std.proofs.lemmas.Bool.{cases_eq, cases_lt, eq-eqb, ne_eqb, lt-ltb, le-ltb}
use Rattle.std.proofs.lemmas.List.{get_or-set_same, get_or-set_other, get_or_past, length-set}
use Rattle.std.specs.Prelude.{◌==◌, if◌then◌else◌, slice_set}
use Rattle.px_free.specs.Places.{Places, next_place, after_taking}
use Rattle.px_tables.specs.Held.{placed}

module _ {X : Type 0} where
  placed_in : (items : List X) (n : ℕ) (x : X) → n < length items → placed items n x ≡ slice_set items n x
  placed_in items n x lt = rw (lt-ltb n (length items) lt) refl

  placed_behind : (items : List X) (n : ℕ) (x : X) → length items ≤ n → placed items n x ≡ items ++ x ∷ []
  placed_behind items n x le = rw (le-ltb n (length items) le) refl

  pub placed_same : (items : List X) (n : ℕ) (x d : X) → n ≤ length items → get_or (placed items n x) n d ≡ x
  placed_same items n x d within = elim (cases_lt n (length items)) [
    | inl lt ↦ ap (λ (l : List X). get_or l n d) (placed_in items n x lt) ∙ get_or-set_same items n x d lt
    | inr le ↦
        let at : n ≡ length items = omega arith in
        ap (λ (l : List X). get_or l n d) (placed_behind items n x le) ∙ ap (λ (k : ℕ). get_or (items ++ x ∷ []) k d) at ∙ get_or-append_seam items x [] d
  ]

  behind_other : (items : List X) (k : ℕ) (x d : X) → k ≢ length items → get_or (items ++ x ∷ []) k d ≡ get_or items k d
  behind_other items k x d other = elim (cases_lt k (length items)) [
    | inl lt ↦ get_or-append items (x ∷ []) d k lt
    | inr le ↦
        get_or_past (items ++ x ∷ []) k d (omega (arith, length-append items (x ∷ []), other)) ∙ (let p = get_or_past items k d le in sym p)
  ]

  pub placed_other : (items : List X) (n k : ℕ) (x d : X) → n ≤ length items → k ≢ n → get_or (placed items n x) k d ≡ get_or items k d
  placed_other items n k x d within other = elim (cases_lt n (length items)) [
    | inl lt ↦ ap (λ (l : List X). get_or l k d) (placed_in items n x lt) ∙ get_or-set_other items n k x d other
    | inr le ↦
        let at : n ≡ length items = omega arith in
        ap (λ (l : List X). get_or l k d) (placed_behind items n x le) ∙ behind_other items k x d (λ e. other (omega (arith, e, at)))
  ]

  pub placed_at : (items : List X) (n k : ℕ) (x d : X) → n ≤ length items → get_or (placed items n x) k d ≡ (if k == n then x else get_or items k d)
  placed_at items n k x d within = elim (cases_eq k n) [
    | inl e ↦ rw (eq-eqb k n e) (ap (λ (j : ℕ). get_or (placed items n x) j d) e ∙ placed_same items n x d within)
    | inr ne ↦ rw (ne_eqb k n ne) (placed_other items n k x d within ne)
  ]

  pub length_in : (items : List X) (n : ℕ) (x : X) → n < length items → length (placed items n x) ≡ length items
  length_in items n x lt = ap length (placed_in items n x lt) ∙ length-set items n x

  pub length_behind : (items : List X) (n : ℕ) (x : X) → length items ≤ n → length (placed items n x) ≡ length items + 1
  length_behind items n x le = ap length (placed_behind items n x le) ∙ length-append items (x ∷ [])

  -- a place that was taken is one of those that there are, or the next
  pub length_taken : (items : List X) (x : X) (old new : Places) (place behind : ℕ) → length items ≡ old.used + 1 → old.front ≤ old.used
      → place ≡ next_place old → new ≡ after_taking old behind → length (placed items place x) ≡ new.used + 1
  length_taken items x old new place behind len front is after = elim (cases_eq old.front 0) [
    | inl none ↦
        let test = eq-eqb old.front 0 none in
        let made : new ≡ record old { used = old.used + 1 } = after ∙ rw test refl in
        let at : place ≡ old.used + 1 = is ∙ rw test refl in
        let used : new.used ≡ old.used + 1 = ap (λ (p : Places). p.used) made in
        length_behind items place x (omega arith) ∙ omega arith
    | inr some ↦
        let test = ne_eqb old.front 0 some in
        let made : new ≡ record old { front = behind } = after ∙ rw test refl in
        let at : place ≡ old.front = is ∙ rw test refl in
        let used : new.used ≡ old.used = ap (λ (p : Places). p.used) made in
        length_in items place x (omega arith) ∙ omega arith
  ]

pub next_within : (places : Places) → places.front ≤ places.used → next_place places ≤ places.used + 1
next_within places front = elim (cases_eq places.front 0) [
  | inl none ↦ rw (eq-eqb places.front 0 none) (omega arith)
  | inr some ↦ rw (ne_eqb places.front 0 some) (omega arith)
]

pub next_some : (places : Places) → 0 ≢ next_place places
next_some places e = ⊎_elim
    (λ (none : places.front ≡ 0). absurd (omega (arith, e, used_next places none)))
    (λ (some : places.front ≢ 0). some (sym (e ∙ front_next places some)))
    (cases_eq places.front 0)
  where
    used_next : (places : Places) → places.front ≡ 0 → next_place places ≡ places.used + 1
    used_next places none = rw (eq-eqb places.front 0 none) refl

    front_next : (places : Places) → places.front ≢ 0 → next_place places ≡ places.front
    front_next places some = rw (ne_eqb places.front 0 some) refl
