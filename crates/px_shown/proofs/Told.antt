-- What keys have, told by chains, when one chain changes.
use Rattle.std.proofs.Common.{◌≡◌, ◌≢◌, ℕ, List, [], ◌∷◌, map, Option, None, refl, sym, ap, subst, ◌∙◌, inl, inr, ⊎_elim}
use Rattle.std.specs.Prelude.{◌⊎◌}
use Rattle.std.proofs.lemmas.Bool.{cases_eq}
use Rattle.px_cells.specs.declared.slot.Slot.{Slot}
use Rattle.px_model.specs.Rows.{Key}
use Rattle.px_shown.proofs.Keys.{HasKey, seen, has_alike, has_or_none, none_has, key_cases, key_made}

-- by its table and its row pointer, the slots of each chain; none where the row pointer is free
abbrev pub Chains : Type 0
Chains = ℕ → ℕ → List Slot

-- what is told of a chain has nothing to do with links, and nothing is told of an empty one
pub record IsBlind {X : Type 0} (of_chain : (table : ℕ) → List Slot → Option X) : Type 0 where
  pub alike : (table : ℕ) (slots : List Slot) → of_chain table (map seen slots) ≡ of_chain table slots
  pub none : (table : ℕ) → of_chain table [] ≡ None

pub record IsTold {X : Type 0} (chains : Chains) (of_chain : (table : ℕ) → List Slot → Option X) (of_key : Key → Option X) : Type 0 where
  pub of_row : (t row : ℕ) (key : List ℕ) → HasKey (chains t row) key → of_key (t, key) ≡ of_chain t (chains t row)
  pub of_none : (key : Key) → ((row : ℕ) → HasKey (chains key.0 row) key.1 → ⊥) → of_key key ≡ None

-- One chain has other slots, of the same key, which no other row of the table has. Else only links differ.
pub record IsChanged (old new : Chains) (t row : ℕ) (key : List ℕ) (slots : List Slot) : Type 0 where
  pub here : map seen (new t row) ≡ map seen slots
  pub away : (n q : ℕ) → (n ≡ t → q ≡ row → ⊥) → map seen (new n q) ≡ map seen (old n q)
  pub its_key : (k : List ℕ) → HasKey slots k → k ≡ key
  pub was_key : (k : List ℕ) → HasKey (old t row) k → k ≡ key
  pub alone : (q : ℕ) → q ≢ row → HasKey (old t q) key → ⊥

pub here_or_away : (n q t row : ℕ) → ((n ≡ t) × (q ≡ row)) ⊎ (n ≡ t → q ≡ row → ⊥)
here_or_away n q t row = ⊎_elim
    (λ (e : n ≡ t). ⊎_elim (λ (f : q ≡ row). inl (e, f)) (λ (f : q ≢ row). inr (λ _ g. f g)) (cases_eq q row))
    (λ (e : n ≢ t). inr (λ g _. e g))
    (cases_eq n t)

pub told_alike : {X : Type 0} (of_chain : (table : ℕ) → List Slot → Option X) (table : ℕ) (a b : List Slot) → IsBlind of_chain → map seen a ≡ map seen b
    → of_chain table a ≡ of_chain table b
told_alike of_chain table a b blind alike = sym (blind.alike table a) ∙ ap (of_chain table) alike ∙ blind.alike table b

no_key : (slots : List Slot) → ((key : List ℕ) → HasKey slots key → ⊥) → slots ≡ []
no_key [] none = refl
no_key (slot ∷ slots) none = absurd (none slot.key refl)

-- the chain's key has what the chain tells, also where the chain is empty
pub told_here : {X : Type 0} (old new : Chains) (t row : ℕ) (key : List ℕ) (slots : List Slot) (of_chain : (table : ℕ) → List Slot → Option X) (of_key : Key → Option X)
    → IsChanged old new t row key slots → IsBlind of_chain → IsTold old of_chain of_key → of_key (t, key) ≡ of_chain t (old t row)
told_here old new t row key slots of_chain of_key c blind told = ⊎_elim
    (λ (none : old t row ≡ []).
    told.of_none (t, key) (λ q has. ⊎_elim
    (λ (e : q ≡ row). none_has (old t row) key none (subst (λ (p : ℕ). HasKey (old t p) key) e has))
    (λ (e : q ≢ row). c.alone q e has)
    (cases_eq q row))
    ∙ sym (ap (of_chain t) none ∙ blind.none t))
    (λ (some : (k : List ℕ) × HasKey (old t row) k).
    subst (λ (k : List ℕ). of_key (t, k) ≡ of_chain t (old t row)) (c.was_key some.0 some.1) (told.of_row t row some.0 some.1))
    (has_or_none (old t row))

-- where the key has what the new slots tell, and all other keys have what they had, the new chains tell it
pub told_changed : {X : Type 0} (old new : Chains) (t row : ℕ) (key : List ℕ) (slots : List Slot) (of_chain : (table : ℕ) → List Slot → Option X) (was is : Key → Option X)
    → IsChanged old new t row key slots → IsBlind of_chain → IsTold old of_chain was
    → ((k : Key) → k ≢ (t, key) → is k ≡ was k) → is (t, key) ≡ of_chain t slots → IsTold new of_chain is
told_changed old new t row key slots of_chain was is c blind told others here =
    let at_row : (k : List ℕ) → HasKey (new t row) k → is (t, k) ≡ of_chain t (new t row) = λ k has.
    subst (λ (p : List ℕ). is (t, p) ≡ of_chain t (new t row)) (sym (c.its_key k (has_alike (new t row) slots k c.here has)))
    (here ∙ sym (told_alike of_chain t (new t row) slots blind c.here)) in
    record {
      of_row = λ n q k has. ⊎_elim
          (λ (same : (n ≡ t) × (q ≡ row)).
          let had : HasKey (new t row) k = subst (λ (p : ℕ). HasKey (new t p) k) same.1 (subst (λ (m : ℕ). HasKey (new m q) k) same.0 has) in
          subst (λ (m : ℕ). is (m, k) ≡ of_chain m (new m q)) (sym same.0) (subst (λ (p : ℕ). is (t, k) ≡ of_chain t (new t p)) (sym same.1) (at_row k had)))
          (λ (apart : n ≡ t → q ≡ row → ⊥).
          let had : HasKey (old n q) k = has_alike (new n q) (old n q) k (c.away n q apart) has in
          let other : (n, k) ≢ (t, key) = λ e.
          let table : n ≡ t = ap (λ (p : Key). p.0) e in
          c.alone q (apart table) (subst (λ (p : List ℕ). HasKey (old t q) p) (ap (λ (p : Key). p.1) e) (subst (λ (m : ℕ). HasKey (old m q) k) table had)) in
          others (n, k) other ∙ told.of_row n q k had ∙ sym (told_alike of_chain n (new n q) (old n q) blind (c.away n q apart)))
          (here_or_away n q t row);
      of_none = λ k none. ⊎_elim
          (λ (e : k ≡ (t, key)).
          let table : k.0 ≡ t = ap (λ (p : Key). p.0) e in
          let bytes : k.1 ≡ key = ap (λ (p : Key). p.1) e in
          let empty : slots ≡ [] = no_key slots (λ p has.
          let had : HasKey (new t row) p = has_alike slots (new t row) p (sym c.here) has in
          let named : HasKey (new t row) k.1 = subst (λ (l : List ℕ). HasKey (new t row) l) (c.its_key p has ∙ sym bytes) had in
          none row (subst (λ (m : ℕ). HasKey (new m row) k.1) (sym table) named)) in
          ap is e ∙ here ∙ ap (of_chain t) empty ∙ blind.none t)
          (λ (e : k ≢ (t, key)).
          others k e ∙ told.of_none k (λ q has. ⊎_elim
          (λ (same : (k.0 ≡ t) × (q ≡ row)).
          e (key_made k t key same.0 (c.was_key k.1 (subst (λ (p : ℕ). HasKey (old t p) k.1) same.1 (subst (λ (m : ℕ). HasKey (old m q) k.1) same.0 has)))))
          (λ (apart : k.0 ≡ t → q ≡ row → ⊥). none q (has_alike (old k.0 q) (new k.0 q) k.1 (sym (c.away k.0 q apart)) has))
          (here_or_away k.0 q t row)))
          (key_cases k (t, key));
    }

-- where the new slots tell what the old ones told, all keys have what they had
pub told_stays : {X : Type 0} (old new : Chains) (t row : ℕ) (key : List ℕ) (slots : List Slot) (of_chain : (table : ℕ) → List Slot → Option X) (of_key : Key → Option X)
    → IsChanged old new t row key slots → IsBlind of_chain → IsTold old of_chain of_key → of_chain t slots ≡ of_chain t (old t row) → IsTold new of_chain of_key
told_stays old new t row key slots of_chain of_key c blind told same =
    told_changed old new t row key slots of_chain of_key of_key c blind told (λ k other. refl)
    (told_here old new t row key slots of_chain of_key c blind told ∙ sym same)
