-- Keys that are the same or not, and the key of a chain.
use Rattle.std.proofs.Common.{◌≡◌, ◌≢◌, ℕ, true, false, List, [], ◌∷◌, map, refl, sym, ap, subst, ◌∙◌, inl, inr, ⊎_elim}
use Rattle.std.specs.Prelude.{◌⊎◌}
use Rattle.std.specs.Cmp.{eq_by_cmp_equiv}
use Rattle.std.proofs.lemmas.Bool.{cases_Bool, false_from_ne_true, false≢true}
use Rattle.std.proofs.lemmas.Map.Views.{tells_apart}
use Rattle.px_cells.specs.declared.slot.Slot.{Slot}
use Rattle.px_model.specs.Rows.{Key, same_key}
use Rattle.px_model_laws.proofs.RowsAsMap.{key_total, key_exact}

-- ---- keys

pub same_key-refl : (key : Key) → same_key key key ≡ true
unfolding same_key
same_key-refl key = (eq_by_cmp_equiv key_total).refl key

same_key-is : (a b : Key) → same_key a b ≡ true → a ≡ b
unfolding same_key
same_key-is a b same = tells_apart key_exact a b same

pub same_key-not : (a b : Key) → a ≢ b → same_key a b ≡ false
same_key-not a b apart = false_from_ne_true (same_key a b) (λ same. apart (same_key-is a b same))

pub key_cases : (a b : Key) → (a ≡ b) ⊎ (a ≢ b)
key_cases a b = ⊎_elim
    (λ (yes : same_key a b ≡ true). inl (same_key-is a b yes))
    (λ (no : same_key a b ≡ false). inr (λ same. false≢true (sym no ∙ ap (λ k. same_key k b) same ∙ same_key-refl b)))
    (cases_Bool (same_key a b))

pub key_made : (key : Key) (table : ℕ) (bytes : List ℕ) → key.0 ≡ table → key.1 ≡ bytes → key ≡ (table, bytes)
key_made key table bytes e f = ap (λ n. (n, key.1)) e ∙ ap (λ l. (table, l)) f

-- ---- the key of a chain

-- the newest slot of a chain has this key, so there is one
abbrev pub HasKey : List Slot → List ℕ → Type 0
HasKey [] key = ⊥
HasKey (slot ∷ slots) key = slot.key ≡ key

-- a slot without its link
abbrev pub seen : Slot → Slot
seen slot = record slot { next = 0 }

seen_has : (slots : List Slot) (key : List ℕ) → HasKey slots key → HasKey (map seen slots) key
seen_has [] key has = has
seen_has (slot ∷ slots) key has = has

has_seen : (slots : List Slot) (key : List ℕ) → HasKey (map seen slots) key → HasKey slots key
has_seen [] key has = has
has_seen (slot ∷ slots) key has = has

pub has_alike : (a b : List Slot) (key : List ℕ) → map seen a ≡ map seen b → HasKey a key → HasKey b key
has_alike a b key alike has = has_seen b key (subst (λ (l : List Slot). HasKey l key) alike (seen_has a key has))

pub has_or_none : (slots : List Slot) → (slots ≡ []) ⊎ ((key : List ℕ) × HasKey slots key)
has_or_none [] = inl refl
has_or_none (slot ∷ slots) = inr (slot.key, refl)

pub none_has : (slots : List Slot) (key : List ℕ) → slots ≡ [] → HasKey slots key → ⊥
none_has slots key none has = subst (λ (l : List Slot). HasKey l key) none has
