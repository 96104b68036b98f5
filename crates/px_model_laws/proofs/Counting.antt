-- What is counted over all versions is what is counted over the chains.
use Rattle.std.proofs.Common.{◌≡◌, ℕ, ◌+◌, ◌≤◌, Bool, true, false, cond, List, [], ◌∷◌, map, length, refl, sym, ap, ◌∙◌, arith}
use Rattle.std.specs.Prelude.{filter, sum_by, count_by}
use Rattle.std.specs.Cmp.{eq_by_cmp_equiv}
use Rattle.std.proofs.lemmas.List.Sums.{sum_by-cons}
use Rattle.px_model.specs.declared.write.Write.{Write}
use Rattle.px_model.specs.declared.machine.Variation.{Variation}
use Rattle.px_model.specs.Rows.{Key, same_key, key_written}
use Rattle.px_model.specs.Machine.{Machine}
use Rattle.px_model.specs.Chains.{chain, all_variations, variations, live, long_size}
use Rattle.px_model_laws.specs.Keys.{is_of, AreKeysOf}
use Rattle.px_model_laws.proofs.RowsAsMap.{AreRows, key_total}
use Rattle.px_model_laws.proofs.Cut.{written, chain-cut}

same_key-itself : (key : Key) → same_key key key ≡ true
unfolding same_key
same_key-itself key = (eq_by_cmp_equiv key_total).refl key

-- ---- sums over keys

sum-alike : (f g : Key → ℕ) → ((key : Key) → f key ≡ g key) → (keys : List Key) → sum_by f keys ≡ sum_by g keys
sum-alike f g same [] = refl
sum-alike f g same (k ∷ keys) =
    let a = sum_by-cons f k keys in
    let b = sum_by-cons g k keys in
    let c = sum-alike f g same keys in
    let d = same k in
    omega arith

sum-added : (f g h : Key → ℕ) → ((key : Key) → f key ≡ g key + h key) → (keys : List Key) → sum_by f keys ≡ sum_by g keys + sum_by h keys
sum-added f g h same [] = refl
sum-added f g h same (k ∷ keys) =
    let a = sum_by-cons f k keys in
    let b = sum_by-cons g k keys in
    let c = sum_by-cons h k keys in
    let d = sum-added f g h same keys in
    let e = same k in
    omega arith

sum-nothing : (f : Key → ℕ) → ((key : Key) → f key ≡ 0) → (keys : List Key) → sum_by f keys ≡ 0
sum-nothing f none [] = refl
sum-nothing f none (k ∷ keys) =
    let a = sum_by-cons f k keys in
    let b = sum-nothing f none keys in
    let c = none k in
    omega arith

-- a weight at the keys that pass
abbrev at : (Key → Bool) → ℕ → Key → ℕ
at p weight key = cond (p key) weight 0

weighed_never : (p : Key → Bool) (weight : ℕ) (keys : List Key) → count_by p keys ≡ 0 → sum_by (at p weight) keys ≡ 0
weighed_never p weight [] h = refl
weighed_never p weight (k ∷ keys) h =
    let a = sum_by-cons (at p weight) k keys in
    let b = sum_by-cons (at p 1) k keys in
    a ∙ (elim (p k) as (λ t. cond t 1 0 + count_by p keys ≡ 0 → cond t weight 0 + sum_by (at p weight) keys ≡ 0) [
      | true ↦ λ c. absurd (omega arith)
      | false ↦ λ c. let d = weighed_never p weight keys (omega arith) in omega arith
    ]) (sym b ∙ h)

weighed_once : (p : Key → Bool) (weight : ℕ) (keys : List Key) → count_by p keys ≡ 1 → sum_by (at p weight) keys ≡ weight
weighed_once p weight [] h = absurd (omega arith)
weighed_once p weight (k ∷ keys) h =
    let a = sum_by-cons (at p weight) k keys in
    let b = sum_by-cons (at p 1) k keys in
    a ∙ (elim (p k) as (λ t. cond t 1 0 + count_by p keys ≡ 1 → cond t weight 0 + sum_by (at p weight) keys ≡ weight) [
      | true ↦ λ c. let d = weighed_never p weight keys (omega arith) in omega arith
      | false ↦ λ c. let d = weighed_once p weight keys (omega arith) in omega arith
    ]) (sym b ∙ h)

-- ---- a list of writes by their keys

abbrev share : (Write → ℕ) → List Write → Key → ℕ
share f writes key = sum_by f (filter (is_of key) writes)

share-cons : (f : Write → ℕ) (w : Write) (writes : List Write) (key : Key)
    → share f (w ∷ writes) key ≡ at (λ k. is_of k w) (f w) key + share f writes key
share-cons f w writes key =
    elim (is_of key w) as (λ b. sum_by f (cond b (w ∷ filter (is_of key) writes) (filter (is_of key) writes)) ≡ cond b (f w) 0 + share f writes key) [
      | true ↦ sum_by-cons f w (filter (is_of key) writes)
      | false ↦ omega arith
    ]

-- each key of a write is among these, and none stands there twice
pub record AreKeysOfAll (keys : List Key) (writes : List Write) : Type 0 where
  pub once : (key : Key) → count_by (λ k. same_key k key) keys ≤ 1
  pub all : (key : Key) → count_by (λ k. same_key k key) keys ≡ 0 → filter (is_of key) writes ≡ []

tail_none : (key : Key) (w : Write) (writes : List Write) → filter (is_of key) (w ∷ writes) ≡ [] → filter (is_of key) writes ≡ []
tail_none key w writes = elim (is_of key w) as (λ b. cond b (w ∷ filter (is_of key) writes) (filter (is_of key) writes) ≡ [] → filter (is_of key) writes ≡ []) [
  | true ↦ λ h. cc
  | false ↦ λ h. h
]

head_one : (keys : List Key) (w : Write) (writes : List Write) → AreKeysOfAll keys (w ∷ writes) → count_by (λ k. is_of k w) keys ≡ 1
head_one keys w writes h =
    let most = h.once (key_written w) in
    let not_none : count_by (λ k. same_key k (key_written w)) keys ≡ 0 → ⊥ = λ none.
    let empty = ap (λ b. cond b (w ∷ filter (is_of (key_written w)) writes) (filter (is_of (key_written w)) writes)) (sym (same_key-itself (key_written w)))
    ∙ h.all (key_written w) none in
    cc in
    omega (arith, not_none)

pub sum-by_keys : (f : Write → ℕ) (keys : List Key) (writes : List Write) → AreKeysOfAll keys writes → sum_by f writes ≡ sum_by (share f writes) keys
sum-by_keys f keys [] h = sym (sum-nothing (share f []) (λ key. refl) keys)
sum-by_keys f keys (w ∷ writes) h =
    let tail : AreKeysOfAll keys writes = record { once = h.once; all = λ key none. tail_none key w writes (h.all key none) } in
    let a = sum_by-cons f w writes in
    let b = sum-added (share f (w ∷ writes)) (at (λ k. is_of k w) (f w)) (share f writes) (share-cons f w writes) keys in
    let c = weighed_once (λ k. is_of k w) (f w) keys (head_one keys w writes h) in
    let d = sum-by_keys f keys writes tail in
    omega arith

-- ---- the chains

sum-map : (f : Write → ℕ) (all : List Variation) → sum_by f (map written all) ≡ sum_by (λ (v : Variation). f v.write) all
sum-map f [] = refl
sum-map f (v ∷ all) =
    let a = sum_by-cons f v.write (map written all) in
    let b = sum_by-cons (λ (u : Variation). f u.write) v all in
    let c = sum-map f all in
    omega arith

sum-chains : (f : Write → ℕ) (m : Machine) (keys : List Key) → AreRows m.opening → AreKeysOf m keys
    → sum_by f (all_variations m) ≡ sum_by (λ key. sum_by (λ (v : Variation). f v.write) (chain m key)) keys
sum-chains f m keys rows h =
    let all : AreKeysOfAll keys (all_variations m) = record {
      once = h.once;
      all = λ key none. sym (chain-cut m key rows) ∙ ap (map written) (h.all key none);
    } in
    sum-by_keys f keys (all_variations m) all
    ∙ sum-alike (share f (all_variations m)) (λ key. sum_by (λ (v : Variation). f v.write) (chain m key))
    (λ key. ap (sum_by f) (sym (chain-cut m key rows)) ∙ sum-map f (chain m key)) keys

length-sum : {A : Type 0} (all : List A) → length all ≡ sum_by (λ (x : A). 1) all
length-sum [] = refl
length-sum {A} (x ∷ all) =
    let a = sum_by-cons (λ (y : A). 1) x all in
    let b = length-sum all in
    omega arith

pub variations-chains : (m : Machine) (keys : List Key) → AreRows m.opening → AreKeysOf m keys → variations m ≡ sum_by (λ key. length (chain m key)) keys
unfolding variations
variations-chains m keys rows h =
    length-sum (all_variations m)
    ∙ sum-chains (λ _. 1) m keys rows h
    ∙ sum-alike (λ key. sum_by (λ (v : Variation). 1) (chain m key)) (λ key. length (chain m key)) (λ key. sym (length-sum (chain m key))) keys

pub live-chains : (m : Machine) (keys : List Key) → AreRows m.opening → AreKeysOf m keys
    → live m ≡ sum_by (λ key. sum_by (λ (v : Variation). long_size m.short v.write) (chain m key)) keys
unfolding live
live-chains m keys rows h = sum-chains (long_size m.short) m keys rows h
