-- The first committer wins: what holds of the ended and the open transactions in every state that calls lead to.
use Rattle.std.proofs.Common.{◌≡◌, ◌≢◌, ℕ, zero, suc, ◌+◌, ◌-◌, ◌<◌, ◌≤◌, Bool, true, false, cond, ◌&&◌, ◌⊎◌, inl, inr, List, [], ◌∷◌, ◌++◌, length, get_or, set, drop, Option, Some, None, refl, sym, ap, subst, ◌∙◌, arith, eqb}
use Rattle.std.specs.Prelude.{slice_get}
use Rattle.std.specs.Option.{option_or}
use Rattle.std.specs.declared.cmp.Ordering.{Ordering}
use Rattle.std.specs.declared.cmp.Ordering.TheVariants.{Less, Equal, Greater}
use Rattle.std.specs.Ordering.{nat_cmp, is_eq}
use Rattle.std.specs.Cmp.Lexicographic.{slice_cmp}
use Rattle.std.proofs.lemmas.Map.Lookups.{exact_pairs, exact_unsigned, exact_bytes}
use Rattle.std.proofs.lemmas.Bool.{false≢true, cases_eq, cases_lt, and_from, or_cases}
use Rattle.std.proofs.lemmas.Option.{none-some, same_Some, slice_get_within, get_or_from_slice_get, slice_get-get_or}
use Rattle.std.proofs.lemmas.List.{get_or-set_same, get_or-set_other, set_past, get_or_past, get_or-drop, length-drop}
use Rattle.std.proofs.lemmas.List.Folds.{list_any-append}
use Rattle.px_model.specs.declared.write.Write.{Write}
use Rattle.px_model.specs.declared.machine.Ended.{Ended}
use Rattle.px_model.specs.declared.machine.Open.{Open}
use Rattle.px_model.specs.Rows.{Key, key_cmp, same_key, key_written, has_write_of}
use Rattle.px_calls.specs.Steps.{open_writer, last_writer, entry_of, plus_write}
use Rattle.px_calls.specs.Histories.{FirstCommitterWins}

-- ---- keys

is_equal : (o : Ordering) → is_eq o ≡ true → o ≡ Equal
is_equal Less h = absurd (false≢true h)
is_equal Equal h = refl
is_equal Greater h = absurd (false≢true h)

pub same_key-is : (a b : Key) → same_key a b ≡ true → a ≡ b
unfolding same_key key_cmp
same_key-is a b h = exact_pairs nat_cmp (slice_cmp nat_cmp) exact_unsigned exact_bytes a b (is_equal (key_cmp a b) h)

-- ---- lists

push_cases : (xs : List Ended) (y : Ended) (i : ℕ) (e : Ended) → slice_get (xs ++ y ∷ []) i ≡ Some e
    → ((i < length xs) × (slice_get xs i ≡ Some e)) ⊎ ((i ≡ length xs) × (y ≡ e))
push_cases [] y zero e h = inr (refl, same_Some y e h)
push_cases [] y (suc i) e h = absurd (none-some e h)
push_cases (x ∷ xs) y zero e h = inl (omega arith, h)
push_cases (x ∷ xs) y (suc i) e h =
    elim (push_cases xs y i e h) [ inl p ↦ inl (omega (arith, p.0), p.1) | inr p ↦ inr (omega (arith, p.0), p.1) ]

pub option_or_none : (a b : Option ℕ) → option_or a b ≡ None → (a ≡ None) × (b ≡ None)
option_or_none None b h = (refl, h)
option_or_none (Some n) b h = absurd (none-some n (sym h))

cond_none : (b : Bool) (n : ℕ) → cond b (Some n) None ≡ None → b ≡ true → ⊥
cond_none true n h e = none-some n (sym h)
cond_none false n h e = false≢true e

-- where nobody is the last writer, no committed one has written the key
last_none : (key : Key) (ended : List Ended) → last_writer key ended ≡ None → (i : ℕ) (e : Ended) → slice_get ended i ≡ Some e
    → e.committed ≡ true → has_write_of key e.writes ≡ true → ⊥
last_none key [] h i e at c w = none-some e at
last_none key (f ∷ ended) h zero e at c w =
    let same : f ≡ e = same_Some f e at in
    cond_none (f.committed && has_write_of key f.writes) f.number (option_or_none (last_writer key ended) _ h).1
    (and_from _ _ (ap (λ x. x.committed) same ∙ c) (ap (λ x. has_write_of key x.writes) same ∙ w))
last_none key (f ∷ ended) h (suc i) e at c w = last_none key ended (option_or_none (last_writer key ended) _ h).0 i e at c w

open_none : (key : Key) (slots : List (Option Open)) → open_writer key slots ≡ None → (t : ℕ) (y : Open) → get_or slots t None ≡ Some y
    → has_write_of key y.writes ≡ true → ⊥
open_none key [] h t y at w = none-some y at
open_none key (None ∷ slots) h zero y at w = none-some y at
open_none key (None ∷ slots) h (suc t) y at w = open_none key slots h t y at w
open_none key (Some x ∷ slots) h zero y at w =
    let same : x ≡ y = same_Some x y at in
    elim (has_write_of key x.writes) as (λ b. has_write_of key x.writes ≡ b → ⊥) [
      | true ↦ λ e. none-some x.number (sym (ap (λ b. cond b (Some x.number) (open_writer key slots)) (sym e) ∙ h))
      | false ↦ λ e. false≢true (sym e ∙ ap (λ z. has_write_of key z.writes) same ∙ w)
    ] refl
open_none key (Some x ∷ slots) h (suc t) y at w =
    elim (has_write_of key x.writes) as (λ b. has_write_of key x.writes ≡ b → ⊥) [
      | true ↦ λ e. none-some x.number (sym (ap (λ b. cond b (Some x.number) (open_writer key slots)) (sym e) ∙ h))
      | false ↦ λ e. open_none key slots (ap (λ b. cond b (Some x.number) (open_writer key slots)) (sym e) ∙ h) t y at w
    ] refl

-- an element past the first n is one of the rest
slice_get_from : (xs : List Ended) (n i : ℕ) (e : Ended) → n ≤ i → slice_get xs i ≡ Some e → slice_get (drop n xs) (i - n) ≡ Some e
slice_get_from xs n i e le at =
    let lt : i < length xs = slice_get_within xs i e at in
    let back : n + (i - n) ≡ i = omega arith in
    slice_get-get_or (drop n xs) (i - n) e (omega (arith, length-drop n xs))
    ∙ ap (λ v. Some v) (get_or-drop n xs (i - n) e ∙ ap (λ j. get_or xs j e) back ∙ get_or_from_slice_get xs i e e at)

-- a slot that was set, or another one
pub slot_cases : (active : List (Option Open)) (s t : ℕ) (slot : Option Open) (y : Open) → get_or (set active s slot) t None ≡ Some y
    → ((t ≡ s) × (slot ≡ Some y)) ⊎ ((t ≢ s) × (get_or active t None ≡ Some y))
slot_cases active s t slot y at = elim (cases_eq t s) [
  | inl e ↦ elim (cases_lt s (length active)) [
    | inl lt ↦ inl (e, sym (get_or-set_same active s slot None lt) ∙ ap (λ k. get_or (set active s slot) k None) (sym e) ∙ at)
    | inr le ↦ absurd (none-some y (sym (get_or_past active t None (omega (arith, e, le))) ∙ ap (λ l. get_or l t None) (sym (set_past active s slot le)) ∙ at))
  ]
  | inr ne ↦ inr (ne, sym (get_or-set_other active s t slot None ne) ∙ at)
]

-- ---- the invariant

pub record Sound (ended : List Ended) (active : List (Option Open)) : Type 0 where
  pub first_wins : FirstCommitterWins ended
  -- what an open transaction has written, those that committed past its snapshot have not
  pub seen : (s i : ℕ) (x : Open) (e : Ended) (key : Key) → get_or active s None ≡ Some x → slice_get ended i ≡ Some e → e.committed ≡ true
      → has_write_of key e.writes ≡ true → has_write_of key x.writes ≡ true → i < x.snap
  -- two open transactions have written no key in common
  pub apart : (s t : ℕ) (x y : Open) (key : Key) → t ≢ s → get_or active s None ≡ Some x → get_or active t None ≡ Some y
      → has_write_of key x.writes ≡ true → has_write_of key y.writes ≡ true → ⊥

pub change_slot : (ended : List Ended) (active : List (Option Open)) (s : ℕ) (slot : Option Open) → Sound ended active
    → ((x : Open) → slot ≡ Some x → (i : ℕ) (e : Ended) (key : Key) → slice_get ended i ≡ Some e → e.committed ≡ true
    → has_write_of key e.writes ≡ true → has_write_of key x.writes ≡ true → i < x.snap)
    → ((x : Open) → slot ≡ Some x → (t : ℕ) (y : Open) (key : Key) → t ≢ s → get_or active t None ≡ Some y
    → has_write_of key x.writes ≡ true → has_write_of key y.writes ≡ true → ⊥)
    → Sound ended (set active s slot)
change_slot ended active s slot k sees alone = record {
  first_wins = k.first_wins;
  seen = λ t i x e key o at c w v. elim (slot_cases active s t slot x o) [
    | inl p ↦ sees x p.1 i e key at c w v
    | inr p ↦ k.seen t i x e key p.1 at c w v
  ];
  apart = λ t u x y key ne o q w v. elim (slot_cases active s t slot x o) [
    | inl p ↦ elim (slot_cases active s u slot y q) [
      | inl r ↦ ne (r.0 ∙ sym p.0)
      | inr r ↦ alone x p.1 u y key r.0 r.1 w v
    ]
    | inr p ↦ elim (slot_cases active s u slot y q) [
      | inl r ↦ alone y r.1 t x key p.0 p.1 v w
      | inr r ↦ k.apart t u x y key ne p.1 r.1 w v
    ]
  ];
}

pub grow : (ended : List Ended) (active : List (Option Open)) (f : Ended) → Sound ended active
    → (f.committed ≡ true → (s : ℕ) (x : Open) (key : Key) → get_or active s None ≡ Some x → has_write_of key f.writes ≡ true → has_write_of key x.writes ≡ true → ⊥)
    → (f.committed ≡ true → (i : ℕ) (e : Ended) (key : Key) → slice_get ended i ≡ Some e → e.committed ≡ true → has_write_of key e.writes ≡ true → has_write_of key f.writes ≡ true → i < f.snap)
    → Sound (ended ++ f ∷ []) active
grow ended active f k free later = record {
  first_wins = λ i j e g key lt at bt c d w v. elim (push_cases ended f j g bt) [
    | inl q ↦ elim (push_cases ended f i e at) [
      | inl p ↦ k.first_wins i j e g key lt p.1 q.1 c d w v
      | inr p ↦ absurd (omega (arith, p.0, q.0, lt))
    ]
    | inr q ↦ elim (push_cases ended f i e at) [
      | inl p ↦ subst (λ z. i < z.snap) q.1 (later (ap (λ z. z.committed) q.1 ∙ d) i e key p.1 c w (ap (λ z. has_write_of key z.writes) q.1 ∙ v))
      | inr p ↦ absurd (omega (arith, p.0, q.0, lt))
    ]
  ];
  seen = λ s i x e key o at c w v. elim (push_cases ended f i e at) [
    | inl p ↦ k.seen s i x e key o p.1 c w v
    | inr p ↦ absurd (free (ap (λ z. z.committed) p.1 ∙ c) s x key o (ap (λ z. has_write_of key z.writes) p.1 ∙ w) v)
  ];
  apart = k.apart;
}

-- the end of a transaction
append_nothing : (xs : List Ended) → xs ++ [] ≡ xs
append_nothing [] = refl
append_nothing (x ∷ xs) = ap (λ l. x ∷ l) (append_nothing xs)

pub close : (ended : List Ended) (active : List (Option Open)) (s : ℕ) (x : Open) (committed : Bool) → get_or active s None ≡ Some x
    → Sound ended active → Sound (ended ++ entry_of committed x) (set active s None)
close ended active s x committed o k =
    let closed : Sound ended (set active s None) = change_slot ended active s None k (λ y n. absurd (none-some y n)) (λ y n. absurd (none-some y n)) in
    elim (eqb (length x.writes) 0) as (λ b. Sound (ended ++ cond b [] (record { number = x.number; committed = committed; snap = x.snap; writes = x.writes } ∷ [])) (set active s None)) [
      | true ↦ subst (λ l. Sound l (set active s None)) (sym (append_nothing ended)) closed
      | false ↦ grow ended (set active s None) (record { number = x.number; committed = committed; snap = x.snap; writes = x.writes }) closed
          (λ _ t y key q w v. elim (slot_cases active s t None y q) [
            | inl p ↦ none-some y p.1
            | inr p ↦ k.apart s t x y key p.0 o p.1 w v
          ])
          (λ _ i e key at c w v. k.seen s i x e key o at c w v)
    ]

-- one more write
plus_cases : (key : Key) (writes : List Write) (w : Write) → has_write_of key (writes ++ w ∷ []) ≡ true
    → (has_write_of key writes ≡ true) ⊎ (key ≡ key_written w)
plus_cases key writes w h =
    elim (or_cases _ _ (sym (list_any-append (λ v. same_key key (key_written v)) writes (w ∷ [])) ∙ h)) [
      | inl p ↦ inl p
      | inr p ↦ elim (or_cases (same_key key (key_written w)) false p) [
        | inl q ↦ inr (same_key-is key (key_written w) q)
        | inr q ↦ absurd (false≢true q)
      ]
    ]

pub write_once : (ended : List Ended) (active : List (Option Open)) (s : ℕ) (x : Open) (w : Write) → get_or active s None ≡ Some x
    → open_writer (key_written w) (set active s None) ≡ None → last_writer (key_written w) (drop x.snap ended) ≡ None
    → Sound ended active → Sound ended (set active s (Some (plus_write w x)))
write_once ended active s x w o nobody later k = change_slot ended active s (Some (plus_write w x)) k
    (λ y same i e key at c v u.
    let is : plus_write w x ≡ y = same_Some (plus_write w x) y same in
    subst (λ z. i < z.snap) is (elim (plus_cases key x.writes w (ap (λ z. has_write_of key z.writes) is ∙ u)) [
      | inl p ↦ k.seen s i x e key o at c v p
      | inr p ↦ elim (cases_lt i x.snap) [
        | inl lt ↦ lt
        | inr le ↦ absurd (last_none (key_written w) (drop x.snap ended) later (i - x.snap) e (slice_get_from ended x.snap i e le at) c
            (ap (λ q. has_write_of q e.writes) (sym p) ∙ v))
      ]
    ]))
    (λ y same t z key ne q u v.
    let is : plus_write w x ≡ y = same_Some (plus_write w x) y same in
    elim (plus_cases key x.writes w (ap (λ z. has_write_of key z.writes) is ∙ u)) [
      | inl p ↦ k.apart s t x z key ne o q p v
      | inr p ↦ open_none (key_written w) (set active s None) nobody t z (get_or-set_other active s t None None ne ∙ q) (ap (λ q. has_write_of q z.writes) (sym p) ∙ v)
    ])
