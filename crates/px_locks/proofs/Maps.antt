-- Who holds a key, by the tables' maps.
use Rattle.std.proofs.Common.{◌≡◌, ◌≢◌, ℕ, zero, suc, ◌+◌, ◌<◌, ◌≤◌, true, false, cond, ◌&&◌, ◌==◌, inl, inr, List, [], ◌∷◌, ◌++◌, map, length, get_or, set, slice_get, Option, Some, None, refl, sym, ap, ◌∙◌, arith}
use Rattle.std.specs.Option.{option_or, option_and_then}
use Rattle.std.specs.Ordering.{is_eq, nat_cmp, eq_by_cmp}
use Rattle.std.specs.Cmp.Lexicographic.{slice_cmp}
use Rattle.std.specs.BTreeMap.{is_at, UpdatesBy}
use Rattle.std.specs.Map.{lookup, KeepsOthers}
use Rattle.std.specs.FinMap.{from_entries, get-from_entries}
use Rattle.std.specs.FinMap.Entries.{find}
use Rattle.std.proofs.lemmas.Bool.{cases_eq}
use Rattle.std.proofs.lemmas.Bool.Decides.{nat_tests}
use Rattle.std.proofs.lemmas.Option.{slice_get-get_or, slice_get_past}
use Rattle.px_model.specs.Rows.{Key, key_cmp, same_key}
use Rattle.px_locks.specs.declared.tables.Table.{Table}
use Rattle.px_locks.specs.Holders.{Holders, holder_of}
use Rattle.px_locks.specs.Tables.{entries_of, entries_from, holder_at, holder_in, IsSame}
use Rattle.px_locks.proofs.Keys.{key_total, same_parts, same_bytes, by_key, same_number}
use Rattle.px_locks.proofs.Holders.{holders_are}

-- ---- the map that the tables make

or_none : {A : Type 0} (o : Option A) → option_or o None ≡ o
or_none None = refl
or_none (Some x) = refl

found_in : {K : Type 0} (bytes : K → List ℕ) (n : ℕ) (es : List (K × ℕ)) (rest : List (Key × ℕ)) (q : Key)
    → find key_cmp q (map (λ e. ((n, bytes e.0), e.1)) es ++ rest)
    ≡ cond (n == q.0) (option_or (lookup (is_at (λ k. slice_cmp nat_cmp q.1 (bytes k))) es) (find key_cmp q rest)) (find key_cmp q rest)
unfolding same_key
found_in bytes n [] rest q =
    elim (n == q.0) as (λ b. find key_cmp q rest ≡ cond b (find key_cmp q rest) (find key_cmp q rest)) [ true ↦ refl | false ↦ refl ]
found_in bytes n (e ∷ es) rest q =
    let here = is_eq (slice_cmp nat_cmp q.1 (bytes e.0)) in
    let there = lookup (is_at (λ k. slice_cmp nat_cmp q.1 (bytes k))) es in
    let end = find key_cmp q rest in
    ap (λ b. cond b (Some e.1) (find key_cmp q (map (λ e. ((n, bytes e.0), e.1)) es ++ rest))) (same_parts q.0 n q.1 (bytes e.0))
    ∙ ap (cond ((n == q.0) && here) (Some e.1)) (found_in bytes n es rest q)
    ∙ elim (n == q.0) as (λ b. cond (b && here) (Some e.1) (cond b (option_or there end) end) ≡ cond b (option_or (cond here (Some e.1) there) end) end) [
      | true ↦ elim here as (λ h. cond h (Some e.1) (option_or there end) ≡ option_or (cond h (Some e.1) there) end) [ true ↦ refl | false ↦ refl ]
      | false ↦ refl
    ]

found_in_table : (n : ℕ) (table : Table) (rest : List (Key × ℕ)) (q : Key) → find key_cmp q (entries_of n table ++ rest)
    ≡ cond (n == q.0) (option_or (holder_at q.1 table) (find key_cmp q rest)) (find key_cmp q rest)
found_in_table n table rest q = found_in (λ k. k.items) n table.holders.entries rest q

not_below : (n m : ℕ) → m < n → (n == m) ≡ false
not_below n m h = grind (arith, nat_tests, h)

not_above : (n m : ℕ) → n < m → (n == m) ≡ false
not_above n m h = grind (arith, nat_tests, h)

found_above : (tables : List Table) (n : ℕ) (q : Key) → q.0 < n → find key_cmp q (entries_from n tables) ≡ None
found_above [] n q h = refl
found_above (t ∷ tables) n q h =
    found_in_table n t (entries_from (suc n) tables) q
    ∙ ap (λ b. cond b (option_or (holder_at q.1 t) (find key_cmp q (entries_from (suc n) tables))) (find key_cmp q (entries_from (suc n) tables))) (not_below n q.0 h)
    ∙ found_above tables (suc n) q (omega (arith, h))

found_from : (tables : List Table) (n d : ℕ) (q : Key) → q.0 ≡ n + d
    → find key_cmp q (entries_from n tables) ≡ option_and_then (holder_at q.1) (slice_get tables d)
found_from [] n d q h = refl
found_from (t ∷ tables) n zero q h =
    let here : (n == q.0) ≡ true = grind (arith, nat_tests, h) in
    let end = find key_cmp q (entries_from (suc n) tables) in
    found_in_table n t (entries_from (suc n) tables) q
    ∙ ap (λ b. cond b (option_or (holder_at q.1 t) end) end) here
    ∙ ap (option_or (holder_at q.1 t)) (found_above tables (suc n) q (omega (arith, h)))
    ∙ or_none (holder_at q.1 t)
found_from (t ∷ tables) n (suc d) q h =
    let end = find key_cmp q (entries_from (suc n) tables) in
    found_in_table n t (entries_from (suc n) tables) q
    ∙ ap (λ b. cond b (option_or (holder_at q.1 t) end) end) (not_above n q.0 (omega (arith, h)))
    ∙ found_from tables (suc n) d q (omega (arith, h))

pub holder_in_tables : (q : Key) (tables : List Table) → holder_of q (from_entries (entries_from 0 tables)) ≡ holder_in q tables
holder_in_tables q tables = get-from_entries key_total (entries_from 0 tables) q ∙ found_from tables 0 q.0 q (omega arith)

-- tables that answer alike make one map
pub same_holders : (old new : List Table) → IsSame old new
    → ◌≡◌ {A = Holders} (from_entries (entries_from 0 new)) (from_entries (entries_from 0 old))
same_holders old new same = holders_are _ _
    (λ q. holder_in_tables q new ∙ same q ∙ sym (holder_in_tables q old))

-- ---- one table changes

-- the table has the key under this holder, and each other key as before
abbrev pub Changes : List ℕ → Option ℕ → Table → Table → Type 0
Changes key holder old new =
    UpdatesBy (λ x y. slice_cmp nat_cmp x.items y.items) (λ k. slice_cmp nat_cmp key k.items) old.holders new.holders holder

others_stay : {K : Type 0} (bytes : K → List ℕ) (key j : List ℕ) (old new : List (K × ℕ)) → is_eq (slice_cmp nat_cmp j key) ≡ false
    → KeepsOthers (eq_by_cmp (λ x y. slice_cmp nat_cmp (bytes x) (bytes y))) (is_at (λ k. slice_cmp nat_cmp key (bytes k))) old new
    → lookup (is_at (λ k. slice_cmp nat_cmp j (bytes k))) new ≡ lookup (is_at (λ k. slice_cmp nat_cmp j (bytes k))) old
unfolding KeepsOthers
others_stay bytes key j old new other keeps = keeps (λ k. is_eq (slice_cmp nat_cmp j (bytes k)))
    (λ x y at. ap (λ m. is_eq (slice_cmp nat_cmp m (bytes y))) (same_bytes j (bytes x) at))
    (λ k at. ap (λ m. is_eq (slice_cmp nat_cmp j m)) (sym (same_bytes key (bytes k) at)) ∙ other)

set_at : {A : Type 0} (xs : List A) (i : ℕ) (x : A) → i < length xs → slice_get (set xs i x) i ≡ Some x
set_at [] i x h = absurd (omega (arith, h))
set_at (y ∷ xs) zero x h = refl
set_at (y ∷ xs) (suc i) x h = set_at xs i x (omega (arith, h))

set_other : {A : Type 0} (xs : List A) (i j : ℕ) (x : A) → j ≢ i → slice_get (set xs i x) j ≡ slice_get xs j
set_other [] i j x h = refl
set_other (y ∷ xs) zero zero x h = absurd (h refl)
set_other (y ∷ xs) zero (suc j) x h = refl
set_other (y ∷ xs) (suc i) zero x h = refl
set_other (y ∷ xs) (suc i) (suc j) x h = set_other xs i j x (λ e. h (ap suc e))

-- at a key that the change leaves alone
left_alone : (tables : List Table) (i : ℕ) (old new : Table) → i < length tables → old ≡ get_or tables i old → (q : Key)
    → (q.0 ≡ i → holder_at q.1 new ≡ holder_at q.1 old) → holder_in q (set tables i new) ≡ holder_in q tables
left_alone tables i old new within at q same = elim (cases_eq q.0 i) [
  | inl e ↦
      ap (λ m. option_and_then (holder_at q.1) (slice_get (set tables i new) m)) e
      ∙ ap (option_and_then (holder_at q.1)) (set_at tables i new within)
      ∙ same e
      ∙ sym (ap (λ m. option_and_then (holder_at q.1) (slice_get tables m)) e
      ∙ ap (option_and_then (holder_at q.1)) (slice_get-get_or tables i old within ∙ ap Some (sym at)))
  | inr e ↦ ap (option_and_then (holder_at q.1)) (set_other tables i q.0 new e)
]

pub changed : (key : List ℕ) (holder : Option ℕ) (tables : List Table) (i : ℕ) (old new : Table) → i < length tables
    → old ≡ get_or tables i old → Changes key holder old new → (q : Key)
    → holder_in q (set tables i new) ≡ cond (same_key q (i, key)) holder (holder_in q tables)
changed key holder tables i old new within at change =
    by_key (i, key) (λ q. holder_in q (set tables i new)) holder (λ q. holder_in q tables)
    (ap (option_and_then (holder_at key)) (set_at tables i new within) ∙ change.1)
    (λ q other. left_alone tables i old new within at q (λ e.
    let apart : is_eq (slice_cmp nat_cmp q.1 key) ≡ false =
    sym (ap (λ b. b && is_eq (slice_cmp nat_cmp q.1 key)) (ap (λ m. i == m) e ∙ same_number i)) ∙ sym (same_parts q.0 i q.1 key) ∙ other in
    others_stay (λ k. k.items) key q.1 old.holders.entries new.holders.entries apart change.3))

pub unchanged : (tables : List Table) (i : ℕ) (old new : Table) → i < length tables → old ≡ get_or tables i old
    → new.holders.entries ≡ old.holders.entries → IsSame tables (set tables i new)
unchanged tables i old new within at same q = left_alone tables i old new within at q
    (λ e. ap (lookup (is_at (λ k. slice_cmp nat_cmp q.1 k.items))) same)

-- no table has that number
pub past_tables : (key : List ℕ) (tables : List Table) (i : ℕ) → length tables ≤ i → (q : Key)
    → holder_in q tables ≡ cond (same_key q (i, key)) None (holder_in q tables)
past_tables key tables i past = by_key (i, key) (λ q. holder_in q tables) None (λ q. holder_in q tables)
    (ap (option_and_then (holder_at key)) (slice_get_past tables i past)) (λ q _. refl)

-- a table without keys, at the end
pub one_more : (tables : List Table) (empty : Table) → empty.holders.entries ≡ [] → IsSame tables (tables ++ empty ∷ [])
one_more tables empty none q = pushed tables q.0
  where
    pushed : (ts : List Table) (j : ℕ) → option_and_then (holder_at q.1) (slice_get (ts ++ empty ∷ []) j) ≡ option_and_then (holder_at q.1) (slice_get ts j)
    pushed [] zero = ap (lookup (is_at (λ k. slice_cmp nat_cmp q.1 k.items))) none
    pushed [] (suc j) = refl
    pushed (t ∷ ts) zero = refl
    pushed (t ∷ ts) (suc j) = pushed ts j
