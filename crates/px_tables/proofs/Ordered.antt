-- The least key past another one that names a row.
use Rattle.std.proofs.Common.{◌≡◌, ◌≢◌, ℕ, zero, suc, ◌==◌, Bool, true, false, cond, not, ◌&&◌, rules, Bor, option_map, List, [], ◌∷◌, map, Option, Some, None, refl, sym, ap, subst, ◌∙◌, ⊎_elim, inl, inr}
use Rattle.std.specs.Prelude.{◌⊎◌, filter, find, is_some, unwrap_or}
use Rattle.std.specs.BTreeMap.Range.{entries_between}
use Rattle.std.specs.Bound.{bound_map}
use Rattle.std.specs.declared.ops.Bound.{Bound}
use Rattle.std.specs.declared.ops.Bound.TheVariants.{Excluded, Unbounded}
use Rattle.std.specs.declared.cmp.Ordering.TheVariants.{Less, Equal, Greater}
use Rattle.std.specs.List.{AllByRecursion}
use Rattle.std.specs.List.Sorted.{IsStrictlySortedBy}
use Rattle.std.specs.Cmp.Lexicographic.{slice_cmp, nat_list_cmp_total}
use Rattle.std.specs.Ordering.{is_eq, is_lt, nat_cmp}
use Rattle.std.specs.declared.cmp.Ordering.{Ordering}
use Rattle.std.proofs.lemmas.Bool.{false≢true, ne_eqb, true≢false}
use Rattle.px_tables.specs.Keys.{entry_in, row_named}
use Rattle.px_tables.specs.Order.{IsBefore, IsNextName, IsPast, NamesNonePast}
use Rattle.px_tables.proofs.Names.{apart, cases_key, equal_itself}

abbrev pub has_row : {K : Type 0} → K × ℕ → Bool
has_row entry = not (entry.1 == 0)

-- a walk over entries goes past one without a row
pub walked_past : {K : Type 0} (whole left behind : List (K × ℕ)) (first : K × ℕ) → find has_row whole ≡ find has_row left → left ≡ first ∷ behind
    → first.1 ≡ 0 → find has_row whole ≡ find has_row behind
walked_past {K} whole left behind first so is none =
    so ∙ ap (find has_row) is ∙ ap (λ (n : ℕ). cond (not (n == 0)) (Some first) (find has_row behind)) none

-- it stops at one with a row, or at the end
pub walked_to : {K : Type 0} (whole left behind : List (K × ℕ)) (first : K × ℕ) → find has_row whole ≡ find has_row left → left ≡ first ∷ behind
    → first.1 ≢ 0 → find has_row whole ≡ Some first
walked_to whole left behind first so is some =
    so ∙ ap (find has_row) is ∙ ap (λ b. cond (not b) (Some first) (find has_row behind)) (ne_eqb first.1 0 some)

pub walked_all : {K : Type 0} (whole left : List (K × ℕ)) → find has_row whole ≡ find has_row left → left ≡ [] → find has_row whole ≡ None
walked_all whole left so is = so ∙ ap (find has_row) is

-- where a walk past a key begins
abbrev pub start_of : {K : Type 0} → Option (Bor K) → Bound (Bor K)
start_of None = Unbounded
start_of (Some key) = Excluded key

-- the key comes behind that one
abbrev is_past : Option (List ℕ) → List ℕ → Bool
is_past None key = true && not false
is_past (Some after) key = is_lt (slice_cmp nat_cmp after key) && not false

less : (o : Ordering) → (is_lt o && not false) ≡ true → o ≡ Less
less Less is = refl
less Equal is = absurd (false≢true is)
less Greater is = absurd (false≢true is)

past_is : (after : Option (List ℕ)) (key : List ℕ) → is_past after key ≡ true → IsPast after key
past_is None key is = tt
past_is (Some after) key is = less (slice_cmp nat_cmp after key) is

is_past_of : (after : Option (List ℕ)) (key : List ℕ) → IsPast after key → is_past after key ≡ true
is_past_of None key past = refl
is_past_of (Some after) key past = ap (λ (o : Ordering). is_lt o && not false) past

counts : (n : ℕ) → not (suc n == 0) ≡ true
counts n = let some : suc n ≢ 0 = search rules in ap not (ne_eqb (suc n) 0 some)

found_first : {K : Type 0} (k : K) (n : ℕ) (others : List (K × ℕ)) → find has_row ((k, suc n) ∷ others) ≡ Some (k, suc n)
found_first k n others = ap (λ b. cond b (Some (k, suc n)) (find has_row others)) (counts n)

first_none : {K : Type 0} (k : K) (n : ℕ) (others : List (K × ℕ)) → find has_row ((k, n) ∷ others) ≡ None → (n ≡ 0) × (find has_row others ≡ None)
first_none k zero others is = (refl, is)
first_none k (suc n) others is = absurd (true≢false (ap is_some (sym (found_first k n others) ∙ is)))

first_some : {K : Type 0} (k : K) (n : ℕ) (others : List (K × ℕ)) (found : K × ℕ) → find has_row ((k, n) ∷ others) ≡ Some found
    → ((n ≢ 0) × (found ≡ (k, n))) ⊎ ((n ≡ 0) × (find has_row others ≡ Some found))
first_some k zero others found is = inr (refl, is)
first_some {K} k (suc n) others found is =
    let some : suc n ≢ 0 = search rules in
    inl (some, sym (ap (λ (o : Option (K × ℕ)). unwrap_or o found) (sym (found_first k n others) ∙ is)))

before_apart : (key other : List ℕ) → IsBefore key other → key ≢ other
before_apart key other before same =
    false≢true (sym (ap is_eq before) ∙ ap (λ (k : List ℕ). is_eq (slice_cmp nat_cmp k other)) same ∙ equal_itself other)

module _ {K : Type 0} (bytes : K → List ℕ) where
  abbrev pub seen_as : List (K × ℕ) → List (List ℕ × ℕ)
  seen_as entries = map (λ (e : K × ℕ). (bytes e.0, e.1)) entries

  abbrev pub by_bytes : K → K → Ordering
  by_bytes a b = slice_cmp nat_cmp (bytes a) (bytes b)

  abbrev pub keys_in : List (K × ℕ) → List K
  keys_in entries = map (λ (e : K × ℕ). e.0) entries

  -- the entries whose keys pass
  abbrev pub passing : (test : List ℕ → Bool) → List (K × ℕ) → List (K × ℕ)
  passing test entries = filter (λ (e : K × ℕ). test (bytes e.0)) entries

  named_first : (first : K × ℕ) (others : List (K × ℕ)) (key : List ℕ) → key ≡ bytes first.0 → row_named (seen_as (first ∷ others)) key ≡ first.1
  unfolding entry_in
  named_first first others key same =
      ap (λ (b : Bool). unwrap_or (cond b (Some first.1) (entry_in (seen_as others) key)) 0)
      (ap (λ (k : List ℕ). is_eq (slice_cmp nat_cmp k (bytes first.0))) same ∙ equal_itself (bytes first.0))

  named_behind : (first : K × ℕ) (others : List (K × ℕ)) (key : List ℕ) → key ≢ bytes first.0
      → row_named (seen_as (first ∷ others)) key ≡ row_named (seen_as others) key
  unfolding entry_in
  named_behind first others key other =
      ap (λ (b : Bool). unwrap_or (cond b (Some first.1) (entry_in (seen_as others) key)) 0) (apart key (bytes first.0) other)

  named_none : (key : List ℕ) → row_named (seen_as []) key ≡ 0
  unfolding entry_in
  named_none key = refl

  kept : (test : List ℕ → Bool) (first : K × ℕ) (others : List (K × ℕ)) → test (bytes first.0) ≡ true → passing test (first ∷ others) ≡ first ∷ passing test others
  kept test first others passes = ap (λ b. cond b (first ∷ passing test others) (passing test others)) passes

  left : (test : List ℕ → Bool) (first : K × ℕ) (others : List (K × ℕ)) → test (bytes first.0) ≡ false → passing test (first ∷ others) ≡ passing test others
  left test first others fails = ap (λ b. cond b (first ∷ passing test others) (passing test others)) fails

  cases_test : (test : List ℕ → Bool) (key : List ℕ) → (test key ≡ true) ⊎ (test key ≡ false)
  cases_test test key = elim (test key) as (λ b. (b ≡ true) ⊎ (b ≡ false)) [ true ↦ inl refl | false ↦ inr refl ]

  -- ---- none

  pub none_named : (test : List ℕ → Bool) (entries : List (K × ℕ)) → find has_row (passing test entries) ≡ None → (key : List ℕ) → test key ≡ true
      → row_named (seen_as entries) key ≡ 0
  none_named test [] is key passes = named_none key
  none_named test (first ∷ others) is key passes = ⊎_elim
      (λ (here : test (bytes first.0) ≡ true).
      let f = first_none first.0 first.1 (passing test others) (ap (find has_row) (sym (kept test first others here)) ∙ is) in
      ⊎_elim
      (λ (same : key ≡ bytes first.0). named_first first others key same ∙ f.0)
      (λ (other : key ≢ bytes first.0). named_behind first others key other ∙ none_named test others f.1 key passes)
      (cases_key key (bytes first.0)))
      (λ (away : test (bytes first.0) ≡ false).
      let other : key ≢ bytes first.0 = λ same. true≢false (sym passes ∙ ap test same ∙ away) in
      named_behind first others key other ∙ none_named test others (ap (find has_row) (sym (left test first others away)) ∙ is) key passes)
      (cases_test test (bytes first.0))

  -- a key below all of them has no entry
  none_below : (key : List ℕ) (entries : List (K × ℕ)) → AllByRecursion (λ k. IsBefore key (bytes k)) (keys_in entries) → row_named (seen_as entries) key ≡ 0
  none_below key [] below = named_none key
  none_below key (first ∷ others) below =
      named_behind first others key (before_apart key (bytes first.0) below.0) ∙ none_below key others below.1

  all_below : (key other : List ℕ) (entries : List (K × ℕ)) → IsBefore key other → AllByRecursion (λ k. IsBefore other (bytes k)) (keys_in entries)
      → AllByRecursion (λ k. IsBefore key (bytes k)) (keys_in entries)
  all_below key other [] before below = tt
  all_below key other (first ∷ others) before below =
      (nat_list_cmp_total.trans key other (bytes first.0) before below.0, all_below key other others before below.1)

  -- ---- some

  -- the first entry that passes and has a row
  pub record IsFirst (test : List ℕ → Bool) (entries : List (K × ℕ)) (found : K × ℕ) : Type 0 where
    pub some : found.1 ≢ 0
    pub names : row_named (seen_as entries) (bytes found.0) ≡ found.1
    pub passes : test (bytes found.0) ≡ true
    pub least : (other : List ℕ) → test other ≡ true → IsBefore other (bytes found.0) → row_named (seen_as entries) other ≡ 0
    pub among : (key : List ℕ) → AllByRecursion (λ k. IsBefore key (bytes k)) (keys_in entries) → IsBefore key (bytes found.0)

  -- so it is behind an entry that doesn't count
  behind_first : (test : List ℕ → Bool) (first : K × ℕ) (others : List (K × ℕ)) (found : K × ℕ) → IsStrictlySortedBy by_bytes (keys_in (first ∷ others))
      → (test (bytes first.0) ≡ true → first.1 ≡ 0) → IsFirst test others found → IsFirst test (first ∷ others) found
  unfolding IsStrictlySortedBy
  behind_first test first others found sorted skipped f =
      let after : IsBefore (bytes first.0) (bytes found.0) = f.among (bytes first.0) sorted.0 in
      let other : bytes found.0 ≢ bytes first.0 = λ same. before_apart (bytes first.0) (bytes found.0) after (sym same) in
      record {
        some = f.some;
        names = named_behind first others (bytes found.0) other ∙ f.names;
        passes = f.passes;
        least = λ key passes before. ⊎_elim
            (λ (same : key ≡ bytes first.0). named_first first others key same ∙ skipped (ap test (sym same) ∙ passes))
            (λ (apart : key ≢ bytes first.0). named_behind first others key apart ∙ f.least key passes before)
            (cases_key key (bytes first.0));
        among = λ key below. f.among key below.1;
      }

  here_first : (test : List ℕ → Bool) (first : K × ℕ) (others : List (K × ℕ)) → IsStrictlySortedBy by_bytes (keys_in (first ∷ others))
      → test (bytes first.0) ≡ true → first.1 ≢ 0 → IsFirst test (first ∷ others) first
  unfolding IsStrictlySortedBy
  here_first test first others sorted passes some = record {
    some = some;
    names = named_first first others (bytes first.0) refl;
    passes = passes;
    least = λ key passes before.
        named_behind first others key (before_apart key (bytes first.0) before)
        ∙ none_below key others (all_below key (bytes first.0) others before sorted.0);
    among = λ key below. below.0;
  }

  rest_sorted : (first : K × ℕ) (others : List (K × ℕ)) → IsStrictlySortedBy by_bytes (keys_in (first ∷ others)) → IsStrictlySortedBy by_bytes (keys_in others)
  unfolding IsStrictlySortedBy
  rest_sorted first others sorted = sorted.1

  pub first_named : (test : List ℕ → Bool) (entries : List (K × ℕ)) (found : K × ℕ) → IsStrictlySortedBy by_bytes (keys_in entries)
      → find has_row (passing test entries) ≡ Some found → IsFirst test entries found
  first_named test [] found sorted is = absurd (true≢false (sym (ap is_some is)))
  first_named test (first ∷ others) found sorted is = ⊎_elim
      (λ (here : test (bytes first.0) ≡ true). ⊎_elim
      (λ (it : (first.1 ≢ 0) × (found ≡ (first.0, first.1))).
      subst (λ (e : K × ℕ). IsFirst test (first ∷ others) e) (sym it.1) (here_first test first others sorted here it.0))
      (λ (later : (first.1 ≡ 0) × (find has_row (passing test others) ≡ Some found)).
      behind_first test first others found sorted (λ passes. later.0) (first_named test others found (rest_sorted first others sorted) later.1))
      (first_some first.0 first.1 (passing test others) found (ap (find has_row) (sym (kept test first others here)) ∙ is)))
      (λ (away : test (bytes first.0) ≡ false).
      behind_first test first others found sorted (λ passes. absurd (true≢false (sym passes ∙ away)))
      (first_named test others found (rest_sorted first others sorted) (ap (find has_row) (sym (left test first others away)) ∙ is)))
      (cases_test test (bytes first.0))

  -- ---- past a key

  abbrev after_bytes : Option (Bor K) → Option (List ℕ)
  after_bytes after = option_map (λ (key : Bor K). bytes key.now) after

  range_is : (entries : List (K × ℕ)) (after : Option (Bor K))
      → entries_between by_bytes (bound_map (λ (x : Bor K). x.now) (start_of after)) Unbounded entries ≡ passing (is_past (after_bytes after)) entries
  range_is entries None = refl
  range_is entries (Some key) = refl

  walk_is : (entries whole : List (K × ℕ)) (after : Option (Bor K)) (start : Bound (Bor K)) → start ≡ start_of after
      → whole ≡ entries_between by_bytes (bound_map (λ (x : Bor K). x.now) start) Unbounded entries → whole ≡ passing (is_past (after_bytes after)) entries
  walk_is entries whole after start from is =
      is ∙ ap (λ (b : Bound (Bor K)). entries_between by_bytes (bound_map (λ (x : Bor K). x.now) b) Unbounded entries) from ∙ range_is entries after

  pub next_name : (entries whole : List (K × ℕ)) (after : Option (Bor K)) (start : Bound (Bor K)) (found : K × ℕ) → start ≡ start_of after
      → whole ≡ entries_between by_bytes (bound_map (λ (x : Bor K). x.now) start) Unbounded entries → IsStrictlySortedBy by_bytes (keys_in entries)
      → find has_row whole ≡ Some found → IsNextName (seen_as entries) (after_bytes after) (bytes found.0) found.1
  next_name entries whole after start found from is sorted walked =
      let past = is_past (after_bytes after) in
      let f = first_named past entries found sorted (ap (find has_row) (sym (walk_is entries whole after start from is)) ∙ walked) in
      record {
        some = f.some;
        names = f.names;
        past = past_is (after_bytes after) (bytes found.0) f.passes;
        least = λ other behind before. f.least other (is_past_of (after_bytes after) other behind) before;
      }

  pub no_name : (entries whole : List (K × ℕ)) (after : Option (Bor K)) (start : Bound (Bor K)) → start ≡ start_of after
      → whole ≡ entries_between by_bytes (bound_map (λ (x : Bor K). x.now) start) Unbounded entries
      → find has_row whole ≡ None → NamesNonePast (seen_as entries) (after_bytes after)
  no_name entries whole after start from is walked key past =
      none_named (is_past (after_bytes after)) entries (ap (find has_row) (sym (walk_is entries whole after start from is)) ∙ walked) key
      (is_past_of (after_bytes after) key past)
