-- What a crash leaves, file after file.
use Rattle.std.proofs.Common.{◌≡◌, ℕ, zero, suc, ◌+◌, ◌-◌, ◌<◌, ◌≤◌, Bool, true, false, cond, ◌||◌, List, [], ◌∷◌, ◌++◌, length, take, get_or, sum_by, filter, refl, sym, ap, ◌∙◌, subst, inl, inr, arith}
use Rattle.std.specs.Bool.{MatchBool}
use Rattle.std.specs.List.{AllByRecursion}
use Rattle.std.proofs.lemmas.Bool.{cases_Bool}
use Rattle.std.proofs.lemmas.List.{take_more, take_all}
use Rattle.std.proofs.lemmas.List.Folds.{list_any-append}
use Rattle.std.proofs.lemmas.List.Sums.{sum_by_more}
use Rattle.px_site.specs.declared.name.FileName.{FileName}
use Rattle.px_site.specs.Disk.{FileState, at_rest}
use Rattle.px_site.specs.Names.{same_file, is_before}
use Rattle.px_site.specs.State.{State, with_file}
use Rattle.px_site.proofs.Files.{same_file_is, same_file_self}
use Rattle.px_memsite.specs.declared.crash.Keep.{Keep}
use Rattle.px_memsite.specs.declared.crash.Keep.TheVariants.{Synced, Written, Torn}
use Rattle.px_memsite.specs.declared.file.MemFile.{MemFile}
use Rattle.px_memsite.specs.Crash.{touched_count, touched_before, has_name, kept_behind, IsKept, IsLeft, IsAtRest}
use Rattle.px_memsite.specs.Events.{after_put}
use Rattle.px_memsite.specs.Files.{View, view_of, view_in, state_of, states_in, names_of, at_rest_view, IsInOrder}
use Rattle.px_memsite.proofs.FileLists.{view_here, view_past}
use Rattle.px_memsite.proofs.Kept.{kept_blank}
use Rattle.px_memsite.proofs.Order.{before_apart, before_not_back, before_self}

-- of names in order, those before one are those in front of it
none_before : (names : List FileName) (name : FileName) → AllByRecursion (λ other. is_before name other ≡ true) names → filter (λ other. is_before other name) names ≡ []
none_before [] name after = refl
none_before (other ∷ names) name after =
    ap (λ (b : Bool). cond b (other ∷ filter (λ n. is_before n name) names) (filter (λ n. is_before n name) names)) (before_not_back name other after.0) ∙ none_before names name after.1

all_at : (P : FileName → Type 0) (names : List FileName) (i : ℕ) (d : FileName) → i < length names → AllByRecursion P names → P (get_or names i d)
all_at P [] i d lt all = absurd (omega arith)
all_at P (name ∷ names) zero d lt all = all.0
all_at P (name ∷ names) (suc i) d lt all = all_at P names i d (omega arith) all.1

front_before : (names : List FileName) (i : ℕ) (d : FileName) → IsInOrder names → i < length names → filter (λ other. is_before other (get_or names i d)) names ≡ take i names
front_before [] i d ordered lt = absurd (omega arith)
front_before (name ∷ names) zero d ordered lt =
    ap (λ (b : Bool). cond b (name ∷ filter (λ n. is_before n name) names) (filter (λ n. is_before n name) names)) (before_self name) ∙ none_before names name ordered.0
front_before (name ∷ names) (suc i) d ordered lt =
    let x = get_or names i d in
    let first : is_before name x ≡ true = all_at (λ other. is_before name other ≡ true) names i d (omega arith) ordered.0 in
    ap (λ (b : Bool). cond b (name ∷ filter (λ n. is_before n x) names) (filter (λ n. is_before n x) names)) first ∙ ap (λ (l : List FileName). name ∷ l) (front_before names i d ordered.1 (omega arith))

-- a file is found by its name
pub found : (files : List MemFile) (i : ℕ) (d : MemFile) → IsInOrder (names_of files) → i < length files → view_in files (get_or files i d).name ≡ view_of (get_or files i d)
found [] i d ordered lt = absurd (omega arith)
found (file ∷ files) zero d ordered lt = view_here file files file.name (same_file_self file.name)
found (file ∷ files) (suc i) d ordered lt =
    view_past file files (get_or files i d).name (before_apart file.name (get_or files i d).name (name_after files i (omega arith) ordered.0)) ∙ found files i d ordered.1 (omega arith)
  where
    name_after : (files : List MemFile) (i : ℕ) → i < length files → AllByRecursion (λ other. is_before file.name other ≡ true) (names_of files) → is_before file.name (get_or files i d).name ≡ true
    name_after [] i lt all = absurd (omega arith)
    name_after (other ∷ files) zero lt all = all.0
    name_after (other ∷ files) (suc i) lt all = name_after files i (omega arith) all.1

name_at : (files : List MemFile) (i : ℕ) (d : MemFile) → i < length files → get_or (names_of files) i d.name ≡ (get_or files i d).name
name_at [] i d lt = refl
name_at (file ∷ files) zero d lt = refl
name_at (file ∷ files) (suc i) d lt = name_at files i d (omega arith)

length-names : (files : List MemFile) → length (names_of files) ≡ length files
length-names [] = refl
length-names (file ∷ files) = ap suc (length-names files)

-- a name that no file has
pub not_there : (files : List MemFile) (name : FileName) → has_name (names_of files) name ≡ false → view_in files name ≡ at_rest_view []
not_there [] name none = refl
not_there (file ∷ files) name none =
    elim (cases_Bool (same_file file.name name)) [
      | inl same ↦ absurd (let here : has_name (names_of (file ∷ files)) name ≡ true = ap (λ (b : Bool). b || has_name (names_of files) name) same in cc)
      | inr apart ↦ view_past file files name apart ∙ not_there files name (sym (ap (λ (b : Bool). b || has_name (names_of files) name) apart) ∙ none)
    ]

behind_more : (keep : Keep) (one two : ℕ) → kept_behind two (kept_behind one keep) ≡ kept_behind (one + two) keep
behind_more Synced one two = refl
behind_more Written one two = refl
behind_more (Torn k) one two = let same : k - one - two ≡ k - (one + two) = omega arith in ap Torn same

pub put_at_rest : (s : State) (file : FileName) (bytes : List ℕ) → IsAtRest s → IsAtRest (after_put file bytes s)
put_at_rest s file bytes fresh = record {
  files = λ name. pick (same_file file name) (fresh.files name);
  told = fresh.told;
  telling = refl;
  past = fresh.past;
}
  where
    pick : (b : Bool) {f : FileState} {content : List ℕ} → f ≡ at_rest content → cond b (at_rest bytes) f ≡ at_rest (cond b bytes content)
    pick true is = refl
    pick false is = is

-- One file more, of files in order.
module _ (files : List MemFile) (keep : Keep) (ordered : IsInOrder (names_of files)) where
  abbrev pub states : FileName → FileState
  states = states_in files

  abbrev pub names : List FileName
  names = names_of files

  -- what is done when the first of them are left as they are kept
  abbrev pub IsDone : ℕ → (FileName → List ℕ) → Type 0
  IsDone i content = (name : FileName) → MatchBool (has_name (take i names) name) (IsKept (kept_behind (touched_before states names name) keep) (states name) (content name)) (content name ≡ [])

  module _ (i : ℕ) (file : MemFile) (lt : i < length files) (is : file ≡ get_or files i file) where
    within : i < length names
    within = omega (arith, length-names files)

    named : get_or names i file.name ≡ file.name
    named = name_at files i file lt ∙ ap (λ (f : MemFile). f.name) (sym is)

    pub view_is : view_in files file.name ≡ view_of file
    view_is = ap (λ (f : MemFile). view_in files f.name) is ∙ found files i file ordered lt ∙ ap view_of (sym is)

    pub before_is : touched_before states names file.name ≡ sum_by (λ name. touched_count (states name)) (take i names)
    before_is = ap (λ (n : FileName). sum_by (λ name. touched_count (states name)) (filter (λ other. is_before other n) names)) (sym named)
        ∙ ap (sum_by (λ name. touched_count (states name))) (front_before names i file.name ordered within)

    pub rest_more : {rest next : Keep} → rest ≡ kept_behind (sum_by (λ name. touched_count (states name)) (take i names)) keep → next ≡ kept_behind (touched_count (state_of file)) rest
        → next ≡ kept_behind (sum_by (λ name. touched_count (states name)) (take (i + 1) names)) keep
    rest_more {rest} {next} so_far more =
        let count : touched_count (state_of file) ≡ touched_count (states (get_or names i file.name)) = ap (λ (v : View). touched_count v.state) (sym view_is) ∙ ap (λ (n : FileName). touched_count (states n)) (sym named) in
        more ∙ ap (λ (n : ℕ). kept_behind n rest) count ∙ ap (kept_behind (touched_count (states (get_or names i file.name)))) so_far
        ∙ behind_more keep (sum_by (λ name. touched_count (states name)) (take i names)) (touched_count (states (get_or names i file.name)))
        ∙ ap (λ (n : ℕ). kept_behind n keep) (sym (sum_by_more (λ name. touched_count (states name)) names i file.name within))

    has_more : (name : FileName) → has_name (take (i + 1) names) name ≡ (has_name (take i names) name || (same_file file.name name || false))
    has_more name = ap (λ (l : List FileName). has_name l name) (take_more names i file.name within ∙ ap (λ (n : FileName). take i names ++ n ∷ []) named)
        ∙ list_any-append (λ other. same_file other name) (take i names) (file.name ∷ [])

    pub done_more : {rest : Keep} (content : FileName → List ℕ) (bytes : List ℕ) → rest ≡ kept_behind (sum_by (λ name. touched_count (states name)) (take i names)) keep → IsKept rest (state_of file) bytes
        → IsDone i content → IsDone (i + 1) (with_file file.name bytes content)
    done_more {rest} content bytes rest_is kept so_far name = elim (cases_Bool (same_file file.name name)) [
      | inl same ↦
          let has : has_name (take (i + 1) names) name ≡ true = has_more name ∙ ap (λ (b : Bool). has_name (take i names) name || (b || false)) same ∙ or_true (has_name (take i names) name) in
          let here : file.name ≡ name = same_file_is file.name name same in
          let this : IsKept (kept_behind (touched_before states names file.name) keep) (states file.name) bytes =
          subst (λ (k : Keep). IsKept k (states file.name) bytes) (rest_is ∙ ap (λ (n : ℕ). kept_behind n keep) (sym before_is)) (subst (λ (v : View). IsKept rest v.state bytes) (sym view_is) kept) in
          let put : with_file file.name bytes content name ≡ bytes = ap (λ (b : Bool). cond b bytes (content name)) same in
          by_true _ _ has (subst (IsKept (kept_behind (touched_before states names name) keep) (states name)) (sym put) (subst (λ (n : FileName). IsKept (kept_behind (touched_before states names n) keep) (states n) bytes) here this))
      | inr apart ↦
          let has : has_name (take (i + 1) names) name ≡ has_name (take i names) name = has_more name ∙ ap (λ (b : Bool). has_name (take i names) name || (b || false)) apart ∙ or_false (has_name (take i names) name) in
          let put : with_file file.name bytes content name ≡ content name = ap (λ (b : Bool). cond b bytes (content name)) apart in
          subst (λ (l : List ℕ). MatchBool (has_name (take (i + 1) names) name) (IsKept (kept_behind (touched_before states names name) keep) (states name) l) (l ≡ [])) (sym put)
          (subst (λ (b : Bool). MatchBool b (IsKept (kept_behind (touched_before states names name) keep) (states name) (content name)) (content name ≡ [])) (sym has) (so_far name))
    ]
      where
        or_true : (b : Bool) → (b || true) ≡ true
        or_true true = refl
        or_true false = refl

        or_false : (b : Bool) → (b || false) ≡ b
        or_false true = refl
        or_false false = refl

        by_true : {b : Bool} (P Q : Type 0) → b ≡ true → P → MatchBool b P Q
        by_true P Q is p = subst (λ (x : Bool). MatchBool x P Q) (sym is) p

  pub done_none : (content : FileName → List ℕ) → ((name : FileName) → content name ≡ []) → IsDone 0 content
  done_none content none = none

  -- all of them
  pub done_all : (i : ℕ) (content : FileName → List ℕ) → length files ≤ i → IsDone i content → IsLeft keep states content
  done_all i content le done = by_keep keep refl
    where
      kept : (name : FileName) → IsKept (kept_behind (touched_before states names name) keep) (states name) (content name)
      kept name = by_has (has_name names name) refl (subst (λ (l : List FileName). MatchBool (has_name l name) (IsKept (kept_behind (touched_before states names name) keep) (states name) (content name)) (content name ≡ [])) (take_all i names (omega (arith, length-names files))) (done name))
        where
          by_has : (b : Bool) → has_name names name ≡ b → MatchBool b (IsKept (kept_behind (touched_before states names name) keep) (states name) (content name)) (content name ≡ []) → IsKept (kept_behind (touched_before states names name) keep) (states name) (content name)
          by_has true has this = this
          by_has false has none = subst (IsKept (kept_behind (touched_before states names name) keep) (states name)) (sym none) (subst (λ (v : View). IsKept (kept_behind (touched_before states names name) keep) v.state []) (sym (not_there files name has)) (kept_blank (kept_behind (touched_before states names name) keep)))

      by_keep : (k : Keep) → keep ≡ k → IsLeft k states content
      by_keep Synced is = λ name. subst (λ (k : Keep). IsKept (kept_behind (touched_before states names name) k) (states name) (content name)) is (kept name)
      by_keep Written is = λ name. subst (λ (k : Keep). IsKept (kept_behind (touched_before states names name) k) (states name) (content name)) is (kept name)
      by_keep (Torn k) is = record {
        names = names;
        in_order = ordered;
        others = λ name none. ap (λ (v : View). touched_count v.state) (not_there files name none);
        each = λ name. subst (λ (k : Keep). IsKept (kept_behind (touched_before states names name) k) (states name) (content name)) is (kept name);
      }
