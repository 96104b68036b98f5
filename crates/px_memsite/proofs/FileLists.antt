-- Lists of files in order.
use Rattle.std.proofs.Common.{◌≡◌, ℕ, zero, suc, ◌+◌, ◌<◌, ◌≤◌, Bool, true, false, cond, List, [], ◌∷◌, ◌++◌, length, take, drop, set, get_or, refl, sym, ap, ◌∙◌, subst, inl, inr, arith}
use Rattle.std.proofs.lemmas.Bool.{cases_Bool}
use Rattle.std.proofs.lemmas.List.{drop_more}
use Rattle.std.specs.List.{AllByRecursion}
use Rattle.px_site.specs.declared.name.FileName.{FileName}
use Rattle.px_site.specs.Names.{same_file, is_before}
use Rattle.px_site.specs.State.{with_file}
use Rattle.px_site.proofs.Files.{same_file_is, same_file_self}
use Rattle.px_memsite.specs.declared.change.Change.{Change}
use Rattle.px_memsite.specs.Files.{View, newest_first, at_rest_view, view_of, view_in, names_of, IsInOrder, StandsAt, FitsAt, SameFiles}
use Rattle.px_memsite.specs.declared.file.MemFile.{MemFile}
use Rattle.px_memsite.proofs.Order.{before_apart, before_back, before_then, before_self}

-- the head's view, or that of the rest
pub view_here : (file : MemFile) (files : List MemFile) (name : FileName) → same_file file.name name ≡ true → view_in (file ∷ files) name ≡ view_of file
view_here file files name h = ap (λ (b : Bool). cond b (view_of file) (view_in files name)) h

pub view_past : (file : MemFile) (files : List MemFile) (name : FileName) → same_file file.name name ≡ false → view_in (file ∷ files) name ≡ view_in files name
view_past file files name h = ap (λ (b : Bool). cond b (view_of file) (view_in files name)) h

-- the file that stands somewhere
pub view_at : (files : List MemFile) (name : FileName) (at : ℕ) (d : MemFile) → StandsAt files name at → view_in files name ≡ view_of (get_or files at d)
view_at [] name at d stands = absurd stands
view_at (file ∷ files) name zero d stands = view_here file files name (ap (λ (n : FileName). same_file n name) stands ∙ same_file_self name)
view_at (file ∷ files) name (suc at) d stands = view_past file files name (before_apart file.name name stands.0) ∙ view_at files name at d stands.1

pub stands_within : (files : List MemFile) (name : FileName) (at : ℕ) → StandsAt files name at → at < length files
stands_within [] name at stands = absurd stands
stands_within (file ∷ files) name zero stands = omega arith
stands_within (file ∷ files) name (suc at) stands = omega (arith, stands_within files name at stands.1)

pub stands_name : (files : List MemFile) (name : FileName) (at : ℕ) (d : MemFile) → StandsAt files name at → (get_or files at d).name ≡ name
stands_name [] name at d stands = absurd stands
stands_name (file ∷ files) name zero d stands = stands
stands_name (file ∷ files) name (suc at) d stands = stands_name files name at d stands.1

pub fits_within : (files : List MemFile) (name : FileName) (at : ℕ) → FitsAt files name at → at ≤ length files
fits_within [] name zero fits = omega arith
fits_within [] name (suc at) fits = absurd fits
fits_within (file ∷ files) name zero fits = omega arith
fits_within (file ∷ files) name (suc at) fits = omega (arith, fits_within files name at fits.1)

-- a name before all of these is none of them
pub view_before : (files : List MemFile) (name : FileName) → AllByRecursion (λ other. is_before name other ≡ true) (names_of files) → view_in files name ≡ at_rest_view []
view_before [] name all = refl
view_before (file ∷ files) name all =
    view_past file files name (apart file.name name all.0) ∙ view_before files name all.1
  where
    apart : (a b : FileName) → is_before b a ≡ true → same_file a b ≡ false
    apart a b h = elim (cases_Bool (same_file a b)) [
      | inl same ↦ absurd (let is = same_file_is a b same in let back : is_before b b ≡ true = subst (λ (n : FileName). is_before b n ≡ true) is h in let not : is_before b b ≡ false = before_self b in cc)
      | inr other ↦ other
    ]

-- a name before one that stands before all of these stands before all of these
pub before_all : (names : List FileName) (a b : FileName) → is_before a b ≡ true → AllByRecursion (λ other. is_before b other ≡ true) names → AllByRecursion (λ other. is_before a other ≡ true) names
before_all [] a b h all = tt
before_all (name ∷ names) a b h all = (before_then a b name h all.0, before_all names a b h all.1)

pub view_absent : (files : List MemFile) (name : FileName) (at : ℕ) → IsInOrder (names_of files) → FitsAt files name at → view_in files name ≡ at_rest_view []
view_absent [] name at ordered fits = refl
view_absent (file ∷ files) name zero ordered fits = view_before (file ∷ files) name (fits, before_all (names_of files) name file.name fits ordered.0)
view_absent (file ∷ files) name (suc at) ordered fits = view_past file files name (before_apart file.name name fits.0) ∙ view_absent files name at ordered.1 fits.1

-- an empty file of a new name, put in where it fits
pub stands_insert : (files : List MemFile) (name : FileName) (at : ℕ) (new : MemFile) → new.name ≡ name → FitsAt files name at → StandsAt (take at files ++ new ∷ drop at files) name at
stands_insert [] name zero new is fits = is
stands_insert [] name (suc at) new is fits = absurd fits
stands_insert (file ∷ files) name zero new is fits = is
stands_insert (file ∷ files) name (suc at) new is fits = (fits.0, stands_insert files name at new is fits.1)

all_insert : (P : FileName → Type 0) (files : List MemFile) (at : ℕ) (new : MemFile) → P new.name → AllByRecursion P (names_of files) → AllByRecursion P (names_of (take at files ++ new ∷ drop at files))
all_insert P [] zero new p all = (p, tt)
all_insert P [] (suc at) new p all = (p, tt)
all_insert P (file ∷ files) zero new p all = (p, all)
all_insert P (file ∷ files) (suc at) new p all = (all.0, all_insert P files at new p all.1)

pub order_insert : (files : List MemFile) (name : FileName) (at : ℕ) (new : MemFile) → new.name ≡ name → FitsAt files name at → IsInOrder (names_of files) → IsInOrder (names_of (take at files ++ new ∷ drop at files))
order_insert [] name zero new is fits ordered = (tt, tt)
order_insert [] name (suc at) new is fits ordered = absurd fits
order_insert (file ∷ files) name zero new is fits ordered =
    let before : is_before new.name file.name ≡ true = subst (λ (n : FileName). is_before n file.name ≡ true) (sym is) fits in
    ((before, before_all (names_of files) new.name file.name before ordered.0), ordered)
order_insert (file ∷ files) name (suc at) new is fits ordered =
    let before : is_before file.name new.name ≡ true = subst (λ (n : FileName). is_before file.name n ≡ true) (sym is) fits.0 in
    (all_insert (λ other. is_before file.name other ≡ true) files at new before ordered.0, order_insert files name at new is fits.1 ordered.1)

pub view_insert : (files : List MemFile) (name : FileName) (at : ℕ) (new : MemFile) → new.name ≡ name → view_of new ≡ at_rest_view [] → FitsAt files name at → IsInOrder (names_of files) → (other : FileName) → view_in (take at files ++ new ∷ drop at files) other ≡ view_in files other
view_insert [] name zero new is blank fits ordered other = pick (same_file new.name other)
  where
    pick : (b : Bool) → cond b (view_of new) (at_rest_view []) ≡ at_rest_view []
    pick true = blank
    pick false = refl
view_insert [] name (suc at) new is blank fits ordered other = absurd fits
view_insert (file ∷ files) name zero new is blank fits ordered other = elim (cases_Bool (same_file new.name other)) [
  | inl same ↦
      let here : name ≡ other = sym is ∙ same_file_is new.name other same in
      view_here new (file ∷ files) other same ∙ blank ∙ sym (ap (view_in (file ∷ files)) (sym here) ∙ view_absent (file ∷ files) name zero ordered fits)
  | inr apart ↦ view_past new (file ∷ files) other apart
]
view_insert (file ∷ files) name (suc at) new is blank fits ordered other =
    ap (λ (v : View). cond (same_file file.name other) (view_of file) v) (view_insert files name at new is blank fits.1 ordered.1 other)

-- the file that stands somewhere, replaced by another of its name
pub names_set : (files : List MemFile) (name : FileName) (at : ℕ) (new : MemFile) → new.name ≡ name → StandsAt files name at → names_of (set files at new) ≡ names_of files
names_set [] name at new is stands = absurd stands
names_set (file ∷ files) name zero new is stands = ap (λ (n : FileName). n ∷ names_of files) (is ∙ sym stands)
names_set (file ∷ files) name (suc at) new is stands = ap (λ (l : List FileName). file.name ∷ l) (names_set files name at new is stands.1)

pub view_set : (files : List MemFile) (name : FileName) (at : ℕ) (new : MemFile) → new.name ≡ name → StandsAt files name at → (other : FileName) → view_in (set files at new) other ≡ with_file name (view_of new) (view_in files) other
view_set [] name at new is stands other = absurd stands
view_set (file ∷ files) name zero new is stands other =
    ap (λ (n : FileName). cond (same_file n other) (view_of new) (view_in files other)) is ∙ pick (same_file name other) ∙ ap (λ (n : FileName). cond (same_file name other) (view_of new) (cond (same_file n other) (view_of file) (view_in files other))) (sym stands)
  where
    pick : (b : Bool) → cond b (view_of new) (view_in files other) ≡ cond b (view_of new) (cond b (view_of file) (view_in files other))
    pick true = refl
    pick false = refl
view_set (file ∷ files) name (suc at) new is stands other = elim (cases_Bool (same_file name other)) [
  | inl same ↦
      let here : name ≡ other = same_file_is name other same in
      let apart : same_file file.name other ≡ false = ap (same_file file.name) (sym here) ∙ before_apart file.name name stands.0 in
      view_past file (set files at new) other apart ∙ view_set files name at new is stands.1 other ∙ both same (view_of new) (view_in files other) (view_in (file ∷ files) other)
  | inr other_one ↦
      ap (λ (v : View). cond (same_file file.name other) (view_of file) v) (view_set files name at new is stands.1 other ∙ ap (λ (b : Bool). cond b (view_of new) (view_in files other)) other_one)
      ∙ sym (ap (λ (b : Bool). cond b (view_of new) (view_in (file ∷ files) other)) other_one)
]
  where
    both : {b : Bool} → b ≡ true → (x y z : View) → cond b x y ≡ cond b x z
    both {b} is x y z = ap (λ (c : Bool). cond c x y) is ∙ sym (ap (λ (c : Bool). cond c x z) is)

with_file_here : (f : FileName → View) (name : FileName) (v : View) → v ≡ f name → (other : FileName) → with_file name v f other ≡ f other
with_file_here f name v is other = elim (cases_Bool (same_file name other)) [
  | inl same ↦ ap (λ (b : Bool). cond b v (f other)) same ∙ is ∙ ap f (same_file_is name other same)
  | inr apart ↦ ap (λ (b : Bool). cond b v (f other)) apart
]

-- the file replaced by one that has the same
pub same_set : (files : List MemFile) (name : FileName) (at : ℕ) (new : MemFile) → new.name ≡ name → view_of new ≡ view_in files name → StandsAt files name at → IsInOrder (names_of files) → SameFiles files (set files at new)
same_set files name at new is same stands ordered = record {
  in_order = subst IsInOrder (sym (names_set files name at new is stands)) ordered;
  views = λ other. view_set files name at new is stands other ∙ with_file_here (view_in files) name (view_of new) same other;
}

pub stands_set : (files : List MemFile) (name : FileName) (at : ℕ) (new : MemFile) → new.name ≡ name → StandsAt files name at → StandsAt (set files at new) name at
stands_set [] name at new is stands = absurd stands
stands_set (file ∷ files) name zero new is stands = is
stands_set (file ∷ files) name (suc at) new is stands = (stands.0, stands_set files name at new is stands.1)

pub same_then : {a b c : List MemFile} → SameFiles a b → SameFiles b c → SameFiles a c
same_then one two = record { in_order = two.in_order; views = λ name. two.views name ∙ one.views name }

-- one step of the search for a name
module _ (files : List MemFile) (at : ℕ) (file : MemFile) (name : FileName) (here : at < length files) (is : file ≡ get_or files at file) where
  next : drop at files ≡ file ∷ drop (at + 1) files
  next = drop_more files at file here ∙ ap (λ (f : MemFile). f ∷ drop (at + 1) files) (sym is)

  pub stands_here : same_file file.name name ≡ true → StandsAt (drop at files) name 0
  stands_here same = rw next (same_file_is file.name name same)

  pub fits_here : is_before name file.name ≡ true → FitsAt (drop at files) name 0
  fits_here before = rw next before

  past : same_file file.name name ≡ false → is_before name file.name ≡ false → is_before file.name name ≡ true
  past apart not_before = before_back name file.name not_before (turned file.name name apart)
    where
      turned : (a b : FileName) → same_file a b ≡ false → same_file b a ≡ false
      turned a b h = elim (cases_Bool (same_file b a)) [
        | inl same ↦ absurd (let back : same_file b b ≡ false = subst (λ (n : FileName). same_file n b ≡ false) (sym (same_file_is b a same)) h in let self = same_file_self b in cc)
        | inr other ↦ other
      ]

  pub stands_past : same_file file.name name ≡ false → is_before name file.name ≡ false → (k : ℕ) → StandsAt (drop (at + 1) files) name k → StandsAt (drop at files) name (suc k)
  stands_past apart not_before k stands = rw next (past apart not_before, stands)

  pub fits_past : same_file file.name name ≡ false → is_before name file.name ≡ false → (k : ℕ) → FitsAt (drop (at + 1) files) name k → FitsAt (drop at files) name (suc k)
  fits_past apart not_before k fits = rw next (past apart not_before, fits)

-- a file with nothing in it
pub blank_view : {content synced : List ℕ} {pending : List Change} → content ≡ [] → synced ≡ [] → pending ≡ [] → (let view : View = record { content = content; state = record { synced = synced; pending = newest_first pending } } in view) ≡ at_rest_view []
blank_view p q r = rw (p, q, r) refl
