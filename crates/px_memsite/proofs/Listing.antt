-- The next file of a listing.
use Rattle.std.proofs.Common.{◌≡◌, ◌≢◌, ℕ, Bool, true, false, cond, not, ◌&&◌, nat_eq, List, [], ◌∷◌, length, Option, Some, None, IfSome, refl, sym, ap, ◌∙◌, subst, inl, inr, arith}
use Rattle.std.proofs.lemmas.Bool.{cases_Bool}
use Rattle.std.proofs.lemmas.Bool.Decides.{nat_tests}
use Rattle.px_site.specs.declared.name.FileName.{FileName}
use Rattle.px_site.specs.Names.{same_file}
use Rattle.px_site.specs.State.{IsListed, IsNextFile}
use Rattle.px_site.proofs.Files.{same_file_is, same_file_self}
use Rattle.px_memsite.specs.Files.{View, view_in, view_of, names_of, IsInOrder, is_listed, next_in}
use Rattle.px_memsite.specs.declared.file.MemFile.{MemFile}
use Rattle.px_memsite.proofs.FileLists.{view_here, view_past, view_before, before_all}

is_listed_so : (after : Option FileName) (name : FileName) → is_listed after name ≡ true → IsListed after name
is_listed_so None name h = tt
is_listed_so (Some after) name h = h

listed_is : (after : Option FileName) (name : FileName) → IsListed after name → is_listed after name ≡ true
listed_is None name h = refl
listed_is (Some after) name h = h

both : (x y : Bool) → (x && y) ≡ true → (x ≡ true) × (y ≡ true)
both true y h = (refl, h)
both false y h = absurd (cc)

empty_is : (l : List ℕ) → not (nat_eq (length l) 0) ≡ false → l ≡ []
empty_is [] h = refl
empty_is (x ∷ l) h = absurd (let some : nat_eq (length (x ∷ l)) 0 ≡ false = grind (arith, nat_tests) in let not_some = ap not some in cc)

some_is : (l : List ℕ) → not (nat_eq (length l) 0) ≡ true → l ≢ []
some_is l h is = let none : nat_eq (length l) 0 ≡ true = rw is refl in let not_none = ap not none in cc

pub next_listed : (files : List MemFile) (after : Option FileName) → IfSome (next_in files after) (IsListed after)
next_listed [] after = tt
next_listed (file ∷ files) after = by_test (is_listed after file.name && not (nat_eq (length file.content.items) 0)) refl (next_listed files after)
  where
    by_test : (b : Bool) → (is_listed after file.name && not (nat_eq (length file.content.items) 0)) ≡ b → IfSome (next_in files after) (IsListed after) → IfSome (cond b (Some file.name) (next_in files after)) (IsListed after)
    by_test true h later = is_listed_so after file.name (both _ _ h).0
    by_test false h later = later

abbrev content_in : List MemFile → FileName → List ℕ
content_in files name = (view_in files name).content

-- what holds of the later files, with one in front that isn't the next
module _ (file : MemFile) (files : List MemFile) (after : Option FileName) (ordered : IsInOrder (names_of (file ∷ files))) (passed : (is_listed after file.name && not (nat_eq (length file.content.items) 0)) ≡ false) where
  none_more : (name : FileName) → IsListed after name → content_in files name ≡ [] → content_in (file ∷ files) name ≡ []
  none_more name listed none = elim (cases_Bool (same_file file.name name)) [
    | inl same ↦
        let here : is_listed after file.name ≡ true = ap (is_listed after) (same_file_is file.name name same) ∙ listed_is after name listed in
        let blank : not (nat_eq (length file.content.items) 0) ≡ false = sym (ap (λ (b : Bool). b && not (nat_eq (length file.content.items) 0)) here) ∙ passed in
        ap (λ (v : View). v.content) (view_here file files name same) ∙ empty_is file.content.items blank
    | inr apart ↦ ap (λ (v : View). v.content) (view_past file files name apart) ∙ none
  ]

  some_more : (name : FileName) → content_in files name ≢ [] → content_in (file ∷ files) name ≢ []
  some_more name some none = elim (cases_Bool (same_file file.name name)) [
    | inl same ↦ some (ap (content_in files) (sym (same_file_is file.name name same)) ∙ ap (λ (v : View). v.content) (view_before files file.name ordered.0))
    | inr apart ↦ some (sym (ap (λ (v : View). v.content) (view_past file files name apart)) ∙ none)
  ]

  next_more : (next : Option FileName) → IsNextFile (content_in files) after next → IsNextFile (content_in (file ∷ files)) after next
  next_more None is = λ name listed. none_more name listed (is name listed)
  next_more (Some next) is = (some_more next is.0, λ name listed before. none_more name listed (is.1 name listed before))

next_found : (files : List MemFile) (after : Option FileName) → IsInOrder (names_of files) → IsNextFile (content_in files) after (next_in files after)
next_found [] after ordered = λ name listed. refl
next_found (file ∷ files) after ordered = by_test (is_listed after file.name && not (nat_eq (length file.content.items) 0)) refl (next_found files after ordered.1)
  where
    by_test : (b : Bool) → (is_listed after file.name && not (nat_eq (length file.content.items) 0)) ≡ b → IsNextFile (content_in files) after (next_in files after) → IsNextFile (content_in (file ∷ files)) after (cond b (Some file.name) (next_in files after))
    by_test true h later =
        let here : view_in (file ∷ files) file.name ≡ view_of file = view_here file files file.name (same_file_self file.name) in (
          λ none. some_is file.content.items (both _ _ h).1 (sym (ap (λ (v : View). v.content) here) ∙ none),
          λ name listed before. ap (λ (v : View). v.content) (view_before (file ∷ files) name (before, before_all (names_of files) name file.name before ordered.0)),
        )
    by_test false h later = next_more file files after ordered h (next_in files after) later

-- the same of contents that are those of the files
pub next_of : (files : List MemFile) (after next : Option FileName) (content : FileName → List ℕ) → IsInOrder (names_of files) → ((name : FileName) → content_in files name ≡ content name) → next ≡ next_in files after → IsNextFile content after next
next_of files after next content ordered same is =
    let found : IsNextFile (content_in files) after next = rw is (next_found files after ordered) in
    let contents : content_in files ≡ content = λ i. λ name. same name i in
    subst (λ (f : FileName → List ℕ). IsNextFile f after next) contents found
