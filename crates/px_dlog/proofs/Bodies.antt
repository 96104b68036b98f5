-- A body as its head and its parts.
use Rattle.std.proofs.Common.{◌≡◌, ℕ, ◌+◌, ◌≤◌, nat_le, Bool, true, false, cond, List, [], ◌∷◌, ◌++◌, length, take, drop, refl, ap, ◌∙◌, arith}
use Rattle.std.proofs.lemmas.Bool.Decides.{nat_tests}
use Rattle.std.proofs.lemmas.List.{append-nil, length-drop, take-append-drop, take_all}
use Rattle.std.specs.List.{AllByRecursion, concat}
use Rattle.px_dlog.specs.declared.part.TheConstants.{LONGEST_PART}
use Rattle.px_dlog.specs.Body.{head_of, parts_of}

pub whole_body : (short : ℕ) (body : List ℕ) → head_of short body ++ concat (parts_of short body) ≡ body
whole_body short body = by_test (nat_le (length body) short) refl
  where
    by_test : (b : Bool) → nat_le (length body) short ≡ b → take short body ++ concat (cond (nat_le (length body) short) [] (drop short body ∷ [])) ≡ body
    by_test true is =
        let fits : length body ≤ short = grind (arith, nat_tests) in
        rw is (append-nil (take short body) ∙ take_all short body fits)
    by_test false is = rw is (ap (λ (l : List ℕ). take short body ++ l) (append-nil (drop short body)) ∙ take-append-drop short body)

pub fitting_parts : (short : ℕ) (body : List ℕ) → length body ≤ LONGEST_PART → AllByRecursion (λ bytes. (1 ≤ length bytes) × (length bytes ≤ LONGEST_PART)) (parts_of short body)
fitting_parts short body fits = by_test (nat_le (length body) short) refl
  where
    by_test : (b : Bool) → nat_le (length body) short ≡ b → AllByRecursion (λ (bytes : List ℕ). (1 ≤ length bytes) × (length bytes ≤ LONGEST_PART)) (cond (nat_le (length body) short) [] (drop short body ∷ []))
    by_test true is = rw is tt
    by_test false is =
        let more : short + 1 ≤ length body = grind (arith, nat_tests) in
        rw is ((omega (arith, more, length-drop short body), omega (arith, fits, length-drop short body)), tt)
