-- Lists and options.
use Rattle.std.proofs.Common.{◌≡◌, Bool, true, false, cond, List, [], ◌∷◌, ◌++◌, map, reverse, Option, Some, None, option_map, refl, sym, ap, ◌∙◌}
use Rattle.std.specs.Prelude.{All, find}
use Rattle.std.proofs.lemmas.Option.{none-some, same_Some}
use Rattle.std.proofs.lemmas.List.{reverse-append, reverse-reverse}
use Rattle.std.proofs.lemmas.List.Elements.{All-append, All-cons, All-head, All-nil, All-same, All-tail}
use Rattle.px_cell_laws.specs.Holding.{if_any}

pub any_same : {X : Type 0} (a b : List X) → if_any a ≡ if_any b → a ≡ b
any_same [] [] same = refl
any_same [] (y ∷ b) same = absurd (none-some (y ∷ b) same)
any_same (x ∷ a) [] same = absurd (none-some (x ∷ a) (sym same))
any_same (x ∷ a) (y ∷ b) same = same_Some (x ∷ a) (y ∷ b) same

pub any_none : {X : Type 0} (a : List X) → if_any a ≡ None → a ≡ []
any_none [] none = refl
any_none (x ∷ a) none = absurd (none-some (x ∷ a) (sym none))

pub reverse_none : {X : Type 0} (a : List X) → reverse a ≡ [] → a ≡ []
reverse_none a none = sym (reverse-reverse a) ∙ ap reverse none

pub reverse_push : {X : Type 0} (a : List X) (x : X) → reverse (a ++ x ∷ []) ≡ x ∷ reverse a
reverse_push a x = reverse-append a (x ∷ [])

pub find_mapped : {X Y : Type 0} (test : Y → Bool) (f : X → Y) (xs : List X) → find test (map f xs) ≡ option_map f (find (λ x. test (f x)) xs)
find_mapped test f [] = refl
find_mapped test f (x ∷ xs) =
    elim (test (f x)) as (λ b. cond b (Some (f x)) (find test (map f xs)) ≡ option_map f (cond b (Some x) (find (λ y. test (f y)) xs))) [
      | true ↦ refl
      | false ↦ find_mapped test f xs
    ]

-- what holds of each mapped element
pub all_unmapped : {X Y : Type 0} (P : Y → Type 0) (f : X → Y) (xs : List X) → All P (map f xs) → All (λ x. P (f x)) xs
all_unmapped P f [] all = All-nil (λ x. P (f x))
all_unmapped P f (x ∷ xs) all = All-cons (λ y. P (f y)) x xs (All-head P (f x) (map f xs) all) (all_unmapped P f xs (All-tail P (f x) (map f xs) all))

pub all_reversed : {X : Type 0} (P : X → Type 0) (xs : List X) → All P xs → All P (reverse xs)
all_reversed P [] all = All-nil P
all_reversed P (x ∷ xs) all =
    All-same P (reverse (x ∷ xs)) (reverse xs ++ x ∷ []) (reverse-append (x ∷ []) xs)
    (All-append P (reverse xs) (x ∷ []) (all_reversed P xs (All-tail P x xs all)) (All-cons P x [] (All-head P x xs all) (All-nil P)))

-- two tests that agree find the same
pub find_alike : {X : Type 0} (test other : X → Bool) (xs : List X) → All (λ x. test x ≡ other x) xs → find test xs ≡ find other xs
find_alike test other [] same = refl
find_alike test other (x ∷ xs) same =
    ap (λ b. cond b (Some x) (find test xs)) (All-head (λ y. test y ≡ other y) x xs same)
    ∙ ap (λ o. cond (other x) (Some x) o) (find_alike test other xs (All-tail (λ y. test y ≡ other y) x xs same))

pub mapped_twice : {X Y Z : Type 0} (f : X → Y) (g : Y → Z) (o : Option X) → option_map g (option_map f o) ≡ option_map (λ x. g (f x)) o
mapped_twice f g None = refl
mapped_twice f g (Some x) = refl

pub mapped_to_itself : {X : Type 0} (o : Option X) → option_map (λ x. x) o ≡ o
mapped_to_itself None = refl
mapped_to_itself (Some x) = refl
