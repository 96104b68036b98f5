-- Lists of changes that grow at their end: whose writes they tell, and of whom they tell nothing.
use Rattle.std.proofs.Common.{◌≡◌, ◌≢◌, ℕ, ◌<◌, ◌≤◌, max, ◌==◌, Bool, cond, true, false, List, [], ◌∷◌, ◌++◌, All, length, refl, ap, ◌∙◌, arith}
use Rattle.std.proofs.lemmas.Bool.{eq-eqb, ne_eqb}
use Rattle.std.proofs.lemmas.List.{append-nil}
use Rattle.std.proofs.lemmas.List.Elements.{All-cons, All-contains, All-head, All-nil, All-tail, Contains-append_left, Contains-get_or, Contains-push}
use Rattle.std.specs.Prelude.{Contains}
use Rattle.px_model.specs.declared.write.Write.{Write}
use Rattle.px_told.specs.declared.change.Change.{Change}
use Rattle.px_told.specs.declared.change.Change.TheVariants.{Put, Commit, Rollback}
use Rattle.px_told.specs.Changes.{greatest_stored, stored_number, IsUntold}
use Rattle.px_told.specs.Writes.{writes_of}

-- ---- writes

cond-append : {X : Type 0} (b : Bool) (x : X) (xs ys : List X) → cond b (x ∷ (xs ++ ys)) (xs ++ ys) ≡ cond b (x ∷ xs) xs ++ ys
cond-append {X} true x xs ys = refl
cond-append {X} false x xs ys = refl

pub writes_of-append : (xn : ℕ) (changes more : List Change) → writes_of xn (changes ++ more) ≡ writes_of xn changes ++ writes_of xn more
writes_of-append xn [] more = refl
writes_of-append xn (Put by write ∷ changes) more =
    ap (λ (writes : List Write). cond (by == xn) (write ∷ writes) writes) (writes_of-append xn changes more)
    ∙ cond-append (by == xn) write (writes_of xn changes) (writes_of xn more)
writes_of-append xn (Commit by commit ∷ changes) more = writes_of-append xn changes more
writes_of-append xn (Rollback by ∷ changes) more = writes_of-append xn changes more

-- changes without a write of it
pub writes_same : (xn : ℕ) (changes more : List Change) → writes_of xn more ≡ [] → writes_of xn (changes ++ more) ≡ writes_of xn changes
writes_same xn changes more none =
    writes_of-append xn changes more ∙ ap (λ (l : List Write). writes_of xn changes ++ l) none ∙ append-nil (writes_of xn changes)

pub own_write : (xn : ℕ) (write : Write) → writes_of xn (Put xn write ∷ []) ≡ write ∷ []
own_write xn write = ap (λ (b : Bool). cond b (write ∷ []) []) (eq-eqb xn xn refl)

pub others_write : (xn by : ℕ) (write : Write) → by ≢ xn → writes_of xn (Put by write ∷ []) ≡ []
others_write xn by write other = ap (λ (b : Bool). cond b (write ∷ []) []) (ne_eqb by xn other)

-- ---- of whom nothing is told

all_from : {X : Type 0} (P : X → Type 0) (xs : List X) → ((x : X) → Contains xs x → P x) → All P xs
all_from P xs each = λ k d within. each _ (Contains-get_or xs k d within)

abbrev pub IsOther : ℕ → Change → Type 0
IsOther xn change = stored_number change ≢ xn

pub untold_before : (xn : ℕ) (changes more : List Change) → IsUntold xn (changes ++ more) → IsUntold xn changes
untold_before xn changes more untold =
    all_from (IsOther xn) changes (λ change there. All-contains (IsOther xn) (changes ++ more) change untold (Contains-append_left changes more change there))

pub untold_last : (xn : ℕ) (changes : List Change) (change : Change) → IsUntold xn (changes ++ change ∷ []) → stored_number change ≢ xn
untold_last xn changes change untold = All-contains (IsOther xn) (changes ++ change ∷ []) change untold (Contains-push changes change)

pub untold_writes : (xn : ℕ) (changes : List Change) → IsUntold xn changes → writes_of xn changes ≡ []
untold_writes xn [] untold = refl
untold_writes xn (Put by write ∷ changes) untold =
    ap (λ (b : Bool). cond b (write ∷ writes_of xn changes) (writes_of xn changes)) (ne_eqb by xn (All-head (IsOther xn) (Put by write) changes untold))
    ∙ untold_writes xn changes (All-tail (IsOther xn) (Put by write) changes untold)
untold_writes xn (Commit by commit ∷ changes) untold = untold_writes xn changes (All-tail (IsOther xn) (Commit by commit) changes untold)
untold_writes xn (Rollback by ∷ changes) untold = untold_writes xn changes (All-tail (IsOther xn) (Rollback by) changes untold)

pub greatest-least : (most : ℕ) (changes : List Change) → most ≤ greatest_stored most changes
greatest-least most [] = omega arith
greatest-least most (change ∷ changes) = let least = greatest-least (max most (stored_number change)) changes in omega (arith, least)

past_all : (xn most : ℕ) (changes : List Change) → greatest_stored most changes < xn → IsUntold xn changes
past_all xn most [] past = All-nil (IsOther xn)
past_all xn most (change ∷ changes) past =
    let least = greatest-least (max most (stored_number change)) changes in
    All-cons (IsOther xn) change changes (λ same. omega (arith, least, same, past)) (past_all xn (max most (stored_number change)) changes past)

pub past_untold : (changes : List Change) (xn : ℕ) → greatest_stored 0 changes < xn → IsUntold xn changes
past_untold changes xn past = past_all xn 0 changes past

-- ---- numbers

pub greatest-append : (most : ℕ) (changes more : List Change) → greatest_stored most (changes ++ more) ≡ greatest_stored (greatest_stored most changes) more
greatest-append most [] more = refl
greatest-append most (change ∷ changes) more = greatest-append (max most (stored_number change)) changes more

-- a number past all has no writes
pub no_writes : (xn most : ℕ) (changes : List Change) → greatest_stored most changes < xn → writes_of xn changes ≡ []
no_writes xn most [] past = refl
no_writes xn most (Put by write ∷ changes) past =
    let other : (by ≡ xn) → ⊥ = λ same. omega (arith, greatest-least (max most by) changes, same, past) in
    ap (λ (b : Bool). cond b (write ∷ writes_of xn changes) (writes_of xn changes)) (ne_eqb by xn other)
    ∙ no_writes xn (max most by) changes past
no_writes xn most (Commit by commit ∷ changes) past = no_writes xn (max most by) changes past
no_writes xn most (Rollback by ∷ changes) past = no_writes xn (max most by) changes past
