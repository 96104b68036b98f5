-- What a transaction wrote in a chain stands in front of all that is done.
use Rattle.std.proofs.Common.{◌≡◌, ℕ, zero, suc, ◌==◌, false, List, [], ◌∷◌, ◌++◌, map, take, drop, refl, sym, ap, subst, ◌∙◌, inl, inr, ⊎_elim}
use Rattle.std.specs.Prelude.{All, ◌⊎◌, ◌↔◌}
use Rattle.std.proofs.lemmas.Bool.{or_from}
use Rattle.std.proofs.lemmas.List.{map-append}
use Rattle.std.proofs.lemmas.List.Elements.{All-nil, All-cons, All-head, All-tail, All-append, All-take, All-drop, All-map}
use Rattle.px_cells.specs.declared.slot.Slot.{Slot}
use Rattle.px_shown.specs.Shown.{Done, done_with}
use Rattle.px_shown.specs.Writes.{HasNoneOf, HasNoneDone, IsInFront}
use Rattle.px_shown.specs.Changes.{left_of}
use Rattle.px_shown.proofs.Keys.{seen}

pub in_front_none : (done : Done) (xn : ℕ) (slots : List Slot) → HasNoneOf xn slots → IsInFront done xn slots
in_front_none done xn slots none = record { before = []; behind = slots; split = refl; not_done = All-nil (λ (s : Slot). done s.xn ≡ false); others = none }

-- ---- one slot more or less

pub in_front_grows : (done : Done) (xn : ℕ) (slot : Slot) (slots : List Slot) → done slot.xn ≡ false → IsInFront done xn slots → IsInFront done xn (slot ∷ slots)
in_front_grows done xn slot slots not_done front = record {
  before = slot ∷ front.before;
  behind = front.behind;
  split = ap (λ (l : List Slot). slot ∷ l) front.split;
  not_done = All-cons (λ (s : Slot). done s.xn ≡ false) slot front.before not_done front.not_done;
  others = front.others;
}

parts_shrink : (done : Done) (xn : ℕ) (slot : Slot) (slots before behind : List Slot) → slot ∷ slots ≡ before ++ behind → HasNoneDone done before → HasNoneOf xn behind
    → IsInFront done xn slots
parts_shrink done xn slot slots [] behind split not_done others =
    in_front_none done xn slots (All-tail (λ (s : Slot). (s.xn == xn) ≡ false) slot slots (subst (HasNoneOf xn) (sym split) others))
parts_shrink done xn slot slots (first ∷ before) behind split not_done others = record {
  before = before;
  behind = behind;
  split = let rest : slots ≡ before ++ behind = cc in rest;
  not_done = All-tail (λ (s : Slot). done s.xn ≡ false) first before not_done;
  others = others;
}

pub in_front_shrinks : (done : Done) (xn : ℕ) (slot : Slot) (slots : List Slot) → IsInFront done xn (slot ∷ slots) → IsInFront done xn slots
in_front_shrinks done xn slot slots front = parts_shrink done xn slot slots front.before front.behind front.split front.not_done front.others

parts_first : (done : Done) (xn : ℕ) (slot : Slot) (slots before behind : List Slot) → slot ∷ slots ≡ before ++ behind → HasNoneDone done before → HasNoneOf xn behind
    → (done slot.xn ≡ false) ⊎ HasNoneOf xn (slot ∷ slots)
parts_first done xn slot slots [] behind split not_done others = inr (subst (HasNoneOf xn) (sym split) others)
parts_first done xn slot slots (first ∷ before) behind split not_done others =
    let same : slot ≡ first = cc in
    inl (ap (λ (s : Slot). done s.xn) same ∙ All-head (λ (s : Slot). done s.xn ≡ false) first before not_done)

pub in_front_both : (done : Done) (xn : ℕ) (slot : Slot) (slots : List Slot) → done slot.xn ≡ false → IsInFront done xn (slot ∷ slots) ↔ IsInFront done xn slots
in_front_both done xn slot slots not_done = (λ front. in_front_shrinks done xn slot slots front, λ front. in_front_grows done xn slot slots not_done front)

-- ---- an unlink

in_front_dropped : (done : Done) (xn : ℕ) (slots : List Slot) (count : ℕ) → IsInFront done xn slots → IsInFront done xn (drop count slots)
in_front_dropped done xn slots zero front = front
in_front_dropped done xn [] (suc count) front = front
in_front_dropped done xn (slot ∷ slots) (suc count) front = in_front_dropped done xn slots count (in_front_shrinks done xn slot slots front)

none_left : (P : Slot → Type 0) (slots : List Slot) (from count : ℕ) → All P slots → All P (left_of slots from count)
none_left P slots from count all =
    All-append P (take from slots) (drop count (drop from slots)) (All-take P from slots all) (All-drop P count (drop from slots) (All-drop P from slots all))

pub in_front_left : (done : Done) (xn : ℕ) (slots : List Slot) (from count : ℕ) → IsInFront done xn slots → IsInFront done xn (left_of slots from count)
in_front_left done xn slots zero count front = in_front_dropped done xn slots count front
in_front_left done xn [] (suc from) count front =
    in_front_none done xn (left_of [] (suc from) count) (none_left (λ (s : Slot). (s.xn == xn) ≡ false) [] (suc from) count (All-nil (λ (s : Slot). (s.xn == xn) ≡ false)))
in_front_left done xn (slot ∷ slots) (suc from) count front = ⊎_elim
    (λ (not_done : done slot.xn ≡ false). in_front_grows done xn slot (left_of slots from count) not_done (in_front_left done xn slots from count (in_front_shrinks done xn slot slots front)))
    (λ (none : HasNoneOf xn (slot ∷ slots)).
    in_front_none done xn (left_of (slot ∷ slots) (suc from) count) (none_left (λ (s : Slot). (s.xn == xn) ≡ false) (slot ∷ slots) (suc from) count none))
    (parts_first done xn slot slots front.before front.behind front.split front.not_done front.others)

-- ---- what counts is who wrote the slots

abbrev pub writers : List Slot → List ℕ
writers slots = map (λ slot. slot.xn) slots

pub writers_seen : (slots : List Slot) → writers (map seen slots) ≡ writers slots
writers_seen [] = refl
writers_seen (slot ∷ slots) = ap (λ (l : List ℕ). slot.xn ∷ l) (writers_seen slots)

-- slots of writers that are two lists, one after the other, are two such lists
record IsSplit (slots : List Slot) (before behind : List ℕ) : Type 0 where
  pub front : List Slot
  pub rest : List Slot
  pub split : slots ≡ front ++ rest
  pub front_is : writers front ≡ before
  pub rest_is : writers rest ≡ behind

split_cons : (slot : Slot) (first : ℕ) (slots : List Slot) (before behind : List ℕ) → slot.xn ≡ first → IsSplit slots before behind → IsSplit (slot ∷ slots) (first ∷ before) behind
split_cons slot first slots before behind head s = record {
  front = slot ∷ s.front;
  rest = s.rest;
  split = ap (λ (l : List Slot). slot ∷ l) s.split;
  front_is = ap (λ (n : ℕ). n ∷ writers s.front) head ∙ ap (λ (l : List ℕ). first ∷ l) s.front_is;
  rest_is = s.rest_is;
}

map_split : (slots : List Slot) (before behind : List ℕ) → writers slots ≡ before ++ behind → IsSplit slots before behind
map_split slots [] behind split = record { front = []; rest = slots; split = refl; front_is = refl; rest_is = split }
map_split [] (first ∷ before) behind split = let no : ⊥ = cc in absurd no
map_split (slot ∷ slots) (first ∷ before) behind split =
    let tail : writers slots ≡ before ++ behind = cc in
    let head : slot.xn ≡ first = cc in
    split_cons slot first slots before behind head (map_split slots before behind tail)

all_of_writers : (P : ℕ → Type 0) (slots : List Slot) → All P (writers slots) → All (λ (s : Slot). P s.xn) slots
all_of_writers P [] all = All-nil (λ (s : Slot). P s.xn)
all_of_writers P (slot ∷ slots) all =
    All-cons (λ (s : Slot). P s.xn) slot slots (All-head P slot.xn (writers slots) all) (all_of_writers P slots (All-tail P slot.xn (writers slots) all))

pub all_alike : (P : ℕ → Type 0) (a b : List Slot) → writers b ≡ writers a → All (λ (s : Slot). P s.xn) a → All (λ (s : Slot). P s.xn) b
all_alike P a b alike all = all_of_writers P b (subst (All P) (sym alike) (All-map P (λ (s : Slot). s.xn) a all))

pub in_front_same : (done : Done) (xn : ℕ) (a b : List Slot) → writers b ≡ writers a → IsInFront done xn a → IsInFront done xn b
in_front_same done xn a b alike front =
    let s = map_split b (writers front.before) (writers front.behind) (alike ∙ ap writers front.split ∙ map-append (λ (slot : Slot). slot.xn) front.before front.behind) in
    record {
      before = s.front;
      behind = s.rest;
      split = s.split;
      not_done = all_alike (λ n. done n ≡ false) front.before s.front s.front_is front.not_done;
      others = all_alike (λ n. (n == xn) ≡ false) front.behind s.rest s.rest_is front.others;
    }

pub in_front_alike : (done : Done) (xn : ℕ) (a b : List Slot) → map seen b ≡ map seen a → IsInFront done xn a → IsInFront done xn b
in_front_alike done xn a b alike front = in_front_same done xn a b (sym (writers_seen b) ∙ ap writers alike ∙ writers_seen a) front

-- ---- a commit of another one

both_open : (done : Done) (xn : ℕ) (slots : List Slot) → HasNoneOf xn slots → HasNoneDone done slots → HasNoneDone (done_with xn done) slots
both_open done xn [] none not_done = All-nil (λ (s : Slot). done_with xn done s.xn ≡ false)
both_open done xn (slot ∷ slots) none not_done =
    All-cons (λ (s : Slot). done_with xn done s.xn ≡ false) slot slots
    (or_from (slot.xn == xn) (done slot.xn) (All-head (λ (s : Slot). (s.xn == xn) ≡ false) slot slots none) (All-head (λ (s : Slot). done s.xn ≡ false) slot slots not_done))
    (both_open done xn slots (All-tail (λ (s : Slot). (s.xn == xn) ≡ false) slot slots none) (All-tail (λ (s : Slot). done s.xn ≡ false) slot slots not_done))

first_part : (P : Slot → Type 0) (before behind : List Slot) → All P (before ++ behind) → All P before
first_part P [] behind all = All-nil P
first_part P (slot ∷ before) behind all = All-cons P slot before (All-head P slot (before ++ behind) all) (first_part P before behind (All-tail P slot (before ++ behind) all))

pub in_front_of_commit : (done : Done) (xn other : ℕ) (slots : List Slot) → IsInFront done other slots → HasNoneOf xn slots ⊎ HasNoneOf other slots → IsInFront (done_with xn done) other slots
in_front_of_commit done xn other slots front apart = ⊎_elim
    (λ (none : HasNoneOf xn slots). record {
      before = front.before;
      behind = front.behind;
      split = front.split;
      not_done = both_open done xn front.before (first_part (λ (s : Slot). (s.xn == xn) ≡ false) front.before front.behind (subst (HasNoneOf xn) front.split none)) front.not_done;
      others = front.others;
    })
    (λ (none : HasNoneOf other slots). in_front_none (done_with xn done) other slots none)
    apart
