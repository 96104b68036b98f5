-- Lists of which a part goes.
use Rattle.std.proofs.Common.{◌≡◌, List, [], ◌∷◌, ◌++◌, map, take, drop, length, refl, sym, ap, ◌∙◌, ℕ}
use Rattle.std.specs.List.{take-map, drop-map}
use Rattle.std.proofs.lemmas.List.{map-append}
use Rattle.std.proofs.Math.Seq.{drop-append_seam, take-append_seam}
use Rattle.px_shown.specs.Changes.{left_of}

pub left_mapped : {X Y : Type 0} (f : X → Y) (list : List X) (from count : ℕ) → map f (left_of list from count) ≡ left_of (map f list) from count
left_mapped f list from count =
    map-append f (take from list) (drop count (drop from list))
    ∙ ap (λ l. l ++ map f (drop count (drop from list))) (sym (take-map f from list))
    ∙ ap (λ l. take from (map f list) ++ l) (sym (ap (drop count) (drop-map f from list) ∙ drop-map f count (drop from list)))

pub left_parts : {X : Type 0} (before gone behind : List X) → left_of (before ++ (gone ++ behind)) (length before) (length gone) ≡ before ++ behind
left_parts before gone behind =
    ap (λ l. l ++ drop (length gone) (drop (length before) (before ++ (gone ++ behind)))) (take-append_seam before (gone ++ behind))
    ∙ ap (λ l. before ++ drop (length gone) l) (drop-append_seam before (gone ++ behind))
    ∙ ap (λ l. before ++ l) (drop-append_seam gone behind)

pub gone_part : {X : Type 0} (before gone behind : List X) → take (length gone) (drop (length before) (before ++ (gone ++ behind))) ≡ gone
gone_part before gone behind =
    ap (take (length gone)) (drop-append_seam before (gone ++ behind)) ∙ take-append_seam gone behind

-- the list has an element that is mapped to this one, and what stands before and behind it is mapped to the rest
pub record IsMappedTo {X Y : Type 0} (f : X → Y) (list : List X) (before : List Y) (y : Y) (behind : List Y) : Type 0 where
  pub first : List X
  pub one : X
  pub last : List X
  pub split : list ≡ first ++ one ∷ last
  pub its_first : map f first ≡ before
  pub its_one : f one ≡ y
  pub its_last : map f last ≡ behind

one_more : {X Y : Type 0} (f : X → Y) (x : X) (list : List X) (z : Y) (before : List Y) (y : Y) (behind : List Y) → f x ≡ z
    → IsMappedTo f list before y behind → IsMappedTo f (x ∷ list) (z ∷ before) y behind
one_more f x list z before y behind head rest = record {
  first = x ∷ rest.first;
  one = rest.one;
  last = rest.last;
  split = ap (λ l. x ∷ l) rest.split;
  its_first = ap (λ u. u ∷ map f rest.first) head ∙ ap (λ l. z ∷ l) rest.its_first;
  its_one = rest.its_one;
  its_last = rest.its_last;
}

pub mapped_to : {X Y : Type 0} (f : X → Y) (list : List X) (before : List Y) (y : Y) (behind : List Y) → map f list ≡ before ++ y ∷ behind
    → IsMappedTo f list before y behind
mapped_to f [] [] y behind same = let no : ⊥ = cc in absurd no
mapped_to f [] (z ∷ before) y behind same = let no : ⊥ = cc in absurd no
mapped_to f (x ∷ list) [] y behind same =
    record { first = []; one = x; last = list; split = refl; its_first = refl; its_one = cc; its_last = cc }
mapped_to f (x ∷ list) (z ∷ before) y behind same =
    one_more f x list z before y behind (let heads : f x ≡ z = cc in heads)
    (mapped_to f list before y behind (let tails : map f list ≡ before ++ y ∷ behind = cc in tails))
