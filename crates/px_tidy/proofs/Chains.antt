-- What is left of a chain while its versions go, the oldest first.
use Rattle.std.proofs.Common.{◌≡◌, ℕ, zero, suc, ◌<◌, ◌≤◌, not, Bool, cond, true, false, List, [], ◌∷◌, ◌++◌, map, take, drop, length, Option, Some, None, option_map, refl, sym, ap, ◌∙◌, arith, inl, inr}
use Rattle.std.specs.Prelude.{◌⊎◌}
use Rattle.std.proofs.Math.Dec.{eqb-suc-suc, eqb-suc-zero, eqb-zero-suc}
use Rattle.std.proofs.lemmas.Bool.{false≢true}
use Rattle.std.proofs.lemmas.List.{drop-map, length-append, length-map, length-take-le, map-append, take-map}
use Rattle.px_cells.specs.declared.slot.Slot.{Slot}
use Rattle.px_cells.specs.declared.slot.SlotState.{SlotState}
use Rattle.px_cells.specs.declared.slot.SlotState.TheVariants.{Free, Row, Deletion}
use Rattle.px_shown.specs.Changes.{left_of}
use Rattle.px_shown.specs.Shown.{Done, slot_in, slot_shown}
use Rattle.px_shown.proofs.Firsts.{first_found, first_passed, shown_of}
use Rattle.px_shown.proofs.Keys.{seen}
use Rattle.px_tidy.specs.Kept.{is_other, is_row, kept, place_kept}

-- the version that stays, where it doesn't stand among the first so many
abbrev pub behind : Done → ℕ → List Slot → List Slot
behind done zero slots = kept done slots
behind done (suc count) [] = []
behind done (suc count) (slot ∷ slots) = cond (done slot.xn) [] (behind done count slots)

-- what is left once all but the first so many have gone which go
abbrev pub left_at : Done → ℕ → List Slot → List Slot
left_at done count slots = map seen (take count slots) ++ behind done count slots

-- ---- the first of them

left_passed : (done : Done) (count : ℕ) (slot : Slot) (slots : List Slot) → done slot.xn ≡ false → left_at done (suc count) (slot ∷ slots) ≡ seen slot ∷ left_at done count slots
left_passed done count slot slots not_done = ap (λ (b : Bool). seen slot ∷ (map seen (take count slots) ++ cond b [] (behind done count slots))) not_done

left_done : (done : Done) (count : ℕ) (slot : Slot) (slots : List Slot) → done slot.xn ≡ true → left_at done (suc count) (slot ∷ slots) ≡ seen slot ∷ (map seen (take count slots) ++ [])
left_done done count slot slots is = ap (λ (b : Bool). seen slot ∷ (map seen (take count slots) ++ cond b [] (behind done count slots))) is

-- ---- one version after the other

other_first : (kept : Option ℕ) → is_other (option_map suc kept) 0 ≡ true
other_first None = refl
other_first (Some k) = ap not (eqb-zero-suc k)

other_later : (kept : Option ℕ) (place : ℕ) → is_other (option_map suc kept) (suc place) ≡ is_other kept place
other_later None place = refl
other_later (Some k) place = ap not (eqb-suc-suc place k)

place_passed : (done : Done) (slot : Slot) (slots : List Slot) → done slot.xn ≡ false → place_kept done (slot ∷ slots) ≡ option_map suc (place_kept done slots)
place_passed done slot slots not_done = ap (λ (b : Bool). cond b (cond (is_row slot.state) (Some 0) None) (option_map suc (place_kept done slots))) not_done

place_done : (done : Done) (slot : Slot) (slots : List Slot) → done slot.xn ≡ true → place_kept done (slot ∷ slots) ≡ cond (is_row slot.state) (Some 0) None
place_done done slot slots is = ap (λ (b : Bool). cond b (cond (is_row slot.state) (Some 0) None) (option_map suc (place_kept done slots))) is

first_stays : (r : Bool) → is_other (cond r (Some 0) None) 0 ≡ false → r ≡ true
first_stays true e = refl
first_stays false e = sym e

first_goes : (r : Bool) → is_other (cond r (Some 0) None) 0 ≡ true → r ≡ false
first_goes true e = sym e
first_goes false e = refl

later_goes : (r : Bool) (place : ℕ) → is_other (cond r (Some 0) None) (suc place) ≡ true
later_goes true place = ap not (eqb-suc-zero place)
later_goes false place = refl

last_dropped : (slots : List Slot) (count : ℕ) → count < length slots → left_of (map seen (take (suc count) slots) ++ []) count 1 ≡ map seen (take count slots) ++ []
last_dropped [] count within = absurd (omega (arith, within))
last_dropped (slot ∷ slots) zero within = refl
last_dropped (slot ∷ slots) (suc count) within = ap (λ (l : List Slot). seen slot ∷ l) (last_dropped slots count (omega (arith, within)))

-- a version that goes is the last of those in front
pub goes : (done : Done) (count : ℕ) (slots : List Slot) → count < length slots → is_other (place_kept done slots) count ≡ true
    → left_of (left_at done (suc count) slots) count 1 ≡ left_at done count slots
goes done count [] within other = absurd (omega (arith, within))
goes done zero (slot ∷ slots) within other =
    (elim (done slot.xn) as (λ b. done slot.xn ≡ b → cond b [] (kept done slots) ≡ cond b (cond (is_row slot.state) (seen slot ∷ []) []) (kept done slots)) [
      | true ↦ λ e. sym (ap (λ (r : Bool). cond r (seen slot ∷ []) [])
          (first_goes (is_row slot.state) (ap (λ (k : Option ℕ). is_other k 0) (sym (place_done done slot slots e)) ∙ other)))
      | false ↦ λ e. refl
    ]) refl
goes done (suc count) (slot ∷ slots) within other =
    (elim (done slot.xn) as (λ b. done slot.xn ≡ b → left_of (left_at done (suc (suc count)) (slot ∷ slots)) (suc count) 1 ≡ left_at done (suc count) (slot ∷ slots)) [
      | true ↦ λ e. ap (λ (l : List Slot). left_of l (suc count) 1) (left_done done (suc count) slot slots e)
          ∙ ap (λ (l : List Slot). seen slot ∷ l) (last_dropped slots count (omega (arith, within))) ∙ sym (left_done done count slot slots e)
      | false ↦ λ e. ap (λ (l : List Slot). left_of l (suc count) 1) (left_passed done (suc count) slot slots e)
          ∙ ap (λ (l : List Slot). seen slot ∷ l) (goes done count slots (omega (arith, within))
          (sym (other_later (place_kept done slots) count) ∙ ap (λ (k : Option ℕ). is_other k (suc count)) (sym (place_passed done slot slots e)) ∙ other))
          ∙ sym (left_passed done count slot slots e)
    ]) refl

-- two lists whose slots differ in their links alone
same_head : (x slot : Slot) (xs slots : List Slot) → map seen (x ∷ xs) ≡ seen slot ∷ slots → (x.xn ≡ slot.xn) × (x.state ≡ slot.state) × (map seen xs ≡ slots)
same_head x slot xs slots alike =
    let head : seen x ≡ seen slot = cc in
    let tail : map seen xs ≡ slots = cc in
    (ap (λ (s : Slot). s.xn) head, ap (λ (s : Slot). s.state) head, tail)

none_seen : (xs : List Slot) → map seen xs ≡ [] → xs ≡ []
none_seen [] none = refl
none_seen (x ∷ xs) none = let no : ⊥ = cc in absurd no

no_row : (s : SlotState) (slot : Slot) → is_row s ≡ false → slot_in s slot ≡ None
no_row Row slot other = absurd (false≢true (sym other))
no_row Free slot other = refl
no_row Deletion slot other = refl

-- what is shown, where the first is passed over, and where it is done
shown_passed : (done : Done) (slot : Slot) (slots : List Slot) → done slot.xn ≡ false → slot_shown done (slot ∷ slots) ≡ slot_shown done slots
shown_passed done slot slots not_done = ap shown_of (first_passed done slot slots not_done)

shown_first : (done : Done) (slot : Slot) (slots : List Slot) → done slot.xn ≡ true → slot_shown done (slot ∷ slots) ≡ slot_in slot.state slot
shown_first done slot slots is = ap shown_of (first_found done slot slots is)

-- once a version goes, what is left of the chain shows the slot that was shown before
pub goes_shown : (done : Done) (count : ℕ) (slots versions : List Slot) → map seen versions ≡ left_at done (suc count) slots → count < length slots
    → is_other (place_kept done slots) count ≡ true → slot_shown done (left_of versions count 1) ≡ slot_shown done versions
goes_shown done count [] versions alike within other = absurd (omega (arith, within))
goes_shown done count (slot ∷ slots) [] alike within other = let no : ⊥ = cc in absurd no
goes_shown done zero (slot ∷ slots) (x ∷ versions) alike within other =
    (elim (done slot.xn) as (λ b. done slot.xn ≡ b → slot_shown done versions ≡ slot_shown done (x ∷ versions)) [
      | true ↦ λ e.
          let same = same_head x slot versions [] (alike ∙ left_done done 0 slot slots e) in
          let row = first_goes (is_row slot.state) (ap (λ (k : Option ℕ). is_other k 0) (sym (place_done done slot slots e)) ∙ other) in
          ap (slot_shown done) (none_seen versions same.2)
          ∙ sym (shown_first done x versions (ap done same.0 ∙ e) ∙ no_row x.state x (ap is_row same.1 ∙ row))
      | false ↦ λ e.
          let same = same_head x slot versions (left_at done 0 slots) (alike ∙ left_passed done 0 slot slots e) in
          sym (shown_passed done x versions (ap done same.0 ∙ e))
    ]) refl
goes_shown done (suc count) (slot ∷ slots) (x ∷ versions) alike within other =
    (elim (done slot.xn) as (λ b. done slot.xn ≡ b → slot_shown done (x ∷ left_of versions count 1) ≡ slot_shown done (x ∷ versions)) [
      | true ↦ λ e.
          let same = same_head x slot versions (map seen (take (suc count) slots) ++ []) (alike ∙ left_done done (suc count) slot slots e) in
          let is : done x.xn ≡ true = ap done same.0 ∙ e in
          shown_first done x (left_of versions count 1) is ∙ sym (shown_first done x versions is)
      | false ↦ λ e.
          let same = same_head x slot versions (left_at done (suc count) slots) (alike ∙ left_passed done (suc count) slot slots e) in
          let not_done : done x.xn ≡ false = ap done same.0 ∙ e in
          shown_passed done x (left_of versions count 1) not_done
          ∙ goes_shown done count slots versions same.2 (omega (arith, within))
          (sym (other_later (place_kept done slots) count) ∙ ap (λ (k : Option ℕ). is_other k (suc count)) (sym (place_passed done slot slots e)) ∙ other)
          ∙ sym (shown_passed done x versions not_done)
    ]) refl

-- the one that stays is passed over
pub stays : (done : Done) (count : ℕ) (slots : List Slot) → is_other (place_kept done slots) count ≡ false → left_at done (suc count) slots ≡ left_at done count slots
stays done count [] other = absurd (false≢true (sym other))
stays done zero (slot ∷ slots) other =
    (elim (done slot.xn) as (λ b. done slot.xn ≡ b → seen slot ∷ cond b [] (kept done slots) ≡ cond b (cond (is_row slot.state) (seen slot ∷ []) []) (kept done slots)) [
      | true ↦ λ e. sym (ap (λ (r : Bool). cond r (seen slot ∷ []) [])
          (first_stays (is_row slot.state) (ap (λ (k : Option ℕ). is_other k 0) (sym (place_done done slot slots e)) ∙ other)))
      | false ↦ λ e. absurd (false≢true (sym other ∙ ap (λ (k : Option ℕ). is_other k 0) (place_passed done slot slots e) ∙ other_first (place_kept done slots)))
    ]) refl
stays done (suc count) (slot ∷ slots) other =
    (elim (done slot.xn) as (λ b. done slot.xn ≡ b → left_at done (suc (suc count)) (slot ∷ slots) ≡ left_at done (suc count) (slot ∷ slots)) [
      | true ↦ λ e. absurd (false≢true (sym other ∙ ap (λ (k : Option ℕ). is_other k (suc count)) (place_done done slot slots e) ∙ later_goes (is_row slot.state) count))
      | false ↦ λ e. left_passed done (suc count) slot slots e
          ∙ ap (λ (l : List Slot). seen slot ∷ l) (stays done count slots
          (sym (other_later (place_kept done slots) count) ∙ ap (λ (k : Option ℕ). is_other k (suc count)) (sym (place_passed done slot slots e)) ∙ other))
          ∙ sym (left_passed done count slot slots e)
    ]) refl

-- ---- at the beginning

either : (b : Bool) (slots : List Slot) → cond b slots slots ≡ slots
either true slots = refl
either false slots = refl

none_behind : (done : Done) (count : ℕ) (slots : List Slot) → length slots ≤ count → behind done count slots ≡ []
none_behind done zero [] all = refl
none_behind done zero (slot ∷ slots) all = absurd (omega (arith, all))
none_behind done (suc count) [] all = refl
none_behind done (suc count) (slot ∷ slots) all =
    ap (λ (l : List Slot). cond (done slot.xn) [] l) (none_behind done count slots (omega (arith, all))) ∙ either (done slot.xn) []

whole : (count : ℕ) (slots : List Slot) → length slots ≤ count → map seen (take count slots) ++ [] ≡ map seen slots
whole zero [] all = refl
whole zero (slot ∷ slots) all = absurd (omega (arith, all))
whole (suc count) [] all = refl
whole (suc count) (slot ∷ slots) all = ap (λ (l : List Slot). seen slot ∷ l) (whole count slots (omega (arith, all)))

pub left_whole : (done : Done) (count : ℕ) (slots : List Slot) → length slots ≤ count → left_at done count slots ≡ map seen slots
left_whole done count slots all = ap (λ (l : List Slot). map seen (take count slots) ++ l) (none_behind done count slots all) ∙ whole count slots all

-- ---- lengths and maps

pub left_long : (done : Done) (count : ℕ) (slots : List Slot) → count ≤ length slots → count ≤ length (left_at done count slots)
left_long done count slots within =
    let both = length-append (map seen (take count slots)) (behind done count slots) in
    let mapped = length-map (take count slots) seen in
    let taken = length-take-le count slots within in
    omega (arith, both, mapped, taken)

pub map_left : {X Y : Type 0} (f : X → Y) (list : List X) (from count : ℕ) → map f (left_of list from count) ≡ left_of (map f list) from count
map_left f list from count =
    map-append f (take from list) (drop count (drop from list))
    ∙ ap (λ l. l ++ map f (drop count (drop from list))) (sym (take-map f from list))
    ∙ ap (λ l. take from (map f list) ++ l) (sym (ap (drop count) (drop-map f from list) ∙ drop-map f count (drop from list)))

-- ---- what stays is a row that is done

pub record IsKept (done : Done) (slots : List Slot) : Type 0 where
  pub slot : Slot
  pub alone : slots ≡ slot ∷ []
  pub its_done : done slot.xn ≡ true
  pub here : slot.state ≡ Row
  pub last : slot.next ≡ 0

row_is : (s : SlotState) → is_row s ≡ true → s ≡ Row
row_is Row e = refl
row_is Free e = absurd (false≢true e)
row_is Deletion e = absurd (false≢true e)

one_kept : (done : Done) (slot : Slot) (r : Bool) → is_row slot.state ≡ r → done slot.xn ≡ true → (cond r (seen slot ∷ []) [] ≡ []) ⊎ IsKept done (cond r (seen slot ∷ []) [])
one_kept done slot true row is = inr (record { slot = seen slot; alone = refl; its_done = is; here = row_is slot.state row; last = refl })
one_kept done slot false row is = inl refl

pub kept_cases : (done : Done) (slots : List Slot) → (kept done slots ≡ []) ⊎ IsKept done (kept done slots)
kept_cases done [] = inl refl
kept_cases done (slot ∷ slots) =
    (elim (done slot.xn) as (λ b. done slot.xn ≡ b → (cond b (cond (is_row slot.state) (seen slot ∷ []) []) (kept done slots) ≡ [])
    ⊎ IsKept done (cond b (cond (is_row slot.state) (seen slot ∷ []) []) (kept done slots))) [
      | true ↦ λ e. one_kept done slot (is_row slot.state) refl e
      | false ↦ λ e. kept_cases done slots
    ]) refl
