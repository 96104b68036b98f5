-- The walks along a row's versions.
use Rattle.std.proofs.Common.{◌≡◌, ℕ, zero, suc, ◌+◌, ◌-◌, ◌<◌, ◌≤◌, Bool, cond, true, false, List, [], ◌∷◌, ◌++◌, map, length, Option, Some, None, option_map, refl, sym, ap, subst, ◌∙◌, append_assoc, arith}
use Rattle.std.specs.Prelude.{filter}
use Rattle.std.proofs.lemmas.List.{append-nil, length-map}
use Rattle.std.proofs.lemmas.List.Elements.{All-contains}
use Rattle.px_cells.specs.declared.slot.Slot.{Slot}
use Rattle.px_chain.specs.declared.chain.Linked.{Linked}
use Rattle.px_chain.specs.Links.{chain_of}
use Rattle.px_chain.specs.Sound.{IsSound, IsUsedRow, IsVariation, Layout}
use Rattle.px_chain.specs.Table.{Table}
use Rattle.px_chain.proofs.SoundLaws.{chain_once}
use Rattle.px_shown.specs.Shown.{Done}
use Rattle.px_shown.specs.Tables.{slots_of_row}
use Rattle.px_tables.proofs.Few.{few}
use Rattle.px_tidy.specs.Kept.{is_other, is_row, oldest_first, place_kept, tidied_away}

abbrev pub slot_of : Linked → Slot
slot_of linked = linked.slot

-- a chain has no more versions than there are slots
pub chain_small : (short : ℕ) (table : Table) (layout : Layout) (row : ℕ) → IsSound short table layout → IsUsedRow table row → length (layout.chain row) ≤ table.header.slots
chain_small short table layout row sound used =
    few table.header.slots (layout.chain row) (chain_once short table layout row sound)
    (λ n there. (All-contains (IsVariation table row) (layout.chain row) n (sound.chains row used).variations there).place)

-- the versions as a walk has them
pub slots_walked : (table : Table) (chain : List ℕ) → map slot_of (chain_of table chain) ≡ map table.slot chain
slots_walked table [] = refl
slots_walked table (n ∷ chain) = ap (λ (l : List Slot). table.slot n ∷ l) (slots_walked table chain)

pub count_walked : (table : Table) (chain : List ℕ) (walked : List Linked) → walked ≡ chain_of table chain → length walked ≡ length chain
count_walked table chain walked is = ap length is ∙ length-map chain (λ n. record { number = n; slot = table.slot n })

-- ---- the place of the version that stays

-- a walk that has come to this place has not met it yet
pub record IsYet (done : Done) (place : ℕ) (left all : List Linked) : Type 0 where
  pub count : place + length left ≡ length all
  pub kept : option_map (λ k. place + k) (place_kept done (map slot_of left)) ≡ place_kept done (map slot_of all)

from_zero : (found : Option ℕ) → option_map (λ k. 0 + k) found ≡ found
from_zero None = refl
from_zero (Some k) = ap (λ n. Some n) (let e : 0 + k ≡ k = omega arith in e)

pub yet_at_first : (done : Done) (all : List Linked) → IsYet done 0 all all
yet_at_first done all = record { count = omega arith; kept = from_zero (place_kept done (map slot_of all)) }

one_on : (place : ℕ) (found : Option ℕ) → option_map (λ k. place + k) (option_map suc found) ≡ option_map (λ k. (place + 1) + k) found
one_on place None = refl
one_on place (Some k) = ap (λ n. Some n) (let e : place + suc k ≡ (place + 1) + k = omega arith in e)

pub yet_behind : (done : Done) (place : ℕ) (first : Linked) (old left all : List Linked) → old ≡ first ∷ left → done first.slot.xn ≡ false → IsYet done place old all
    → IsYet done (place + 1) left all
yet_behind done place first old left all is not_done yet =
    let len : length old ≡ length (first ∷ left) = ap length is in
    let count = yet.count in
    record {
      count = omega (arith, len, count);
      kept = sym (ap (λ (l : List Linked). option_map (λ k. place + k) (place_kept done (map slot_of l))) is
          ∙ ap (λ (b : Bool). option_map (λ k. place + k) (cond b (cond (is_row first.slot.state) (Some 0) None) (option_map suc (place_kept done (map slot_of left))))) not_done
          ∙ one_on place (place_kept done (map slot_of left))) ∙ yet.kept;
    }

pub yet_within : (done : Done) (place : ℕ) (first : Linked) (old left all : List Linked) → old ≡ first ∷ left → IsYet done place old all → place < length all
yet_within done place first old left all is yet =
    let len : length old ≡ length (first ∷ left) = ap length is in
    let count = yet.count in
    omega (arith, len, count)

here_kept : (place : ℕ) (r : Bool) → cond r (Some place) None ≡ option_map (λ k. place + k) (cond r (Some 0) None)
here_kept place true = ap (λ n. Some n) (let e : place ≡ place + 0 = omega arith in e)
here_kept place false = refl

pub found_now : (done : Done) (place : ℕ) (first : Linked) (old left all : List Linked) → old ≡ first ∷ left → done first.slot.xn ≡ true → IsYet done place old all
    → cond (is_row first.slot.state) (Some place) None ≡ place_kept done (map slot_of all)
found_now done place first old left all is its_done yet =
    here_kept place (is_row first.slot.state)
    ∙ sym (ap (λ (l : List Linked). option_map (λ k. place + k) (place_kept done (map slot_of l))) is
    ∙ ap (λ (b : Bool). option_map (λ k. place + k) (cond b (cond (is_row first.slot.state) (Some 0) None) (option_map suc (place_kept done (map slot_of left))))) its_done)
    ∙ yet.kept

pub never_found : (done : Done) (place : ℕ) (left all : List Linked) → left ≡ [] → IsYet done place left all → None ≡ place_kept done (map slot_of all)
never_found done place left all none yet =
    sym (ap (λ (l : List Linked). option_map (λ k. place + k) (place_kept done (map slot_of l))) none) ∙ yet.kept

-- what holds of the walk holds of the row
pub kept_of_row : (done : Done) (table : Table) (layout : Layout) (row : ℕ) (walked : List Linked) (result : Option ℕ) → result ≡ place_kept done (map slot_of walked)
    → walked ≡ chain_of table (layout.chain row) → result ≡ place_kept done (slots_of_row table layout row)
kept_of_row done table layout row walked result is same =
    is ∙ ap (λ (l : List Linked). place_kept done (map slot_of l)) same ∙ ap (place_kept done) (slots_walked table (layout.chain row))

-- ---- the places of those that go

-- one place fewer is left
pub one_more : {X : Type 0} (at : ℕ → X) (P : ℕ → Bool) (old new all : List X) (place : ℕ) → 0 < place → new ≡ cond (P (place - 1)) (old ++ at (place - 1) ∷ []) old
    → old ++ map at (filter P (oldest_first place)) ≡ all → new ++ map at (filter P (oldest_first (place - 1))) ≡ all
one_more at P old new all zero some pushed so_far = absurd (omega (arith, some))
one_more {X} at P old new all (suc place) some pushed so_far =
    let one : suc place - 1 ≡ place = omega arith in
    let is : new ≡ cond (P place) (old ++ at place ∷ []) old = subst (λ n. new ≡ cond (P n) (old ++ at n ∷ []) old) one pushed in
    ap (λ n. new ++ map at (filter P (oldest_first n))) one ∙ ap (λ (l : List X). l ++ map at (filter P (oldest_first place))) is ∙ either (P place) ∙ so_far
  where
    either : (b : Bool) → cond b (old ++ at place ∷ []) old ++ map at (filter P (oldest_first place))
        ≡ old ++ map at (cond b (place ∷ filter P (oldest_first place)) (filter P (oldest_first place)))
    either true = append_assoc old (at place ∷ []) (map at (filter P (oldest_first place)))
    either false = refl

pub all_pushed : {X : Type 0} (at : List ℕ → ℕ → X) (done : Done) (table : Table) (layout : Layout) (row : ℕ) (kept : Option ℕ) (pushed : List X) (place : ℕ) (chain : List ℕ)
    → place ≤ 0 → pushed ++ map (at chain) (filter (is_other kept) (oldest_first place)) ≡ map (at chain) (filter (is_other kept) (oldest_first (length chain)))
    → kept ≡ place_kept done (slots_of_row table layout row) → chain ≡ layout.chain row
    → pushed ≡ map (at (layout.chain row)) (tidied_away done (slots_of_row table layout row))
all_pushed {X} at done table layout row kept pushed place chain none so_far is chain_is =
    let zeroth : place ≡ 0 = omega (arith, none) in
    let length_is : length chain ≡ length (slots_of_row table layout row) = ap length chain_is ∙ sym (length-map (layout.chain row) table.slot) in
    sym (append-nil pushed) ∙ ap (λ n. pushed ++ map (at chain) (filter (is_other kept) (oldest_first n))) (sym zeroth) ∙ so_far
    ∙ ap (λ n. map (at chain) (filter (is_other kept) (oldest_first n))) length_is
    ∙ ap (λ (k : Option ℕ). map (at chain) (filter (is_other k) (oldest_first (length (slots_of_row table layout row))))) is
    ∙ ap (λ (l : List ℕ). map (at l) (tidied_away done (slots_of_row table layout row))) chain_is
