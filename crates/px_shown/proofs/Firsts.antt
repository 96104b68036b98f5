-- The first slots of a chain that are done, or of a transaction.
use Rattle.std.proofs.Common.{◌≡◌, ℕ, ◌==◌, ◌||◌, Bool, true, false, cond, List, [], ◌∷◌, ◌++◌, map, take, drop, Option, Some, None, option_map, refl, sym, ap, subst, ◌∙◌, ⊎_elim}
use Rattle.std.specs.Prelude.{All, Contains, option_and_then}
use Rattle.std.specs.Option.{option_or}
use Rattle.std.proofs.lemmas.List.{take-append-drop}
use Rattle.std.proofs.lemmas.List.Elements.{All-nil, All-cons, All-head, All-tail}
use Rattle.std.proofs.lemmas.List.Folds.{find-append}
use Rattle.px_cells.specs.declared.slot.Slot.{Slot}
use Rattle.px_cells.specs.declared.slot.SlotState.{SlotState}
use Rattle.px_cells.specs.declared.slot.SlotState.TheVariants as state
use Rattle.px_chain.proofs.Walks.{contains_none, contains_cases}
use Rattle.px_model.specs.declared.write.Write.{Write}
use Rattle.px_model.specs.Rows.{key_written}
use Rattle.px_model_laws.specs.Keys.{row_written}
use Rattle.px_machine_laws.specs.Seen.{row_left}
use Rattle.px_shown.specs.Parts.{Parts}
use Rattle.px_shown.specs.Shown.{Done, done_with, first_done, row_of, row_shown, slot_in, slot_shown, write_in, write_of}
use Rattle.px_shown.specs.Writes.{first_of, HasNoneOf, HasNoneDone, IsInFront}
use Rattle.px_shown.specs.Changes.{left_of}
use Rattle.px_shown.proofs.Keys.{seen}

-- ---- what a slot wrote, and shows

-- the slot that is shown, where this is the first that is done
abbrev pub shown_of : Option Slot → Option Slot
shown_of first = option_and_then (λ (slot : Slot). slot_in slot.state slot) first

pub key_of_write : (parts : Parts) (table : ℕ) (slot : Slot) → key_written (write_of parts table slot) ≡ (table, slot.key)
key_of_write parts table slot = in_state slot.state
  where
    in_state : (s : SlotState) → key_written (write_in parts s table slot) ≡ (table, slot.key)
    in_state state.Row = refl
    in_state state.Deletion = refl
    in_state state.Free = refl

pub write_seen : (parts : Parts) (table : ℕ) (slot : Slot) → write_of parts table (seen slot) ≡ write_of parts table slot
write_seen parts table slot = in_state slot.state
  where
    in_state : (s : SlotState) → write_in parts s table (seen slot) ≡ write_in parts s table slot
    in_state state.Row = refl
    in_state state.Deletion = refl
    in_state state.Free = refl

-- ---- links don't count

first_seen : (done : Done) (slots : List Slot) → first_done done (map seen slots) ≡ option_map seen (first_done done slots)
first_seen done [] = refl
first_seen done (slot ∷ slots) =
    elim (done slot.xn) as (λ b. cond b (Some (seen slot)) (first_done done (map seen slots)) ≡ option_map seen (cond b (Some slot) (first_done done slots))) [
      | true ↦ refl
      | false ↦ first_seen done slots
    ]

written_seen : (parts : Parts) (table : ℕ) (found : Option Slot) → option_map (write_of parts table) (option_map seen found) ≡ option_map (write_of parts table) found
written_seen parts table None = refl
written_seen parts table (Some slot) = ap (λ (w : Write). Some w) (write_seen parts table slot)

pub writes_alike : (parts : Parts) (table : ℕ) (done : Done) (slots : List Slot) → option_map (write_of parts table) (first_done done (map seen slots)) ≡ option_map (write_of parts table) (first_done done slots)
writes_alike parts table done slots = ap (option_map (write_of parts table)) (first_seen done slots) ∙ written_seen parts table (first_done done slots)

-- ---- what is done is asked of the slots

pub first_alike : (done other : Done) (slots : List Slot) → All (λ slot. done slot.xn ≡ other slot.xn) slots → first_done done slots ≡ first_done other slots
first_alike done other [] alike = refl
first_alike done other (slot ∷ slots) alike =
    ap (λ (b : Bool). cond b (Some slot) (first_done done slots)) (All-head (λ (s : Slot). done s.xn ≡ other s.xn) slot slots alike)
    ∙ ap (λ (o : Option Slot). cond (other slot.xn) (Some slot) o) (first_alike done other slots (All-tail (λ (s : Slot). done s.xn ≡ other s.xn) slot slots alike))

-- ---- one more in front

pub first_passed : (done : Done) (slot : Slot) (slots : List Slot) → done slot.xn ≡ false → first_done done (slot ∷ slots) ≡ first_done done slots
first_passed done slot slots not_done = ap (λ (b : Bool). cond b (Some slot) (first_done done slots)) not_done

pub first_found : (done : Done) (slot : Slot) (slots : List Slot) → done slot.xn ≡ true → first_done done (slot ∷ slots) ≡ Some slot
first_found done slot slots is = ap (λ (b : Bool). cond b (Some slot) (first_done done slots)) is

-- ---- parts of a chain

pub none_done : (done : Done) (slots : List Slot) → HasNoneDone done slots → first_done done slots ≡ None
none_done done [] none = refl
none_done done (slot ∷ slots) none =
    first_passed done slot slots (All-head (λ (s : Slot). done s.xn ≡ false) slot slots none)
    ∙ none_done done slots (All-tail (λ (s : Slot). done s.xn ≡ false) slot slots none)

pub done_none : (parts : Parts) (table : ℕ) (done : Done) (slots : List Slot) → option_map (write_of parts table) (first_done done slots) ≡ None → HasNoneDone done slots
done_none parts table done [] none = All-nil (λ (s : Slot). done s.xn ≡ false)
done_none parts table done (slot ∷ slots) none =
    (elim (done slot.xn) as (λ b. done slot.xn ≡ b → option_map (write_of parts table) (cond b (Some slot) (first_done done slots)) ≡ None → HasNoneDone done (slot ∷ slots)) [
      | true ↦ λ e some. let no : ⊥ = cc in absurd no
      | false ↦ λ e rest. All-cons (λ (s : Slot). done s.xn ≡ false) slot slots e (done_none parts table done slots rest)
    ]) refl none

some_done : (done : Done) (slots : List Slot) (slot : Slot) → Contains slots slot → done slot.xn ≡ true → (first : Slot) × (first_done done slots ≡ Some first)
some_done done [] slot there is = absurd (contains_none slot there)
some_done done (newest ∷ slots) slot there is =
    (elim (done newest.xn) as (λ b. done newest.xn ≡ b → (first : Slot) × (cond b (Some newest) (first_done done slots) ≡ Some first)) [
      | true ↦ λ e. (newest, refl)
      | false ↦ λ e. ⊎_elim
          (λ (same : newest ≡ slot). absurd (different (sym e ∙ ap (λ (s : Slot). done s.xn) same ∙ is)))
          (λ (later : Contains slots slot). some_done done slots slot later is)
          (contains_cases newest slot slots there)
    ]) refl
  where
    different : false ≡ true → ⊥
    different e = cc

or_none : {X : Type 0} (o : Option X) → option_or o None ≡ o
or_none None = refl
or_none (Some x) = refl

or_some : {X : Type 0} (a b c : Option X) (x : X) → a ≡ Some x → option_or a b ≡ option_or a c
or_some None b c x is = cc
or_some (Some y) b c x is = refl

pub first_split : (done : Done) (before behind : List Slot) → first_done done (before ++ behind) ≡ option_or (first_done done before) (first_done done behind)
first_split done before behind = find-append (λ (slot : Slot). done slot.xn) before behind

whole : (slots : List Slot) (from count : ℕ) → take from slots ++ (take count (drop from slots) ++ drop count (drop from slots)) ≡ slots
whole slots from count = ap (λ (l : List Slot). take from slots ++ l) (take-append-drop count (drop from slots)) ∙ take-append-drop from slots

first_whole : (done : Done) (slots : List Slot) (from count : ℕ)
    → first_done done slots ≡ option_or (first_done done (take from slots)) (option_or (first_done done (take count (drop from slots))) (first_done done (drop count (drop from slots))))
first_whole done slots from count =
    ap (first_done done) (sym (whole slots from count))
    ∙ first_split done (take from slots) (take count (drop from slots) ++ drop count (drop from slots))
    ∙ ap (option_or (first_done done (take from slots))) (first_split done (take count (drop from slots)) (drop count (drop from slots)))

-- none of those that go is done
pub left_first : (done : Done) (slots : List Slot) (from count : ℕ) → HasNoneDone done (take count (drop from slots))
    → first_done done (left_of slots from count) ≡ first_done done slots
left_first done slots from count none =
    first_split done (take from slots) (drop count (drop from slots))
    ∙ sym (first_whole done slots from count
    ∙ ap (λ (o : Option Slot). option_or (first_done done (take from slots)) (option_or o (first_done done (drop count (drop from slots))))) (none_done done (take count (drop from slots)) none))

-- one that is done stands in front of them
pub left_covered : (done : Done) (slots : List Slot) (slot : Slot) (from count : ℕ) → Contains (take from slots) slot → done slot.xn ≡ true
    → first_done done (left_of slots from count) ≡ first_done done slots
left_covered done slots slot from count there is =
    let first = some_done done (take from slots) slot there is in
    first_split done (take from slots) (drop count (drop from slots))
    ∙ or_some (first_done done (take from slots)) (first_done done (drop count (drop from slots)))
    (option_or (first_done done (take count (drop from slots))) (first_done done (drop count (drop from slots)))) first.0 first.1
    ∙ sym (first_whole done slots from count)

-- the first that is done is a deletion, and nothing that is left is done
pub left_deleted : (done : Done) (slots : List Slot) (slot : Slot) (from count : ℕ) → first_done done slots ≡ Some slot → slot.state ≡ state.Deletion
    → HasNoneDone done (left_of slots from count) → slot_shown done (left_of slots from count) ≡ slot_shown done slots
left_deleted done slots slot from count first deletion none =
    ap shown_of (none_done done (left_of slots from count) none)
    ∙ sym (ap shown_of first ∙ ap (λ (s : SlotState). slot_in s slot) deletion)

row_in_state : (parts : Parts) (table : ℕ) (s : SlotState) (slot : Slot) → row_written (write_in parts s table slot) ≡ option_map (row_of parts table) (slot_in s slot)
row_in_state parts table state.Row slot = refl
row_in_state parts table state.Deletion slot = refl
row_in_state parts table state.Free slot = refl

row_of_first : (parts : Parts) (table : ℕ) (first : Option Slot) → row_left None (option_map (write_of parts table) first) ≡ option_map (row_of parts table) (shown_of first)
row_of_first parts table None = refl
row_of_first parts table (Some slot) = row_in_state parts table slot.state slot

-- the row that is shown is that of one slot
pub row_of_slot : (parts : Parts) (table : ℕ) (done : Done) (slots : List Slot) → row_shown parts table done slots ≡ option_map (row_of parts table) (slot_shown done slots)
row_of_slot parts table done slots = row_of_first parts table (first_done done slots)

-- so where one slot is shown, one row is
pub one_slot_one_row : (parts : Parts) (table : ℕ) (done : Done) (slots others : List Slot) → slot_shown done others ≡ slot_shown done slots
    → row_shown parts table done others ≡ row_shown parts table done slots
one_slot_one_row parts table done slots others same =
    row_of_slot parts table done others ∙ ap (option_map (row_of parts table)) same ∙ sym (row_of_slot parts table done slots)

pub newest_shown : (parts : Parts) (table : ℕ) (done : Done) (before behind : List Slot) (slot : Slot) → HasNoneDone done before → done slot.xn ≡ true
    → row_shown parts table done (before ++ (slot ∷ behind)) ≡ row_written (write_of parts table slot)
newest_shown parts table done before behind slot none is =
    ap (λ (o : Option Slot). row_left None (option_map (write_of parts table) o))
    (first_split done before (slot ∷ behind)
    ∙ ap (λ (o : Option Slot). option_or o (first_done done (slot ∷ behind))) (none_done done before none)
    ∙ first_found done slot behind is)

-- ---- a transaction is done

step : (b d : Bool) (slot : Slot) (both own rest : Option Slot) → d ≡ false → both ≡ option_or own rest
    → cond (b || d) (Some slot) both ≡ option_or (cond b (Some slot) own) (cond d (Some slot) rest)
step true true slot both own rest not_done same = cc
step true false slot both own rest not_done same = refl
step false true slot both own rest not_done same = cc
step false false slot both own rest not_done same = same

others_first : (done : Done) (xn : ℕ) (slots : List Slot) → HasNoneOf xn slots → first_done (done_with xn done) slots ≡ option_or (first_of xn slots) (first_done done slots)
others_first done xn [] others = refl
others_first done xn (slot ∷ slots) others =
    let other : (slot.xn == xn) ≡ false = All-head (λ (s : Slot). (s.xn == xn) ≡ false) slot slots others in
    let tail = All-tail (λ (s : Slot). (s.xn == xn) ≡ false) slot slots others in
    ap (λ (b : Bool). cond (b || done slot.xn) (Some slot) (first_done (done_with xn done) slots)) other
    ∙ ap (λ (o : Option Slot). cond (done slot.xn) (Some slot) o) (others_first done xn slots tail ∙ ap (λ (o : Option Slot). option_or o (first_done done slots)) (none_done (λ n. n == xn) slots tail))
    ∙ sym (ap (λ (o : Option Slot). option_or o (first_done done (slot ∷ slots))) (none_done (λ n. n == xn) (slot ∷ slots) others))

front_first : (done : Done) (xn : ℕ) (before behind : List Slot) → HasNoneDone done before → HasNoneOf xn behind
    → first_done (done_with xn done) (before ++ behind) ≡ option_or (first_of xn (before ++ behind)) (first_done done (before ++ behind))
front_first done xn [] behind not_done others = others_first done xn behind others
front_first done xn (slot ∷ before) behind not_done others =
    step (slot.xn == xn) (done slot.xn) slot _ _ _ (All-head (λ (s : Slot). done s.xn ≡ false) slot before not_done)
    (front_first done xn before behind (All-tail (λ (s : Slot). done s.xn ≡ false) slot before not_done) others)

left_over : (parts : Parts) (table : ℕ) (was own : Option Slot) → row_left (row_left None (option_map (write_of parts table) was)) (option_map (write_of parts table) own)
    ≡ row_left None (option_map (write_of parts table) (option_or own was))
left_over parts table was None = refl
left_over parts table was (Some slot) = refl

pub commit_shown : (parts : Parts) (table : ℕ) (done : Done) (xn : ℕ) (slots : List Slot) → IsInFront done xn slots
    → row_left (row_shown parts table done slots) (option_map (write_of parts table) (first_of xn slots)) ≡ row_shown parts table (done_with xn done) slots
commit_shown parts table done xn slots front =
    left_over parts table (first_done done slots) (first_of xn slots)
    ∙ ap (λ (o : Option Slot). row_left None (option_map (write_of parts table) o)) (sym
    (subst (λ (l : List Slot). first_done (done_with xn done) l ≡ option_or (first_of xn l) (first_done done l)) (sym front.split)
    (front_first done xn front.before front.behind front.not_done front.others)))

pub none_shown : (parts : Parts) (table : ℕ) (done : Done) (slots : List Slot) → HasNoneDone done slots → row_shown parts table done slots ≡ None
none_shown parts table done slots none = ap (λ (o : Option Slot). row_left None (option_map (write_of parts table) o)) (none_done done slots none)
