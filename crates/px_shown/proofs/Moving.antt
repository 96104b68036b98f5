-- What chains tell where other slots of theirs, or other data logs, tell the same; and so after a move.
use Rattle.std.proofs.Common.{◌≡◌, ◌≢◌, ℕ, ◌==◌, Bool, true, false, cond, List, [], ◌∷◌, ◌++◌, map, Option, Some, None, option_map, refl, sym, ap, subst, ◌∙◌, IsTrue, ⊎_elim}
use Rattle.std.specs.Prelude.{All, ◌↔◌}
use Rattle.std.proofs.lemmas.Bool.{cases_eq, eq-eqb, ne_eqb}
use Rattle.std.proofs.lemmas.List.{append-nil}
use Rattle.std.proofs.lemmas.List.Elements.{All-head, All-tail}
use Rattle.px_cells.specs.declared.slot.Slot.{Slot}
use Rattle.px_cells.specs.declared.slot.SlotState.{SlotState}
use Rattle.px_cells.specs.declared.slot.SlotState.TheVariants as state
use Rattle.px_cells.specs.Form.{is_slot}
use Rattle.px_chain.specs.Links.{IsStored}
use Rattle.px_chain.specs.Sound.{IsSound, IsUsedRow, Layout, head_of, key_of}
use Rattle.px_chain.specs.Table.{Table, laid}
use Rattle.px_chain.proofs.SoundLaws.{sound_alike}
use Rattle.px_model.specs.declared.row.Row.{Row}
use Rattle.px_model.specs.declared.write.Write.{Write}
use Rattle.px_model.specs.declared.write.Write.TheVariants.{Put}
use Rattle.px_model.specs.Rows.{Key, row_at}
use Rattle.px_machine_laws.specs.Seen.{last_of_key, row_left}
use Rattle.px_shown.specs.Moves.{MayMove, move_cells, moved_slot, with_move}
use Rattle.px_shown.specs.Parts.{AgreeAt, AgreeInChains, Parts, tail_of}
use Rattle.px_shown.specs.Shown.{AreToldByChains, Done, Shows, first_done, row_of, write_in, write_of}
use Rattle.px_shown.specs.Tables.{AreSound, Layouts, Tables, slots_of_row}
use Rattle.px_shown.specs.Writes.{AreInFront, AreWritesOf, HasNoneOf}
use Rattle.px_shown.proofs.Fronts.{all_alike, in_front_same, writers}

-- ---- a body

tail_short : (parts : Parts) (slot : Slot) → slot.log ≡ 0 → tail_of parts slot ≡ []
tail_short parts slot none = ap (λ (b : Bool). cond b [] (parts slot.log slot.place)) (eq-eqb slot.log 0 none)

tail_long : (parts : Parts) (slot : Slot) → slot.log ≢ 0 → tail_of parts slot ≡ parts slot.log slot.place
tail_long parts slot some = ap (λ (b : Bool). cond b [] (parts slot.log slot.place)) (ne_eqb slot.log 0 some)

pub body_short : (parts : Parts) (t : ℕ) (slot : Slot) → slot.log ≡ 0 → (row_of parts t slot).body ≡ slot.short
body_short parts t slot none = ap (λ (tail : List ℕ). slot.short ++ tail) (tail_short parts slot none) ∙ append-nil slot.short

pub body_long : (parts : Parts) (t : ℕ) (slot : Slot) → slot.log ≢ 0 → (row_of parts t slot).body ≡ slot.short ++ parts slot.log slot.place
body_long parts t slot some = ap (λ (tail : List ℕ). slot.short ++ tail) (tail_long parts slot some)

tail_agrees : (parts others : Parts) (slot : Slot) → AgreeAt parts others slot → tail_of others slot ≡ tail_of parts slot
tail_agrees parts others slot agree = ⊎_elim
    (λ (none : slot.log ≡ 0). tail_short others slot none ∙ sym (tail_short parts slot none))
    (λ (some : slot.log ≢ 0). tail_long others slot some ∙ sym (agree some) ∙ sym (tail_long parts slot some))
    (cases_eq slot.log 0)

-- ---- slots that tell the same

-- one of a table and another one, each with its data logs
record TellsAlike (parts others : Parts) (t : ℕ) (slot other : Slot) : Type 0 where
  pub xn : other.xn ≡ slot.xn
  pub write : write_of others t other ≡ write_of parts t slot

-- and so do two lists of them, one by one
abbrev TellAlike : (parts others : Parts) (t : ℕ) → List Slot → List Slot → Type 0
TellAlike parts others t [] [] = Unit {0}
TellAlike parts others t [] (other ∷ rest) = ⊥
TellAlike parts others t (slot ∷ slots) [] = ⊥
TellAlike parts others t (slot ∷ slots) (other ∷ rest) = TellsAlike parts others t slot other × TellAlike parts others t slots rest

-- a slot whose body has the same tail under another reference
tells_moved : (parts others : Parts) (t : ℕ) (slot : Slot) (log place : ℕ) → tail_of others (moved_slot slot log place) ≡ tail_of parts slot
    → TellsAlike parts others t slot (moved_slot slot log place)
tells_moved parts others t slot log place same = record { xn = refl; write = in_state slot.state }
  where
    in_state : (s : SlotState) → write_in others s t (moved_slot slot log place) ≡ write_in parts s t slot
    in_state state.Row = ap (λ (tail : List ℕ). Put (record (row_of parts t slot) { body = slot.short ++ tail })) same
    in_state state.Deletion = refl
    in_state state.Free = refl

pub write_agrees : (parts others : Parts) (t : ℕ) (slot : Slot) → AgreeAt parts others slot → write_of others t slot ≡ write_of parts t slot
write_agrees parts others t slot agree = (tells_moved parts others t slot slot.log slot.place (tail_agrees parts others slot agree)).write

first_told : (parts others : Parts) (t : ℕ) (slot other : Slot) (b c : Bool) (rest later : Option Slot) → c ≡ b → write_of others t other ≡ write_of parts t slot
    → option_map (write_of others t) later ≡ option_map (write_of parts t) rest
    → option_map (write_of others t) (cond c (Some other) later) ≡ option_map (write_of parts t) (cond b (Some slot) rest)
first_told parts others t slot other true true rest later same here behind = ap (λ (w : Write). Some w) here
first_told parts others t slot other true false rest later same here behind = cc
first_told parts others t slot other false true rest later same here behind = cc
first_told parts others t slot other false false rest later same here behind = behind

same_told : (parts others : Parts) (t : ℕ) (done : Done) (slots rest : List Slot) → TellAlike parts others t slots rest
    → option_map (write_of others t) (first_done done rest) ≡ option_map (write_of parts t) (first_done done slots)
same_told parts others t done [] [] alike = refl
same_told parts others t done [] (other ∷ rest) alike = absurd alike
same_told parts others t done (slot ∷ slots) [] alike = absurd alike
same_told parts others t done (slot ∷ slots) (other ∷ rest) alike =
    first_told parts others t slot other (done slot.xn) (done other.xn) (first_done done slots) (first_done done rest) (ap done alike.0.xn) alike.0.write
    (same_told parts others t done slots rest alike.1)

-- ---- other data logs

logs_alike : (parts others : Parts) (t : ℕ) (slots : List Slot) → All (AgreeAt parts others) slots → TellAlike parts others t slots slots
logs_alike parts others t [] agree = tt
logs_alike parts others t (slot ∷ slots) agree = (
  tells_moved parts others t slot slot.log slot.place (tail_agrees parts others slot (All-head (AgreeAt parts others) slot slots agree)),
  logs_alike parts others t slots (All-tail (AgreeAt parts others) slot slots agree),
)

pub same_rows : (parts others : Parts) (tables : Tables) (layouts : Layouts) (done : Done) (rows : List Row) → AgreeInChains parts others tables layouts
    → Shows parts tables layouts done rows → Shows others tables layouts done rows
same_rows parts others tables layouts done rows agree shows = record {
  order = shows.order;
  keys = record {
    of_row = λ t row used.
        let slots = slots_of_row (tables t) (layouts t) row in
        shows.keys.of_row t row used ∙ sym (ap (row_left None) (same_told parts others t done slots slots (logs_alike parts others t slots (agree t row used))));
    of_none = shows.keys.of_none;
  };
}

pub same_writes : (parts others : Parts) (xn : ℕ) (tables : Tables) (layouts : Layouts) (writes : List Write) → AgreeInChains parts others tables layouts
    → AreWritesOf parts xn tables layouts writes → AreWritesOf others xn tables layouts writes
same_writes parts others xn tables layouts writes agree wrote = record {
  of_row = λ t row used.
      let slots = slots_of_row (tables t) (layouts t) row in
      wrote.of_row t row used ∙ sym (same_told parts others t (λ n. n == xn) slots slots (logs_alike parts others t slots (agree t row used)));
  of_none = wrote.of_none;
}

-- ---- the tables after a move

-- what holds of each table before it, and of the one with the cell after it, holds of each after it
after_move : (P : Table → Type 0) (tables : Tables) (t number log place n : ℕ) → P (tables n) → (n ≡ t → P (laid (tables n) (move_cells (tables n) number log place)))
    → P (with_move tables t number log place n)
after_move P tables t number log place n was is = ⊎_elim
    (λ (here : n ≡ t). rw (eq-eqb n t here) (subst (λ (m : ℕ). P (laid (tables m) (move_cells (tables m) number log place))) here (is here)))
    (λ (away : n ≢ t). rw (ne_eqb n t away) was)
    (cases_eq n t)

-- and so of its slots
slot_after : (P : Slot → Type 0) (table : Table) (number log place n : ℕ) → P (table.slot n) → (n ≡ number → P (moved_slot (table.slot n) log place))
    → P ((laid table (move_cells table number log place)).slot n)
slot_after P table number log place n was is = ⊎_elim
    (λ (here : n ≡ number). rw (eq-eqb n number here) (subst (λ (m : ℕ). P (moved_slot (table.slot m) log place)) here (is here)))
    (λ (away : n ≢ number). rw (ne_eqb n number away) was)
    (cases_eq n number)

pub rows_after : (tables : Tables) (t number log place n row : ℕ) → IsUsedRow (with_move tables t number log place n) row ↔ IsUsedRow (tables n) row
rows_after tables t number log place n row =
    after_move (λ (table : Table). IsUsedRow table row ↔ IsUsedRow (tables n) row) tables t number log place n (λ used. used, λ used. used) (λ here. (λ used. used, λ used. used))

pub keys_after : (tables : Tables) (t number log place n row : ℕ) → key_of (with_move tables t number log place n) row ≡ key_of (tables n) row
keys_after tables t number log place n row =
    after_move (λ (table : Table). key_of table row ≡ key_of (tables n) row) tables t number log place n refl (λ here.
    slot_after (λ (slot : Slot). slot.key ≡ key_of (tables n) row) (tables n) number log place (head_of (tables n) row) refl (λ its. refl))

-- ---- who wrote the slots

writers_alike : (slot other : ℕ → Slot) (chain : List ℕ) → ((n : ℕ) → (other n).xn ≡ (slot n).xn) → writers (map other chain) ≡ writers (map slot chain)
writers_alike slot other [] same = refl
writers_alike slot other (n ∷ chain) same =
    ap (λ (xn : ℕ). xn ∷ writers (map other chain)) (same n) ∙ ap (λ (l : List ℕ). (slot n).xn ∷ l) (writers_alike slot other chain same)

writers_after : (tables : Tables) (layouts : Layouts) (t number log place n row : ℕ)
    → writers (slots_of_row (with_move tables t number log place n) (layouts n) row) ≡ writers (slots_of_row (tables n) (layouts n) row)
writers_after tables layouts t number log place n row =
    writers_alike (tables n).slot (with_move tables t number log place n).slot ((layouts n).chain row) (λ m.
    after_move (λ (table : Table). (table.slot m).xn ≡ ((tables n).slot m).xn) tables t number log place n refl (λ here.
    slot_after (λ (slot : Slot). slot.xn ≡ ((tables n).slot m).xn) (tables n) number log place m refl (λ its. refl)))

pub none_after : (tables : Tables) (layouts : Layouts) (xn t number log place n row : ℕ) → HasNoneOf xn (slots_of_row (tables n) (layouts n) row)
    → HasNoneOf xn (slots_of_row (with_move tables t number log place n) (layouts n) row)
none_after tables layouts xn t number log place n row none =
    all_alike (λ m. (m == xn) ≡ false) (slots_of_row (tables n) (layouts n) row) (slots_of_row (with_move tables t number log place n) (layouts n) row)
    (writers_after tables layouts t number log place n row) none

pub in_front_after : (tables : Tables) (layouts : Layouts) (done : Done) (xn t number log place : ℕ) → AreInFront done xn tables layouts
    → AreInFront done xn (with_move tables t number log place) layouts
in_front_after tables layouts done xn t number log place fronts n row used =
    in_front_same done xn (slots_of_row (tables n) (layouts n) row) (slots_of_row (with_move tables t number log place n) (layouts n) row)
    (writers_after tables layouts t number log place n row) (fronts n row ((rows_after tables t number log place n row).0 used))

-- ---- what is told

moved_tail : (parts : Parts) (slot : Slot) (log place : ℕ) → slot.log ≢ 0 → log ≢ 0 → parts slot.log slot.place ≡ parts log place
    → tail_of parts (moved_slot slot log place) ≡ tail_of parts slot
moved_tail parts slot log place long some same = tail_long parts (moved_slot slot log place) some ∙ sym same ∙ sym (tail_long parts slot long)

slots_alike : (parts : Parts) (t : ℕ) (slot other : ℕ → Slot) (chain : List ℕ) → ((n : ℕ) → TellsAlike parts parts t (slot n) (other n))
    → TellAlike parts parts t (map slot chain) (map other chain)
slots_alike parts t slot other [] each = tt
slots_alike parts t slot other (n ∷ chain) each = (each n, slots_alike parts t slot other chain each)

move_alike : (parts : Parts) (short : ℕ) (tables : Tables) (layouts : Layouts) (t number log place : ℕ) → MayMove parts short tables layouts t number log place
    → (n row : ℕ) → TellAlike parts parts n (slots_of_row (tables n) (layouts n) row) (slots_of_row (with_move tables t number log place n) (layouts n) row)
move_alike parts short tables layouts t number log place may n row =
    slots_alike parts n (tables n).slot (with_move tables t number log place n).slot ((layouts n).chain row) (λ m.
    after_move (λ (table : Table). TellsAlike parts parts n ((tables n).slot m) (table.slot m)) tables t number log place n (record { xn = refl; write = refl }) (λ here.
    slot_after (λ (slot : Slot). TellsAlike parts parts n ((tables n).slot m) slot) (tables n) number log place m (record { xn = refl; write = refl }) (λ its.
    tells_moved parts parts n ((tables n).slot m) log place
    (subst (λ (p : ℕ). tail_of parts (moved_slot ((tables p).slot m) log place) ≡ tail_of parts ((tables p).slot m)) (sym here)
    (subst (λ (q : ℕ). tail_of parts (moved_slot ((tables t).slot q) log place) ≡ tail_of parts ((tables t).slot q)) (sym its)
    (moved_tail parts ((tables t).slot number) log place may.long may.some may.same))))))

move_told : {X : Type 0} (tables : Tables) (layouts : Layouts) (of_chain : (table : ℕ) → List Slot → Option X) (of_key : Key → Option X) (t number log place : ℕ)
    → ((n row : ℕ) → of_chain n (slots_of_row (with_move tables t number log place n) (layouts n) row) ≡ of_chain n (slots_of_row (tables n) (layouts n) row))
    → AreToldByChains tables layouts of_chain of_key → AreToldByChains (with_move tables t number log place) layouts of_chain of_key
move_told tables layouts of_chain of_key t number log place same told = record {
  of_row = λ n row used.
      ap (λ (key : List ℕ). of_key (n, key)) (keys_after tables t number log place n row)
      ∙ told.of_row n row ((rows_after tables t number log place n row).0 used) ∙ sym (same n row);
  of_none = λ key none. told.of_none key (λ row used its.
      none row ((rows_after tables t number log place key.0 row).1 used) (keys_after tables t number log place key.0 row ∙ its));
}

pub move_shows : (parts : Parts) (short : ℕ) (tables : Tables) (layouts : Layouts) (done : Done) (rows : List Row) (t number log place : ℕ)
    → MayMove parts short tables layouts t number log place → Shows parts tables layouts done rows → Shows parts (with_move tables t number log place) layouts done rows
move_shows parts short tables layouts done rows t number log place may shows = record {
  order = shows.order;
  keys = move_told tables layouts (λ n slots. row_left None (option_map (write_of parts n) (first_done done slots))) (λ key. row_at key rows) t number log place
      (λ n row. ap (row_left None) (same_told parts parts n done (slots_of_row (tables n) (layouts n) row) (slots_of_row (with_move tables t number log place n) (layouts n) row)
      (move_alike parts short tables layouts t number log place may n row))) shows.keys;
}

pub move_written : (parts : Parts) (short : ℕ) (tables : Tables) (layouts : Layouts) (xn : ℕ) (writes : List Write) (t number log place : ℕ)
    → MayMove parts short tables layouts t number log place → AreWritesOf parts xn tables layouts writes → AreWritesOf parts xn (with_move tables t number log place) layouts writes
move_written parts short tables layouts xn writes t number log place may wrote =
    move_told tables layouts (λ n slots. option_map (write_of parts n) (first_done (λ m. m == xn) slots)) (λ key. last_of_key key writes) t number log place
    (λ n row. same_told parts parts n (λ m. m == xn) (slots_of_row (tables n) (layouts n) row) (slots_of_row (with_move tables t number log place n) (layouts n) row)
    (move_alike parts short tables layouts t number log place may n row)) wrote

-- ---- sound cells

-- one table, whose slot is in the form with its new reference
pub one_moved : (short : ℕ) (table : Table) (layout : Layout) (number log place : ℕ) → IsStored short (moved_slot (table.slot number) log place) → IsSound short table layout
    → IsSound short (laid table (move_cells table number log place)) layout
one_moved short table layout number log place stored sound =
    let other = laid table (move_cells table number log place) in
    sound_alike short table other layout sound (record {
      header = refl;
      states = λ n in'. slot_after (λ (slot : Slot). slot.state ≡ (table.slot n).state) table number log place n refl (λ its. refl);
      nexts = λ n in'. slot_after (λ (slot : Slot). slot.next ≡ (table.slot n).next) table number log place n refl (λ its. refl);
      its_rows = λ n in'. slot_after (λ (slot : Slot). slot.row ≡ (table.slot n).row) table number log place n refl (λ its. refl);
      its_keys = λ n in'. slot_after (λ (slot : Slot). slot.key ≡ (table.slot n).key) table number log place n refl (λ its. refl);
      form = λ n in'. slot_after (λ (slot : Slot). IsTrue (is_slot short slot)) table number log place n (sound.form n in')
          (λ its. subst (λ (m : ℕ). IsTrue (is_slot short (moved_slot (table.slot m) log place))) (sym its) stored.form);
      pointers = λ row in'. refl;
    })

pub move_sound : (parts : Parts) (short : ℕ) (tables : Tables) (layouts : Layouts) (t number log place : ℕ) → MayMove parts short tables layouts t number log place
    → AreSound short tables layouts → AreSound short (with_move tables t number log place) layouts
move_sound parts short tables layouts t number log place may sound n =
    after_move (λ (table : Table). IsSound short table (layouts n)) tables t number log place n (sound n) (λ here.
    one_moved short (tables n) (layouts n) number log place (subst (λ (m : ℕ). IsStored short (moved_slot ((tables m).slot number) log place)) (sym here) may.stored) (sound n))
