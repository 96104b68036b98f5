-- The table of cells that were read, and the keys of its rows.
use Rattle.std.proofs.Common.{◌≡◌, ◌≢◌, ℕ, zero, suc, ◌+◌, ◌-◌, ◌<◌, ◌≤◌, true, false, cond, IsTrue, List, [], ◌∷◌, length, get_or, refl, sym, ap, subst, ◌∙◌, arith, ⊎_elim}
use Rattle.std.proofs.lemmas.Bool.{cases_Bool, cases_eq, false≢true}
use Rattle.std.proofs.lemmas.List.Elements.{All-contains}
use Rattle.px_cells.specs.declared.header.Header.{Header}
use Rattle.px_cells.specs.declared.pointer.Pointer.{Pointer}
use Rattle.px_cells.specs.declared.slot.Slot.{Slot}
use Rattle.px_cells.specs.Form.{is_short, is_slot}
use Rattle.px_chain.specs.Sound.{IsLinkedAlike, IsSlot, IsSound, IsUsedRow, IsVariation, Layout, head_of, key_of, next_slot}
use Rattle.px_chain.specs.Table.{Table}
use Rattle.px_chain.proofs.SoundLaws.{sound_alike}
use Rattle.px_chain.proofs.SoundLink.{head_in}
use Rattle.px_cells.specs.Unused.{free_pointer, unused_slot}
use Rattle.px_tables.specs.Held.{Cells, HasLayout, IsKept, cells_from, slot_at, table_at, table_from, table_of}
use Rattle.px_tables.specs.Keys.{AreKeys, IsRowOf, entry_in, row_named}
use Rattle.px_tables.proofs.Names.{cases_key}

-- ---- each cell at its number

behind_first : {X : Type 0} (first : X) (items : List X) (n : ℕ) (d : X) → 1 ≤ n → get_or (first ∷ items) n d ≡ get_or items (n - 1) d
behind_first first items zero d some = absurd (omega (arith, some))
behind_first first items (suc n) d some = (let e : suc n - 1 ≡ n = omega arith in sym (ap (λ (k : ℕ). get_or items k d) e))

linked_alike : (number short : ℕ) (header : Header) (pointers : List Pointer) (slots : List Slot) (layout : Layout) → IsSound short (table_from header pointers slots) layout
    → IsLinkedAlike short (table_from header pointers slots) (table_of (cells_from number short header pointers slots))
linked_alike number short header pointers slots layout sound =
    let same : (n : ℕ) → 1 ≤ n → slot_at (unused_slot ∷ slots) n ≡ slot_at slots (n - 1) = λ n some. behind_first unused_slot slots n unused_slot some in
    record {
      header = refl;
      states = λ n place. ap (λ (s : Slot). s.state) (same n place.0);
      nexts = λ n place. ap (λ (s : Slot). s.next) (same n place.0);
      its_rows = λ n place. ap (λ (s : Slot). s.row) (same n place.0);
      its_keys = λ n place. ap (λ (s : Slot). s.key) (same n place.0);
      form = λ n place. subst (λ (s : Slot). IsTrue (is_slot short s)) (sym (same n place.0)) (sound.form n place);
      pointers = λ row place. behind_first free_pointer pointers row free_pointer place.0;
    }

sound_from : (number short : ℕ) (header : Header) (pointers : List Pointer) (slots : List Slot) (layout : Layout) → IsSound short (table_from header pointers slots) layout
    → HasLayout (cells_from number short header pointers slots) layout
sound_from number short header pointers slots layout sound =
    sound_alike short (table_from header pointers slots) (table_of (cells_from number short header pointers slots)) layout sound
    (linked_alike number short header pointers slots layout sound)

kept_from : (number short : ℕ) (header : Header) (pointers : List Pointer) (slots : List Slot) (keys : List (List ℕ × ℕ)) → IsTrue (is_short short)
    → length pointers ≡ header.rows → length slots ≡ header.slots → (layout : Layout) × IsSound short (table_from header pointers slots) layout
    → AreKeys (table_of (cells_from number short header pointers slots)) keys → IsKept (cells_from number short header pointers slots) keys
kept_from number short header pointers slots keys is rows some sound named = record {
  short = is;
  no_slot = refl;
  no_pointer = refl;
  slots = omega (arith, some);
  pointers = omega (arith, rows);
  layout = sound.0;
  sound = sound_from number short header pointers slots sound.0 sound.1;
  are_keys = named;
}

-- the lists with the cells that stand at place 0 in front
module _ (number short : ℕ) (header : Header) (pointers all_pointers : List Pointer) (slots all_slots : List Slot)
    (pointers_are : all_pointers ≡ free_pointer ∷ pointers) (slots_are : all_slots ≡ unused_slot ∷ slots) where
  pub sound_opened : (layout : Layout) → IsSound short (table_from header pointers slots) layout → IsSound short (table_at header all_pointers all_slots) layout
  sound_opened layout sound =
      subst (λ (p : List Pointer). IsSound short (table_at header p all_slots) layout) (sym pointers_are)
      (subst (λ (s : List Slot). IsSound short (table_at header (free_pointer ∷ pointers) s) layout) (sym slots_are)
      (sound_from number short header pointers slots layout sound))

  pub kept_opened : (keys : List (List ℕ × ℕ)) → IsTrue (is_short short) → length pointers ≡ header.rows → length slots ≡ header.slots
      → (layout : Layout) × IsSound short (table_from header pointers slots) layout → AreKeys (table_at header all_pointers all_slots) keys
      → IsKept (record { number = number; short = short; header = header; slots = all_slots; pointers = all_pointers }) keys
  kept_opened keys is rows some sound named =
      let cells : List Pointer → List Slot → Cells = λ p s. record { number = number; short = short; header = header; slots = s; pointers = p } in
      subst (λ (p : List Pointer). IsKept (cells p all_slots) keys) (sym pointers_are)
      (subst (λ (s : List Slot). IsKept (cells (free_pointer ∷ pointers) s) keys) (sym slots_are)
      (kept_from number short header pointers slots keys is rows some sound
      (subst (λ (s : List Slot). AreKeys (table_at header (free_pointer ∷ pointers) s) keys) slots_are
      (subst (λ (p : List Pointer). AreKeys (table_at header p all_slots) keys) pointers_are named))))

-- ---- the keys of the rows

-- the keys of the rows up to a number are named, and what a key names has that key
pub record AreKeysTo (table : Table) (last : ℕ) (keys : List (List ℕ × ℕ)) : Type 0 where
  pub of_row : (row : ℕ) → row ≤ last → IsUsedRow table row → row_named keys (key_of table row) ≡ row
  pub of_key : (key : List ℕ) → row_named keys key ≢ 0 → IsRowOf table key (row_named keys key)

none_named : (table : Table) → AreKeysTo table 0 []
unfolding entry_in
none_named table = record {
  of_row = λ row first used. (let p = used.0 in absurd (omega (arith, first, p.0)));
  of_key = λ key some. absurd (some refl);
}

pub keys_none : (table : Table) (keys : List (List ℕ × ℕ)) → keys ≡ [] → AreKeysTo table 0 keys
keys_none table keys none = subst (λ (k : List (List ℕ × ℕ)). AreKeysTo table 0 k) (sym none) (none_named table)

pub keys_all : (table : Table) (last : ℕ) (keys : List (List ℕ × ℕ)) → table.header.rows ≤ last → AreKeysTo table last keys → AreKeys table keys
keys_all table last keys most named = record {
  of_row = λ row used. (let p = used.0 in named.of_row row (omega (arith, p.1, most)) used);
  of_key = named.of_key;
}

pub head_slot : (short : ℕ) (table : Table) (layout : Layout) (row : ℕ) → IsSound short table layout → IsUsedRow table row → IsSlot table (head_of table row)
head_slot short table layout row sound used =
    let c = sound.chains row used in
    (All-contains (IsVariation table row) (layout.chain row) (head_of table row) c.variations (head_in (next_slot table) (head_of table row) (layout.chain row) c.walk c.some)).place

-- another row whose key no row before it has
module _ (short : ℕ) (table : Table) (layout : Layout) (sound : IsSound short table layout) (before : ℕ) (old new : List (List ℕ × ℕ)) (named : AreKeysTo table before old) where
  unused_added : (table.pointer (before + 1)).used ≡ false → ((q : List ℕ) → row_named new q ≡ row_named old q) → AreKeysTo table (before + 1) new
  unused_added unused same = record {
    of_row = λ row last used. ⊎_elim
        (λ (here : row ≡ before + 1). absurd (false≢true (sym unused ∙ ap (λ (r : ℕ). (table.pointer r).used) (sym here) ∙ used.1)))
        (λ (other : row ≢ before + 1). same (key_of table row) ∙ named.of_row row (omega (arith, last, other)) used)
        (cases_eq row (before + 1));
    of_key = λ key some.
        subst (λ (r : ℕ). IsRowOf table key r) (sym (same key)) (named.of_key key (λ none. some (same key ∙ none)));
  }

  used_added : IsUsedRow table (before + 1) → row_named new (key_of table (before + 1)) ≡ before + 1
      → ((q : List ℕ) → q ≢ key_of table (before + 1) → row_named new q ≡ row_named old q) → AreKeysTo table (before + 1) new
  used_added used at others = record {
    of_row = λ row last its. ⊎_elim
        (λ (here : row ≡ before + 1). ap (λ (r : ℕ). row_named new (key_of table r)) here ∙ at ∙ sym here)
        (λ (other : row ≢ before + 1).
        others (key_of table row) (λ same. other (sound.keys row (before + 1) its used same)) ∙ named.of_row row (omega (arith, last, other)) its)
        (cases_eq row (before + 1));
    of_key = λ key some. ⊎_elim
        (λ (here : key ≡ key_of table (before + 1)).
        subst (λ (r : ℕ). IsRowOf table key r) (sym (ap (row_named new) here ∙ at)) (used, sym here))
        (λ (other : key ≢ key_of table (before + 1)).
        let same = others key other in
        subst (λ (r : ℕ). IsRowOf table key r) (sym same) (named.of_key key (λ none. some (same ∙ none))))
        (cases_key key (key_of table (before + 1)));
  }

  pub row_added : before < table.header.rows
      → row_named new (key_of table (before + 1)) ≡ cond (table.pointer (before + 1)).used (before + 1) (row_named old (key_of table (before + 1)))
      → ((q : List ℕ) → q ≢ key_of table (before + 1) → row_named new q ≡ row_named old q) → AreKeysTo table (before + 1) new
  row_added in_rows at others =
      let key = key_of table (before + 1) in
      ⊎_elim
      (λ (yes : (table.pointer (before + 1)).used ≡ true).
      used_added ((omega arith, omega (arith, in_rows)), yes) (at ∙ ap (λ b. cond b (before + 1) (row_named old key)) yes) others)
      (λ (no : (table.pointer (before + 1)).used ≡ false).
      unused_added no (λ q. ⊎_elim
      (λ (here : q ≡ key). ap (row_named new) here ∙ at ∙ ap (λ b. cond b (before + 1) (row_named old key)) no ∙ ap (row_named old) (sym here))
      (λ (other : q ≢ key). others q other)
      (cases_key q key)))
      (cases_Bool (table.pointer (before + 1)).used)
