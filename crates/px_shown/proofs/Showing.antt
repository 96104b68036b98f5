-- The rows that are shown: one list, none, and those after a link and after a commit.
use Rattle.std.proofs.Common.{◌≡◌, ◌≢◌, ℕ, false, List, [], ◌∷◌, Option, None, option_map, refl, sym, ap, subst, ◌∙◌, arith, ⊎_elim}
use Rattle.std.specs.Prelude.{All}
use Rattle.px_cells.specs.declared.header.Header.{Header}
use Rattle.px_cells.specs.declared.slot.Slot.{Slot}
use Rattle.px_chain.specs.Sound.{IsUsedRow, Layout, key_of, no_places}
use Rattle.px_chain.specs.Links.{IsStored}
use Rattle.px_model.specs.declared.row.Row.{Row}
use Rattle.px_model.specs.declared.write.Write.{Write}
use Rattle.px_model.specs.Rows.{Key, row_at, after}
use Rattle.px_model_laws.proofs.RowsAsMap.{row_at-after}
use Rattle.px_model_laws.proofs.Laws.{rows_are_their_answers, rows_stay_in_order}
use Rattle.px_machine_laws.specs.Seen.{last_of_key, row_left}
use Rattle.px_machine_laws.proofs.Seen.{newest-last}
use Rattle.px_shown.specs.Tables.{Tables, Layouts, AreSound, with_layout, slots_of_row}
use Rattle.px_shown.specs.Parts.{Parts}
use Rattle.px_shown.specs.Shown.{Done, done_with, write_of, row_shown, Shows}
use Rattle.px_shown.specs.Writes.{AreInFront, AreWritesOf}
use Rattle.px_shown.specs.Changes.{IsLink, with_link}
use Rattle.px_shown.proofs.Firsts.{writes_alike, first_alike, first_passed, commit_shown}
use Rattle.px_shown.proofs.Told.{IsBlind, told_stays}
use Rattle.px_shown.proofs.Rows.{chains_of, told_by_rows, told_of_rows, row_found}
use Rattle.px_shown.proofs.Changes.{link_stays_sound, link_changes}

pub shown_blind : (parts : Parts) (done : Done) → IsBlind (λ t slots. row_shown parts t done slots)
shown_blind parts done = record {
  alike = λ t slots. ap (row_left None) (writes_alike parts t done slots);
  none = λ t. refl;
}

pub rows_one : (parts : Parts) (tables : Tables) (layouts : Layouts) (done : Done) (a b : List Row) → Shows parts tables layouts done a → Shows parts tables layouts done b → a ≡ b
rows_one parts tables layouts done a b one other = rows_are_their_answers a b one.order other.order (λ key. ⊎_elim
    (λ (found : (row : ℕ) × IsUsedRow (tables key.0) row × (key_of (tables key.0) row ≡ key.1)).
    subst (λ (k : List ℕ). row_at (key.0, k) a ≡ row_at (key.0, k) b) found.2
    (one.keys.of_row key.0 found.0 found.1 ∙ sym (other.keys.of_row key.0 found.0 found.1)))
    (λ (none : (row : ℕ) → IsUsedRow (tables key.0) row → key_of (tables key.0) row ≢ key.1). one.keys.of_none key none ∙ sym (other.keys.of_none key none))
    (row_found (tables key.0) key.1))

pub none_shown : (parts : Parts) (tables : Tables) (layouts : Layouts) (done : Done) → ((t : ℕ) → (tables t).header ≡ no_places) → Shows parts tables layouts done []
none_shown parts tables layouts done none = record {
  order = refl;
  keys = record {
    of_row = λ t row used. let e = ap (λ (h : Header). h.rows) (none t) in absurd (omega (arith, e, used.0.0, used.0.1));
    of_none = λ key away. refl;
  };
}

pub alike_shown : (parts : Parts) (tables : Tables) (layouts : Layouts) (done other : Done) (rows : List Row)
    → ((t row : ℕ) → IsUsedRow (tables t) row → All (λ slot. done slot.xn ≡ other slot.xn) (slots_of_row (tables t) (layouts t) row))
    → Shows parts tables layouts done rows → Shows parts tables layouts other rows
alike_shown parts tables layouts done other rows alike shows = record {
  order = shows.order;
  keys = record {
    of_row = λ t row used. shows.keys.of_row t row used
        ∙ ap (λ (o : Option Slot). row_left None (option_map (write_of parts t) o)) (first_alike done other (slots_of_row (tables t) (layouts t) row) (alike t row used));
    of_none = shows.keys.of_none;
  };
}

pub link_hidden : (parts : Parts) (short : ℕ) (tables : Tables) (layouts : Layouts) (done : Done) (rows : List Row) (t : ℕ) (header : Header) (slot : Slot) (after : Layout)
    → AreSound short tables layouts → IsStored short slot → IsLink (tables t) (layouts t) header slot after → done slot.xn ≡ false
    → Shows parts tables layouts done rows → Shows parts (with_link tables t header slot) (with_layout layouts t after) done rows
link_hidden parts short tables layouts done rows t header slot after sound stored link not_done shows =
    let of_chain : ℕ → List Slot → Option Row = λ n slots. row_shown parts n done slots in
    let of_key : Key → Option Row = λ key. row_at key rows in
    let new = with_link tables t header slot in
    let others = with_layout layouts t after in
    let new_sound = link_stays_sound short tables layouts t header slot after sound stored link in
    record {
      order = shows.order;
      keys = told_of_rows short new others of_chain of_key new_sound
          (told_stays (chains_of tables layouts) (chains_of new others) t slot.row slot.key (slot ∷ slots_of_row (tables t) (layouts t) slot.row) of_chain of_key
          (link_changes short tables layouts t header slot after sound stored link) (shown_blind parts done)
          (told_by_rows short tables layouts of_chain of_key sound shows.keys)
          (ap (λ (o : Option Slot). row_left None (option_map (write_of parts t) o)) (first_passed done slot (slots_of_row (tables t) (layouts t) slot.row) not_done)));
    }

row_after : (key : Key) (rows : List Row) (writes : List Write) → row_at key (after rows writes) ≡ row_left (row_at key rows) (last_of_key key writes)
row_after key rows writes = row_at-after key rows writes ∙ newest-last key (row_at key rows) writes

pub commit_shows : (parts : Parts) (tables : Tables) (layouts : Layouts) (done : Done) (xn : ℕ) (rows : List Row) (writes : List Write)
    → AreInFront done xn tables layouts → AreWritesOf parts xn tables layouts writes → Shows parts tables layouts done rows
    → Shows parts tables layouts (done_with xn done) (after rows writes)
commit_shows parts tables layouts done xn rows writes fronts wrote shows = record {
  order = rows_stay_in_order rows writes shows.order;
  keys = record {
    of_row = λ t row used.
        let key : Key = (t, key_of (tables t) row) in
        let slots = slots_of_row (tables t) (layouts t) row in
        row_after key rows writes
        ∙ ap (λ (o : Option Row). row_left o (last_of_key key writes)) (shows.keys.of_row t row used)
        ∙ ap (λ (o : Option Write). row_left (row_shown parts t done slots) o) (wrote.of_row t row used)
        ∙ commit_shown parts t done xn slots (fronts t row used);
    of_none = λ key none.
        row_after key rows writes
        ∙ ap (λ (o : Option Row). row_left o (last_of_key key writes)) (shows.keys.of_none key none)
        ∙ ap (λ (o : Option Write). row_left None o) (wrote.of_none key none);
  };
}
