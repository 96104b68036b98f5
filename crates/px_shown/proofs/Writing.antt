-- What transactions wrote, and that it stands in front, after a link and after a commit.
use Rattle.std.proofs.Common.{◌≡◌, ◌≢◌, ℕ, ◌==◌, Bool, false, cond, List, [], ◌∷◌, ◌++◌, map, Option, Some, None, option_map, refl, sym, ap, subst, ◌∙◌, inl, inr, ⊎_elim}
use Rattle.std.specs.Prelude.{◌⊎◌}
use Rattle.std.specs.Option.{option_or}
use Rattle.std.proofs.lemmas.Bool.{eq-eqb, ne_eqb}
use Rattle.std.proofs.lemmas.List.Elements.{All-nil}
use Rattle.px_cells.specs.declared.header.Header.{Header}
use Rattle.px_cells.specs.declared.slot.Slot.{Slot}
use Rattle.px_chain.specs.Sound.{IsUsedRow, Layout, key_of}
use Rattle.px_chain.specs.Links.{IsStored}
use Rattle.px_model.specs.declared.write.Write.{Write}
use Rattle.px_model.specs.Rows.{Key, same_key}
use Rattle.px_machine_laws.specs.Seen.{last_of_key}
use Rattle.px_machine_laws.proofs.Seen.{last_of_key-push}
use Rattle.px_shown.specs.Tables.{Tables, Layouts, AreSound, with_layout, slots_of_row}
use Rattle.px_shown.specs.Parts.{Parts}
use Rattle.px_shown.specs.Shown.{Done, done_with, write_of}
use Rattle.px_shown.specs.Writes.{first_of, HasNoneOf, IsInFront, AreInFront, AreWritesOf}
use Rattle.px_shown.specs.Changes.{IsLink, with_link}
use Rattle.px_shown.proofs.Keys.{same_key-refl, same_key-not}
use Rattle.px_shown.proofs.Firsts.{key_of_write, writes_alike, first_passed, first_found, none_done, done_none}
use Rattle.px_shown.proofs.Fronts.{in_front_none, in_front_grows, in_front_alike, in_front_of_commit}
use Rattle.px_shown.proofs.Told.{Chains, IsBlind, IsChanged, here_or_away, told_changed, told_stays}
use Rattle.px_shown.proofs.Rows.{chains_of, used_or_not, told_by_rows, told_of_rows}
use Rattle.px_shown.proofs.Changes.{link_stays_sound, link_changes}

abbrev pub written : Parts → (xn : ℕ) → (table : ℕ) → List Slot → Option Write
written parts xn table slots = option_map (write_of parts table) (first_of xn slots)

abbrev pub last_in : List Write → Key → Option Write
last_in writes key = last_of_key key writes

pub written_blind : (parts : Parts) (xn : ℕ) → IsBlind (written parts xn)
written_blind parts xn = record {
  alike = λ t slots. writes_alike parts t (λ n. n == xn) slots;
  none = λ t. refl;
}

pub nothing_written : (parts : Parts) (xn : ℕ) (tables : Tables) (layouts : Layouts)
    → ((t row : ℕ) → IsUsedRow (tables t) row → HasNoneOf xn (slots_of_row (tables t) (layouts t) row)) → AreWritesOf parts xn tables layouts []
nothing_written parts xn tables layouts none = record {
  of_row = λ t row used. sym (ap (option_map (write_of parts t)) (none_done (λ n. n == xn) (slots_of_row (tables t) (layouts t) row) (none t row used)));
  of_none = λ key away. refl;
}

pub nothing_in_front : (done : Done) (xn : ℕ) (tables : Tables) (layouts : Layouts)
    → ((t row : ℕ) → IsUsedRow (tables t) row → HasNoneOf xn (slots_of_row (tables t) (layouts t) row)) → AreInFront done xn tables layouts
nothing_in_front done xn tables layouts none t row used = in_front_none done xn (slots_of_row (tables t) (layouts t) row) (none t row used)

pub not_written : (parts : Parts) (xn : ℕ) (tables : Tables) (layouts : Layouts) (writes : List Write) (t row : ℕ) → AreWritesOf parts xn tables layouts writes → IsUsedRow (tables t) row
    → last_of_key (t, key_of (tables t) row) writes ≡ None → HasNoneOf xn (slots_of_row (tables t) (layouts t) row)
not_written parts xn tables layouts writes t row wrote used none =
    done_none parts t (λ n. n == xn) (slots_of_row (tables t) (layouts t) row) (sym (wrote.of_row t row used) ∙ none)

-- ---- writes

other_key : (parts : Parts) (key : Key) (writes : List Write) (table : ℕ) (slot : Slot) → key ≢ (table, slot.key) → last_of_key key (writes ++ write_of parts table slot ∷ []) ≡ last_of_key key writes
other_key parts key writes table slot apart =
    last_of_key-push key writes (write_of parts table slot)
    ∙ ap (λ (b : Bool). option_or (cond b (Some (write_of parts table slot)) None) (last_of_key key writes))
    (ap (same_key key) (key_of_write parts table slot) ∙ same_key-not key (table, slot.key) apart)

this_key : (parts : Parts) (writes : List Write) (table : ℕ) (slot : Slot) → last_of_key (table, slot.key) (writes ++ write_of parts table slot ∷ []) ≡ Some (write_of parts table slot)
this_key parts writes table slot =
    last_of_key-push (table, slot.key) writes (write_of parts table slot)
    ∙ ap (λ (b : Bool). option_or (cond b (Some (write_of parts table slot)) None) (last_of_key (table, slot.key) writes))
    (ap (same_key (table, slot.key)) (key_of_write parts table slot) ∙ same_key-refl (table, slot.key))

pub link_written : (parts : Parts) (short : ℕ) (tables : Tables) (layouts : Layouts) (writes : List Write) (t : ℕ) (header : Header) (slot : Slot) (after : Layout)
    → AreSound short tables layouts → IsStored short slot → IsLink (tables t) (layouts t) header slot after
    → AreWritesOf parts slot.xn tables layouts writes
    → AreWritesOf parts slot.xn (with_link tables t header slot) (with_layout layouts t after) (writes ++ write_of parts t slot ∷ [])
link_written parts short tables layouts writes t header slot after sound stored link wrote =
    let new = with_link tables t header slot in
    let others = with_layout layouts t after in
    let now = writes ++ write_of parts t slot ∷ [] in
    let slots = slots_of_row (tables t) (layouts t) slot.row in
    let new_sound = link_stays_sound short tables layouts t header slot after sound stored link in
    told_of_rows short new others (written parts slot.xn) (last_in now) new_sound
    (told_changed (chains_of tables layouts) (chains_of new others) t slot.row slot.key (slot ∷ slots) (written parts slot.xn) (last_in writes) (last_in now)
    (link_changes short tables layouts t header slot after sound stored link) (written_blind parts slot.xn)
    (told_by_rows short tables layouts (written parts slot.xn) (last_in writes) sound wrote)
    (λ key apart. other_key parts key writes t slot apart)
    (this_key parts writes t slot ∙ sym (ap (option_map (write_of parts t)) (first_found (λ n. n == slot.xn) slot slots (eq-eqb slot.xn slot.xn refl)))))

pub link_of_another : (parts : Parts) (short : ℕ) (tables : Tables) (layouts : Layouts) (xn : ℕ) (writes : List Write) (t : ℕ) (header : Header) (slot : Slot) (after : Layout)
    → AreSound short tables layouts → IsStored short slot → IsLink (tables t) (layouts t) header slot after → slot.xn ≢ xn
    → AreWritesOf parts xn tables layouts writes → AreWritesOf parts xn (with_link tables t header slot) (with_layout layouts t after) writes
link_of_another parts short tables layouts xn writes t header slot after sound stored link other wrote =
    let new = with_link tables t header slot in
    let others = with_layout layouts t after in
    let slots = slots_of_row (tables t) (layouts t) slot.row in
    let new_sound = link_stays_sound short tables layouts t header slot after sound stored link in
    told_of_rows short new others (written parts xn) (last_in writes) new_sound
    (told_stays (chains_of tables layouts) (chains_of new others) t slot.row slot.key (slot ∷ slots) (written parts xn) (last_in writes)
    (link_changes short tables layouts t header slot after sound stored link) (written_blind parts xn)
    (told_by_rows short tables layouts (written parts xn) (last_in writes) sound wrote)
    (ap (option_map (write_of parts t)) (first_passed (λ n. n == xn) slot slots (ne_eqb slot.xn xn other))))

-- ---- in front

-- in each chain, also where the row pointer is free
pub all_in_front : (short : ℕ) (tables : Tables) (layouts : Layouts) (done : Done) (xn : ℕ) → AreSound short tables layouts → AreInFront done xn tables layouts
    → (t row : ℕ) → IsInFront done xn (slots_of_row (tables t) (layouts t) row)
all_in_front short tables layouts done xn sound fronts t row = ⊎_elim
    (λ (used : IsUsedRow (tables t) row). fronts t row used)
    (λ (unused : IsUsedRow (tables t) row → ⊥).
    subst (λ (l : List ℕ). IsInFront done xn (map (tables t).slot l)) (sym ((sound t).no_chain row unused)) (in_front_none done xn [] (All-nil (λ (s : Slot). (s.xn == xn) ≡ false))))
    (used_or_not (tables t) row)

pub fronts_changed : (done : Done) (xn : ℕ) (old new : Chains) (t row : ℕ) (key : List ℕ) (slots : List Slot) → IsChanged old new t row key slots
    → ((n q : ℕ) → IsInFront done xn (old n q)) → IsInFront done xn slots → (n q : ℕ) → IsInFront done xn (new n q)
fronts_changed done xn old new t row key slots c fronts here n q = ⊎_elim
    (λ (same : (n ≡ t) × (q ≡ row)).
    subst (λ (m : ℕ). IsInFront done xn (new m q)) (sym same.0) (subst (λ (p : ℕ). IsInFront done xn (new t p)) (sym same.1) (in_front_alike done xn slots (new t row) c.here here)))
    (λ (apart : n ≡ t → q ≡ row → ⊥). in_front_alike done xn (old n q) (new n q) (c.away n q apart) (fronts n q))
    (here_or_away n q t row)

pub link_in_front : (short : ℕ) (tables : Tables) (layouts : Layouts) (done : Done) (xn : ℕ) (t : ℕ) (header : Header) (slot : Slot) (after : Layout)
    → AreSound short tables layouts → IsStored short slot → IsLink (tables t) (layouts t) header slot after → done slot.xn ≡ false
    → AreInFront done xn tables layouts → AreInFront done xn (with_link tables t header slot) (with_layout layouts t after)
link_in_front short tables layouts done xn t header slot after sound stored link not_done fronts n q used =
    let all = all_in_front short tables layouts done xn sound fronts in
    let slots = slots_of_row (tables t) (layouts t) slot.row in
    fronts_changed done xn (chains_of tables layouts) (chains_of (with_link tables t header slot) (with_layout layouts t after)) t slot.row slot.key (slot ∷ slots)
    (link_changes short tables layouts t header slot after sound stored link) all (in_front_grows done xn slot slots not_done (all t slot.row)) n q

pub commit_in_front : (tables : Tables) (layouts : Layouts) (done : Done) (xn other : ℕ)
    → ((t row : ℕ) → IsUsedRow (tables t) row → HasNoneOf xn (slots_of_row (tables t) (layouts t) row) ⊎ HasNoneOf other (slots_of_row (tables t) (layouts t) row))
    → AreInFront done other tables layouts → AreInFront (done_with xn done) other tables layouts
commit_in_front tables layouts done xn other apart fronts t row used =
    in_front_of_commit done xn other (slots_of_row (tables t) (layouts t) row) (fronts t row used) (apart t row used)

pub commit_elsewhere : (parts : Parts) (tables : Tables) (layouts : Layouts) (done : Done) (xn other : ℕ) (writes others : List Write)
    → AreWritesOf parts xn tables layouts writes → AreWritesOf parts other tables layouts others
    → ((key : Key) → (last_of_key key writes ≡ None) ⊎ (last_of_key key others ≡ None))
    → AreInFront done other tables layouts → AreInFront (done_with xn done) other tables layouts
commit_elsewhere parts tables layouts done xn other writes others wrote also apart fronts = commit_in_front tables layouts done xn other
    (λ t row used. ⊎_elim
    (λ (none : last_of_key (t, key_of (tables t) row) writes ≡ None). inl (not_written parts xn tables layouts writes t row wrote used none))
    (λ (none : last_of_key (t, key_of (tables t) row) others ≡ None). inr (not_written parts other tables layouts others t row also used none))
    (apart (t, key_of (tables t) row)))
    fronts
