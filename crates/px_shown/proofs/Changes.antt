-- What a link and an unlink change of the chains.
use Rattle.std.proofs.Common.{◌≡◌, ◌≢◌, ℕ, ◌+◌, ◌≤◌, List, [], ◌∷◌, ◌++◌, map, take, drop, length, refl, sym, ap, subst, ◌∙◌, ⊎_elim}
use Rattle.std.specs.Prelude.{Contains}
use Rattle.std.proofs.lemmas.Bool.{cases_eq, eq-eqb, ne_eqb}
use Rattle.std.proofs.lemmas.List.{take-append-drop}
use Rattle.std.proofs.lemmas.List.Elements.{Contains-append_left, Contains-append_right, Contains-append_cases}
use Rattle.px_cells.specs.declared.header.Header.{Header}
use Rattle.px_cells.specs.declared.slot.Slot.{Slot}
use Rattle.px_chain.specs.Table.{Table, laid}
use Rattle.px_chain.specs.Sound.{IsApart, IsUsedRow, Layout, IsSound, key_of, no_layout, no_places}
use Rattle.px_chain.specs.Links.{BeginsRow, VariesRow, IsStored, chain_of, link_cells, linked, parts_of, row_taken, slot_taken, unlink_cells, unlinked}
use Rattle.px_chain.proofs.Walks.{contains_first, contains_other}
use Rattle.px_chain.proofs.Places.{apart_both, apart_rest}
use Rattle.px_chain.proofs.SoundLaws.{chain_once, one_chain, sound_none}
use Rattle.px_chain.proofs.SoundLink.{over_laid, row_begun, row_varied}
use Rattle.px_chain.proofs.SoundUnlink.{part_kept, part_unlinked}
use Rattle.px_shown.specs.Tables.{Tables, Layouts, AreSound, with_table, with_layout, slots_of_row}
use Rattle.px_shown.specs.Changes.{IsLink, taken_slot, with_link, with_unlink, layouts_unlinked, left_of}
use Rattle.px_shown.proofs.Keys.{HasKey, seen, has_alike}
use Rattle.px_shown.proofs.Told.{IsChanged}
use Rattle.px_shown.proofs.Rows.{chained, key_place, has_used, chains_of, sound_with}

-- the slots of places that hold the same but for their links
places_alike : (table other : Table) (places : List ℕ) → ((n : ℕ) → Contains places n → seen (other.slot n) ≡ seen (table.slot n))
    → map seen (map other.slot places) ≡ map seen (map table.slot places)
places_alike table other [] same = refl
places_alike table other (n ∷ places) same =
    ap (λ (s : Slot). s ∷ map seen (map other.slot places)) (same n (contains_first n places))
    ∙ ap (λ (l : List Slot). seen (table.slot n) ∷ l) (places_alike table other places (λ m there. same m (contains_other n m places there)))

-- one chain of a table has other slots, of the same key, which no other row has
record IsRowChanged (table other : Table) (layout after : Layout) (row : ℕ) (key : List ℕ) (slots : List Slot) : Type 0 where
  pub here : map seen (slots_of_row other after row) ≡ map seen slots
  pub away : (q : ℕ) → q ≢ row → map seen (slots_of_row other after q) ≡ map seen (slots_of_row table layout q)
  pub its_key : (k : List ℕ) → HasKey slots k → k ≡ key
  pub was_key : (k : List ℕ) → HasKey (slots_of_row table layout row) k → k ≡ key
  pub alone : (q : ℕ) → q ≢ row → HasKey (slots_of_row table layout q) key → ⊥

one_changed : (tables : Tables) (layouts : Layouts) (t : ℕ) (other : Table) (after : Layout) (row : ℕ) (key : List ℕ) (slots : List Slot)
    → IsRowChanged (tables t) other (layouts t) after row key slots
    → IsChanged (chains_of tables layouts) (chains_of (with_table tables t other) (with_layout layouts t after)) t row key slots
one_changed tables layouts t other after row key slots c = record {
  here = rw (eq-eqb t t refl) c.here;
  away = λ n q apart. ⊎_elim
      (λ (e : n ≡ t). rw (eq-eqb n t e) (subst (λ (m : ℕ). map seen (slots_of_row other after q) ≡ map seen (slots_of_row (tables m) (layouts m) q)) (sym e) (c.away q (apart e))))
      (λ (e : n ≢ t). rw (ne_eqb n t e) refl)
      (cases_eq n t);
  its_key = c.its_key;
  was_key = c.was_key;
  alone = c.alone;
}

-- ---- a link

record IsLinked (short : ℕ) (table : Table) (layout : Layout) (header : Header) (slot : Slot) (after : Layout) : Type 0 where
  pub sound : IsSound short (laid table (link_cells header (taken_slot table) slot)) after
  pub here : after.chain slot.row ≡ taken_slot table ∷ layout.chain slot.row
  pub away : (q : ℕ) → q ≢ slot.row → after.chain q ≡ layout.chain q

link_done : (short : ℕ) (table : Table) (layout : Layout) (header : Header) (slot : Slot) (after : Layout)
    → IsSound short table layout → IsStored short slot → IsLink table layout header slot after → IsLinked short table layout header slot after
link_done short table layout header slot after sound stored link = ⊎_elim
    (λ (begins : BeginsRow table header slot × (after ≡ linked (row_taken (slot_taken layout)) (taken_slot table) slot.row)).
    subst (λ (l : Layout). IsLinked short table layout header slot l) (sym begins.1) (record {
      sound = row_begun short table layout header slot sound stored begins.0;
      here = rw (eq-eqb slot.row slot.row refl) refl;
      away = λ q e. rw (ne_eqb q slot.row e) refl;
    }))
    (λ (varies : VariesRow table header slot × (after ≡ linked (slot_taken layout) (taken_slot table) slot.row)).
    subst (λ (l : Layout). IsLinked short table layout header slot l) (sym varies.1) (record {
      sound = row_varied short table layout header slot sound stored varies.0;
      here = rw (eq-eqb slot.row slot.row refl) refl;
      away = λ q e. rw (ne_eqb q slot.row e) refl;
    }))
    link

row_linked : (short : ℕ) (table : Table) (layout : Layout) (header : Header) (slot : Slot) (after : Layout) → IsLinked short table layout header slot after
    → IsRowChanged table (laid table (link_cells header (taken_slot table) slot)) layout after slot.row slot.key (slot ∷ slots_of_row table layout slot.row)
row_linked short table layout header slot after link =
    let number = taken_slot table in
    let row = slot.row in
    let other = laid table (link_cells header number slot) in
    let over = over_laid table header number slot in
    let once : IsApart (number ∷ layout.chain row) = subst IsApart link.here (chain_once short other after row link.sound) in
    let number_in : Contains (after.chain row) number = subst (λ (l : List ℕ). Contains l number) (sym link.here) (contains_first number (layout.chain row)) in
    let apart_here : (n : ℕ) → Contains (layout.chain row) n → n ≢ number = λ n there e. once.0 (subst (λ (m : ℕ). Contains (layout.chain row) m) e there) in
    let apart_away : (q : ℕ) → q ≢ row → (n : ℕ) → Contains (layout.chain q) n → n ≢ number = λ q e n there same.
    e (one_chain short other after q row number link.sound (subst (λ (m : ℕ). Contains (after.chain q) m) same (subst (λ (l : List ℕ). Contains l n) (sym (link.away q e)) there)) number_in) in
    let same : (n : ℕ) → n ≢ number → seen (other.slot n) ≡ seen (table.slot n) = λ n e. ap seen (over.slot_else n e) in
    let here : map seen (slots_of_row other after row) ≡ map seen (slot ∷ slots_of_row table layout row) =
    ap (λ (l : List ℕ). map seen (map other.slot l)) link.here
    ∙ ap (λ (s : Slot). seen s ∷ map seen (map other.slot (layout.chain row))) over.slot_at
    ∙ ap (λ (l : List Slot). seen slot ∷ l) (places_alike table other (layout.chain row) (λ n there. same n (apart_here n there))) in
    let away : (q : ℕ) → q ≢ row → map seen (slots_of_row other after q) ≡ map seen (slots_of_row table layout q) = λ q e.
    ap (λ (l : List ℕ). map seen (map other.slot l)) (link.away q e) ∙ places_alike table other (layout.chain q) (λ n there. same n (apart_away q e n there)) in
    let its_row = has_used short other after row slot.key link.sound (has_alike (slot ∷ slots_of_row table layout row) (slots_of_row other after row) slot.key (sym here) refl) in
    record {
      here = here;
      away = away;
      its_key = λ k has. sym has;
      was_key = λ k has.
          let n = key_place table (layout.chain row) k has in
          let v = chained short other after row n.0 link.sound (subst (λ (l : List ℕ). Contains l n.0) (sym link.here) (contains_other number n.0 (layout.chain row) n.1)) in
          sym n.2 ∙ sym (ap (λ (s : Slot). s.key) (over.slot_else n.0 (apart_here n.0 n.1))) ∙ v.1.its_key ∙ its_row.1;
      alone = λ q e has.
          let u = has_used short other after q slot.key link.sound (has_alike (slots_of_row table layout q) (slots_of_row other after q) slot.key (sym (away q e)) has) in
          e (link.sound.keys q row u.0 its_row.0 (u.1 ∙ sym its_row.1));
    }

pub no_cells_sound : (short : ℕ) (tables : Tables) → ((t : ℕ) → (tables t).header ≡ no_places) → AreSound short tables (λ t. no_layout)
no_cells_sound short tables none t = sound_none short (tables t) (none t)

pub link_stays_sound : (short : ℕ) (tables : Tables) (layouts : Layouts) (t : ℕ) (header : Header) (slot : Slot) (after : Layout)
    → AreSound short tables layouts → IsStored short slot → IsLink (tables t) (layouts t) header slot after
    → AreSound short (with_link tables t header slot) (with_layout layouts t after)
link_stays_sound short tables layouts t header slot after sound stored link =
    sound_with short tables layouts t (laid (tables t) (link_cells header (taken_slot (tables t)) slot)) after sound
    (link_done short (tables t) (layouts t) header slot after (sound t) stored link).sound

pub link_changes : (short : ℕ) (tables : Tables) (layouts : Layouts) (t : ℕ) (header : Header) (slot : Slot) (after : Layout)
    → AreSound short tables layouts → IsStored short slot → IsLink (tables t) (layouts t) header slot after
    → IsChanged (chains_of tables layouts) (chains_of (with_link tables t header slot) (with_layout layouts t after)) t slot.row slot.key
    (slot ∷ slots_of_row (tables t) (layouts t) slot.row)
link_changes short tables layouts t header slot after sound stored link =
    one_changed tables layouts t (laid (tables t) (link_cells header (taken_slot (tables t)) slot)) after slot.row slot.key (slot ∷ slots_of_row (tables t) (layouts t) slot.row)
    (row_linked short (tables t) (layouts t) header slot after (link_done short (tables t) (layouts t) header slot after (sound t) stored link))

-- ---- an unlink

whole : (chain : List ℕ) (from count : ℕ) → take from chain ++ (take count (drop from chain) ++ drop count (drop from chain)) ≡ chain
whole chain from count = ap (λ (l : List ℕ). take from chain ++ l) (take-append-drop count (drop from chain)) ∙ take-append-drop from chain

-- what is left was there, and doesn't go
left_there : (chain : List ℕ) (from count n : ℕ) → Contains (left_of chain from count) n → Contains chain n
left_there chain from count n there =
    let before = take from chain in
    let gone = take count (drop from chain) in
    let behind = drop count (drop from chain) in
    subst (λ (l : List ℕ). Contains l n) (whole chain from count) (⊎_elim
    (λ (a : Contains before n). Contains-append_left before (gone ++ behind) n a)
    (λ (b : Contains behind n). Contains-append_right before (gone ++ behind) n (Contains-append_right gone behind n b))
    (Contains-append_cases before behind n there))

gone_there : (chain : List ℕ) (from count n : ℕ) → Contains (take count (drop from chain)) n → Contains chain n
gone_there chain from count n there =
    let before = take from chain in
    let gone = take count (drop from chain) in
    let behind = drop count (drop from chain) in
    subst (λ (l : List ℕ). Contains l n) (whole chain from count) (Contains-append_right before (gone ++ behind) n (Contains-append_left gone behind n there))

left_stays : (chain : List ℕ) (from count n : ℕ) → IsApart chain → Contains (left_of chain from count) n → Contains (take count (drop from chain)) n → ⊥
left_stays chain from count n once left goes =
    let before = take from chain in
    let gone = take count (drop from chain) in
    let behind = drop count (drop from chain) in
    let apart : IsApart (before ++ (gone ++ behind)) = subst IsApart (sym (whole chain from count)) once in
    ⊎_elim
    (λ (a : Contains before n). apart_both before (gone ++ behind) apart n a (Contains-append_left gone behind n goes))
    (λ (b : Contains behind n). apart_both gone behind (apart_rest before (gone ++ behind) apart) n goes b)
    (Contains-append_cases before behind n left)

row_unlinked : (short : ℕ) (table : Table) (layout : Layout) (row from count : ℕ) → IsSound short table layout → IsUsedRow table row
    → 1 ≤ count → from + count ≤ length (layout.chain row)
    → IsRowChanged table (laid table (unlink_cells table.header (parts_of (chain_of table (layout.chain row)) from count))) layout (unlinked layout row from count)
    row (key_of table row) (map table.slot (left_of (layout.chain row) from count))
row_unlinked short table layout row from count sound used some within =
    let chain = layout.chain row in
    let other = laid table (unlink_cells table.header (parts_of (chain_of table chain) from count)) in
    let after = unlinked layout row from count in
    let same : (n : ℕ) → (Contains (take count (drop from chain)) n → ⊥) → seen (other.slot n) ≡ seen (table.slot n) = λ n stays.
    ap seen (part_kept short table layout row from count n sound used some within stays) in
    let key_is : (n : ℕ) (k : List ℕ) → Contains chain n → (table.slot n).key ≡ k → k ≡ key_of table row = λ n k there is.
    sym is ∙ (chained short table layout row n sound there).1.its_key in
    record {
      here = ap (λ (l : List ℕ). map seen (map other.slot l)) (after_here layout row from count)
          ∙ places_alike table other (left_of chain from count) (λ n there. same n (left_stays chain from count n (chain_once short table layout row sound) there));
      away = λ q e. ap (λ (l : List ℕ). map seen (map other.slot l)) (after_away layout row from count q e)
          ∙ places_alike table other (layout.chain q) (λ n there. same n (λ goes. e (one_chain short table layout q row n sound there (gone_there chain from count n goes))));
      its_key = λ k has. let n = key_place table (left_of chain from count) k has in key_is n.0 k (left_there chain from count n.0 n.1) n.2;
      was_key = λ k has. let n = key_place table chain k has in key_is n.0 k n.1 n.2;
      alone = λ q e has. let u = has_used short table layout q (key_of table row) sound has in e (sound.keys q row u.0 used u.1);
    }
  where
    after_here : (layout : Layout) (row from count : ℕ) → (unlinked layout row from count).chain row ≡ left_of (layout.chain row) from count
    after_here layout row from count = rw (eq-eqb row row refl) refl

    after_away : (layout : Layout) (row from count q : ℕ) → q ≢ row → (unlinked layout row from count).chain q ≡ layout.chain q
    after_away layout row from count q e = rw (ne_eqb q row e) refl

pub unlink_changes : (short : ℕ) (tables : Tables) (layouts : Layouts) (t row from count : ℕ) → AreSound short tables layouts → IsUsedRow (tables t) row
    → 1 ≤ count → from + count ≤ length ((layouts t).chain row)
    → IsChanged (chains_of tables layouts) (chains_of (with_unlink tables layouts t row from count) (layouts_unlinked layouts t row from count)) t row (key_of (tables t) row)
    (map (tables t).slot (left_of ((layouts t).chain row) from count))
unlink_changes short tables layouts t row from count sound used some within =
    one_changed tables layouts t (laid (tables t) (unlink_cells (tables t).header (parts_of (chain_of (tables t) ((layouts t).chain row)) from count))) (unlinked (layouts t) row from count)
    row (key_of (tables t) row) (map (tables t).slot (left_of ((layouts t).chain row) from count))
    (row_unlinked short (tables t) (layouts t) row from count (sound t) used some within)

pub unlink_stays_sound : (short : ℕ) (tables : Tables) (layouts : Layouts) (t row from count : ℕ) → AreSound short tables layouts → IsUsedRow (tables t) row
    → 1 ≤ count → from + count ≤ length ((layouts t).chain row) → AreSound short (with_unlink tables layouts t row from count) (layouts_unlinked layouts t row from count)
unlink_stays_sound short tables layouts t row from count sound used some within =
    sound_with short tables layouts t (laid (tables t) (unlink_cells (tables t).header (parts_of (chain_of (tables t) ((layouts t).chain row)) from count))) (unlinked (layouts t) row from count)
    sound (part_unlinked short (tables t) (layouts t) row from count (sound t) used some within)
