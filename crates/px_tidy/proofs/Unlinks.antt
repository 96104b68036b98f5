-- What an unlink leaves of the chains, to the last link.
use Rattle.std.proofs.Common.{◌≡◌, ◌≢◌, ℕ, ◌≤◌, ◌+◌, List, [], ◌∷◌, map, length, refl, sym, ap, subst, ◌∙◌, ⊎_elim}
use Rattle.std.proofs.lemmas.Bool.{cases_eq, eq-eqb, ne_eqb}
use Rattle.px_cells.specs.declared.slot.Slot.{Slot}
use Rattle.px_chain.specs.Table.{Table}
use Rattle.px_chain.specs.Sound.{IsSound, IsUsedRow, Layout, Walks, head_of, key_of, next_slot}
use Rattle.px_shown.specs.Changes.{layouts_unlinked, with_unlink}
use Rattle.px_shown.specs.Tables.{AreSound, Layouts, Tables, slots_of_row}
use Rattle.px_shown.proofs.Changes.{unlink_changes, unlink_stays_sound}
use Rattle.px_shown.proofs.Keys.{HasKey, seen, has_alike, has_or_none, none_has}
use Rattle.px_shown.proofs.Rows.{has_used, used_has, used_or_not}

-- ---- used rows are those with versions

pub used_some : (short : ℕ) (table : Table) (layout : Layout) (row : ℕ) → IsSound short table layout → IsUsedRow table row → slots_of_row table layout row ≢ []
used_some short table layout row sound used none =
    none_has (slots_of_row table layout row) (key_of table row) none (used_has short table layout row sound used)

pub some_used : (short : ℕ) (table : Table) (layout : Layout) (row : ℕ) → IsSound short table layout → slots_of_row table layout row ≢ [] → IsUsedRow table row
some_used short table layout row sound some = ⊎_elim
    (λ (none : slots_of_row table layout row ≡ []). absurd (some none))
    (λ (has : (key : List ℕ) × HasKey (slots_of_row table layout row) key). (has_used short table layout row has.0 sound has.1).0)
    (has_or_none (slots_of_row table layout row))

pub unused_none : (short : ℕ) (table : Table) (layout : Layout) (row : ℕ) → IsSound short table layout → (IsUsedRow table row → ⊥) → slots_of_row table layout row ≡ []
unused_none short table layout row sound unused = ap (map table.slot) (sound.no_chain row unused)

-- ---- a chain and what it holds say all links

slot_exact : (a b : Slot) → seen a ≡ seen b → a.next ≡ b.next → a ≡ b
slot_exact a b alike next = ap (λ (s : Slot). record s { next = a.next }) alike ∙ ap (λ (n : ℕ). record b { next = n }) next

both : (a b : Slot) (others rest : List Slot) → a ≡ b → others ≡ rest → a ∷ others ≡ b ∷ rest
both a b others rest head tail = cc

heads : (a b : Slot) (others rest : List Slot) → a ∷ others ≡ b ∷ rest → (a ≡ b) × (others ≡ rest)
heads a b others rest same = (cc, cc)

slots_exact : (a b : ℕ → Slot) (first other : ℕ) (chain : List ℕ) → Walks (λ n. (a n).next) first chain 0 → Walks (λ n. (b n).next) other chain 0
    → map seen (map a chain) ≡ map seen (map b chain) → map a chain ≡ map b chain
slots_exact a b first other [] v w alike = refl
slots_exact a b first other (n ∷ []) v w alike =
    both (a n) (b n) [] [] (slot_exact (a n) (b n) (heads (seen (a n)) (seen (b n)) [] [] alike).0 (v.1 ∙ sym w.1)) refl
slots_exact a b first other (n ∷ (m ∷ chain)) v w alike =
    let h = heads (seen (a n)) (seen (b n)) (map seen (map a (m ∷ chain))) (map seen (map b (m ∷ chain))) alike in
    both (a n) (b n) (map a (m ∷ chain)) (map b (m ∷ chain)) (slot_exact (a n) (b n) h.0 (v.1.0 ∙ sym w.1.0))
    (slots_exact a b (a n).next (b n).next (m ∷ chain) v.1 w.1 h.1)

-- two tables that have the same chain, which holds the same but for links, have the same versions
pub versions_exact : (short : ℕ) (table other : Table) (layout after : Layout) (row : ℕ) → IsSound short table layout → IsSound short other after
    → after.chain row ≡ layout.chain row → map seen (slots_of_row other after row) ≡ map seen (slots_of_row table layout row)
    → slots_of_row other after row ≡ slots_of_row table layout row
versions_exact short table other layout after row sound stays chain alike = ⊎_elim
    (λ (used : IsUsedRow table row).
    let has = has_alike (slots_of_row table layout row) (slots_of_row other after row) (key_of table row) (sym alike) (used_has short table layout row sound used) in
    let its = has_used short other after row (key_of table row) stays has in
    let walk : Walks (next_slot other) (head_of other row) (layout.chain row) 0 =
    subst (λ (l : List ℕ). Walks (next_slot other) (head_of other row) l 0) chain (stays.chains row its.0).walk in
    ap (map other.slot) chain
    ∙ slots_exact other.slot table.slot (head_of other row) (head_of table row) (layout.chain row) walk (sound.chains row used).walk
    (ap (λ (l : List ℕ). map seen (map other.slot l)) (sym chain) ∙ alike))
    (λ (unused : IsUsedRow table row → ⊥).
    ap (map other.slot) (chain ∙ sound.no_chain row unused) ∙ sym (unused_none short table layout row sound unused))
    (used_or_not table row)

-- a row of a single version: it leads to no other
pub alone_exact : (short : ℕ) (table : Table) (layout : Layout) (row : ℕ) (slot : Slot) → IsSound short table layout
    → map seen (slots_of_row table layout row) ≡ slot ∷ [] → slot.next ≡ 0 → slots_of_row table layout row ≡ slot ∷ []
alone_exact short table layout row slot sound alike last =
    let used = some_used short table layout row sound (λ none. let no : ⊥ = (let e = sym alike ∙ ap (map seen) none in cc) in no) in
    one (layout.chain row) (head_of table row) (sound.chains row used).walk alike
  where
    one : (chain : List ℕ) (first : ℕ) → Walks (next_slot table) first chain 0 → map seen (map table.slot chain) ≡ slot ∷ [] → map table.slot chain ≡ slot ∷ []
    one [] first walk is = let no : ⊥ = cc in absurd no
    one (n ∷ []) first walk is =
        both (table.slot n) slot [] [] (slot_exact (table.slot n) slot ((heads (seen (table.slot n)) slot [] [] is).0 ∙ ap (λ (k : ℕ). record slot { next = k }) last) (walk.1 ∙ sym last)) refl
    one (n ∷ (m ∷ chain)) first walk is =
        let more : map seen (map table.slot (m ∷ chain)) ≡ [] = (heads (seen (table.slot n)) slot (map seen (map table.slot (m ∷ chain))) [] is).1 in
        let no : ⊥ = cc in absurd no

-- ---- an unlink

chain_away : (layouts : Layouts) (t row from count n q : ℕ) → (n ≡ t → q ≡ row → ⊥) → (layouts_unlinked layouts t row from count n).chain q ≡ (layouts n).chain q
chain_away layouts t row from count n q away = ⊎_elim
    (λ (e : n ≡ t). rw (eq-eqb n t e) (rw (ne_eqb q row (away e)) (ap (λ (m : ℕ). (layouts m).chain q) (sym e))))
    (λ (e : n ≢ t). rw (ne_eqb n t e) refl)
    (cases_eq n t)

-- each other row keeps its versions
pub unlink_away : (short : ℕ) (tables : Tables) (layouts : Layouts) (t row from count n q : ℕ) → AreSound short tables layouts → IsUsedRow (tables t) row
    → 1 ≤ count → from + count ≤ length ((layouts t).chain row) → (n ≡ t → q ≡ row → ⊥)
    → slots_of_row (with_unlink tables layouts t row from count n) (layouts_unlinked layouts t row from count n) q ≡ slots_of_row (tables n) (layouts n) q
unlink_away short tables layouts t row from count n q sound used some within away =
    versions_exact short (tables n) (with_unlink tables layouts t row from count n) (layouts n) (layouts_unlinked layouts t row from count n) q (sound n)
    (unlink_stays_sound short tables layouts t row from count sound used some within n)
    (chain_away layouts t row from count n q away)
    ((unlink_changes short tables layouts t row from count sound used some within).away n q away)
