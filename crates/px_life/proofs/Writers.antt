-- Who wrote the versions of a store: after a step those who had, and who puts a version.
use Rattle.std.proofs.Common.{◌≡◌, ◌≢◌, ℕ, List, [], ◌∷◌, map, refl, sym, ap, subst, ◌∙◌, ⊎_elim}
use Rattle.std.specs.Prelude.{All, drop, take}
use Rattle.std.proofs.lemmas.Bool.{cases_eq, eq-eqb, ne_eqb}
use Rattle.std.proofs.lemmas.List.Elements.{All-append, All-cons, All-drop, All-head, All-map, All-nil, All-tail, All-take}
use Rattle.px_cells.specs.declared.slot.Slot.{Slot}
use Rattle.px_chain.specs.Sound.{IsUsedRow}
use Rattle.px_chain.specs.Table.{Table, laid}
use Rattle.px_history.specs.Steps.{IsStep, Step, after_step, layout_linked}
use Rattle.px_history.specs.Store.{Store, versions_of}
use Rattle.px_history.proofs.Agreeing.{link_of}
use Rattle.px_shown.specs.Changes.{left_of, layouts_unlinked, with_link, with_unlink}
use Rattle.px_shown.specs.Moves.{move_cells, with_move}
use Rattle.px_shown.specs.Parts.{Parts}
use Rattle.px_shown.specs.Tables.{AreSound, with_layout}
use Rattle.px_shown.proofs.Changes.{link_changes, unlink_changes}
use Rattle.px_shown.proofs.Fronts.{all_alike, writers, writers_seen}
use Rattle.px_shown.proofs.Keys.{seen}
use Rattle.px_shown.proofs.Moving.{rows_after}
use Rattle.px_shown.proofs.Rows.{chains_of, used_or_not}
use Rattle.px_shown.proofs.Told.{Chains, IsChanged, here_or_away}

-- it is so of each who wrote a version of a used row
abbrev pub AreWriters : (P : ℕ → Type 0) → Store → Type 0
AreWriters P store = (t row : ℕ) → IsUsedRow (store.tables t) row → All (λ slot. P slot.xn) (versions_of store t row)

-- and of each who puts one
abbrev pub IsWriter : (P : ℕ → Type 0) → Step → Type 0
IsWriter P (Step.put t header slot) = P slot.xn
IsWriter P (Step.commit xn number) = Unit {0}
IsWriter P (Step.rollback xn) = Unit {0}
IsWriter P (Step.unlink t row from count) = Unit {0}
IsWriter P (Step.move t number log place) = Unit {0}

-- a row that isn't used has no versions
in_each_row : (P : ℕ → Type 0) (short : ℕ) (store : Store) (t row : ℕ) → AreSound short store.tables store.layouts → AreWriters P store
    → All (λ (s : Slot). P s.xn) (versions_of store t row)
in_each_row P short store t row sound are = ⊎_elim
    (λ (used : IsUsedRow (store.tables t) row). are t row used)
    (λ (unused : IsUsedRow (store.tables t) row → ⊥).
    subst (λ (chain : List ℕ). All (λ (s : Slot). P s.xn) (map (store.tables t).slot chain)) (sym ((sound t).no_chain row unused)) (All-nil (λ (s : Slot). P s.xn)))
    (used_or_not (store.tables t) row)

all_seen : (P : ℕ → Type 0) (a b : List Slot) → map seen b ≡ map seen a → All (λ (s : Slot). P s.xn) a → All (λ (s : Slot). P s.xn) b
all_seen P a b alike = all_alike P a b (sym (writers_seen b) ∙ ap writers alike ∙ writers_seen a)

-- where one chain is another one
changed : (P : ℕ → Type 0) (old new : Chains) (t row : ℕ) (key : List ℕ) (slots : List Slot) → IsChanged old new t row key slots
    → All (λ (s : Slot). P s.xn) slots → ((n q : ℕ) → All (λ (s : Slot). P s.xn) (old n q)) → (n q : ℕ) → All (λ (s : Slot). P s.xn) (new n q)
changed P old new t row key slots is here were n q = ⊎_elim
    (λ (at : (n ≡ t) × (q ≡ row)).
    subst (λ (m : ℕ). All (λ (s : Slot). P s.xn) (new m q)) (sym at.0)
    (subst (λ (p : ℕ). All (λ (s : Slot). P s.xn) (new t p)) (sym at.1) (all_seen P slots (new t row) is.here here)))
    (λ (away : n ≡ t → q ≡ row → ⊥). all_seen P (old n q) (new n q) (is.away n q away) (were n q))
    (here_or_away n q t row)

-- ---- what is left of a chain

all_mapped : (P : Slot → Type 0) (slot : ℕ → Slot) (chain : List ℕ) → All P (map slot chain) → All (λ n. P (slot n)) chain
all_mapped P slot [] all = All-nil (λ (n : ℕ). P (slot n))
all_mapped P slot (n ∷ chain) all =
    All-cons (λ (m : ℕ). P (slot m)) n chain (All-head P (slot n) (map slot chain) all) (all_mapped P slot chain (All-tail P (slot n) (map slot chain) all))

all_left : (P : Slot → Type 0) (slot : ℕ → Slot) (chain : List ℕ) (from count : ℕ) → All P (map slot chain) → All P (map slot (left_of chain from count))
all_left P slot chain from count all =
    let Q : ℕ → Type 0 = λ n. P (slot n) in
    let each = all_mapped P slot chain all in
    All-map P slot (left_of chain from count)
    (All-append Q (take from chain) (drop count (drop from chain)) (All-take Q from chain each) (All-drop Q count (drop from chain) (All-drop Q from chain each)))

-- ---- a moved part

writer_moved : (table : Table) (number log place n : ℕ) → ((laid table (move_cells table number log place)).slot n).xn ≡ (table.slot n).xn
writer_moved table number log place n = ⊎_elim
    (λ (here : n ≡ number). rw (eq-eqb n number here) (ap (λ (m : ℕ). (table.slot m).xn) (sym here)))
    (λ (away : n ≢ number). rw (ne_eqb n number away) refl)
    (cases_eq n number)

writer_after : (store : Store) (t number log place m n : ℕ) → ((with_move store.tables t number log place m).slot n).xn ≡ ((store.tables m).slot n).xn
writer_after store t number log place m n = ⊎_elim
    (λ (here : m ≡ t). rw (eq-eqb m t here) (writer_moved (store.tables t) number log place n ∙ ap (λ (k : ℕ). ((store.tables k).slot n).xn) (sym here)))
    (λ (away : m ≢ t). rw (ne_eqb m t away) refl)
    (cases_eq m t)

same_writers : (P : ℕ → Type 0) (slot other : ℕ → Slot) (chain : List ℕ) → ((n : ℕ) → (other n).xn ≡ (slot n).xn)
    → All (λ (s : Slot). P s.xn) (map slot chain) → All (λ (s : Slot). P s.xn) (map other chain)
same_writers P slot other chain same all =
    All-map (λ (s : Slot). P s.xn) other chain (λ k d within. subst P (sym (same _)) (all_mapped (λ (s : Slot). P s.xn) slot chain all k d within))

-- ---- a step

pub step_leaves_writers : (P : ℕ → Type 0) (parts : Parts) (short : ℕ) (store : Store) (step : Step) → AreSound short store.tables store.layouts
    → IsStep parts short store step → IsWriter P step → AreWriters P store → AreWriters P (after_step store step)
step_leaves_writers P parts short store (Step.put t header slot) sound may by are n q used =
    let after = layout_linked (store.tables t) (store.layouts t) slot in
    changed P (chains_of store.tables store.layouts) (chains_of (with_link store.tables t header slot) (with_layout store.layouts t after)) t slot.row slot.key
    (slot ∷ versions_of store t slot.row)
    (link_changes short store.tables store.layouts t header slot after sound may.stored (link_of short (store.tables t) (store.layouts t) header slot (sound t) may.link))
    (All-cons (λ (s : Slot). P s.xn) slot (versions_of store t slot.row) by (in_each_row P short store t slot.row sound are))
    (λ m p. in_each_row P short store m p sound are) n q
step_leaves_writers P parts short store (Step.commit xn number) sound may by are n q used = are n q used
step_leaves_writers P parts short store (Step.rollback xn) sound may by are n q used = are n q used
step_leaves_writers P parts short store (Step.unlink t row from count) sound may by are n q used =
    changed P (chains_of store.tables store.layouts) (chains_of (with_unlink store.tables store.layouts t row from count) (layouts_unlinked store.layouts t row from count)) t row _
    (map (store.tables t).slot (left_of ((store.layouts t).chain row) from count))
    (unlink_changes short store.tables store.layouts t row from count sound may.used may.some may.within)
    (all_left (λ (s : Slot). P s.xn) (store.tables t).slot ((store.layouts t).chain row) from count (in_each_row P short store t row sound are))
    (λ m p. in_each_row P short store m p sound are) n q
step_leaves_writers P parts short store (Step.move t number log place) sound may by are n q used =
    same_writers P (store.tables n).slot (with_move store.tables t number log place n).slot ((store.layouts n).chain q) (writer_after store t number log place n)
    (are n q ((rows_after store.tables t number log place n q).0 used))
