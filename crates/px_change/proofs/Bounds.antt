-- What the grammar says of the numbers and sizes of a change.
use Rattle.std.proofs.Common.{◌≡◌, ℕ, ◌+◌, ◌*◌, ◌^◌, ◌<◌, ◌≤◌, true, ◌&&◌, eqb, leb, ltb, List, [], ◌∷◌, ◌++◌, length, refl, subst, arith}
use Rattle.std.specs.List.{flat_map, list_all, AllByRecursion}
use Rattle.std.proofs.lemmas.Bool.{and_parts, false≢true, eqb-true, ltb-true, leb-true}
use Rattle.px_cells.specs.Form.{is_short}
use Rattle.px_cells.specs.declared.cell.Cell.{Cell}
use Rattle.px_cells.specs.declared.cell.CellKind.{CellKind}
use Rattle.px_cells.specs.declared.cell.CellKind.TheVariants.{Header, Slot, Pointer}
use Rattle.px_change.specs.declared.change.Change.{Change}
use Rattle.px_change.specs.declared.change.ChangeKind.{ChangeKind}
use Rattle.px_change.specs.declared.change.ChangeKind.TheVariants.{Put, Commit, Rollback, Sweep, Move, Tidy}
use Rattle.px_change.specs.declared.limits.TheConstants.{LEAST_UNLINKING, MOST_CELLS}
use Rattle.px_change.specs.Text.{cell_code, cell_text}
use Rattle.px_change.specs.Grammar.{is_number, is_size, is_table, is_cell, is_what, is_version, is_slot_alone, is_unlinking, has_cells, has_commit, is_stored, rise, is_change}
use Rattle.px_change.specs.Reading.{Fits}
use Rattle.px_change.proofs.Cells.{one_what, length-cell_text}

-- ---- a cell

number_fits : (what : CellKind) (number : ℕ) → is_number what number ≡ true → number < 2 ^ 32
number_fits Header number ok = omega (arith, eqb-true number 0 ok)
number_fits Slot number ok = ltb-true number (2 ^ 32) (and_parts (leb 1 number) (ltb number (2 ^ 32)) ok).1
number_fits Pointer number ok = ltb-true number (2 ^ 32) (and_parts (leb 1 number) (ltb number (2 ^ 32)) ok).1

-- how many bytes a cell of the kind has
abbrev pub size_of : (short : ℕ) → CellKind → ℕ
size_of short Header = 16
size_of short Slot = 100 + short
size_of short Pointer = 8

sized : (short : ℕ) (what : CellKind) (size : ℕ) → is_size short what size ≡ true → size ≡ size_of short what
sized short Header size ok = eqb-true size 16 ok
sized short Slot size ok = eqb-true size (100 + short) (and_parts (is_short short) (eqb size (100 + short)) ok).1
sized short Pointer size ok = eqb-true size 8 ok

abbrev pub longest_cell : ℕ
longest_cell = 1124

size_small : (short : ℕ) (what : CellKind) (size : ℕ) → is_size short what size ≡ true → size ≤ longest_cell
size_small short Header size ok = omega (arith, eqb-true size 16 ok)
size_small short Slot size ok =
    let two = and_parts (is_short short) (eqb size (100 + short)) ok in
    let small : short ≤ 1024 = leb-true short 1024 (and_parts (leb 16 short) (leb short 1024) two.0).1 in
    omega (arith, small, eqb-true size (100 + short) two.1)
size_small short Pointer size ok = omega (arith, eqb-true size 8 ok)

pub record IsCell (short : ℕ) (cell : Cell) : Type 0 where
  pub number : cell.number < 2 ^ 32
  pub small : length cell.bytes ≤ longest_cell
  pub size : length cell.bytes ≡ size_of short cell.what

pub cell_parts : (short : ℕ) (cell : Cell) → is_cell short cell ≡ true → IsCell short cell
cell_parts short cell ok =
    let size = is_size short cell.what (length cell.bytes) in
    let two = and_parts (is_table cell.table) (is_number cell.what cell.number && size) ok in
    let three = and_parts (is_number cell.what cell.number) size two.1 in
    record {
      number = number_fits cell.what cell.number three.0;
      small = size_small short cell.what (length cell.bytes) three.1;
      size = sized short cell.what (length cell.bytes) three.1;
    }

-- ---- cells

pub all_fit : (short : ℕ) (cells : List Cell) → list_all (is_cell short) cells ≡ true → AllByRecursion Fits cells
all_fit short [] ok = tt
all_fit short (cell ∷ cells) ok =
    let two = and_parts (is_cell short cell) (list_all (is_cell short) cells) ok in
    let parts = cell_parts short cell two.0 in
    (record { number = parts.number; size = omega (arith, parts.small) }, all_fit short cells two.1)

text_bound : (short : ℕ) (cells : List Cell) → list_all (is_cell short) cells ≡ true → length (flat_map cell_text cells) ≤ 1132 * length cells
text_bound short [] ok = omega arith
text_bound short (cell ∷ cells) ok =
    let two = and_parts (is_cell short cell) (list_all (is_cell short) cells) ok in
    let parts = cell_parts short cell two.0 in
    omega (arith, text_bound short cells two.1, parts.small, length-cell_text cell (flat_map cell_text cells))

version_many : (cells : List Cell) → is_version cells ≡ true → length cells ≡ 3
version_many [] ok = absurd (false≢true ok)
version_many (a ∷ []) ok = absurd (false≢true ok)
version_many (a ∷ b ∷ []) ok = absurd (false≢true ok)
version_many (a ∷ b ∷ c ∷ []) ok = refl
version_many (a ∷ b ∷ c ∷ d ∷ cells) ok = absurd (false≢true ok)

slot_many : (cells : List Cell) → is_slot_alone cells ≡ true → length cells ≡ 1
slot_many [] ok = absurd (false≢true ok)
slot_many (a ∷ []) ok = refl
slot_many (a ∷ b ∷ cells) ok = absurd (false≢true ok)

unlinking_many : (cells : List Cell) → is_unlinking cells ≡ true → length cells ≤ MOST_CELLS
unlinking_many cells ok = leb-true (length cells) MOST_CELLS (and_parts (leb LEAST_UNLINKING (length cells)) (leb (length cells) MOST_CELLS) ok).1

pub few_cells : (kind : ChangeKind) (cells : List Cell) → has_cells kind cells ≡ true → length cells ≤ MOST_CELLS
few_cells Put cells ok = omega (arith, version_many cells ok)
few_cells Commit cells ok = omega (arith, eqb-true (length cells) 0 ok)
few_cells Rollback cells ok = omega (arith, eqb-true (length cells) 0 ok)
few_cells Sweep cells ok = unlinking_many cells ok
few_cells Move cells ok = omega (arith, slot_many cells ok)
few_cells Tidy cells ok = unlinking_many cells ok

-- ---- a change

commit_fits : (kind : ChangeKind) (commit : ℕ) → has_commit kind commit ≡ true → commit < 2 ^ 64
commit_fits Put commit ok = omega (arith, eqb-true commit 0 ok)
commit_fits Commit commit ok = ltb-true commit (2 ^ 64) (and_parts (leb 1 commit) (ltb commit (2 ^ 64)) ok).1
commit_fits Rollback commit ok = omega (arith, eqb-true commit 0 ok)
commit_fits Sweep commit ok = omega (arith, eqb-true commit 0 ok)
commit_fits Move commit ok = omega (arith, eqb-true commit 0 ok)
commit_fits Tidy commit ok = omega (arith, eqb-true commit 0 ok)

-- what the reader and the writer need of a change of the grammar
pub record InGrammar (short : ℕ) (change : Change) : Type 0 where
  pub xn : change.xn < 2 ^ 64
  pub commit : change.commit < 2 ^ 64
  pub few : length change.cells ≤ MOST_CELLS
  pub kinds : has_cells change.kind change.cells ≡ true
  pub all : list_all (is_cell short) change.cells ≡ true
  pub fit : AllByRecursion Fits change.cells
  pub bound : length (flat_map cell_text change.cells) ≤ 1132 * length change.cells

pub in_grammar : (short : ℕ) (change : Change) → is_change short change ≡ true → InGrammar short change
unfolding is_change
in_grammar short change ok =
    let all = list_all (is_cell short) change.cells in
    let kinds = has_cells change.kind change.cells in
    let numbered = and_parts (is_stored change.xn) (has_commit change.kind change.commit && (kinds && (all && rise change.cells))) ok in
    let ended = and_parts (has_commit change.kind change.commit) (kinds && (all && rise change.cells)) numbered.1 in
    let kind = and_parts kinds (all && rise change.cells) ended.1 in
    let each = and_parts all (rise change.cells) kind.1 in
    let below : change.xn < 2 ^ 62 = ltb-true change.xn (2 ^ 62) (and_parts (leb 1 change.xn) (ltb change.xn (2 ^ 62)) numbered.0).1 in
    record {
      xn = omega (arith, below);
      commit = commit_fits change.kind change.commit ended.0;
      few = few_cells change.kind change.cells kind.0;
      kinds = kind.0;
      all = each.0;
      fit = all_fit short change.cells each.0;
      bound = text_bound short change.cells each.0;
    }

-- ---- a Put's size

of_kind : (what : CellKind) (cell : Cell) → is_what what cell ≡ true → cell.what ≡ what
of_kind what cell ok = one_what cell.what what (eqb-true (cell_code cell.what) (cell_code what) ok)

size_at : (short : ℕ) (what : CellKind) (cell : Cell) → is_what what cell ≡ true → IsCell short cell → length cell.bytes ≡ size_of short what
size_at short what cell ok parts = subst (λ (w : CellKind). length cell.bytes ≡ size_of short w) (of_kind what cell ok) parts.size

pub version_size : (short : ℕ) (cells : List Cell) → is_version cells ≡ true → list_all (is_cell short) cells ≡ true → length (flat_map cell_text cells) ≡ 148 + short
version_size short [] ok all = absurd (false≢true ok)
version_size short (a ∷ []) ok all = absurd (false≢true ok)
version_size short (a ∷ b ∷ []) ok all = absurd (false≢true ok)
version_size short (a ∷ b ∷ c ∷ []) ok all =
    let first = and_parts (is_what Header a) (is_what Slot b && is_what Pointer c) ok in
    let second = and_parts (is_what Slot b) (is_what Pointer c) first.1 in
    let one = and_parts (is_cell short a) (list_all (is_cell short) (b ∷ c ∷ [])) all in
    let two = and_parts (is_cell short b) (list_all (is_cell short) (c ∷ [])) one.1 in
    let three = and_parts (is_cell short c) true two.1 in
    let header : length a.bytes ≡ 16 = size_at short Header a first.0 (cell_parts short a one.0) in
    let slot : length b.bytes ≡ 100 + short = size_at short Slot b second.0 (cell_parts short b two.0) in
    let pointer : length c.bytes ≡ 8 = size_at short Pointer c second.1 (cell_parts short c three.0) in
    omega (arith, header, slot, pointer, length-cell_text a (cell_text b ++ (cell_text c ++ [])), length-cell_text b (cell_text c ++ []), length-cell_text c [])
version_size short (a ∷ b ∷ c ∷ d ∷ cells) ok all = absurd (false≢true ok)
