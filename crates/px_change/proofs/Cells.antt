-- Bytes begin with one cell at most, and with so many cells in one way.
use Rattle.std.proofs.Common.{◌≡◌, ℕ, ◌+◌, ◌<◌, ◌≤◌, List, [], ◌∷◌, ◌++◌, length, get_or, take, drop, refl, sym, ap, ◌∙◌, append_assoc, arith}
use Rattle.std.specs.Int.{w16, w32, to_be_bytes}
use Rattle.std.specs.List.{flat_map, AllByRecursion}
use Rattle.std.proofs.lemmas.List.{take_at, drop_at, take_more, take-take, length-append, append-nil, flat_map_more}
use Rattle.std.proofs.lemmas.List.Concat.{flat_map-append}
use Rattle.std.proofs.lemmas.List.Folds.{length-flat_map-take}
use Rattle.px_bytes.proofs.Numbers.{one_u16, one_u32}
use Rattle.px_cells.specs.declared.cell.Cell.{Cell}
use Rattle.px_cells.specs.declared.cell.CellKind.{CellKind}
use Rattle.px_cells.specs.declared.cell.CellKind.TheVariants.{Header, Slot, Pointer}
use Rattle.px_change.specs.Text.{cell_code, cell_head, cell_text}
use Rattle.px_change.specs.Reading.{Fits, IsCellHead, IsCellThen, AreCells}
use Rattle.px_change.specs.declared.limits.TheConstants.{CELL_HEAD_SIZE}

pub first_of : (a b : ℕ) (x y : List ℕ) → a ∷ x ≡ b ∷ y → a ≡ b
first_of a b x y e = cc

one_split : (a b x y : List ℕ) → length a ≡ length b → a ++ x ≡ b ++ y → (a ≡ b) × (x ≡ y)
one_split a b x y same e = (
  sym (take_at a x (length a) refl) ∙ ap (λ (l : List ℕ). take (length a) l) e ∙ take_at b y (length a) (sym same),
  sym (drop_at a x (length a) refl) ∙ ap (λ (l : List ℕ). drop (length a) l) e ∙ drop_at b y (length a) (sym same),
)

-- ---- one cell

pub one_what : (a b : CellKind) → cell_code a ≡ cell_code b → a ≡ b
one_what Header Header e = refl
one_what Header Slot e = absurd (omega (arith, e))
one_what Header Pointer e = absurd (omega (arith, e))
one_what Slot Header e = absurd (omega (arith, e))
one_what Slot Slot e = refl
one_what Slot Pointer e = absurd (omega (arith, e))
one_what Pointer Header e = absurd (omega (arith, e))
one_what Pointer Slot e = absurd (omega (arith, e))
one_what Pointer Pointer e = refl

pub length-cell_text : (cell : Cell) (rest : List ℕ) → length (cell_text cell ++ rest) ≡ CELL_HEAD_SIZE + length cell.bytes + length rest
unfolding cell_text cell_head
length-cell_text cell rest = omega (arith, length-append cell.bytes rest)

pub record SameHead (what table number size : ℕ) (behind : List ℕ) (cell : Cell) (rest : List ℕ) : Type 0 where
  pub what_is : what ≡ cell_code cell.what
  pub table_is : table ≡ cell.table
  pub number_is : number ≡ cell.number
  pub size_is : size ≡ length cell.bytes
  pub behind_is : behind ≡ cell.bytes ++ rest

-- the head that was read is that of the cell that is there
pub same_head : (bytes : List ℕ) (what table number size : ℕ) (behind : List ℕ) (cell : Cell) (rest : List ℕ) → IsCellHead bytes what table number size behind → IsCellThen bytes cell rest → SameHead what table number size behind cell rest
unfolding cell_text cell_head
same_head bytes what table number size behind cell rest at there =
    let both : what ∷ table ∷ to_be_bytes w32 number ++ (to_be_bytes w16 size ++ behind) ≡ cell_code cell.what ∷ cell.table ∷ to_be_bytes w32 cell.number ++ (to_be_bytes w16 (length cell.bytes) ++ (cell.bytes ++ rest)) = sym at.front ∙ there.front in
    let tables : table ∷ to_be_bytes w32 number ++ (to_be_bytes w16 size ++ behind) ≡ cell.table ∷ to_be_bytes w32 cell.number ++ (to_be_bytes w16 (length cell.bytes) ++ (cell.bytes ++ rest)) = ap (λ (l : List ℕ). drop 1 l) both in
    let numbers : to_be_bytes w32 number ++ (to_be_bytes w16 size ++ behind) ≡ to_be_bytes w32 cell.number ++ (to_be_bytes w16 (length cell.bytes) ++ (cell.bytes ++ rest)) = ap (λ (l : List ℕ). drop 2 l) both in
    let one = one_u32 number cell.number _ _ at.number_fits there.fits.number numbers in
    let two = one_u16 size (length cell.bytes) _ _ at.size_fits there.fits.size one.1 in
    record {
      what_is = first_of what (cell_code cell.what) _ _ both;
      table_is = first_of table cell.table _ _ tables;
      number_is = one.0;
      size_is = two.0;
      behind_is = two.1;
    }

pub head_of : (cell : Cell) (rest : List ℕ) → Fits cell → IsCellHead (cell_text cell ++ rest) (cell_code cell.what) cell.table cell.number (length cell.bytes) (cell.bytes ++ rest)
unfolding cell_text cell_head
head_of cell rest fits = record { front = refl; number_fits = fits.number; size_fits = fits.size }

-- the cell whose head and bytes were read
pub cell_there : (bytes : List ℕ) (code table number size : ℕ) (behind rest : List ℕ) (cell : Cell) → IsCellHead bytes code table number size behind → cell_code cell.what ≡ code → cell.table ≡ table → cell.number ≡ number → behind ≡ cell.bytes ++ rest → length cell.bytes ≡ size → IsCellThen bytes cell rest
unfolding cell_text
cell_there bytes code table number size behind rest cell at what tables numbers parts many =
    let heads : cell_head code table number size ≡ cell_head (cell_code cell.what) cell.table cell.number (length cell.bytes) = cc in
    record {
      fits = record { number = omega (arith, at.number_fits); size = omega (arith, at.size_fits) };
      front = at.front ∙ ap (λ (l : List ℕ). cell_head code table number size ++ l) parts ∙ ap (λ (l : List ℕ). l ++ (cell.bytes ++ rest)) heads ∙ sym (append_assoc (cell_head (cell_code cell.what) cell.table cell.number (length cell.bytes)) cell.bytes rest);
    }

cell_of : (what : CellKind) (table number : ℕ) (bytes : List ℕ) → Cell
cell_of what table number bytes = record { what = what; table = table; number = number; bytes = bytes }

same_parts : (c d : Cell) → c.what ≡ d.what → c.table ≡ d.table → c.number ≡ d.number → c.bytes ≡ d.bytes → cell_of c.what c.table c.number c.bytes ≡ cell_of d.what d.table d.number d.bytes
same_parts c d what table number bytes = cc

same_cell : (c d : Cell) → c.what ≡ d.what → c.table ≡ d.table → c.number ≡ d.number → c.bytes ≡ d.bytes → c ≡ d
unfolding cell_of
same_cell c d what table number bytes = same_parts c d what table number bytes

pub one_cell : (c d : Cell) (x y : List ℕ) → Fits c → Fits d → cell_text c ++ x ≡ cell_text d ++ y → (c ≡ d) × (x ≡ y)
one_cell c d x y fits fits' e =
    let there : IsCellThen (cell_text c ++ x) d y = record { fits = fits'; front = e } in
    let same = same_head (cell_text c ++ x) (cell_code c.what) c.table c.number (length c.bytes) (c.bytes ++ x) d y (head_of c x fits) there in
    let parts = one_split c.bytes d.bytes x y same.size_is same.behind_is in
    (same_cell c d (one_what c.what d.what same.what_is) same.table_is same.number_is parts.0, parts.1)

-- ---- cells in a row

same_cells : (c d : Cell) (cs ds : List Cell) → c ≡ d → cs ≡ ds → c ∷ cs ≡ d ∷ ds
same_cells c d cs ds one rest = cc

pub one_cells : (cs ds : List Cell) (x y : List ℕ) → AllByRecursion Fits cs → AllByRecursion Fits ds → length cs ≡ length ds → flat_map cell_text cs ++ x ≡ flat_map cell_text ds ++ y → (cs ≡ ds) × (x ≡ y)
one_cells [] [] x y fit fit' many e = (refl, e)
one_cells [] (d ∷ ds) x y fit fit' many e = absurd (omega (arith, many))
one_cells (c ∷ cs) [] x y fit fit' many e = absurd (omega (arith, many))
one_cells (c ∷ cs) (d ∷ ds) x y fit fit' many e =
    let one = one_cell c d _ _ fit.0 fit'.0 (sym (append_assoc (cell_text c) (flat_map cell_text cs) x) ∙ e ∙ append_assoc (cell_text d) (flat_map cell_text ds) y) in
    let rest = one_cells cs ds x y fit.1 fit'.1 (omega (arith, many)) one.1 in
    (same_cells c d cs ds one.0 rest.0, rest.1)

-- the bytes begin with a cell
pub record Next (bytes : List ℕ) : Type 0 where
  pub cell : Cell
  pub rest : List ℕ
  pub there : IsCellThen bytes cell rest

-- where more cells are there than were read, the next one follows
pub next_cell : (cs ds : List Cell) (rest : List ℕ) → AllByRecursion Fits cs → AllByRecursion Fits ds → length cs < length ds → flat_map cell_text cs ++ rest ≡ flat_map cell_text ds → Next rest
next_cell [] [] rest fit fit' less e = absurd (omega (arith, less))
next_cell [] (d ∷ ds) rest fit fit' less e = record { cell = d; rest = flat_map cell_text ds; there = record { fits = fit'.0; front = e } }
next_cell (c ∷ cs) [] rest fit fit' less e = absurd (omega (arith, less))
next_cell (c ∷ cs) (d ∷ ds) rest fit fit' less e =
    let one = one_cell c d _ _ fit.0 fit'.0 (sym (append_assoc (cell_text c) (flat_map cell_text cs) rest) ∙ e) in
    next_cell cs ds rest fit.1 fit'.1 (omega (arith, less)) one.1

-- ---- cells one after the other

-- the cells before this one, and it
cells_more : (cells : List Cell) (i : ℕ) (cell : Cell) → i < length cells → cell ≡ get_or cells i cell → flat_map cell_text (take (i + 1) cells) ≡ flat_map cell_text (take i cells) ++ (cell_text cell ++ [])
cells_more cells i cell below is =
    ap (λ (l : List Cell). flat_map cell_text l) (take_more cells i cell below)
    ∙ flat_map-append cell_text (take i cells) (get_or cells i cell ∷ [])
    ∙ ap (λ (x : Cell). flat_map cell_text (take i cells) ++ (cell_text x ++ [])) (sym is)

pub size_more : (cells : List Cell) (i : ℕ) (cell : Cell) → i < length cells → cell ≡ get_or cells i cell
    → length (flat_map cell_text (take (i + 1) cells)) ≡ length (flat_map cell_text (take i cells)) + (CELL_HEAD_SIZE + length cell.bytes)
size_more cells i cell below is =
    omega (arith, ap length (cells_more cells i cell below is), length-append (flat_map cell_text (take i cells)) (cell_text cell ++ []), length-cell_text cell [])

pub size_within : (cells : List Cell) (i : ℕ) (cell : Cell) → i < length cells → cell ≡ get_or cells i cell
    → length (flat_map cell_text (take i cells)) + (CELL_HEAD_SIZE + length cell.bytes) ≤ length (flat_map cell_text cells)
size_within cells i cell below is =
    let one : length (cell_text (get_or cells i cell)) ≡ length (cell_text cell) = ap (λ (x : Cell). length (cell_text x)) (sym is) in
    omega (arith, one, length-flat_map-take cell_text cells i cell below, length-append (cell_text cell) [], length-cell_text cell [])

-- what a part that was appended leaves in front, where the next one fails
pub front_stays : (old front mid new : List ℕ) → mid ≡ old ++ front → take (length mid) new ≡ mid → take (length old) new ≡ old
front_stays old front mid new is kept =
    let long : length old ≤ length mid = omega (arith, ap length is, length-append old front) in
    sym (take-take (length old) (length mid) new long) ∙ ap (λ (l : List ℕ). take (length old) l) (kept ∙ is) ∙ take_at old front (length old) refl

-- ---- cells that are taken one by one

-- so many cells were taken, and the rest stands behind them
pub record Taken (bytes : List ℕ) (count : ℕ) (cells : List Cell) (rest : List ℕ) : Type 0 where
  pub fit : AllByRecursion Fits cells
  pub many : length cells ≡ count
  pub text : bytes ≡ flat_map cell_text cells ++ rest

pub taken_none : (bytes : List ℕ) → Taken bytes 0 [] bytes
taken_none bytes = record { fit = tt; many = refl; text = refl }

fit_more : (cells : List Cell) (cell : Cell) → AllByRecursion Fits cells → Fits cell → AllByRecursion Fits (cells ++ cell ∷ [])
fit_more [] cell fit fits = (fits, tt)
fit_more (first ∷ cells) cell fit fits = (fit.0, fit_more cells cell fit.1 fits)

pub taken_more : (bytes : List ℕ) (count : ℕ) (cells : List Cell) (rest : List ℕ) (cell : Cell) (behind : List ℕ) → Taken bytes count cells rest → IsCellThen rest cell behind → Taken bytes (count + 1) (cells ++ cell ∷ []) behind
taken_more bytes count cells rest cell behind taken there = record {
  fit = fit_more cells cell taken.fit there.fits;
  many = omega (arith, taken.many, length-append cells (cell ∷ []));
  text =
      taken.text
      ∙ ap (λ (l : List ℕ). flat_map cell_text cells ++ l) there.front
      ∙ sym (append_assoc (flat_map cell_text cells) (cell_text cell) behind)
      ∙ ap (λ (l : List ℕ). l ++ behind) (flat_map_more cell_text [] cells cell);
}

no_rest : (rest : List ℕ) → length rest ≡ 0 → rest ≡ []
no_rest [] none = refl
no_rest (b ∷ rest) none = absurd (omega (arith, none))

pub taken_all : (bytes : List ℕ) (count : ℕ) (cells : List Cell) (rest : List ℕ) → Taken bytes count cells rest → length rest ≡ 0 → AreCells bytes count cells
taken_all bytes count cells rest taken none = record {
  fit = taken.fit;
  many = taken.many;
  text = taken.text ∙ ap (λ (l : List ℕ). flat_map cell_text cells ++ l) (no_rest rest none) ∙ append-nil (flat_map cell_text cells);
}

-- where no cell follows, there aren't more
pub no_more : (bytes : List ℕ) (i count : ℕ) (cells : List Cell) (rest : List ℕ) → Taken bytes i cells rest → i < count → ((cell : Cell) (behind : List ℕ) → IsCellThen rest cell behind → ⊥) → (others : List Cell) → AreCells bytes count others → ⊥
no_more bytes i count cells rest taken less none others are =
    let next = next_cell cells others rest taken.fit are.fit (omega (arith, taken.many, are.many)) (sym taken.text ∙ are.text) in
    none next.cell next.rest next.there

-- where bytes follow, they aren't so many cells
pub more_follows : (bytes : List ℕ) (count : ℕ) (cells : List Cell) (rest : List ℕ) → Taken bytes count cells rest → (length rest ≡ 0 → ⊥) → (others : List Cell) → AreCells bytes count others → ⊥
more_follows bytes count cells rest taken some others are =
    let both : flat_map cell_text cells ++ rest ≡ flat_map cell_text others ++ [] = sym taken.text ∙ are.text ∙ sym (append-nil (flat_map cell_text others)) in
    let same = one_cells cells others rest [] taken.fit are.fit (taken.many ∙ sym are.many) both in
    some (ap length same.1)
