-- What cells leave of the contents, one over the other.
use Rattle.std.proofs.Common.{◌≡◌, ℕ, max, Bool, true, false, cond, ◌||◌, List, [], ◌∷◌, length, get_or, refl, sym, ap, ◌∙◌, arith}
use Rattle.std.proofs.lemmas.Bool.{or_parts}
use Rattle.std.proofs.lemmas.List.{ext_get_or}
use Rattle.px_site.specs.declared.name.FileName.{FileName}
use Rattle.px_site.specs.State.{State}
use Rattle.px_site.proofs.Images.{length-overlay}
use Rattle.px_cells.specs.declared.cell.Cell.{Cell}
use Rattle.px_recs.specs.Place.{place_of}
use Rattle.px_apply.specs.Writes.{cell_written, cells_written}
use Rattle.px_apply.specs.Contents.{Contents, with_cell, with_cells, is_in, is_file_of, is_byte_of, is_byte_of_some, end_of, reach}
use Rattle.px_apply.specs.Moments.{cells_begun}
use Rattle.px_apply.proofs.Bytes.{laid_here, laid_elsewhere, cell_inside, cell_outside}

-- ---- a site after writes

pub contents_after : (short : ℕ) (s : State) (cells : List Cell) → (cells_written short s cells).content ≡ with_cells short s.content cells
contents_after short s [] = refl
contents_after short s (cell ∷ cells) = contents_after short (cell_written short s cell) cells

pub now_after : (short : ℕ) (s : State) (cells : List Cell) → (cells_written short s cells).now ≡ cells_begun short s.now cells
now_after short s [] = refl
now_after short s (cell ∷ cells) = now_after short (cell_written short s cell) cells

pub told_after : (short : ℕ) (s : State) (cells : List Cell) → (cells_written short s cells).now.told ≡ s.now.told
told_after short s [] = refl
told_after short s (cell ∷ cells) = told_after short (cell_written short s cell) cells

-- ---- bytes

pub elsewhere : (short : ℕ) (cells : List Cell) (contents : Contents) (file : FileName) (at : ℕ) → is_byte_of_some short cells file at ≡ false
    → get_or (with_cells short contents cells file) at 0 ≡ get_or (contents file) at 0
elsewhere short [] contents file at none = refl
elsewhere short (cell ∷ cells) contents file at none =
    let two = or_parts (is_byte_of short file at cell) (is_byte_of_some short cells file at) none in
    elsewhere short cells (with_cell short contents cell) file at two.1 ∙ cell_outside short contents cell file at two.0

pub decided : (short : ℕ) (cells : List Cell) (a b : Contents) (file : FileName) → ((at : ℕ) → is_byte_of_some short cells file at ≡ false → get_or (a file) at 0 ≡ get_or (b file) at 0)
    → (at : ℕ) → get_or (with_cells short a cells file) at 0 ≡ get_or (with_cells short b cells file) at 0
decided short [] a b file same at = same at refl
decided short (cell ∷ cells) a b file same at = decided short cells (with_cell short a cell) (with_cell short b cell) file (λ i none. by_cell i none (is_byte_of short file i cell) refl) at
  where
    by_cell : (i : ℕ) → is_byte_of_some short cells file i ≡ false → (c : Bool) → is_byte_of short file i cell ≡ c
        → get_or (with_cell short a cell file) i 0 ≡ get_or (with_cell short b cell file) i 0
    by_cell i none true inside = cell_inside short a cell file i inside ∙ sym (cell_inside short b cell file i inside)
    by_cell i none false outside =
        cell_outside short a cell file i outside
        ∙ same i (ap (λ (c : Bool). c || is_byte_of_some short cells file i) outside ∙ none)
        ∙ sym (cell_outside short b cell file i outside)

-- ---- lengths

pub reach_here : (short : ℕ) (cell : Cell) (cells : List Cell) (file : FileName) → is_in file cell ≡ true → reach short (cell ∷ cells) file ≡ max (end_of short cell) (reach short cells file)
reach_here short cell cells file here = ap (λ (b : Bool). cond b (max (end_of short cell) (reach short cells file)) (reach short cells file)) here

pub reach_elsewhere : (short : ℕ) (cell : Cell) (cells : List Cell) (file : FileName) → is_in file cell ≡ false → reach short (cell ∷ cells) file ≡ reach short cells file
reach_elsewhere short cell cells file other = ap (λ (b : Bool). cond b (max (end_of short cell) (reach short cells file)) (reach short cells file)) other

pub size : (short : ℕ) (cells : List Cell) (contents : Contents) (file : FileName) → length (with_cells short contents cells file) ≡ max (reach short cells file) (length (contents file))
size short [] contents file = omega arith
size short (cell ∷ cells) contents file = by_file (size short cells (with_cell short contents cell) file) (is_in file cell) refl
  where
    by_file : length (with_cells short contents (cell ∷ cells) file) ≡ max (reach short cells file) (length (with_cell short contents cell file)) → (b : Bool) → is_in file cell ≡ b
        → length (with_cells short contents (cell ∷ cells) file) ≡ max (reach short (cell ∷ cells) file) (length (contents file))
    by_file rest true here =
        let grown : length (with_cell short contents cell file) ≡ max (length (contents file)) (end_of short cell) =
        ap length (laid_here short contents cell file here) ∙ length-overlay (contents file) (place_of short cell.what cell.number) cell.bytes in
        omega (arith, rest, grown, reach_here short cell cells file here)
    by_file rest false other = omega (arith, rest, ap length (laid_elsewhere short contents cell file other), reach_elsewhere short cell cells file other)

-- ---- files

pub unless : (short : ℕ) (cells : List Cell) (contents : Contents) (file : FileName) → is_file_of cells file ≡ false → with_cells short contents cells file ≡ contents file
unless short [] contents file none = refl
unless short (cell ∷ cells) contents file none =
    let two = or_parts (is_in file cell) (is_file_of cells file) none in
    unless short cells (with_cell short contents cell) file two.1 ∙ laid_elsewhere short contents cell file two.0

-- ---- once more

again_in : (short : ℕ) (cells : List Cell) (contents : Contents) (file : FileName) → with_cells short (with_cells short contents cells) cells file ≡ with_cells short contents cells file
again_in short cells contents file =
    ext_get_or 0 (with_cells short (with_cells short contents cells) cells file) (with_cells short contents cells file)
    (omega (arith, size short cells (with_cells short contents cells) file, size short cells contents file))
    (λ at below. decided short cells (with_cells short contents cells) contents file (λ i none. elsewhere short cells contents file i none) at)

pub again : (short : ℕ) (cells : List Cell) (contents : Contents) → with_cells short (with_cells short contents cells) cells ≡ with_cells short contents cells
again short cells contents = λ i. λ file. again_in short cells contents file i
