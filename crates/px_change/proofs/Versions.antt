-- A cell that is appended behind its head.
use Rattle.std.proofs.Common.{◌≡◌, ℕ, List, ◌++◌, length, Result, OnOk, Ok, Err, ap, ◌∙◌, append_assoc}
use Rattle.px_cells.specs.declared.cell.Cell.{Cell}
use Rattle.px_change.specs.Text.{cell_code, cell_head, cell_text}

pub cell_appended : {T E : Type 0} (result : Result T E) (cell : Cell) (old headed new : List ℕ) (code size : ℕ) → code ≡ cell_code cell.what → size ≡ length cell.bytes
    → headed ≡ old ++ cell_head code cell.table cell.number size → OnOk result (new ≡ headed ++ cell.bytes) → OnOk result (new ≡ old ++ cell_text cell)
unfolding cell_text
cell_appended (Ok done) cell old headed new code size coded sized head behind =
    behind
    ∙ ap (λ (l : List ℕ). l ++ cell.bytes) head
    ∙ append_assoc old (cell_head code cell.table cell.number size) cell.bytes
    ∙ ap (λ (n : ℕ). old ++ (cell_head n cell.table cell.number size ++ cell.bytes)) coded
    ∙ ap (λ (n : ℕ). old ++ (cell_head (cell_code cell.what) cell.table cell.number n ++ cell.bytes)) sized
cell_appended (Err error) cell old headed new code size coded sized head behind = tt
