-- One cell after the other is written.
use Rattle.std.proofs.Common.{◌≡◌, ℕ, ◌+◌, ◌<◌, suc, List, ◌∷◌, ◌++◌, length, take, drop, get_or, Result, Ok, sym, ap, subst, ◌∙◌}
use Rattle.std.proofs.Math.Seq.{split_at}
use Rattle.std.proofs.lemmas.List.Sums.{fold_more}
use Rattle.px_site.specs.declared.error.SiteError.{SiteError}
use Rattle.px_site.specs.State.{State, Moment, Changes, EachMoment}
use Rattle.px_site.proofs.Moments.{change_moments, then_moments}
use Rattle.px_cells.specs.declared.cell.Cell.{Cell}
use Rattle.px_apply.specs.Writes.{file_of, write_of, cell_written, cells_written, StopsAt}
use Rattle.px_apply.specs.Moments.{cell_begun, IsWithin}
use Rattle.px_apply.proofs.Laid.{now_after}

-- a list around one of its cells
around : (cells : List Cell) (i : ℕ) (cell : Cell) → i < length cells → cell ≡ get_or cells i cell → cells ≡ take i cells ++ cell ∷ drop (suc i) cells
around cells i cell below is = split_at cells i cell below ∙ ap (λ (c : Cell). take i cells ++ c ∷ drop (suc i) cells) (sym is)

-- what was so far, and what the next cell's write does
pub record Next {T : Type 0} (short : ℕ) (cells : List Cell) (i : ℕ) (cell : Cell) (old now new : State) (result : Result T SiteError) : Type 0 where
  pub below : i < length cells
  pub is : cell ≡ get_or cells i cell
  pub written : now ≡ cells_written short old (take i cells)
  pub moves : Changes (file_of cell) (write_of short cell) now new result

module _ {short : ℕ} {cells : List Cell} {i : ℕ} {cell : Cell} {old now new : State} {T : Type 0} where
  pub one_more_written : {x : T} → Next short cells i cell old now new (Ok x) → new ≡ cells_written short old (take (i + 1) cells)
  one_more_written next =
      next.moves.ok
      ∙ ap (λ (s : State). cell_written short s cell) next.written
      ∙ ap (cell_written short (cells_written short old (take i cells))) next.is
      ∙ sym (fold_more (cell_written short) old cells i cell next.below)

  pub within_this : {r : Result T SiteError} → Next short cells i cell old now new r → EachMoment (IsWithin short cells old.now) old now → EachMoment (IsWithin short cells old.now) old new
  within_this next so_far = then_moments so_far (change_moments next.moves (record {
    done = take i cells;
    cell = cell;
    rest = drop (suc i) cells;
    in_order = around cells i cell next.below next.is;
    begun = ap (λ (s : State). cell_begun short s.now cell) next.written ∙ ap (λ (m : Moment). cell_begun short m cell) (now_after short old (take i cells));
  }))

  pub stops_here : {r : Result T SiteError} → Next short cells i cell old now new r → StopsAt short cells old new r
  stops_here {r} next = record {
    done = take i cells;
    cell = cell;
    rest = drop (suc i) cells;
    in_order = around cells i cell next.below next.is;
    moves = subst (λ (s : State). Changes (file_of cell) (write_of short cell) s new r) next.written next.moves;
  }
