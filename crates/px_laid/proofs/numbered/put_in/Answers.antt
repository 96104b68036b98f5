use Rattle.std.proofs.Common.{◌≡◌, ℕ, cond, ◌&&◌, ◌==◌, List, Some, ap, ◌∙◌}
use Rattle.std.proofs.lemmas.Result.{on_ok_weaker}
use Rattle.px_laid.specs.Numbered.{bytes_at, bytes_in}
use Rattle.px_laid.proofs.Putting.{put_in_one}
use Rattle.px_laid.proofs.numbered.put_in.Goals as goal

pub returns : goal.returns
returns c =
    let tables = c.reach_table.new.tables.items in
    let cell = c.args.cell.now in
    let old = c.index_mut.result.now in
    let new = c.put.new.self in
    let bytes = c.as_slice.result.now in
    on_ok_weaker c.put.result (λ (put : (n : ℕ) → bytes_at new n ≡ cond (n == cell.number) (Some bytes) (bytes_at old n)) t n.
    let here = (t == cell.table) && (n == cell.number) in
    put_in_one tables cell.table cell.number old new bytes c.in_ok-reach_table.ensures.reached c.index_mut.ensures.value put t n
    ∙ ap (λ (b : List ℕ). cond here (Some b) (bytes_in tables t n)) c.as_slice.ensures
    ∙ ap (cond here (Some cell.bytes)) (c.in_ok-reach_table.ensures.same t n))
    c.put.ensures
