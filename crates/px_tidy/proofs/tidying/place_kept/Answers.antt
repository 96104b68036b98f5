use Rattle.std.proofs.Common.{◌≡◌, None, sym, ◌∙◌}
use Rattle.px_chain.specs.Links.{chain_of}
use Rattle.px_tables.specs.Held.{table_of}
use Rattle.px_tidy.specs.Numbers.{done_of}
use Rattle.px_tidy.proofs.Walks.{found_now, kept_of_row, never_found}
use Rattle.px_tidy.proofs.tidying.place_kept.Goals as goal

pub returns-then-is_done : goal.returns-then-is_done
returns-then-is_done c = λ layout sound.
    let table = table_of c.args.table.now.cells in
    let gives = c.into_iter-slot-iterator.ensures.into_iter_gives in
    let walked = c.versions-slot-items.ensures layout sound in
    let same : c.into_iter-slot-iterator.result ≡ chain_of table (layout.chain c.args.row) = cc in
    kept_of_row (done_of c.args.done.now) table layout c.args.row c.into_iter-slot-iterator.result c.if_row.result
    (c.if_row.ensures ∙ found_now (done_of c.args.done.now) c.loop-slot.place (record { number = c.in-Some.field-0-0; slot = c.in-Some.slot.now })
    c.loop-slot.slot-iterator c.next.new.self c.into_iter-slot-iterator.result c.in-Some.ensures.steps (sym c.is_done.ensures ∙ c.if-is_done.true) c.loop-slot.invariant.0)
    same

pub returns : goal.returns
returns c = λ layout sound.
    let table = table_of c.args.table.now.cells in
    let gives = c.into_iter-slot-iterator.ensures.into_iter_gives in
    let walked = c.versions-slot-items.ensures layout sound in
    let same : c.into_iter-slot-iterator.result ≡ chain_of table (layout.chain c.args.row) = cc in
    kept_of_row (done_of c.args.done.now) table layout c.args.row c.into_iter-slot-iterator.result None
    (never_found (done_of c.args.done.now) c.loop-slot.place c.loop-slot.slot-iterator c.into_iter-slot-iterator.result c.in-None.ensures.steps.0 c.loop-slot.invariant.0)
    same
