use Rattle.std.proofs.Common.{◌≡◌, map}
use Rattle.px_chain.specs.Links.{chain_of}
use Rattle.px_tables.specs.Held.{table_of}
use Rattle.px_tables.proofs.Running.{all_numbers, number_of, one_number}
use Rattle.px_tables.proofs.table.Table.slots_of.Goals as goal

pub loop-number-preserved : goal.loop-number-preserved
loop-number-preserved c =
    one_number c.loop-number.slots.items c.push.new.self.items (map number_of c.into_iter-number-iterator.result)
    (record { number = c.in-Some.number; slot = c.in-Some.field-0-1.now }) c.loop-number.number-iterator c.next.new.self
    c.in-Some.ensures.steps c.in_ok-push.ensures.items c.loop-number.invariant

pub returns : goal.returns
returns c = λ layout sound.
    let table = table_of c.args.self.now.cells in
    let gives = c.into_iter-number-iterator.ensures.into_iter_gives in
    let walked = c.versions-number-items.ensures layout sound in
    let same : c.into_iter-number-iterator.result ≡ chain_of table (layout.chain c.args.row) = cc in
    all_numbers table (layout.chain c.args.row) c.loop-number.slots.items c.into_iter-number-iterator.result c.loop-number.number-iterator
    c.in-None.ensures.steps.0 c.loop-number.invariant same
