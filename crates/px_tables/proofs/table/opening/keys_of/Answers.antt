use Rattle.std.proofs.Common.{◌+◌, arith}
use Rattle.px_chain.specs.Sound.{IsUsedRow}
use Rattle.px_tables.specs.Held.{table_at}
use Rattle.px_tables.proofs.Opened.{head_slot, keys_all, keys_none, row_added}
use Rattle.px_tables.proofs.table.opening.keys_of.Goals as goal

pub loop-before-init : goal.loop-before-init
loop-before-init c = keys_none (table_at c.args.header c.args.pointers.now c.args.slots.now) c.new-keys.result c.new-keys.ensures

pub add_row-requires : goal.add_row-requires
add_row-requires c = λ used.
    let sound = c.requires.sound in
    let table = table_at c.args.header c.args.pointers.now c.args.slots.now in
    let row = c.loop-before.before + 1 in
    let within = c.loop-before-test.true in
    let len = c.requires.slots in
    let its : IsUsedRow table row = ((omega arith, omega (arith, within)), used) in
    let head = head_slot sound.0 table sound.1 row sound.2 its in
    omega (arith, head.1, len)

pub loop-before-preserved : goal.loop-before-preserved
loop-before-preserved c =
    let sound = c.requires.sound in
    row_added sound.0 (table_at c.args.header c.args.pointers.now c.args.slots.now) sound.1 sound.2 c.loop-before.before c.loop-before.keys c.add_row.new.keys
    c.loop-before.invariant c.loop-before-test.true c.in_ok-add_row.ensures.named c.in_ok-add_row.ensures.others

pub returns : goal.returns
returns c =
    keys_all (table_at c.args.header c.args.pointers.now c.args.slots.now) c.loop-before.before c.loop-before.keys c.loop-before-test.false c.loop-before.invariant
