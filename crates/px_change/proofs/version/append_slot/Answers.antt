use Rattle.std.proofs.Common.{◌≡◌, ◌+◌, length, sym, arith}
use Rattle.px_recs.specs.Text.{slot_text}
use Rattle.px_recs.proofs.Slots.{form_lengths, slot_size}
use Rattle.px_change.specs.Version.{slot_cell}
use Rattle.px_change.proofs.Versions.{cell_appended}
use Rattle.px_change.proofs.version.append_slot.Goals as goal

pub returns-clause-ok : goal.returns-clause-ok
returns-clause-ok c =
    let lengths = form_lengths c.args.short c.args.slot.now c.requires.form in
    let short_to = lengths.short_to in
    let size : length (slot_text c.args.short c.args.slot.now) ≡ 100 + c.args.short = slot_size c.args.short c.args.slot.now lengths.key_to (omega (arith, short_to)) in
    cell_appended c.write_slot.result (slot_cell c.args.table c.args.short c.args.number c.args.slot.now) c.args.out.now.items c.append_cell_head.new.out.items c.write_slot.new.out.items _ _
    c.code_of_cell-what.ensures (sym size) c.in_ok-append_cell_head.ensures.ok c.write_slot.ensures.ok
