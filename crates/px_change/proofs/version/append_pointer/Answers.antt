use Rattle.std.proofs.Common.{true, sym}
use Rattle.px_recs.proofs.Texts.{length-pointer}
use Rattle.px_change.specs.Version.{pointer_cell}
use Rattle.px_change.proofs.Versions.{cell_appended}
use Rattle.px_change.proofs.version.append_pointer.Goals as goal

pub returns-clause-ok : goal.returns-clause-ok
returns-clause-ok c =
    cell_appended c.write_pointer.result (pointer_cell c.args.table c.args.row c.args.head) c.args.out.now.items c.append_cell_head.new.out.items c.write_pointer.new.out.items _ _
    c.code_of_cell-what.ensures (sym (length-pointer (record { used = true; head = c.args.head }))) c.in_ok-append_cell_head.ensures.ok c.write_pointer.ensures.ok
