use Rattle.std.proofs.Common.{sym}
use Rattle.px_recs.proofs.Texts.{length-header}
use Rattle.px_change.specs.Version.{header_cell}
use Rattle.px_change.proofs.Versions.{cell_appended}
use Rattle.px_change.proofs.version.append_header.Goals as goal

pub returns-clause-ok : goal.returns-clause-ok
returns-clause-ok c =
    cell_appended c.write_header.result (header_cell c.args.table c.args.header.now) c.args.out.now.items c.append_cell_head.new.out.items c.write_header.new.out.items _ _
    c.code_of_cell-what.ensures (sym (length-header c.args.header.now)) c.in_ok-append_cell_head.ensures.ok c.write_header.ensures.ok
