use Rattle.std.proofs.Common.{length, ap, arith}
use Rattle.std.proofs.lemmas.List.{length-append}
use Rattle.px_recs.specs.Text.{header_text}
use Rattle.px_recs.proofs.Texts.{header_size, length-header}
use Rattle.px_recs.proofs.header.read_header.Goals as goal

pub returns-then-left-ne0-clause-none : goal.returns-then-left-ne0-clause-none
returns-then-left-ne0-clause-none c = λ header at.
    c.if-left-ne0.true (omega (
      arith,
      header_size _ header at,
      ap length c.new-fields.ensures,
      ap length c.in_ok-header.ensures.taken,
      length-append (header_text c.in_ok-header.header) c.take_header.new.fields,
      length-header c.in_ok-header.header,
      c.left.ensures,
    ))
