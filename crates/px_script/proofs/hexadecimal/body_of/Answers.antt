use Rattle.std.proofs.Common.{sym, ◌∙◌, ap, Some}
use Rattle.px_script.proofs.HexWords.{body_of-dash, body_of-other}
use Rattle.px_script.proofs.hexadecimal.body_of.Goals as goal

pub returns-then-eq : goal.returns-then-eq
returns-then-eq c =
    body_of-dash c.args.word.now (rw c.as_slice.ensures at (sym c.if-eq.ensures)) ∙ ap Some (sym c.new.ensures)

pub returns-else-eq : goal.returns-else-eq
returns-else-eq c =
    rw (body_of-other c.args.word.now (rw c.as_slice.ensures at (sym c.if-eq.ensures))) c.bytes_of.ensures
