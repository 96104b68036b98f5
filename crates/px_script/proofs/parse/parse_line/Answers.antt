use Rattle.std.proofs.Common.{sym, ◌∙◌, ap, arith}
use Rattle.px_script.specs.Grammar.{line_of, line_of_words}
use Rattle.px_script.proofs.Shorts.{line_of-short}
use Rattle.px_script.proofs.parse.parse_line.Goals as goal

pub returns-then-bytes-gt-LONGEST_LINE : goal.returns-then-bytes-gt-LONGEST_LINE
unfolding line_of
returns-then-bytes-gt-LONGEST_LINE c = grind arith

pub returns-in-Ok : goal.returns-in-Ok
returns-in-Ok c =
    sym (line_of-short c.args.bytes.now (omega arith) ∙ ap line_of_words (sym c.of.ensures) ∙ c.in-Ok.ensures)

pub returns-in-Err-Outside : goal.returns-in-Err-Outside
returns-in-Err-Outside c =
    sym (line_of-short c.args.bytes.now (omega arith) ∙ ap line_of_words (sym c.of.ensures) ∙ (rw c.in-Err-Outside.field-0-is at c.in-Err-Outside.ensures))
