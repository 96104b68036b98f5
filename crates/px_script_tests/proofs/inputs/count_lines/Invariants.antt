use Rattle.std.proofs.Common.{◌≡◌, [], true}
use Rattle.px_script_tests.proofs.inputs.count_lines.Given as goal

-- the source is at its end where a read answered the end
abbrev pub invariant-lines : goal.invariant-lines
invariant-lines l = l.lines.ended ≡ true → l.source.left ≡ []
