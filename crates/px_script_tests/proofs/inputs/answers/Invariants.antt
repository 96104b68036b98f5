use Rattle.std.proofs.Common.{◌≡◌, [], true}
use Rattle.px_script_tests.proofs.inputs.answers.Given as goal

-- the source is at its end where a read answered the end
abbrev pub invariant-answers : goal.invariant-answers
invariant-answers l = l.lines.ended ≡ true → l.source.left ≡ []
