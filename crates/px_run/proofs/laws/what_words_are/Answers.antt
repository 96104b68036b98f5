use Rattle.std.proofs.Common.{refl}
use Rattle.std.specs.Fmt.{digits}
use Rattle.px_script.specs.Words.{number_of}
use Rattle.px_run.specs.Command.{command_of, make_of}
use Rattle.px_run.proofs.laws.what_words_are.Goals as goal

pub returns-clause-run : goal.returns-clause-run
unfolding digits number_of command_of make_of
returns-clause-run c = refl

pub returns-clause-make : goal.returns-clause-make
unfolding digits number_of command_of make_of
returns-clause-make c = refl

pub returns-clause-nine : goal.returns-clause-nine
unfolding digits number_of command_of make_of
returns-clause-nine c = refl

pub returns-clause-zero : goal.returns-clause-zero
unfolding digits number_of command_of make_of
returns-clause-zero c = refl

pub returns-clause-none : goal.returns-clause-none
unfolding digits number_of command_of make_of
returns-clause-none c = refl
