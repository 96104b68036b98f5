use Rattle.std.proofs.Common.{sym, ◌∙◌, arith}
use Rattle.std.proofs.lemmas.Fmt.{decimal_injective}
use Rattle.px_site.proofs.name.number_within.Goals as goal

pub returns-in_default-clause-absent : goal.returns-in_default-clause-absent
returns-in_default-clause-absent c = λ n low high is. absurd (omega (arith, decimal_injective c.in-Some.number n (omega arith) (omega arith) (sym c.in-Some.ensures.found ∙ is)))

pub returns-in_default-2-clause-absent : goal.returns-in_default-2-clause-absent
returns-in_default-2-clause-absent c = λ n low high is. absurd (omega (arith, decimal_injective c.in-Some.number n (omega arith) (omega arith) (sym c.in-Some.ensures.found ∙ is)))
