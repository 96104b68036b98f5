use Rattle.std.proofs.Common.{ap, inl, inr, arith}
use Rattle.px_restart.specs.declared.restart.Restart.{Restart}
use Rattle.px_restart.proofs.Restarts.{one_restart}
use Rattle.px_restart.proofs.choice.pick.Goals as goal

pub returns-then-second-first-clause-found : goal.returns-then-second-first-clause-found
returns-then-second-first-clause-found c =
    let at_a = c.in-Some-Some.ensures.found in
    let at_b = c.in-Some-Some.ensures'.found in
    inr (at_b, λ s at. omega (arith, ap (λ (r : Restart). r.serial) (one_restart c.args.a.now s c.in-Some-Some.first at at_a)))

pub returns-else-second-first-clause-found : goal.returns-else-second-first-clause-found
returns-else-second-first-clause-found c =
    let at_a = c.in-Some-Some.ensures.found in
    let at_b = c.in-Some-Some.ensures'.found in
    inl (at_a, λ s at. omega (arith, ap (λ (r : Restart). r.serial) (one_restart c.args.b.now s c.in-Some-Some.second at at_b)))
