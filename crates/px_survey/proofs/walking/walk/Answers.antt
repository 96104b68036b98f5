use Rattle.std.proofs.Common.{ℕ, ◌-◌, true, set, sym, subst, arith}
use Rattle.px_survey.specs.Walked.{Comes}
use Rattle.px_survey.proofs.Walked.{comes_on, fails_marked}
use Rattle.px_survey.proofs.walking.walk.Goals as goal

pub returns-then-mark-clause-fails : goal.returns-then-mark-clause-fails
returns-then-mark-clause-fails g c = λ e.
    fails_marked (g.L.Links.is_on c.args.links.now) (g.L.Links.next c.args.links.now) c.args.from c.loop-at.at c.args.marks.now c.loop-at.marks
    c.loop-at.invariant c.loop-at-test.true c.if-mark.true

pub loop-at-preserved : goal.loop-at-preserved
loop-at-preserved g c =
    let on = c.in-Some.ensures.some.0 in
    subst (λ (n : ℕ). Comes (g.L.Links.is_on c.args.links.now) (g.L.Links.next c.args.links.now) c.args.from n c.args.marks.now (set c.loop-at.marks (c.loop-at.at - 1) true))
    (sym c.in-Some.ensures.some.1)
    (comes_on (g.L.Links.is_on c.args.links.now) (g.L.Links.next c.args.links.now) c.args.from c.loop-at.at c.args.marks.now c.loop-at.marks c.loop-at.invariant
    (omega arith) (let within = c.requires c.loop-at.at on in omega (arith, within)) on)
