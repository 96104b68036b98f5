use Rattle.std.proofs.Common.{length, refl, ap, arith, inr}
use Rattle.std.proofs.lemmas.List.{take_all, drop_all}
use Rattle.px_script.proofs.lines.Lines.last.Goals as goal

pub returns-clause-found : goal.returns-clause-found
returns-clause-found c =
    let held = c.args.self.now.held in
    let all = take_all c.args.size held (omega (arith, c.requires.whole)) in
    let none = drop_all c.args.size held (omega (arith, c.requires.whole)) in
    rw (c.hand_out.ensures, all, none)
    (c.requires.fits, inr (refl, refl, (λ empty. omega (arith, c.requires.whole, ap length empty)), c.requires.over))
