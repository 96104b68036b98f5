use Rattle.std.proofs.Common.{◌≡◌, true, sym, ◌∙◌, ap}
use Rattle.px_script.specs.Progress.{Progress, ahead}
use Rattle.px_script.proofs.Taken.{in_order, in_order_ok, moves-ahead}
use Rattle.px_script.proofs.lines.Lines.next.Goals as goal

pub returns-in-Some-clause-in_order : goal.returns-in-Some-clause-in_order
returns-in-Some-clause-in_order g c = λ tells.
    let left = g.S.Source.left c.args.source.now in
    let now = c.waiting.new.self in
    let at_end = λ (over : now.ended ≡ true). c.requires tells (sym c.in-Some.ensures.ended ∙ over) in
    in_order (ahead c.args.self.now left) left now c.in-Some.next at_end c.in-Some.ensures.found.0
    (moves-ahead c.args.self.now.held now.held left now c.in-Some.next at_end c.in-Some.ensures.found.1)

pub returns-in-None-clause-in_order : goal.returns-in-None-clause-in_order
returns-in-None-clause-in_order g c = λ tells.
    let left = g.S.Source.left c.args.source.now in
    let left_now = g.S.Source.left c.read_on.new.source in
    let before = ap (λ (progress : Progress). ahead progress left) c.in-None.ensures.found.1 in
    rw (← before)
    (in_order_ok (ahead c.waiting.new.self left) left_now c.read_on.new.self c.read_on.result (c.read_on.ensures.at_end tells) c.read_on.ensures.cause (c.read_on.ensures.moves tells))
