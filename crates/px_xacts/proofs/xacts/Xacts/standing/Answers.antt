use Rattle.std.proofs.Common.{◌≡◌, ◌-◌, ap, ◌∙◌, arith}
use Rattle.std.proofs.lemmas.Grind.{common_steps}
use Rattle.px_xacts.specs.Transactions.{Transactions, open_of, standing_from}
use Rattle.px_xacts.proofs.xacts.Xacts.standing.Goals as goal

pub returns-then-xn-self-clause-is_open : goal.returns-then-xn-self-clause-is_open
returns-then-xn-self-clause-is_open c = λ session is_open.
    let at = ap (λ (all : Transactions). open_of all session) c.self.view_is ∙ is_open.is in
    absurd (omega (arith, (c.self.invariant.sound.are_open.each session is_open.transaction at).from_one, c.if-xn-self.true, is_open.stored, ap (λ (all : Transactions). all.base) c.self.view_is))

pub returns-clause-is_open : goal.returns-clause-is_open
returns-clause-is_open c = λ session is_open.
    let at = ap (λ (all : Transactions). open_of all session) c.self.view_is ∙ is_open.is in
    let is : c.unwrap_or.result ≡ standing_from 0 c.self.inside.outcomes.items (c.args.xn - c.self.inside.base) = grind (arith, common_steps) in
    is ∙ ap (standing_from 0 c.self.inside.outcomes.items) (omega (arith, is_open.stored, ap (λ (all : Transactions). all.base) c.self.view_is))
    ∙ (c.self.invariant.sound.are_open.each session is_open.transaction at).open_yet
