use Rattle.std.proofs.Common.{◌≡◌, Some, sym, ap, ◌∙◌, arith}
use Rattle.std.proofs.lemmas.Option.{same_Some}
use Rattle.px_locks.proofs.Holders.{released-own, released-other}
use Rattle.px_locks.proofs.locks.Locks.release.Goals as goal

pub returns-in_default : goal.returns-in_default
returns-in_default c = released-other c.args.number (c.args.table, c.args.key.now) c.args.self.now
    (λ own. c.in_default.not-Some c.args.number (c.holder.ensures ∙ own))

pub returns-then-holder-number : goal.returns-then-holder-number
returns-then-holder-number c =
    released-own c.args.number (c.args.table, c.args.key.now) c.args.self.now c.free.new.self
    (sym c.holder.ensures ∙ c.in-Some.is ∙ ap Some (omega (arith, c.if-holder-number.true))) c.free.ensures

pub returns-else-holder-number : goal.returns-else-holder-number
returns-else-holder-number c = released-other c.args.number (c.args.table, c.args.key.now) c.args.self.now (λ own.
    let same : c.in-Some.holder ≡ c.args.number = same_Some c.in-Some.holder c.args.number (sym c.in-Some.is ∙ c.holder.ensures ∙ own) in
    absurd (omega (arith, c.if-holder-number.false, same)))
