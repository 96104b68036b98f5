use Rattle.std.proofs.Common.{arith}
use Rattle.px_site.specs.Names.{IsPlain}
use Rattle.px_site.proofs.Names.{plain_decimal, utf8_decimal}
use Rattle.px_site.proofs.name.number_of.Goals as goal

pub returns-then-not-is_plain-clause-absent : goal.returns-then-not-is_plain-clause-absent
returns-then-not-is_plain-clause-absent c = λ n small is.
    let plain : IsPlain c.args.digits.now = rw is (plain_decimal n (omega arith)) in
    absurd (cc (c.is_plain.ensures.1 plain, c.if-not-is_plain.true))

pub returns-in-Err-clause-absent : goal.returns-in-Err-clause-absent
returns-in-Err-clause-absent c = λ n small is. c.in-Err.ensures.cases.0 (utf8_decimal _ n (omega arith) is)
