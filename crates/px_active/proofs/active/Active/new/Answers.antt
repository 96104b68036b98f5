use Rattle.std.proofs.Common.{refl}
use Rattle.px_active.specs.declared.active.Active.{Active}
use Rattle.px_active.proofs.Calls.{fresh_is}
use Rattle.px_active.proofs.active.Active.new.Goals as goal

pub returns-clause-is : goal.returns-clause-is
returns-clause-is c = λ tables short opening.
    let made : Active = record { xacts = c.in_ok-new.field-0; locks = c.in_ok-new-2.field-0; tickets = c.in_ok-new-3.field-0; commits = c.args.commits } in
    fresh_is tables short opening c.args.commits c.args.base made c.in_ok-new.ensures c.in_ok-new-2.ensures c.in_ok-new-3.ensures refl
