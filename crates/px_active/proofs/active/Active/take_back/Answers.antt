use Rattle.std.proofs.Common.{refl}
use Rattle.px_active.specs.declared.active.Active.{Active}
use Rattle.px_active.proofs.Writing.{last_noted, taken_back}
use Rattle.px_active.proofs.active.Active.take_back.Goals as goal

pub returns-clause-takes_back : goal.returns-clause-takes_back
returns-clause-takes_back c = λ before number at noted.
    let new : Active = record c.args.self.now { xacts = c.unwrite.new.self; locks = c.give_back.new.locks } in
    taken_back before c.args.self.now new c.args.session number at c.args.free noted
    (c.unwrite.ensures.takes_back before.xacts at noted.xacts)
    (c.give_back.ensures at (last_noted before c.args.self.now c.args.session number at c.args.free _ noted c.requires))
    refl refl
