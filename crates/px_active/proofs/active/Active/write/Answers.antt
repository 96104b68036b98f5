use Rattle.std.proofs.Common.{refl, ap, ◌∙◌}
use Rattle.px_active.specs.declared.active.Active.{Active}
use Rattle.px_active.specs.Active.{new_key, place_of}
use Rattle.px_active.proofs.Writing.{given_back, one_written, same_active, write_leaves}
use Rattle.px_xacts.specs.Transactions.{Transactions, with_write}
use Rattle.px_active.proofs.active.Active.write.Goals as goal

pub returns-in-Ok-clause-noted : goal.returns-in-Ok-clause-noted
returns-in-Ok-clause-noted c = record {
  xacts = c.in-Ok.ensures.ok ∙ ap (with_write c.args.self.now.xacts c.args.write.now.session) c.in_ok-at.ensures;
  holders = c.in_ok-free.ensures.taken;
  may_take = c.requires.may_take;
  free_is = c.in_ok-free.ensures.free;
  tickets = refl;
  commits = refl;
}

pub returns-in-Ok-clause-active : goal.returns-in-Ok-clause-active
returns-in-Ok-clause-active c = λ m call xact write kept is is_open own writes key answered.
    let new : Active = record c.args.self.now { xacts = c.add_write.new.self; locks = c.take.new.locks } in
    write_leaves m c.args.self.now new c.args.write.now.session c.args.write.now.number call xact write (place_of c.args.write.now) kept is is_open own writes key answered (record {
      xacts = c.in-Ok.ensures.ok ∙ ap (with_write c.args.self.now.xacts c.args.write.now.session) c.in_ok-at.ensures;
      holders = c.in_ok-free.ensures.taken;
      may_take = c.requires.may_take;
      free_is = refl;
      tickets = refl;
      commits = refl;
    })

pub returns-in-Ok-clause-may_take_back : goal.returns-in-Ok-clause-may_take_back
returns-in-Ok-clause-may_take_back c =
    one_written c.args.self.now.xacts c.add_write.new.self c.args.write.now.session _ _ c.requires.room c.in-Ok.ensures.ok

pub returns-in-Err-clause-err : goal.returns-in-Err-clause-err
returns-in-Err-clause-err c =
    let new : Active = record c.args.self.now { xacts = c.add_write.new.self; locks = c.give_up.new.locks } in
    same_active new c.args.self.now c.in-Err.ensures.err
    (given_back (new_key c.args.write.now) c.args.write.now.number c.in_ok-free.free c.args.self.now.locks c.take.new.locks c.give_up.new.locks c.requires.may_take
    c.in_ok-free.ensures.free c.in_ok-free.ensures.taken c.give_up.ensures)
    refl refl
