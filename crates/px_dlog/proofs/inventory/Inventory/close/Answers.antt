use Rattle.std.proofs.Common.{◌≡◌, ◌++◌, List, [], ◌∷◌, sym, ap, subst, ◌∙◌}
use Rattle.px_dlog.specs.declared.inventory.ClosedLog.{ClosedLog}
use Rattle.px_dlog.specs.Inventory.{AreInOrder, Rise, closed_len, len_in}
use Rattle.px_dlog.proofs.Numbers.{closed_push, rise_push}
use Rattle.px_dlog.proofs.inventory.Inventory.close.Goals as goal

pub returns-in-Some-clause-len : goal.returns-in-Some-clause-len
returns-in-Some-clause-len c = λ n.
    let log : ClosedLog = record { number = c.in-Some.log.number; len = c.in-Some.log.len } in
    let closed = c.args.self.now.closed.items in
    let order = subst (λ o. AreInOrder closed o c.args.self.now.next) c.in-Some.is c.requires.sound.order in
    let items : c.push.new.self.items ≡ closed ++ log ∷ [] = search (c.push.ensures.items, c.unwrap.ensures) in
    ap (λ (logs : List ClosedLog). closed_len logs n) items ∙ closed_push 1 closed log order.0 n ∙ sym (ap (λ o. len_in closed o n) c.in-Some.is)

pub returns-in-Some-clause-order : goal.returns-in-Some-clause-order
returns-in-Some-clause-order c =
    let log : ClosedLog = record { number = c.in-Some.log.number; len = c.in-Some.log.len } in
    let closed = c.args.self.now.closed.items in
    let order = subst (λ o. AreInOrder closed o c.args.self.now.next) c.in-Some.is c.requires.sound.order in
    let items : c.push.new.self.items ≡ closed ++ log ∷ [] = search (c.push.ensures.items, c.unwrap.ensures) in
    subst (Rise 1 c.args.self.now.next) (sym items) (rise_push 1 c.args.self.now.next closed log order.0 order.1 order.2)
