use Rattle.std.proofs.Common.{Option, subst}
use Rattle.px_index.specs.Listed.{IsNextFrom}
use Rattle.px_index.specs.declared.entry.Entry.{Entry}
use Rattle.px_index.proofs.Next as next
use Rattle.px_index.proofs.walks.next_slot.Goals as goal

pub returns-in-Some-clause-next : goal.returns-in-Some-clause-next
returns-in-Some-clause-next g c listed is =
    let found = subst (λ (o : Option Entry). IsNextFrom listed c.args.from.now o) c.in-Some.is (c.in_ok-next.ensures.next listed is) in
    rw c.slot_there.ensures (next.next_slot listed c.args.from.now c.in-Some.next found)

pub returns-in-None-clause-next : goal.returns-in-None-clause-next
returns-in-None-clause-next g c listed is =
    let none = subst (λ (o : Option Entry). IsNextFrom listed c.args.from.now o) c.in-None.is (c.in_ok-next.ensures.next listed is) in
    next.none_from listed c.args.from.now none
