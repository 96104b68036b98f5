use Rattle.px_tables.proofs.Keeping.{kept_none}
use Rattle.px_tables.proofs.table.Table.new.Goals as goal

pub invariant_of-result : goal.invariant_of-result
invariant_of-result c =
    rw (c.in_ok-push.ensures.items, c.new-slots.ensures.items, c.unused_slot.ensures, c.in_ok-push-2.ensures.items, c.new-pointers.ensures.items, c.new.ensures)
    (kept_none c.args.number c.args.short c.requires)
