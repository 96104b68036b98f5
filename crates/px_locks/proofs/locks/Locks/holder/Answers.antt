use Rattle.std.proofs.Common.{sym, ap, ◌∙◌}
use Rattle.px_locks.specs.Tables.{holder_in}
use Rattle.px_locks.proofs.Maps.{holder_in_tables}
use Rattle.px_locks.proofs.locks.Locks.holder.Goals as goal

pub returns : goal.returns
returns c = rw (sym c.self.view_is) (c.holder.ensures
    ∙ ap (holder_in (c.args.table, c.args.key.now)) c.deref.ensures.value
    ∙ sym (holder_in_tables (c.args.table, c.args.key.now) c.self.inside.tables.items))
