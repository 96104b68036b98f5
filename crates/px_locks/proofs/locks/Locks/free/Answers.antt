use Rattle.std.proofs.Common.{None, cond, sym, ap, ◌∙◌}
use Rattle.px_model.specs.Rows.{same_key}
use Rattle.px_locks.proofs.Maps.{holder_in_tables}
use Rattle.px_locks.proofs.locks.Locks.free.Goals as goal

pub returns : goal.returns
returns c = rw (sym c.self.view_is) (λ q. holder_in_tables q c.remove.new.tables.items
    ∙ c.remove.ensures q
    ∙ ap (cond (same_key q (c.args.table, c.args.key.now)) None) (sym (holder_in_tables q c.self.inside.tables.items)))
