use Rattle.std.proofs.Common.{Some, cond, is_some, sym, ap, ◌∙◌}
use Rattle.px_model.specs.Rows.{same_key}
use Rattle.px_locks.specs.Holders.{holder_of}
use Rattle.px_locks.specs.Tables.{holder_in}
use Rattle.px_locks.proofs.Keys.{OnErr_from, some_is}
use Rattle.px_locks.proofs.Maps.{holder_in_tables, same_holders}
use Rattle.px_locks.proofs.Holders.{taken_again}
use Rattle.px_locks.proofs.locks.Locks.take.Goals as goal

pub returns-then-is_some-clause-held : goal.returns-then-is_some-clause-held
returns-then-is_some-clause-held c =
    taken_again c.args.self.now (c.args.table, c.args.key.now) c.args.number
    (some_is (holder_of (c.args.table, c.args.key.now) c.args.self.now) c.args.number
    (ap is_some (sym c.holder.ensures) ∙ sym c.is_some.ensures ∙ c.if-is_some.true) c.requires)

pub returns-clause-held : goal.returns-clause-held
returns-clause-held c = rw (sym c.self.view_is) (λ q. holder_in_tables q c.insert.new.tables.items
    ∙ c.in_ok-insert.ensures.held q
    ∙ ap (λ b. cond (same_key q (c.args.table, b)) (Some c.args.number) (holder_in q c.self.inside.tables.items)) c.in_ok-stored.ensures.items
    ∙ ap (cond (same_key q (c.args.table, c.args.key.now)) (Some c.args.number)) (sym (holder_in_tables q c.self.inside.tables.items)))

pub returns-in_err-insert-clause-err : goal.returns-in_err-insert-clause-err
returns-in_err-insert-clause-err c =
    OnErr_from c.from_residual-in_err-insert.result (same_holders c.self.inside.tables.items c.insert.new.tables.items c.in_err-insert.ensures.err ∙ c.self.view_is)
