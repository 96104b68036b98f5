use Rattle.std.proofs.Common.{Some, cond, sym, ap, subst, ◌<◌, length, ◌∙◌}
use Rattle.px_model.specs.Rows.{same_key}
use Rattle.px_locks.specs.Tables.{holder_in}
use Rattle.px_locks.proofs.Keys.{OnErr_from}
use Rattle.px_locks.proofs.Maps.{changed, unchanged}
use Rattle.px_locks.proofs.tables.insert_at.Goals as goal

pub returns-in_err-insert-clause-err : goal.returns-in_err-insert-clause-err
returns-in_err-insert-clause-err c = OnErr_from c.from_residual.result
    (unchanged c.args.tables.now.items c.from.result c.index_mut.result.now (record { holders = c.insert.new.self })
    (subst (λ i. i < length c.args.tables.now.items) (sym c.from.ensures) c.requires)
    c.index_mut.ensures.value c.in_err-insert.ensures.err)

pub returns-clause-held : goal.returns-clause-held
returns-clause-held c = λ q.
    changed c.args.key.items (Some c.args.number) c.args.tables.now.items c.from.result c.index_mut.result.now
    (record { holders = c.insert.new.self })
    (subst (λ i. i < length c.args.tables.now.items) (sym c.from.ensures) c.requires)
    c.index_mut.ensures.value c.in_ok-insert.ensures.updates q
    ∙ ap (λ t. cond (same_key q (t, c.args.key.items)) (Some c.args.number) (holder_in q c.args.tables.now.items)) c.from.ensures
