use Rattle.std.proofs.Common.{None, cond, ap, ◌∙◌, arith}
use Rattle.px_model.specs.Rows.{same_key}
use Rattle.px_locks.specs.Tables.{holder_in}
use Rattle.px_locks.proofs.Maps.{changed, past_tables}
use Rattle.px_locks.proofs.tables.remove.Goals as goal

pub returns-then-place-len : goal.returns-then-place-len
returns-then-place-len c = λ q.
    changed c.args.key.now None c.args.tables.now.items c.from-place.result c.index_mut.result.now
    (record { holders = c.remove.new.self })
    (omega (arith, c.if-place-len.true, c.len.ensures))
    c.index_mut.ensures.value c.remove.ensures.updates q
    ∙ ap (λ t. cond (same_key q (t, c.args.key.now)) None (holder_in q c.args.tables.now.items)) c.from-place.ensures

pub returns-else-place-len : goal.returns-else-place-len
returns-else-place-len c = past_tables c.args.key.now c.args.tables.now.items c.args.table
    (omega (arith, c.if-place-len.false, c.len.ensures, c.from-place.ensures))
