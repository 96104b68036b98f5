use Rattle.std.proofs.Common.{refl}
use Rattle.std.proofs.lemmas.Result.{err_from_is_err_and}
use Rattle.std.specs.Option.{option_copied}
use Rattle.px_working.specs.Follows.{last_store}
use Rattle.px_core.specs.declared.state.Kept.{Kept}
use Rattle.px_core.proofs.Still.{sees}
use Rattle.px_core.proofs.Walking.{walk_answered, walk_refused}
use Rattle.px_core.proofs.state.Kept.next_row.Goals as goal

pub returns-in_err-next_row : goal.returns-in_err-next_row
returns-in_err-next_row g c =
    let old : Kept g.row.W.Denot = c.args.self.now in
    let new : Kept g.row.W.Denot = record old { site = c.next_row.new.site; held = c.next_row.new.held } in
    let p = err_from_is_err_and c.from_residual.result c.from_residual.ensures.1 in
    rw (p.1, p.2)
    (walk_refused g.W.Site.tells g.W.Site.state g.W.Site.counts (option_copied c.args.after) old new c.requires refl c.in_err-next_row.field-0.0
    c.in_err-next_row.ensures.reads)

pub returns : goal.returns
returns g c =
    let old : Kept g.row.W.Denot = c.args.self.now in
    let new : Kept g.row.W.Denot = record old { site = c.next_row.new.site; held = c.next_row.new.held } in
    walk_answered g.W.Site.tells g.W.Site.state g.W.Site.counts (option_copied c.args.after) old new c.requires refl c.in_ok-next_row.field-0
    c.in_ok-next_row.ensures.reads
    (λ t m works. c.in_ok-next_row.ensures.row t c.table_count-tables.ensures old.active.locks m (last_store works.life)
    (sees g.W.Site.state old m works))
