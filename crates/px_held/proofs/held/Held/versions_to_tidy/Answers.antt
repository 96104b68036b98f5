use Rattle.std.proofs.Common.{map, sym, ap, subst, ◌∙◌}
use Rattle.px_chain.specs.Sound.{IsUsedRow}
use Rattle.px_chain.specs.Table.{Table}
use Rattle.px_shown.specs.Tables.{slots_of_row}
use Rattle.px_tidy.specs.Kept.{tidied_away}
use Rattle.px_tidy.specs.Numbers.{done_of}
use Rattle.px_tidy.specs.Unneeded.{unneeded_at}
use Rattle.px_held.proofs.Going.{going_stand}
use Rattle.px_held.proofs.Serving.{layout_served, served_alike, table_served}
use Rattle.px_held.proofs.held.Held.versions_to_tidy.Goals as goal

pub returns-in_err-table-clause-sound : goal.returns-in_err-table-clause-sound
returns-in_err-table-clause-sound g c = λ tells store serves has.
    absurd (c.in_err-table.ensures.unused (served_alike (λ t. IsUsedRow t c.args.row) (g.W.Site.state c.args.site.now) c.args.self.now store c.args.table serves has))

pub returns-clause-versions : goal.returns-clause-versions
returns-clause-versions g c = λ store serves used.
    let site = g.W.Site.state c.args.site.now in
    let number = c.args.table in
    let layout = store.layouts number in
    c.in_ok-versions_to_tidy.ensures layout (layout_served site c.args.self.now store number serves c.in_ok-table.ensures.table)
    ∙ ap (λ (t : Table). map (unneeded_at (layout.chain c.args.row)) (tidied_away (done_of c.args.done.now) (slots_of_row t layout c.args.row)))
    (sym (table_served site c.args.self.now store number serves c.in_ok-table.ensures.table))

pub returns-clause-stand : goal.returns-clause-stand
returns-clause-stand g c = λ store serves used.
    going_stand store c.args.table c.args.row (done_of c.args.done.now) c.in_ok-versions_to_tidy.field-0.items used (returns-clause-versions g c store serves used)
