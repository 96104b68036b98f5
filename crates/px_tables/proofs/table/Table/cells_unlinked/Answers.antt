use Rattle.std.proofs.Common.{◌≡◌, ℕ, map, sym, ap, subst, ◌∙◌}
use Rattle.std.proofs.lemmas.Result.{IfOk-weaker}
use Rattle.px_chain.specs.Cells.{cell_of}
use Rattle.px_chain.specs.Links.{unlink_cells}
use Rattle.px_chain.specs.Places.{StandsAt}
use Rattle.px_chain.specs.Sound.{Layout}
use Rattle.px_chain.specs.Unlinked.{contents_of}
use Rattle.px_tables.specs.Held.{Held, HasLayout}
use Rattle.px_tables.specs.Unlinking.{IsUnlink, parts_in}
use Rattle.px_tables.proofs.Unlaying.{contents_at, unlinked_form}
use Rattle.px_tables.proofs.table.Table.cells_unlinked.Goals as goal

pub cells-requires-clause-form : goal.cells-requires-clause-form
cells-requires-clause-form c =
    unlinked_form c.args.unlinking.now c.self.invariant (subst (λ (h : Held). IsUnlink h.cells c.args.unlinking.now) (sym c.self.view_is) c.requires)

pub returns : goal.returns
returns c =
    let u = c.args.unlinking.now in
    let held = c.args.self.now in
    IfOk-weaker c.cells.result (λ cells. cells ≡ map (cell_of c.self.inside.number c.self.inside.short) (contents_of u.unlinked))
    (λ cells. (layout : Layout) (from : ℕ) → HasLayout held.cells layout → StandsAt (layout.chain u.row) from u.first
    → cells ≡ map (cell_of held.cells.number held.cells.short) (unlink_cells held.cells.header (parts_in held.cells layout u.row from u.count)))
    (λ cells is layout from sound stands. is
    ∙ ap (λ (h : Held). map (cell_of h.cells.number h.cells.short) (contents_of u.unlinked)) c.self.view_is
    ∙ ap (map (cell_of held.cells.number held.cells.short)) (contents_at held.cells u c.requires layout from sound stands))
    c.cells.ensures
