use Rattle.std.proofs.Common.{◌≡◌, ℕ, map, sym, subst, ◌∙◌}
use Rattle.px_chain.specs.Cells.{cell_of}
use Rattle.px_chain.specs.Links.{unlink_cells}
use Rattle.px_chain.specs.Places.{StandsAt}
use Rattle.px_chain.specs.Sound.{Layout}
use Rattle.px_history.specs.Store.{Store}
use Rattle.px_history.specs.Written.{change_of}
use Rattle.px_site.specs.State.{State}
use Rattle.px_tables.specs.Held.{HasLayout}
use Rattle.px_tables.specs.Unlinking.{parts_in}
use Rattle.px_held.specs.Serving.{HeldTables, Serves}
use Rattle.px_held.specs.Unlinking.{GoFrom, IsUnlinkReady, unlink_from}
use Rattle.px_held.proofs.Replaced.{held_there, if_so}
use Rattle.px_held.proofs.Serving.{layout_served}
use Rattle.px_held.proofs.Unlinked.{cells_unlinked_are}
use Rattle.px_held.proofs.held.Held.cells_unlinked.Goals as goal

pub returns : goal.returns
returns c =
    let held : HeldTables = record { short = c.self.inside.short; tables = c.self.inside.tables.items } in
    let prepared = c.args.prepared.now in
    let old = c.index.result.now in
    let unlinking = prepared.unlinking in
    let ready = subst (λ (h : HeldTables). IsUnlinkReady h prepared) (sym c.self.view_is) c.requires in
    let at = held_there held prepared.table old c.self.invariant.1 ready.at.there c.index.ensures in
    if_so
    (λ cells. (layout : Layout) (from : ℕ) → HasLayout old.cells layout → StandsAt (layout.chain unlinking.row) from unlinking.first
    → cells ≡ map (cell_of old.cells.number old.cells.short) (unlink_cells old.cells.header (parts_in old.cells layout unlinking.row from unlinking.count)))
    (λ cells. (site : State) (store : Store) (from : ℕ) → Serves site c.args.self.now store → GoFrom store prepared from
    → cells ≡ (change_of c.args.self.now.short store (unlink_from prepared from)).cells)
    c.cells_unlinked.result
    (λ cells are. subst
    (λ (h : HeldTables). (site : State) (store : Store) (from : ℕ) → Serves site h store → GoFrom store prepared from → cells ≡ (change_of h.short store (unlink_from prepared from)).cells)
    c.self.view_is
    (λ site store from serves stands.
    are (store.layouts prepared.table) from (layout_served site held store prepared.table serves at) stands ∙ cells_unlinked_are site held store prepared from old at serves))
    c.cells_unlinked.ensures
