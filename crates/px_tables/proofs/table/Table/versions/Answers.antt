use Rattle.std.proofs.Common.{sym, ap, subst, ◌∙◌}
use Rattle.px_chain.specs.Links.{chain_of}
use Rattle.px_chain.specs.Sound.{IsUsedRow}
use Rattle.px_tables.specs.Held.{Held, HasLayout, table_of}
use Rattle.px_tables.proofs.Walking.{versions_are, versions_end}
use Rattle.px_tables.proofs.table.Table.versions.Goals as goal

pub invariant_of-result : goal.invariant_of-result
invariant_of-result c =
    versions_end c.args.row c.as_slice.result.now c.index.result.now c.self.invariant
    (subst (λ (h : Held). IsUsedRow (table_of h.cells) c.args.row) (sym c.self.view_is) c.requires) c.as_slice.ensures.value c.index.ensures

pub returns : goal.returns
returns c = λ layout sound.
    versions_are c.args.row c.as_slice.result.now c.index.result.now c.self.invariant
    (subst (λ (h : Held). IsUsedRow (table_of h.cells) c.args.row) (sym c.self.view_is) c.requires) c.as_slice.ensures.value c.index.ensures
    layout (subst (λ (h : Held). HasLayout h.cells layout) (sym c.self.view_is) sound)
    ∙ ap (λ (h : Held). chain_of (table_of h.cells) (layout.chain c.args.row)) c.self.view_is
