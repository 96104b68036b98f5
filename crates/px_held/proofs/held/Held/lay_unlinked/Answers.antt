use Rattle.std.proofs.Common.{sym, subst, ◌∙◌}
use Rattle.px_held.specs.Serving.{HeldTables, Serves}
use Rattle.px_held.specs.Unlinking.{IsUnlinkReady}
use Rattle.px_held.proofs.Replaced.{held_there, still_numbered}
use Rattle.px_held.proofs.Serving.{layout_served}
use Rattle.px_held.proofs.Unlinked.{serves_unlinked}
use Rattle.px_held.proofs.held.Held.lay_unlinked.Goals as goal

pub invariant_of-self : goal.invariant_of-self
invariant_of-self c =
    let held : HeldTables = record { short = c.self.inside.short; tables = c.self.inside.tables.items } in
    let number = c.args.prepared.table in
    let ready = subst (λ (h : HeldTables). IsUnlinkReady h c.args.prepared) (sym c.self.view_is) c.requires in
    let its = (held_there held number c.index_mut.result.now c.self.invariant.1 ready.at.there c.index_mut.ensures.value).numbered in (
      c.self.invariant.0,
      still_numbered held number c.lay_unlinked.new.self c.self.invariant.1 ready.at.there
          (record { its_number = c.lay_unlinked.ensures.number ∙ its.its_number; its_short = c.lay_unlinked.ensures.short ∙ its.its_short }),
    )

pub returns-clause-step : goal.returns-clause-step
returns-clause-step c = λ site store from serves stands.
    let held : HeldTables = record { short = c.self.inside.short; tables = c.self.inside.tables.items } in
    let number = c.args.prepared.table in
    let unlinking = c.args.prepared.unlinking in
    let old = c.index_mut.result.now in
    let ready = subst (λ (h : HeldTables). IsUnlinkReady h c.args.prepared) (sym c.self.view_is) c.requires in
    let at = held_there held number old c.self.invariant.1 ready.at.there c.index_mut.ensures.value in
    let ours = subst (λ (h : HeldTables). Serves site h store) (sym c.self.view_is) serves in
    let sound = layout_served site held store number ours at in
    serves_unlinked site held store number unlinking.row from unlinking.count old c.lay_unlinked.new.self ready.at.there at
    (c.lay_unlinked.ensures.table (store.layouts number) from sound stands) (c.lay_unlinked.ensures.layout (store.layouts number) from sound stands)
    c.lay_unlinked.ensures.short ours
