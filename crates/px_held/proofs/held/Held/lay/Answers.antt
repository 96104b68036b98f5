use Rattle.std.proofs.Common.{sym, subst, ◌∙◌}
use Rattle.px_held.specs.Linking.{IsReady}
use Rattle.px_held.specs.Serving.{HeldTables, Serves}
use Rattle.px_held.proofs.Replaced.{held_there, prepared_there, serves_linked, still_numbered}
use Rattle.px_held.proofs.held.Held.lay.Goals as goal

pub invariant_of-self : goal.invariant_of-self
invariant_of-self c =
    let held : HeldTables = record { short = c.self.inside.short; tables = c.self.inside.tables.items } in
    let number = c.args.prepared.table in
    let ready = subst (λ (h : HeldTables). IsReady h c.args.prepared) (sym c.self.view_is) c.requires in
    let its = (held_there held number c.index_mut.result.now c.self.invariant.1 ready.at.there c.index_mut.ensures.value).numbered in (
      c.self.invariant.0,
      still_numbered held number c.lay.new.self c.self.invariant.1 ready.at.there
          (record { its_number = c.lay.ensures.number ∙ its.its_number; its_short = c.lay.ensures.short ∙ its.its_short }),
    )

pub returns-clause-step : goal.returns-clause-step
returns-clause-step c = λ site store serves.
    let held : HeldTables = record { short = c.self.inside.short; tables = c.self.inside.tables.items } in
    let number = c.args.prepared.table in
    let old = c.index_mut.result.now in
    let ready = subst (λ (h : HeldTables). IsReady h c.args.prepared) (sym c.self.view_is) c.requires in
    serves_linked site held store number old c.lay.new.self c.args.prepared.linking ready.at.there
    (held_there held number old c.self.invariant.1 ready.at.there c.index_mut.ensures.value)
    (prepared_there held c.args.prepared old ready c.index_mut.ensures.value) c.lay.ensures.table
    (subst (λ (h : HeldTables). Serves site h store) (sym c.self.view_is) serves)
