use Rattle.std.proofs.Common.{ap, refl, sym, subst, ◌∙◌}
use Rattle.std.specs.Prelude.{IsNone, ◌↔◌}
use Rattle.px_chain.specs.Table.{Table}
use Rattle.px_tables.specs.Held.{table_of}
use Rattle.px_tables.specs.Linking.{IsFull}
use Rattle.px_held.specs.Linking.{HasTable}
use Rattle.px_held.specs.Serving.{HeldTables, Serves}
use Rattle.px_held.proofs.Replaced.{held_there, next_places, places_held, same_number_there, serves_still, still_numbered}
use Rattle.px_held.proofs.Serving.{table_served}
use Rattle.px_held.proofs.held.Held.place_for.Goals as goal

pub invariant_of-self : goal.invariant_of-self
invariant_of-self g c =
    let held : HeldTables = record { short = c.self.inside.short; tables = c.self.inside.tables.items } in
    let number = c.args.table in
    let there = subst (λ (h : HeldTables). HasTable h number) (sym c.self.view_is) (c.if-not-has_table.ensures.0 refl) in
    let at = held_there held number c.index_mut.result.now c.self.invariant.1 there c.index_mut.ensures.value in
    let its = same_number_there held number c.index_mut.result.now c.place_for.new.self at c.place_for.ensures.cells in
    (c.self.invariant.0, still_numbered held number c.place_for.new.self c.self.invariant.1 there its)

pub returns-in_err-place-clause-keeps : goal.returns-in_err-place-clause-keeps
returns-in_err-place-clause-keeps g c = λ store serves.
    let held : HeldTables = record { short = c.self.inside.short; tables = c.self.inside.tables.items } in
    let number = c.args.table in
    let site = g.W.Site.state c.args.site.now in
    let there = subst (λ (h : HeldTables). HasTable h number) (sym c.self.view_is) (c.if-not-has_table.ensures.0 refl) in
    let at = held_there held number c.index_mut.result.now c.self.invariant.1 there c.index_mut.ensures.value in
    serves_still site held store number c.index_mut.result.now c.place_for.new.self there at c.place_for.ensures.cells
    (subst (λ (h : HeldTables). Serves site h store) (sym c.self.view_is) serves)

pub invariant_of-self-2 : goal.invariant_of-self-2
invariant_of-self-2 g c =
    let held : HeldTables = record { short = c.self.inside.short; tables = c.self.inside.tables.items } in
    let number = c.args.table in
    let there = subst (λ (h : HeldTables). HasTable h number) (sym c.self.view_is) (c.if-not-has_table.ensures.0 refl) in
    let at = held_there held number c.index_mut.result.now c.self.invariant.1 there c.index_mut.ensures.value in
    let its = same_number_there held number c.index_mut.result.now c.place_for.new.self at c.place_for.ensures.cells in
    (c.self.invariant.0, still_numbered held number c.place_for.new.self c.self.invariant.1 there its)

pub returns-clause-keeps : goal.returns-clause-keeps
returns-clause-keeps g c = λ store serves.
    let held : HeldTables = record { short = c.self.inside.short; tables = c.self.inside.tables.items } in
    let number = c.args.table in
    let site = g.W.Site.state c.args.site.now in
    let there = subst (λ (h : HeldTables). HasTable h number) (sym c.self.view_is) (c.if-not-has_table.ensures.0 refl) in
    let at = held_there held number c.index_mut.result.now c.self.invariant.1 there c.index_mut.ensures.value in
    serves_still site held store number c.index_mut.result.now c.place_for.new.self there at c.place_for.ensures.cells
    (subst (λ (h : HeldTables). Serves site h store) (sym c.self.view_is) serves)

pub returns-clause-full : goal.returns-clause-full
returns-clause-full g c = λ tells store serves.
    let held : HeldTables = record { short = c.self.inside.short; tables = c.self.inside.tables.items } in
    let number = c.args.table in
    let site = g.W.Site.state c.args.site.now in
    let there = subst (λ (h : HeldTables). HasTable h number) (sym c.self.view_is) (c.if-not-has_table.ensures.0 refl) in
    let at = held_there held number c.index_mut.result.now c.self.invariant.1 there c.index_mut.ensures.value in
    let ours = subst (λ (h : HeldTables). Serves site h store) (sym c.self.view_is) serves in
    subst (λ (t : Table). IsNone c.in_ok-place.place ↔ IsFull t c.args.key.now) (sym (table_served site held store number ours at)) c.in_ok-place.ensures.full

pub returns-clause-next : goal.returns-clause-next
returns-clause-next g c = λ tells store serves.
    let held : HeldTables = record { short = c.self.inside.short; tables = c.self.inside.tables.items } in
    let number = c.args.table in
    let site = g.W.Site.state c.args.site.now in
    let there = subst (λ (h : HeldTables). HasTable h number) (sym c.self.view_is) (c.if-not-has_table.ensures.0 refl) in
    let at = held_there held number c.index_mut.result.now c.self.invariant.1 there c.index_mut.ensures.value in
    let ours = subst (λ (h : HeldTables). Serves site h store) (sym c.self.view_is) serves in
    next_places c.place_for.new.self (store.tables number) c.args.key.now c.in_ok-place.place
    (ap table_of c.place_for.ensures.cells ∙ sym (table_served site held store number ours at)) c.in_ok-place.ensures.place

pub returns-clause-place : goal.returns-clause-place
returns-clause-place g c =
    let held : HeldTables = record { short = c.self.inside.short; tables = c.self.inside.tables.items } in
    let number = c.args.table in
    let there = subst (λ (h : HeldTables). HasTable h number) (sym c.self.view_is) (c.if-not-has_table.ensures.0 refl) in
    let at = held_there held number c.index_mut.result.now c.self.invariant.1 there c.index_mut.ensures.value in
    let its = same_number_there held number c.index_mut.result.now c.place_for.new.self at c.place_for.ensures.cells in
    places_held held number c.args.key.now c.place_for.new.self c.in_ok-place.place there its c.in_ok-place.ensures.place
