use Rattle.std.proofs.Common.{◌≡◌, ℕ, IsTrue, sym, subst, ◌∙◌}
use Rattle.px_cells.specs.Form.{is_slot}
use Rattle.px_history.specs.Store.{Store}
use Rattle.px_history.specs.Written.{change_of}
use Rattle.px_site.specs.State.{State}
use Rattle.px_held.specs.Linking.{IsReady, step_of}
use Rattle.px_held.specs.Serving.{HeldTables, Serves}
use Rattle.px_held.proofs.Replaced.{held_there, version_is}
use Rattle.px_held.proofs.held.Held.version_of.Goals as goal

pub new-requires-clause-form : goal.new-requires-clause-form
new-requires-clause-form c =
    let prepared = c.args.prepared.now in
    let ready = subst (λ (h : HeldTables). IsReady h prepared) (sym c.self.view_is) c.requires in
    subst (λ (short : ℕ). IsTrue (is_slot short prepared.linking.slot)) ready.at.numbered.its_short ready.linking_is.stored.form

pub returns : goal.returns
returns c =
    let held : HeldTables = record { short = c.self.inside.short; tables = c.self.inside.tables.items } in
    let prepared = c.args.prepared.now in
    let ready = subst (λ (h : HeldTables). IsReady h prepared) (sym c.self.view_is) c.requires in
    let at = held_there held prepared.table ready.table c.self.invariant.1 ready.at.there ready.at.is in
    subst (λ (h : HeldTables). (site : State) (store : Store) → Serves site h store → c.new.result ≡ change_of h.short store (step_of prepared)) c.self.view_is
    (λ site store serves. c.new.ensures ∙ version_is site held store prepared ready at serves)
