use Rattle.std.proofs.Common.{◌≡◌, ◌≤◌, Option, sym, ap, subst, ◌∙◌}
use Rattle.px_cells.specs.declared.slot.Slot.{Slot}
use Rattle.px_chain.proofs.Standing.{slot_stands}
use Rattle.px_chain.specs.Sound.{IsSlot, IsUsedRow}
use Rattle.px_chain.specs.Table.{Table}
use Rattle.px_held.proofs.Serving.{layout_served, served, served_alike, table_served}
use Rattle.px_held.proofs.Sweeping.{base_goes_with, base_stand, is_found, own_goes_with, own_stand}
use Rattle.px_held.specs.Sweeping.{GoesWith, IsRunOf, gone_count, gone_from}
use Rattle.px_held.specs.Unlinking.{HasVersions}
use Rattle.px_held.specs.declared.run.Run.{Run}
use Rattle.std.specs.Prelude.{IfSome}
use Rattle.px_held.proofs.held.Held.versions_to_sweep.Goals as goal

pub returns-in_err-slots-clause-sound : goal.returns-in_err-slots-clause-sound
returns-in_err-slots-clause-sound g c = λ tells store place serves at.
    let site = g.W.Site.state c.args.site.now in
    let due = c.args.due.now in
    let sound = (served site c.args.self.now store serves).sound due.table in
    absurd (c.in_err-slots.ensures.past (served_alike (λ t. IsSlot t due.slot) site c.args.self.now store due.table serves
    (slot_stands c.args.self.now.short (store.tables due.table) (store.layouts due.table) due.row place due.slot sound at.stands).place))

pub returns-in_err-table-clause-sound : goal.returns-in_err-table-clause-sound
returns-in_err-table-clause-sound g c = λ tells store place serves at.
    let due = c.args.due.now in
    absurd (c.in_err-table.ensures.unused (served_alike (λ t. IsUsedRow t due.row) (g.W.Site.state c.args.site.now) c.args.self.now store due.table serves at.used))

pub returns-then-keeps_row-clause-goes : goal.returns-then-keeps_row-clause-goes
returns-then-keeps_row-clause-goes g c = λ store place serves at.
    let site = g.W.Site.state c.args.site.now in
    let due = c.args.due.now in
    let version : Slot = c.slot-version.result.now in
    let is : version ≡ (store.tables due.table).slot due.slot =
    c.slot-version.ensures ∙ ap (λ (t : Table). t.slot due.slot) (sym (table_served site c.args.self.now store due.table serves c.in_ok-slots.ensures.table)) in
    subst (λ (found : Option Run). GoesWith store due place found) (sym c.base_run.ensures.is)
    (base_goes_with c.args.self.now.short store due version ((served site c.args.self.now store serves).sound due.table) is
    (sym c.keeps_row.ensures ∙ c.if-keeps_row.true) place at)

pub returns-then-keeps_row-clause-stand : goal.returns-then-keeps_row-clause-stand
returns-then-keeps_row-clause-stand g c = λ store serves.
    let site = g.W.Site.state c.args.site.now in
    let due = c.args.due.now in
    let version : Slot = c.slot-version.result.now in
    let same = sym (table_served site c.args.self.now store due.table serves c.in_ok-slots.ensures.table) in
    let is : version ≡ (store.tables due.table).slot due.slot = c.slot-version.ensures ∙ ap (λ (t : Table). t.slot due.slot) same in
    subst (λ (found : Option Run). IfSome found (λ run. HasVersions store due.table due.row run.newer run.first run.count)) (sym c.base_run.ensures.is)
    (base_stand c.args.self.now.short store due version ((served site c.args.self.now store serves).sound due.table) is
    (sym c.keeps_row.ensures ∙ c.if-keeps_row.true) (subst (λ (t : Table). due.slot ≤ t.header.slots) same c.in_ok-slots.ensures.within))

pub returns-in-Some-clause-goes : goal.returns-in-Some-clause-goes
returns-in-Some-clause-goes g c = λ store place serves at.
    let site = g.W.Site.state c.args.site.now in
    let due = c.args.due.now in
    let version : Slot = c.slot-version.result.now in
    let is : version ≡ (store.tables due.table).slot due.slot =
    c.slot-version.ensures ∙ ap (λ (t : Table). t.slot due.slot) (sym (table_served site c.args.self.now store due.table serves c.in_ok-slots.ensures.table)) in
    let found = sym (c.newer_of.ensures (store.layouts due.table) (layout_served site c.args.self.now store due.table serves c.in_ok-table.ensures.table)) ∙ c.in-Some.is in
    subst (λ (run : Run). IsRunOf ((store.layouts due.table).chain due.row) (gone_from store due place) (gone_count store due place) run) (sym c.own_run.ensures.is)
    (own_goes_with c.args.self.now.short store due version ((served site c.args.self.now store serves).sound due.table) is
    (sym c.keeps_row.ensures ∙ c.if-keeps_row.false) c.in-Some.newer found place at)

pub returns-in-Some-clause-stand : goal.returns-in-Some-clause-stand
returns-in-Some-clause-stand g c = λ store serves.
    let site = g.W.Site.state c.args.site.now in
    let due = c.args.due.now in
    let version : Slot = c.slot-version.result.now in
    let same = sym (table_served site c.args.self.now store due.table serves c.in_ok-slots.ensures.table) in
    let is : version ≡ (store.tables due.table).slot due.slot = c.slot-version.ensures ∙ ap (λ (t : Table). t.slot due.slot) same in
    let found = sym (c.newer_of.ensures (store.layouts due.table) (layout_served site c.args.self.now store due.table serves c.in_ok-table.ensures.table)) ∙ c.in-Some.is in
    subst (λ (run : Run). HasVersions store due.table due.row run.newer run.first run.count) (sym c.own_run.ensures.is)
    (own_stand c.args.self.now.short store due version ((served site c.args.self.now store serves).sound due.table) is c.in-Some.newer found
    (subst (λ (t : Table). IsUsedRow t due.row) (sym (table_served site c.args.self.now store due.table serves c.in_ok-table.ensures.table)) c.in_ok-table.ensures.used))

pub returns-in-None-clause-sound : goal.returns-in-None-clause-sound
returns-in-None-clause-sound g c = λ tells store place serves at.
    let site = g.W.Site.state c.args.site.now in
    let due = c.args.due.now in
    let version : Slot = c.slot-version.result.now in
    let is : version ≡ (store.tables due.table).slot due.slot =
    c.slot-version.ensures ∙ ap (λ (t : Table). t.slot due.slot) (sym (table_served site c.args.self.now store due.table serves c.in_ok-slots.ensures.table)) in
    let none = sym (c.newer_of.ensures (store.layouts due.table) (layout_served site c.args.self.now store due.table serves c.in_ok-table.ensures.table)) ∙ c.in-None.is in
    absurd (is_found c.args.self.now.short store due version ((served site c.args.self.now store serves).sound due.table) is none place at)
