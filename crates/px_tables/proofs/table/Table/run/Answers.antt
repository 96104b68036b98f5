use Rattle.std.proofs.Common.{◌≡◌, ◌+◌, ℕ, List, length, vec_len, sym, ap, subst, ◌∙◌, arith}
use Rattle.px_chain.specs.declared.chain.Linked.{Linked}
use Rattle.px_cells.specs.Unused.{unused_slot}
use Rattle.px_tables.specs.Held.{Held, slot_at}
use Rattle.px_tables.specs.Unlinking.{AreRead}
use Rattle.px_tables.proofs.Prepared.{read}
use Rattle.px_tables.proofs.Running.{none_read, one_read, read_within}
use Rattle.px_tables.proofs.table.Table.run.Goals as goal

pub index-requires : goal.index-requires
index-requires c =
    let len : vec_len c.self.inside.slots ≡ length c.self.inside.slots.items = c.self.inside.slots.ok.0 in
    let within = read_within c.args.self.now.cells c.args.first c.args.count c.loop-met._met c.loop-met.gone.items c.loop-met.number c.self.invariant
    (ap (λ (h : Held). h.cells) c.self.view_is) c.requires c.loop-met-test.true c.loop-met.invariant in
    omega (arith, len, within)

pub loop-met-init : goal.loop-met-init
loop-met-init c = λ layout row newer from sound run.
    subst (λ (gone : List Linked). AreRead c.args.self.now.cells (layout.chain row) from 0 gone c.args.first) (sym c.new-gone.ensures.items)
    (none_read c.args.self.now.cells (layout.chain row) from newer c.args.first c.args.count run)

pub loop-met-preserved : goal.loop-met-preserved
loop-met-preserved c = λ layout row newer from sound run.
    let now = c.args.self.now.cells in
    let met = c.loop-met._met in
    let number = c.loop-met.number in
    let slots = c.self.inside.slots.items in
    let within = read_within now c.args.first c.args.count met c.loop-met.gone.items number c.self.invariant
    (ap (λ (h : Held). h.cells) c.self.view_is) c.requires c.loop-met-test.true c.loop-met.invariant in
    let slot : c.in_ok-slot.slot ≡ slot_at now.slots number =
    c.in_ok-slot.ensures ∙ read slots number c.index.result.now unused_slot within c.index.ensures
    ∙ ap (λ (h : Held). slot_at h.cells.slots number) c.self.view_is in
    subst (λ (gone : List Linked). AreRead now (layout.chain row) from (met + 1) gone c.in_ok-slot.slot.next) (sym c.in_ok-push.ensures.items)
    (one_read now layout row from newer c.args.first c.args.count met c.loop-met.gone.items number c.in_ok-slot.slot sound run c.loop-met-test.true
    (c.loop-met.invariant layout row newer from sound run) slot)

pub returns : goal.returns
returns c = λ layout row newer from sound run.
    let ended = c.loop-met-test.false in
    let at_end = c.loop-met.auto._met-end in
    let all : c.loop-met._met ≡ c.args.count = omega (arith, ended, at_end) in
    subst (λ (met : ℕ). AreRead c.args.self.now.cells (layout.chain row) from met c.loop-met.gone.items c.loop-met.number) all
    (c.loop-met.invariant layout row newer from sound run)
