use Rattle.std.proofs.Common.{◌≡◌, Bool, option_map, sym, ap, ◌∙◌}
use Rattle.px_chain.specs.Links.{chain_of}
use Rattle.px_chain.specs.Visible.{is_visible}
use Rattle.px_chain.specs.declared.chain.Linked.{Linked}
use Rattle.px_chain.specs.declared.views.SlotView.{SlotView}
use Rattle.px_model.specs.declared.standing.Standing.{Standing}
use Rattle.px_tables.specs.Held.{table_of}
use Rattle.px_held.proofs.Walks.{found_here, found_in_chain, found_nowhere}
use Rattle.px_held.proofs.walking.seen.Goals as goal

pub returns-then-is_visible : goal.returns-then-is_visible
returns-then-is_visible c = λ layout sound.
    let reader = c.args.reader.now in
    let all = reader.xacts.now in
    let test : SlotView → Bool = is_visible reader.own reader.snapshot in
    let chain = layout.chain c.args.row in
    let whole = c.into_iter-slot-iterator.result in
    let first : Linked = record { number = c.in-Some.slot; slot = c.in-Some.version.now } in
    let gives = c.into_iter-slot-iterator.ensures.into_iter_gives in
    let walked = c.versions-slot-items.ensures layout sound in
    let same : whole ≡ chain_of (table_of c.args.table.now.cells) chain = cc in
    let seen_so : Standing → SlotView = λ s. record { slot = c.in-Some.slot; xn = c.in-Some.version.now.xn; standing = s } in
    ap (option_map (λ (view : SlotView). view.slot))
    (sym (found_here test all whole c.loop-slot.slot-iterator c.next.new.self first c.loop-slot.invariant c.in-Some.ensures.steps
    (ap (λ (s : Standing). test (seen_so s)) (sym c.standing-standing.ensures.is) ∙ sym c.is_visible.ensures ∙ c.if-is_visible.true))
    ∙ found_in_chain test all (table_of c.args.table.now.cells) chain whole same)

pub returns : goal.returns
returns c = λ layout sound.
    let reader = c.args.reader.now in
    let all = reader.xacts.now in
    let test : SlotView → Bool = is_visible reader.own reader.snapshot in
    let chain = layout.chain c.args.row in
    let whole = c.into_iter-slot-iterator.result in
    let gives = c.into_iter-slot-iterator.ensures.into_iter_gives in
    let walked = c.versions-slot-items.ensures layout sound in
    let same : whole ≡ chain_of (table_of c.args.table.now.cells) chain = cc in
    ap (option_map (λ (view : SlotView). view.slot))
    (sym (found_nowhere test all whole c.loop-slot.slot-iterator c.loop-slot.invariant c.in-None.ensures.steps.0)
    ∙ found_in_chain test all (table_of c.args.table.now.cells) chain whole same)
