use Rattle.std.proofs.Common.{◌≡◌, Bool, Some, sym, ap, ◌∙◌}
use Rattle.px_chain.specs.Links.{chain_of}
use Rattle.px_chain.specs.declared.chain.Linked.{Linked}
use Rattle.px_chain.specs.declared.views.SlotView.{SlotView}
use Rattle.px_chain_laws.specs.Reading.{is_committed}
use Rattle.px_model.specs.declared.standing.Standing.{Standing}
use Rattle.px_tables.specs.Held.{table_of}
use Rattle.px_held.proofs.Walks.{found_here, found_in_chain, found_nowhere, view_met}
use Rattle.px_held.proofs.walking.newest_committed.Goals as goal

pub returns-then-is_committed : goal.returns-then-is_committed
returns-then-is_committed c = λ layout sound.
    let all = c.args.xacts.now in
    let test : SlotView → Bool = λ view. is_committed view.standing in
    let chain = layout.chain c.args.row in
    let whole = c.into_iter-slot-iterator.result in
    let first : Linked = record { number = c.in-Some.slot; slot = c.in-Some.version.now } in
    let gives = c.into_iter-slot-iterator.ensures.into_iter_gives in
    let walked = c.versions-slot-items.ensures layout sound in
    let same : whole ≡ chain_of (table_of c.args.table.now.cells) chain = cc in
    let standing : c.standing-standing.result ≡ (view_met all first).standing = c.standing-standing.ensures.is in
    ap (λ (s : Standing). Some (record { slot = c.in-Some.slot; xn = c.in-Some.version.now.xn; standing = s })) standing
    ∙ sym (found_here test all whole c.loop-slot.slot-iterator c.next.new.self first c.loop-slot.invariant c.in-Some.ensures.steps
    (ap is_committed (sym standing) ∙ sym c.is_committed.ensures ∙ c.if-is_committed.true))
    ∙ found_in_chain test all (table_of c.args.table.now.cells) chain whole same

pub returns : goal.returns
returns c = λ layout sound.
    let all = c.args.xacts.now in
    let test : SlotView → Bool = λ view. is_committed view.standing in
    let chain = layout.chain c.args.row in
    let whole = c.into_iter-slot-iterator.result in
    let gives = c.into_iter-slot-iterator.ensures.into_iter_gives in
    let walked = c.versions-slot-items.ensures layout sound in
    let same : whole ≡ chain_of (table_of c.args.table.now.cells) chain = cc in
    sym (found_nowhere test all whole c.loop-slot.slot-iterator c.loop-slot.invariant c.in-None.ensures.steps.0)
    ∙ found_in_chain test all (table_of c.args.table.now.cells) chain whole same
