use Rattle.std.proofs.Common.{◌≡◌, sym, ap, ◌∙◌}
use Rattle.px_chain.specs.Links.{chain_of}
use Rattle.px_chain.specs.declared.chain.Linked.{Linked}
use Rattle.px_tables.specs.Held.{table_of}
use Rattle.px_held.specs.Sweeping.{newer_in}
use Rattle.px_held.proofs.Sweeping.{newer_behind, newer_here, newer_nowhere, numbers, numbers_of_chain}
use Rattle.px_held.proofs.walking.newer_of.Goals as goal

pub loop-number-preserved : goal.loop-number-preserved
loop-number-preserved c =
    let first : Linked = record { number = c.in-Some.number; slot = c.in-Some.field-0-1.now } in
    newer_behind (newer_in 0 c.args.slot (numbers c.into_iter-number-iterator.result)) c.loop-number.newer c.args.slot c.loop-number.number-iterator c.next.new.self first
    c.loop-number.invariant c.in-Some.ensures.steps c.if-number-slot.false

pub returns-then-number-slot : goal.returns-then-number-slot
returns-then-number-slot c = λ layout sound.
    let chain = layout.chain c.args.row in
    let whole = c.into_iter-number-iterator.result in
    let first : Linked = record { number = c.in-Some.number; slot = c.in-Some.field-0-1.now } in
    let gives = c.into_iter-number-iterator.ensures.into_iter_gives in
    let walked = c.versions-number-items.ensures layout sound in
    let same : whole ≡ chain_of (table_of c.args.table.now.cells) chain = cc in
    sym (newer_here (newer_in 0 c.args.slot (numbers whole)) c.loop-number.newer c.args.slot c.loop-number.number-iterator c.next.new.self first
    c.loop-number.invariant c.in-Some.ensures.steps c.if-number-slot.true)
    ∙ ap (λ l. newer_in 0 c.args.slot (numbers l)) same
    ∙ ap (newer_in 0 c.args.slot) (numbers_of_chain (table_of c.args.table.now.cells) chain)

pub returns : goal.returns
returns c = λ layout sound.
    let chain = layout.chain c.args.row in
    let whole = c.into_iter-number-iterator.result in
    let gives = c.into_iter-number-iterator.ensures.into_iter_gives in
    let walked = c.versions-number-items.ensures layout sound in
    let same : whole ≡ chain_of (table_of c.args.table.now.cells) chain = cc in
    sym (newer_nowhere (newer_in 0 c.args.slot (numbers whole)) c.loop-number.newer c.args.slot c.loop-number.number-iterator c.loop-number.invariant c.in-None.ensures.steps.0)
    ∙ ap (λ l. newer_in 0 c.args.slot (numbers l)) same
    ∙ ap (newer_in 0 c.args.slot) (numbers_of_chain (table_of c.args.table.now.cells) chain)
