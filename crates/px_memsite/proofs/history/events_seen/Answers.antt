use Rattle.std.proofs.Common.{◌≡◌, nat_eq, take, length, sym, ap, ◌∙◌, arith}
use Rattle.std.proofs.lemmas.List.{take_all}
use Rattle.px_memsite.specs.Events.{is_change, reached}
use Rattle.px_memsite.proofs.Moments.{past_more, seen_after, not_seen, unchanged, not_within, seen_all}
use Rattle.px_memsite.proofs.history.events_seen.Goals as goal
use Rattle.px_memsite.proofs.history.events_seen.Goals.{else-left-eq1-via-then-left-eq1+else-is_change, else-left-eq1-via-else-left-eq1}

pub returns-then-is_change-clause-files : goal.returns-then-is_change-clause-files
returns-then-is_change-clause-files c =
    seen_after c.args.history.now c.loop-i.i c.index-history-i.result c.loop-i-test.true c.index-history-i.is c.args.moment (omega arith) (sym c.if-is_change.ensures) (omega arith)

pub returns-else-left-eq1-clause-files : goal.returns-else-left-eq1-clause-files
returns-else-left-eq1-clause-files c =
    let event = c.index-history-i.result in
    not_seen c.args.history.now c.loop-i.i event c.loop-i-test.true c.index-history-i.is c.loop-i.left c.args.moment (omega arith)
    (elim c.else-left-eq1.branch [
      | else-left-eq1-via-then-left-eq1+else-is_change w ↦ unchanged (nat_eq c.loop-i.left 1) (is_change event) (sym w.if-is_change.ensures)
      | else-left-eq1-via-else-left-eq1 w ↦ not_within c.loop-i.left (is_change event) w.if-left-eq1.false
    ])
    (omega arith)

pub loop-i-preserved : goal.loop-i-preserved
loop-i-preserved c = omega (arith, past_more c.args.history.now c.loop-i.i c.index-history-i.result c.loop-i-test.true c.index-history-i.is)

pub returns-clause-files : goal.returns-clause-files
returns-clause-files c =
    let all = take_all c.loop-i.i c.args.history.now c.loop-i-test.false in
    let history = c.args.history.now in
    let whole : take (length history) history ≡ history = take_all (length history) history (omega arith) in
    seen_all history c.args.moment (omega (arith, c.loop-i.invariant, ap (λ l. length (reached l).past) all)) ∙ ap (λ l. (reached l).now.files) (sym whole)
