use Rattle.std.proofs.Common.{◌≡◌, ◌⊎◌, Ok, Err, subst}
use Rattle.px_script.specs.declared.lines.NextLine.{NextLine}
use Rattle.px_script.specs.Progress.{HasCause, Moves, ReadsNoFurther, ahead}
use Rattle.px_play.proofs.Held.{line_behind, next_little, same_little}
use Rattle.px_play.proofs.Inputs.{Looks, end_ends, fault_ends, much_ends, short_ends, long_ends, line_asked}
use Rattle.px_play.proofs.reading.next_line.Goals as goal

pub returns-in_default-clause-ends : goal.returns-in_default-clause-ends
returns-in_default-clause-ends g c = λ tells input read.
    let said = c.next.ensures in
    let looks : Looks c.args.lines.now c.next.new.self (g.S.Source.left c.args.source.now) (g.S.Source.left c.next.new.source) =
    record { counted = said.counted tells; within = said.within; at_end = said.at_end tells; stays = said.over_stays; below = said.over_below; little = same_little g.S.Source.left c.args.lines.now c.next.new.self c.args.source.now c.next.new.source (Err c.in_default.field-0) read.behind c.in_default.ensures.no_further (λ bytes is. is) (c.in_default.ensures.short tells) } in
    short_ends read looks (c.in_default.ensures.short tells)

pub returns-in-Line-clause-asked : goal.returns-in-Line-clause-asked
returns-in-Line-clause-asked g c = λ tells input read.
    let said = c.next.ensures in
    let left = g.S.Source.left c.args.source.now in
    let left_now = g.S.Source.left c.next.new.source in
    let now = c.next.new.self in
    let looks : Looks c.args.lines.now now left left_now =
    record { counted = said.counted tells; within = said.within; at_end = said.at_end tells; stays = said.over_stays; below = said.over_below; little = next_little g.S.Source.left c.args.lines.now now c.args.source.now c.next.new.source c.in-Ok.next read.behind c.in-Ok.ensures.no_further (c.in-Ok.ensures.moves tells) } in
    line_asked read looks (subst (HasCause now) c.in-Line.is c.in-Ok.ensures.cause)
    (subst (Moves (ahead c.args.lines.now left) (ahead now left_now) now) c.in-Line.is (c.in-Ok.ensures.moves tells))
    (line_behind g.S.Source.left c.args.lines.now now c.args.source.now c.next.new.source read.behind
    (subst (λ (next : NextLine). (c.next.new.source ≡ c.args.source.now) ⊎ ReadsNoFurther now (Ok next)) c.in-Line.is c.in-Ok.ensures.no_further)
    (subst (Moves (ahead c.args.lines.now left) (ahead now left_now) now) c.in-Line.is (c.in-Ok.ensures.moves tells)))

pub returns-in-End-clause-ends : goal.returns-in-End-clause-ends
returns-in-End-clause-ends g c = λ tells input read.
    let said = c.next.ensures in
    let left = g.S.Source.left c.args.source.now in
    let left_now = g.S.Source.left c.next.new.source in
    let now = c.next.new.self in
    let looks : Looks c.args.lines.now now left left_now =
    record { counted = said.counted tells; within = said.within; at_end = said.at_end tells; stays = said.over_stays; below = said.over_below; little = next_little g.S.Source.left c.args.lines.now now c.args.source.now c.next.new.source c.in-Ok.next read.behind c.in-Ok.ensures.no_further (c.in-Ok.ensures.moves tells) } in
    end_ends read looks (subst (HasCause now) c.in-End.is c.in-Ok.ensures.cause)
    (subst (Moves (ahead c.args.lines.now left) (ahead now left_now) now) c.in-End.is (c.in-Ok.ensures.moves tells))

pub returns-in-Fault-clause-ends : goal.returns-in-Fault-clause-ends
returns-in-Fault-clause-ends g c = λ tells input read.
    let said = c.next.ensures in
    let left = g.S.Source.left c.args.source.now in
    let left_now = g.S.Source.left c.next.new.source in
    let now = c.next.new.self in
    let looks : Looks c.args.lines.now now left left_now =
    record { counted = said.counted tells; within = said.within; at_end = said.at_end tells; stays = said.over_stays; below = said.over_below; little = next_little g.S.Source.left c.args.lines.now now c.args.source.now c.next.new.source c.in-Ok.next read.behind c.in-Ok.ensures.no_further (c.in-Ok.ensures.moves tells) } in
    fault_ends read looks (subst (HasCause now) c.in-Fault.is c.in-Ok.ensures.cause)
    (subst (Moves (ahead c.args.lines.now left) (ahead now left_now) now) c.in-Fault.is (c.in-Ok.ensures.moves tells))

pub returns-in-TooLong-clause-ends : goal.returns-in-TooLong-clause-ends
returns-in-TooLong-clause-ends g c = λ tells input read.
    let said = c.next.ensures in
    let left = g.S.Source.left c.args.source.now in
    let left_now = g.S.Source.left c.next.new.source in
    let now = c.next.new.self in
    let looks : Looks c.args.lines.now now left left_now =
    record { counted = said.counted tells; within = said.within; at_end = said.at_end tells; stays = said.over_stays; below = said.over_below; little = next_little g.S.Source.left c.args.lines.now now c.args.source.now c.next.new.source c.in-Ok.next read.behind c.in-Ok.ensures.no_further (c.in-Ok.ensures.moves tells) } in
    much_ends read looks (subst (HasCause now) c.in-TooLong.is c.in-Ok.ensures.cause)
    (subst (Moves (ahead c.args.lines.now left) (ahead now left_now) now) c.in-TooLong.is (c.in-Ok.ensures.moves tells))

pub returns-in-LongLine-clause-ends : goal.returns-in-LongLine-clause-ends
returns-in-LongLine-clause-ends g c = λ tells input read.
    let said = c.next.ensures in
    let left = g.S.Source.left c.args.source.now in
    let left_now = g.S.Source.left c.next.new.source in
    let now = c.next.new.self in
    let looks : Looks c.args.lines.now now left left_now =
    record { counted = said.counted tells; within = said.within; at_end = said.at_end tells; stays = said.over_stays; below = said.over_below; little = next_little g.S.Source.left c.args.lines.now now c.args.source.now c.next.new.source c.in-Ok.next read.behind c.in-Ok.ensures.no_further (c.in-Ok.ensures.moves tells) } in
    long_ends read looks (subst (HasCause now) c.in-LongLine.is c.in-Ok.ensures.cause)
    (subst (Moves (ahead c.args.lines.now left) (ahead now left_now) now) c.in-LongLine.is (c.in-Ok.ensures.moves tells))
