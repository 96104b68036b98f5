use Rattle.std.proofs.Common.{refl}
use Rattle.px_log.proofs.Windows.{window_shows}
use Rattle.px_log.proofs.LogReading.{next_shown, foreign_shown, none_shown}
use Rattle.px_log.proofs.reader.next_change.Goals as goal

pub returns-in_default-clause-stops : goal.returns-in_default-clause-stops
returns-in_default-clause-stops g c t sees =
    let shows = window_shows _ c.cover.new.self c.args.place c.from.result.now (c.in_ok-cover.ensures.sees t sees) c.in_ok-cover.ensures.covers c.from.ensures in
    none_shown _ c.from.result.now c.args.number shows c.in_default.ensures.none

pub returns-in-Some-held-clause-next : goal.returns-in-Some-held-clause-next
returns-in-Some-held-clause-next g c t sees =
    let shows = window_shows _ c.cover.new.self c.args.place c.from.result.now (c.in_ok-cover.ensures.sees t sees) c.in_ok-cover.ensures.covers c.from.ensures in
    let held = rw c.in-Some-held.is at c.in_ok-held.ensures.some in
    next_shown _ c.from.result.now c.args.number c.in-Some.payload.now c.in-Some.size c.in-Some-held.change shows c.in-Some.ensures.found c.in-Some.ensures.size held.1

pub returns-in-None-clause-damage : goal.returns-in-None-clause-damage
returns-in-None-clause-damage g c t sees =
    let shows = window_shows _ c.cover.new.self c.args.place c.from.result.now (c.in_ok-cover.ensures.sees t sees) c.in_ok-cover.ensures.covers c.from.ensures in
    let foreign = rw c.in-None.is at c.in_ok-held.ensures.none in
    (c.log_file.ensures, refl, foreign_shown _ c.from.result.now c.args.restart.now c.args.number c.in-Some.payload.now shows c.in-Some.ensures.found foreign)
