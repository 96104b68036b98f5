use Rattle.std.proofs.Common.{ap, ◌∙◌}
use Rattle.px_cell_standing.specs.Found.{machine_of}
use Rattle.px_core.specs.Core.{durable_of, frames_of}
use Rattle.px_recovery.proofs.Again.{settles_later}
use Rattle.px_recovery.proofs.Quiet.{told_stays}
use Rattle.px_recovery.proofs.Refusals.{no_room_found}
use Rattle.px_recovery.proofs.opening.open_store.Goals as goal

pub returns-in-Ok-clause-told : goal.returns-in-Ok-clause-told
returns-in-Ok-clause-told g c t = rw c.over.ensures.core (told_stays (c.open_parts.ensures.quiet t))

pub returns-in-Err-clause-told : goal.returns-in-Err-clause-told
returns-in-Err-clause-told g c t = told_stays (c.open_parts.ensures.quiet t)

pub returns-in-Err-clause-sound : goal.returns-in-Err-clause-sound
returns-in-Err-clause-sound g c t found on =
    c.what_is_found_is_not_refused.ensures (g.W.Site.state c.args.site).content found c.in-Err.error on.is_found on.alone.content (c.in-Err.ensures.refused t)

pub returns-in-Err-clause-full : goal.returns-in-Err-clause-full
returns-in-Err-clause-full g c t found on =
    no_room_found (g.W.Site.state c.args.site).content found
    (λ frame. c.what_is_found_has_room.ensures (g.W.Site.state c.args.site).content found frame on.is_found on.alone.content) c.in-Err.error (c.in-Err.ensures.refused t)

pub returns-in-Ok-clause-stored : goal.returns-in-Ok-clause-stored
returns-in-Ok-clause-stored g c t found on =
    let begins = c.in-Ok.ensures.stored t found on in
    record {
      report_is = c.over.ensures.report ∙ begins.report_is;
      frames = ap (λ core. frames_of core) c.over.ensures.core ∙ begins.frames;
      durable = ap (λ core. durable_of core) c.over.ensures.core ∙ begins.durable;
      works = c.over.ensures.works (machine_of found) begins.life begins.restart begins.marks begins.may;
    }

pub returns-in-Ok-clause-touches : goal.returns-in-Ok-clause-touches
returns-in-Ok-clause-touches g c t = rw c.over.ensures.core (c.open_parts.ensures.touches t)

pub returns-in-Ok-clause-again : goal.returns-in-Ok-clause-again
returns-in-Ok-clause-again g c t commits rows settled =
    let law = c.what_own_files_leave_is_settled.ensures in
    rw c.over.ensures.core
    (settles_later commits rows law.one_file law.crashed settled (c.open_parts.ensures.moments t commits rows settled) (c.open_parts.ensures.touches t).own)

pub returns-in-Err-clause-again : goal.returns-in-Err-clause-again
returns-in-Err-clause-again g c t commits rows settled =
    let law = c.what_own_files_leave_is_settled.ensures in
    settles_later commits rows law.one_file law.crashed settled (c.open_parts.ensures.moments t commits rows settled) (c.open_parts.ensures.touches t).own
