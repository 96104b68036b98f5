use Rattle.std.proofs.Common.{[], ◌∷◌, ◌∙◌, sym, subst}
use Rattle.std.proofs.lemmas.Result.{err_from_is_err_and}
use Rattle.px_change.specs.declared.change.Change.{Change}
use Rattle.px_change.specs.declared.change.ChangeKind.TheVariants.{Tidy}
use Rattle.px_held.proofs.Serving.{anywhere}
use Rattle.px_held.specs.Serving.{Serves}
use Rattle.px_history.specs.Steps.{Step, after_step}
use Rattle.px_history.specs.Store.{Store}
use Rattle.px_tidying.specs.Opening.{Opening, opening}
use Rattle.px_tidying.proofs.Causes.{held_passes}
use Rattle.px_tidying.proofs.Composing.{OnlyReads, both_made, none_made, reads_then, reads_twice}
use Rattle.px_tidying.proofs.Made.{frame_holds, one_lasts, one_made, unlink_of}
use Rattle.px_tidying.proofs.Quiet.{still_then}
use Rattle.px_tidying.proofs.Readying.{IsFor, frame_is, goes_from, had_room, held_reads, its_slot, step_is}
use Rattle.px_tidying.proofs.tidying.unlink.Goals as goal

pub returns-in_err-xn-clause-sound : goal.returns-in_err-xn-clause-sound
returns-in_err-xn-clause-sound g c = λ tells.
    let p = err_from_is_err_and c.from_residual.result c.from_residual.ensures.1 in
    let store = c.requires.0 in
    let may = c.requires.2 in
    let has = c.requires.3 in
    rw (p.1, p.2) (held_passes c.in_err-xn.field-0.0
    (c.in_err-xn.ensures.sound tells store has.serves
    (its_slot store c.args.table c.args.row c.requires.1 c.args.version.now (opening (g.W.Site.state c.args.site.now) c.args.held.now c.args.log.now) has may)))

pub append-requires : goal.append-requires
append-requires g c =
    let store = c.requires.0 in
    let place = c.requires.1 in
    let may = c.requires.2 in
    let has = c.requires.3 in
    let tells = g.W.Site.tells in
    let first = opening (g.W.Site.state c.args.site.now) c.args.held.now c.args.log.now in
    let second = opening (g.W.Site.state c.writer_of.new.site) c.writer_of.new.self c.args.log.now in
    let third = opening (g.W.Site.state c.prepare_unlink.new.site) c.prepare_unlink.new.self c.args.log.now in
    let one : OnlyReads tells first second =
    held_reads tells first.site second.site first.held second.held c.args.log.now c.writer_of.ensures.keeps c.writer_of.ensures.form c.writer_of.ensures.same in
    let two : OnlyReads tells second third =
    held_reads tells second.site third.site second.held third.held c.args.log.now c.prepare_unlink.ensures.still c.prepare_unlink.ensures.form c.prepare_unlink.ensures.same in
    let then = two.store store (one.store store has) in
    let which = c.in_ok-prepared.ensures.which in
    let is : IsFor c.in_ok-prepared.prepared c.args.table c.args.row c.args.version.now.slot =
    record { table = c.in_ok-prepared.ensures.table; its_row = which.0; first = which.1; count = which.2 } in
    frame_holds store c.args.table c.args.row place c.args.version.now third
    (record { kind = Tidy; xn = c.in_ok-xn.xn; commit = 0; cells = c.in_ok-cells_unlinked.field-0 }) then may
    (frame_is store c.args.table c.args.row place c.args.version.now first third c.in_ok-prepared.prepared c.in_ok-xn.xn c.in_ok-cells_unlinked.field-0 may has then is
    c.in_ok-xn.ensures.writer c.in_ok-cells_unlinked.ensures)

pub returns-in_err-append-clause-lasts : goal.returns-in_err-append-clause-lasts
returns-in_err-append-clause-lasts g c = λ store place may has.
    let tells = g.W.Site.tells in
    let first = opening (g.W.Site.state c.args.site.now) c.args.held.now c.args.log.now in
    let second = opening (g.W.Site.state c.writer_of.new.site) c.writer_of.new.self c.args.log.now in
    let third = opening (g.W.Site.state c.prepare_unlink.new.site) c.prepare_unlink.new.self c.args.log.now in
    let last = opening (g.W.Site.state c.append.new.site) c.prepare_unlink.new.self c.append.new.self in
    let one : OnlyReads tells first second =
    held_reads tells first.site second.site first.held second.held c.args.log.now c.writer_of.ensures.keeps c.writer_of.ensures.form c.writer_of.ensures.same in
    let two : OnlyReads tells second third =
    held_reads tells second.site third.site second.held third.held c.args.log.now c.prepare_unlink.ensures.still c.prepare_unlink.ensures.form c.prepare_unlink.ensures.same in
    let then = two.store store (one.store store has) in
    let which = c.in_ok-prepared.ensures.which in
    let is : IsFor c.in_ok-prepared.prepared c.args.table c.args.row c.args.version.now.slot =
    record { table = c.in_ok-prepared.ensures.table; its_row = which.0; first = which.1; count = which.2 } in
    let change : Change = record { kind = Tidy; xn = c.in_ok-xn.xn; commit = 0; cells = c.in_ok-cells_unlinked.field-0 } in
    reads_then tells store first third last (reads_twice tells first second third one two) has
    (one_lasts tells store c.args.table c.args.row place c.args.version.now third last change may
    (frame_is store c.args.table c.args.row place c.args.version.now first third c.in_ok-prepared.prepared c.in_ok-xn.xn c.in_ok-cells_unlinked.field-0 may has then is
    c.in_ok-xn.ensures.writer c.in_ok-cells_unlinked.ensures)
    c.append.ensures.moments)

pub returns-clause-made : goal.returns-clause-made
returns-clause-made g c = λ store place may has.
    let tells = g.W.Site.tells in
    let first = opening (g.W.Site.state c.args.site.now) c.args.held.now c.args.log.now in
    let second = opening (g.W.Site.state c.writer_of.new.site) c.writer_of.new.self c.args.log.now in
    let third = opening (g.W.Site.state c.prepare_unlink.new.site) c.prepare_unlink.new.self c.args.log.now in
    let last = opening (g.W.Site.state c.append.new.site) c.lay_unlinked.new.self c.append.new.self in
    let one : OnlyReads tells first second =
    held_reads tells first.site second.site first.held second.held c.args.log.now c.writer_of.ensures.keeps c.writer_of.ensures.form c.writer_of.ensures.same in
    let two : OnlyReads tells second third =
    held_reads tells second.site third.site second.held third.held c.args.log.now c.prepare_unlink.ensures.still c.prepare_unlink.ensures.form c.prepare_unlink.ensures.same in
    let then = two.store store (one.store store has) in
    let which = c.in_ok-prepared.ensures.which in
    let is : IsFor c.in_ok-prepared.prepared c.args.table c.args.row c.args.version.now.slot =
    record { table = c.in_ok-prepared.ensures.table; its_row = which.0; first = which.1; count = which.2 } in
    let change : Change = record { kind = Tidy; xn = c.in_ok-xn.xn; commit = 0; cells = c.in_ok-cells_unlinked.field-0 } in
    let serves : Serves last.site last.held (after_step store (unlink_of c.args.table c.args.row place)) =
    subst (λ (step : Step). Serves last.site last.held (after_step store step)) (step_is c.args.table c.args.row place c.args.version.now.slot c.in_ok-prepared.prepared is)
    (c.lay_unlinked.ensures.step last.site store place (anywhere third.site last.site third.held store then.serves)
    (goes_from store c.args.table c.args.row place c.args.version.now c.in_ok-prepared.prepared may is)) in
    both_made tells store [] (unlink_of c.args.table c.args.row place ∷ []) first third last
    (none_made tells store first third (reads_twice tells first second third one two) has)
    (one_made tells store c.args.table c.args.row place c.args.version.now third last change then may
    (frame_is store c.args.table c.args.row place c.args.version.now first third c.in_ok-prepared.prepared c.in_ok-xn.xn c.in_ok-cells_unlinked.field-0 may has then is
    c.in_ok-xn.ensures.writer c.in_ok-cells_unlinked.ensures)
    serves c.lay_unlinked.ensures.form c.in_ok-append.ensures.marks (had_room c.args.log.now c.in_ok-append.field-0 c.in_ok-append.ensures.full)
    c.in_ok-append.ensures.logged c.append.ensures.moments c.append.ensures.touches)

pub returns-clause-lasts : goal.returns-clause-lasts
returns-clause-lasts g c = λ store place may has.
    let tells = g.W.Site.tells in
    let first = opening (g.W.Site.state c.args.site.now) c.args.held.now c.args.log.now in
    let second = opening (g.W.Site.state c.writer_of.new.site) c.writer_of.new.self c.args.log.now in
    let third = opening (g.W.Site.state c.prepare_unlink.new.site) c.prepare_unlink.new.self c.args.log.now in
    let last = opening (g.W.Site.state c.append.new.site) c.lay_unlinked.new.self c.append.new.self in
    let one : OnlyReads tells first second =
    held_reads tells first.site second.site first.held second.held c.args.log.now c.writer_of.ensures.keeps c.writer_of.ensures.form c.writer_of.ensures.same in
    let two : OnlyReads tells second third =
    held_reads tells second.site third.site second.held third.held c.args.log.now c.prepare_unlink.ensures.still c.prepare_unlink.ensures.form c.prepare_unlink.ensures.same in
    let then = two.store store (one.store store has) in
    let which = c.in_ok-prepared.ensures.which in
    let is : IsFor c.in_ok-prepared.prepared c.args.table c.args.row c.args.version.now.slot =
    record { table = c.in_ok-prepared.ensures.table; its_row = which.0; first = which.1; count = which.2 } in
    let change : Change = record { kind = Tidy; xn = c.in_ok-xn.xn; commit = 0; cells = c.in_ok-cells_unlinked.field-0 } in
    reads_then tells store first third last (reads_twice tells first second third one two) has
    (one_lasts tells store c.args.table c.args.row place c.args.version.now third last change may
    (frame_is store c.args.table c.args.row place c.args.version.now first third c.in_ok-prepared.prepared c.in_ok-xn.xn c.in_ok-cells_unlinked.field-0 may has then is
    c.in_ok-xn.ensures.writer c.in_ok-cells_unlinked.ensures)
    c.append.ensures.moments)

pub returns-in_err-append-clause-touches : goal.returns-in_err-append-clause-touches
returns-in_err-append-clause-touches g c = λ t.
    still_then (c.prepare_unlink.ensures.same t ∙ c.writer_of.ensures.same t) (c.append.ensures.touches t)

pub returns-clause-touches : goal.returns-clause-touches
returns-clause-touches g c = λ t.
    still_then (c.prepare_unlink.ensures.same t ∙ c.writer_of.ensures.same t) (c.append.ensures.touches t)
