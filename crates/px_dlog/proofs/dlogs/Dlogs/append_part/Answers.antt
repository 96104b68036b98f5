use Rattle.std.proofs.Common.{◌≡◌, length, refl, sym, ap, subst, ◌∙◌, arith}
use Rattle.std.proofs.lemmas.Result.{err_from_is_err_and}
use Rattle.px_site.specs.State.{State}
use Rattle.px_site.specs.declared.name.FileName.{FileName}
use Rattle.px_site.specs.declared.name.FileName.TheVariants.{Dlog}
use Rattle.px_dlog.specs.Errors.{of_site}
use Rattle.px_dlog.specs.Inventory.{Kept, kept_of, logs_of}
use Rattle.px_dlog.specs.Logs.{IsDlogOf, Stored, to_close}
use Rattle.px_dlog.proofs.Appending.{append_dlog, append_moments, at_place, change_unspoiled, grown_from, is_end, is_synced, others_rest, sync_unspoiled, synced_keeps, unless_fault}
use Rattle.px_dlog.proofs.dlogs.Dlogs.append_part.Goals as goal

pub returns-in_err-write_at-clause-moments : goal.returns-in_err-write_at-clause-moments
returns-in_err-write_at-clause-moments g c t = λ parts is.
    let images = λ (name : FileName). g.met.W.Site.reads_image t c.args.site.now name in
    let later = λ (name : FileName). g.met.W.Site.reads_image t c.sync_log.new.site name in
    let e = c.in-Some.ensures in
    let end = is_end c.self.view_is e.from_one e.place e.fresh e.current in
    let sync = is_synced _ _ _ _ images (c.in_ok-sync_log.ensures.syncs t) in
    append_moments _ c.in-Some.end.log c.from.result _ _ _ _ later sync
    (c.from.ensures ∙ end.place_is ∙ sym (is.lengths c.in-Some.end.log end.from_one) ∙ ap length (sym (c.in_ok-sync_log.ensures.contents t (Dlog c.in-Some.end.log))))
    (c.in_ok-sync_log.ensures.moments t) (c.write_at.ensures.moves t)

pub returns-clause-moments : goal.returns-clause-moments
returns-clause-moments g c t = λ parts is.
    let images = λ (name : FileName). g.met.W.Site.reads_image t c.args.site.now name in
    let later = λ (name : FileName). g.met.W.Site.reads_image t c.sync_log.new.site name in
    let e = c.in-Some.ensures in
    let end = is_end c.self.view_is e.from_one e.place e.fresh e.current in
    let sync = is_synced _ _ _ _ images (c.in_ok-sync_log.ensures.syncs t) in
    append_moments _ c.in-Some.end.log c.from.result _ _ _ _ later sync
    (c.from.ensures ∙ end.place_is ∙ sym (is.lengths c.in-Some.end.log end.from_one) ∙ ap length (sym (c.in_ok-sync_log.ensures.contents t (Dlog c.in-Some.end.log))))
    (c.in_ok-sync_log.ensures.moments t) (c.write_at.ensures.moves t)

pub returns-clause-appended : goal.returns-clause-appended
returns-clause-appended g c t = λ parts is.
    let images = λ (name : FileName). g.met.W.Site.reads_image t c.args.site.now name in
    let e = c.in-Some.ensures in
    let end = is_end c.self.view_is e.from_one e.place e.fresh e.current in
    let part : Stored = record { part = record { log = c.in-Some.end.log; place = c.in-Some.end.place; length = length c.args.bytes.now; table = c.args.table; slot = c.args.slot }; bytes = c.args.bytes.now } in
    let closes : c.to_close.result ≡ to_close (logs_of c.args.self.now) c.in-Some.end.place =
    c.to_close.ensures ∙ ap (λ (k : Kept). to_close (logs_of k) c.in-Some.end.place) (c.in_ok-reserve.ensures.same ∙ c.self.view_is) in
    let rest = others_rest _ _ (logs_of c.args.self.now) c.in-Some.end.log c.in-Some.end.place parts _ _ images closes (c.in_ok-sync_log.ensures.syncs t) end is in
    let same = c.in_ok-reserve.ensures.same ∙ c.self.view_is in
    append_dlog _ (logs_of c.args.self.now) _ part c.as_slice-text.result.now _ _ _ end
    (record { can = record { table_fits = omega arith; slot_fits = omega arith; shortest = c.requires.shortest; longest = c.requires.longest }; length_is = refl })
    (grown_from same (ap length c.as_slice-text.ensures.value ∙ c.in_ok-fill.ensures.size) c.extend.ensures.logs) (λ name. c.in_ok-sync_log.ensures.contents t name) (c.as_slice-text.ensures.value ∙ c.in_ok-fill.ensures.text) (at_place c.from.ensures (c.in_ok-write_at.ensures.moves t)) is.lengths parts rest is

pub returns-in_err-sync_log-clause-kept : goal.returns-in_err-sync_log-clause-kept
returns-in_err-sync_log-clause-kept g c = λ t parts is.
    let p = err_from_is_err_and c.from_residual-in_err-sync_log.result c.from_residual-in_err-sync_log.ensures.1 in
    let before = g.W.Site.state c.args.site.now in
    let now = g.W.Site.state c.sync_log.new.site in
    let logs = kept_of c.reserve.new.self in
    let same : logs ≡ c.args.self.now = c.in_ok-reserve.ensures.same ∙ c.self.view_is in
    let error = c.in_err-sync_log.field-0.0 in
    rw (p.1, p.2) (unless_fault (now ≡ before) (IsDlogOf (logs_of logs) parts now) (of_site error)
    (λ untouched. subst (λ (k : Kept). IsDlogOf (logs_of k) parts now) (sym same) (subst (λ (s : State). IsDlogOf (logs_of c.args.self.now) parts s) (sym untouched) is))
    (sync_unspoiled _ c.to_close.result before now error (c.in_err-sync_log.ensures.syncs t)))

pub returns-in_err-write_at-clause-kept : goal.returns-in_err-write_at-clause-kept
returns-in_err-write_at-clause-kept g c = λ t parts is.
    let p = err_from_is_err_and c.from_residual-in_err-write_at.result c.from_residual-in_err-write_at.ensures.1 in
    let images = λ (name : FileName). g.met.W.Site.reads_image t c.args.site.now name in
    let before = g.W.Site.state c.sync_log.new.site in
    let now = g.W.Site.state c.write_at.new.self in
    let logs = kept_of c.reserve.new.self in
    let same : logs ≡ c.args.self.now = c.in_ok-reserve.ensures.same ∙ c.self.view_is in
    let error = c.in_err-write_at.field-0.0 in
    let kept : IsDlogOf (logs_of c.args.self.now) parts before =
    synced_keeps _ c.to_close.result (logs_of c.args.self.now) parts _ before images (c.in_ok-sync_log.ensures.syncs t) (λ name. c.in_ok-sync_log.ensures.contents t name) is in
    rw (p.1, p.2) (unless_fault (now ≡ before) (IsDlogOf (logs_of logs) parts now) (of_site error)
    (λ untouched. subst (λ (k : Kept). IsDlogOf (logs_of k) parts now) (sym same) (subst (λ (s : State). IsDlogOf (logs_of c.args.self.now) parts s) (sym untouched) kept))
    (change_unspoiled before now error (c.in_err-write_at.ensures.moves t)))
