use Rattle.std.proofs.Common.{◌≡◌, ◌≤◌, Option, subst, refl}
use Rattle.std.proofs.lemmas.Result.{err_from_is_err_and}
use Rattle.std.specs.Prelude.{IfSome}
use Rattle.px_answers.proofs.Leaving.{then_stays}
use Rattle.px_answers.specs.Reading.{Stays}
use Rattle.px_held.specs.declared.run.Run.{Run}
use Rattle.px_held.specs.Sweeping.{GoesWith}
use Rattle.px_held.specs.Unlinking.{HasVersions}
use Rattle.px_working.specs.Follows.{last_store}
use Rattle.px_core.specs.declared.state.Kept.{Kept}
use Rattle.px_core.proofs.Gone.{IsPreparedOf, gone_error, gone_found, gone_nothing, may_sweep, swept_next, takes_nothing}
use Rattle.px_core.proofs.state.Kept.versions_with.Goals as goal

pub returns-in_err-run : goal.returns-in_err-run
returns-in_err-run g c =
    let p = err_from_is_err_and c.from_residual.result c.from_residual.ensures.1 in
    let state = g.W.Site.state in
    let old : Kept g.row.W.Denot = c.args.self.now in
    let new : Kept g.row.W.Denot = record old { site = c.versions_to_sweep.new.site; held = c.versions_to_sweep.new.self } in
    let found = c.versions_to_sweep.ensures in
    rw (p.1, p.2)
    (gone_error g.W.Site.tells state g.W.Site.counts c.args.due.now old new c.requires.well refl
    (record { form = found.form; keeps = found.keeps; same = found.same; none_fell = found.none_fell }) c.in_err-run.field-0.0 c.in_err-run.ensures.fault
    (λ t m works.
    let next = swept_next state old m works c.args.due.now c.requires.due in
    c.in_err-run.ensures.sound t (last_store works.life) next.1 works.has.store.serves next.2.at))

pub returns-in_default : goal.returns-in_default
returns-in_default g c =
    let state = g.W.Site.state in
    let due = c.args.due.now in
    let old : Kept g.row.W.Denot = c.args.self.now in
    let new : Kept g.row.W.Denot = record old { site = c.versions_to_sweep.new.site; held = c.versions_to_sweep.new.self } in
    let found = c.versions_to_sweep.ensures in
    gone_nothing g.W.Site.tells state g.W.Site.counts due old new c.requires.well refl
    (record { form = found.form; keeps = found.keeps; same = found.same; none_fell = found.none_fell })
    (λ m works.
    let store = last_store works.life in
    let next = swept_next state old m works due c.requires.due in
    takes_nothing m store due next.0 next.1 next.2
    (subst (GoesWith store due next.1) c.in_default.is (c.in_ok-run.ensures.goes store next.1 works.has.store.serves next.2.at)))

pub returns : goal.returns
returns g c =
    let tells = g.W.Site.tells in
    let state = g.W.Site.state in
    let counts = g.W.Site.counts in
    let due = c.args.due.now in
    let run = c.in-Some.run' in
    let prepared = c.in_ok-prepared.prepared in
    let old : Kept g.row.W.Denot = c.args.self.now in
    let new : Kept g.row.W.Denot = record old { site = c.prepare_unlink.new.site; held = c.prepare_unlink.new.self } in
    let well = c.requires.well in
    let found = c.versions_to_sweep.ensures in
    let ready = c.prepare_unlink.ensures in
    let first : Stays tells state counts c.args.self.now.site c.versions_to_sweep.new.site c.args.self.now.held c.versions_to_sweep.new.self =
    record { form = found.form; keeps = found.keeps; same = found.same; none_fell = found.none_fell } in
    let second : Stays tells state counts c.versions_to_sweep.new.site c.prepare_unlink.new.site c.versions_to_sweep.new.self c.prepare_unlink.new.self =
    record { form = ready.form; keeps = ready.still; same = ready.same; none_fell = ready.none_fell } in
    let is : IsPreparedOf due run prepared = record {
      table = c.in_ok-prepared.ensures.table;
      row = c.in_ok-prepared.ensures.which.0;
      first = c.in_ok-prepared.ensures.which.1;
      count = c.in_ok-prepared.ensures.which.2;
    } in
    gone_found tells state counts due old new well refl (then_stays first second) run prepared is c.in_ok-prepared.ensures.ready
    (subst (λ (o : Option Run). IfSome o (λ r. r.count ≤ 2)) c.in-Some.is c.in_ok-run.ensures.few)
    (subst (λ (o : Option Run). IfSome o (λ r. HasVersions well.store due.table due.row r.newer r.first r.count)) c.in-Some.is
    (c.in_ok-run.ensures.stand well.store well.has.serves))
    c.requires.due
    (λ m works.
    let store = last_store works.life in
    let next = swept_next state old m works due c.requires.due in
    may_sweep m store due next.0 next.1 run prepared next.2
    (subst (GoesWith store due next.1) c.in-Some.is (c.in_ok-run.ensures.goes store next.1 works.has.store.serves next.2.at)) is)
