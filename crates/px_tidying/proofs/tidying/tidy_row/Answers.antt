use Rattle.std.proofs.Common.{◌+◌, arith, get_or, length, take, ◌∙◌}
use Rattle.px_history.specs.Steps.{after_steps}
use Rattle.px_history.specs.Store.{versions_of}
use Rattle.px_log.proofs.Touching.{touches_less}
use Rattle.px_site.proofs.Causes.{then_none_fell}
use Rattle.px_tidy.specs.Kept.{tidied_away}
use Rattle.px_tidy.specs.Numbers.{done_of}
use Rattle.px_tidy.specs.Steps.{tidying_row}
use Rattle.px_tidying.specs.Errors.{IsFullWithin}
use Rattle.px_tidying.specs.Opening.{opening}
use Rattle.px_tidying.proofs.Composing.{OnlyReads, both_last, none_made, reads_last}
use Rattle.px_tidying.proofs.Full.{full_behind}
use Rattle.px_tidying.proofs.Loops.{all_made, next_goes, one_more, one_within}
use Rattle.px_tidying.proofs.Next.{if_err}
use Rattle.px_tidying.proofs.Quiet.{touches_behind}
use Rattle.px_tidying.proofs.Readying.{held_reads}
use Rattle.px_tidying.proofs.tidying.tidy_row.Goals as goal

pub loop-version-init : goal.loop-version-init
loop-version-init g c =
    let tells = g.W.Site.tells in
    let first = opening (g.W.Site.state c.args.site.now) c.args.held.now c.args.log.now in
    let second = opening (g.W.Site.state c.versions_to_tidy.new.site) c.versions_to_tidy.new.self c.args.log.now in
    let reads : OnlyReads tells first second =
    held_reads tells first.site second.site first.held second.held c.args.log.now c.versions_to_tidy.ensures.keeps c.versions_to_tidy.ensures.form c.versions_to_tidy.ensures.same in
    record {
      made = λ store is has. none_made tells store first second reads has;
      lasts = λ store is has. reads_last tells store first second c.versions_to_tidy.ensures.same;
      none_fell = c.versions_to_tidy.ensures.none_fell;
    }

pub unlink-requires : goal.unlink-requires
unlink-requires g c =
    let store = c.requires.0 in
    let is = c.requires.1 in
    let has = c.requires.2 in
    let row = c.args.row in
    let table = c.args.table in
    let index = c.loop-version.version-index in
    let old = opening (g.W.Site.state c.args.site.now) c.args.held.now c.args.log.now in
    let are = c.deref-version-items.ensures.value ∙ c.in_ok-versions.ensures.versions store has.serves is.1 in (
      after_steps store (take index (tidying_row store table row)),
      get_or (tidied_away store.done (versions_of store table row)) index 0,
      next_goes (done_of c.args.done.now) table row store old c.deref-version-items.result.now is has are index (record { slot = 0; newer = 0 }) c.loop-version-test.true,
      (c.loop-version.invariant.made store is has).after,
    )

pub returns-in_err-unlink-clause-lasts : goal.returns-in_err-unlink-clause-lasts
returns-in_err-unlink-clause-lasts g c = λ store is has.
    let row = c.args.row in
    let table = c.args.table in
    let index = c.loop-version.version-index in
    let old = opening (g.W.Site.state c.args.site.now) c.args.held.now c.args.log.now in
    let now = opening (g.W.Site.state c.loop-version.site) c.loop-version.held c.loop-version.log in
    let new = opening (g.W.Site.state c.unlink.new.site) c.unlink.new.held c.unlink.new.log in
    let are = c.deref-version-items.ensures.value ∙ c.in_ok-versions.ensures.versions store has.serves is.1 in
    let made = c.loop-version.invariant.made store is has in
    both_last g.W.Site.tells store (take index (tidying_row store table row)) old now new made (c.loop-version.invariant.lasts store is has)
    (c.unlink.ensures.lasts (after_steps store (take index (tidying_row store table row))) (get_or (tidied_away store.done (versions_of store table row)) index 0)
    (next_goes (done_of c.args.done.now) table row store old c.deref-version-items.result.now is has are index (record { slot = 0; newer = 0 }) c.loop-version-test.true)
    made.after)

pub loop-version-preserved : goal.loop-version-preserved
loop-version-preserved g c =
    let tells = g.W.Site.tells in
    let row = c.args.row in
    let table = c.args.table in
    let done = done_of c.args.done.now in
    let index = c.loop-version.version-index in
    let versions = c.deref-version-items.result.now in
    let within = c.loop-version-test.true in
    let old = opening (g.W.Site.state c.args.site.now) c.args.held.now c.args.log.now in
    let now = opening (g.W.Site.state c.loop-version.site) c.loop-version.held c.loop-version.log in
    let new = opening (g.W.Site.state c.unlink.new.site) c.unlink.new.held c.unlink.new.log in
    record {
      made = λ store is has.
          let are = c.deref-version-items.ensures.value ∙ c.in_ok-versions.ensures.versions store has.serves is.1 in
          let made = c.loop-version.invariant.made store is has in
          one_more done table row store old versions is has are tells index now new within made
          (c.in_ok-unlink.ensures.made (after_steps store (take index (tidying_row store table row))) (get_or (tidied_away store.done (versions_of store table row)) index 0)
          (next_goes done table row store old versions is has are index (record { slot = 0; newer = 0 }) within) made.after);
      lasts = λ store is has.
          let are = c.deref-version-items.ensures.value ∙ c.in_ok-versions.ensures.versions store has.serves is.1 in
          let made = c.loop-version.invariant.made store is has in
          both_last tells store (take index (tidying_row store table row)) old now new made (c.loop-version.invariant.lasts store is has)
          (c.unlink.ensures.lasts (after_steps store (take index (tidying_row store table row))) (get_or (tidied_away store.done (versions_of store table row)) index 0)
          (next_goes done table row store old versions is has are index (record { slot = 0; newer = 0 }) within) made.after);
      none_fell = then_none_fell c.loop-version.invariant.none_fell c.unlink.ensures.none_fell;
    }

pub returns-clause-made : goal.returns-clause-made
returns-clause-made g c = λ store is has.
    let old = opening (g.W.Site.state c.args.site.now) c.args.held.now c.args.log.now in
    let now = opening (g.W.Site.state c.loop-version.site) c.loop-version.held c.loop-version.log in
    let are = c.deref-version-items.ensures.value ∙ c.in_ok-versions.ensures.versions store has.serves is.1 in
    all_made (done_of c.args.done.now) c.args.table c.args.row store old c.deref-version-items.result.now is has are g.W.Site.tells c.loop-version.version-index now
    c.loop-version-test.false (c.loop-version.invariant.made store is has)

pub returns-in_err-unlink-clause-touches : goal.returns-in_err-unlink-clause-touches
returns-in_err-unlink-clause-touches g c = λ store is has t.
    let row = c.args.row in
    let table = c.args.table in
    let index = c.loop-version.version-index in
    let old = opening (g.W.Site.state c.args.site.now) c.args.held.now c.args.log.now in
    let now = opening (g.W.Site.state c.loop-version.site) c.loop-version.held c.loop-version.log in
    let are = c.deref-version-items.ensures.value ∙ c.in_ok-versions.ensures.versions store has.serves is.1 in
    let steps = tidying_row store table row in
    let within = one_within (done_of c.args.done.now) table row store old c.deref-version-items.result.now is has are index c.loop-version-test.true in
    touches_behind g.W.Site.tells store (take index steps) old now (g.W.Site.state c.unlink.new.site) 1 (length steps + 1) t (c.loop-version.invariant.made store is has)
    (omega (arith, within)) (c.unlink.ensures.touches t)

pub returns-clause-touches : goal.returns-clause-touches
returns-clause-touches g c = λ store is has t.
    let old = opening (g.W.Site.state c.args.site.now) c.args.held.now c.args.log.now in
    let now = opening (g.W.Site.state c.loop-version.site) c.loop-version.held c.loop-version.log in
    let are = c.deref-version-items.ensures.value ∙ c.in_ok-versions.ensures.versions store has.serves is.1 in
    let made = all_made (done_of c.args.done.now) c.args.table c.args.row store old c.deref-version-items.result.now is has are g.W.Site.tells c.loop-version.version-index now
    c.loop-version-test.false (c.loop-version.invariant.made store is has) in
    touches_less (omega arith) (made.touches t)

pub returns-in_err-unlink-clause-full : goal.returns-in_err-unlink-clause-full
returns-in_err-unlink-clause-full g c = λ store is has.
    let row = c.args.row in
    let table = c.args.table in
    let index = c.loop-version.version-index in
    let old = opening (g.W.Site.state c.args.site.now) c.args.held.now c.args.log.now in
    let now = opening (g.W.Site.state c.loop-version.site) c.loop-version.held c.loop-version.log in
    let are = c.deref-version-items.ensures.value ∙ c.in_ok-versions.ensures.versions store has.serves is.1 in
    let steps = tidying_row store table row in
    let error = c.in_err-unlink.field-0.0 in
    if_err c.from_residual-in_err-unlink.result (IsFullWithin old.log.frames (old.log.frames + length steps)) error c.from_residual-in_err-unlink.ensures.1
    (full_behind g.W.Site.tells store (take index steps) old now 1 (length steps) error (c.loop-version.invariant.made store is has)
    (one_within (done_of c.args.done.now) table row store old c.deref-version-items.result.now is has are index c.loop-version-test.true)
    c.in_err-unlink.ensures.full)
