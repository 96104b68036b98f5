use Rattle.std.proofs.Common.{◌≡◌, ℕ, ◌+◌, List, arith, length, subst}
use Rattle.px_held.proofs.Serving.{served}
use Rattle.px_history.specs.Steps.{Step, after_steps}
use Rattle.px_log.proofs.Touching.{touches_less}
use Rattle.px_site.proofs.Causes.{then_none_fell}
use Rattle.px_tidy.specs.Numbers.{done_of}
use Rattle.px_tidy.specs.Steps.{tidying_table, tidying_tables}
use Rattle.px_tidying.specs.Errors.{IsFullWithin}
use Rattle.px_tidying.specs.Opening.{Made, opening}
use Rattle.px_tidying.proofs.Composing.{both_last, both_made}
use Rattle.px_tidying.proofs.Full.{full_behind, up_to_table}
use Rattle.px_tidying.proofs.Next.{if_err}
use Rattle.px_tidying.proofs.Quiet.{touches_behind}
use Rattle.px_tidying.proofs.Rows.{next_is_done, next_table_steps}
use Rattle.px_tidying.proofs.tidying.tidy_tables.Goals as goal

pub tidy_table-requires : goal.tidy_table-requires
tidy_table-requires g c =
    let store = c.requires.store.0 in
    let is = c.requires.store.1 in
    let has = c.requires.store.2 in
    let last = c.loop-before.before in
    let old = opening (g.W.Site.state c.args.site.now) c.args.held.now c.args.log.now in (
      after_steps store (tidying_tables store last),
      next_is_done old.held.short store last (served old.site old.held store has.serves).sound (done_of c.args.done.now) is,
      (c.loop-before.invariant.made store is has).after,
    )

pub returns-in_err-tidy_table-clause-lasts : goal.returns-in_err-tidy_table-clause-lasts
returns-in_err-tidy_table-clause-lasts g c = λ store is has.
    let last = c.loop-before.before in
    let old = opening (g.W.Site.state c.args.site.now) c.args.held.now c.args.log.now in
    let now = opening (g.W.Site.state c.loop-before.site) c.loop-before.held c.loop-before.log in
    let new = opening (g.W.Site.state c.tidy_table.new.site) c.tidy_table.new.held c.tidy_table.new.log in
    let made = c.loop-before.invariant.made store is has in
    let done = next_is_done old.held.short store last (served old.site old.held store has.serves).sound (done_of c.args.done.now) is in
    both_last g.W.Site.tells store (tidying_tables store last) old now new made (c.loop-before.invariant.lasts store is has)
    (c.tidy_table.ensures.lasts (after_steps store (tidying_tables store last)) done made.after)

pub loop-before-preserved : goal.loop-before-preserved
loop-before-preserved g c =
    let tells = g.W.Site.tells in
    let last = c.loop-before.before in
    let old = opening (g.W.Site.state c.args.site.now) c.args.held.now c.args.log.now in
    let now = opening (g.W.Site.state c.loop-before.site) c.loop-before.held c.loop-before.log in
    let new = opening (g.W.Site.state c.tidy_table.new.site) c.tidy_table.new.held c.tidy_table.new.log in
    record {
      made = λ store is has.
          let made = c.loop-before.invariant.made store is has in
          let middle = after_steps store (tidying_tables store last) in
          let sound = (served old.site old.held store has.serves).sound in
          let done = next_is_done old.held.short store last sound (done_of c.args.done.now) is in
          subst (λ (l : List Step). Made tells store l old new) (next_table_steps old.held.short store last sound (last + 1) (omega arith))
          (both_made tells store (tidying_tables store last) (tidying_table middle (last + 1)) old now new made (c.in_ok-tidy_table.ensures.made middle done made.after));
      lasts = λ store is has.
          let made = c.loop-before.invariant.made store is has in
          let done = next_is_done old.held.short store last (served old.site old.held store has.serves).sound (done_of c.args.done.now) is in
          both_last tells store (tidying_tables store last) old now new made (c.loop-before.invariant.lasts store is has)
          (c.tidy_table.ensures.lasts (after_steps store (tidying_tables store last)) done made.after);
      none_fell = then_none_fell c.loop-before.invariant.none_fell c.tidy_table.ensures.none_fell;
    }

pub returns-clause-made : goal.returns-clause-made
returns-clause-made g c = λ store is has.
    let old = opening (g.W.Site.state c.args.site.now) c.args.held.now c.args.log.now in
    let now = opening (g.W.Site.state c.loop-before.site) c.loop-before.held c.loop-before.log in
    let end : c.loop-before.before ≡ c.args.tables = omega (arith, c.loop-before.auto.before-end, c.loop-before-test.false) in
    subst (λ (n : ℕ). Made g.W.Site.tells store (tidying_tables store n) old now) end (c.loop-before.invariant.made store is has)

pub returns-in_err-tidy_table-clause-touches : goal.returns-in_err-tidy_table-clause-touches
returns-in_err-tidy_table-clause-touches g c = λ store is has t.
    let tells = g.W.Site.tells in
    let last = c.loop-before.before in
    let old = opening (g.W.Site.state c.args.site.now) c.args.held.now c.args.log.now in
    let now = opening (g.W.Site.state c.loop-before.site) c.loop-before.held c.loop-before.log in
    let made = c.loop-before.invariant.made store is has in
    let middle = after_steps store (tidying_tables store last) in
    let sound = (served old.site old.held store has.serves).sound in
    let steps = tidying_table middle (last + 1) in
    let all = tidying_tables store c.args.tables in
    let within = up_to_table store last (last + 1) c.args.tables steps (omega (arith, c.loop-before-test.true)) (next_table_steps old.held.short store last sound (last + 1) (omega arith)) in
    touches_behind tells store (tidying_tables store last) old now (g.W.Site.state c.tidy_table.new.site) (length steps + 1) (length all + 1) t made (omega (arith, within))
    (c.tidy_table.ensures.touches middle (next_is_done old.held.short store last sound (done_of c.args.done.now) is) made.after t)

pub returns-clause-touches : goal.returns-clause-touches
returns-clause-touches g c = λ store is has t.
    let old = opening (g.W.Site.state c.args.site.now) c.args.held.now c.args.log.now in
    let now = opening (g.W.Site.state c.loop-before.site) c.loop-before.held c.loop-before.log in
    let end : c.loop-before.before ≡ c.args.tables = omega (arith, c.loop-before.auto.before-end, c.loop-before-test.false) in
    let made = subst (λ (n : ℕ). Made g.W.Site.tells store (tidying_tables store n) old now) end (c.loop-before.invariant.made store is has) in
    touches_less (omega arith) (made.touches t)

pub returns-in_err-tidy_table-clause-full : goal.returns-in_err-tidy_table-clause-full
returns-in_err-tidy_table-clause-full g c = λ store is has.
    let tells = g.W.Site.tells in
    let last = c.loop-before.before in
    let old = opening (g.W.Site.state c.args.site.now) c.args.held.now c.args.log.now in
    let now = opening (g.W.Site.state c.loop-before.site) c.loop-before.held c.loop-before.log in
    let made = c.loop-before.invariant.made store is has in
    let middle = after_steps store (tidying_tables store last) in
    let sound = (served old.site old.held store has.serves).sound in
    let steps = tidying_table middle (last + 1) in
    let all = tidying_tables store c.args.tables in
    let error = c.in_err-tidy_table.field-0.0 in
    if_err c.from_residual.result (IsFullWithin old.log.frames (old.log.frames + length all)) error c.from_residual.ensures.1
    (full_behind tells store (tidying_tables store last) old now (length steps) (length all) error made
    (up_to_table store last (last + 1) c.args.tables steps (omega (arith, c.loop-before-test.true)) (next_table_steps old.held.short store last sound (last + 1) (omega arith)))
    (c.in_err-tidy_table.ensures.full middle (next_is_done old.held.short store last sound (done_of c.args.done.now) is) made.after))
