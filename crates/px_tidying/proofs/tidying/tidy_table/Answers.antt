use Rattle.std.proofs.Common.{ℕ, ◌+◌, List, None, Option, arith, length, subst}
use Rattle.std.specs.Prelude.{MatchOption}
use Rattle.px_held.proofs.Serving.{served}
use Rattle.px_history.specs.Steps.{Step, after_steps}
use Rattle.px_site.proofs.Causes.{then_none_fell}
use Rattle.px_tidy.specs.Numbers.{done_of}
use Rattle.px_tidy.specs.Rows.{HasNoRowPast, IsNextRow}
use Rattle.px_tidy.specs.Steps.{tidying_row, tidying_rows, tidying_table}
use Rattle.px_tidying.specs.Errors.{IsFullWithin}
use Rattle.px_tidying.specs.Opening.{Made, opening}
use Rattle.px_tidying.proofs.Composing.{OnlyReads, both_last, both_made, made_still, reads_then}
use Rattle.px_tidying.proofs.Full.{full_behind, up_to_row, up_to_used}
use Rattle.px_tidying.proofs.Next.{if_err}
use Rattle.px_tidying.proofs.Quiet.{still_behind, touches_behind}
use Rattle.px_tidying.proofs.Readying.{held_reads}
use Rattle.px_tidying.proofs.Rows.{next_before, next_has_row, next_row_steps, none_before}
use Rattle.px_tidying.proofs.tidying.tidy_table.Goals as goal

pub tidy_row-requires : goal.tidy_row-requires
tidy_row-requires g c =
    let store = c.requires.0 in
    let is = c.requires.1 in
    let has = c.requires.2 in
    let table = c.args.table in
    let last = c.loop-row.last in
    let log = c.loop-row.log in
    let old = opening (g.W.Site.state c.args.site.now) c.args.held.now c.args.log.now in
    let now = opening (g.W.Site.state c.loop-row.site) c.loop-row.held log in
    let second = opening (g.W.Site.state c.next_row.new.site) c.next_row.new.self log in
    let reads : OnlyReads g.W.Site.tells now second =
    held_reads g.W.Site.tells now.site second.site now.held second.held log c.next_row.ensures.keeps c.next_row.ensures.form c.next_row.ensures.same in
    let made = c.loop-row.invariant.made store is has in
    let middle = after_steps store (tidying_rows store table last) in
    let next = subst (λ (o : Option ℕ). MatchOption o (HasNoRowPast (middle.tables table) last) (IsNextRow (middle.tables table) last)) c.in-Some.is
    (c.in_ok-row.ensures.next middle made.after.serves) in (
      middle,
      next_has_row old.held.short store table last (served old.site old.held store has.serves).sound (done_of c.args.done.now) c.in-Some.row is next,
      reads.store middle made.after,
    )

pub returns-in_err-tidy_row-clause-lasts : goal.returns-in_err-tidy_row-clause-lasts
returns-in_err-tidy_row-clause-lasts g c = λ store is has.
    let tells = g.W.Site.tells in
    let table = c.args.table in
    let last = c.loop-row.last in
    let log = c.loop-row.log in
    let old = opening (g.W.Site.state c.args.site.now) c.args.held.now c.args.log.now in
    let now = opening (g.W.Site.state c.loop-row.site) c.loop-row.held log in
    let second = opening (g.W.Site.state c.next_row.new.site) c.next_row.new.self log in
    let new = opening (g.W.Site.state c.tidy_row.new.site) c.tidy_row.new.held c.tidy_row.new.log in
    let reads : OnlyReads tells now second =
    held_reads tells now.site second.site now.held second.held log c.next_row.ensures.keeps c.next_row.ensures.form c.next_row.ensures.same in
    let made = c.loop-row.invariant.made store is has in
    let middle = after_steps store (tidying_rows store table last) in
    let next = subst (λ (o : Option ℕ). MatchOption o (HasNoRowPast (middle.tables table) last) (IsNextRow (middle.tables table) last)) c.in-Some.is
    (c.in_ok-row.ensures.next middle made.after.serves) in
    let row = next_has_row old.held.short store table last (served old.site old.held store has.serves).sound (done_of c.args.done.now) c.in-Some.row is next in
    both_last tells store (tidying_rows store table last) old now new made (c.loop-row.invariant.lasts store is has)
    (reads_then tells middle now second new reads made.after (c.tidy_row.ensures.lasts middle row (reads.store middle made.after)))

pub loop-row-preserved : goal.loop-row-preserved
loop-row-preserved g c =
    let tells = g.W.Site.tells in
    let table = c.args.table in
    let last = c.loop-row.last in
    let log = c.loop-row.log in
    let old = opening (g.W.Site.state c.args.site.now) c.args.held.now c.args.log.now in
    let now = opening (g.W.Site.state c.loop-row.site) c.loop-row.held log in
    let second = opening (g.W.Site.state c.next_row.new.site) c.next_row.new.self log in
    let new = opening (g.W.Site.state c.tidy_row.new.site) c.tidy_row.new.held c.tidy_row.new.log in
    let reads : OnlyReads tells now second =
    held_reads tells now.site second.site now.held second.held log c.next_row.ensures.keeps c.next_row.ensures.form c.next_row.ensures.same in
    record {
      made = λ store is has.
          let made = c.loop-row.invariant.made store is has in
          let middle = after_steps store (tidying_rows store table last) in
          let sound = (served old.site old.held store has.serves).sound in
          let next = subst (λ (o : Option ℕ). MatchOption o (HasNoRowPast (middle.tables table) last) (IsNextRow (middle.tables table) last)) c.in-Some.is
          (c.in_ok-row.ensures.next middle made.after.serves) in
          let row = next_has_row old.held.short store table last sound (done_of c.args.done.now) c.in-Some.row is next in
          subst (λ (l : List Step). Made tells store l old new) (next_row_steps old.held.short store table last sound c.in-Some.row next)
          (both_made tells store (tidying_rows store table last) (tidying_row middle table c.in-Some.row) old second new
          (made_still tells store (tidying_rows store table last) old now second made reads)
          (c.in_ok-tidy_row.ensures.made middle row (reads.store middle made.after)));
      lasts = λ store is has.
          let made = c.loop-row.invariant.made store is has in
          let middle = after_steps store (tidying_rows store table last) in
          let next = subst (λ (o : Option ℕ). MatchOption o (HasNoRowPast (middle.tables table) last) (IsNextRow (middle.tables table) last)) c.in-Some.is
          (c.in_ok-row.ensures.next middle made.after.serves) in
          let row = next_has_row old.held.short store table last (served old.site old.held store has.serves).sound (done_of c.args.done.now) c.in-Some.row is next in
          both_last tells store (tidying_rows store table last) old now new made (c.loop-row.invariant.lasts store is has)
          (reads_then tells middle now second new reads made.after (c.tidy_row.ensures.lasts middle row (reads.store middle made.after)));
      within = λ store is has.
          let made = c.loop-row.invariant.made store is has in
          let middle = after_steps store (tidying_rows store table last) in
          let sound = (served old.site old.held store has.serves).sound in
          let row = c.in-Some.row in
          let next = subst (λ (o : Option ℕ). MatchOption o (HasNoRowPast (middle.tables table) last) (IsNextRow (middle.tables table) last)) c.in-Some.is
          (c.in_ok-row.ensures.next middle made.after.serves) in
          up_to_row store table row (next_before old.held.short store table last sound row next).used;
      none_fell = then_none_fell c.loop-row.invariant.none_fell (then_none_fell c.next_row.ensures.none_fell c.tidy_row.ensures.none_fell);
    }

pub returns-clause-made : goal.returns-clause-made
returns-clause-made g c = λ store is has.
    let tells = g.W.Site.tells in
    let table = c.args.table in
    let last = c.loop-row.last in
    let log = c.loop-row.log in
    let old = opening (g.W.Site.state c.args.site.now) c.args.held.now c.args.log.now in
    let now = opening (g.W.Site.state c.loop-row.site) c.loop-row.held log in
    let second = opening (g.W.Site.state c.next_row.new.site) c.next_row.new.self log in
    let reads : OnlyReads tells now second =
    held_reads tells now.site second.site now.held second.held log c.next_row.ensures.keeps c.next_row.ensures.form c.next_row.ensures.same in
    let made = c.loop-row.invariant.made store is has in
    let middle = after_steps store (tidying_rows store table last) in
    let none : MatchOption None (HasNoRowPast (middle.tables table) last) (IsNextRow (middle.tables table) last) =
    subst (λ (o : Option ℕ). MatchOption o (HasNoRowPast (middle.tables table) last) (IsNextRow (middle.tables table) last)) c.in_default.is
    (c.in_ok-row.ensures.next middle made.after.serves) in
    subst (λ (l : List Step). Made tells store l old second) (none_before old.held.short store table last (served old.site old.held store has.serves).sound none)
    (made_still tells store (tidying_rows store table last) old now second made reads)

pub returns-in_err-tidy_row-clause-touches : goal.returns-in_err-tidy_row-clause-touches
returns-in_err-tidy_row-clause-touches g c = λ store is has t.
    let tells = g.W.Site.tells in
    let table = c.args.table in
    let row = c.in-Some.row in
    let last = c.loop-row.last in
    let log = c.loop-row.log in
    let old = opening (g.W.Site.state c.args.site.now) c.args.held.now c.args.log.now in
    let now = opening (g.W.Site.state c.loop-row.site) c.loop-row.held log in
    let second = opening (g.W.Site.state c.next_row.new.site) c.next_row.new.self log in
    let reads : OnlyReads tells now second =
    held_reads tells now.site second.site now.held second.held log c.next_row.ensures.keeps c.next_row.ensures.form c.next_row.ensures.same in
    let made = c.loop-row.invariant.made store is has in
    let middle = after_steps store (tidying_rows store table last) in
    let sound = (served old.site old.held store has.serves).sound in
    let next = subst (λ (o : Option ℕ). MatchOption o (HasNoRowPast (middle.tables table) last) (IsNextRow (middle.tables table) last)) c.in-Some.is
    (c.in_ok-row.ensures.next middle made.after.serves) in
    let steps = tidying_row middle table row in
    let used = (next_before old.held.short store table last sound row next).used in
    let within = up_to_used store table last row steps used (next_row_steps old.held.short store table last sound row next) in
    touches_behind tells store (tidying_rows store table last) old second (g.W.Site.state c.tidy_row.new.site) (length steps + 1) (length (tidying_table store table) + 1) t
    (made_still tells store (tidying_rows store table last) old now second made reads) (omega (arith, within))
    (c.tidy_row.ensures.touches middle (next_has_row old.held.short store table last sound (done_of c.args.done.now) row is next) (reads.store middle made.after) t)

pub returns-in_err-row-clause-touches : goal.returns-in_err-row-clause-touches
returns-in_err-row-clause-touches g c = λ store is has t.
    let table = c.args.table in
    let old = opening (g.W.Site.state c.args.site.now) c.args.held.now c.args.log.now in
    let now = opening (g.W.Site.state c.loop-row.site) c.loop-row.held c.loop-row.log in
    let within = c.loop-row.invariant.within store is has in
    still_behind g.W.Site.tells store (tidying_rows store table c.loop-row.last) old now (g.W.Site.state c.next_row.new.site) (length (tidying_table store table) + 1) t
    (c.loop-row.invariant.made store is has) (omega (arith, within)) (c.next_row.ensures.same t)

pub returns-clause-touches : goal.returns-clause-touches
returns-clause-touches g c = λ store is has t.
    let table = c.args.table in
    let old = opening (g.W.Site.state c.args.site.now) c.args.held.now c.args.log.now in
    let now = opening (g.W.Site.state c.loop-row.site) c.loop-row.held c.loop-row.log in
    let within = c.loop-row.invariant.within store is has in
    still_behind g.W.Site.tells store (tidying_rows store table c.loop-row.last) old now (g.W.Site.state c.next_row.new.site) (length (tidying_table store table) + 1) t
    (c.loop-row.invariant.made store is has) (omega (arith, within)) (c.next_row.ensures.same t)

pub returns-in_err-tidy_row-clause-full : goal.returns-in_err-tidy_row-clause-full
returns-in_err-tidy_row-clause-full g c = λ store is has.
    let tells = g.W.Site.tells in
    let table = c.args.table in
    let row = c.in-Some.row in
    let last = c.loop-row.last in
    let log = c.loop-row.log in
    let old = opening (g.W.Site.state c.args.site.now) c.args.held.now c.args.log.now in
    let now = opening (g.W.Site.state c.loop-row.site) c.loop-row.held log in
    let second = opening (g.W.Site.state c.next_row.new.site) c.next_row.new.self log in
    let reads : OnlyReads tells now second =
    held_reads tells now.site second.site now.held second.held log c.next_row.ensures.keeps c.next_row.ensures.form c.next_row.ensures.same in
    let made = c.loop-row.invariant.made store is has in
    let middle = after_steps store (tidying_rows store table last) in
    let sound = (served old.site old.held store has.serves).sound in
    let next = subst (λ (o : Option ℕ). MatchOption o (HasNoRowPast (middle.tables table) last) (IsNextRow (middle.tables table) last)) c.in-Some.is
    (c.in_ok-row.ensures.next middle made.after.serves) in
    let steps = tidying_row middle table row in
    let error = c.in_err-tidy_row.field-0.0 in
    if_err c.from_residual-in_err-tidy_row.result (IsFullWithin old.log.frames (old.log.frames + length (tidying_table store table))) error c.from_residual-in_err-tidy_row.ensures.1
    (full_behind tells store (tidying_rows store table last) old now (length steps) (length (tidying_table store table)) error made
    (up_to_used store table last row steps (next_before old.held.short store table last sound row next).used (next_row_steps old.held.short store table last sound row next))
    (c.in_err-tidy_row.ensures.full middle (next_has_row old.held.short store table last sound (done_of c.args.done.now) row is next) (reads.store middle made.after)))
