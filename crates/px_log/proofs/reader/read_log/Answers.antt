use Rattle.std.proofs.Common.{◌≡◌, ℕ, ◌+◌, ◌^◌, ◌<◌, ◌≤◌, List, [], ◌∷◌, length, drop, None, refl, sym, ap, subst, ◌∙◌, arith, length-append}
use Rattle.std.proofs.lemmas.Result.{err_from_is_err_and}
use Rattle.px_site.specs.State.{State}
use Rattle.px_site.proofs.Causes.{then_none_fell, no_fall}
use Rattle.px_change.specs.declared.change.Change.{Change}
use Rattle.px_frame.specs.Frame.{payload_at}
use Rattle.px_log.specs.Window.{longest_frame, Sees}
use Rattle.px_log.specs.MayStand.{MayStand}
use Rattle.px_xlog.specs.Contents.{the_log}
use Rattle.px_log.specs.Scanning.{FindsForeign, IsNext}
use Rattle.px_log.proofs.LogReading.{IsReading, reading_begins, reading_goes_on, held_goes_on, reading_ends, damage_found}
use Rattle.px_log.proofs.reader.read_log.Goals as goal

pub loop-changes-init : goal.loop-changes-init
loop-changes-init g c = let content : List ℕ = (g.W.Site.state c.args.site.now).content the_log in record {
  small = omega arith;
  bounded = omega arith;
  held = subst (MayStand c.args.restart.now.tables 0 c.args.restart.now.short) (sym c.new-changes.ensures) tt;
  count = omega (arith, ap length c.new-changes.ensures);
  reading = λ t. subst (λ (changes : List Change). IsReading content changes 0 0) (sym c.new-changes.ensures) (reading_begins content);
  sees = λ t. c.in_ok-window.ensures content;
  same = λ t. refl;
  none_fell = no_fall;
}

pub loop-changes-preserved : goal.loop-changes-preserved
loop-changes-preserved g c =
    let content : List ℕ = (g.W.Site.state c.args.site.now).content the_log in
    let l = c.loop-changes in
    let small = rw c.in-Some.is at c.in_ok-change.ensures.small in
    let below : l.frames < 2 ^ 48 = small.0 in
    let short : c.in-Some.size ≤ longest_frame = small.1 in
    record {
      small = omega (arith, l.invariant.small);
      bounded = omega arith;
      held = subst (MayStand c.args.restart.now.tables 0 c.args.restart.now.short) (sym c.in_ok-push.ensures.ok)
          (held_goes_on c.args.restart.now.tables c.args.restart.now.short l.changes l.frames c.in-Some.change l.invariant.held l.invariant.count (rw c.in-Some.is at c.in_ok-change.ensures.held));
      count = omega (arith, ap length c.in_ok-push.ensures.ok, length-append l.changes (c.in-Some.change ∷ []), l.invariant.count);
      reading = λ t.
          let same = l.invariant.same t in
          let sees = subst (λ (s : State). Sees (s.content the_log) l.window) (sym same) (l.invariant.sees t) in
          let next = rw c.in-Some.is at (c.in_ok-change.ensures.next t sees) in
          let here = subst (λ (s : State). IsNext (drop l.stop (s.content the_log)) l.frames c.in-Some.change c.in-Some.size) same next in
          subst (λ (changes : List Change). IsReading content changes (l.stop + c.in-Some.size) (l.frames + 1)) (sym c.in_ok-push.ensures.ok)
          (reading_goes_on content l.changes l.stop l.frames c.in-Some.change c.in-Some.size (l.invariant.reading t) here);
      sees = λ t.
          let same = l.invariant.same t in
          let sees = subst (λ (s : State). Sees (s.content the_log) l.window) (sym same) (l.invariant.sees t) in
          subst (λ (s : State). Sees (s.content the_log) c.next_change.new.window) same (c.in_ok-change.ensures.sees t sees);
      same = λ t. c.next_change.ensures.same t ∙ l.invariant.same t;
      none_fell = then_none_fell l.invariant.none_fell c.next_change.ensures.none_fell;
    }

pub returns-in_err-change-clause-damage : goal.returns-in_err-change-clause-damage
returns-in_err-change-clause-damage g c t =
    let l = c.loop-changes in
    let same = l.invariant.same t in
    let sees = subst (λ (s : State). Sees (s.content the_log) l.window) (sym same) (l.invariant.sees t) in
    let p = err_from_is_err_and c.from_residual-in_err-change.result c.from_residual-in_err-change.ensures.1 in
    let content : List ℕ = (g.W.Site.state c.args.site.now).content the_log in
    let error = c.in_err-change.field-0.0 in
    let finds = subst (λ (s : State). FindsForeign (drop l.stop (s.content the_log)) c.args.restart.now l.frames l.stop error) same (c.in_err-change.ensures.damage t sees) in
    rw (p.1, p.2) (damage_found content c.args.restart.now l.changes l.stop l.frames error (l.invariant.reading t) l.invariant.held finds)

pub returns-clause-scan : goal.returns-clause-scan
returns-clause-scan g c t =
    let l = c.loop-changes in
    let same = l.invariant.same t in
    let sees = subst (λ (s : State). Sees (s.content the_log) l.window) (sym same) (l.invariant.sees t) in
    let stops = rw c.in_default.is at (c.in_ok-change.ensures.stops t sees) in
    let none = subst (λ (s : State). payload_at (drop l.stop (s.content the_log)) l.frames ≡ None) same stops in
    reading_ends ((g.W.Site.state c.args.site.now).content the_log) l.changes l.stop l.frames (l.invariant.reading t) none
