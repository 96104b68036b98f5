use Rattle.std.proofs.Common.{ℕ, List, ◌≤◌, arith, sym, subst, ◌++◌, ◌∷◌, [], take}
use Rattle.px_change.specs.declared.change.Change.{Change}
use Rattle.px_history.specs.Fitting.{IsStoredNumber}
use Rattle.px_tidying.specs.Numbers.{IsPastChanges}
use Rattle.px_tidying.proofs.Past.{one_past, take_more}
use Rattle.px_tidying.proofs.numbers.past_changes.Goals as goal

pub loop-change-preserved : goal.loop-change-preserved
loop-change-preserved c =
    let first = c.args.first in
    let changes = c.args.changes.now in
    let index = c.loop-change.change-index in
    let item = c.change-item.result in
    let within = c.loop-change-test.true in
    let stored = subst (λ (change : Change). IsStoredNumber change.xn) (sym c.change-item.is) (c.requires.frames index item within) in
    let end = c.loop-change.invariant.end in
    let small = stored.1 in
    record {
      past = subst (λ (l : List Change). IsPastChanges first l c.max-next.result) (sym (take_more changes index item within c.change-item.is))
          (subst (λ (n : ℕ). IsPastChanges first (take index changes ++ item ∷ []) n) (sym c.max-next.ensures)
          (one_past first (take index changes) item c.loop-change.next c.loop-change.invariant.past));
      end = omega (arith, c.max-next.ensures, end, small);
    }
