use Rattle.std.proofs.Common.{ap, sym, take, ◌∙◌}
use Rattle.px_life.specs.Front.{done_by}
use Rattle.px_shown.specs.Shown.{done_with}
use Rattle.px_tidy.specs.Numbers.{done_of}
use Rattle.px_tidying.proofs.Past.{done_more, done_same, take_more}
use Rattle.px_tidying.proofs.numbers.done_by.Goals as goal
use Rattle.px_tidying.proofs.numbers.done_by.Goals.{in-Commit+in_ok-add, in_default}

pub loop-change-preserved : goal.loop-change-preserved
loop-change-preserved c =
    let restart = c.args.restart.now in
    let changes = c.args.changes.now in
    let index = c.loop-change.change-index in
    let item = c.change-item.result in
    let more = take_more changes index item c.loop-change-test.true c.change-item.is in
    elim c.match-change.branch [
      | in-Commit+in_ok-add w ↦ ap done_of w.done-is ∙ w.in_ok-add.ensures.ok ∙ ap (done_with item.xn) c.loop-change.invariant
          ∙ done_more restart (take index changes) item w.in-Commit.is ∙ ap (done_by restart) (sym more)
      | in_default w ↦ ap done_of w.done-is ∙ c.loop-change.invariant
          ∙ sym (done_same restart (take index changes) item w.in_default.not-Commit) ∙ ap (done_by restart) (sym more)
    ]
