use Rattle.std.proofs.Common.{subst, sym}
use Rattle.std.specs.Result.{IfErr, OnOk}
use Rattle.px_calls.specs.Histories.{sweep}
use Rattle.px_play.proofs.Answering.{sweep_ended, sweep_refused, sweep_replied}
use Rattle.px_play.proofs.serving.make_sweep.Goals as goal

pub returns-in-Ok-clause-serves : goal.returns-in-Ok-clause-serves
returns-in-Ok-clause-serves g c = λ tells e engine.
    sweep_replied e engine (c.sweep.ensures.moments tells e.machine engine.works) (c.in-Ok.ensures.answered tells e.machine engine.works)

pub returns-in-Err : goal.returns-in-Err
returns-in-Err g c =
    let said = c.in-Err.ensures in
    let error = c.in-Err.error in
    let ended = sweep_ended error c.requires said.refused in
    rw c.idle_where_damaged.ensures (record {
      ends = ended.ends;
      sound = λ tells. ended.sound;
      cause = ended.cause;
      whole = ended.whole;
      none_fell = said.none_fell;
      serves = λ tells e engine.
          sweep_refused e error tells engine (said.moments tells e.machine engine.works) said.refused (said.full tells e.machine engine.works) (said.sound tells e.machine engine.works);
      stands = said.moments;
      others = said.others;
    })
