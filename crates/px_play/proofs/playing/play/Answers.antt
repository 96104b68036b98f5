use Rattle.std.proofs.Common.{◌≡◌, ◌+◌, ℕ, List, Some, refl, sym, ap, subst, ◌∙◌, arith}
use Rattle.px_site.proofs.Causes.{no_fall, then_none_fell}
use Rattle.px_engine.specs.Requests.{Request}
use Rattle.px_script.specs.Grammar.{command_line}
use Rattle.px_script.specs.Progress.{Progress}
use Rattle.px_play.specs.Input.{script_of}
use Rattle.px_play.specs.Reading.{IsRead}
use Rattle.px_play.specs.Turns.{HasTurnEnd}
use Rattle.px_play.proofs.Inputs.{few_requests, lines_below, nothing_handed}
use Rattle.px_play.proofs.Answering.{others_on}
use Rattle.px_play.proofs.Played.{ends_input, keeps_end, keeps_more, keeps_none, leaves_more, leaves_none, played_more, played_none, reading_ends, turn_ends, turn_faults, turn_input}
use Rattle.px_play.proofs.playing.play.Goals as goal

pub loop-answered-init : goal.loop-answered-init
loop-answered-init g c =
    let state = g.W.Site.state in
    let input = g.S.Source.left c.args.source.now in
    let old = c.args.core.now in
    record {
      whole = c.requires.whole;
      none_fell = no_fall;
      source_none_fell = omega arith;
      source_faults = refl;
      read = λ tells. subst (λ (p : Progress). IsRead input p input 0) (sym c.new-lines.ensures) (nothing_handed input);
      played = λ tells tells_too e engine. played_none state e (script_of input) old engine;
      kept = λ tells tells_too e engine told acks. keeps_none e (script_of input) told (state old.site) acks;
      others = λ tells m works. leaves_none state m old works;
    }

pub returns-in-Err-clause-input : goal.returns-in-Err-clause-input
returns-in-Err-clause-input g c = λ tells. ends_input (c.in-Err.ensures.ends tells (g.S.Source.left c.args.source.now) (c.loop-answered.invariant.read tells))

pub returns-in-Err-clause-plays : goal.returns-in-Err-clause-plays
returns-in-Err-clause-plays g c = λ tells tells_too e engine.
    let read = c.loop-answered.invariant.read tells_too in
    reading_ends g.W.Site.counts (g.S.Source.faults c.loop-answered.source) (g.S.Source.faults c.next_line.new.source) c.in-Err.status c.in-Err.ensures.cause (record {
      may = c.in-Err.ensures.ends tells_too (g.S.Source.left c.args.source.now) read;
      few = few_requests read;
      played = c.loop-answered.invariant.played tells tells_too e engine;
    })

pub returns-in-Err-clause-moments : goal.returns-in-Err-clause-moments
returns-in-Err-clause-moments g c = λ tells tells_too e engine before so_far told whole all.
    (c.loop-answered.invariant.kept tells tells_too e engine before (record { so_far = so_far; told = told; whole = whole; all = all })).moments

pub returns-in-Err-turn-clause-source_faults : goal.returns-in-Err-turn-clause-source_faults
returns-in-Err-turn-clause-source_faults g c =
    turn_faults c.line.result.now (c.loop-answered.answered + 1) c.in-Err-turn.status c.in-Err-turn.ensures.ends (g.S.Source.faults c.args.source.now) (g.S.Source.faults c.next_line.new.source) (c.in_default.ensures.no_fault ∙ c.loop-answered.invariant.source_faults)

pub returns-in-Err-turn-clause-input : goal.returns-in-Err-turn-clause-input
returns-in-Err-turn-clause-input g c = λ tells.
    let asked = c.in_default.ensures.asked tells (g.S.Source.left c.args.source.now) (c.loop-answered.invariant.read tells) in
    let status = c.in-Err-turn.status in
    ends_input (turn_input status (subst (λ (line : List ℕ). HasTurnEnd line (c.loop-answered.answered + 1) status) c.line.ensures c.in-Err-turn.ensures.ends) asked)

pub returns-in-Err-turn-clause-plays : goal.returns-in-Err-turn-clause-plays
returns-in-Err-turn-clause-plays g c = λ tells tells_too e engine.
    let read = c.loop-answered.invariant.read tells_too in
    let played = c.loop-answered.invariant.played tells tells_too e engine in
    let asked = c.in_default.ensures.asked tells_too (g.S.Source.left c.args.source.now) read in
    let status = c.in-Err-turn.status in
    let said = c.in-Err-turn.ensures in
    turn_ends g.W.Site.state g.W.Site.counts status (subst (λ (line : List ℕ). HasTurnEnd line (c.loop-answered.answered + 1) status) c.line.ensures said.ends) (said.sound tells) asked (few_requests read) played c.loop-answered.invariant.none_fell
    (λ none. said.unplayed (ap command_line c.line.ensures ∙ none))
    (λ d is. said.plays tells d (ap command_line c.line.ensures ∙ is) _ played.made.engine)

pub returns-in-Err-turn-clause-moments : goal.returns-in-Err-turn-clause-moments
returns-in-Err-turn-clause-moments g c = λ tells tells_too e engine before so_far told whole all.
    let known = c.loop-answered.invariant in
    let asked = c.in_default.ensures.asked tells_too (g.S.Source.left c.args.source.now) (known.read tells_too) in
    keeps_end g.W.Site.state c.line.result.now (λ d is. (asked.command d (ap command_line (sym c.line.ensures) ∙ is)).0)
    (known.kept tells tells_too e engine before (record { so_far = so_far; told = told; whole = whole; all = all }))
    c.in-Err-turn.ensures.unplayed (λ d is. c.in-Err-turn.ensures.moments tells d is _ (known.played tells tells_too e engine).made.engine)

pub loop-answered-preserved : goal.loop-answered-preserved
loop-answered-preserved g c =
    let known = c.loop-answered.invariant in
    let said = c.in_default-turn.ensures in
    let d : Request = said.done.0 in
    let is : command_line c.next_line.new.lines.line ≡ Some d = ap command_line (sym c.line.ensures) ∙ said.done.1 in
    let next = λ (tells : g.S.Source.tells). (c.in_default.ensures.asked tells (g.S.Source.left c.args.source.now) (known.read tells)).command d is in
    record {
      whole = said.whole;
      none_fell = then_none_fell known.none_fell said.none_fell;
      source_none_fell = omega (arith, known.source_none_fell, c.next_line.ensures.none_fell);
      source_faults = c.in_default.ensures.no_fault ∙ known.source_faults;
      read = λ tells. (next tells).1;
      played = λ tells tells_too e engine.
          let played = known.played tells tells_too e engine in
          played_more g.W.Site.counts d played (next tells_too).0 (said.plays tells d said.done.1 _ played.made.engine);
      kept = λ tells tells_too e engine told acks.
          let played = known.played tells tells_too e engine in
          keeps_more g.W.Site.counts d (next tells_too).0 (said.plays tells d said.done.1 _ played.made.engine) (known.kept tells tells_too e engine told acks) (said.moments tells d said.done.1 _ played.made.engine);
      others = λ tells m works. leaves_more g.W.Site.counts d (known.others tells m works) (said.others tells) (said.plays tells d said.done.1);
    }

-- no script has so many lines
pub returns-clause-plays : goal.returns-clause-plays
returns-clause-plays g c = λ tells tells_too e engine.
    let read = c.loop-answered.invariant.read tells_too in
    absurd (omega (arith, c.loop-answered-test.false, lines_below read))

pub returns-clause-moments : goal.returns-clause-moments
returns-clause-moments g c = λ tells tells_too e engine before so_far told whole all.
    (c.loop-answered.invariant.kept tells tells_too e engine before (record { so_far = so_far; told = told; whole = whole; all = all })).moments

pub returns-in-Err-clause-others : goal.returns-in-Err-clause-others
returns-in-Err-clause-others g c = λ tells m works. (c.loop-answered.invariant.others tells m works).moments

pub returns-in-Err-turn-clause-others : goal.returns-in-Err-turn-clause-others
returns-in-Err-turn-clause-others g c = λ tells m works.
    let known = c.loop-answered.invariant.others tells m works in
    others_on known.moments (c.in-Err-turn.ensures.others tells known.machine known.works)

pub returns-clause-others : goal.returns-clause-others
returns-clause-others g c = λ tells m works. (c.loop-answered.invariant.others tells m works).moments
