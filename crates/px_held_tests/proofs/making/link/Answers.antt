use Rattle.px_history.specs.Steps.{after_step}
use Rattle.px_held.proofs.Serving.{anywhere}
use Rattle.px_held.specs.Linking.{step_of}
use Rattle.px_held_tests.proofs.making.link.Goals as goal

pub returns-clause-serves : goal.returns-clause-serves
returns-clause-serves c = λ site.
    let old = c.requires.serves site in
    let store = old.0 in (
      after_step store (step_of c.link-prepared.result),
      anywhere _ site _ _ (c.lay.ensures.step _ store (c.place_for.ensures.keeps store (anywhere site _ _ store old.1))),
    )
