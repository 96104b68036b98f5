use Rattle.px_history.specs.Steps.{after_steps}
use Rattle.px_history.specs.Store.{nothing}
use Rattle.px_laid.specs.Places.{none_laid}
use Rattle.px_opened.specs.Opened.{changes_over}
use Rattle.px_opened.proofs.laws.a_history_opens_to_its_store.Goals as goal

pub returns-clause-opens : goal.returns-clause-opens
returns-clause-opens c = λ parts short tables steps changes may written are.
    c.what_is_held_opens.ensures short tables (after_steps nothing steps) (changes_over none_laid changes)
    (c.a_step_keeps_what_is_held.ensures.steps parts short tables nothing steps changes none_laid (c.a_step_keeps_what_is_held.ensures.nothing short tables) may written are)

pub returns-clause-shows : goal.returns-clause-shows
returns-clause-shows c = λ parts others short tables steps changes found layouts done rows may written are opens.
    let store = after_steps nothing steps in
    let places = changes_over none_laid changes in
    let its_own = c.what_is_held_opens.ensures short tables store places
    (c.a_step_keeps_what_is_held.ensures.steps parts short tables nothing steps changes none_laid (c.a_step_keeps_what_is_held.ensures.nothing short tables) may written are) in (
      c.what_opens_is_one.ensures.shows others short tables places found store.tables layouts store.layouts done rows opens its_own,
      c.what_opens_is_one.ensures.shows others short tables places store.tables found store.layouts layouts done rows its_own opens,
    )

pub returns-clause-no_damage : goal.returns-clause-no_damage
returns-clause-no_damage c = λ parts short tables steps changes file place may written are.
    let store = after_steps nothing steps in
    let places = changes_over none_laid changes in
    c.what_opens_has_no_damage.ensures short tables places store.tables store.layouts file place
    (c.what_is_held_opens.ensures short tables store places
    (c.a_step_keeps_what_is_held.ensures.steps parts short tables nothing steps changes none_laid (c.a_step_keeps_what_is_held.ensures.nothing short tables) may written are))
