use Rattle.std.proofs.Common.{◌≡◌, ℕ, ◌+◌, ◌-◌, ◌≤◌, true, false, get_or, sym, subst, ◌∙◌, arith}
use Rattle.std.proofs.lemmas.Bool.{false≢true}
use Rattle.px_cells.specs.Unused.{unused_slot}
use Rattle.px_survey.specs.Cells.{table_in}
use Rattle.px_survey.proofs.Ends.{all_sound, first_slot}
use Rattle.px_survey.proofs.surveying.flawed_slot.Goals as goal

pub returns-then-not-met-i-clause-flaw : goal.returns-then-not-met-i-clause-flaw
returns-then-not-met-i-clause-flaw c = λ rows reaches.
    let i = c.loop-i.i in
    let some : 1 ≤ i + 1 = omega arith in
    let within : i + 1 ≤ c.args.cells.now.header.now.slots = omega arith in
    let index : (i + 1) - 1 ≡ i = omega arith in
    first_slot (table_in c.args.cells.now) (i + 1) c.args.met.now rows reaches (some, within)
    (λ marked. false≢true (sym c.if-not-met-i.true ∙ subst (λ (k : ℕ). get_or c.args.met.now k false ≡ true) index marked))
    (λ p p_some below. c.loop-i.invariant p p_some (omega arith))

pub returns-clause-sound : goal.returns-clause-sound
returns-clause-sound c = λ rows reaches short form.
    let slots = c.args.cells.now.slot_count in
    all_sound short (table_in c.args.cells.now) c.args.met.now rows reaches
    (λ slot place. let from = place.0 in let to = place.1 in c.loop-i.invariant slot from (omega arith))
    (λ slot place. let from = place.0 in let to = place.1 in form (slot - 1) unused_slot (omega arith))
