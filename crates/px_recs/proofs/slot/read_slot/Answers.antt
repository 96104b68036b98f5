use Rattle.std.proofs.Common.{◌≡◌, true, ◌∙◌, ap}
use Rattle.std.proofs.lemmas.Bool.{both_ways}
use Rattle.px_cells.specs.declared.slot.Slot.{Slot}
use Rattle.px_cells.specs.Form.{is_slot}
use Rattle.px_recs.proofs.Slots.{at_parts, one_parts}
use Rattle.px_recs.proofs.slot.read_slot.Goals as goal

pub returns-in_default-clause-none : goal.returns-in_default-clause-none
returns-in_default-clause-none c = λ slot at. c.in_default.ensures.none slot (at_parts c.args.short c.args.bytes.now slot at)

pub returns-then-not-is_in_form-clause-none : goal.returns-then-not-is_in_form-clause-none
returns-then-not-is_in_form-clause-none c = λ slot at.
    let same = one_parts c.args.short c.args.bytes.now c.in-Some.parts slot c.in-Some.ensures.some (at_parts c.args.short c.args.bytes.now slot at) in
    let form : is_slot c.args.short c.in-Some.parts ≡ true = ap (λ (s : Slot). is_slot c.args.short s) same ∙ at.form in
    both_ways c.is_in_form.result c.if-not-is_in_form.true (c.is_in_form.ensures ∙ form)
