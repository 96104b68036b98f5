use Rattle.std.proofs.Common.{◌≡◌, ◌∷◌, length, sym, ap, subst, ◌∙◌}
use Rattle.std.proofs.lemmas.List.{get_or_default}
use Rattle.px_cells.specs.declared.slot.Slot.{Slot}
use Rattle.px_cells.specs.Unused.{unused_slot}
use Rattle.px_tables.specs.Walked.{Ends, walked}
use Rattle.px_tables.proofs.Walking.{fewer_left, goes_on, walked_none}
use Rattle.px_tables.proofs.versions.VersionsIterator.next.Goals as goal

pub returns-then-number-eq0-clause-steps : goal.returns-then-number-eq0-clause-steps
returns-then-number-eq0-clause-steps c =
    let slots = c.self.inside.slots.now in
    let none = sym c.self.view_is ∙ ap (walked (length slots) slots) c.if-number-eq0.true ∙ walked_none (length slots) slots in
    (none, none)

pub invariant_of-self : goal.invariant_of-self
invariant_of-self c =
    let slots = c.self.inside.slots.now in
    let number = c.self.inside.number in
    let g = goes_on slots number c.self.invariant c.if-number-eq0.false in
    subst (λ (s : Slot). Ends slots s.next) (sym (get_or_default slots number c.index-self-number.result unused_slot g.within)) g.behind

pub returns-clause-steps : goal.returns-clause-steps
returns-clause-steps c =
    let slots = c.self.inside.slots.now in
    let number = c.self.inside.number in
    let g = goes_on slots number c.self.invariant c.if-number-eq0.false in
    sym c.self.view_is
    ∙ subst (λ (s : Slot). walked (length slots) slots number ≡ record { number = number; slot = s } ∷ walked (length slots) slots s.next)
    (sym (get_or_default slots number c.index-self-number.result unused_slot g.within)) g.steps

pub returns-clause-goes : goal.returns-clause-goes
returns-clause-goes c = record {
  on = λ finite. (tt, tt, fewer_left _ _ _ (returns-clause-steps c));
  keeps = tt;
  rests = λ finite. tt;
}
