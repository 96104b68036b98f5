use Rattle.px_laid.proofs.laws.what_is_said_is_one.Goals as goal

pub returns-clause-header : goal.returns-clause-header
returns-clause-header c = λ short number a b places of_a of_b. c.one_reading.ensures.header _ a.header b.header of_a.header of_b.header

pub returns-clause-slot : goal.returns-clause-slot
returns-clause-slot c = λ short number a b places n of_a of_b. c.one_reading.ensures.slot short _ (a.slot n) (b.slot n) (of_a.slot n) (of_b.slot n)

pub returns-clause-pointer : goal.returns-clause-pointer
returns-clause-pointer c = λ short number a b places n of_a of_b. c.one_reading.ensures.pointer _ (a.pointer n) (b.pointer n) (of_a.pointer n) (of_b.pointer n)
