use Rattle.std.proofs.Common.{refl, sym, arith}
use Rattle.px_change.proofs.Changes.{long_enough, headed, cells_there, outside, text_of}
use Rattle.px_change.proofs.read.decode.Goals as goal

pub returns-in_default-clause-none : goal.returns-in_default-clause-none
returns-in_default-clause-none c = λ change held. absurd (omega (arith, c.in_default.ensures.none, long_enough c.args.short c.args.bytes.now change held))

pub returns-in_default-kind_of_code-clause-none : goal.returns-in_default-kind_of_code-clause-none
returns-in_default-kind_of_code-clause-none c = λ change held.
    let same = headed c.args.short c.args.bytes.now _ _ _ _ _ change c.in-Some.ensures.some held in
    c.in_default-kind_of_code.ensures.none change.kind (sym same.kind)

pub returns-in_default-read-clause-none : goal.returns-in_default-read-clause-none
returns-in_default-read-clause-none c = λ change held.
    (rw c.in_default-read.is at c.in_ok-read.ensures.none) change.cells (cells_there c.args.short c.args.bytes.now _ _ _ _ _ change c.in-Some.ensures.some held)

pub returns-then-not-is_in_grammar-clause-none : goal.returns-then-not-is_in_grammar-clause-none
returns-then-not-is_in_grammar-clause-none c = λ change held.
    outside c.args.short c.args.bytes.now _ _ _ _ _ _ change c.in-Some.ensures.some c.in-Some-kind_of_code.ensures.some refl refl
    (rw c.in-Some-read.is at c.in_ok-read.ensures.some) (sym c.if-not-is_in_grammar.ensures) held

pub returns-clause-some : goal.returns-clause-some
returns-clause-some c = record {
  grammar = sym c.if-not-is_in_grammar.ensures;
  text = text_of c.args.bytes.now _ _ _ _ _ _ c.in-Some.ensures.some c.in-Some-kind_of_code.ensures.some refl refl (rw c.in-Some-read.is at c.in_ok-read.ensures.some);
}
