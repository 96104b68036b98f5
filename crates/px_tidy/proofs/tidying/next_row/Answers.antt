use Rattle.std.proofs.Common.{◌≡◌, ◌≢◌, ◌+◌, sym, ap, ◌∙◌, arith, ⊎_elim}
use Rattle.std.proofs.lemmas.Bool.{cases_eq, false≢true}
use Rattle.px_tables.specs.Held.{table_of}
use Rattle.px_tidy.proofs.tidying.next_row.Goals as goal

pub loop-before-init : goal.loop-before-init
loop-before-init c = λ row past to used. omega (arith, past, to)

pub returns-then-pointer : goal.returns-then-pointer
returns-then-pointer c =
    let rows = ap (λ h. h.rows) c.header-before-end.ensures in
    let from = c.loop-before.auto.before in
    let within = c.loop-before-test.true in
    record {
      past = omega (arith, from);
      used = ((omega arith, omega (arith, within, rows)), sym (ap (λ p. p.used) c.pointer.ensures) ∙ c.if-pointer.true);
      least = λ other past to used. c.loop-before.invariant other past (omega (arith, to)) used;
    }

pub loop-before-preserved : goal.loop-before-preserved
loop-before-preserved c = λ row past to used. ⊎_elim
    (λ (is : row ≡ c.loop-before.before + 1). false≢true (sym c.if-pointer.false ∙ ap (λ p. p.used) c.pointer.ensures
    ∙ ap (λ n. ((table_of c.args.table.now.cells).pointer n).used) (sym is) ∙ used.1))
    (λ (other : row ≢ c.loop-before.before + 1). c.loop-before.invariant row past (omega (arith, to, other)) used)
    (cases_eq row (c.loop-before.before + 1))

pub returns : goal.returns
returns c = λ row past used.
    let rows = ap (λ h. h.rows) c.header-before-end.ensures in
    let to = used.0.1 in
    let ends = c.loop-before-test.false in
    c.loop-before.invariant row past (omega (arith, to, rows, ends)) used
