use Rattle.std.proofs.Common.{◌≡◌, true, List, sym, subst}
use Rattle.std.specs.List.{list_all}
use Rattle.px_cells.specs.declared.cell.Cell.{Cell}
use Rattle.px_change.specs.Grammar.{is_cell}
use Rattle.px_apply.proofs.Apart.{in_order}
use Rattle.px_apply.proofs.write.write_cells.Goals as goal

pub write_each-requires-clause-grammar : goal.write_each-requires-clause-grammar
write_each-requires-clause-grammar g c = subst (λ (cells : List Cell). list_all (is_cell c.args.short) cells ≡ true) (sym c.as_slice.ensures) (in_order c.args.short c.args.change.now c.requires.grammar).each
