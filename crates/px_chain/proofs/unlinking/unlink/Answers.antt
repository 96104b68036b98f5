use Rattle.std.proofs.Common.{List, sym, subst}
use Rattle.std.specs.Prelude.{All}
use Rattle.px_chain.specs.declared.chain.Linked.{Linked}
use Rattle.px_chain.proofs.Forms.{IsFormed, all_near}
use Rattle.px_chain.proofs.unlinking.unlink.Goals as goal

pub cells-requires-clause-form : goal.cells-requires-clause-form
cells-requires-clause-form c =
    subst (λ (l : List Linked). All (IsFormed c.args.short) l) (sym c.in_ok-unlinked.ensures.slots)
    (all_near c.args.short c.args.header.now c.args.cut.now c.requires.stored)
