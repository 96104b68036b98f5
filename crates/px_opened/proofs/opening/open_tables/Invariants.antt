use Rattle.px_laid.specs.Places.{places}
use Rattle.px_opened.specs.Opened.{AreOpened}
use Rattle.px_opened.proofs.Counted.{AreCounted}
use Rattle.px_opened.proofs.opening.open_tables.Given as goal

abbrev pub invariant-loop-before : goal.invariant-loop-before
invariant-loop-before l = record {
  opened : AreOpened l.short l.before (places l.laid) l.opened.items;
  counted : AreCounted 1 l.opened.items;
}
