use Rattle.std.proofs.Common.{◌≡◌, ◌+◌, ◌-◌, ◌≤◌, length}
use Rattle.px_script.specs.Progress.{IsReadable, ahead, longest_input}
use Rattle.px_script.proofs.lines.Lines.read_on.Given as goal

abbrev pub invariant-reads : goal.invariant-reads
invariant-reads g l = record {
  readable : IsReadable l.self;
  same : g.S.Source.tells → ahead l.self (g.S.Source.left l.source) ≡ ahead l.initial.self (g.S.Source.left l.initial.source);
  counted : g.S.Source.tells → l.self.count + length (g.S.Source.left l.source) ≡ l.initial.self.count + length (g.S.Source.left l.initial.source);
  faults : g.S.Source.faults l.source ≡ g.S.Source.faults l.initial.source;
  none_fell : g.S.Source.faults l.initial.source ≤ g.S.Source.faults l.source;
}

abbrev pub decreases-reads : goal.decreases-reads
decreases-reads g l = longest_input - l.self.count
