use Rattle.std.proofs.Common.{◌≡◌}
use Rattle.std.specs.Prelude.{filter}
use Rattle.px_model.specs.Machine.{view}
use Rattle.px_answers.specs.Reading.{ForReader, Stays, has_tag, rows_to}
use Rattle.px_answers.proofs.rows.rows_seen.Given as goal

abbrev pub invariant-loop-key : goal.invariant-loop-key
invariant-loop-key g l = record {
  stays : Stays g.W.Site.tells g.W.Site.state g.W.Site.counts l.initial.site l.site l.initial.held l.held;
  rows : g.W.Site.tells → ForReader (g.W.Site.state l.initial.site) l.initial.held l.reader (λ store m xact. l.rows ≡ filter (has_tag l.tag) (rows_to l.table l.last (view m xact)));
}
