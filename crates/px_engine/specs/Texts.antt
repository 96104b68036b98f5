-- The line of an engine's numbers.
use Rattle.std.specs.Prelude.{ℕ, List, ◌++◌, codes}
use Rattle.px_calls.specs.Texts.{line, numbered}
use Rattle.px_engine.specs.declared.census.Census.{Census}
use Rattle.px_engine.specs.declared.census.Marks.{Marks}

abbrev pub census_words : Census → List ℕ
census_words census =
    numbered (codes "commits") census.commits
    ++ numbered (codes " open") census.opens
    ++ numbered (codes " unswept") census.unswept
    ++ numbered (codes " variations") census.variations
    ++ numbered (codes " live") census.live
    ++ numbered (codes " held") census.held

abbrev pub marks_words : Marks → List ℕ
marks_words marks =
    numbered (codes " frames") marks.frames
    ++ numbered (codes " durable") marks.durable
    ++ numbered (codes " applied") marks.applied
    ++ numbered (codes " redo") marks.redo

unfoldable pub stat_text : Census → Marks → List ℕ
stat_text census marks = line (codes "stat " ++ census_words census ++ marks_words marks)
