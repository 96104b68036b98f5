-- What a store counts of itself, and how far its log is.
use Rattle.std.specs.Prelude.{ℕ}
use Rattle.px_model.specs.Chains.{unswept, variations}
use Rattle.px_model.specs.Machine.{Machine, commits, opens}
use Rattle.px_engine.specs.declared.census.Census.{Census}
use Rattle.px_engine.specs.declared.census.Marks.{Marks}

-- what a machine counts; each body fits its slot until parts of data logs are read, so that none lives or is held
abbrev pub census_of : Machine → Census
census_of m = record { commits = commits m; opens = opens m; unswept = unswept m; variations = variations m; live = 0; held = 0 }

-- the marks of a log of so many frames, of which the first `durable` are synced; none is applied until a writer is there
abbrev pub marks_at : (frames durable : ℕ) → Marks
marks_at frames durable = record { frames = frames; durable = durable; applied = 0; redo = 0 }
