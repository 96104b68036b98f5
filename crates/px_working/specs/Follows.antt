-- A step that a call of the machine, or the engine itself, adds to the life of the store.
use Rattle.std.specs.Prelude.{◌≡◌, ℕ, ◌-◌, ◌≤◌, [], true}
use Rattle.px_change.specs.Grammar.{may_hold}
use Rattle.px_change.specs.declared.change.Change.{Change}
use Rattle.px_change.specs.declared.change.ChangeKind.TheVariants.{Sweep}
use Rattle.px_history.specs.Fitting.{IsWritten}
use Rattle.px_history.specs.Steps.{IsStep, Step, after_step}
use Rattle.px_history.specs.Store.{Store}
use Rattle.px_history.specs.Told.{IsNumberedOn, last_after}
use Rattle.px_history.specs.Writers.{IsAlone}
use Rattle.px_history.specs.Written.{IsChangeOf, change_of}
use Rattle.px_life.specs.Front.{IsFrom}
use Rattle.px_life.specs.Life.{Life, end_of, grown, store_at}
use Rattle.px_logged.specs.Growing.{KeepsOpening}
use Rattle.px_model.specs.Machine.{Machine, commits, published}
use Rattle.px_restart.specs.declared.restart.Restart.{Restart}
use Rattle.px_shown.specs.Parts.{Parts}
use Rattle.px_shown.specs.Shown.{Shows}

-- the store to which all frames of a life lead
abbrev pub last_store : Life → Store
last_store life = store_at life (end_of life)

-- the life with a step more, whose frame has the change that a session's call writes for it
abbrev pub with_step : (short : ℕ) → Life → Step → Life
with_step short life step = grown life step (change_of short (last_store life) step)

-- the change of a step as the sweeper writes it, with the stored number of the write that was swept
abbrev pub swept_change : (short : ℕ) → Store → Step → (xn : ℕ) → Change
swept_change short store step xn = record (change_of short store step) { kind = Sweep; xn = xn }

-- the life with an unlink more, whose frame has the sweeper's change
abbrev pub with_sweep : (short : ℕ) → Life → Step → (xn : ℕ) → Life
with_sweep short life step xn = grown life step (swept_change short (last_store life) step xn)

-- what was published before is published later too
abbrev pub KeepsPublished : (m later : Machine) → Type 0
KeepsPublished m later = (count : ℕ) → count ≤ commits m - m.before → published later count ≡ published m count

-- The step may follow the life of the machine's store, in a frame that has the change, and leads to the later machine's store.
pub record Follows (parts : Parts) (m : Machine) (life : Life) (restart : Restart) (step : Step) (change : Change) (later : Machine) : Type 0 where
  pub may : IsStep parts restart.short (last_store life) step
  pub alone : IsAlone (last_store life) step
  pub fits : IsWritten restart.tables step
  pub change_is : IsChangeOf restart.short (last_store life) step change
  pub stands : may_hold restart.tables (end_of life) restart.short change ≡ true
  pub low : IsFrom restart.low step
  pub number : IsNumberedOn (commits m) [] step
  pub opening : KeepsOpening m later
  pub commits_are : commits later ≡ last_after (commits m) step
  pub published_stays : KeepsPublished m later
  pub shows : let store = after_step (last_store life) step in
      Shows parts store.tables store.layouts store.done (published later (commits later - later.before))
