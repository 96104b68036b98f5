-- How many frames a step adds to the log, and which step syncs it.
use Rattle.std.specs.Prelude.{ℕ, Bool, true, false, not, ◌&&◌, nat_lt, List, [], ◌∷◌, length, Option, Some, None, slice_get, if◌then◌else◌}
use Rattle.px_model.specs.declared.machine.Flat.{Flat}
use Rattle.px_model.specs.declared.machine.Variation.{Variation}
use Rattle.px_model.specs.Chains.{is_put}
use Rattle.px_model.specs.Machine.{Machine, flat, horizon}
use Rattle.px_model.specs.Rows.{key_written}
use Rattle.px_calls.specs.declared.call.Call.TheVariants.{Commit}
use Rattle.px_calls.specs.Histories.{Step, by, sweep}
use Rattle.px_chain_laws.specs.Sweeping.{base_of}
use Rattle.px_logged.specs.Logged.{logged}

-- versions go with the sweep of this write over this base: always but where it is a row that committed over none
abbrev pub unlinks_over : Flat → (base : List Variation) → Bool
unlinks_over w [] = not (w.committed && is_put w.write)
unlinks_over w (version ∷ base) = true

-- the frames of the sweep of this write, if it is due
abbrev pub frames_of_due : Machine → Option Flat → ℕ
frames_of_due m None = 0
frames_of_due m (Some w) = if nat_lt w.place (horizon m) && unlinks_over w (base_of m (key_written w.write)) then 1 else 0

unfoldable pub sweep_frames : Machine → ℕ
sweep_frames m = frames_of_due m (slice_get (flat m) m.swept)

abbrev pub step_frames : Machine → Step → ℕ
step_frames m (by session call) = length (logged m session call)
step_frames m sweep = sweep_frames m

-- a commit that has a frame syncs the log
abbrev pub syncs : Machine → Step → Bool
syncs m (by session Commit) = nat_lt 0 (length (logged m session Commit))
syncs m _ = false
