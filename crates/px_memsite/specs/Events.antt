-- What happens to a site in memory, and the state that this leads to.
use Rattle.std.specs.Prelude.{ℕ, ◌^◌, ◌≤◌, Bool, true, false, List, [], ◌∷◌, length, take, Option, Some, None}
use Rattle.std.specs.List.{AllByRecursion}
use Rattle.px_site.specs.declared.name.FileName.{FileName}
use Rattle.px_site.specs.Disk.{Change as DiskChange, at_rest}
use Rattle.px_site.specs.State.{State, with_file, durable, changed, failed, synced, not_synced, spoke}
use Rattle.px_memsite.specs.declared.event.Event.{Event}
use Rattle.px_memsite.specs.declared.event.Event.TheVariants.{Changed, Synced, Told, Put}
use Rattle.px_memsite.specs.Changes.{change_of, left_by, IsWithinLimit}

-- after a change of a file; where it fails, this many of its bytes went through
abbrev pub after_change : FileName → DiskChange → Option ℕ → State → State
after_change file change None s = changed file change s
after_change file change (Some through) s = failed file change (left_by change through (s.content file)) s

-- after a sync
abbrev pub after_sync : FileName → Option ℕ → State → State
after_sync file None s = synced file s
after_sync file (Some through) s = not_synced s

-- what goes out of bytes that are told
abbrev pub heard : List ℕ → Option ℕ → List ℕ
heard bytes None = bytes
heard bytes (Some through) = take through bytes

-- after bytes were told
abbrev pub after_tell : List ℕ → Option ℕ → State → State
after_tell bytes failure s = spoke bytes (heard bytes failure) s

-- with a file's bytes put there from outside, as synced; that makes no moment
abbrev pub after_put : FileName → List ℕ → State → State
after_put file bytes s = record { content = with_file file bytes s.content; now = durable file bytes s.now; past = s.past }

abbrev pub after_event : Event → State → State
after_event (Changed file change failure) s = after_change file (change_of change) failure s
after_event (Synced file failure) s = after_sync file failure s
after_event (Told bytes failure) s = after_tell bytes.items failure s
after_event (Put file bytes) s = after_put file bytes.items s

abbrev pub after_events : List Event → State → State
after_events [] s = s
after_events (event ∷ rest) s = after_events rest (after_event event s)

-- a site with no files, and nothing told
abbrev pub empty : State
empty = record {
  content = λ name. [];
  now = record { files = λ name. at_rest []; told = []; telling = [] };
  past = [];
}

-- the state that a history leads to
abbrev pub reached : List Event → State
reached history = after_events history empty

-- how many moments an event adds: those within a call and after it
abbrev pub moments_of : Event → ℕ
moments_of (Changed file change failure) = 2
moments_of (Synced file failure) = 2
moments_of (Told bytes failure) = 2
moments_of (Put file bytes) = 0

abbrev pub is_change : Event → Bool
is_change (Changed file change failure) = true
is_change (Synced file failure) = false
is_change (Told bytes failure) = false
is_change (Put file bytes) = false

-- an event keeps its file within the greatest length
abbrev pub FitsLimit : Event → Type 0
FitsLimit (Changed file change failure) = IsWithinLimit (change_of change)
FitsLimit (Synced file failure) = Unit {0}
FitsLimit (Told bytes failure) = Unit {0}
FitsLimit (Put file bytes) = length bytes.items ≤ 2 ^ 48

abbrev pub AllFitLimit : List Event → Type 0
AllFitLimit history = AllByRecursion FitsLimit history
