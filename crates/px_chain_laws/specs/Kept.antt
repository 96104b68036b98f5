-- What holds of every machine that calls and sweeps lead to.
use Rattle.std.specs.Prelude.{◌≡◌, ◌≢◌, ◌<◌, ◌≤◌, ℕ, true, List, All, length, take, Option, Some, None, slice_get, slice_index_or}
use Rattle.px_model.specs.declared.machine.Ended.{Ended}
use Rattle.px_model.specs.declared.machine.Open.{Open}
use Rattle.px_model.specs.Rows.{Key, has_write_of}
use Rattle.px_model.specs.Machine.{Machine, flat}
use Rattle.px_calls.specs.Histories.{FirstCommitterWins}
use Rattle.px_calls.specs.Steps.{open_of}
use Rattle.px_machine_laws.specs.Begun.{WereBegun}

-- the numbers of the open and of the ended transactions were given out, each once
pub record AreNumbered (begun : ℕ) (ended : List Ended) (active : List (Option Open)) : Type 0 where
  pub open_ones : WereBegun begun active
  pub from_one : (place : ℕ) (e : Ended) → slice_get ended place ≡ Some e → 1 ≤ e.number
  pub given : (place : ℕ) (e : Ended) → slice_get ended place ≡ Some e → e.number ≤ begun
  pub once : (place other : ℕ) (e f : Ended) → slice_get ended place ≡ Some e → slice_get ended other ≡ Some f → e.number ≡ f.number → place ≡ other
  pub not_open : (place session : ℕ) (e : Ended) (xact : Open) → slice_get ended place ≡ Some e → slice_index_or active session None ≡ Some xact
      → e.number ≢ xact.number

-- Whose writes share a key: of two that committed the later one began after the earlier one ended, what an open transaction
-- has written no other open one has, nor one that committed at or past its snapshot.
pub record HaveOwnKeys (ended : List Ended) (active : List (Option Open)) : Type 0 where
  pub first_wins : FirstCommitterWins ended
  pub seen : (session place : ℕ) (xact : Open) (e : Ended) (key : Key) → slice_index_or active session None ≡ Some xact
      → slice_get ended place ≡ Some e → e.committed ≡ true → has_write_of key e.writes ≡ true → has_write_of key xact.writes ≡ true
      → place < xact.snap
  pub apart : (session other : ℕ) (x y : Open) (key : Key) → other ≢ session → slice_index_or active session None ≡ Some x
      → slice_index_or active other None ≡ Some y → has_write_of key x.writes ≡ true → has_write_of key y.writes ≡ true → ⊥

-- the sweeper has passed only what every open transaction knows as ended
pub record KeepsSnapshots (m : Machine) : Type 0 where
  pub within : m.swept ≤ length (flat m)
  pub snaps : (session : ℕ) (xact : Open) → open_of m session ≡ Some xact → xact.snap ≤ length m.ended
  pub below : (session : ℕ) (xact : Open) → open_of m session ≡ Some xact → All (λ w. w.place < xact.snap) (take m.swept (flat m))

pub record IsKept (m : Machine) : Type 0 where
  pub numbered : AreNumbered m.begun m.ended m.active
  pub own_keys : HaveOwnKeys m.ended m.active
  pub swept : KeepsSnapshots m
