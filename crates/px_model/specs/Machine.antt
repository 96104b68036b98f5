-- The machine that the store is, its views and its horizon.
use Rattle.std.specs.Prelude.{ℕ, ◌+◌, min, List, [], ◌∷◌, ◌++◌, map, length, take, filter, flat_map, count_by, Option, Some, None, is_some, unwrap_or}
use Rattle.px_model.specs.declared.row.Row.{Row}
use Rattle.px_model.specs.declared.write.Write.{Write}
use Rattle.px_model.specs.declared.machine.Ended.{Ended}
use Rattle.px_model.specs.declared.machine.Flat.{Flat}
use Rattle.px_model.specs.declared.machine.Open.{Open}
use Rattle.px_model.specs.Rows.{after}

pub record Machine : Type 0 where
  pub tables : ℕ
  pub short : ℕ
  -- the rows and the commits at the opening, and the number before that of the first transaction
  pub opening : List Row
  pub before : ℕ
  pub base : ℕ
  -- the transactions that ended with writes, in order
  pub ended : List Ended
  -- for each session its open transaction
  pub active : List (Option Open)
  pub begun : ℕ
  pub swept : ℕ

abbrev pub no_session : List (Option Open)
no_session = None ∷ None ∷ None ∷ None ∷ None ∷ None ∷ None ∷ None ∷ None ∷ None ∷ None ∷ None ∷ None ∷ None ∷ None ∷ None ∷ []

unfoldable pub fresh : (tables short : ℕ) → List Row → (before base : ℕ) → Machine
fresh tables short opening before base = record {
  tables = tables;
  short = short;
  opening = opening;
  before = before;
  base = base;
  ended = [];
  active = no_session;
  begun = 0;
  swept = 0;
}

-- the writes of the committed ones, in order
abbrev pub committed_writes : List Ended → List Write
committed_writes ended = flat_map (λ e. e.writes) (filter (λ e. e.committed) ended)

unfoldable pub commits : Machine → ℕ
commits m = m.before + count_by (λ e. e.committed) m.ended

-- how many transactions are open
unfoldable pub opens : Machine → ℕ
opens m = count_by is_some m.active

-- what an open transaction sees: the rows at its snapshot, and its own writes over them
unfoldable pub view : Machine → Open → List Row
view m xact = after (after m.opening (committed_writes (take xact.snap m.ended))) xact.writes

-- the rows after the first commits
unfoldable pub published : Machine → ℕ → List Row
published m count =
    after m.opening (flat_map (λ e. e.writes) (take count (filter (λ e. e.committed) m.ended)))

-- the lower one of a snapshot and of the least so far, if there is one
abbrev pub lower_of : Option ℕ → ℕ → ℕ
lower_of None snap = snap
lower_of (Some least) snap = min least snap

-- the least of the open transactions' snapshots and of the least so far
abbrev pub least_snap : Option ℕ → List (Option Open) → Option ℕ
least_snap least [] = least
least_snap least (None ∷ slots) = least_snap least slots
least_snap least (Some xact ∷ slots) = least_snap (Some (lower_of least xact.snap)) slots

-- the least snapshot of the open transactions, else the number of ended ones
unfoldable pub horizon : Machine → ℕ
horizon m = unwrap_or (least_snap None m.active) (length m.ended)

-- the writes of the entry at a place
abbrev pub flat_of : ℕ → Ended → List Flat
flat_of place e = map (λ w. record { place = place; number = e.number; committed = e.committed; write = w }) e.writes

-- all writes of the ended ones, in order, where the first entry stands at this place
abbrev pub flat_from : ℕ → List Ended → List Flat
flat_from place [] = []
flat_from place (e ∷ ended) = flat_of place e ++ flat_from (place + 1) ended

-- the writes of the committed ones
abbrev pub committed_flat : List Flat → List Write
committed_flat all = map (λ w. w.write) (filter (λ w. w.committed) all)

abbrev pub flat : Machine → List Flat
flat m = flat_from 0 m.ended
