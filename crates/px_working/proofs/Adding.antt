-- The step that each call adds: a write, a commit and a rollback.
use Rattle.std.proofs.Common.{◌≡◌, ◌≢◌, ℕ, ◌+◌, ◌^◌, ◌<◌, List, [], ◌∷◌, length, Some, refl, sym, ap, subst, ◌∙◌, arith}
use Rattle.std.proofs.lemmas.Option.{none-some}
use Rattle.px_calls.specs.declared.call.Call.{Call}
use Rattle.px_calls.specs.declared.call.Call.TheVariants.{Commit, Rollback}
use Rattle.px_calls.specs.Steps.{open_of, state_after}
use Rattle.px_cell_laws.specs.Holding.{HoldsChains}
use Rattle.px_cell_laws.specs.Writing.{IsWriteBy}
use Rattle.px_cells.specs.declared.header.Header.{Header}
use Rattle.px_cells.specs.declared.slot.Slot.{Slot}
use Rattle.px_chain_laws.specs.Kept.{IsKept}
use Rattle.px_chain_laws.specs.Writing as calls
use Rattle.px_history.specs.Base.{IsBase}
use Rattle.px_history.specs.Fitting.{IsTable, PlacesFit}
use Rattle.px_history.specs.Steps.{History, IsStep, Step, after_step}
use Rattle.px_history.specs.Store.{Store}
use Rattle.px_history.specs.Writers.{AreAlone, HaveOneWriter, IsAlone}
use Rattle.px_life.specs.Life.{Life}
use Rattle.px_logged.proofs.Grown.{commit_counts, others_keep_committed}
use Rattle.px_model.specs.Machine.{Machine, commits}
use Rattle.px_model.specs.declared.machine.Open.{Open}
use Rattle.px_model.specs.declared.row.Row.{Row}
use Rattle.px_model.specs.declared.write.Write.{Write}
use Rattle.px_reached.specs.Reachable.{Marks}
use Rattle.px_recs.specs.Text.{SlotFits}
use Rattle.px_restart.specs.declared.restart.Restart.{Restart}
use Rattle.px_shown.specs.Parts.{Parts}
use Rattle.px_shown.specs.Shown.{write_of}
use Rattle.px_site.specs.State.{Moment}
use Rattle.px_working.specs.Follows.{last_store}
use Rattle.px_working.specs.Lasts.{Lasts}
use Rattle.px_working.specs.Works.{Works}
use Rattle.px_working.proofs.Calling.{Adds, stored_number}
use Rattle.px_working.proofs.Few.{no_more_commits}
use Rattle.px_working.proofs.Grown.{whole}
use Rattle.px_working.proofs.Tables.{written_table}

-- ---- what is used of the laws below

-- of the write of a call that is answered, with the link of its version
abbrev pub OnWrites : ((parts : Parts) (m : Machine) (store : Store) (session : ℕ) (call : Call) (step : Step) → Type 0) → Type 0
OnWrites Holds = (parts : Parts) (m : Machine) (store : Store) (session : ℕ) (call : Call) (t : ℕ) (header : Header) (slot : Slot)
    → HoldsChains parts m store → IsKept m → IsWriteBy parts m store session call t header slot → Holds parts m store session call (Step.put t header slot)

-- what the step of a call is, and what it leaves
abbrev pub Follow : (parts : Parts) (m : Machine) (store : Store) (session : ℕ) (call : Call) (step : Step) → Type 0
Follow parts m store session call step = IsStep parts m.short store step

abbrev pub BeAlone : (parts : Parts) (m : Machine) (store : Store) (session : ℕ) (call : Call) (step : Step) → Type 0
BeAlone parts m store session call step = IsAlone store step

abbrev pub LeaveChains : (parts : Parts) (m : Machine) (store : Store) (session : ℕ) (call : Call) (step : Step) → Type 0
LeaveChains parts m store session call step = HoldsChains parts (state_after m session call) (after_step store step)

abbrev pub CallsKeep : Type 0
CallsKeep = (m : Machine) (session : ℕ) (call : Call) → IsKept m → IsKept (state_after m session call)

abbrev pub HistoriesHaveOneWriter : Type 0
HistoriesHaveOneWriter = (parts : Parts) (short next : ℕ) (rows : List Row) (base store : Store) (steps : List Step) → IsBase parts short next rows base
    → History parts short base steps store → AreAlone base steps → HaveOneWriter store

-- ---- a write

isnt_commit : (call : Call) (w : Write) → calls.write_of call ≡ Some w → call ≢ Commit
isnt_commit call w writes is = absurd (none-some w (sym (ap calls.write_of is) ∙ writes))

pub write_adds : OnWrites Follow → OnWrites BeAlone → OnWrites LeaveChains → CallsKeep
    → (parts : Parts) (m : Machine) (life : Life) (restart : Restart) (session : ℕ) (call : Call) (t : ℕ) (header : Header) (slot : Slot)
    → Works parts m life restart → IsWriteBy parts m (last_store life) session call t header slot → PlacesFit header → SlotFits slot
    → Adds parts m life restart session call (Step.put t header slot)
write_adds follow alone leave keep parts m life restart session call t header slot works by places fits =
    let number = stored_number parts m life restart session by.xact works by.is_open in
    record {
      may = follow parts m (last_store life) session call t header slot works.holds works.kept by;
      alone = alone parts m (last_store life) session call t header slot works.holds works.kept by;
      written = record {
        table = subst (λ (tables : ℕ). IsTable tables t) (sym works.tables) (written_table parts m session call t slot by.write by.answered);
        places = places;
        its_slot = fits;
      };
      fits = tt;
      change_is = record { mark = refl; cells = refl; commit = refl };
      stored = (omega (arith, number.0, by.number), omega (arith, number.1, by.number));
      low = omega (arith, works.allows.open_ones session by.xact by.is_open, by.number);
      number = tt;
      commits_are = (others_keep_committed m session call (isnt_commit call (write_of parts t slot) by.write)).commits;
      chains = leave parts m (last_store life) session call t header slot works.holds works.kept by;
      kept = keep m session call works.kept;
    }

-- ---- ends

some_writes : (writes : List Write) → writes ≢ [] → 0 < length writes
some_writes [] some = absurd (some refl)
some_writes (w ∷ writes) some = omega arith

abbrev pub CommitsFollow : Type 0
CommitsFollow = (parts : Parts) (m : Machine) (store : Store) (session : ℕ) (xact : Open) → HoldsChains parts m store → IsKept m → HaveOneWriter store
    → open_of m session ≡ Some xact → IsStep parts m.short store (Step.commit (m.base + xact.number) (commits m + 1))

abbrev pub CommitsHold : Type 0
CommitsHold = (parts : Parts) (m : Machine) (store : Store) (session : ℕ) (xact : Open) → HoldsChains parts m store → IsKept m
    → open_of m session ≡ Some xact → xact.writes ≢ []
    → HoldsChains parts (state_after m session Commit) (after_step store (Step.commit (m.base + xact.number) (commits m + 1)))

pub commit_adds : CommitsFollow → CommitsHold → CallsKeep → HistoriesHaveOneWriter
    → (parts : Parts) (least : ℕ) (m : Machine) (life : Life) (restart : Restart) (marks : Marks) (before : Moment) (session : ℕ) (xact : Open)
    → Lasts parts least m life restart marks before → Works parts m life restart
    → open_of m session ≡ Some xact → xact.writes ≢ [] → commits m + 1 < 2 ^ 64
    → Adds parts m life restart session Commit (Step.commit (m.base + xact.number) (commits m + 1))
commit_adds follow hold keep one_writer parts least m life restart marks before session xact lasts works at some small =
    let is = lasts.is_life in
    let lead = whole parts restart.short restart.tables (m.base + 1) m.opening life is in
    let alone : HaveOneWriter (last_store life) = one_writer parts restart.short (m.base + 1) m.opening life.base (last_store life) life.steps is.base
    (record { follow = is.follow; lead = lead }) is.alone in
    record {
      may = follow parts m (last_store life) session xact works.holds works.kept alone at;
      alone = tt;
      written = tt;
      fits = record { some = omega arith; due = omega (arith, no_more_commits parts least m life restart marks before lasts); small = small };
      change_is = record { mark = refl; cells = refl; commit = refl };
      stored = stored_number parts m life restart session xact works at;
      low = tt;
      number = refl;
      commits_are = commit_counts m session xact at (some_writes xact.writes some);
      chains = hold parts m (last_store life) session xact works.holds works.kept at some;
      kept = keep m session Commit works.kept;
    }

abbrev pub RollbacksFollow : Type 0
RollbacksFollow = (parts : Parts) (m : Machine) (store : Store) (session : ℕ) (xact : Open) → HoldsChains parts m store → IsKept m
    → open_of m session ≡ Some xact → IsStep parts m.short store (Step.rollback (m.base + xact.number))

abbrev pub RollbacksHold : Type 0
RollbacksHold = (parts : Parts) (m : Machine) (store : Store) (session : ℕ) (xact : Open) → HoldsChains parts m store → IsKept m
    → open_of m session ≡ Some xact → xact.writes ≢ []
    → HoldsChains parts (state_after m session Rollback) (after_step store (Step.rollback (m.base + xact.number)))

pub rollback_adds : RollbacksFollow → RollbacksHold → CallsKeep
    → (parts : Parts) (m : Machine) (life : Life) (restart : Restart) (session : ℕ) (xact : Open) → Works parts m life restart
    → open_of m session ≡ Some xact → xact.writes ≢ [] → Adds parts m life restart session Rollback (Step.rollback (m.base + xact.number))
rollback_adds follow hold keep parts m life restart session xact works at some = record {
  may = follow parts m (last_store life) session xact works.holds works.kept at;
  alone = tt;
  written = tt;
  fits = tt;
  change_is = record { mark = refl; cells = refl; commit = refl };
  stored = stored_number parts m life restart session xact works at;
  low = tt;
  number = tt;
  commits_are = (others_keep_committed m session Rollback (λ is. absurd cc)).commits;
  chains = hold parts m (last_store life) session xact works.holds works.kept at some;
  kept = keep m session Rollback works.kept;
}
