-- The numbers that a machine knows, after each call.
use Rattle.std.proofs.Common.{◌≡◌, ℕ, ◌+◌, ◌≤◌, Bool, cond, true, false, [], ◌∷◌, Some, refl, sym, subst, ◌∙◌, arith}
use Rattle.std.specs.Prelude.{slice_get}
use Rattle.std.proofs.lemmas.Option.{get_or_from_slice_get, slice_get_within}
use Rattle.px_beginning.proofs.Steps.{IsCounted}
use Rattle.px_calls.specs.Steps.{is_refusal, reply_of, state_after, state_when_done}
use Rattle.px_calls.specs.Sweeps.{swept_state}
use Rattle.px_calls.specs.declared.call.Call.{Call}
use Rattle.px_calls.specs.declared.call.Call.TheVariants.{Begin, Get, Hold, Fetch, Find, Scan, Insert, Update, Delete, Commit, Rollback}
use Rattle.px_cell_laws.specs.Sweeping.{IsSweptAt, sweep_of}
use Rattle.px_cells.specs.declared.cell.CellKind.{CellKind}
use Rattle.px_cells.specs.declared.cell.CellKind.TheVariants as kind
use Rattle.px_chain_laws.proofs.Ended.{flats_from}
use Rattle.px_chain_laws.specs.Kept.{IsKept}
use Rattle.px_history.specs.Steps.{Step}
use Rattle.px_history.specs.Written.{change_of, writer_of}
use Rattle.px_life.specs.Life.{Life}
use Rattle.px_logged.proofs.Grown.{opening_stays}
use Rattle.px_logged.specs.Growing.{KeepsOpening}
use Rattle.px_model.specs.Machine.{Machine, flat}
use Rattle.px_model.specs.declared.machine.Flat.{Flat}
use Rattle.px_recs.specs.Place.{table_file}
use Rattle.px_restart.specs.declared.restart.Restart.{Restart}
use Rattle.px_shown.specs.Parts.{Parts}
use Rattle.px_shown.specs.Tables.{AreSound}
use Rattle.px_site.specs.Names.{same_file}
use Rattle.px_site.specs.State.{Moment}
use Rattle.px_standing.specs.Images.{LeavesOthers}
use Rattle.px_working.specs.Follows.{Follows, last_store, swept_change, with_step, with_sweep}
use Rattle.px_working.specs.Works.{Works}
use Rattle.px_cell_standing.specs.Found.{NamesNumbers}
use Rattle.px_xlog.specs.Contents.{the_log}
use Rattle.px_cell_standing.specs.Settled.{HasEmptyTables}
use Rattle.px_cell_standing.specs.Naming.{IsOneVersion}
use Rattle.px_cell_standing.proofs.Naming.{names_step, sweep_names, unnamed_rises}

-- ---- numbers are only given

done_grows : (m : Machine) (session : ℕ) (call : Call) → m.begun ≤ (state_when_done m session call).begun
unfolding state_when_done
done_grows m session Begin = omega arith
done_grows m session (Get table key) = omega arith
done_grows m session (Hold table key) = omega arith
done_grows m session (Fetch ticket) = omega arith
done_grows m session (Find table tag) = omega arith
done_grows m session (Scan table) = omega arith
done_grows m session (Insert table key tag body) = omega arith
done_grows m session (Update table key tag body) = omega arith
done_grows m session (Delete table key) = omega arith
done_grows m session Commit = omega arith
done_grows m session Rollback = omega arith

unless_refused : (m done : Machine) (refused : Bool) → m.begun ≤ done.begun → m.begun ≤ (cond refused m done).begun
unless_refused m done true grows = omega arith
unless_refused m done false grows = grows

pub begun_grows : (m : Machine) (session : ℕ) (call : Call) → m.begun ≤ (state_after m session call).begun
unfolding state_after
begun_grows m session call = unless_refused m (state_when_done m session call) (is_refusal (reply_of m session call)) (done_grows m session call)

keeps : (m : Machine) (session : ℕ) (call : Call) → KeepsOpening m (state_after m session call)
keeps m session call = opening_stays m ((session, call) ∷ [])

-- ---- without a step

pub names_later : (m later : Machine) (life : Life) (restart : Restart) → later.base ≡ m.base → m.begun ≤ later.begun → NamesNumbers m life restart → NamesNumbers later life restart
names_later m later life restart base begun names = record {
  from = λ next unnamed. omega (arith, names.from next unnamed, base);
  to = unnamed_rises restart life.changes (last_store life).tables (last_store life).layouts (m.base + m.begun + 1) (later.base + later.begun + 1) (omega (arith, base, begun)) names.to;
}

pub call_names : (m : Machine) (life : Life) (restart : Restart) (session : ℕ) (call : Call) → NamesNumbers m life restart → NamesNumbers (state_after m session call) life restart
call_names m life restart session call names = names_later m (state_after m session call) life restart (keeps m session call).base (begun_grows m session call) names

-- ---- with a step that follows

pub follow_names : (parts : Parts) (m : Machine) (life : Life) (restart : Restart) (session : ℕ) (call : Call) (step : Step) → IsCounted life → Works parts m life restart
    → Follows parts m life restart step (change_of restart.short (last_store life) step) (state_after m session call) → IsOneVersion step
    → writer_of (last_store life) step ≤ m.base + m.begun → NamesNumbers m life restart
    → NamesNumbers (state_after m session call) (with_step restart.short life step) restart
follow_names parts m life restart session call step count works follows one writer names =
    let later = state_after m session call in
    let begun = begun_grows m session call in
    names_step parts m later life restart step count
    (subst (λ (short : ℕ). AreSound short (last_store life).tables (last_store life).layouts) (sym works.short) works.holds.sound)
    follows.may one (keeps m session call).base begun (omega (arith, writer, begun)) names

-- ---- with a sweep

-- it gives no number
swept_base : (m : Machine) → (swept_state m).base ≡ m.base
unfolding swept_state
swept_base m = refl

swept_begun : (m : Machine) → (swept_state m).begun ≡ m.begun
unfolding swept_state
swept_begun m = refl

pub swept_names : (m : Machine) (life : Life) (restart : Restart) → NamesNumbers m life restart → NamesNumbers (swept_state m) life restart
swept_names m life restart names =
    let begun = swept_begun m in
    names_later m (swept_state m) life restart (swept_base m) (omega (arith, begun)) names

-- the write that is swept is one of a transaction that has begun
next_given : (m : Machine) (w : Flat) → IsKept m → slice_get (flat m) m.swept ≡ Some w → w.number ≤ m.begun
next_given m w kept at =
    let IsGiven : Flat → Type 0 = λ write. write.number ≤ m.begun in
    subst IsGiven (get_or_from_slice_get (flat m) m.swept w w at)
    (flats_from IsGiven 0 m.ended (λ i e write is. kept.numbered.given i e is) m.swept w (slice_get_within (flat m) m.swept w at))

pub follow_sweep_names : (parts : Parts) (m : Machine) (life : Life) (restart : Restart) (w : Flat) (t row place : ℕ) → IsCounted life → Works parts m life restart
    → let store = last_store life in
    let step = sweep_of store w t row place in
    IsSweptAt m store w t row place → Follows parts m life restart step (swept_change restart.short store step (m.base + w.number)) (swept_state m)
    → NamesNumbers m life restart → NamesNumbers (swept_state m) (with_sweep restart.short life step (m.base + w.number)) restart
follow_sweep_names parts m life restart w t row place count works at follows names =
    let store = last_store life in
    let given = next_given m w works.kept at.next in
    swept_names m (with_sweep restart.short life (sweep_of store w t row place) (m.base + w.number)) restart
    (sweep_names m life restart t row _ _ (m.base + w.number) count
    (subst (λ (short : ℕ). AreSound short store.tables store.layouts) (sym works.short) works.holds.sound)
    follows.may (omega arith) (omega (arith, given)) names)

-- ---- the table files

no_log : (what : CellKind) (table : ℕ) → same_file the_log (table_file what table) ≡ false
no_log kind.Header table = refl
no_log kind.Slot table = refl
no_log kind.Pointer table = refl

pub empty_still : (before now : Moment) → LeavesOthers before now → HasEmptyTables before → HasEmptyTables now
empty_still before now others empty what table = others (table_file what table) (no_log what table) ∙ empty what table
