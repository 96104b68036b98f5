-- The restart files are synced, one after the other.
use Rattle.std.proofs.Common.{ℕ, false, List, refl, sym, ap, subst, ◌∙◌, ◌≡◌, Result, Ok, Err, OnOk}
use Rattle.px_cells.specs.declared.cell.CellKind.{CellKind}
use Rattle.px_cells.specs.declared.cell.CellKind.TheVariants as kind
use Rattle.px_recs.specs.Place.{table_file}
use Rattle.px_site.proofs.Files.{with_file_other}
use Rattle.px_site.specs.Disk.{at_rest}
use Rattle.px_site.specs.Names.{same_file}
use Rattle.px_site.specs.declared.name.FileName.TheVariants.{Restart as RestartFile}
use Rattle.px_site.specs.declared.name.FileName.{FileName}
use Rattle.px_site.specs.declared.error.SiteError.{SiteError}
use Rattle.px_site.specs.State.{State, EachMoment, Syncs, synced}
use Rattle.px_site.proofs.Moments.{sync_moments}
use Rattle.px_model.specs.declared.row.Row.{Row}
use Rattle.px_standing.specs.Resting.{RestartsRest}
use Rattle.px_cell_standing.specs.Images.{KeepsStanding}
use Rattle.px_cell_standing.specs.Settled.{IsAlone, Settled}
use Rattle.px_recovery.specs.Making.{first_file, second_file}
use Rattle.px_recovery.specs.Opening.{TellsNothing}
use Rattle.px_recovery.proofs.Quiet.{quiet_then, standing_then}

-- ---- what is used of the laws below

abbrev pub SyncStands : Type 0
SyncStands = (file : FileName) (a b : State) (result : Result (Unit {0}) SiteError) (commits : ℕ) (rows : List Row) → Settled a commits rows → Syncs file a b result
    → EachMoment (KeepsStanding commits rows a.now) a b

abbrev pub SyncSettles : Type 0
SyncSettles = (file : FileName) (a b : State) (result : Result (Unit {0}) SiteError) (commits : ℕ) (rows : List Row) → Settled a commits rows → Syncs file a b result
    → OnOk result (Settled b commits rows)

-- ---- one file

pub syncing_quiet : {T : Type 0} {file : FileName} {a b : State} {r : Result T SiteError} → Syncs file a b r → EachMoment (TellsNothing a.now) a b
syncing_quiet syncs = sync_moments syncs (record { told = refl; telling = refl }) (record { told = refl; telling = refl })

table_away : (which : ℕ) (what : CellKind) (table : ℕ) → same_file (RestartFile which) (table_file what table) ≡ false
table_away which kind.Header table = refl
table_away which kind.Slot table = refl
table_away which kind.Pointer table = refl

still_alone : (which : ℕ) (s : State) → IsAlone s → IsAlone (synced (RestartFile which) s)
still_alone which s alone = record {
  content = alone.content;
  tables = λ what table.
      with_file_other (RestartFile which) (table_file what table) (at_rest (s.content (RestartFile which))) s.now.files (table_away which what table)
      ∙ alone.tables what table;
  segments = alone.segments;
}

-- ---- both restart files

module _ {a b c : State} {x : Unit {0}} {r : Result (Unit {0}) SiteError} (one : Syncs first_file a b (Ok x)) (two : Syncs second_file b c r) where
  pub both_rest : OnOk r (RestartsRest c.now c.content)
  both_rest = by_result r two.ok
    where
      by_result : (r : Result (Unit {0}) SiteError) → OnOk r (c ≡ synced second_file b) → OnOk r (RestartsRest c.now c.content)
      by_result (Ok _) ok = subst (λ (s : State). RestartsRest s.now s.content) (sym (ok ∙ ap (synced second_file) one.ok)) (record { first = refl; second = refl })
      by_result (Err _) ok = tt

  pub both_alone : IsAlone a → OnOk r (IsAlone c)
  both_alone alone = by_result r two.ok
    where
      by_result : (r : Result (Unit {0}) SiteError) → OnOk r (c ≡ synced second_file b) → OnOk r (IsAlone c)
      by_result (Ok _) ok = subst IsAlone (sym (ok ∙ ap (synced second_file) one.ok)) (still_alone 1 (synced first_file a) (still_alone 0 a alone))
      by_result (Err _) ok = tt

  pub both_settle : SyncSettles → (count : ℕ) (rows : List Row) → Settled a count rows → OnOk r (Settled c count rows)
  both_settle settles count rows settled = settles second_file b c r count rows (settles first_file a b (Ok x) count rows settled one) two

  pub both_stand : SyncStands → SyncSettles → (count : ℕ) (rows : List Row) → Settled a count rows → EachMoment (KeepsStanding count rows a.now) a c
  both_stand stands settles count rows settled =
      standing_then (stands first_file a b (Ok x) count rows settled one) (stands second_file b c r count rows (settles first_file a b (Ok x) count rows settled one) two)

  pub both_quiet : EachMoment (TellsNothing a.now) a c
  both_quiet = quiet_then (syncing_quiet one) (syncing_quiet two)
