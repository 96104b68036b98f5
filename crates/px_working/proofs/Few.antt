-- Each commit has a frame.
use Rattle.std.proofs.Common.{◌≡◌, ℕ, ◌+◌, ◌-◌, ◌≤◌, ◌==◌, Bool, true, false, cond, List, [], ◌∷◌, drop, length, take, arith}
use Rattle.std.specs.List.{list_all}
use Rattle.std.proofs.lemmas.Bool.{and_parts, eqb-true, leb-true}
use Rattle.std.proofs.lemmas.List.{length-take}
use Rattle.px_change.specs.Grammar.{has_commit, is_change, is_due, is_of_tables, is_stored, is_within, may_hold}
use Rattle.px_change.specs.declared.change.Change.{Change}
use Rattle.px_change.specs.declared.change.ChangeKind.{ChangeKind}
use Rattle.px_change.specs.declared.change.ChangeKind.TheVariants as kind
use Rattle.px_life.proofs.Fronts.{stand_drop, stand_take}
use Rattle.px_life.specs.Front.{commits_at, last_number}
use Rattle.px_life.specs.Life.{IsLife, Life, MayStand, end_of}
use Rattle.px_model.specs.Machine.{Machine, commits}
use Rattle.px_model.specs.declared.row.Row.{Row}
use Rattle.px_reached.specs.Reachable.{IsReachable, Marks}
use Rattle.px_restart.specs.declared.restart.Restart.{Restart}
use Rattle.px_shown.specs.Parts.{Parts}
use Rattle.px_site.specs.State.{Moment}
use Rattle.px_standing.specs.Images.{IsPlainImage}
use Rattle.px_working.specs.Lasts.{IsValid, Lasts}
use Rattle.px_working.proofs.Moments.{can_restart}

-- a commit's number goes with that of its frame
commit_due : (tables number short : ℕ) (change : Change) → may_hold tables number short change ≡ true → change.commit ≤ number + 1
unfolding may_hold is_change
commit_due tables number short change held =
    let both = and_parts (is_change short change) (is_within tables number change) held in
    let within = and_parts (list_all (is_of_tables tables) change.cells) (is_due number change.kind change.commit) both.1 in
    let formed = and_parts (is_stored change.xn) _ both.0 in
    by_kind change.kind change.commit (and_parts (has_commit change.kind change.commit) _ formed.1).0 within.1
  where
    by_kind : (kind : ChangeKind) (commit : ℕ) → has_commit kind commit ≡ true → is_due number kind commit ≡ true → commit ≤ number + 1
    by_kind kind.Commit commit has due = leb-true commit (number + 1) due
    by_kind kind.Put commit has due = omega (arith, eqb-true commit 0 has)
    by_kind kind.Rollback commit has due = omega (arith, eqb-true commit 0 has)
    by_kind kind.Sweep commit has due = omega (arith, eqb-true commit 0 has)
    by_kind kind.Move commit has due = omega (arith, eqb-true commit 0 has)
    by_kind kind.Tidy commit has due = omega (arith, eqb-true commit 0 has)

last_due : (tables number short last : ℕ) (changes : List Change) → MayStand tables number short changes → last ≤ number → last_number last changes ≤ number + length changes
last_due tables number short last [] stand low = omega (arith, low)
last_due tables number short last (change ∷ changes) stand low =
    omega (
      arith,
      last_due tables (number + 1) short (cond (change.commit == 0) last change.commit) changes stand.1
          (either (change.commit == 0) (commit_due tables number short change stand.0)),
    )
  where
    either : (none : Bool) → change.commit ≤ number + 1 → cond none last change.commit ≤ number + 1
    either true due = omega (arith, low)
    either false due = due

-- there are no more commits than frames
few_commits : (parts : Parts) (next : ℕ) (rows : List Row) (life : Life) (restart : Restart) (marks : Marks) (now : Moment)
    → IsLife parts restart.short restart.tables next rows life → IsValid restart now → IsReachable IsPlainImage restart.short restart life marks now
    → commits_at restart life (end_of life) ≤ end_of life
few_commits parts next rows life restart marks now is valid reach =
    let can = can_restart restart now valid in
    let from : restart.first ≤ end_of life = omega (arith, can.marks.first_to, reach.redo_to, reach.applied, reach.end) in
    let behind = drop (restart.first - life.first) life.changes in
    let front = take (end_of life - restart.first) behind in
    let stand : MayStand restart.tables (life.first + (restart.first - life.first)) restart.short front =
    stand_take restart.tables (life.first + (restart.first - life.first)) restart.short (end_of life - restart.first) behind
    (stand_drop restart.tables life.first restart.short (restart.first - life.first) life.changes (omega (arith, reach.first, from)) is.stand) in
    let last = last_due restart.tables (life.first + (restart.first - life.first)) restart.short 0 front stand (omega arith) in
    omega (arith, last, length-take (end_of life - restart.first) behind, reach.first, from, can.marks.commits_to, reach.durable, reach.end)

pub no_more_commits : (parts : Parts) (least : ℕ) (m : Machine) (life : Life) (restart : Restart) (marks : Marks) (now : Moment)
    → Lasts parts least m life restart marks now → commits m ≤ end_of life
no_more_commits parts least m life restart marks now lasts =
    omega (arith, lasts.all_commits, few_commits parts (m.base + 1) m.opening life restart marks now lasts.is_life lasts.valid lasts.reachable)
