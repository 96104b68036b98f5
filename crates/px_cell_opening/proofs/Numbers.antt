-- What stands in frames that may hold it: numbers of transactions and of commits.
use Rattle.std.proofs.Common.{◌≡◌, ℕ, ◌+◌, ◌<◌, ◌≤◌, ◌==◌, ◌&&◌, ◌||◌, All, Bool, cond, true, false, List, [], ◌∷◌, length, sym, ap, ◌∙◌, arith, inl, inr}
use Rattle.std.specs.Prelude.{nat_lt}
use Rattle.std.specs.List.{list_all}
use Rattle.std.proofs.Math.Path.{fun_ext}
use Rattle.std.proofs.lemmas.Bool.{and_parts, cases_lt, eqb-true, le-ltb, leb-true, lt-ltb, ltb-true}
use Rattle.std.proofs.lemmas.List.Elements.{All-cons, All-nil}
use Rattle.px_beginning.proofs.Frames.{committed_below}
use Rattle.px_change.specs.Grammar.{has_commit, is_change, is_due, is_of_tables, is_stored, is_within, may_hold}
use Rattle.px_change.specs.declared.change.Change.{Change}
use Rattle.px_change.specs.declared.change.ChangeKind.{ChangeKind}
use Rattle.px_change.specs.declared.change.ChangeKind.TheVariants as kind
use Rattle.px_history.specs.Fitting.{IsStoredNumber}
use Rattle.px_life.proofs.Commits.{is_among, none_from}
use Rattle.px_life.specs.Front.{commits_by, done_by, last_number}
use Rattle.px_life.specs.Life.{committed_by}
use Rattle.px_life.specs.Life as life
use Rattle.px_log.specs.MayStand.{MayStand}
use Rattle.px_restart.specs.Restart.{CanRestart}
use Rattle.px_restart.specs.declared.restart.Restart.{Restart}

-- ---- one word of the log and of a life

pub life_stand : (tables number short : ℕ) (changes : List Change) → MayStand tables number short changes → life.MayStand tables number short changes
life_stand tables number short [] stand = tt
life_stand tables number short (change ∷ changes) stand = (stand.0, life_stand tables (number + 1) short changes stand.1)

pub log_stand : (tables number short : ℕ) (changes : List Change) → life.MayStand tables number short changes → MayStand tables number short changes
log_stand tables number short [] stand = tt
log_stand tables number short (change ∷ changes) stand = (stand.0, log_stand tables (number + 1) short changes stand.1)

-- ---- transactions

stored_held : (tables number short : ℕ) (change : Change) → may_hold tables number short change ≡ true → IsStoredNumber change.xn
unfolding may_hold is_change
stored_held tables number short change held =
    let whole = and_parts _ _ held in
    let first = and_parts (is_stored change.xn) _ whole.0 in
    let both = and_parts _ _ first.0 in
    (leb-true _ _ both.0, ltb-true _ _ both.1)

pub all_stored : (tables number short : ℕ) (changes : List Change) → MayStand tables number short changes → All (λ change. IsStoredNumber change.xn) changes
all_stored tables number short [] stand = All-nil (λ (c : Change). IsStoredNumber c.xn)
all_stored tables number short (change ∷ changes) stand =
    All-cons (λ (c : Change). IsStoredNumber c.xn) change changes (stored_held tables number short change stand.0) (all_stored tables (number + 1) short changes stand.1)

-- who is done has a number below the next one
undone_from : (low next number : ℕ) (list : List ℕ) → All (λ xn. xn < next) list → low ≤ next → next ≤ number → (is_among number list || nat_lt number low) ≡ false
undone_from low next number list below from past =
    ap (λ (b : Bool). b || nat_lt number low) (none_from next number list below past) ∙ le-ltb number low (omega (arith, from, past))

both_or : (low next number : ℕ) (done : Bool) → (next ≤ number → done ≡ false) → (nat_lt number next && done) ≡ done
both_or low next number done undone = elim (cases_lt number next) [
  | inl below ↦ ap (λ (b : Bool). b && done) (lt-ltb number next below)
  | inr past ↦ ap (λ (b : Bool). b && done) (le-ltb number next past) ∙ sym (undone past)
]

pub done_below : (restart : Restart) (changes : List Change) (next : ℕ) → restart.low ≤ next → All (λ change. change.xn < next) changes
    → (λ number. nat_lt number next && done_by restart changes number) ≡ done_by restart changes
done_below restart changes next from below =
    fun_ext (λ number. both_or restart.low next number (done_by restart changes number)
    (λ past. undone_from restart.low next number (committed_by changes) (committed_below next changes below) from past))

-- ---- commits

commit_due : (tables number short : ℕ) (change : Change) → may_hold tables number short change ≡ true → change.commit ≤ number + 1
unfolding may_hold is_change
commit_due tables number short change held =
    let both = and_parts (is_change short change) (is_within tables number change) held in
    let within = and_parts (list_all (is_of_tables tables) change.cells) (is_due number change.kind change.commit) both.1 in
    let formed = and_parts (is_stored change.xn) _ both.0 in
    by_kind change.kind change.commit (and_parts (has_commit change.kind change.commit) _ formed.1).0 within.1
  where
    by_kind : (kind : ChangeKind) (commit : ℕ) → has_commit kind commit ≡ true → is_due number kind commit ≡ true → commit ≤ number + 1
    by_kind kind.Commit commit has due = leb-true commit (number + 1) due
    by_kind kind.Put commit has due = omega (arith, eqb-true commit 0 has)
    by_kind kind.Rollback commit has due = omega (arith, eqb-true commit 0 has)
    by_kind kind.Sweep commit has due = omega (arith, eqb-true commit 0 has)
    by_kind kind.Move commit has due = omega (arith, eqb-true commit 0 has)
    by_kind kind.Tidy commit has due = omega (arith, eqb-true commit 0 has)

last_due : (tables number short last : ℕ) (changes : List Change) → MayStand tables number short changes → last ≤ number → last_number last changes ≤ number + length changes
last_due tables number short last [] stand low = omega (arith, low)
last_due tables number short last (change ∷ changes) stand low =
    omega (
      arith,
      last_due tables (number + 1) short (cond (change.commit == 0) last change.commit) changes stand.1
          (either (change.commit == 0) (commit_due tables number short change stand.0)),
    )
  where
    either : (none : Bool) → change.commit ≤ number + 1 → cond none last change.commit ≤ number + 1
    either true due = omega (arith, low)
    either false due = due

-- there are no more than frames
pub few_commits : (restart : Restart) (changes : List Change) (frames : ℕ) → CanRestart restart → MayStand restart.tables 0 restart.short changes
    → restart.durable ≤ frames → frames ≡ length changes → commits_by restart changes ≤ frames
few_commits restart changes frames can stand reached count =
    let last = last_due restart.tables 0 restart.short 0 changes stand (omega arith) in
    omega (arith, last, can.marks.commits_to, reached, count)
