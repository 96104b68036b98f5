-- A fresh machine lasts and works.
use Rattle.std.proofs.Common.{◌≡◌, ℕ, zero, suc, ◌+◌, ◌-◌, ◌<◌, ◌≤◌, ◌&&◌, Bool, true, All, List, [], drop, take, refl, sym, ap, subst, arith}
use Rattle.std.proofs.lemmas.Bool.{le-ltb}
use Rattle.px_cell_laws.specs.Holding.{HoldsChains}
use Rattle.px_chain.specs.Sound.{IsUsedRow}
use Rattle.px_chain_laws.specs.Kept.{IsKept}
use Rattle.px_change.specs.declared.change.Change.{Change}
use Rattle.px_history.specs.Base.{IsBase}
use Rattle.px_history.specs.Steps.{History, Step}
use Rattle.px_history.specs.Store.{IsOpen, IsTidied, Store, versions_of}
use Rattle.px_life.specs.Example.{new_life}
use Rattle.px_life.specs.Front.{commits_at, last_number}
use Rattle.px_life.specs.Life.{IsLife, Life, between, end_of, store_at}
use Rattle.px_logged.proofs.Recounted.{no_slot}
use Rattle.px_model.specs.Machine.{commits, fresh, published}
use Rattle.px_model.specs.declared.limits.TheConstants.{STORED_NUMBERS_END}
use Rattle.px_model.specs.declared.row.Row.{Row}
use Rattle.px_reached.specs.Example.{no_marks}
use Rattle.px_reached.specs.Reachable.{IsReachable, Marks}
use Rattle.px_restart.specs.declared.restart.Restart.{Restart}
use Rattle.px_shown.specs.Parts.{Parts}
use Rattle.px_shown.specs.Shown.{Shows}
use Rattle.px_shown.specs.Tables.{AreSound}
use Rattle.px_site.specs.Disk.{at_rest}
use Rattle.px_site.specs.State.{Moment}
use Rattle.px_site.specs.declared.name.FileName.TheVariants.{Rec, Row as RowFile, Xlog}
use Rattle.px_standing.specs.Images.{IsPlainImage}
use Rattle.px_working.specs.Follows.{last_store}
use Rattle.px_working.specs.Lasts.{IsOneSegment, IsValid, Lasts}
use Rattle.px_working.specs.Works.{Works}
use Rattle.px_working.proofs.Grown.{whole}
use Rattle.px_working.proofs.Moments.{can_restart}

-- ---- what is used of the laws below

abbrev pub FreshAreKept : Type 0
FreshAreKept = (tables short : ℕ) (opening : List Row) (before base : ℕ) → IsKept (fresh tables short opening before base)

abbrev pub TidiedHold : Type 0
TidiedHold = (parts : Parts) (tables short : ℕ) (rows : List Row) (before base : ℕ) (store : Store)
    → AreSound short store.tables store.layouts → IsTidied store → Shows parts store.tables store.layouts store.done rows
    → ((t row : ℕ) → IsUsedRow (store.tables t) row → All (λ slot. slot.xn ≤ base) (versions_of store t row))
    → ((xn : ℕ) → base < xn → IsOpen store xn) → HoldsChains parts (fresh tables short rows before base) store

abbrev pub HistoriesAreSound : Type 0
HistoriesAreSound = (parts : Parts) (short next : ℕ) (rows : List Row) (base store : Store) (steps : List Step) → IsBase parts short next rows base
    → History parts short base steps store → AreSound short store.tables store.layouts

pub begins : FreshAreKept → TidiedHold → HistoriesAreSound
    → (parts : Parts) (rows : List Row) (before base : ℕ) (life : Life) (restart : Restart)
    → let store = last_store life in
    IsLife parts restart.short restart.tables (base + 1) rows life → IsTidied store
    → Shows parts store.tables store.layouts store.done rows
    → ((t row : ℕ) → IsUsedRow (store.tables t) row → All (λ slot. slot.xn ≤ base) (versions_of store t row))
    → ((xn : ℕ) → base < xn → IsOpen store xn)
    → restart.low ≤ base + 1 → base < STORED_NUMBERS_END
    → Works parts (fresh restart.tables restart.short rows before base) life restart
unfolding fresh
begins kept hold sound parts rows before base life restart is tidied shows numbers later low stored =
    let store = last_store life in
    let lead = whole parts restart.short restart.tables (base + 1) rows life is in
    record {
      short = refl;
      tables = refl;
      holds = hold parts restart.tables restart.short rows before base store
          (sound parts restart.short (base + 1) rows life.base store life.steps is.base (record { follow = is.follow; lead = lead }))
          tidied shows numbers later;
      kept = kept restart.tables restart.short rows before base;
      allows = record { next = omega (arith, low); open_ones = λ session xact at. absurd (no_slot session xact at) };
      numbers = omega (arith, stored);
    }

-- ---- what was found lasts

fresh_published : (tables short : ℕ) (rows : List Row) (before base count : ℕ) → published (fresh tables short rows before base) count ≡ rows
unfolding fresh published
fresh_published tables short rows before base zero = refl
fresh_published tables short rows before base (suc count) = refl

pub found_lasts : (parts : Parts) (rows : List Row) (base : ℕ) (life : Life) (restart : Restart) (marks : Marks) (now : Moment)
    → let store = last_store life in let found = commits_at restart life (end_of life) in
    IsLife parts restart.short restart.tables (base + 1) rows life → Shows parts store.tables store.layouts store.done rows
    → IsOneSegment restart life now → IsValid restart now → IsReachable IsPlainImage restart.short restart life marks now → marks.durable ≡ end_of life
    → Lasts parts found (fresh restart.tables restart.short rows found base) life restart marks now
unfolding fresh commits
found_lasts parts rows base life restart marks now is shows one valid reach durable =
    let found = commits_at restart life (end_of life) in
    let only : (frame : ℕ) → marks.durable ≤ frame → frame ≤ end_of life → end_of life ≡ frame = λ frame from to. omega (arith, from, to, durable) in
    record {
      is_life = is;
      segment = one;
      valid = valid;
      reachable = reach;
      publishes = λ frame from to. subst
          (λ (n : ℕ). let store = store_at life n in
          Shows parts store.tables store.layouts store.done (published (fresh restart.tables restart.short rows found base) (commits_at restart life n - found)))
          (only frame from to)
          (subst (Shows parts (last_store life).tables (last_store life).layouts (last_store life).done)
          (sym (fresh_published restart.tables restart.short rows found base (found - found))) shows);
      acknowledged = λ frame from to. omega (arith, ap (commits_at restart life) (only frame from to));
      made = λ frame from to. omega (arith, ap (commits_at restart life) (only frame from to));
      all_commits = omega arith;
    }

-- ---- a new store

take_none : (count from : ℕ) → take {A = Change} count (drop from []) ≡ []
take_none zero from = refl
take_none (suc count) zero = refl
take_none (suc count) (suc from) = refl

abbrev pub FoundLast : Type 0
FoundLast = (parts : Parts) (rows : List Row) (base : ℕ) (life : Life) (restart : Restart) (marks : Marks) (now : Moment)
    → let store = last_store life in let found = commits_at restart life (end_of life) in
    IsLife parts restart.short restart.tables (base + 1) rows life → Shows parts store.tables store.layouts store.done rows
    → IsOneSegment restart life now → IsValid restart now → IsReachable IsPlainImage restart.short restart life marks now → marks.durable ≡ end_of life
    → Lasts parts found (fresh restart.tables restart.short rows found base) life restart marks now

abbrev pub BeginWorks : Type 0
BeginWorks = (parts : Parts) (rows : List Row) (before base : ℕ) (life : Life) (restart : Restart)
    → let store = last_store life in
    IsLife parts restart.short restart.tables (base + 1) rows life → IsTidied store
    → Shows parts store.tables store.layouts store.done rows
    → ((t row : ℕ) → IsUsedRow (store.tables t) row → All (λ slot. slot.xn ≤ base) (versions_of store t row))
    → ((xn : ℕ) → base < xn → IsOpen store xn)
    → restart.low ≤ base + 1 → base < STORED_NUMBERS_END
    → Works parts (fresh restart.tables restart.short rows before base) life restart

abbrev pub NewIsLife : Type 0
NewIsLife = (parts : Parts) (short tables : ℕ) → IsLife parts short tables 1 [] new_life

abbrev pub NewIsReachable : Type 0
NewIsReachable = (short : ℕ) (restart : Restart) (m : Moment) → restart.first ≡ 0 → restart.redo ≡ 0 → restart.durable ≡ 0
    → ((k : ℕ) → m.files (Xlog k) ≡ at_rest []) → ((t : ℕ) → (m.files (Rec t) ≡ at_rest []) × (m.files (RowFile t) ≡ at_rest []))
    → IsReachable IsPlainImage short restart new_life no_marks m

pub new_lasts : FoundLast → NewIsLife → NewIsReachable → (parts : Parts) (restart : Restart) (now : Moment) → IsValid restart now → IsOneSegment restart new_life now
    → restart.redo ≡ 0 → restart.durable ≡ 0
    → ((k : ℕ) → now.files (Xlog k) ≡ at_rest []) → ((t : ℕ) → (now.files (Rec t) ≡ at_rest []) × (now.files (RowFile t) ≡ at_rest []))
    → Lasts parts 0 (fresh restart.tables restart.short [] 0 0) new_life restart no_marks now
new_lasts found is reachable parts restart now valid one redo durable logs tables =
    let can = can_restart restart now valid in
    let life = is parts restart.short restart.tables in
    let none : commits_at restart new_life (end_of new_life) ≡ 0 = omega (arith, can.marks.commits_to, durable, last_of_none) in
    subst (λ (n : ℕ). Lasts parts n (fresh restart.tables restart.short [] n 0) new_life restart no_marks now) none
    (found parts [] 0 new_life restart no_marks now life life.base.shows one valid
    (reachable restart.short restart now (omega (arith, one.first)) redo durable logs tables) refl)
  where
    last_of_none : last_number 0 (between new_life restart.first (end_of new_life)) ≡ 0
    last_of_none = ap (last_number 0) (take_none (0 - restart.first) (restart.first - 0))

pub new_works : BeginWorks → NewIsLife → (parts : Parts) (restart : Restart) → restart.low ≤ 1 → Works parts (fresh restart.tables restart.short [] 0 0) new_life restart
new_works begin is parts restart low =
    let life = is parts restart.short restart.tables in
    begin parts [] 0 0 new_life restart life
    (record { each = λ t row used. absurd (omega (arith, used.0.0, used.0.1)) })
    life.base.shows
    (λ t row used. absurd (omega (arith, used.0.0, used.0.1)))
    (λ xn past. record { undone = refl; not_over = ap (λ (b : Bool). b && true) (le-ltb xn 1 past) })
    (omega (arith, low)) (omega arith)
