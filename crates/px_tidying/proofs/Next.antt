-- The least number past those of all versions of the tables is past those in the chains, and no less.
use Rattle.std.proofs.Common.{◌≡◌, ℕ, ◌<◌, ◌≤◌, All, IfErr, IfOk, List, [], ◌∷◌, Ok, Err, Result, length, map, sym, subst, arith}
use Rattle.std.specs.Prelude.{IsErrAnd}
use Rattle.std.proofs.lemmas.List.Elements.{All-cons, All-contains, All-head, All-map, All-nil, All-tail, All-weaker}
use Rattle.px_beginning.specs.Numbers.{IsNext, IsUnnamed}
use Rattle.px_cells.specs.declared.slot.Slot.{Slot}
use Rattle.px_chain.specs.Sound.{IsSound, IsUsedRow, IsVariation}
use Rattle.px_change.specs.declared.change.Change.{Change}
use Rattle.px_held.proofs.Serving.{served}
use Rattle.px_held.proofs.Unlinked.{used_there}
use Rattle.px_held.specs.Errors.{IfDamage}
use Rattle.px_held.specs.Numbers.{IsUnstoredAt, IsVersion}
use Rattle.px_held.specs.Serving.{HeldTables, Serves}
use Rattle.px_held.specs.declared.error.HeldError.{HeldError}
use Rattle.px_held.specs.declared.error.HeldError.TheVariants.{OutOfMemory, Fault, Damaged}
use Rattle.px_history.specs.Fitting.{IsStoredNumber, IsTable}
use Rattle.px_history.specs.Store.{Store}
use Rattle.px_life.specs.Front.{AreStored, HasStoredNumber}
use Rattle.px_restart.specs.declared.restart.Restart.{Restart}
use Rattle.px_shown.specs.Tables.{AreSound, Tables, slots_of_row}
use Rattle.px_site.specs.State.{State}
use Rattle.px_tidying.specs.Numbers.{AreVersionsBelow, IsPastChanges, IsPastTables, IsUnstoredIn}

pub ok_weaker : {T E : Type 0} (r : Result T E) (P Q : T → Type 0) → ((x : T) → P x → Q x) → IfOk r P → IfOk r Q
ok_weaker (Ok x) P Q f p = f x p
ok_weaker (Err e) P Q f p = tt

-- the error that a `?` hands on
pub if_err : {T E : Type 0} (r : Result T E) (P : E → Type 0) (error : E) → IsErrAnd r (λ e. e ≡ error) → P error → IfErr r P
if_err (Ok x) P error is holds = tt
if_err (Err e) P error is holds = subst P (sym is) holds

unmapped : (P : Slot → Type 0) (slot : ℕ → Slot) (chain : List ℕ) → All P (map slot chain) → All (λ n. P (slot n)) chain
unmapped P slot [] all = All-nil (λ (n : ℕ). P (slot n))
unmapped P slot (n ∷ chain) all =
    All-cons (λ (m : ℕ). P (slot m)) n chain (All-head P (slot n) (map slot chain) all) (unmapped P slot chain (All-tail P (slot n) (map slot chain) all))

-- what is so of each version is so of those in a chain
in_chain : (P : Slot → Type 0) (store : Store) (short t row : ℕ) → AreSound short store.tables store.layouts → IsUsedRow (store.tables t) row
    → ((slot : ℕ) → IsVersion (store.tables t) slot → P ((store.tables t).slot slot)) → All P (slots_of_row (store.tables t) (store.layouts t) row)
in_chain P store short t row sound used each =
    let table = store.tables t in
    let chain = (store.layouts t).chain row in
    All-map P table.slot chain
    (All-weaker (IsVariation table row) (λ (n : ℕ). P (table.slot n)) (λ n version. each n (version.place, version.used)) chain ((sound t).chains row used).variations)

module _ (site : State) (held : HeldTables) (store : Store) (tables : ℕ) (serves : Serves site held store) (as_many : length held.tables ≡ tables) where
  sound : AreSound held.short store.tables store.layouts
  sound = (served site held store serves).sound

  has_table : (t row : ℕ) → IsUsedRow (store.tables t) row → IsTable tables t
  has_table t row used = subst (λ (n : ℕ). IsTable n t) as_many (used_there site held store t row serves used)

  pub are_stored : (first next : ℕ) → IsPastTables first store.tables tables next → AreStored store.tables store.layouts
  are_stored first next past t row used =
      in_chain HasStoredNumber store held.short t row sound used (λ slot version. past.stored t slot (has_table t row used) version)

  -- each version stands in a chain
  below_all : (other : ℕ) → ((t row : ℕ) → IsUsedRow (store.tables t) row → All (λ slot. slot.xn < other) (slots_of_row (store.tables t) (store.layouts t) row))
      → AreVersionsBelow store.tables tables other
  below_all other below t slot is version =
      let table = store.tables t in
      let linked = (sound t).linked slot version.0 version.1 in
      All-contains (λ (n : ℕ). (table.slot n).xn < other) ((store.layouts t).chain (table.slot slot).row) slot
      (unmapped (λ (s : Slot). s.xn < other) table.slot ((store.layouts t).chain (table.slot slot).row) (below t (table.slot slot).row linked.0)) linked.1

  pub is_next : (restart : Restart) (changes : List Change) (first next : ℕ) → IsPastChanges restart.next changes first → IsPastTables first store.tables tables next
      → IsNext restart changes store.tables store.layouts next
  is_next restart changes first next frames versions =
      let from = frames.from in
      let more = versions.from in
      record {
        unnamed = record {
          restart_is = omega (arith, from, more);
          frames = All-weaker (λ (c : Change). c.xn < first) (λ (c : Change). c.xn < next) (λ c less. omega (arith, less, more)) changes frames.past;
          versions = λ t row used. in_chain (λ (s : Slot). s.xn < next) store held.short t row sound used (λ slot version. versions.past t slot (has_table t row used) version);
        };
        least = λ other unnamed. versions.least other (frames.least other unnamed.restart_is unnamed.frames) (below_all other unnamed.versions);
      }

-- ---- a version without one

pub unstored_in : (short last number : ℕ) (tables : Tables) (error : HeldError) → IsTable last number → IfDamage (IsUnstoredAt short number (tables number)) error
    → IfDamage (IsUnstoredIn short last tables) error
unstored_in short last number tables OutOfMemory within is = tt
unstored_in short last number tables (Fault fault) within is = tt
unstored_in short last number tables (Damaged file place) within is = record { number = number; within = within; unstored = is }
