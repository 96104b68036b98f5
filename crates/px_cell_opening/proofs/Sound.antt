-- A store that stands has no damage.
use Rattle.std.proofs.Common.{ℕ, All, List, map, subst, inl, inr}
use Rattle.std.specs.Prelude.{Contains}
use Rattle.std.proofs.lemmas.List.Elements.{All-cons, All-contains, All-head, All-nil, All-tail}
use Rattle.std.specs.Prelude.{[], ◌∷◌}
use Rattle.px_cells.specs.declared.slot.Slot.{Slot}
use Rattle.px_change.specs.declared.change.Change.{Change}
use Rattle.px_history.specs.Fitting.{IsStoredNumber}
use Rattle.px_laid.specs.Places.{Places, none_laid}
use Rattle.px_life.specs.Front.{AreStored, HasStoredNumber}
use Rattle.px_model.specs.declared.row.Row.{Row}
use Rattle.px_opened.proofs.One.{same_row}
use Rattle.px_opened.specs.Damage.{IsDamage}
use Rattle.px_opened.specs.Opened.{IsSameLayout, IsSameTable, Opens, changes_over}
use Rattle.px_restart.specs.declared.restart.Restart.{Restart}
use Rattle.px_shown.specs.Tables.{Layouts, Tables}
use Rattle.px_site.specs.declared.name.FileName.{FileName}
use Rattle.px_standing.specs.Files.{Files}
use Rattle.px_tidying.specs.Numbers.{IsUnstoredIn}
use Rattle.px_xlog.specs.Contents.{the_log}
use Rattle.px_cell_opening.proofs.One.{no_log_damage, one_scan}
use Rattle.px_cell_standing.specs.Standing.{StandsFor}
use Rattle.px_cell_opening.proofs.Standing.{IsBeside, says_of}
use Rattle.px_cell_opening.specs.Errors.{HasRefusal, IsPassing}
use Rattle.px_cell_opening.specs.declared.error.CellsError.{CellsError}
use Rattle.px_cell_opening.specs.declared.error.CellsError.TheVariants.{OutOfMemory, Fault, LogFull, Damaged}

-- ---- what is used of the laws below

abbrev pub OneTable : Type 0
OneTable = (short tables : ℕ) (places : Places) (a b : Tables) (of_a of_b : Layouts) (t : ℕ) → Opens short tables places a of_a → Opens short tables places b of_b → IsSameTable (a t) (b t)

abbrev pub OneLayout : Type 0
OneLayout = (short tables : ℕ) (places : Places) (a b : Tables) (of_a of_b : Layouts) (t : ℕ) → Opens short tables places a of_a → Opens short tables places b of_b → IsSameLayout (of_a t) (of_b t)

abbrev pub NoDamage : Type 0
NoDamage = (short tables : ℕ) (places : Places) (found : Tables) (layouts : Layouts) (file : FileName) (place : ℕ) → Opens short tables places found layouts
    → ¬ IsDamage short tables places file place

-- ---- each version has a stored number

in_chain : (slot : ℕ → Slot) (chain : List ℕ) (n : ℕ) → All HasStoredNumber (map slot chain) → Contains chain n → IsStoredNumber (slot n).xn
in_chain slot chain n all contains = All-contains (λ (m : ℕ). IsStoredNumber (slot m).xn) chain n (unmapped chain all) contains
  where
    unmapped : (chain : List ℕ) → All HasStoredNumber (map slot chain) → All (λ m. IsStoredNumber (slot m).xn) chain
    unmapped [] all = All-nil (λ (m : ℕ). IsStoredNumber (slot m).xn)
    unmapped (m ∷ chain) all =
        All-cons (λ (k : ℕ). IsStoredNumber (slot k).xn) m chain (All-head HasStoredNumber (slot m) (map slot chain) all) (unmapped chain (All-tail HasStoredNumber (slot m) (map slot chain) all))

module _ (one_table : OneTable) (one_layout : OneLayout) (short tables : ℕ) (places : Places) (a b : Tables) (of_a of_b : Layouts) (opens : Opens short tables places a of_a)
    (others : Opens short tables places b of_b) (stored : AreStored a of_a) where
  none_unstored : (file : FileName) (place : ℕ) → IsUnstoredIn short tables b file place → ⊥
  none_unstored file place is =
      let t = is.number in
      let at = is.unstored.unstored in
      let slot = is.unstored.slot in
      let linked = (others.each t is.within).sound.linked slot at.version.0 at.version.1 in
      let row = ((b t).slot slot).row in
      let same = same_row short (a t) (b t) (of_a t) (of_b t) row (opens.each t is.within).sound (one_table short tables places a b of_a of_b t opens others)
      (one_layout short tables places a b of_a of_b t opens others) linked.0 in
      at.number (in_chain (b t).slot ((of_b t).chain row) slot (subst (All HasStoredNumber) same.slots (stored t row same.used)) linked.1)

-- ---- no damage

pub only_passes : OneTable → OneLayout → NoDamage → (restart : Restart) (commits : ℕ) (rows : List Row) (files : Files) (e : CellsError) → IsBeside restart files
    → StandsFor files commits rows → HasRefusal restart (files the_log) e → IsPassing e
only_passes one_table one_layout no_damage restart commits rows files OutOfMemory beside stands refusal = tt
only_passes one_table one_layout no_damage restart commits rows files (Fault fault) beside stands refusal = tt
only_passes one_table one_layout no_damage restart commits rows files (LogFull frame) beside stands refusal = tt
only_passes one_table one_layout no_damage restart commits rows files (Damaged file place) beside stands refusal =
    let says = says_of restart commits rows files beside stands in
    elim refusal as (λ _. ⊥) [
      | inl damaged ↦ no_log_damage restart (files the_log) says.changes place says.scan damaged.damage
      | inr others ↦ elim others as (λ _. ⊥) [
        | inl tables ↦
            no_damage restart.short restart.tables (changes_over none_laid tables.changes) says.found says.layouts file place
            (subst (λ (l : List Change). Opens restart.short restart.tables (changes_over none_laid l) says.found says.layouts)
            (one_scan restart (files the_log) says.changes tables.changes says.scan tables.scan) says.opens) tables.damage
        | inr numbers ↦
            none_unstored one_table one_layout restart.short restart.tables (changes_over none_laid numbers.changes) says.found numbers.found says.layouts numbers.layouts
            (subst (λ (l : List Change). Opens restart.short restart.tables (changes_over none_laid l) says.found says.layouts)
            (one_scan restart (files the_log) says.changes numbers.changes says.scan numbers.scan) says.opens) numbers.opens says.numbers file place numbers.unstored
      ]
    ]
