-- Files that can be read are not refused.
use Rattle.std.proofs.Common.{ℕ, All, List, [], ◌∷◌, map, subst, inl, inr}
use Rattle.std.proofs.lemmas.List.Elements.{All-cons, All-contains, All-head, All-nil, All-tail}
use Rattle.std.specs.Prelude.{Contains}
use Rattle.px_cells.specs.declared.slot.Slot.{Slot}
use Rattle.px_change.specs.declared.change.Change.{Change}
use Rattle.px_history.specs.Fitting.{IsStoredNumber}
use Rattle.px_laid.specs.Places.{Places, none_laid}
use Rattle.px_life.specs.Front.{AreStored, HasStoredNumber}
use Rattle.px_log.specs.Contents.{Scans}
use Rattle.px_opened.proofs.One.{same_row}
use Rattle.px_opened.specs.Damage.{IsDamage as IsTablesDamage}
use Rattle.px_opened.specs.Opened.{Opens, changes_over}
use Rattle.px_restart.specs.Restart.{IsPicked}
use Rattle.px_restart.specs.declared.restart.Restart.{Restart}
use Rattle.px_shown.specs.Tables.{Layouts, Tables}
use Rattle.px_site.specs.declared.name.FileName.{FileName}
use Rattle.px_standing.specs.Files.{Files, first_restart, second_restart}
use Rattle.px_tidying.specs.Numbers.{IsUnstoredIn}
use Rattle.px_xlog.specs.Contents.{the_log}
use Rattle.px_cell_opening.proofs.One.{no_log_damage, one_scan}
use Rattle.px_cell_opening.specs.Errors.{IsDamage}
use Rattle.px_cell_standing.proofs.One.{SameLayouts, SameTables, one_picked}
use Rattle.px_recovery.specs.Errors.{HasRefusal, IsPassing}
use Rattle.px_recovery.specs.declared.error.OpenError.{OpenError}
use Rattle.px_recovery.specs.declared.error.OpenError.TheVariants.{OutOfMemory, Fault, NoStore, LogFull, Damaged}
use Rattle.px_recovery.proofs.Refusals.{no_absence}

-- ---- what is used of the law below

abbrev pub NoDamage : Type 0
NoDamage = (short tables : ℕ) (places : Places) (found : Tables) (layouts : Layouts) (file : FileName) (place : ℕ) → Opens short tables places found layouts
    → ¬ IsTablesDamage short tables places file place

-- ---- each version has a stored number

in_chain : (slot : ℕ → Slot) (chain : List ℕ) (n : ℕ) → All HasStoredNumber (map slot chain) → Contains chain n → IsStoredNumber (slot n).xn
in_chain slot chain n all contains = All-contains (λ (m : ℕ). IsStoredNumber (slot m).xn) chain n (unmapped chain all) contains
  where
    unmapped : (chain : List ℕ) → All HasStoredNumber (map slot chain) → All (λ m. IsStoredNumber (slot m).xn) chain
    unmapped [] all = All-nil (λ (m : ℕ). IsStoredNumber (slot m).xn)
    unmapped (m ∷ chain) all =
        All-cons (λ (k : ℕ). IsStoredNumber (slot k).xn) m chain (All-head HasStoredNumber (slot m) (map slot chain) all) (unmapped chain (All-tail HasStoredNumber (slot m) (map slot chain) all))

module _ (tables_are : SameTables) (layouts_are : SameLayouts) (short tables : ℕ) (places : Places) (a b : Tables) (of_a of_b : Layouts) (opens : Opens short tables places a of_a)
    (others : Opens short tables places b of_b) (stored : AreStored a of_a) where
  none_unstored : (file : FileName) (place : ℕ) → IsUnstoredIn short tables b file place → ⊥
  none_unstored file place is =
      let t = is.number in
      let at = is.unstored.unstored in
      let slot = is.unstored.slot in
      let linked = (others.each t is.within).sound.linked slot at.version.0 at.version.1 in
      let row = ((b t).slot slot).row in
      let same = same_row short (a t) (b t) (of_a t) (of_b t) row (opens.each t is.within).sound (tables_are short tables places a b of_a of_b t opens others)
      (layouts_are short tables places a b of_a of_b t opens others) linked.0 in
      at.number (in_chain (b t).slot ((of_b t).chain row) slot (subst (All HasStoredNumber) same.slots (stored t row same.used)) linked.1)

-- ---- no damage

-- the log's bytes open to these tables, in which each version has a stored number
pub record IsSound (restart : Restart) (bytes : List ℕ) (changes : List Change) (tables : Tables) (layouts : Layouts) : Type 0 where
  pub scan : Scans restart bytes changes
  pub opens : Opens restart.short restart.tables (changes_over none_laid changes) tables layouts
  pub stored : AreStored tables layouts

module _ (tables_are : SameTables) (layouts_are : SameLayouts) (no_damage : NoDamage) (restart : Restart) (bytes : List ℕ) (changes : List Change) (tables : Tables) (layouts : Layouts)
    (sound : IsSound restart bytes changes tables layouts) where
  opens_as : (others : List Change) → Scans restart bytes others → Opens restart.short restart.tables (changes_over none_laid others) tables layouts
  opens_as others scan =
      subst (λ (l : List Change). Opens restart.short restart.tables (changes_over none_laid l) tables layouts) (one_scan restart bytes changes others sound.scan scan) sound.opens

  undamaged : (file : FileName) (place : ℕ) → IsDamage restart bytes file place → ⊥
  undamaged file place damage = elim damage as (λ _. ⊥) [
    | inl log ↦ no_log_damage restart bytes changes place sound.scan log.damage
    | inr others ↦ elim others as (λ _. ⊥) [
      | inl cells ↦ no_damage restart.short restart.tables (changes_over none_laid cells.changes) tables layouts file place (opens_as cells.changes cells.scan) cells.damage
      | inr numbers ↦
          none_unstored tables_are layouts_are restart.short restart.tables (changes_over none_laid numbers.changes) tables numbers.found layouts numbers.layouts
          (opens_as numbers.changes numbers.scan) numbers.opens sound.stored file place numbers.unstored
    ]
  ]

-- files of which that restart counts, and whose log is sound, are not refused
pub only_passes : SameTables → SameLayouts → NoDamage → (files : Files) (restart : Restart) (changes : List Change) (tables : Tables) (layouts : Layouts) (error : OpenError)
    → IsPicked (first_restart files) (second_restart files) restart → IsSound restart (files the_log) changes tables layouts → HasRefusal files error → IsPassing error
only_passes tables_are layouts_are no_damage files restart changes tables layouts OutOfMemory picked sound refusal = tt
only_passes tables_are layouts_are no_damage files restart changes tables layouts (Fault fault) picked sound refusal = tt
only_passes tables_are layouts_are no_damage files restart changes tables layouts NoStore picked sound refusal = no_absence files restart picked refusal
only_passes tables_are layouts_are no_damage files restart changes tables layouts (LogFull frame) picked sound refusal = tt
only_passes tables_are layouts_are no_damage files restart changes tables layouts (Damaged file place) picked sound refusal =
    undamaged tables_are layouts_are no_damage restart (files the_log) changes tables layouts sound file place
    (subst (λ (r : Restart). IsDamage r (files the_log) file place) (one_picked (first_restart files) (second_restart files) refusal.restart restart refusal.picked picked) refusal.damage)
