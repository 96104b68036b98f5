-- What a site in memory keeps of the state that its history leads to.
use Rattle.std.specs.Prelude.{◌≡◌, ℕ, ◌-◌, ◌^◌, min, List, [], ◌∷◌, length}
use mathlib.Core.Bool.{Bool-set}
use Rattle.std.specs.Coded.{×_prop, Unit-prop, le_prop}
use Rattle.std.specs.List.{AllByRecursion-prop}
use Rattle.px_site.specs.declared.name.FileName.{FileName}
use Rattle.px_site.specs.State.{State}
use Rattle.px_memsite.specs.declared.event.Event.{Event}
use Rattle.px_memsite.specs.declared.file.MemFile.{MemFile}
use Rattle.px_memsite.specs.declared.event.Event.TheVariants.{Changed, Synced, Told, Put}
use Rattle.px_memsite.specs.declared.change.Change.TheVariants.{Write, Cut, Remove}
use Rattle.px_memsite.specs.Events.{FitsLimit}
use Rattle.px_memsite.specs.Files.{View, IsInOrder, names_of, view_in}

-- what a state says of one file
abbrev pub view_at : State → FileName → View
view_at s name = record { content = s.content name; state = s.now.files name }

-- the files, what was told, and the number of moments, are those of a state
pub record Shows (files : List MemFile) (told : List ℕ) (moments : ℕ) (s : State) : Type 0 where
  pub in_order : IsInOrder (names_of files)
  pub views : (name : FileName) → view_in files name ≡ view_at s name
  pub told_is : told ≡ s.now.told
  pub counted : moments ≡ min (length s.past) (2 ^ 64 - 1)

pub IsInOrder-prop : (names : List FileName) → IsProp (IsInOrder names)
IsInOrder-prop [] = Unit-prop
IsInOrder-prop (name ∷ later) = ×_prop (AllByRecursion-prop _ (λ other. Bool-set _ _) later) (IsInOrder-prop later)

pub FitsLimit-prop : (event : Event) → IsProp (FitsLimit event)
FitsLimit-prop (Changed file (Write place bytes) failure) = le_prop
FitsLimit-prop (Changed file (Cut len) failure) = Unit-prop
FitsLimit-prop (Changed file Remove failure) = Unit-prop
FitsLimit-prop (Synced file failure) = Unit-prop
FitsLimit-prop (Told bytes failure) = Unit-prop
FitsLimit-prop (Put file bytes) = le_prop
