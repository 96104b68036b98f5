-- Files in order of their names.
use Rattle.std.specs.Prelude.{◌≡◌, ℕ, zero, suc, Bool, true, cond, ◌<◌, List, [], ◌∷◌, ◌++◌, map, length, not, ◌&&◌, nat_eq, Option, Some, None, vec_len, vec_capacity}
use Rattle.std.specs.List.{AllByRecursion}
use Rattle.px_site.specs.declared.name.FileName.{FileName}
use Rattle.px_site.specs.Names.{same_file, is_before}
use Rattle.px_site.specs.Disk.{Change as DiskChange, FileState, at_rest}
use Rattle.px_memsite.specs.declared.change.Change.{Change}
use Rattle.px_memsite.specs.declared.file.MemFile.{MemFile}
use Rattle.px_memsite.specs.Changes.{change_of}

-- the changes of a list with the oldest first, the newest first
abbrev pub newest_first : List Change → List DiskChange
newest_first [] = []
newest_first (change ∷ later) = newest_first later ++ change_of change ∷ []

-- what a file has: its content as it reads, and its state on the disk
pub record View : Type 0 where
  pub content : List ℕ
  pub state : FileState

abbrev pub at_rest_view : List ℕ → View
at_rest_view content = record { content = content; state = at_rest content }

abbrev pub state_of : MemFile → FileState
state_of file = record { synced = file.synced.items; pending = newest_first file.pending.items }

abbrev pub view_of : MemFile → View
view_of file = record { content = file.content.items; state = state_of file }

-- what the file of this name has; one that isn't there is empty
abbrev pub view_in : List MemFile → FileName → View
view_in [] name = at_rest_view []
view_in (file ∷ files) name = cond (same_file file.name name) (view_of file) (view_in files name)

abbrev pub states_in : List MemFile → FileName → FileState
states_in files name = (view_in files name).state

abbrev pub names_of : List MemFile → List FileName
names_of files = map (λ file. file.name) files

-- each name stands before the later ones
abbrev pub IsInOrder : List FileName → Type 0
IsInOrder [] = Unit {0}
IsInOrder (name ∷ later) = AllByRecursion (λ other. is_before name other ≡ true) later × IsInOrder later

-- the file of this name stands here, and those in front come before it
abbrev pub StandsAt : List MemFile → FileName → ℕ → Type 0
StandsAt [] name at = ⊥
StandsAt (file ∷ files) name zero = file.name ≡ name
StandsAt (file ∷ files) name (suc at) = (is_before file.name name ≡ true) × StandsAt files name at

-- a file of this name isn't there, and it would stand here
abbrev pub FitsAt : List MemFile → FileName → ℕ → Type 0
FitsAt [] name zero = Unit {0}
FitsAt [] name (suc at) = ⊥
FitsAt (file ∷ files) name zero = is_before name file.name ≡ true
FitsAt (file ∷ files) name (suc at) = (is_before file.name name ≡ true) × FitsAt files name at

-- the same contents and states, in order
pub record SameFiles (old new : List MemFile) : Type 0 where
  pub in_order : IsInOrder (names_of new)
  pub views : (name : FileName) → view_in new name ≡ view_in old name

-- one change more fits without taking memory
abbrev pub HasRoom : MemFile → Type 0
HasRoom file = vec_len file.pending < vec_capacity file.pending

-- a name stands after where a listing goes on
abbrev pub is_listed : Option FileName → FileName → Bool
is_listed None name = true
is_listed (Some after) name = is_before after name

-- the first name there whose file has a byte
abbrev pub next_in : List MemFile → Option FileName → Option FileName
next_in [] after = None
next_in (file ∷ files) after = cond (is_listed after file.name && not (nat_eq (length file.content.items) 0)) (Some file.name) (next_in files after)
