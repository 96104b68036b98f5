-- What a site tells of itself, and what its calls do to that.
use Rattle.std.specs.Prelude.{◌≡◌, ◌≢◌, ℕ, min, true, false, cond, List, [], ◌∷◌, ◌++◌, length, take, drop, Option, Some, None, Result, Ok, Err, OnOk, ⊤}
use Rattle.std.specs.List.{AllByRecursion}
use Rattle.px_site.specs.declared.name.FileName.{FileName}
use Rattle.px_site.specs.declared.error.SiteError.{SiteError}
use Rattle.px_site.specs.declared.error.SiteError.TheVariants.{OutOfMemory, Fault}
use Rattle.px_site.specs.Names.{same_file, is_before}
use Rattle.px_site.specs.Disk.{Change, FileState, IsImage, content_after, pending_more, at_rest}

-- a moment: the files, what was told by then, and what is being told just then
pub record Moment : Type 0 where
  pub files : FileName → FileState
  pub told : List ℕ
  pub telling : List ℕ

-- what a site tells: each file's content as it reads, this moment, and those before it, the newest first
pub record State : Type 0 where
  pub content : FileName → List ℕ
  pub now : Moment
  pub past : List Moment

-- all moments so far, the newest first
abbrev pub history : State → List Moment
history s = s.now ∷ s.past

-- f with this value at one file
abbrev pub with_file : {A : Type 0} → FileName → A → (FileName → A) → FileName → A
with_file file value f other = cond (same_file file other) value (f other)

-- a moment in which a change of a file was begun
abbrev pub begun : FileName → Change → Moment → Moment
begun file change m = record { files = with_file file (pending_more change (m.files file)) m.files; told = m.told; telling = [] }

-- a moment in which all of a file's content is on the disk
abbrev pub durable : FileName → List ℕ → Moment → Moment
durable file content m = record { files = with_file file (at_rest content) m.files; told = m.told; telling = [] }

-- a moment as this one, in which nothing is being told
abbrev pub quiet : Moment → Moment
quiet m = record { files = m.files; told = m.told; telling = [] }

-- a moment in which these bytes are being told
abbrev pub telling : List ℕ → Moment → Moment
telling bytes m = record { files = m.files; told = m.told; telling = bytes }

-- a moment by which these bytes more were told
abbrev pub told : List ℕ → Moment → Moment
told bytes m = record { files = m.files; told = m.told ++ bytes; telling = [] }

-- after a call with two moments, one within it and one when it was done
abbrev pub stepped : (FileName → List ℕ) → Moment → Moment → State → State
stepped content within after s = record { content = content; now = after; past = within ∷ s.now ∷ s.past }

-- after a change of a file that succeeded
abbrev pub changed : FileName → Change → State → State
changed file change s = stepped (with_file file (content_after change (s.content file)) s.content) (begun file change s.now) (begun file change s.now) s

-- after one that failed: the file reads as something (`left`), and the change is pending all the same
abbrev pub failed : FileName → Change → List ℕ → State → State
failed file change left s = stepped (with_file file left s.content) (begun file change s.now) (begun file change s.now) s

-- after a sync that succeeded
abbrev pub synced : FileName → State → State
synced file s = stepped s.content (quiet s.now) (durable file (s.content file) s.now) s

-- after one that failed
abbrev pub not_synced : State → State
not_synced s = stepped s.content (quiet s.now) (quiet s.now) s

-- after a call told bytes, of which these went out
abbrev pub spoke : List ℕ → List ℕ → State → State
spoke bytes out s = stepped s.content (telling bytes s.now) (told out s.now) s

-- P holds where the result is a fault
abbrev pub OnFault : {T : Type 0} → Result T SiteError → Type 0 → Type 0
OnFault (Ok _) P = ⊤
OnFault (Err OutOfMemory) P = ⊤
OnFault (Err (Fault _)) P = P

-- P holds where the result is want of memory
abbrev pub OnShort : {T : Type 0} → Result T SiteError → Type 0 → Type 0
OnShort (Ok _) P = ⊤
OnShort (Err OutOfMemory) P = P
OnShort (Err (Fault _)) P = ⊤

-- what a call that changes a file does to a site
pub record Changes {T : Type 0} (file : FileName) (change : Change) (old new : State) (result : Result T SiteError) : Type 0 where
  pub ok : OnOk result (new ≡ changed file change old)
  pub fault : OnFault result ((left : List ℕ) × (new ≡ failed file change left old))
  pub short : OnShort result (new ≡ old)

-- what a sync does
pub record Syncs {T : Type 0} (file : FileName) (old new : State) (result : Result T SiteError) : Type 0 where
  pub ok : OnOk result (new ≡ synced file old)
  pub fault : OnFault result (new ≡ not_synced old)
  pub short : OnShort result (new ≡ old)

-- what a `tell` does: at a fault a first part of the bytes went out
pub record Tells {T : Type 0} (bytes : List ℕ) (old new : State) (result : Result T SiteError) : Type 0 where
  pub ok : OnOk result (new ≡ spoke bytes bytes old)
  pub fault : OnFault result ((n : ℕ) × (new ≡ spoke bytes (take n bytes) old))
  pub short : OnShort result (new ≡ old)

-- n bytes were read from this place on, as many as the file has there and the buffer takes
pub record Reads (content : List ℕ) (place : ℕ) (buf : List ℕ) (n : ℕ) : Type 0 where
  pub count : n ≡ min (length buf) (length (drop place content))
  pub bytes : take n buf ≡ take n (drop place content)

-- a listing that goes on after a name may name this one
abbrev pub IsListed : Option FileName → FileName → Type 0
IsListed None name = ⊤
IsListed (Some after) name = is_before after name ≡ true

-- the least such name whose file has a byte, or that there is none
abbrev pub IsNextFile : (FileName → List ℕ) → Option FileName → Option FileName → Type 0
IsNextFile content after None = (name : FileName) → IsListed after name → content name ≡ []
IsNextFile content after (Some next) = (content next ≢ []) × ((name : FileName) → IsListed after name → is_before name next ≡ true → content name ≡ [])

-- P held at each moment from the old state to the new one, those of the new one included
pub record EachMoment (P : Moment → Type 0) (old new : State) : Type 0 where
  pub added : List Moment
  pub grown : history new ≡ added ++ history old
  pub each : AllByRecursion P added

-- a moment in which P holds of one file, while the others and what was told are as before
pub record OnFile (file : FileName) (before : Moment) (P : FileState → Type 0) (m : Moment) : Type 0 where
  pub this : P (m.files file)
  pub others : (name : FileName) → same_file file name ≡ false → m.files name ≡ before.files name
  pub told : m.told ≡ before.told
  pub telling : m.telling ≡ []

-- a site in which one file has this state and this content, while the others and what was told are as before
pub record Stands (file : FileName) (before : State) (state : FileState) (bytes : List ℕ) (s : State) : Type 0 where
  pub this : s.now.files file ≡ state
  pub content : s.content file ≡ bytes
  pub others : (name : FileName) → same_file file name ≡ false → s.now.files name ≡ before.now.files name
  pub others_content : (name : FileName) → same_file file name ≡ false → s.content name ≡ before.content name
  pub told : s.now.told ≡ before.now.told

-- a crash at this moment may leave these files, and this of the output
pub record IsLeft (m : Moment) (files : FileName → List ℕ) (out : List ℕ) : Type 0 where
  pub each : (name : FileName) → IsImage (m.files name) (files name)
  pub front : ℕ
  pub told : out ≡ m.told ++ take front m.telling
