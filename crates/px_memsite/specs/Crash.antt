-- What a crash leaves of the files.
use Rattle.std.specs.Prelude.{◌≡◌, ℕ, zero, suc, ◌+◌, ◌-◌, ◌^◌, ◌<◌, ◌≤◌, min, Bool, false, cond, ◌&&◌, ◌||◌, nat_lt, nat_le, List, [], length, slice_index, sum_by, filter}
use Rattle.std.specs.List.{list_any}
use Rattle.px_site.specs.declared.name.FileName.{FileName}
use Rattle.px_site.specs.Disk.{FileState, IsImage, at_rest, written, touched, most}
use Rattle.px_site.specs.Names.{same_file, is_before}
use Rattle.px_site.specs.State.{State}
use Rattle.px_memsite.specs.declared.crash.Keep.{Keep}
use Rattle.px_memsite.specs.declared.crash.Keep.TheVariants.{Synced, Written, Torn}
use Rattle.px_memsite.specs.Files.{IsInOrder}

-- a byte that is touched: it stands past what was synced, or a change since then touches it
abbrev pub is_touched : FileState → ℕ → Bool
is_touched file at = nat_le (length file.synced) at || touched file.pending at

-- how many bytes in front of a place are touched
abbrev pub touched_below : FileState → ℕ → ℕ
touched_below file zero = 0
touched_below file (suc at) = touched_below file at + cond (is_touched file at) 1 0

-- how many bytes are touched of those that were synced or written
abbrev pub touched_count : FileState → ℕ
touched_count file = touched_below file (length (written file))

-- the byte at a place, where the first k touched ones are as written and the others as synced
abbrev pub torn_byte : ℕ → FileState → ℕ → ℕ
torn_byte k file at = cond (is_touched file at && nat_lt (touched_below file at) k) (slice_index (written file) at) (slice_index file.synced at)

-- The first k touched bytes are as written and the others as synced. So the length is that of what was synced, and as
-- many bytes more as are left of the k behind the touched ones in it, where so many were written.
pub record IsTorn (k : ℕ) (file : FileState) (bytes : List ℕ) : Type 0 where
  pub size : length bytes ≡ min (length (written file)) (length file.synced + (k - touched_below file (length file.synced)))
  pub each : (at : ℕ) → at < length bytes → slice_index bytes at ≡ torn_byte k file at

-- what a crash leaves of one file
abbrev pub IsKept : Keep → FileState → List ℕ → Type 0
IsKept Synced file bytes = bytes ≡ file.synced
IsKept Written file bytes = bytes ≡ written file
IsKept (Torn k) file bytes = IsTorn k file bytes

-- the touched bytes of those files that come before a name
abbrev pub touched_before : (FileName → FileState) → List FileName → FileName → ℕ
touched_before files names name = sum_by (λ other. touched_count (files other)) (filter (λ other. is_before other name) names)

abbrev pub has_name : List FileName → FileName → Bool
has_name names name = list_any (λ other. same_file other name) names

-- Of all files the first k touched bytes, in order of file name and then of place, are as written, and the others as
-- synced: each file has its share of the k behind the touched bytes of the files before it.
pub record IsTornOver (k : ℕ) (files : FileName → FileState) (content : FileName → List ℕ) : Type 0 where
  -- files with no touched byte but these
  pub names : List FileName
  pub in_order : IsInOrder names
  pub others : (name : FileName) → has_name names name ≡ false → touched_count (files name) ≡ 0
  pub each : (name : FileName) → IsTorn (k - touched_before files names name) (files name) (content name)

-- what a crash leaves of all files
abbrev pub IsLeft : Keep → (FileName → FileState) → (FileName → List ℕ) → Type 0
IsLeft Synced files content = (name : FileName) → content name ≡ (files name).synced
IsLeft Written files content = (name : FileName) → content name ≡ written (files name)
IsLeft (Torn k) files content = IsTornOver k files content

-- all contents on the disk, nothing told, and no moment but this one
pub record IsAtRest (s : State) : Type 0 where
  pub files : (name : FileName) → s.now.files name ≡ at_rest (s.content name)
  pub told : s.now.told ≡ []
  pub telling : s.now.telling ≡ []
  pub past : s.past ≡ []

-- a state that a crash leaves of these files
pub record IsCrashed (keep : Keep) (files : FileName → FileState) (s : State) : Type 0 where
  pub left : IsLeft keep files s.content
  pub images : (name : FileName) → IsImage (files name) (s.content name)
  pub at_rest : IsAtRest s

-- what is to be kept of later files, behind so many touched bytes
abbrev pub kept_behind : ℕ → Keep → Keep
kept_behind count Synced = Synced
kept_behind count Written = Written
kept_behind count (Torn k) = Torn (k - count)

-- no byte past the greatest length of a file was synced or written
abbrev pub IsWithin : FileState → Type 0
IsWithin file = most (length file.synced) file.pending ≤ 2 ^ 48
