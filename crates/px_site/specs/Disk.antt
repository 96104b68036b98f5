-- What one file has, and what a crash may leave of it.
use Rattle.std.specs.Prelude.{◌≡◌, ℕ, ◌+◌, ◌-◌, ◌<◌, ◌≤◌, min, max, Bool, true, false, ◌||◌, ◌&&◌, nat_lt, nat_le, List, [], ◌∷◌, ◌++◌, length, take, drop, replicate, slice_index}

-- a call that changes a file: bytes from a place on, a length that it is cut to, or its removal
pub data Change : Type 0 where
  Wrote : ℕ → List ℕ → Change
  Cut : ℕ → Change
  Removed : Change

-- what was synced last, and the changes begun since, the newest first: also those that failed or aren't finished
pub record FileState : Type 0 where
  pub synced : List ℕ
  pub pending : List Change

-- a file whose content is all on the disk
abbrev pub at_rest : List ℕ → FileState
at_rest content = record { synced = content; pending = [] }

-- a file in which one more change was begun
abbrev pub pending_more : Change → FileState → FileState
pending_more change file = record { synced = file.synced; pending = change ∷ file.pending }

-- a content with these bytes from a place on; a gap before them is filled with zeros
abbrev pub overlay : List ℕ → ℕ → List ℕ → List ℕ
overlay old place bytes = take place (old ++ replicate (place - length old) 0) ++ bytes ++ drop (place + length bytes) old

-- the content after a change that succeeds
abbrev pub content_after : Change → List ℕ → List ℕ
content_after (Wrote place bytes) content = overlay content place bytes
content_after (Cut len) content = take len content
content_after Removed content = []

-- what was synced, with the bytes of each write over it; cuts and removals leave it
abbrev pub overlaid : List ℕ → List Change → List ℕ
overlaid synced [] = synced
overlaid synced (Wrote place bytes ∷ earlier) = overlay (overlaid synced earlier) place bytes
overlaid synced (Cut len ∷ earlier) = overlaid synced earlier
overlaid synced (Removed ∷ earlier) = overlaid synced earlier

-- a file's last synced content, with the bytes of each write since over it
abbrev pub written : FileState → List ℕ
written file = overlaid file.synced file.pending

-- a change may leave any byte at this place. The gap before a write is past a cut or past what was synced, and so needs
-- no case
abbrev pub touches : Change → ℕ → Bool
touches (Wrote place bytes) at = nat_le place at && nat_lt at (place + length bytes)
touches (Cut len) at = nat_le len at
touches Removed at = true

-- some change since the last sync touches this place
abbrev pub touched : List Change → ℕ → Bool
touched [] at = false
touched (change ∷ earlier) at = touches change at || touched earlier at

-- the least length that a file may have had since it was synced at `len` bytes
abbrev pub least : ℕ → List Change → ℕ
least len [] = len
least len (Wrote place bytes ∷ earlier) = least len earlier
least len (Cut to ∷ earlier) = min to (least len earlier)
least len (Removed ∷ earlier) = 0

-- the greatest; the end of a write counts also where it failed or isn't finished
abbrev pub most : ℕ → List Change → ℕ
most len [] = len
most len (Wrote place bytes ∷ earlier) = max (place + length bytes) (most len earlier)
most len (Cut to ∷ earlier) = most len earlier
most len (Removed ∷ earlier) = most len earlier

-- an image: what a crash may leave of a file. Its length lies between, and a byte that no change touched is as it was
-- synced; a touched one may be any
pub record IsImage (file : FileState) (image : List ℕ) : Type 0 where
  pub no_shorter : least (length file.synced) file.pending ≤ length image
  pub no_longer : length image ≤ most (length file.synced) file.pending
  pub kept : (at : ℕ) → at < length file.synced → at < length image → touched file.pending at ≡ false → slice_index image at ≡ slice_index file.synced at
