-- What a change leaves of a file's content, also one that fails half-way.
use Rattle.std.specs.Prelude.{ℕ, suc, zero, ◌+◌, ◌^◌, ◌≤◌, List, take, length, Option, Some, None}
use Rattle.px_site.specs.Disk.{Change as DiskChange, Wrote, Cut as CutTo, Removed, overlay, content_after}
use Rattle.px_memsite.specs.declared.change.Change.{Change}
use Rattle.px_memsite.specs.declared.change.Change.TheVariants.{Write, Cut, Remove}

-- the change in the words of the disk model
abbrev pub change_of : Change → DiskChange
change_of (Write place bytes) = Wrote place bytes.items
change_of (Cut len) = CutTo len
change_of Remove = Removed

-- a write ends within the greatest length of a file
abbrev pub IsWithinLimit : DiskChange → Type 0
IsWithinLimit (Wrote place bytes) = place + length bytes ≤ 2 ^ 48
IsWithinLimit (CutTo len) = Unit {0}
IsWithinLimit Removed = Unit {0}

-- what a change that fails leaves, where this many of its bytes go through: with none, the content stays
abbrev pub left_by : DiskChange → ℕ → List ℕ → List ℕ
left_by change zero content = content
left_by (Wrote place bytes) (suc through) content = overlay content place (take (suc through) bytes)
left_by (CutTo len) (suc through) content = content
left_by Removed (suc through) content = content

-- the content after a change that succeeds, or that fails when so many bytes are through
abbrev pub next_content : DiskChange → Option ℕ → List ℕ → List ℕ
next_content change None content = content_after change content
next_content change (Some through) content = left_by change through content
