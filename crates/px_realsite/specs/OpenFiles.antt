-- The files that are open, in a list.
use Rattle.std.specs.Prelude.{◌≡◌, ℕ, List, IfSome, slice_get}
use Rattle.px_site.specs.declared.name.FileName.{FileName}
use Rattle.px_realsite.specs.declared.open_file.OpenFile.{OpenFile}

-- the file at this place has this name
abbrev pub IsNamed : List OpenFile → FileName → ℕ → Type 0
IsNamed files name at = IfSome (slice_get files at) (λ file. file.handle.name ≡ name)
