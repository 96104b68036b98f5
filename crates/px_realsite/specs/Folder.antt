-- What a folder remembers from call to call.
use Rattle.std.specs.Prelude.{◌≡◌}
use Rattle.px_realsite.specs.declared.folder.Folder.{Folder}

-- which folder it is
abbrev pub IsSameFolder : Folder → Folder → Type 0
IsSameFolder before now = now.path ≡ before.path
