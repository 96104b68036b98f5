-- Pieces of files that went over end to end.
use Rattle.std.specs.Prelude.{◌≡◌, ℕ, ◌+◌, ◌≤◌}
use Rattle.px_site.specs.declared.name.FileName.{FileName}
use Rattle.px_realsite.specs.declared.system.piece.Piece.{Piece}

-- the last so many bytes of the piece are those of this file from this place on
pub record EndsWith (file : FileName) (place n : ℕ) (piece : Piece) : Type 0 where
  pub in_file : piece.file ≡ file
  pub from : piece.from ≤ place
  pub to : piece.to ≡ place + n

-- so many bytes of this file at this place came to a piece: one that ended there goes on
pub record Adds (file : FileName) (place n : ℕ) (before now : Piece) : Type 0 where
  pub ends : EndsWith file place n now
  pub goes_on : before.file ≡ file → before.to ≡ place → now.from ≡ before.from
