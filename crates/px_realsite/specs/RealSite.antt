-- What a real site shows of itself.
use Rattle.std.specs.Prelude.{ℕ, List, string_bytes}
use Rattle.px_site.specs.Cause.{Counts}
use Rattle.px_site.specs.Tally.{counts_of}
use Rattle.px_realsite.specs.declared.real_site.RealSite.{RealSite}
use Rattle.px_realsite.specs.declared.system.piece.Piece.{Piece}
use Rattle.px_realsite.specs.declared.system.traffic.Traffic.{Traffic}

-- how many calls answered each error
abbrev pub counted : {R : Type 0} → RealSite R → Counts
counted site = counts_of site.refusals.tally

-- what it asked of the system since it was made
abbrev pub traffic_of : {R : Type 0} → RealSite R → Traffic
traffic_of site = site.system.traffic

-- the piece of a file that the system gave last, and the one that it took last
abbrev pub read_of : {R : Type 0} → RealSite R → Piece
read_of site = site.system.read

abbrev pub written_of : {R : Type 0} → RealSite R → Piece
written_of site = site.system.written

-- the path of the folder whose files it has, in bytes
abbrev pub folder_path : {R : Type 0} → RealSite R → List ℕ
folder_path site = string_bytes site.folder.path
