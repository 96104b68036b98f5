-- Files that have the same log and the same tables are read alike.
use Rattle.std.proofs.Common.{◌≡◌, ℕ, zero, suc, ◌+◌, List, [], ◌++◌, length, take, drop, replicate, Some, None, refl, ap, ◌∙◌}
use Rattle.std.proofs.Math.Path.{fun_ext}
use Rattle.std.specs.Prelude.{◌-◌, ◌^◌, ◌&&◌, if◌then◌else◌, nat_lt}
use Rattle.px_cells.specs.declared.cell.CellKind.{CellKind}
use Rattle.px_filed.specs.Filed.{file_places}
use Rattle.px_reached.specs.Scanned.{last_from, last_scanned, scan, scan_from}
use Rattle.px_recs.specs.Place.{place_of, size_of, table_file}
use Rattle.px_restart.specs.declared.restart.Restart.{Restart}
use Rattle.px_scan.specs.Scan.{frames_of}
use Rattle.px_scan.specs.Segments.{is_full}
use Rattle.px_site.specs.declared.name.FileName.TheVariants.{Xlog}
use Rattle.px_standing.specs.Files.{Files}

module _ (a b : Files) (logs : (segment : ℕ) → a (Xlog segment) ≡ b (Xlog segment)) where
  from_alike : (most segment number : ℕ) → scan_from most a segment number ≡ scan_from most b segment number
  from_alike zero segment number = refl
  from_alike (suc most) segment number =
      let bytes = b (Xlog segment) in
      let found = frames_of bytes number in
      ap (λ (file : List ℕ). frames_of file number ++ (if is_full file number then scan_from most a (segment + 1) (number + length (frames_of file number)) else [])) (logs segment)
      ∙ ap (λ (rest : List (List ℕ)). found ++ (if is_full bytes number then rest else [])) (from_alike most (segment + 1) (number + length found))

  ends_alike : (most segment number : ℕ) → last_from most a segment number ≡ last_from most b segment number
  ends_alike zero segment number = refl
  ends_alike (suc most) segment number =
      let bytes = b (Xlog segment) in
      let found = frames_of bytes number in
      ap (λ (file : List ℕ). if is_full file number && nat_lt 0 most then last_from most a (segment + 1) (number + length (frames_of file number)) else segment) (logs segment)
      ∙ ap (λ (last : ℕ). if is_full bytes number && nat_lt 0 most then last else segment) (ends_alike most (segment + 1) (number + length found))

  pub scanned_alike : (restart : Restart) → scan restart a ≡ scan restart b
  unfolding scan
  scanned_alike restart = from_alike (2 ^ 32 - restart.segment) restart.segment restart.first

  pub last_alike : (restart : Restart) → last_scanned restart a ≡ last_scanned restart b
  unfolding last_scanned
  last_alike restart = ends_alike (2 ^ 32 - restart.segment) restart.segment restart.first

pub places_alike : (short : ℕ) (a b : Files) → ((what : CellKind) (table : ℕ) → a (table_file what table) ≡ b (table_file what table)) → file_places short a ≡ file_places short b
places_alike short a b cells = fun_ext (λ what. fun_ext (λ table. fun_ext (λ number. one what table number)))
  where
    one : (what : CellKind) (table number : ℕ) → file_places short a what table number ≡ file_places short b what table number
    one what table number =
        let place = place_of short what number in
        let size = size_of short what in
        ap (λ (file : List ℕ). if nat_lt place (length file) then Some (take size (drop place file ++ replicate size 0)) else None) (cells what table)
