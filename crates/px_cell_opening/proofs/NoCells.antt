-- Table files without a byte have no cells.
use Rattle.std.proofs.Common.{◌≡◌, ℕ, ◌++◌, Bool, cond, Some, None, List, [], drop, length, take, replicate, ap, ◌∙◌, arith}
use Rattle.std.specs.Prelude.{if◌then◌else◌, nat_lt}
use Rattle.std.proofs.Math.Path.{fun_ext}
use Rattle.std.proofs.lemmas.Bool.{le-ltb}
use Rattle.px_cells.specs.declared.cell.CellKind.{CellKind}
use Rattle.px_filed.specs.Filed.{file_places}
use Rattle.px_laid.specs.Places.{none_laid}
use Rattle.px_recs.specs.Place.{place_of, size_of, table_file}
use Rattle.px_standing.specs.Files.{Files}

no_place : (short : ℕ) (files : Files) (what : CellKind) (table number : ℕ) → files (table_file what table) ≡ [] → file_places short files what table number ≡ None
no_place short files what table number none =
    let place = place_of short what number in
    let size = size_of short what in
    ap (λ (file : List ℕ). if nat_lt place (length file) then Some (take size (drop place file ++ replicate size 0)) else None) none
    ∙ ap (λ (b : Bool). cond b (Some (take size (drop {A = ℕ} place [] ++ replicate size 0))) None) (le-ltb place 0 (omega arith))

pub no_places : (short : ℕ) (files : Files) → ((what : CellKind) (table : ℕ) → files (table_file what table) ≡ []) → file_places short files ≡ none_laid
no_places short files none = fun_ext (λ what. fun_ext (λ table. fun_ext (λ number. no_place short files what table number (none what table))))
