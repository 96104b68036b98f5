-- What lies in tables at their numbers after a cell was put into one of them.
use Rattle.std.proofs.Common.{◌≡◌, ◌≢◌, ℕ, zero, suc, ◌<◌, true, false, cond, ◌&&◌, ◌==◌, List, [], ◌∷◌, ◌++◌, length, set, Some, None, get_or, refl, sym, ap, ◌∙◌, arith}
use Rattle.std.specs.List.{slice_get}
use Rattle.std.specs.Option.{option_and_then}
use Rattle.std.proofs.lemmas.Bool.{eqb-true, eqb-false}
use Rattle.std.proofs.lemmas.Option.{slice_get-get_or}
use Rattle.px_laid.specs.declared.numbered.NumberedCells.{NumberedCells}
use Rattle.px_laid.specs.Numbered.{bytes_at, bytes_in}

-- a table without cells has nothing, as before
pub added_empty : (tables : List NumberedCells) (cells : NumberedCells) → ((n : ℕ) → bytes_at cells n ≡ None) → (t n : ℕ)
    → bytes_in (tables ++ cells ∷ []) t n ≡ bytes_in tables t n
added_empty [] cells none zero n = none n
added_empty [] cells none (suc t) n = refl
added_empty (first ∷ tables) cells none zero n = refl
added_empty (first ∷ tables) cells none (suc t) n = added_empty tables cells none t n

set_there : (tables : List NumberedCells) (i : ℕ) (cells : NumberedCells) → i < length tables → slice_get (set tables i cells) i ≡ Some cells
set_there [] i cells within = absurd (omega (arith, within))
set_there (first ∷ tables) zero cells within = refl
set_there (first ∷ tables) (suc i) cells within = set_there tables i cells (omega (arith, within))

set_apart : (tables : List NumberedCells) (i t : ℕ) (cells : NumberedCells) → t ≢ i → slice_get (set tables i cells) t ≡ slice_get tables t
set_apart [] i t cells other = refl
set_apart (first ∷ tables) zero zero cells other = absurd (other refl)
set_apart (first ∷ tables) zero (suc t) cells other = refl
set_apart (first ∷ tables) (suc i) zero cells other = refl
set_apart (first ∷ tables) (suc i) (suc t) cells other = set_apart tables i t cells (λ e. other (ap suc e))

-- a cell was put into one of the tables
pub put_in_one : (tables : List NumberedCells) (table number : ℕ) (old new : NumberedCells) (bytes : List ℕ) → table < length tables → old ≡ get_or tables table old
    → ((n : ℕ) → bytes_at new n ≡ cond (n == number) (Some bytes) (bytes_at old n)) → (t n : ℕ)
    → bytes_in (set tables table new) t n ≡ cond ((t == table) && (n == number)) (Some bytes) (bytes_in tables t n)
put_in_one tables table number old new bytes within is put t n = (elim (t == table) as (λ here. (t == table) ≡ here
    → bytes_in (set tables table new) t n ≡ cond (here && (n == number)) (Some bytes) (bytes_in tables t n)) [
      | true ↦ λ e.
          let here : t ≡ table = eqb-true t table e in
          let look = option_and_then (λ (cells : NumberedCells). bytes_at cells n) in
          let before : bytes_in tables t n ≡ bytes_at old n = ap (λ m. bytes_in tables m n) here ∙ ap look (slice_get-get_or tables table old within) ∙ ap (λ cells. bytes_at cells n) (sym is) in
          ap (λ m. bytes_in (set tables table new) m n) here ∙ ap look (set_there tables table new within) ∙ put n ∙ ap (cond (n == number) (Some bytes)) (sym before)
      | false ↦ λ e. ap (option_and_then (λ (cells : NumberedCells). bytes_at cells n)) (set_apart tables table t new (eqb-false t table e))
    ]) refl
