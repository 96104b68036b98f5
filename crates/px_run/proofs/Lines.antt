-- Rows that are told, one line after the other.
use Rattle.std.proofs.Common.{◌≡◌, ℕ, zero, suc, ◌+◌, ◌<◌, true, List, [], ◌∷◌, ◌++◌, length, map, take, get_or, Option, Some, None, Err, refl, sym, ap, ◌∙◌, append_assoc, arith}
use Rattle.std.specs.Prelude.{slice_get}
use Rattle.std.proofs.lemmas.Grind.{flat_map-append}
use Rattle.std.proofs.lemmas.Option.{get_or_from_slice_get, none-some, slice_get_within}
use Rattle.std.proofs.lemmas.List.{append-nil, get_or-map, map-append, take-map, take_more, take_all}
use Rattle.px_site.specs.State.{State, spoke}
use Rattle.px_site.specs.declared.error.SiteError.TheVariants.{OutOfMemory as SiteShort, Fault as SiteFault}
use Rattle.px_model.specs.declared.key.KeyOf.{KeyOf}
use Rattle.px_model.specs.declared.row.Row.{Row}
use Rattle.px_model.specs.Rows.{in_order}
use Rattle.px_calls.specs.declared.status.Status.{Status}
use Rattle.px_calls.specs.declared.status.Status.TheVariants.{Done, Damaged, DiskFault, OutputFault, OutOfMemory}
use Rattle.px_calls.specs.Texts.{count_line, row_line}
use Rattle.px_cell_standing.specs.Found.{Found}
use Rattle.px_core.specs.Errors.{status_of}
use Rattle.px_core.specs.declared.error.CoreError.{CoreError}
use Rattle.px_core.specs.declared.error.CoreError.TheVariants.{OutOfMemory as CoreShort, Fault as FaultOf, LogFull as FullAt, Damaged as DamagedAt, Broken}
use Rattle.px_committed.specs.Rows.{first_past}
use Rattle.px_play.specs.Causes.{IsUndamaged}
use Rattle.px_play.specs.Told.{IsTold, joined, last_piece}
use Rattle.px_run.specs.Dumping.{dump_pieces}
use Rattle.px_site.specs.Cause.{Counts, NoneFell}
use Rattle.px_site.specs.declared.error.Fault.TheVariants.{Read}
use Rattle.px_core.specs.Core.{HasRowCause as IsUnread}
use Rattle.px_core.specs.declared.state.Kept.{Kept}
use Rattle.px_play.proofs.Answering.{rose_on}
use Rattle.px_run.specs.Working.{HasRowCause, HasTellCause, TellsPiece, TellsRows}
use Rattle.px_run.proofs.Pieces.{told_behind, told_nothing}
use Rattle.px_run.proofs.Walking.{HasWalked, its_key, walk_first, walk_next}

-- ---- the lines

-- one line more
joined_more : (rows : List Row) (i : ℕ) (row : Row) → i < length rows → row ≡ get_or rows i row → joined (map row_line (take (i + 1) rows)) ≡ joined (map row_line (take i rows)) ++ row_line row
joined_more rows i row inside is =
    let id : List ℕ → List ℕ = λ piece. piece in
    ap (λ (r : List Row). joined (map row_line r)) (take_more rows i row inside ∙ ap (λ (r : Row). take i rows ++ r ∷ []) (sym is))
    ∙ ap joined (map-append row_line (take i rows) (row ∷ []))
    ∙ flat_map-append id (map row_line (take i rows)) (row_line row ∷ [])
    ∙ ap (λ (l : List ℕ). joined (map row_line (take i rows)) ++ l) (append-nil (row_line row))

nothing_at : (rows : List Row) (i : ℕ) → i < length rows → slice_get rows i ≡ None → ⊥
nothing_at [] i inside none = omega (arith, inside)
nothing_at (r ∷ rows) zero inside none = absurd (none-some r (sym none))
nothing_at (r ∷ rows) (suc i) inside none = nothing_at rows i (omega (arith, inside)) none

-- the walk begins
pub walks_none : (rows : List Row) (s : State) → HasWalked rows None 0 s s
walks_none rows s = record { next = walk_first rows; told = sym (append-nil s.now.told) }

-- the next row was read, and its line told
pub walks_on : (rows : List Row) (last : Option KeyOf) (i : ℕ) (row : Row) (old now mid new : State) → in_order rows ≡ true → HasWalked rows last i old now
    → first_past last rows ≡ Some row → mid ≡ now → new ≡ spoke (row_line row) (row_line row) mid → HasWalked rows (Some (its_key row)) (i + 1) old new
walks_on rows last i row old now mid new order walked first same e =
    let at = sym walked.next ∙ first in
    record {
      next = walk_next rows i row order at;
      told = ap (λ (s : State). s.now.told) e ∙ ap (λ (s : State). s.now.told ++ row_line row) same ∙ ap (λ (l : List ℕ). l ++ row_line row) walked.told
          ∙ append_assoc old.now.told (joined (map row_line (take i rows))) (row_line row)
          ∙ ap (λ (l : List ℕ). old.now.told ++ l) (sym (joined_more rows i row (slice_get_within rows i row at) (sym (get_or_from_slice_get rows i row row at))));
    }

-- there is no next row, and so none is left
pub walk_over : (rows : List Row) (last : Option KeyOf) (i : ℕ) (old now : State) → i < length rows → HasWalked rows last i old now → first_past last rows ≡ None → ⊥
walk_over rows last i old now inside walked none = absurd (nothing_at rows i inside (sym walked.next ∙ none))

-- so many lines were told, and nothing else
lines_told : (rows : List Row) (last : Option KeyOf) (i : ℕ) (old now new : State) (status : Status) → HasWalked rows last i old now → new.now.told ≡ now.now.told
    → last_piece (map row_line rows) i status ≡ [] → IsTold (map row_line rows) i status old new
lines_told rows last i old now new status walked same none = record {
  front = 0;
  text = same ∙ walked.told ∙ ap (λ (p : List (List ℕ)). old.now.told ++ joined p) (sym (take-map row_line i rows))
      ∙ sym (append-nil (old.now.told ++ joined (take i (map row_line rows))));
}

-- the next row wasn't read
pub row_unread : (rows : List Row) (last : Option KeyOf) (i : ℕ) (old now new : State) (error : CoreError) → HasWalked rows last i old now → new ≡ now
    → IsTold (map row_line rows) i (status_of error) old new
row_unread rows last i old now new error walked same =
    lines_told rows last i old now new (status_of error) walked (ap (λ (s : State). s.now.told) same) (by_error error)
  where
    by_error : (error : CoreError) → last_piece (map row_line rows) i (status_of error) ≡ []
    by_error CoreShort = refl
    by_error (FaultOf fault) = refl
    by_error (FullAt n) = refl
    by_error (DamagedAt file place) = refl
    by_error (Broken SiteShort) = refl
    by_error (Broken (SiteFault fault)) = refl

-- its line wasn't told, or a front of it
pub line_untold : (rows : List Row) (last : Option KeyOf) (i : ℕ) (row : Row) (old now mid new : State) (status : Status) → HasWalked rows last i old now
    → first_past last rows ≡ Some row → mid ≡ now → TellsPiece (row_line row) mid new (Err status) → IsTold (map row_line rows) i status old new
line_untold rows last i row old now mid new OutputFault walked first same tells =
    let at = sym walked.next ∙ first in
    record {
      front = tells.0;
      text = ap (λ (s : State). s.now.told) tells.1 ∙ ap (λ (s : State). s.now.told ++ take tells.0 (row_line row)) same
          ∙ ap (λ (l : List ℕ). l ++ take tells.0 (row_line row)) (walked.told ∙ ap (λ (p : List (List ℕ)). old.now.told ++ joined p) (sym (take-map row_line i rows)))
          ∙ ap (λ (l : List ℕ). old.now.told ++ joined (take i (map row_line rows)) ++ take tells.0 l)
          (ap row_line (sym (get_or_from_slice_get rows i row row at)) ∙ sym (get_or-map row_line rows i row [] (slice_get_within rows i row at)));
    }
line_untold rows last i row old now mid new OutOfMemory walked first same tells =
    lines_told rows last i old now new OutOfMemory walked (ap (λ (s : State). s.now.told) (tells ∙ same)) refl
line_untold rows last i row old now mid new _ walked first same tells = absurd tells

-- all lines were told
pub walked_all : (rows : List Row) (last : Option KeyOf) (i : ℕ) (old now : State) → i ≡ length rows → HasWalked rows last i old now
    → now.now.told ≡ old.now.told ++ joined (map row_line rows)
walked_all rows last i old now all walked = walked.told ∙ ap (λ (r : List Row). old.now.told ++ joined (map row_line r)) (take_all i rows (omega (arith, all)))

-- ---- why a row isn't told

no_error : {A : Type 0} (kept : Option A) (error : A) → kept ≡ None → kept ≡ Some error → ⊥
no_error kept error none some = cc (sym none ∙ some)

pub unread_cause : {W : Type 0} (counts : W → Counts) (first : Counts) (old new : Kept W) (error : CoreError) → old.error ≡ None → NoneFell first (counts old.site)
    → IsUnread counts old new error → HasRowCause first (counts new.site) (status_of error)
unread_cause counts first old new CoreShort whole fell cause = tt
unread_cause counts first old new (FaultOf fault) whole fell cause =
    (cause.0, rose_on (first.faults Read) ((counts old.site).faults Read) ((counts new.site).faults Read) (fell.faults Read) cause.1)
unread_cause counts first old new (FullAt n) whole fell cause = absurd cause
unread_cause counts first old new (DamagedAt file place) whole fell cause = tt
unread_cause counts first old new (Broken SiteShort) whole fell cause = tt
unread_cause counts first old new (Broken (SiteFault fault)) whole fell cause = absurd (no_error old.error (SiteFault fault) whole cause)

pub told_cause : (first old new : Counts) (status : Status) → NoneFell first old → HasTellCause old new status → HasRowCause first new status
told_cause first old new OutputFault fell cause = rose_on first.tell_faults old.tell_faults new.tell_faults fell.tell_faults cause
told_cause first old new OutOfMemory fell cause = tt
told_cause first old new _ fell cause = absurd cause

pub told_sound : (old new : Counts) (status : Status) → HasTellCause old new status → IsUndamaged status
told_sound old new (Damaged file place) cause = cause
told_sound old new _ cause = tt

-- ---- how many there are, and then the lines

-- how many there are wasn't told, or a front of it
pub count_untold : (found : Found) (old new : State) (status : Status) → TellsPiece (count_line (length found.rows)) old new (Err status) → TellsRows found old new status
unfolding dump_pieces
count_untold found old new OutputFault tells = record {
  whole = 0;
  ends = omega arith;
  told = record {
    front = tells.0;
    text = ap (λ (s : State). s.now.told) tells.1 ∙ ap (λ (l : List ℕ). l ++ take tells.0 (count_line (length found.rows))) (sym (append-nil old.now.told));
  };
}
count_untold found old new OutOfMemory tells = record {
  whole = 0;
  ends = omega arith;
  told = told_nothing (dump_pieces found.rows) OutOfMemory (ap (λ (s : State). s.now.told) tells);
}
count_untold found old new _ tells = absurd tells

-- the lines are told behind it
pub all_told : (found : Found) (old now new : State) → now ≡ spoke (count_line (length found.rows)) (count_line (length found.rows)) old
    → new.now.told ≡ now.now.told ++ joined (map row_line found.rows) → TellsRows found old new Done
unfolding dump_pieces
all_told found old now new count told =
    let rows : List Row = found.rows in
    let pieces : List (List ℕ) = count_line (length rows) ∷ map row_line rows in
    record {
      whole = length pieces;
      ends = refl;
      told = record {
        front = 0;
        text = told ∙ ap (λ (s : State). s.now.told ++ joined (map row_line rows)) count
            ∙ append_assoc old.now.told (count_line (length rows)) (joined (map row_line rows))
            ∙ ap (λ (p : List (List ℕ)). old.now.told ++ joined p) (sym (take_all (length pieces) pieces (omega arith)))
            ∙ sym (append-nil (old.now.told ++ joined (take (length pieces) pieces)));
      };
    }

-- a line among them isn't
pub part_told : (found : Found) (old now new : State) (status : Status) (whole : ℕ) → now ≡ spoke (count_line (length found.rows)) (count_line (length found.rows)) old
    → whole < length found.rows → IsTold (map row_line found.rows) whole status now new → (a b : Counts) → HasRowCause a b status → IsUndamaged status
    → TellsRows found old new status
unfolding dump_pieces
part_told found old now new OutputFault whole count inside told a b end sound = record {
  whole = suc whole;
  ends = omega (arith, inside);
  told = told_behind (count_line (length found.rows)) (map row_line found.rows) whole OutputFault old now new (ap (λ (s : State). s.now.told) count) told;
}
part_told found old now new OutOfMemory whole count inside told a b end sound = record {
  whole = suc whole;
  ends = omega (arith, inside);
  told = told_behind (count_line (length found.rows)) (map row_line found.rows) whole OutOfMemory old now new (ap (λ (s : State). s.now.told) count) told;
}
part_told found old now new (DiskFault fault) whole count inside told a b end sound = record {
  whole = suc whole;
  ends = omega (arith, inside);
  told = told_behind (count_line (length found.rows)) (map row_line found.rows) whole (DiskFault fault) old now new (ap (λ (s : State). s.now.told) count) told;
}
part_told found old now new (Damaged file place) whole count inside told a b end sound = absurd sound
part_told found old now new _ whole count inside told a b end sound = absurd end
