-- All of a store that was just made can be reached.
use Rattle.std.proofs.Common.{◌≡◌, ℕ, zero, suc, ◌+◌, ◌-◌, ◌^◌, List, [], ◌++◌, Some, None, is_some, max, drop, length, map, take, refl, sym, ap, subst, ◌∙◌, arith}
use Rattle.std.specs.Prelude.{if◌then◌else◌}
use Rattle.std.proofs.lemmas.Bool.{false≢true}
use Rattle.px_site.specs.Disk.{FileState, IsImage, at_rest}
use Rattle.px_site.specs.State.{Moment}
use Rattle.px_site.specs.declared.name.FileName.TheVariants.{Rec, Row as RowFile, Xlog}
use Rattle.px_apply.specs.Contents.{Contents}
use Rattle.px_cells.specs.declared.cell.CellKind.{CellKind}
use Rattle.px_change.specs.declared.change.Change.{Change}
use Rattle.px_change.specs.Text.{change_text}
use Rattle.px_chain.specs.Sound.{IsUsedRow}
use Rattle.px_history.specs.Base.{ended_before}
use Rattle.px_history.specs.Steps.{after_steps}
use Rattle.px_history.specs.Store.{Store, nothing}
use Rattle.px_laid.specs.Places.{none_laid}
use Rattle.px_opened.specs.Opened.{changes_over}
use Rattle.px_restart.specs.declared.restart.Restart.{Restart}
use Rattle.px_scan.specs.Scan.{frames_of, frames_within}
use Rattle.px_scan.specs.Segments.{is_full}
use Rattle.px_life.specs.Example.{new_life}
use Rattle.px_life.specs.Life.{places_at, store_at}
use Rattle.px_filed.proofs.Filed.{image_of_rest}
use Rattle.px_reached.specs.Example.{no_marks}
use Rattle.px_reached.specs.Reachable.{IsReachable}
use Rattle.px_reached.specs.Scanned.{scan, scan_from}
use Rattle.px_reached.proofs.Standing.{ArePlain}

drop_none : {X : Type 0} (n : ℕ) → drop {A = X} n [] ≡ []
drop_none zero = refl
drop_none (suc n) = refl

take_none : {X : Type 0} (n : ℕ) → take {A = X} n [] ≡ []
take_none zero = refl
take_none (suc n) = refl

nothing_there : {X : Type 0} {x : X} → None ≡ Some x → ⊥
nothing_there e = false≢true (ap is_some e)

empty_scan : (most : ℕ) (files : Contents) (segment number : ℕ) → ((k : ℕ) → files (Xlog k) ≡ []) → scan_from most files segment number ≡ []
unfolding frames_of frames_within
empty_scan zero files segment number none = refl
empty_scan (suc most) files segment number none =
    subst (λ (bytes : List ℕ). (frames_of bytes number ++ (if is_full bytes number then scan_from most files (segment + 1) (number + length (frames_of bytes number)) else [])) ≡ [])
    (sym (none segment)) refl

no_scan : (restart : Restart) (files : Contents) → ((k : ℕ) → files (Xlog k) ≡ []) → scan restart files ≡ []
unfolding scan
no_scan restart files none = empty_scan (2 ^ 32 - restart.segment) files restart.segment restart.first none

pub new_is_reachable : (IsPlain : Moment → Contents → Type 0) → ArePlain IsPlain → (short : ℕ) (restart : Restart) (m : Moment) → restart.first ≡ 0 → restart.redo ≡ 0 → restart.durable ≡ 0
    → ((k : ℕ) → m.files (Xlog k) ≡ at_rest []) → ((t : ℕ) → (m.files (Rec t) ≡ at_rest []) × (m.files (RowFile t) ≡ at_rest []))
    → IsReachable IsPlain short restart new_life no_marks m
new_is_reachable IsPlain images short restart m first redo durable logs tables = record {
  first = omega arith;
  redo_from = omega arith;
  redo_to = omega (arith, redo);
  applied = omega arith;
  durable = omega (arith, durable);
  start = omega arith;
  end = omega arith;
  log = record {
    each = λ image plain. (
      0,
      omega arith,
      omega arith,
      no_scan restart image (empty image plain) ∙ sym (ap (map change_text) (ap (take (0 - restart.first)) (drop_none (restart.first - 0)) ∙ take_none (0 - restart.first))),
    );
    behind = λ image plain segment past. empty image plain segment;
  };
  files = record {
    rest = λ cell lies away. elim (nothing_there (sym (below cell.what cell.table cell.number) ∙ lies)) [ ];
    none = λ table lies away. tables table;
  };
  prefix = λ frame from to. record {
    done = λ t row used. elim (no_row frame t row used) [ ];
    numbers = λ t row used. elim (no_row frame t row used) [ ];
  };
}
  where
    empty : (image : Contents) → IsPlain m image → (k : ℕ) → image (Xlog k) ≡ []
    empty image plain k = image_of_rest [] (image (Xlog k)) (subst (λ (f : FileState). IsImage f (image (Xlog k))) (logs k) (images m image plain (Xlog k)))

    below : (what : CellKind) (table number : ℕ) → places_at new_life (max restart.redo 0) what table number ≡ None
    below what table number = ap (λ (changes : List Change). changes_over none_laid changes what table number) (take_none (max restart.redo 0 - 0))

    same : (frame : ℕ) → store_at new_life frame ≡ ended_before 1 nothing
    same frame = ap (after_steps (ended_before 1 nothing)) (take_none (frame - 0))

    no_row : (frame t row : ℕ) → IsUsedRow ((store_at new_life frame).tables t) row → ⊥
    no_row frame t row used =
        let one : IsUsedRow ((ended_before 1 nothing).tables t) row = subst (λ (s : Store). IsUsedRow (s.tables t) row) (same frame) used in
        omega (arith, one.0.0, one.0.1)
