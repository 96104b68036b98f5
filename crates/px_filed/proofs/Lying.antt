-- What a crash leaves of the table files, under the frames from a restart's `redo` on, has all cells of the front.
use Rattle.std.proofs.Common.{◌≡◌, ℕ, ◌-◌, ◌≤◌, max, Bool, true, false, ◌||◌, List, [], ◌++◌, Option, Some, None, IsSome, drop, length, replicate, take, refl, sym, ap, subst, ◌∙◌, inl, inr, arith, nat_lt, unwrap_or}
use Rattle.std.specs.Prelude.{◌⊎◌, if◌then◌else◌}
use Rattle.std.proofs.lemmas.Bool.{cases_Bool, cases_lt, false≢true}
use Rattle.std.proofs.Math.Bool.{or-true}
use Rattle.px_site.specs.Disk.{FileState, IsImage}
use Rattle.px_site.specs.declared.name.FileName.{FileName}
use Rattle.px_site.specs.declared.name.FileName.TheVariants.{Rec}
use Rattle.px_cells.specs.declared.cell.CellKind.{CellKind}
use Rattle.px_cells.specs.declared.cell.CellKind.TheVariants as kinds
use Rattle.px_change.specs.declared.change.Change.{Change}
use Rattle.px_laid.specs.Places.{Places, none_laid}
use Rattle.px_laid.specs.Reading.{header_bytes}
use Rattle.px_shown.specs.Parts.{Parts}
use Rattle.px_model.specs.declared.row.Row.{Row}
use Rattle.px_opened.specs.Opened.{changes_over}
use Rattle.px_recs.specs.Place.{size_of}
use Rattle.px_apply.specs.Contents.{Contents}
use Rattle.px_life.specs.Extends.{Extends}
use Rattle.px_life.specs.Laid.{cells_by, is_laid_by}
use Rattle.px_filed.specs.Filed.{KeepsFiles, file_places}
use Rattle.px_life.specs.Life.{IsLife, Life, between, end_of, places_at}
use Rattle.px_life.proofs.Between.{parted}
use Rattle.px_filed.proofs.Filed.{image_of_rest, rests_in}
use Rattle.px_life.proofs.Over.{away, here, here_some, laid_both, or_none, over_both}

cases_Option : {X : Type 0} (o : Option X) → (o ≡ None) ⊎ ((x : X) × (o ≡ Some x))
cases_Option None = inl refl
cases_Option (Some x) = inr (x, refl)

is_not_none : {X : Type 0} (o : Option X) → IsSome o → o ≡ None → ⊥
is_not_none o some none = false≢true (subst IsSome none some)

module _ (parts : Parts) (short tables next : ℕ) (rows : List Row) (life : Life) (redo applied durable : ℕ) (files : FileName → FileState) (image : Contents) (frame : ℕ)
    (is : IsLife parts short tables next rows life) (keeps : KeepsFiles short life redo applied files)
    (redo_from : life.redo ≤ redo) (redo_to : redo ≤ applied) (written : applied ≤ durable) (start : life.start ≤ durable)
    (from : durable ≤ frame) (to : frame ≤ end_of life) (images : (name : FileName) → IsImage (files name) (image name)) where
  abbrev pub on_disk : Places
  on_disk = file_places short image

  abbrev pub log : List Change
  log = between life redo frame

  abbrev pub redone : ℕ
  redone = max applied life.start

  first : life.first ≤ redo
  first = omega (arith, is.redo_from, redo_from)

  -- of a place that the whole log leaves as it was, the frames that were applied do too
  none_applied : (what : CellKind) (table number : ℕ) → is_laid_by (cells_by log) what table number ≡ false
      → is_laid_by (cells_by (between life redo redone)) what table number ≡ false
  none_applied what table number none =
      let a : redo ≤ redone = omega (arith, redo_to) in
      let b : redone ≤ frame = omega (arith, written, start, from) in
      (or_none (is_laid_by (cells_by (between life redo redone)) what table number) (is_laid_by (cells_by (between life redone frame)) what table number)
      (sym (ap (λ (changes : List Change). is_laid_by (cells_by changes) what table number) (parted life redo redone frame first a b)
      ∙ laid_both (between life redo redone) (between life redone frame) what table number) ∙ none)).0

  -- there the file decides
  by_file : (what : CellKind) (table number : ℕ) (bytes : List ℕ) → is_laid_by (cells_by log) what table number ≡ false
      → places_at life (max redo life.start) what table number ≡ Some bytes → changes_over on_disk log what table number ≡ Some bytes
  by_file what table number bytes none lies =
      away on_disk log what table number none
      ∙ rests_in short files image (record { what = what; table = table; number = number; bytes = bytes })
      (keeps.rest (record { what = what; table = table; number = number; bytes = bytes }) lies (none_applied what table number none)) images

  no_file : (table : ℕ) → is_laid_by (cells_by log) kinds.Header table 0 ≡ false
      → places_at life (max redo life.start) kinds.Header table 0 ≡ None → changes_over on_disk log kinds.Header table 0 ≡ None
  no_file table none lies =
      let rest = keeps.none table lies (none_applied kinds.Header table 0 none) in
      let empty : image (Rec table) ≡ [] = image_of_rest [] (image (Rec table)) (subst (λ (f : FileState). IsImage f (image (Rec table))) rest.0 (images (Rec table))) in
      away on_disk log kinds.Header table 0 none
      ∙ ap (λ (file : List ℕ). if nat_lt 0 (length file) then Some (take (size_of short kinds.Header) (drop 0 file ++ replicate (size_of short kinds.Header) 0)) else None) empty

  -- ---- the restart's redo lies behind the opening

  module _ (later : life.start ≤ redo) where
    base_is : places_at life (max redo life.start) ≡ places_at life redo
    base_is = let same : max redo life.start ≡ redo = omega (arith, later) in ap (places_at life) same

    front_is : places_at life frame ≡ changes_over (places_at life redo) log
    front_is =
        let b : redo ≤ frame = omega (arith, redo_to, written, from) in
        let a : life.first ≤ life.start = omega (arith, is.redo_from, is.start_from) in
        ap (changes_over life.below) (parted life life.start redo frame a later b) ∙ over_both life.below (between life life.start redo) log

    later_laid : (what : CellKind) (table number : ℕ) (bytes : List ℕ) → places_at life frame what table number ≡ Some bytes → changes_over on_disk log what table number ≡ Some bytes
    later_laid what table number bytes lies =
        let lies_over : changes_over (places_at life redo) log what table number ≡ Some bytes = sym (ap (λ (p : Places). p what table number) front_is) ∙ lies in
        elim (cases_Bool (is_laid_by (cells_by log) what table number)) [
          | inl some ↦ here on_disk (places_at life redo) log what table number some ∙ lies_over
          | inr none ↦ by_file what table number bytes none
              (ap (λ (p : Places). p what table number) base_is ∙ sym (away (places_at life redo) log what table number none) ∙ lies_over)
        ]

    later_none : (table : ℕ) → places_at life frame kinds.Header table 0 ≡ None → changes_over on_disk log kinds.Header table 0 ≡ None
    later_none table lies =
        let lies_over : changes_over (places_at life redo) log kinds.Header table 0 ≡ None = sym (ap (λ (p : Places). p kinds.Header table 0) front_is) ∙ lies in
        elim (cases_Bool (is_laid_by (cells_by log) kinds.Header table 0)) [
          | inl some ↦ elim (here_some (places_at life redo) log kinds.Header table 0 some lies_over) [ ]
          | inr none ↦ no_file table none (ap (λ (p : Places). p kinds.Header table 0) base_is ∙ sym (away (places_at life redo) log kinds.Header table 0 none) ∙ lies_over)
        ]

  -- ---- the restart's redo lies within what the opening read

  module _ (earlier : redo ≤ life.start) where
    abbrev pub old : List Change
    old = between life redo life.start

    abbrev pub new : List Change
    new = between life life.start frame

    in_frame : life.start ≤ frame
    in_frame = omega (arith, start, from)

    log_is : log ≡ old ++ new
    log_is = parted life redo life.start frame first earlier in_frame

    base_old : places_at life (max redo life.start) ≡ life.below
    base_old =
        let same : max redo life.start ≡ life.start = omega (arith, earlier) in
        let none : life.start - life.start ≡ 0 = omega arith in
        ap (places_at life) same ∙ ap (λ (n : ℕ). changes_over life.below (take n (drop (life.start - life.first) life.changes))) none

    over_log : (what : CellKind) (table number : ℕ) → changes_over on_disk log what table number ≡ changes_over (changes_over on_disk old) new what table number
    over_log what table number = ap (λ (p : Places). p what table number) (ap (changes_over on_disk) log_is ∙ over_both on_disk old new)

    laid_log : (what : CellKind) (table number : ℕ)
        → is_laid_by (cells_by log) what table number ≡ (is_laid_by (cells_by old) what table number || is_laid_by (cells_by new) what table number)
    laid_log what table number = ap (λ (changes : List Change). is_laid_by (cells_by changes) what table number) log_is ∙ laid_both old new what table number

    neither : (what : CellKind) (table number : ℕ) → is_laid_by (cells_by old) what table number ≡ false → is_laid_by (cells_by new) what table number ≡ false
        → is_laid_by (cells_by log) what table number ≡ false
    neither what table number a b = laid_log what table number ∙ ap (λ (x : Bool). x || is_laid_by (cells_by new) what table number) a ∙ b

    -- what was read before
    abbrev pub head : List Change
    head = between life life.redo redo

    read_is : between life life.redo life.start ≡ head ++ old
    read_is = parted life life.redo redo life.start is.redo_from redo_from earlier

    read_laid : (what : CellKind) (table number : ℕ) → is_laid_by (cells_by old) what table number ≡ true
        → is_laid_by (cells_by (between life life.redo life.start)) what table number ≡ true
    read_laid what table number some =
        ap (λ (changes : List Change). is_laid_by (cells_by changes) what table number) read_is ∙ laid_both head old what table number
        ∙ ap (λ (x : Bool). is_laid_by (cells_by head) what table number || x) some ∙ or-true (is_laid_by (cells_by head) what table number)

    earlier_laid : (what : CellKind) (table number : ℕ) (bytes : List ℕ) → places_at life frame what table number ≡ Some bytes → changes_over on_disk log what table number ≡ Some bytes
    earlier_laid what table number bytes lies =
        elim (cases_Bool (is_laid_by (cells_by new) what table number)) [
          | inl some ↦ over_log what table number ∙ here (changes_over on_disk old) life.below new what table number some ∙ lies
          | inr none ↦
              let below : life.below what table number ≡ Some bytes = sym (away life.below new what table number none) ∙ lies in
              elim (cases_Bool (is_laid_by (cells_by old) what table number)) [
                | inl some ↦
                    over_log what table number ∙ away (changes_over on_disk old) new what table number none
                    ∙ here on_disk (changes_over none_laid head) old what table number some
                    ∙ sym (ap (λ (p : Places). p what table number) (ap (changes_over none_laid) read_is ∙ over_both none_laid head old))
                    ∙ is.read.each what table number bytes below (read_laid what table number some)
                | inr away_too ↦ by_file what table number bytes (neither what table number away_too none) (ap (λ (p : Places). p what table number) base_old ∙ below)
              ]
        ]

    earlier_none : (table : ℕ) → places_at life frame kinds.Header table 0 ≡ None → changes_over on_disk log kinds.Header table 0 ≡ None
    earlier_none table lies =
        elim (cases_Bool (is_laid_by (cells_by new) kinds.Header table 0)) [
          | inl some ↦ elim (here_some life.below new kinds.Header table 0 some lies) [ ]
          | inr none ↦
              let below : life.below kinds.Header table 0 ≡ None = sym (away life.below new kinds.Header table 0 none) ∙ lies in
              elim (cases_Bool (is_laid_by (cells_by old) kinds.Header table 0)) [
                | inl some ↦ elim (is_not_none (life.below kinds.Header table 0) (is.read.headers table (read_laid kinds.Header table 0 some)) below) [ ]
                | inr away_too ↦ no_file table (neither kinds.Header table 0 away_too none) (ap (λ (p : Places). p kinds.Header table 0) base_old ∙ below)
              ]
        ]

  -- ---- both

  all_laid : (what : CellKind) (table number : ℕ) (bytes : List ℕ) → places_at life frame what table number ≡ Some bytes → changes_over on_disk log what table number ≡ Some bytes
  all_laid what table number bytes lies =
      elim (cases_lt redo life.start) [
        | inl below ↦ earlier_laid (omega (arith, below)) what table number bytes lies
        | inr above ↦ later_laid above what table number bytes lies
      ]

  no_header : (table : ℕ) → places_at life frame kinds.Header table 0 ≡ None → changes_over on_disk log kinds.Header table 0 ≡ None
  no_header table lies =
      elim (cases_lt redo life.start) [
        | inl below ↦ earlier_none (omega (arith, below)) table lies
        | inr above ↦ later_none above table lies
      ]

  same_header : (table : ℕ) → header_bytes (changes_over on_disk log) table ≡ header_bytes (places_at life frame) table
  same_header table =
      elim (cases_Option (places_at life frame kinds.Header table 0)) [
        | inl none ↦ ap (λ (o : Option (List ℕ)). unwrap_or o (replicate 16 0)) (no_header table none ∙ sym none)
        | inr some ↦ ap (λ (o : Option (List ℕ)). unwrap_or o (replicate 16 0)) (all_laid kinds.Header table 0 some.0 some.1 ∙ sym some.1)
      ]

pub files_lie : (parts : Parts) (short tables next : ℕ) (rows : List Row) (life : Life) (redo applied durable : ℕ) (files : FileName → FileState) (image : Contents) (frame : ℕ)
    → IsLife parts short tables next rows life → KeepsFiles short life redo applied files
    → life.redo ≤ redo → redo ≤ applied → applied ≤ durable → life.start ≤ durable → durable ≤ frame → frame ≤ end_of life
    → ((name : FileName) → IsImage (files name) (image name))
    → Extends (places_at life frame) (changes_over (file_places short image) (between life redo frame))
files_lie parts short tables next rows life redo applied durable files image frame is keeps redo_from redo_to written start from to images = record {
  laid = all_laid parts short tables next rows life redo applied durable files image frame is keeps redo_from redo_to written start from to images;
  headers = same_header parts short tables next rows life redo applied durable files image frame is keeps redo_from redo_to written start from to images;
}
