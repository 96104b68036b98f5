-- To which frame each table file rests.
use Rattle.std.proofs.Common.{◌≡◌, ℕ, ◌-◌, ◌==◌, ◌≤◌, max, Bool, true, false, ◌||◌, ◌&&◌, List, [], ◌∷◌, Some, None, IsSome, drop, take, refl, sym, ap, subst, ◌∙◌, inl, inr, arith}
use Rattle.std.proofs.lemmas.Bool.{and_parts, cases_Bool, cases_lt, eqb-true, true≢false, false≢true}
use Rattle.std.proofs.Math.Bool.{or-true}
use Rattle.px_site.specs.Disk.{FileState, at_rest}
use Rattle.px_site.specs.Names.{same_file}
use Rattle.px_site.specs.declared.name.FileName.{FileName}
use Rattle.px_site.proofs.Files.{same_file_self}
use Rattle.px_cells.specs.declared.cell.Cell.{Cell}
use Rattle.px_cells.specs.declared.cell.CellKind.{CellKind}
use Rattle.px_cells.specs.declared.cell.CellKind.TheVariants as kinds
use Rattle.px_change.specs.declared.change.Change.{Change}
use Rattle.px_change.specs.Grammar.{is_what}
use Rattle.px_change.proofs.Cells.{one_what}
use Rattle.px_change.specs.Text.{cell_code}
use Rattle.px_laid.specs.Places.{Places, is_at}
use Rattle.px_shown.specs.Parts.{Parts}
use Rattle.px_model.specs.declared.row.Row.{Row}
use Rattle.px_opened.specs.Opened.{changes_over}
use Rattle.px_recs.specs.Place.{table_file}
use Rattle.px_apply.specs.Contents.{is_file_of, is_in}
use Rattle.px_apply.specs.Writes.{file_of}
use Rattle.px_life.specs.Laid.{cells_by, is_laid_by}
use Rattle.px_life.specs.Life.{IsLife, Life, between, places_at}
use Rattle.px_life.proofs.Between.{parted}
use Rattle.px_life.proofs.Over.{away, here_some, laid_both, or_none, over_both}
use Rattle.px_filed.specs.Filed.{IsSpared, KeepsFiles, Rests, RestsUpTo}

-- ---- all files together

pub each_file : (short : ℕ) (life : Life) (redo applied : ℕ) (files : FileName → FileState) → KeepsFiles short life redo applied files
    → (file : FileName) → RestsUpTo short life redo applied file files
each_file short life redo applied files keeps file = record {
  rest = λ cell here. keeps.rest cell;
  none = without;
}
  where
    without : (what : CellKind) (table : ℕ) → table_file what table ≡ file → places_at life (max redo life.start) kinds.Header table 0 ≡ None
        → is_laid_by (cells_by (between life redo (max applied life.start))) kinds.Header table 0 ≡ false → files file ≡ at_rest []
    without kinds.Header table is lies away = ap files (sym is) ∙ (keeps.none table lies away).0
    without kinds.Slot table is lies away = ap files (sym is) ∙ (keeps.none table lies away).0
    without kinds.Pointer table is lies away = ap files (sym is) ∙ (keeps.none table lies away).1

pub all_files : (short : ℕ) (life : Life) (redo applied : ℕ) (files : FileName → FileState)
    → ((file : FileName) → RestsUpTo short life redo applied file files) → KeepsFiles short life redo applied files
all_files short life redo applied files each = record {
  rest = λ cell. (each (file_of cell)).rest cell refl;
  none = λ table lies away. (
    (each (table_file kinds.Header table)).none kinds.Header table refl lies away,
    (each (table_file kinds.Pointer table)).none kinds.Pointer table refl lies away,
  );
}

-- ---- frames that leave a place as it was

abbrev NotLaid : Life → (from to : ℕ) → CellKind → (table number : ℕ) → Type 0
NotLaid life from to what table number = is_laid_by (cells_by (between life from to)) what table number ≡ false

laid_parted : (life : Life) (from at to : ℕ) (what : CellKind) (table number : ℕ) → life.first ≤ from → from ≤ at → at ≤ to
    → is_laid_by (cells_by (between life from to)) what table number
    ≡ (is_laid_by (cells_by (between life from at)) what table number || is_laid_by (cells_by (between life at to)) what table number)
laid_parted life from at to what table number a b c =
    ap (λ (changes : List Change). is_laid_by (cells_by changes) what table number) (parted life from at to a b c)
    ∙ laid_both (between life from at) (between life at to) what table number

-- what all frames leave, those of a part leave
part_left : (life : Life) (from at to : ℕ) (what : CellKind) (table number : ℕ) → life.first ≤ from → from ≤ at → at ≤ to
    → NotLaid life from to what table number → NotLaid life from at what table number × NotLaid life at to what table number
part_left life from at to what table number a b c none =
    or_none (is_laid_by (cells_by (between life from at)) what table number) (is_laid_by (cells_by (between life at to)) what table number)
    (sym (laid_parted life from at to what table number a b c) ∙ none)

both_left : (life : Life) (from at to : ℕ) (what : CellKind) (table number : ℕ) → life.first ≤ from → from ≤ at → at ≤ to
    → NotLaid life from at what table number → NotLaid life at to what table number → NotLaid life from to what table number
both_left life from at to what table number a b c head tail =
    laid_parted life from at to what table number a b c ∙ ap (λ (x : Bool). x || is_laid_by (cells_by (between life at to)) what table number) head ∙ tail

-- the store's cells at a later frame are those at an earlier one, with the frames between laid over them
places_on : (life : Life) (from to : ℕ) → life.first ≤ life.start → life.start ≤ from → from ≤ to
    → places_at life to ≡ changes_over (places_at life from) (between life from to)
places_on life from to a b c =
    ap (changes_over life.below) (parted life life.start from to a b c) ∙ over_both life.below (between life life.start from) (between life from to)

-- a place that all frames from `low` to `to` leave has the same cell at each front between
same_place : (life : Life) (low from at to : ℕ) (what : CellKind) (table number : ℕ) → life.first ≤ life.start → life.first ≤ low → low ≤ from
    → life.start ≤ from → from ≤ at → at ≤ to → NotLaid life low to what table number
    → places_at life at what table number ≡ places_at life from what table number
same_place life low from at to what table number first known below start on end none =
    let later : from ≤ to = omega (arith, on, end) in
    let since : life.first ≤ from = omega (arith, known, below) in
    let tail = (part_left life low from to what table number known below later none).1 in
    let middle = (part_left life from at to what table number since on end tail).0 in
    ap (λ (p : Places). p what table number) (places_on life from at first start on)
    ∙ away (places_at life from) (between life from at) what table number middle

-- ---- a lower mark

module _ (parts : Parts) (short tables next : ℕ) (rows : List Row) (life : Life) (low upto applied : ℕ) (file : FileName) (files : FileName → FileState)
    (is : IsLife parts short tables next rows life) (rests : RestsUpTo short life upto applied file files)
    (from : life.redo ≤ low) (to : low ≤ upto) (done : upto ≤ applied) where
  begun : life.first ≤ life.start
  begun = omega (arith, is.redo_from, is.start_from)

  known : life.first ≤ low
  known = omega (arith, is.redo_from, from)

  behind : upto ≤ max applied life.start
  behind = omega (arith, done)

  lower_same : (what : CellKind) (table number : ℕ) → NotLaid life low (max applied life.start) what table number
      → places_at life (max upto life.start) what table number ≡ places_at life (max low life.start) what table number
  lower_same what table number none =
      let a : low ≤ max low life.start = omega arith in
      let b : life.start ≤ max low life.start = omega arith in
      let c : max low life.start ≤ max upto life.start = omega (arith, to) in
      let d : max upto life.start ≤ max applied life.start = omega (arith, done) in
      same_place life low (max low life.start) (max upto life.start) (max applied life.start) what table number begun known a b c d none

  lower_left : (what : CellKind) (table number : ℕ) → NotLaid life low (max applied life.start) what table number
      → NotLaid life upto (max applied life.start) what table number
  lower_left what table number none = (part_left life low upto (max applied life.start) what table number known to behind none).1

  pub lowered : RestsUpTo short life low applied file files
  lowered = record {
    rest = λ cell here lies none. rests.rest cell here (lower_same cell.what cell.table cell.number none ∙ lies) (lower_left cell.what cell.table cell.number none);
    none = λ what table here lies none. rests.none what table here (lower_same kinds.Header table 0 none ∙ lies) (lower_left kinds.Header table 0 none);
  }

-- ---- a higher mark

-- where no cell is in a file, none lies at a place of that file
spared_cells : (cells : List Cell) (what : CellKind) (table number : ℕ) → is_file_of cells (table_file what table) ≡ false
    → is_laid_by cells what table number ≡ false
spared_cells [] what table number none = refl
spared_cells (cell ∷ cells) what table number none =
    let two = or_none (is_in (table_file what table) cell) (is_file_of cells (table_file what table)) none in
    elim (cases_Bool (is_at what table number cell)) [
      | inl this ↦
          let at = and_parts (is_what what cell) ((table == cell.table) && (number == cell.number)) this in
          let table_is : table ≡ cell.table = eqb-true table cell.table (and_parts (table == cell.table) (number == cell.number) at.1).0 in
          let file_is : file_of cell ≡ table_file what table =
          ap (λ (w : CellKind). table_file w cell.table) (one_what cell.what what (eqb-true (cell_code cell.what) (cell_code what) at.0)) ∙ ap (table_file what) (sym table_is) in
          elim (true≢false (sym (same_file_self (table_file what table)) ∙ sym (ap (λ (f : FileName). same_file f (table_file what table)) file_is) ∙ two.0)) [ ]
      | inr not ↦ ap (λ (x : Bool). x || is_laid_by cells what table number) not ∙ spared_cells cells what table number two.1
    ]

none_between : (life : Life) (n : ℕ) → between life n n ≡ []
none_between life n = let none : n - n ≡ 0 = omega arith in ap (λ (count : ℕ). take count (drop (n - life.first) life.changes)) none

module _ (parts : Parts) (short tables next : ℕ) (rows : List Row) (life : Life) (upto applied : ℕ)
    (is : IsLife parts short tables next rows life) (from : life.redo ≤ upto) (to : upto ≤ applied) where
  abbrev first : ℕ
  first = max upto life.start

  abbrev last : ℕ
  last = max applied life.start

  opened : life.first ≤ life.start
  opened = omega (arith, is.redo_from, is.start_from)

  noted : life.first ≤ upto
  noted = omega (arith, is.redo_from, from)

  within : upto ≤ last
  within = omega (arith, to)

  to_first : upto ≤ first
  to_first = omega arith

  since_start : life.start ≤ first
  since_start = omega arith

  to_last : first ≤ last
  to_last = omega (arith, to)

  -- a header that the opening read is in the store that it found
  read_header : (table : ℕ) → upto ≤ life.start → is_laid_by (cells_by (between life upto life.start)) kinds.Header table 0 ≡ true
      → IsSome (life.below kinds.Header table 0)
  read_header table early some =
      is.read.headers table
      (laid_parted life life.redo upto life.start kinds.Header table 0 is.redo_from from early
      ∙ ap (λ (x : Bool). is_laid_by (cells_by (between life life.redo upto)) kinds.Header table 0 || x) some
      ∙ or-true (is_laid_by (cells_by (between life life.redo upto)) kinds.Header table 0))

  -- so a table without a header has none in the frames that the opening read
  none_read : (table : ℕ) → places_at life first kinds.Header table 0 ≡ None → NotLaid life upto first kinds.Header table 0
  none_read table lies =
      elim (cases_lt upto life.start) [
        | inl early ↦
            let same : first ≡ life.start = omega (arith, early) in
            let below : life.below kinds.Header table 0 ≡ None =
            sym (ap (λ (n : ℕ). places_at life n kinds.Header table 0) same
            ∙ ap (λ (changes : List Change). changes_over life.below changes kinds.Header table 0) (none_between life life.start)) ∙ lies in
            let before : upto ≤ life.start = omega (arith, early) in
            ap (λ (n : ℕ). is_laid_by (cells_by (between life upto n)) kinds.Header table 0) same
            ∙ elim (cases_Bool (is_laid_by (cells_by (between life upto life.start)) kinds.Header table 0)) as (λ c. is_laid_by (cells_by (between life upto life.start)) kinds.Header table 0 ≡ false) [
              | inl some ↦ elim (false≢true (subst IsSome below (read_header table before some))) [ ]
              | inr not ↦ not
            ]
        | inr late ↦
            let same : first ≡ upto = omega (arith, late) in
            ap (λ (n : ℕ). is_laid_by (cells_by (between life upto n)) kinds.Header table 0) same
            ∙ ap (λ (changes : List Change). is_laid_by (cells_by changes) kinds.Header table 0) (none_between life upto)
      ]

  -- a table that has no header in the end never had one
  no_header_yet : (table : ℕ) → places_at life last kinds.Header table 0 ≡ None
      → (places_at life first kinds.Header table 0 ≡ None) × NotLaid life upto last kinds.Header table 0
  no_header_yet table lies =
      let over : changes_over (places_at life first) (between life first last) kinds.Header table 0 ≡ None =
      sym (ap (λ (p : Places). p kinds.Header table 0) (places_on life first last opened since_start to_last)) ∙ lies in
      elim (cases_Bool (is_laid_by (cells_by (between life first last)) kinds.Header table 0)) [
        | inl some ↦ elim (here_some (places_at life first) (between life first last) kinds.Header table 0 some over) [ ]
        | inr not ↦
            let none : places_at life first kinds.Header table 0 ≡ None = sym (away (places_at life first) (between life first last) kinds.Header table 0 not) ∙ over in
            (none, both_left life upto first last kinds.Header table 0 noted to_first to_last (none_read table none) not)
      ]

  module _ (file : FileName) (files : FileName → FileState) (rests : RestsUpTo short life upto applied file files)
      (spared : IsSpared life upto applied file) where
    raised_rest : (cell : Cell) → file_of cell ≡ file → places_at life last cell.what cell.table cell.number ≡ Some cell.bytes
        → NotLaid life applied last cell.what cell.table cell.number → Rests short files cell
    raised_rest cell here lies none =
        let done : applied ≤ last = omega arith in
        let head : NotLaid life upto applied cell.what cell.table cell.number =
        spared_cells (cells_by (between life upto applied)) cell.what cell.table cell.number
        (ap (is_file_of (cells_by (between life upto applied))) here ∙ spared) in
        let left = both_left life upto applied last cell.what cell.table cell.number noted to done head none in
        let same = same_place life upto first last last cell.what cell.table cell.number opened noted to_first since_start to_last (omega arith) left in
        rests.rest cell here (sym same ∙ lies) left

    raised_none : (what : CellKind) (table : ℕ) → table_file what table ≡ file → places_at life last kinds.Header table 0 ≡ None
        → NotLaid life applied last kinds.Header table 0 → files file ≡ at_rest []
    raised_none what table here lies none = let never = no_header_yet table lies in rests.none what table here never.0 never.1

    pub raised : RestsUpTo short life applied applied file files
    raised = record { rest = raised_rest; none = raised_none }
