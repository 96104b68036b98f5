-- The cells of a change: of one table, and apart from one another.
use Rattle.std.proofs.Common.{◌≡◌, ℕ, ◌+◌, ◌-◌, ◌*◌, ◌^◌, ◌<◌, ◌≤◌, Bool, true, false, ◌&&◌, ◌||◌, ◌⊎◌, inl, inr, eqb, leb, ltb, List, [], ◌∷◌, length, take, drop, get_or, refl, sym, ap, ◌∙◌, arith, length-take, length-drop}
use Rattle.std.specs.List.{list_all, AllByRecursion}
use Rattle.std.proofs.lemmas.Bool.{and_parts, or_cases, eqb-true, leb-true, ltb-true, lt-ltb, le-leb, and_from}
use Rattle.std.proofs.lemmas.Bool.Decides.{nat_tests}
use Rattle.std.proofs.lemmas.List.{ext_get_or, get_or-take, get_or-drop}
use Rattle.px_site.specs.declared.name.FileName.{FileName}
use Rattle.px_site.specs.declared.name.FileName.TheVariants.{Rec, Row}
use Rattle.px_site.specs.Disk.{touches}
use Rattle.px_site.specs.Names.{same_file}
use Rattle.px_site.proofs.Files.{same_file_self}
use Rattle.px_cells.specs.Form.{is_short}
use Rattle.px_cells.specs.declared.cell.Cell.{Cell}
use Rattle.px_cells.specs.declared.cell.CellKind.{CellKind}
use Rattle.px_cells.specs.declared.cell.CellKind.TheVariants.{Header, Slot, Pointer}
use Rattle.px_recs.specs.Place.{place_of, size_of}
use Rattle.px_change.specs.declared.change.Change.{Change}
use Rattle.px_change.specs.Text.{cell_code}
use Rattle.px_change.specs.Grammar.{is_number, is_size, is_table, is_cell, is_before, rise_behind, rise, has_cells, has_commit, is_stored, is_change}
use Rattle.px_recs.specs.Place.{table_file}
use Rattle.px_apply.specs.Writes.{file_of, write_of}
use Rattle.px_apply.specs.Contents.{Contents, with_cell, with_cells, is_in, is_file_of, is_byte_of, is_byte_of_some, end_of, HasCell}
use Rattle.px_apply.proofs.Bytes.{cell_inside}
use Rattle.px_apply.proofs.Laid.{elsewhere, size, reach_here}

-- ---- what the grammar says

pub record InOrder (short : ℕ) (cells : List Cell) : Type 0 where
  pub each : list_all (is_cell short) cells ≡ true
  pub rising : rise cells ≡ true

pub in_order : (short : ℕ) (change : Change) → is_change short change ≡ true → InOrder short change.cells
unfolding is_change
in_order short change ok =
    let all = list_all (is_cell short) change.cells in
    let kinds = has_cells change.kind change.cells in
    let numbered = and_parts (is_stored change.xn) (has_commit change.kind change.commit && (kinds && (all && rise change.cells))) ok in
    let ended = and_parts (has_commit change.kind change.commit) (kinds && (all && rise change.cells)) numbered.1 in
    let kind = and_parts kinds (all && rise change.cells) ended.1 in
    let both = and_parts all (rise change.cells) kind.1 in
    record { each = both.0; rising = both.1 }

record IsSized (short : ℕ) (cell : Cell) : Type 0 where
  number : is_number cell.what cell.number ≡ true
  size : length cell.bytes ≡ size_of short cell.what

sized : (short : ℕ) (what : CellKind) (n : ℕ) → is_size short what n ≡ true → n ≡ size_of short what
sized short Header n ok = eqb-true n 16 ok
sized short Slot n ok = eqb-true n (100 + short) (and_parts (is_short short) (eqb n (100 + short)) ok).1
sized short Pointer n ok = eqb-true n 8 ok

cell_parts : (short : ℕ) (cell : Cell) → is_cell short cell ≡ true → IsSized short cell
cell_parts short cell ok =
    let has_size = is_size short cell.what (length cell.bytes) in
    let two = and_parts (is_table cell.table) (is_number cell.what cell.number && has_size) ok in
    let three = and_parts (is_number cell.what cell.number) has_size two.1 in
    record { number = three.0; size = sized short cell.what (length cell.bytes) three.1 }

-- ---- which cell stands before which

abbrev Follows : (v : CellKind) (m : ℕ) (w : CellKind) (n : ℕ) → Type 0
Follows v m w n = (cell_code v < cell_code w) ⊎ ((cell_code v ≡ cell_code w) × (m < n))

record IsBefore (first second : Cell) : Type 0 where
  table : first.table ≡ second.table
  order : Follows first.what first.number second.what second.number

before : (a b : Cell) → is_before a b ≡ true → IsBefore a b
before a b ok =
    let less = ltb (cell_code a.what) (cell_code b.what) in
    let same = eqb (cell_code a.what) (cell_code b.what) && ltb a.number b.number in
    let two = and_parts (eqb a.table b.table) (less || same) ok in
    record {
      table = eqb-true a.table b.table two.0;
      order = elim (or_cases less same two.1) [
        | inl lower ↦ inl (ltb-true (cell_code a.what) (cell_code b.what) lower)
        | inr alike ↦
            let parts = and_parts (eqb (cell_code a.what) (cell_code b.what)) (ltb a.number b.number) alike in
            inr (eqb-true (cell_code a.what) (cell_code b.what) parts.0, ltb-true a.number b.number parts.1)
      ];
    }

then_before : (a b c : Cell) → IsBefore a b → IsBefore b c → IsBefore a c
then_before a b c p q = record { table = p.table ∙ q.table; order = both p.order q.order }
  where
    both : Follows a.what a.number b.what b.number → Follows b.what b.number c.what c.number → Follows a.what a.number c.what c.number
    both (inl p) (inl q) = inl (omega (arith, p, q))
    both (inl p) (inr q) = inl (omega (arith, p, q.0))
    both (inr p) (inl q) = inl (omega (arith, p.0, q))
    both (inr p) (inr q) = inr (p.0 ∙ q.0, omega (arith, p.1, q.1))

earlier : (a b : Cell) (cells : List Cell) → IsBefore a b → AllByRecursion (IsBefore b) cells → AllByRecursion (IsBefore a) cells
earlier a b [] first all = tt
earlier a b (cell ∷ cells) first all = (then_before a b cell first all.0, earlier a b cells first all.1)

before_all : (cell : Cell) (cells : List Cell) → rise_behind cell cells ≡ true → AllByRecursion (IsBefore cell) cells
before_all cell [] ok = tt
before_all cell (next ∷ cells) ok =
    let two = and_parts (is_before cell next) (rise_behind next cells) ok in
    let first = before cell next two.0 in
    (first, earlier cell next cells first (before_all next cells two.1))

rise_rest : (cell : Cell) (cells : List Cell) → rise_behind cell cells ≡ true → rise cells ≡ true
rise_rest cell [] ok = refl
rise_rest cell (next ∷ cells) ok = (and_parts (is_before cell next) (rise_behind next cells) ok).1

-- ---- apart

next_slot : (m n s : ℕ) → 1 ≤ m → m < n → (m - 1) * s + s ≤ (n - 1) * s
next_slot m n s from less = grind arith

-- cells in order are in different files, or one ends where the other begins or before
apart : (short : ℕ) (v w : CellKind) (m n t u : ℕ) → is_number v m ≡ true → is_number w n ≡ true → Follows v m w n
    → (same_file (table_file w u) (table_file v t) ≡ false) ⊎ (place_of short v m + size_of short v ≤ place_of short w n)
apart short Header Header m n t u first second (inl less) = absurd (omega (arith, less))
apart short Header Header m n t u first second (inr same) = absurd (omega (arith, same.1, eqb-true n 0 second))
apart short Header Slot m n t u first second follows = inr (omega arith)
apart short Header Pointer m n t u first second follows = inl refl
apart short Slot Header m n t u first second (inl less) = absurd (omega (arith, less))
apart short Slot Header m n t u first second (inr same) = absurd (omega (arith, same.0))
apart short Slot Slot m n t u first second (inl less) = absurd (omega (arith, less))
apart short Slot Slot m n t u first second (inr same) =
    let from : 1 ≤ m = leb-true 1 m (and_parts (leb 1 m) (ltb m (2 ^ 32)) first).0 in
    inr (omega (arith, next_slot m n (100 + short) from same.1))
apart short Slot Pointer m n t u first second follows = inl refl
apart short Pointer Header m n t u first second (inl less) = absurd (omega (arith, less))
apart short Pointer Header m n t u first second (inr same) = absurd (omega (arith, same.0))
apart short Pointer Slot m n t u first second (inl less) = absurd (omega (arith, less))
apart short Pointer Slot m n t u first second (inr same) = absurd (omega (arith, same.0))
apart short Pointer Pointer m n t u first second (inl less) = absurd (omega (arith, less))
apart short Pointer Pointer m n t u first second (inr same) =
    let from : 1 ≤ m = leb-true 1 m (and_parts (leb 1 m) (ltb m (2 ^ 32)) first).0 in
    inr (omega (arith, from, same.1))

not_from : (place at : ℕ) (y : Bool) → at < place → (leb place at && y) ≡ false
not_from place at y less = let not : leb place at ≡ false = grind (arith, nat_tests) in ap (λ (b : Bool). b && y) not

none_in : (x y : Bool) → y ≡ false → (x && y) ≡ false
none_in true y none = none
none_in false y none = refl

-- no byte of the one is one of the other
apart_at : (short : ℕ) (a b : Cell) (k : ℕ) → IsSized short a → IsSized short b → IsBefore a b → k < length a.bytes → is_byte_of short (file_of a) (place_of short a.what a.number + k) b ≡ false
apart_at short a b k sized_a sized_b order below =
    let at = place_of short a.what a.number + k in
    elim (apart short a.what b.what a.number b.number a.table b.table sized_a.number sized_b.number order.order) [
      | inl other ↦ ap (λ (x : Bool). x && touches (write_of short b) at) other
      | inr past ↦
          none_in (is_in (file_of a) b) (touches (write_of short b) at)
          (not_from (place_of short b.what b.number) at (ltb at (end_of short b)) (omega (arith, past, below, sized_a.size)))
    ]

apart_from_all : (short : ℕ) (cell : Cell) (cells : List Cell) (k : ℕ) → IsSized short cell → list_all (is_cell short) cells ≡ true → AllByRecursion (IsBefore cell) cells → k < length cell.bytes
    → is_byte_of_some short cells (file_of cell) (place_of short cell.what cell.number + k) ≡ false
apart_from_all short cell [] k is_sized ok order below = refl
apart_from_all short cell (next ∷ cells) k is_sized ok order below =
    let at = place_of short cell.what cell.number + k in
    let two = and_parts (is_cell short next) (list_all (is_cell short) cells) ok in
    ap (λ (x : Bool). x || is_byte_of_some short cells (file_of cell) at) (apart_at short cell next k is_sized (cell_parts short next two.0) order.0 below)
    ∙ apart_from_all short cell cells k is_sized two.1 order.1 below

-- ---- there

-- bytes that are there one by one
has_bytes : (content : List ℕ) (place : ℕ) (bytes : List ℕ) → place + length bytes ≤ length content → ((k : ℕ) → k < length bytes → get_or content (place + k) 0 ≡ get_or bytes k 0)
    → take (length bytes) (drop place content) ≡ bytes
has_bytes content place bytes within each =
    let long : length (take (length bytes) (drop place content)) ≡ length bytes = omega (arith, within, length-take (length bytes) (drop place content), length-drop place content) in
    ext_get_or 0 (take (length bytes) (drop place content)) bytes long
    (λ k below.
    let less : k < length bytes = omega (arith, below, long) in
    get_or-take (length bytes) (drop place content) k 0 less ∙ get_or-drop place content k 0 ∙ each k less)

first_there : (short : ℕ) (contents : Contents) (cell : Cell) (cells : List Cell) → is_cell short cell ≡ true → list_all (is_cell short) cells ≡ true → AllByRecursion (IsBefore cell) cells
    → HasCell short (with_cells short contents (cell ∷ cells)) cell
first_there short contents cell cells is all order =
    let file = file_of cell in
    let place = place_of short cell.what cell.number in
    let here : is_in file cell ≡ true = same_file_self file in
    has_bytes (with_cells short contents (cell ∷ cells) file) place cell.bytes
    (omega (arith, size short (cell ∷ cells) contents file, reach_here short cell cells file here))
    (λ k below.
    let from : leb place (place + k) ≡ true = le-leb place (place + k) (omega arith) in
    let to : ltb (place + k) (end_of short cell) ≡ true = lt-ltb (place + k) (end_of short cell) (omega (arith, below)) in
    let inside = and_from (is_in file cell) (touches (write_of short cell) (place + k)) here (and_from (leb place (place + k)) (ltb (place + k) (end_of short cell)) from to) in
    let back : place + k - place ≡ k = omega arith in
    elsewhere short cells (with_cell short contents cell) file (place + k) (apart_from_all short cell cells k (cell_parts short cell is) all order below)
    ∙ cell_inside short contents cell file (place + k) inside
    ∙ ap (λ (i : ℕ). get_or cell.bytes i 0) back)

pub all_there : (short : ℕ) (contents : Contents) (cells : List Cell) → list_all (is_cell short) cells ≡ true → rise cells ≡ true → AllByRecursion (HasCell short (with_cells short contents cells)) cells
all_there short contents [] ok up = tt
all_there short contents (cell ∷ cells) ok up =
    let two = and_parts (is_cell short cell) (list_all (is_cell short) cells) ok in (
      first_there short contents cell cells two.0 two.1 (before_all cell cells up),
      all_there short (with_cell short contents cell) cells two.1 (rise_rest cell cells up),
    )

-- ---- one table

of_table : (what : CellKind) (t u : ℕ) (file : FileName) → t ≡ u → same_file (Rec t) file ≡ false → same_file (Row t) file ≡ false → same_file (table_file what u) file ≡ false
of_table Header t u file same rec row = ap (λ (x : ℕ). same_file (Rec x) file) (sym same) ∙ rec
of_table Slot t u file same rec row = ap (λ (x : ℕ). same_file (Rec x) file) (sym same) ∙ rec
of_table Pointer t u file same rec row = ap (λ (x : ℕ). same_file (Row x) file) (sym same) ∙ row

behind_of_table : (first : Cell) (cells : List Cell) (file : FileName) → AllByRecursion (IsBefore first) cells → same_file (Rec first.table) file ≡ false → same_file (Row first.table) file ≡ false → is_file_of cells file ≡ false
behind_of_table first [] file order rec row = refl
behind_of_table first (cell ∷ cells) file order rec row =
    ap (λ (x : Bool). x || is_file_of cells file) (of_table cell.what first.table cell.table file order.0.table rec row)
    ∙ behind_of_table first cells file order.1 rec row

pub one_table : (first : Cell) (cells : List Cell) (file : FileName) → rise (first ∷ cells) ≡ true → same_file (Rec first.table) file ≡ false → same_file (Row first.table) file ≡ false → is_file_of (first ∷ cells) file ≡ false
one_table first cells file up rec row =
    ap (λ (x : Bool). x || is_file_of cells file) (of_table first.what first.table first.table file refl rec row)
    ∙ behind_of_table first cells file (before_all first cells up) rec row
