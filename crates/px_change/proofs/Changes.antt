-- Bytes are the text of one change at most.
use Rattle.std.proofs.Common.{◌≡◌, ℕ, ◌+◌, ◌^◌, ◌<◌, ◌≤◌, true, false, cond, eqb, List, [], ◌∷◌, ◌++◌, length, drop, refl, sym, ap, subst, ◌∙◌, arith}
use Rattle.std.specs.Int.{w64, to_be_bytes}
use Rattle.std.specs.List.{flat_map}
use Rattle.std.proofs.lemmas.Bool.{false≢true}
use Rattle.px_bytes.proofs.Numbers.{one_u64}
use Rattle.px_cells.specs.declared.cell.Cell.{Cell}
use Rattle.px_change.specs.declared.change.Change.{Change}
use Rattle.px_change.specs.declared.change.ChangeKind.{ChangeKind}
use Rattle.px_change.specs.declared.change.ChangeKind.TheVariants.{Put, Commit, Rollback, Sweep, Move, Tidy}
use Rattle.px_change.specs.declared.limits.TheConstants.{END_SIZE, LONGEST_TEXT}
use Rattle.px_change.specs.Text.{kind_code, cell_text, head, change_text}
use Rattle.px_change.specs.Grammar.{is_version, has_cells, is_change}
use Rattle.px_change.specs.Reading.{HoldsChange, IsHead, AreCells}
use Rattle.px_change.proofs.Cells.{first_of, one_cells}
use Rattle.px_change.proofs.Bounds.{in_grammar, version_size}

-- ---- kinds

kind_at : ℕ → ChangeKind
kind_at code = cond (eqb code 1) Put (cond (eqb code 2) Commit (cond (eqb code 3) Rollback (cond (eqb code 4) Sweep (cond (eqb code 5) Move Tidy))))

kind_again : (kind : ChangeKind) → kind_at (kind_code kind) ≡ kind
unfolding kind_at
kind_again Put = refl
kind_again Commit = refl
kind_again Rollback = refl
kind_again Sweep = refl
kind_again Move = refl
kind_again Tidy = refl

one_kind : (a b : ChangeKind) → kind_code a ≡ kind_code b → a ≡ b
one_kind a b e = sym (kind_again a) ∙ ap kind_at e ∙ kind_again b

-- ---- heads

pub length-head : (kind xn commit count : ℕ) (rest : List ℕ) → length (head kind xn commit count ++ rest) ≡ END_SIZE + length rest
unfolding head
length-head kind xn commit count rest = omega arith

pub record SameHead (k x c n : ℕ) (r : List ℕ) (l y d m : ℕ) (s : List ℕ) : Type 0 where
  pub kind : k ≡ l
  pub xn : x ≡ y
  pub commit : c ≡ d
  pub count : n ≡ m
  pub rest : r ≡ s

pub same_head : (k x c n : ℕ) (r : List ℕ) (l y d m : ℕ) (s : List ℕ) → x < 2 ^ 64 → y < 2 ^ 64 → c < 2 ^ 64 → d < 2 ^ 64 → head k x c n ++ r ≡ head l y d m ++ s → SameHead k x c n r l y d m s
unfolding head
same_head k x c n r l y d m s x_fits y_fits c_fits d_fits e =
    let both : k ∷ to_be_bytes w64 x ++ (to_be_bytes w64 c ++ n ∷ r) ≡ l ∷ to_be_bytes w64 y ++ (to_be_bytes w64 d ++ m ∷ s) = e in
    let tails : to_be_bytes w64 x ++ (to_be_bytes w64 c ++ n ∷ r) ≡ to_be_bytes w64 y ++ (to_be_bytes w64 d ++ m ∷ s) = ap (λ (b : List ℕ). drop 1 b) both in
    let one = one_u64 x y _ _ x_fits y_fits tails in
    let two = one_u64 c d _ _ c_fits d_fits one.1 in
    record {
      kind = first_of k l _ _ both;
      xn = one.0;
      commit = two.0;
      count = first_of n m _ _ two.1;
      rest = ap (λ (b : List ℕ). drop 1 b) two.1;
    }

-- ---- changes

-- what was read of bytes is what the change says that they hold
pub headed : (short : ℕ) (bytes : List ℕ) (kind xn commit count : ℕ) (rest : List ℕ) (change : Change) → IsHead bytes kind xn commit count rest → HoldsChange short bytes change
    → SameHead kind xn commit count rest (kind_code change.kind) change.xn change.commit (length change.cells) (flat_map cell_text change.cells)
unfolding change_text
headed short bytes kind xn commit count rest change at held =
    let parts = in_grammar short change held.grammar in
    same_head kind xn commit count rest (kind_code change.kind) change.xn change.commit (length change.cells) (flat_map cell_text change.cells) at.xn_fits parts.xn at.commit_fits parts.commit (sym at.front ∙ held.text)

pub cells_there : (short : ℕ) (bytes : List ℕ) (kind xn commit count : ℕ) (rest : List ℕ) (change : Change) → IsHead bytes kind xn commit count rest → HoldsChange short bytes change → AreCells rest count change.cells
cells_there short bytes kind xn commit count rest change at held =
    let same = headed short bytes kind xn commit count rest change at held in
    record { fit = (in_grammar short change held.grammar).fit; many = sym same.count; text = same.rest }

pub long_enough : (short : ℕ) (bytes : List ℕ) (change : Change) → HoldsChange short bytes change → END_SIZE ≤ length bytes
unfolding change_text
long_enough short bytes change held = omega (arith, ap length held.text, length-head (kind_code change.kind) change.xn change.commit (length change.cells) (flat_map cell_text change.cells))

pub text_of : (bytes : List ℕ) (code xn commit count : ℕ) (rest : List ℕ) (change : Change) → IsHead bytes code xn commit count rest → kind_code change.kind ≡ code → change.xn ≡ xn → change.commit ≡ commit → AreCells rest count change.cells → bytes ≡ change_text change
unfolding change_text
text_of bytes code xn commit count rest change at kind xns commits are =
    let many = are.many in
    let heads : head code xn commit count ≡ head (kind_code change.kind) change.xn change.commit (length change.cells) = cc in
    at.front ∙ ap (λ (l : List ℕ). head code xn commit count ++ l) are.text ∙ ap (λ (l : List ℕ). l ++ flat_map cell_text change.cells) heads

change_of : (kind : ChangeKind) (xn commit : ℕ) (cells : List Cell) → Change
change_of kind xn commit cells = record { kind = kind; xn = xn; commit = commit; cells = cells }

same_parts : (c d : Change) → c.kind ≡ d.kind → c.xn ≡ d.xn → c.commit ≡ d.commit → c.cells ≡ d.cells → change_of c.kind c.xn c.commit c.cells ≡ change_of d.kind d.xn d.commit d.cells
same_parts c d kind xn commit cells = cc

same_change : (c d : Change) → c.kind ≡ d.kind → c.xn ≡ d.xn → c.commit ≡ d.commit → c.cells ≡ d.cells → c ≡ d
unfolding change_of
same_change c d kind xn commit cells = same_parts c d kind xn commit cells

-- what was read is the one change that the bytes may hold
pub one_reading : (short : ℕ) (bytes : List ℕ) (code xn commit count : ℕ) (rest : List ℕ) (c d : Change) → IsHead bytes code xn commit count rest → kind_code c.kind ≡ code → c.xn ≡ xn → c.commit ≡ commit → AreCells rest count c.cells → HoldsChange short bytes d → c ≡ d
one_reading short bytes code xn commit count rest c d at kind xns commits are held =
    let same = headed short bytes code xn commit count rest d at held in
    let ends : flat_map cell_text c.cells ++ [] ≡ flat_map cell_text d.cells ++ [] = ap (λ (l : List ℕ). l ++ []) (sym are.text ∙ same.rest) in
    let cells = one_cells c.cells d.cells [] [] are.fit (in_grammar short d held.grammar).fit (are.many ∙ same.count) ends in
    same_change c d (one_kind c.kind d.kind (kind ∙ same.kind)) (xns ∙ same.xn) (commits ∙ same.commit) cells.0

-- where what was read is outside of the grammar, the bytes hold no change
pub outside : (short : ℕ) (bytes : List ℕ) (code xn commit count : ℕ) (rest : List ℕ) (c d : Change) → IsHead bytes code xn commit count rest → kind_code c.kind ≡ code → c.xn ≡ xn → c.commit ≡ commit → AreCells rest count c.cells → is_change short c ≡ false → HoldsChange short bytes d → ⊥
outside short bytes code xn commit count rest c d at kind xns commits are refused held =
    let same = one_reading short bytes code xn commit count rest c d at kind xns commits are held in
    false≢true (sym refused ∙ ap (is_change short) same ∙ held.grammar)

pub head_of : (short : ℕ) (bytes : List ℕ) (change : Change) → HoldsChange short bytes change → IsHead bytes (kind_code change.kind) change.xn change.commit (length change.cells) (flat_map cell_text change.cells)
unfolding change_text
head_of short bytes change held =
    let parts = in_grammar short change held.grammar in
    record { front = held.text; xn_fits = parts.xn; commit_fits = parts.commit }

pub one_change : (s t : ℕ) (bytes : List ℕ) (c d : Change) → HoldsChange s bytes c → HoldsChange t bytes d → c ≡ d
one_change s t bytes c d held_c held_d =
    one_reading t bytes _ _ _ _ _ c d (head_of s bytes c held_c) refl refl refl (record { fit = (in_grammar s c held_c.grammar).fit; many = refl; text = refl }) held_d

-- ---- sizes

pub length-change : (change : Change) → length (change_text change) ≡ END_SIZE + length (flat_map cell_text change.cells)
unfolding change_text
length-change change = length-head (kind_code change.kind) change.xn change.commit (length change.cells) (flat_map cell_text change.cells)

pub in_frame : (short : ℕ) (change : Change) → is_change short change ≡ true → (END_SIZE ≤ length (change_text change)) × (length (change_text change) ≤ LONGEST_TEXT)
in_frame short change ok =
    let parts = in_grammar short change ok in
    (omega (arith, length-change change), omega (arith, length-change change, parts.bound, parts.few))

pub put_size : (short : ℕ) (change : Change) → change.kind ≡ Put → is_change short change ≡ true → length (change_text change) ≡ 166 + short
put_size short change put ok =
    let parts = in_grammar short change ok in
    let version : is_version change.cells ≡ true = subst (λ (k : ChangeKind). has_cells k change.cells ≡ true) put parts.kinds in
    omega (arith, length-change change, version_size short change.cells version parts.all)
