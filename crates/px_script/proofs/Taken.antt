-- What an answer takes of an input.
use Rattle.std.proofs.Common.{◌≡◌, ◌≢◌, ℕ, Some, true, false, List, [], ◌∷◌, ◌++◌, length, Result, Ok, Err, refl, sym, ap, ◌∙◌, arith, inl, inr}
use Rattle.std.proofs.lemmas.Bool.{eqb-true}
use Rattle.std.proofs.lemmas.List.{append-nil, append_assoc, length-append, nil_from_length}
use Rattle.std.specs.Result.{IfOk, is_err}
use Rattle.std.specs.declared.alloc.AllocError.{AllocError}
use Rattle.px_source.specs.Source.{faults_after}
use Rattle.px_script.specs.declared.lines.NextLine.{NextLine}
use Rattle.px_script.specs.declared.lines.NextLine.TheVariants.{Line, End, Fault, TooLong, LongLine}
use Rattle.px_script.specs.Lines.{complete_lines, open_line, lines_at_end}
use Rattle.px_script.specs.Progress.{Progress, AddsPiece, HasCause, IsInOrder, Moves, ahead, faults_by}
use Rattle.px_script.proofs.LineFeeds.{lines-first, lines-last}

-- a read that didn't fail
pub read_ok : {P E : Type 0} (read : Result (Unit {0}) E) → is_err read ≡ false → IfOk read (λ _. P) → P
read_ok (Ok unit) ok h = h
read_ok (Err fault) ok h = absurd (cc ok)

pub read_faults : {E : Type 0} (read : Result (Unit {0}) E) (faults now : ℕ) → is_err read ≡ false → now ≡ faults_after read faults → now ≡ faults
read_faults (Ok unit) faults now ok same = same
read_faults (Err fault) faults now ok same = absurd (cc ok)

-- an answer that isn't of a fault
pub no_fault_by : (next : NextLine) (faults now : ℕ) → Some next ≢ Some Fault → now ≡ faults → now ≡ faults_by (Ok next) faults
no_fault_by Line faults now other same = same
no_fault_by End faults now other same = same
no_fault_by Fault faults now other same = absurd (other refl)
no_fault_by TooLong faults now other same = same
no_fault_by LongLine faults now other same = same

-- a piece comes from the front of what is left
pub piece-ahead : (tells : Type 0) (old new : Progress) (left left_now : List ℕ) → tells → AddsPiece tells old new left left_now → ahead new left_now ≡ ahead old left
piece-ahead tells old new left left_now tell adds =
    ap (λ (held : List ℕ). held ++ left_now) adds.piece.appended
    ∙ append_assoc old.held adds.piece.piece left_now
    ∙ ap (λ (rest : List ℕ). old.held ++ rest) (sym (adds.piece.taken tell))

pub piece-end : (tells : Type 0) (old new : Progress) (left left_now : List ℕ) → tells → AddsPiece tells old new left left_now → new.ended ≡ true → left_now ≡ []
piece-end tells old new left left_now tell adds over =
    let none = eqb-true adds.added 0 (sym adds.ended ∙ over) in
    let empty = sym (adds.piece.taken tell) ∙ adds.piece.ended tell none in
    nil_from_length left_now (omega (arith, ap length empty, length-append adds.piece.piece left_now))

-- what is taken of the bytes that are held is taken of the input
pub moves-ahead : (before now left : List ℕ) (progress : Progress) (next : NextLine) → (progress.ended ≡ true → left ≡ []) → Moves before now progress next → Moves (before ++ left) (now ++ left) progress next
moves-ahead before now left progress Line at_end (inl line) =
    inl (ap (λ (bytes : List ℕ). bytes ++ left) line ∙ append_assoc progress.line (10 ∷ now) left)
moves-ahead before now left progress Line at_end (inr last) =
    let none = at_end last.3 in
    inr (ap (λ (rest : List ℕ). before ++ rest) none ∙ append-nil before ∙ last.0, ap (λ (rest : List ℕ). now ++ rest) none ∙ append-nil now ∙ last.1, last.2, last.3)
moves-ahead before now left progress End at_end same = ap (λ (bytes : List ℕ). bytes ++ left) same
moves-ahead before now left progress Fault at_end same = ap (λ (bytes : List ℕ). bytes ++ left) same
moves-ahead before now left progress TooLong at_end same = ap (λ (bytes : List ℕ). bytes ++ left) same
moves-ahead before now left progress LongLine at_end same = ap (λ (bytes : List ℕ). bytes ++ left) same

lines-nil : lines_at_end [] ≡ []
unfolding complete_lines open_line
lines-nil = refl

-- what is taken is the first line of the input
pub in_order : (before left : List ℕ) (progress : Progress) (next : NextLine) → (progress.ended ≡ true → left ≡ []) → HasCause progress next → Moves before (ahead progress left) progress next → IsInOrder before (ahead progress left) progress next
in_order before left progress Line at_end cause (inl line) =
    ap lines_at_end line ∙ lines-first progress.line (ahead progress left) cause.incomplete
in_order before left progress Line at_end cause (inr last) =
    ap lines_at_end last.0 ∙ lines-last progress.line cause.incomplete last.2
    ∙ ap (λ (lines : List (List ℕ)). progress.line ∷ lines) (sym (ap lines_at_end last.1 ∙ lines-nil))
in_order before left progress End at_end cause same =
    ap lines_at_end (sym same ∙ ap (λ (held : List ℕ). held ++ left) cause.0 ∙ at_end cause.1) ∙ lines-nil
in_order before left progress Fault at_end cause same = ap lines_at_end same
in_order before left progress TooLong at_end cause same = ap lines_at_end same
in_order before left progress LongLine at_end cause same = ap lines_at_end same

pub in_order_ok : (before left : List ℕ) (progress : Progress) (result : Result NextLine AllocError) → (progress.ended ≡ true → left ≡ []) → IfOk result (HasCause progress) → IfOk result (Moves before (ahead progress left) progress) → IfOk result (IsInOrder before (ahead progress left) progress)
in_order_ok before left progress (Ok next) at_end cause moves = in_order before left progress next at_end cause moves
in_order_ok before left progress (Err error) at_end cause moves = tt
