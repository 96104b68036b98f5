-- Bytes that come one part after the other, as lines.
use Rattle.std.proofs.Common.{◌≡◌, ℕ, ◌+◌, ◌≤◌, ◌==◌, Bool, true, false, cond, List, [], ◌∷◌, ◌++◌, length, take, drop, refl, sym, ap, ◌∙◌, append_assoc, arith, inl, inr, length-append, length-take}
use Rattle.std.proofs.lemmas.Bool.{cases_Bool, cond-true, cond-false}
use Rattle.std.proofs.lemmas.List.{append-nil, take-append-drop}
use Rattle.px_script.specs.Lines.{complete_after, rest_after, complete_lines, open_line, last_line, lines_at_end}
use Rattle.px_script.proofs.LineFeeds.{lines-first}

-- ---- two parts

one_way : {A : Type 0} (f : Bool) (x y : List (List ℕ)) (p q : List (List ℕ)) (F : A → List (List ℕ)) (r s : A) → x ≡ p ++ F r → y ≡ q ++ F s → cond f x y ≡ cond f p q ++ F (cond f r s)
one_way true x y p q F r s h k = h
one_way false x y p q F r s h k = k

pub complete_behind : (line a b : List ℕ) → complete_after line (a ++ b) ≡ complete_after line a ++ complete_after (rest_after line a) b
complete_behind line [] b = refl
complete_behind line (byte ∷ a) b =
    one_way (byte == 10) (line ∷ complete_after [] (a ++ b)) (complete_after (line ++ byte ∷ []) (a ++ b)) (line ∷ complete_after [] a) (complete_after (line ++ byte ∷ []) a)
    (λ (l : List ℕ). complete_after l b) (rest_after [] a) (rest_after (line ++ byte ∷ []) a)
    (ap (λ (lines : List (List ℕ)). line ∷ lines) (complete_behind [] a b)) (complete_behind (line ++ byte ∷ []) a b)

other_way : (f : Bool) (x y : List ℕ) (F : List ℕ → List ℕ) (r s : List ℕ) → x ≡ F r → y ≡ F s → cond f x y ≡ F (cond f r s)
other_way true x y F r s h k = h
other_way false x y F r s h k = k

pub rest_behind : (line a b : List ℕ) → rest_after line (a ++ b) ≡ rest_after (rest_after line a) b
rest_behind line [] b = refl
rest_behind line (byte ∷ a) b =
    other_way (byte == 10) (rest_after [] (a ++ b)) (rest_after (line ++ byte ∷ []) (a ++ b)) (λ (l : List ℕ). rest_after l b) (rest_after [] a) (rest_after (line ++ byte ∷ []) a)
    (rest_behind [] a b) (rest_behind (line ++ byte ∷ []) a b)

-- behind a line feed new lines begin
pub lines_behind : (a b : List ℕ) → open_line a ≡ [] → complete_lines (a ++ b) ≡ complete_lines a ++ complete_lines b
unfolding complete_lines open_line
lines_behind a b whole = complete_behind [] a b ∙ ap (λ (l : List ℕ). complete_after [] a ++ complete_after l b) whole

pub open_behind : (a b : List ℕ) → open_line a ≡ [] → open_line (a ++ b) ≡ open_line b
unfolding open_line
open_behind a b whole = rest_behind [] a b ∙ ap (λ (l : List ℕ). rest_after l b) whole

pub at_end_whole : (a : List ℕ) → open_line a ≡ [] → lines_at_end a ≡ complete_lines a
at_end_whole a whole = ap (λ (l : List ℕ). complete_lines a ++ last_line l) whole ∙ append-nil (complete_lines a)

pub at_end_behind : (a b : List ℕ) → open_line a ≡ [] → lines_at_end (a ++ b) ≡ lines_at_end a ++ lines_at_end b
at_end_behind a b whole =
    ap (λ (lines : List (List ℕ)). lines ++ last_line (open_line (a ++ b))) (lines_behind a b whole)
    ∙ ap (λ (l : List ℕ). complete_lines a ++ complete_lines b ++ last_line l) (open_behind a b whole)
    ∙ append_assoc (complete_lines a) (complete_lines b) (last_line (open_line b))
    ∙ ap (λ (lines : List (List ℕ)). lines ++ lines_at_end b) (sym (at_end_whole a whole))

-- ---- one line

-- a line up to its line feed leaves nothing open
pub open_ended : (line : List ℕ) → open_line (line ++ 10 ∷ []) ≡ []
unfolding open_line
open_ended line = rest_behind [] line (10 ∷ [])

pub open_nil : open_line [] ≡ []
unfolding open_line
open_nil = refl

pub complete_nil : complete_lines [] ≡ []
unfolding complete_lines
complete_nil = refl

pub at_end_nil : lines_at_end [] ≡ []
unfolding complete_lines open_line
at_end_nil = refl

pub line_ended : (line : List ℕ) → complete_lines line ≡ [] → complete_lines (line ++ 10 ∷ []) ≡ line ∷ []
line_ended line single =
    sym (at_end_whole (line ++ 10 ∷ []) (open_ended line)) ∙ lines-first line [] single ∙ ap (λ (lines : List (List ℕ)). line ∷ lines) at_end_nil

-- ---- how long a line is

rest_long : (line bytes : List ℕ) → length (rest_after line bytes) ≤ length line + length bytes
rest_long line [] = omega arith
rest_long line (byte ∷ bytes) =
    elim (cases_Bool (byte == 10)) [
      | inl feed ↦
          omega (arith, ap length (cond-true (byte == 10) (rest_after [] bytes) (rest_after (line ++ byte ∷ []) bytes) feed), rest_long [] bytes)
      | inr other ↦
          omega (arith, ap length (cond-false (byte == 10) (rest_after [] bytes) (rest_after (line ++ byte ∷ []) bytes) other), rest_long (line ++ byte ∷ []) bytes, length-append line (byte ∷ []))
    ]

pub open_long : (bytes : List ℕ) → length (open_line bytes) ≤ length bytes
unfolding open_line
open_long bytes = omega (arith, rest_long [] bytes)

pub rest_single : (line bytes : List ℕ) → complete_after line bytes ≡ [] → rest_after line bytes ≡ line ++ bytes
rest_single line [] none = sym (append-nil line)
rest_single line (byte ∷ bytes) none =
    elim (cases_Bool (byte == 10)) [
      | inl feed ↦ cc (sym (cond-true (byte == 10) (line ∷ complete_after [] bytes) (complete_after (line ++ byte ∷ []) bytes) feed) ∙ none)
      | inr other ↦
          cond-false (byte == 10) (rest_after [] bytes) (rest_after (line ++ byte ∷ []) bytes) other
          ∙ rest_single (line ++ byte ∷ []) bytes (sym (cond-false (byte == 10) (line ∷ complete_after [] bytes) (complete_after (line ++ byte ∷ []) bytes) other) ∙ none)
          ∙ append_assoc line (byte ∷ []) bytes
    ]

-- without a line feed all is open
pub open_single : (bytes : List ℕ) → complete_lines bytes ≡ [] → open_line bytes ≡ bytes
unfolding complete_lines open_line
open_single bytes none = rest_single [] bytes none

same_head : (a b : List ℕ) (x y : List (List ℕ)) → a ∷ x ≡ b ∷ y → a ≡ b
same_head a b x y e = cc e

pub first_after : (line bytes first : List ℕ) (others : List (List ℕ)) → complete_after line bytes ≡ first ∷ others → length line ≤ length first
first_after line [] first others e = cc e
first_after line (byte ∷ bytes) first others e =
    elim (cases_Bool (byte == 10)) [
      | inl feed ↦
          let same : line ≡ first = same_head line first (complete_after [] bytes) others (sym (cond-true (byte == 10) (line ∷ complete_after [] bytes) (complete_after (line ++ byte ∷ []) bytes) feed) ∙ e) in
          omega (arith, ap length same)
      | inr other ↦
          omega (arith, first_after (line ++ byte ∷ []) bytes first others (sym (cond-false (byte == 10) (line ∷ complete_after [] bytes) (complete_after (line ++ byte ∷ []) bytes) other) ∙ e), length-append line (byte ∷ []))
    ]

-- where no line is complete in the first bytes, the first line has as many
pub first_long : (few : ℕ) (bytes first : List ℕ) (others : List (List ℕ)) → complete_lines (take few bytes) ≡ [] → few ≤ length bytes → complete_lines bytes ≡ first ∷ others → few ≤ length first
unfolding complete_lines
first_long few bytes first others none within e =
    let front : List ℕ = take few bytes in
    let back : List ℕ = drop few bytes in
    let parts : complete_after [] bytes ≡ complete_after front back =
    ap (complete_after []) (sym (take-append-drop few bytes)) ∙ complete_behind [] front back
    ∙ ap (λ (lines : List (List ℕ)). lines ++ complete_after (rest_after [] front) back) none
    ∙ ap (λ (l : List ℕ). complete_after l back) (rest_single [] front none) in
    omega (arith, first_after front back first others (sym parts ∙ e), length-take few bytes, within)
