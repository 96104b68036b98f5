-- How little of an input is held beyond the lines that were handed out.
use Rattle.std.proofs.Common.{◌≡◌, ◌⊎◌, ℕ, ◌==◌, ◌+◌, ◌≤◌, false, List, [], ◌∷◌, ◌++◌, length, drop, get_or, Result, Ok, sym, ap, ◌∙◌, inl, inr, arith, length-append}
use Rattle.std.proofs.lemmas.Bool.{true≢false}
use Rattle.std.proofs.lemmas.List.Elements.{All-head, All-tail}
use Rattle.std.specs.declared.alloc.AllocError.{AllocError}
use Rattle.px_script.specs.declared.lines.NextLine.{NextLine}
use Rattle.px_script.specs.declared.lines.NextLine.TheVariants.{Line, End, Fault, TooLong, LongLine}
use Rattle.px_script.specs.Feeds.{NoFeed}
use Rattle.px_script.specs.Grammar.{longest_line}
use Rattle.px_script.specs.Progress.{Progress, IsFoundIn, Moves, ReadsNoFurther, TakesLine, ahead, longest_piece}
use Rattle.px_script.proofs.LineFeeds.{none-complete_lines}

abbrev IsOther : ℕ → Type 0
IsOther byte = (byte == 10) ≡ false

-- what stands behind a line feed is part of the piece that it came with
feed_behind : (before piece line held : List ℕ) → NoFeed before → before ++ piece ≡ line ++ 10 ∷ held → length held ≤ length piece
feed_behind [] piece line held none is = omega (arith, ap length is, length-append line (10 ∷ held))
feed_behind (byte ∷ before) piece [] held none is =
    absurd (true≢false (sym (ap (λ (n : ℕ). n == 10) (ap (λ (bytes : List ℕ). get_or bytes 0 0) is)) ∙ All-head IsOther byte before none))
feed_behind (byte ∷ before) piece (other ∷ line) held none is = feed_behind before piece line held (All-tail IsOther byte before none) (ap (drop 1) is)

-- behind a line that was handed out
pub line_behind : {A : Type 0} (left_of : A → List ℕ) (old new : Progress) (a b : A) → length old.held ≤ longest_piece → (b ≡ a) ⊎ ReadsNoFurther new (Ok Line) → TakesLine (ahead old (left_of a)) (ahead new (left_of b)) new
    → length new.held ≤ longest_piece
line_behind {A} left_of old new a b few (inl same) (inl line) =
    omega (arith, few, ap length line, length-append old.held (left_of a), length-append new.line (10 ∷ ahead new (left_of b)), length-append new.held (left_of b), ap (λ (s : A). length (left_of s)) same)
line_behind left_of old new a b few (inl same) (inr last) = omega (arith, ap length last.1, length-append new.held (left_of b))
line_behind left_of old new a b few (inr reads) moves = by_found reads.found
  where
    by_found : TakesLine (reads.before ++ reads.piece) new.held new → length new.held ≤ longest_piece
    by_found (inl line) = omega (arith, reads.small, feed_behind reads.before reads.piece new.line new.held (none-complete_lines reads.before reads.unfinished.incomplete) line)
    by_found (inr last) = omega (arith, ap length last.1)

-- where no line was handed out
pub same_little : {A : Type 0} (left_of : A → List ℕ) (old new : Progress) (a b : A) (result : Result NextLine AllocError) → length old.held ≤ longest_piece → (b ≡ a) ⊎ ReadsNoFurther new result
    → ((bytes : List ℕ) → IsFoundIn bytes new result → new.held ≡ bytes) → ahead new (left_of b) ≡ ahead old (left_of a) → length new.held ≤ longest_line + longest_piece
same_little {A} left_of old new a b result few (inl same) found whole =
    omega (arith, few, ap length whole, length-append new.held (left_of b), length-append old.held (left_of a), ap (λ (s : A). length (left_of s)) same)
same_little left_of old new a b result few (inr reads) found whole =
    omega (arith, reads.small, reads.unfinished.short, ap length (found (reads.before ++ reads.piece) reads.found), length-append reads.before reads.piece)

-- after any answer
pub next_little : {A : Type 0} (left_of : A → List ℕ) (old new : Progress) (a b : A) (next : NextLine) → length old.held ≤ longest_piece → (b ≡ a) ⊎ ReadsNoFurther new (Ok next)
    → Moves (ahead old (left_of a)) (ahead new (left_of b)) new next → length new.held ≤ longest_line + longest_piece
next_little left_of old new a b Line few no_further moves = omega (arith, line_behind left_of old new a b few no_further moves)
next_little left_of old new a b End few no_further moves = same_little left_of old new a b (Ok End) few no_further (λ bytes is. is) moves
next_little left_of old new a b Fault few no_further moves = same_little left_of old new a b (Ok Fault) few no_further (λ bytes is. is) moves
next_little left_of old new a b TooLong few no_further moves = same_little left_of old new a b (Ok TooLong) few no_further (λ bytes is. is) moves
next_little left_of old new a b LongLine few no_further moves = same_little left_of old new a b (Ok LongLine) few no_further (λ bytes is. is) moves
