-- A line that isn't too long is read by its words.
use Rattle.std.proofs.Common.{◌≡◌, ◌≤◌, List, ℕ, leb, length, None}
use Rattle.std.proofs.lemmas.Bool.{cond-true, le-leb}
use Rattle.px_script.specs.Grammar.{line_of, line_of_words, longest_line}
use Rattle.px_script.specs.Splits.{words_of}

pub line_of-short : (bytes : List ℕ) → length bytes ≤ longest_line → line_of bytes ≡ line_of_words (words_of bytes)
unfolding line_of
line_of-short bytes short = cond-true (leb (length bytes) longest_line) (line_of_words (words_of bytes)) None (le-leb (length bytes) longest_line short)
