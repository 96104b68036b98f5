-- How a line feed cuts an input into lines.
use Rattle.std.proofs.Common.{◌≡◌, ◌≢◌, ℕ, ◌==◌, false, List, [], ◌∷◌, ◌++◌, length, take, refl, sym, ap, ◌∙◌, inl, inr, arith, ◌+◌, ◌-◌, ◌<◌, ◌≤◌, drop}
use Rattle.std.proofs.lemmas.Bool.{cond-true, cond-false, cases_Bool}
use Rattle.std.proofs.lemmas.List.{append-nil, append_assoc, take-take, take_rest, take-append-drop}
use Rattle.std.proofs.lemmas.List.Elements.{All-head, All-tail, All-cons, All-nil, All-same, All-take, All-append}
use Rattle.memchr.specs.Find.{Nowhere, NoneBefore, Passes, is_byte}
use lib.Seq.{take-add}
use Rattle.px_script.proofs.Cuts.{none-passes, none-before}
use Rattle.px_script.specs.Feeds.{NoFeed}
use Rattle.px_script.specs.Grammar.{longest_line}
use Rattle.px_script.specs.Progress.{IsOpen, IsOverlong}
use Rattle.px_script.specs.Lines.{complete_after, rest_after, complete_lines, open_line, last_line, lines_at_end}

abbrev IsOther : ℕ → Type 0
IsOther byte = (byte == 10) ≡ false

complete_after-line : (front line rest : List ℕ) → NoFeed line → complete_after front (line ++ 10 ∷ rest) ≡ (front ++ line) ∷ complete_after [] rest
complete_after-line front [] rest none = ap (λ (first : List ℕ). first ∷ complete_after [] rest) (sym (append-nil front))
complete_after-line front (byte ∷ line) rest none =
    cond-false (byte == 10) (front ∷ complete_after [] (line ++ 10 ∷ rest)) (complete_after (front ++ byte ∷ []) (line ++ 10 ∷ rest)) (All-head IsOther byte line none)
    ∙ complete_after-line (front ++ byte ∷ []) line rest (All-tail IsOther byte line none)
    ∙ ap (λ (first : List ℕ). first ∷ complete_after [] rest) (append_assoc front (byte ∷ []) line)

rest_after-line : (front line rest : List ℕ) → NoFeed line → rest_after front (line ++ 10 ∷ rest) ≡ rest_after [] rest
rest_after-line front [] rest none = refl
rest_after-line front (byte ∷ line) rest none =
    cond-false (byte == 10) (rest_after [] (line ++ 10 ∷ rest)) (rest_after (front ++ byte ∷ []) (line ++ 10 ∷ rest)) (All-head IsOther byte line none)
    ∙ rest_after-line (front ++ byte ∷ []) line rest (All-tail IsOther byte line none)

complete_after-none : (front bytes : List ℕ) → NoFeed bytes → complete_after front bytes ≡ []
complete_after-none front [] none = refl
complete_after-none front (byte ∷ bytes) none =
    cond-false (byte == 10) (front ∷ complete_after [] bytes) (complete_after (front ++ byte ∷ []) bytes) (All-head IsOther byte bytes none)
    ∙ complete_after-none (front ++ byte ∷ []) bytes (All-tail IsOther byte bytes none)

rest_after-none : (front bytes : List ℕ) → NoFeed bytes → rest_after front bytes ≡ front ++ bytes
rest_after-none front [] none = sym (append-nil front)
rest_after-none front (byte ∷ bytes) none =
    cond-false (byte == 10) (rest_after [] bytes) (rest_after (front ++ byte ∷ []) bytes) (All-head IsOther byte bytes none)
    ∙ rest_after-none (front ++ byte ∷ []) bytes (All-tail IsOther byte bytes none)
    ∙ append_assoc front (byte ∷ []) bytes

none_after : (front bytes : List ℕ) → complete_after front bytes ≡ [] → NoFeed bytes
none_after front [] none = All-nil IsOther
none_after front (byte ∷ bytes) none =
    elim (cases_Bool (byte == 10)) [
      | inl feed ↦ cc (sym (cond-true (byte == 10) (front ∷ complete_after [] bytes) (complete_after (front ++ byte ∷ []) bytes) feed) ∙ none)
      | inr other ↦
          All-cons IsOther byte bytes other
          (none_after (front ++ byte ∷ []) bytes
          (sym (cond-false (byte == 10) (front ∷ complete_after [] bytes) (complete_after (front ++ byte ∷ []) bytes) other) ∙ none))
    ]

-- no line is complete exactly where there is no line feed
pub complete_lines-none : (bytes : List ℕ) → NoFeed bytes → complete_lines bytes ≡ []
unfolding complete_lines
complete_lines-none bytes none = complete_after-none [] bytes none

pub none-complete_lines : (bytes : List ℕ) → complete_lines bytes ≡ [] → NoFeed bytes
unfolding complete_lines
none-complete_lines bytes none = none_after [] bytes none

-- a line up to its line feed is the first one
pub lines-first : (line rest : List ℕ) → complete_lines line ≡ [] → lines_at_end (line ++ 10 ∷ rest) ≡ line ∷ lines_at_end rest
unfolding complete_lines open_line
lines-first line rest single =
    let none = none_after [] line single in
    ap (λ (lines : List (List ℕ)). lines ++ last_line (rest_after [] (line ++ 10 ∷ rest))) (complete_after-line [] line rest none)
    ∙ ap (λ (left : List ℕ). line ∷ (complete_after [] rest ++ last_line left)) (rest_after-line [] line rest none)

-- what is left at the end is the only one, where it has a byte
pub lines-last : (line : List ℕ) → complete_lines line ≡ [] → line ≢ [] → lines_at_end line ≡ line ∷ []
unfolding complete_lines open_line
lines-last [] single some = absurd (some refl)
lines-last (byte ∷ line) single some =
    let none = none_after [] (byte ∷ line) single in
    ap (λ (lines : List (List ℕ)). lines ++ last_line (rest_after [] (byte ∷ line))) single
    ∙ ap last_line (rest_after-none [] (byte ∷ line) none)

pub open-none : (bytes : List ℕ) → NoFeed bytes → length bytes ≤ longest_line → IsOpen bytes
open-none bytes none short = record { incomplete = complete_lines-none bytes none; short = short }

-- a line feed that stands too far behind, or not at all
pub overlong-at : (bytes : List ℕ) (line : ℕ) → NoFeed (take line bytes) → longest_line < line → line ≤ length bytes → IsOverlong bytes
overlong-at bytes line none long within =
    let le : longest_line + 1 ≤ line = omega arith in record {
      incomplete = complete_lines-none (take (longest_line + 1) bytes)
          (All-same IsOther (take (longest_line + 1) bytes) (take (longest_line + 1) (take line bytes)) (sym (take-take (longest_line + 1) line bytes le))
          (All-take IsOther (longest_line + 1) (take line bytes) none));
      long = omega arith;
    }

pub overlong-none : (bytes : List ℕ) → NoFeed bytes → longest_line < length bytes → IsOverlong bytes
overlong-none bytes none long =
    overlong-at bytes (length bytes) (All-take IsOther (length bytes) bytes none) long (omega arith)

-- what was searched before, and what is searched now
pub searched-until : (held : List ℕ) (searched place : ℕ) → NoFeed (take searched held) → NoneBefore (Passes (is_byte 10) (take (length held - searched) (drop searched held))) 0 (length (take (length held - searched) (drop searched held))) place → NoFeed (take (searched + place) held)
searched-until held searched place none first =
    let hay = take (length held - searched) (drop searched held) in
    All-same IsOther (take (searched + place) held) (take searched held ++ take place hay)
    (take-add searched place held ∙ ap (λ (rest : List ℕ). take searched held ++ take place rest) (sym (take_rest held searched)))
    (All-append IsOther (take searched held) (take place hay) none (none-before (is_byte 10) hay place first))

pub searched-all : (held : List ℕ) (searched : ℕ) → NoFeed (take searched held) → Nowhere (Passes (is_byte 10) (take (length held - searched) (drop searched held))) 0 (length (take (length held - searched) (drop searched held))) → NoFeed held
searched-all held searched none nowhere =
    let hay = take (length held - searched) (drop searched held) in
    All-same IsOther held (take searched held ++ hay)
    (sym (take-append-drop searched held) ∙ ap (λ (rest : List ℕ). take searched held ++ rest) (sym (take_rest held searched)))
    (All-append IsOther (take searched held) hay none (none-passes (is_byte 10) hay nowhere))
