-- What lines ask for, in order.
use Rattle.std.proofs.Common.{◌≡◌, ℕ, ◌+◌, ◌<◌, leb, false, option_and_then, List, [], ◌∷◌, ◌++◌, length, Option, Some, None, refl, sym, ap, ◌∙◌, arith, length-append}
use Rattle.std.specs.Prelude.{slice_get}
use Rattle.std.proofs.lemmas.Bool.{cond-false, false_from_ne_true, leb-true}
use Rattle.std.proofs.lemmas.List.{get_or_at}
use Rattle.std.proofs.lemmas.Option.{slice_get_read}
use Rattle.px_engine.specs.Requests.{Request}
use Rattle.px_script.specs.declared.line.Line.{Line}
use Rattle.px_script.specs.Grammar.{longest_line, line_of, line_of_words, command_line, request_of, onto, requests_of}
use Rattle.px_script.specs.Splits.{words_of}
use Rattle.px_play.specs.Input.{AreCommands, IsFirstBad}

-- ---- lists of lines

onto_some : (o : Option Request) (requests : List Request) (c : Request) → o ≡ Some c → onto o requests ≡ c ∷ requests
onto_some o requests c is = ap (λ (p : Option Request). onto p requests) is

pub request_some : (line : List ℕ) (lines : List (List ℕ)) (c : Request) → command_line line ≡ Some c → requests_of (line ∷ lines) ≡ c ∷ requests_of lines
unfolding requests_of
request_some line lines c is = onto_some (command_line line) (requests_of lines) c is

pub request_none : (line : List ℕ) (lines : List (List ℕ)) → command_line line ≡ None → requests_of (line ∷ lines) ≡ []
unfolding requests_of
request_none line lines none = ap (λ (p : Option Request). onto p (requests_of lines)) none

pub requests_nil : requests_of [] ≡ []
unfolding requests_of
requests_nil = refl

-- the first line of commands is one
record Begun (line : List ℕ) (lines : List (List ℕ)) : Type 0 where
  request : Request
  is : command_line line ≡ Some request
  others : AreCommands lines

begun : (line : List ℕ) (lines : List (List ℕ)) → AreCommands (line ∷ lines) → Begun line lines
begun line lines commands = by_request (command_line line) refl
  where
    by_request : (o : Option Request) → command_line line ≡ o → Begun line lines
    by_request None is = absurd (omega (arith, commands, ap length (request_none line lines is)))
    by_request (Some c) is = record { request = c; is = is; others = omega (arith, commands, ap length (request_some line lines c is)) }

pub requests_behind : (front back : List (List ℕ)) → AreCommands front → requests_of (front ++ back) ≡ requests_of front ++ requests_of back
requests_behind [] back commands = ap (λ (l : List Request). l ++ requests_of back) (sym requests_nil)
requests_behind (line ∷ lines) back commands =
    let first = begun line lines commands in
    request_some line (lines ++ back) first.request first.is
    ∙ ap (λ (l : List Request). first.request ∷ l) (requests_behind lines back first.others)
    ∙ ap (λ (l : List Request). l ++ requests_of back) (sym (request_some line lines first.request first.is))

-- one command more
pub commands_more : (front : List (List ℕ)) (line : List ℕ) (c : Request) → AreCommands front → command_line line ≡ Some c → AreCommands (front ++ line ∷ [])
commands_more front line c commands is =
    omega (arith, commands, ap length (requests_behind front (line ∷ []) commands), length-append (requests_of front) (requests_of (line ∷ [])), ap length (request_some line [] c is), ap length requests_nil, length-append front (line ∷ []))

-- behind commands the first line that is none
pub first_bad : (front : List (List ℕ)) (line : List ℕ) (back : List (List ℕ)) → AreCommands front → command_line line ≡ None → IsFirstBad (front ++ line ∷ back) (length front + 1)
first_bad front line back commands none =
    let so_many : length (requests_of (front ++ line ∷ back)) ≡ length front =
    omega (arith, commands, ap length (requests_behind front (line ∷ back) commands), length-append (requests_of front) (requests_of (line ∷ back)), ap length (request_none line back none)) in
    record { there = omega (arith, so_many, length-append front (line ∷ back)); number = omega (arith, so_many) }

-- behind commands the next one
pub request_at : (front : List (List ℕ)) (line : List ℕ) (back : List (List ℕ)) (c : Request) → AreCommands front → command_line line ≡ Some c
    → slice_get (requests_of (front ++ line ∷ back)) (length front) ≡ Some c
request_at front line back c commands is =
    let before = requests_of front in
    let parts : requests_of (front ++ line ∷ back) ≡ before ++ c ∷ requests_of back =
    requests_behind front (line ∷ back) commands ∙ ap (λ (l : List Request). before ++ l) (request_some line back c is) in
    ap (λ (l : List Request). slice_get l (length front)) parts
    ∙ slice_get_read (before ++ c ∷ requests_of back) (length (before ++ c ∷ requests_of back)) (length front) c refl
    (omega (arith, commands, length-append before (c ∷ requests_of back))) (sym (get_or_at before c (requests_of back) c (length front) commands))

-- ---- long lines

-- a line that is too long is no command
pub long_none : (line : List ℕ) → longest_line < length line → command_line line ≡ None
unfolding command_line line_of
long_none line long =
    let past : leb (length line) longest_line ≡ false = false_from_ne_true (leb (length line) longest_line) (λ fits. omega (arith, long, leb-true (length line) longest_line fits)) in
    ap (λ (o : Option Line). option_and_then request_of o) (cond-false (leb (length line) longest_line) (line_of_words (words_of line)) None past)
