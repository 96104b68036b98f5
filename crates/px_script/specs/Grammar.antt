-- The grammar of script lines (docs/FORMATS.md, 'Script lines'), and which of its lines each program takes.
use Rattle.std.specs.Prelude.{ℕ, ◌-◌, Bool, true, false, ◌&&◌, nat_le, List, [], ◌∷◌, length, codes, Option, Some, None, option_map, option_and_then, if◌then◌else◌}
use Rattle.px_calls.specs.declared.call.Call.{Call}
use Rattle.px_calls.specs.declared.call.Call.TheVariants.{Begin, Get, Hold, Fetch, Find, Scan, Insert, Update, Delete, Commit, Rollback}
use Rattle.px_calls.specs.declared.event.Activity.TheVariants.{Writer, Sweeper, Compactor, Checkpointer}
use Rattle.px_calls.specs.declared.event.Event.TheVariants.{Session as ByCall, Activity as ByActivity}
use Rattle.px_calls.specs.Histories.{by, sweep}
use Rattle.px_engine.specs.Requests.{Request, Ask, Stat as Numbers}
use Rattle.px_script.specs.declared.line.Line.{Line}
use Rattle.px_script.specs.declared.line.Line.TheVariants.{Step, Peek, Drain, Stat}
use Rattle.px_script.specs.Splits.{words_of}
use Rattle.px_script.specs.Words.{same, number_of, bytes_of, body_of}

-- the longest line in bytes, its line feed not counted
abbrev pub longest_line : ℕ
longest_line = 16777216

-- the greatest number that a word may be
abbrev pub greatest_word : ℕ
greatest_word = 4294967295

-- a first word with this reading, and then what is read of the others
abbrev pub word_then : {A B : Type 0} → (List ℕ → Option A) → (A → List (List ℕ) → Option B) → List (List ℕ) → Option B
word_then reading next [] = None
word_then reading next (word ∷ words) = option_and_then (λ value. next value words) (reading word)

abbrev pub number_then : {B : Type 0} → (ℕ → List (List ℕ) → Option B) → List (List ℕ) → Option B
number_then next words = word_then (number_of greatest_word) next words

abbrev pub key_then : {B : Type 0} → (List ℕ → List (List ℕ) → Option B) → List (List ℕ) → Option B
key_then next words = word_then bytes_of next words

abbrev pub body_then : {B : Type 0} → (List ℕ → List (List ℕ) → Option B) → List (List ℕ) → Option B
body_then next words = word_then body_of next words

-- no word is left
abbrev pub ending : {A : Type 0} → A → List (List ℕ) → Option A
ending value [] = Some value
ending value (word ∷ words) = None

-- `T K`
abbrev pub place_of : {A : Type 0} → (ℕ → List ℕ → A) → List (List ℕ) → Option A
place_of make words = number_then (λ table. key_then (λ key. ending (make table key))) words

-- `T K G B`
abbrev pub row_of : {A : Type 0} → (ℕ → List ℕ → ℕ → List ℕ → A) → List (List ℕ) → Option A
row_of make words =
    number_then (λ table. key_then (λ key. number_then (λ tag. body_then (λ body. ending (make table key tag body))))) words

-- the call with this word, and the words behind it
abbrev pub call_of : List ℕ → List (List ℕ) → Option Call
call_of verb words =
    if same verb (codes "begin") then ending Begin words
    else (if same verb (codes "commit") then ending Commit words
    else (if same verb (codes "rollback") then ending Rollback words
    else (if same verb (codes "get") then place_of Get words
    else (if same verb (codes "hold") then place_of Hold words
    else (if same verb (codes "delete") then place_of Delete words
    else (if same verb (codes "fetch") then number_then (λ ticket. ending (Fetch ticket)) words
    else (if same verb (codes "find") then number_then (λ table. number_then (λ tag. ending (Find table tag))) words
    else (if same verb (codes "scan") then number_then (λ table. ending (Scan table)) words
    else (if same verb (codes "insert") then row_of Insert words
    else (if same verb (codes "update") then row_of Update words else None))))))))))

-- what stands behind a session's letter: a peek or a call
abbrev pub session_line : ℕ → List (List ℕ) → Option Line
session_line session [] = None
session_line session (verb ∷ words) =
    if same verb (codes "peek") then place_of (Peek session) words
    else option_map (λ call. Step (ByCall session call)) (call_of verb words)

-- the session of one letter, `a` to `p`
abbrev pub session_of : List ℕ → Option ℕ
session_of [] = None
session_of (letter ∷ []) = if nat_le 97 letter && nat_le letter 112 then Some (letter - 97) else None
session_of (letter ∷ another ∷ letters) = None

-- a word that is a line by itself
abbrev pub word_line : List ℕ → Option Line
word_line word =
    if same word (codes "writer") then Some (Step (ByActivity Writer))
    else (if same word (codes "sweeper") then Some (Step (ByActivity Sweeper))
    else (if same word (codes "compactor") then Some (Step (ByActivity Compactor))
    else (if same word (codes "checkpointer") then Some (Step (ByActivity Checkpointer))
    else (if same word (codes "drain") then Some Drain
    else (if same word (codes "stat") then Some Stat else None)))))

abbrev pub line_of_words : List (List ℕ) → Option Line
line_of_words [] = None
line_of_words (word ∷ []) = word_line word
line_of_words (letter ∷ word ∷ words) = option_and_then (λ session. session_line session (word ∷ words)) (session_of letter)

-- the line that these bytes are, if they are one
unfoldable pub line_of : List ℕ → Option Line
line_of bytes = if nat_le (length bytes) longest_line then line_of_words (words_of bytes) else None

-- `pbxt` takes every line but a peek
abbrev pub is_run_line : Line → Bool
is_run_line (Peek session table key) = false
is_run_line _ = true

-- `pbxtw` takes the lines of sessions alone
abbrev pub is_work_line : Line → Bool
is_work_line (Step (ByCall session call)) = true
is_work_line (Peek session table key) = true
is_work_line _ = false

-- what `run` answers: a session's call, a step of the sweeper, or the numbers; a line that isn't built yet asks for nothing
abbrev pub request_of : Line → Option Request
request_of (Step (ByCall session call)) = Some (Ask (by session call))
request_of (Step (ByActivity Sweeper)) = Some (Ask sweep)
request_of Stat = Some Numbers
request_of _ = None

-- what a line asks for that `run` answers
unfoldable pub command_line : List ℕ → Option Request
command_line bytes = option_and_then request_of (line_of bytes)

abbrev pub onto : Option Request → List Request → List Request
onto None requests = []
onto (Some request) requests = request ∷ requests

-- what the lines before the first that is no command ask for
unfoldable pub requests_of : List (List ℕ) → List Request
requests_of [] = []
requests_of (bytes ∷ lines) = onto (command_line bytes) (requests_of lines)
