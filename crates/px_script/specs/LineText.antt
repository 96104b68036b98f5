-- The text of a line that a value has.
use Rattle.std.specs.Prelude.{ℕ, ◌+◌, ◌<◌, ◌≤◌, List, [], ◌∷◌, length, codes}
use Rattle.std.specs.Fmt.{decimal}
use Rattle.std.specs.List.{join_with_byte}
use Rattle.hex.specs.Hex.{IsBytes, encode_lower}
use Rattle.px_calls.specs.declared.call.Call.{Call}
use Rattle.px_calls.specs.declared.call.Call.TheVariants.{Begin, Get, Hold, Fetch, Find, Scan, Insert, Update, Delete, Commit, Rollback}
use Rattle.px_calls.specs.declared.event.Activity.{Activity}
use Rattle.px_calls.specs.declared.event.Activity.TheVariants.{Writer, Sweeper, Compactor, Checkpointer}
use Rattle.px_calls.specs.declared.event.Event.TheVariants.{Session as ByCall, Activity as ByActivity}
use Rattle.px_script.specs.declared.line.Line.{Line}
use Rattle.px_script.specs.declared.line.Line.TheVariants.{Step, Peek, Drain, Stat}
use Rattle.px_script.specs.Grammar.{greatest_word}

abbrev pub body_word : List ℕ → List ℕ
body_word [] = codes "-"
body_word (byte ∷ body) = encode_lower (byte ∷ body)

abbrev pub call_words : Call → List (List ℕ)
call_words Begin = codes "begin" ∷ []
call_words (Get table key) = codes "get" ∷ decimal table ∷ encode_lower key ∷ []
call_words (Hold table key) = codes "hold" ∷ decimal table ∷ encode_lower key ∷ []
call_words (Fetch ticket) = codes "fetch" ∷ decimal ticket ∷ []
call_words (Find table tag) = codes "find" ∷ decimal table ∷ decimal tag ∷ []
call_words (Scan table) = codes "scan" ∷ decimal table ∷ []
call_words (Insert table key tag body) = codes "insert" ∷ decimal table ∷ encode_lower key ∷ decimal tag ∷ body_word body ∷ []
call_words (Update table key tag body) = codes "update" ∷ decimal table ∷ encode_lower key ∷ decimal tag ∷ body_word body ∷ []
call_words (Delete table key) = codes "delete" ∷ decimal table ∷ encode_lower key ∷ []
call_words Commit = codes "commit" ∷ []
call_words Rollback = codes "rollback" ∷ []

abbrev pub activity_word : Activity → List ℕ
activity_word Writer = codes "writer"
activity_word Sweeper = codes "sweeper"
activity_word Compactor = codes "compactor"
activity_word Checkpointer = codes "checkpointer"

-- session 0 is `a`
abbrev pub letter : ℕ → List ℕ
letter session = (97 + session) ∷ []

abbrev pub line_words : Line → List (List ℕ)
line_words (Step (ByCall session call)) = letter session ∷ call_words call
line_words (Step (ByActivity activity)) = activity_word activity ∷ []
line_words (Peek session table key) = letter session ∷ codes "peek" ∷ decimal table ∷ encode_lower key ∷ []
line_words Drain = codes "drain" ∷ []
line_words Stat = codes "stat" ∷ []

-- its words with one space between two
abbrev pub line_text : Line → List ℕ
line_text line = join_with_byte 32 (line_words line)

-- A value that a line can have.
pub record CanBeKey (key : List ℕ) : Type 0 where
  pub some : 0 < length key
  pub bytes : IsBytes key

pub record CanBePlace (table : ℕ) (key : List ℕ) : Type 0 where
  pub table_fits : table ≤ greatest_word
  pub key_fits : CanBeKey key

pub record CanBeRow (table : ℕ) (key : List ℕ) (tag : ℕ) (body : List ℕ) : Type 0 where
  pub place_fits : CanBePlace table key
  pub tag_fits : tag ≤ greatest_word
  pub body_fits : IsBytes body

abbrev pub CanBeCall : Call → Type 0
CanBeCall Begin = Unit {0}
CanBeCall (Get table key) = CanBePlace table key
CanBeCall (Hold table key) = CanBePlace table key
CanBeCall (Fetch ticket) = ticket ≤ greatest_word
CanBeCall (Find table tag) = (table ≤ greatest_word) × (tag ≤ greatest_word)
CanBeCall (Scan table) = table ≤ greatest_word
CanBeCall (Insert table key tag body) = CanBeRow table key tag body
CanBeCall (Update table key tag body) = CanBeRow table key tag body
CanBeCall (Delete table key) = CanBePlace table key
CanBeCall Commit = Unit {0}
CanBeCall Rollback = Unit {0}

abbrev pub CanBeLine : Line → Type 0
CanBeLine (Step (ByCall session call)) = (session < 16) × CanBeCall call
CanBeLine (Step (ByActivity activity)) = Unit {0}
CanBeLine (Peek session table key) = (session < 16) × CanBePlace table key
CanBeLine Drain = Unit {0}
CanBeLine Stat = Unit {0}
