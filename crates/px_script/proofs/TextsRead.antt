-- The text of a line's value is read as that value.
use Rattle.std.proofs.Common.{◌≡◌, ℕ, ◌+◌, ◌-◌, ◌<◌, ◌≤◌, ◌==◌, ◌&&◌, Bool, true, false, leb, List, [], ◌∷◌, length, get_or, Some, None, option_and_then, option_map, not, refl, sym, ap, ◌∙◌, arith}
use Rattle.std.proofs.lemmas.Bool.{cond-true, and_from, le-leb, ne_eqb, and_parts, false_from_ne_true, eqb-true, not-true}
use Rattle.std.proofs.lemmas.Fmt.{decimal_is_IsNumeral}
use Rattle.std.proofs.lemmas.List.Elements.{All-from_recursion, All-from_get_or, All-cons, All-nil, All-weaker}
use Rattle.std.proofs.lemmas.List.Splits.{slice_split_none, slice_split_at}
use Rattle.std.proofs.lemmas.Slice.Eq.{bytes_eq-Decides}
use Rattle.std.proofs.lemmas.Str.Parse.{digit_at}
use Rattle.std.specs.Fmt.{decimal}
use Rattle.std.specs.List.{All, join_with_byte}
use Rattle.std.specs.Prelude.{codes}
use Rattle.hex.specs.Hex.{IsBytes, encode_lower, lower_digits}
use Rattle.hex.proofs.HexLemmas.{decode_of-encode_lower, length-encode_with}
use Rattle.px_calls.specs.declared.call.Call.{Call}
use Rattle.px_calls.specs.declared.call.Call.TheVariants.{Begin, Get, Hold, Fetch, Find, Scan, Insert, Update, Delete, Commit, Rollback}
use Rattle.px_calls.specs.declared.event.Activity.TheVariants.{Writer, Sweeper, Compactor, Checkpointer}
use Rattle.px_calls.specs.declared.event.Event.TheVariants.{Session as ByCall, Activity as ByActivity}
use Rattle.px_script.specs.declared.line.Line.{Line}
use Rattle.px_script.specs.declared.line.Line.TheVariants.{Step, Peek, Drain, Stat}
use Rattle.px_script.specs.Grammar.{greatest_word, line_of, line_of_words, longest_line, place_of, row_of, session_line, session_of}
use Rattle.px_script.specs.LineText.{CanBeCall, CanBeKey, CanBeLine, CanBePlace, CanBeRow, body_word, call_words, letter, line_text, line_words}
use Rattle.px_script.specs.Splits.{words_of}
use Rattle.px_script.specs.Words.{body_of, bytes_of, is_lower_digit, number_of, same}
use Rattle.px_script.proofs.HexWords.{bytes_of-read, body_of-dash, body_of-other, text-lower}
use Rattle.px_script.proofs.Numbers.{number_of-some}
use Rattle.px_script.proofs.Shorts.{line_of-short}

abbrev IsOther : ℕ → Type 0
IsOther byte = (byte == 32) ≡ false

abbrev NoSpace : List ℕ → Type 0
NoSpace word = All IsOther word

-- words without a space, joined by one, are cut into the same words
abbrev AllNoSpace : List (List ℕ) → Type 0
AllNoSpace [] = Unit {0}
AllNoSpace (word ∷ words) = NoSpace word × AllNoSpace words

words_of-join : (word : List ℕ) (words : List (List ℕ)) → NoSpace word → AllNoSpace words → words_of (join_with_byte 32 (word ∷ words)) ≡ word ∷ words
words_of-join word [] none others = slice_split_none (λ byte. byte == 32) word none
words_of-join word (next ∷ words) none others =
    slice_split_at (λ byte. byte == 32) word 32 (join_with_byte 32 (next ∷ words)) none refl
    ∙ ap (λ (rest : List (List ℕ)). word ∷ rest) (words_of-join next words others.0 others.1)

-- numbers
number-read : (n : ℕ) → n ≤ greatest_word → number_of greatest_word (decimal n) ≡ Some n
number-read n fits =
    let value = (decimal_is_IsNumeral n (omega arith)).1 in
    number_of-some greatest_word (decimal n) (omega (arith, value)) (sym (ap decimal value)) ∙ ap Some value

number-no_space : (n : ℕ) → n ≤ greatest_word → NoSpace (decimal n)
number-no_space n fits =
    All-from_get_or IsOther (decimal n) 0
    (λ k within.
    let digit = digit_at (decimal n) k (decimal_is_IsNumeral n (omega arith)).0.1 within in
    ne_eqb (get_or (decimal n) k 0) 32 (λ space. omega (arith, digit.0, space)))

-- keys and bodies
lower-no_space : (digit : ℕ) → is_lower_digit digit ≡ true → IsOther digit
lower-no_space digit lower = false_from_ne_true (digit == 32) (λ space. cc (sym lower ∙ ap is_lower_digit (eqb-true digit 32 space)))

key-read : (key : List ℕ) → CanBeKey key → bytes_of (encode_lower key) ≡ Some key
key-read key fits =
    bytes_of-read (encode_lower key) key (omega (arith, fits.some, length-encode_with lower_digits key)) (text-lower key fits.bytes) (decode_of-encode_lower key fits.bytes)

bytes-no_space : (bytes : List ℕ) → IsBytes bytes → NoSpace (encode_lower bytes)
bytes-no_space bytes fits = All-weaker (λ digit. is_lower_digit digit ≡ true) IsOther lower-no_space (encode_lower bytes) (text-lower bytes fits)

body-read : (body : List ℕ) → IsBytes body → body_of (body_word body) ≡ Some body
body-read [] fits = body_of-dash (codes "-") refl
body-read (byte ∷ body) fits =
    let text = encode_lower (byte ∷ body) in
    let two = length-encode_with lower_digits (byte ∷ body) in
    let other : same text (codes "-") ≡ false =
    false_from_ne_true (same text (codes "-")) (λ yes. omega (arith, two, ap length ((bytes_eq-Decides text (codes "-")).0 yes))) in
    body_of-other text other ∙ key-read (byte ∷ body) (record { some = omega arith; bytes = fits })

body-no_space : (body : List ℕ) → IsBytes body → NoSpace (body_word body)
body-no_space [] fits = All-from_recursion IsOther (codes "-") (refl, tt)
body-no_space (byte ∷ body) fits = bytes-no_space (byte ∷ body) fits

session-read : (session : ℕ) → session < 16 → session_of (letter session) ≡ Some session
session-read session fits =
    let back : 97 + session - 97 ≡ session = omega arith in
    cond-true (leb 97 (97 + session) && leb (97 + session) 112) (Some (97 + session - 97)) None
    (and_from (leb 97 (97 + session)) (leb (97 + session) 112) (le-leb 97 (97 + session) (omega arith)) (le-leb (97 + session) 112 (omega arith)))
    ∙ ap Some back

session-no_space : (session : ℕ) → NoSpace (letter session)
session-no_space session = All-from_recursion IsOther (letter session) (ne_eqb (97 + session) 32 (λ space. omega arith), tt)

-- places and rows
place-read : {A : Type 0} (make : ℕ → List ℕ → A) (table : ℕ) (key : List ℕ) → CanBePlace table key → place_of make (decimal table ∷ encode_lower key ∷ []) ≡ Some (make table key)
place-read make table key fits = rw (number-read table fits.table_fits, key-read key fits.key_fits) refl

row-read : {A : Type 0} (make : ℕ → List ℕ → ℕ → List ℕ → A) (table : ℕ) (key : List ℕ) (tag : ℕ) (body : List ℕ) → CanBeRow table key tag body → row_of make (decimal table ∷ encode_lower key ∷ decimal tag ∷ body_word body ∷ []) ≡ Some (make table key tag body)
row-read make table key tag body fits =
    rw (number-read table fits.place_fits.table_fits, key-read key fits.place_fits.key_fits, number-read tag fits.tag_fits, body-read body fits.body_fits) refl

-- a word of letters
abbrev has_no_space : List ℕ → Bool
has_no_space [] = true
has_no_space (byte ∷ bytes) = not (byte == 32) && has_no_space bytes

plain : (word : List ℕ) → has_no_space word ≡ true → NoSpace word
plain [] none = All-nil IsOther
plain (byte ∷ word) none =
    let parts = and_parts (not (byte == 32)) (has_no_space word) none in
    All-cons IsOther byte word (not-true (byte == 32) parts.0) (plain word parts.1)

place-no_space : (verb : List ℕ) (table : ℕ) (key : List ℕ) → has_no_space verb ≡ true → CanBePlace table key → AllNoSpace (verb ∷ decimal table ∷ encode_lower key ∷ [])
place-no_space verb table key none fits = (plain verb none, (number-no_space table fits.table_fits, (bytes-no_space key fits.key_fits.bytes, tt)))

row-no_space : (verb : List ℕ) (table : ℕ) (key : List ℕ) (tag : ℕ) (body : List ℕ) → has_no_space verb ≡ true → CanBeRow table key tag body → AllNoSpace (verb ∷ decimal table ∷ encode_lower key ∷ decimal tag ∷ body_word body ∷ [])
row-no_space verb table key tag body none fits =
    (plain verb none, (number-no_space table fits.place_fits.table_fits, (bytes-no_space key fits.place_fits.key_fits.bytes, (number-no_space tag fits.tag_fits, (body-no_space body fits.body_fits, tt)))))

call-no_space : (call : Call) → CanBeCall call → AllNoSpace (call_words call)
call-no_space Begin fits = (plain (codes "begin") refl, tt)
call-no_space (Get table key) fits = place-no_space (codes "get") table key refl fits
call-no_space (Hold table key) fits = place-no_space (codes "hold") table key refl fits
call-no_space (Fetch ticket) fits = (plain (codes "fetch") refl, (number-no_space ticket fits, tt))
call-no_space (Find table tag) fits = (plain (codes "find") refl, (number-no_space table fits.0, (number-no_space tag fits.1, tt)))
call-no_space (Scan table) fits = (plain (codes "scan") refl, (number-no_space table fits, tt))
call-no_space (Insert table key tag body) fits = row-no_space (codes "insert") table key tag body refl fits
call-no_space (Update table key tag body) fits = row-no_space (codes "update") table key tag body refl fits
call-no_space (Delete table key) fits = place-no_space (codes "delete") table key refl fits
call-no_space Commit fits = (plain (codes "commit") refl, tt)
call-no_space Rollback fits = (plain (codes "rollback") refl, tt)

line-no_space : (line : Line) → CanBeLine line → AllNoSpace (line_words line)
line-no_space (Step (ByCall session call)) fits = (session-no_space session, call-no_space call fits.1)
line-no_space (Step (ByActivity Writer)) fits = (plain (codes "writer") refl, tt)
line-no_space (Step (ByActivity Sweeper)) fits = (plain (codes "sweeper") refl, tt)
line-no_space (Step (ByActivity Compactor)) fits = (plain (codes "compactor") refl, tt)
line-no_space (Step (ByActivity Checkpointer)) fits = (plain (codes "checkpointer") refl, tt)
line-no_space (Peek session table key) fits = (session-no_space session, place-no_space (codes "peek") table key refl fits.1)
line-no_space Drain fits = (plain (codes "drain") refl, tt)
line-no_space Stat fits = (plain (codes "stat") refl, tt)

some_words : (line : Line) → 0 < length (line_words line)
some_words (Step (ByCall session call)) = omega arith
some_words (Step (ByActivity activity)) = omega arith
some_words (Peek session table key) = omega arith
some_words Drain = omega arith
some_words Stat = omega arith

words_of-text : (words : List (List ℕ)) → 0 < length words → AllNoSpace words → words_of (join_with_byte 32 words) ≡ words
words_of-text [] some none = absurd (omega arith)
words_of-text (word ∷ words) some none = words_of-join word words none.0 none.1

-- a session's letter and a call's words
behind : (session : ℕ) (verb : List ℕ) (words : List (List ℕ)) (line : Line) → session < 16 → session_line session (verb ∷ words) ≡ Some line → line_of_words (letter session ∷ verb ∷ words) ≡ Some line
behind session verb words line small read =
    ap (option_and_then (λ s. session_line s (verb ∷ words))) (session-read session small) ∙ read

step-read : (session : ℕ) (call : Call) → session < 16 → CanBeCall call → line_of_words (letter session ∷ call_words call) ≡ Some (Step (ByCall session call))
step-read session Begin small fits = behind session (codes "begin") [] (Step (ByCall session Begin)) small refl
step-read session (Get table key) small fits =
    behind session (codes "get") (decimal table ∷ encode_lower key ∷ []) (Step (ByCall session (Get table key))) small (ap (option_map (λ call. Step (ByCall session call))) (place-read Get table key fits))
step-read session (Hold table key) small fits =
    behind session (codes "hold") (decimal table ∷ encode_lower key ∷ []) (Step (ByCall session (Hold table key))) small (ap (option_map (λ call. Step (ByCall session call))) (place-read Hold table key fits))
step-read session (Fetch ticket) small fits =
    behind session (codes "fetch") (decimal ticket ∷ []) (Step (ByCall session (Fetch ticket))) small (rw (number-read ticket fits) refl)
step-read session (Find table tag) small fits =
    behind session (codes "find") (decimal table ∷ decimal tag ∷ []) (Step (ByCall session (Find table tag))) small (rw (number-read table fits.0, number-read tag fits.1) refl)
step-read session (Scan table) small fits =
    behind session (codes "scan") (decimal table ∷ []) (Step (ByCall session (Scan table))) small (rw (number-read table fits) refl)
step-read session (Insert table key tag body) small fits =
    behind session (codes "insert") (decimal table ∷ encode_lower key ∷ decimal tag ∷ body_word body ∷ []) (Step (ByCall session (Insert table key tag body))) small (ap (option_map (λ call. Step (ByCall session call))) (row-read Insert table key tag body fits))
step-read session (Update table key tag body) small fits =
    behind session (codes "update") (decimal table ∷ encode_lower key ∷ decimal tag ∷ body_word body ∷ []) (Step (ByCall session (Update table key tag body))) small (ap (option_map (λ call. Step (ByCall session call))) (row-read Update table key tag body fits))
step-read session (Delete table key) small fits =
    behind session (codes "delete") (decimal table ∷ encode_lower key ∷ []) (Step (ByCall session (Delete table key))) small (ap (option_map (λ call. Step (ByCall session call))) (place-read Delete table key fits))
step-read session Commit small fits = behind session (codes "commit") [] (Step (ByCall session Commit)) small refl
step-read session Rollback small fits = behind session (codes "rollback") [] (Step (ByCall session Rollback)) small refl

words-read : (line : Line) → CanBeLine line → line_of_words (line_words line) ≡ Some line
words-read (Step (ByCall session call)) fits = step-read session call fits.0 fits.1
words-read (Step (ByActivity Writer)) fits = refl
words-read (Step (ByActivity Sweeper)) fits = refl
words-read (Step (ByActivity Compactor)) fits = refl
words-read (Step (ByActivity Checkpointer)) fits = refl
words-read (Peek session table key) fits =
    behind session (codes "peek") (decimal table ∷ encode_lower key ∷ []) (Peek session table key) fits.0 (place-read (Peek session) table key fits.1)
words-read Drain fits = refl
words-read Stat fits = refl

pub text-read : (line : Line) → CanBeLine line → length (line_text line) ≤ longest_line → line_of (line_text line) ≡ Some line
text-read line fits short =
    line_of-short (line_text line) short
    ∙ ap line_of_words (words_of-text (line_words line) (some_words line) (line-no_space line fits))
    ∙ words-read line fits
