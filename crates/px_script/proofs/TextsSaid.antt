-- What is read as a value is the text of that value.
use Rattle.std.proofs.Common.{◌≡◌, ◌⊎◌, ℕ, ◌+◌, ◌-◌, ◌<◌, ◌≤◌, ◌&&◌, Bool, true, false, cond, leb, List, [], ◌∷◌, length, Option, Some, None, option_and_then, option_map, Result, Ok, Err, refl, sym, ap, ◌∙◌, arith, inl, inr}
use Rattle.std.proofs.lemmas.Bool.{leb-true}
use Rattle.std.proofs.lemmas.List.Splits.{join_with_byte-slice_split}
use Rattle.std.proofs.lemmas.Slice.Eq.{bytes_eq-Decides}
use Rattle.std.specs.Fmt.{decimal}
use Rattle.std.specs.List.{join_with_byte}
use Rattle.std.specs.Prelude.{codes}
use Rattle.std.specs.Str.Parse.{digits_value}
use Rattle.hex.specs.Hex.{IsBytes, decode_of, encode_lower}
use Rattle.hex.specs.declared.error.FromHexError.{FromHexError}
use Rattle.hex.proofs.HexLemmas.{decode_of-ok}
use Rattle.px_calls.specs.declared.call.Call.{Call}
use Rattle.px_calls.specs.declared.call.Call.TheVariants.{Begin, Get, Hold, Fetch, Find, Scan, Insert, Update, Delete, Commit, Rollback}
use Rattle.px_calls.specs.declared.event.Activity.TheVariants.{Writer, Sweeper, Compactor, Checkpointer}
use Rattle.px_calls.specs.declared.event.Event.TheVariants.{Session as ByCall, Activity as ByActivity}
use Rattle.px_script.specs.declared.line.Line.{Line}
use Rattle.px_script.specs.declared.line.Line.TheVariants.{Step, Peek, Drain, Stat}
use Rattle.px_script.specs.Grammar.{body_then, call_of, ending, greatest_word, key_then, line_of, line_of_words, longest_line, number_then, place_of, row_of, session_line, session_of, word_line, word_then}
use Rattle.px_script.specs.LineText.{CanBeCall, CanBeKey, CanBeLine, CanBePlace, CanBeRow, body_word, call_words, letter, line_text, line_words}
use Rattle.px_script.specs.Splits.{words_of}
use Rattle.px_script.specs.Words.{body_of, bytes_of, if_same_hex, number_of, same}

-- options and tests
some_same : {A : Type 0} (x y : A) → Some x ≡ Some y → x ≡ y
some_same x y h = cc h

either : {A : Type 0} (test : Bool) (x y z : A) → cond test x y ≡ z → ((test ≡ true) × (x ≡ z)) ⊎ ((test ≡ false) × (y ≡ z))
either true x y z h = inl (refl, h)
either false x y z h = inr (refl, h)

some_both : {A : Type 0} (a b : Bool) (value x : A) → cond (a && b) (Some value) None ≡ Some x → (a ≡ true) × (b ≡ true) × (value ≡ x)
some_both true true value x h = (refl, refl, some_same value x h)
some_both true false value x h = cc h
some_both false b value x h = cc h

then_some : {A B : Type 0} (next : A → Option B) (first : Option A) (y : B) → option_and_then next first ≡ Some y → (x : A) × (first ≡ Some x) × (next x ≡ Some y)
then_some next (Some x) y h = (x, refl, h)
then_some next None y h = cc h

map_some : {A B : Type 0} (make : A → B) (first : Option A) (y : B) → option_map make first ≡ Some y → (x : A) × (first ≡ Some x) × (make x ≡ y)
map_some make (Some x) y h = (x, refl, some_same (make x) y h)
map_some make None y h = cc h

-- a word that was tested for
chosen : {A : Type 0} (verb text : List ℕ) (x y : Option A) (z : A) → cond (same verb text) x y ≡ Some z → ((verb ≡ text) × (x ≡ Some z)) ⊎ (y ≡ Some z)
chosen verb text x y z h =
    elim (either (same verb text) x y (Some z) h) [
      | inl it ↦ inl ((bytes_eq-Decides verb text).0 it.0, it.1)
      | inr other ↦ inr other.1
    ]

-- the words of a line, one behind the other
one : (words rest : List (List ℕ)) (a x : List ℕ) → words ≡ a ∷ rest → rest ≡ [] → a ≡ x → words ≡ x ∷ []
one words rest a x cut none is = cc

two : (words rest left : List (List ℕ)) (a b x y : List ℕ) → words ≡ a ∷ rest → rest ≡ b ∷ left → left ≡ [] → a ≡ x → b ≡ y → words ≡ x ∷ y ∷ []
two words rest left a b x y cut cut_two none is is_two = cc

headed : (verb text : List ℕ) (words others : List (List ℕ)) → verb ≡ text → words ≡ others → verb ∷ words ≡ text ∷ others
headed verb text words others is same = cc

-- words of each kind
number-said : (most : ℕ) (word : List ℕ) (n : ℕ) → number_of most word ≡ Some n → (word ≡ decimal n) × (n ≤ most)
unfolding number_of
number-said most word n h =
    let value = digits_value 10 word in
    let p = some_both (leb value most) (same word (decimal value)) value n h in
    let below = leb-true value most p.0 in
    let is : value ≡ n = p.2 in
    ((bytes_eq-Decides word (decimal value)).0 p.1 ∙ ap decimal is, omega (arith, below, is))

key-decoded : (word key : List ℕ) (decoded : Result (List ℕ) FromHexError) → 0 < length word → decode_of word ≡ decoded → if_same_hex word decoded ≡ Some key → (word ≡ encode_lower key) × CanBeKey key
key-decoded word key (Err e) some d h = cc h
key-decoded word key (Ok bytes) some d h =
    elim (either (same word (encode_lower bytes)) (Some bytes) None (Some key) h) [
      | inl it ↦
          let is = some_same bytes key it.1 in
          let ok = decode_of-ok word bytes d in
          rw (← is) ((bytes_eq-Decides word (encode_lower bytes)).0 it.0, record { some = omega (arith, some, ok.2); bytes = ok.3 })
      | inr other ↦ cc other.1
    ]

key-said : (word key : List ℕ) → bytes_of word ≡ Some key → (word ≡ encode_lower key) × CanBeKey key
unfolding bytes_of
key-said [] key h = cc h
key-said (digit ∷ word) key h = key-decoded (digit ∷ word) key (decode_of (digit ∷ word)) (omega arith) refl h

body_word-some : (body : List ℕ) → 0 < length body → body_word body ≡ encode_lower body
body_word-some [] some = absurd (omega arith)
body_word-some (byte ∷ body) some = refl

body-said : (word body : List ℕ) → body_of word ≡ Some body → (word ≡ body_word body) × IsBytes body
unfolding body_of
body-said word body h =
    elim (chosen word (codes "-") (Some []) (bytes_of word) body h) [
      | inl it ↦ let is = some_same [] body it.1 in rw (← is) (it.0, λ k. omega arith)
      | inr other ↦
          let key = key-said word body other in
          (key.0 ∙ sym (body_word-some body key.1.some), key.1.bytes)
    ]

-- the first word, and what is read of the others
record First {A B : Type 0} (reading : List ℕ → Option A) (next : A → List (List ℕ) → Option B) (words : List (List ℕ)) (y : B) : Type 0 where
  word : List ℕ
  rest : List (List ℕ)
  value : A
  cut : words ≡ word ∷ rest
  read : reading word ≡ Some value
  others : next value rest ≡ Some y

first-said : {A B : Type 0} (reading : List ℕ → Option A) (next : A → List (List ℕ) → Option B) (words : List (List ℕ)) (y : B) → word_then reading next words ≡ Some y → First reading next words y
first-said reading next [] y h = cc h
first-said reading next (word ∷ rest) y h =
    let p = then_some (λ value. next value rest) (reading word) y h in record {
      word = word;
      rest = rest;
      value = p.0;
      cut = refl;
      read = p.1;
      others = p.2;
    }

ending-said : {A : Type 0} (value : A) (words : List (List ℕ)) (y : A) → ending value words ≡ Some y → (words ≡ []) × (value ≡ y)
ending-said value [] y h = (refl, some_same value y h)
ending-said value (word ∷ words) y h = cc h

record PlaceSaid {A : Type 0} (make : ℕ → List ℕ → A) (words : List (List ℕ)) (y : A) : Type 0 where
  table : ℕ
  key : List ℕ
  text : words ≡ decimal table ∷ encode_lower key ∷ []
  fits : CanBePlace table key
  made : make table key ≡ y

place-said : {A : Type 0} (make : ℕ → List ℕ → A) (words : List (List ℕ)) (y : A) → place_of make words ≡ Some y → PlaceSaid make words y
place-said {A} make words y h =
    let a = first-said (number_of greatest_word) (λ table. key_then (λ key. ending (make table key))) words y h in
    let b = first-said bytes_of (λ key. ending (make a.value key)) a.rest y a.others in
    let e = ending-said (make a.value b.value) b.rest y b.others in
    let table = number-said greatest_word a.word a.value a.read in
    let key = key-said b.word b.value b.read in record {
      table = a.value;
      key = b.value;
      text = two words a.rest b.rest a.word b.word (decimal a.value) (encode_lower b.value) a.cut b.cut e.0 table.0 key.0;
      fits = record { table_fits = table.1; key_fits = key.1 };
      made = e.1;
    }

record RowSaid {A : Type 0} (make : ℕ → List ℕ → ℕ → List ℕ → A) (words : List (List ℕ)) (y : A) : Type 0 where
  table : ℕ
  key : List ℕ
  tag : ℕ
  body : List ℕ
  text : words ≡ decimal table ∷ encode_lower key ∷ decimal tag ∷ body_word body ∷ []
  fits : CanBeRow table key tag body
  made : make table key tag body ≡ y

row-said : {A : Type 0} (make : ℕ → List ℕ → ℕ → List ℕ → A) (words : List (List ℕ)) (y : A) → row_of make words ≡ Some y → RowSaid make words y
row-said {A} make words y h =
    let a = first-said (number_of greatest_word) (λ table. key_then (λ key. number_then (λ tag. body_then (λ body. ending (make table key tag body))))) words y h in
    let b = first-said bytes_of (λ key. number_then (λ tag. body_then (λ body. ending (make a.value key tag body)))) a.rest y a.others in
    let c = first-said (number_of greatest_word) (λ tag. body_then (λ body. ending (make a.value b.value tag body))) b.rest y b.others in
    let d = first-said body_of (λ body. ending (make a.value b.value c.value body)) c.rest y c.others in
    let e = ending-said (make a.value b.value c.value d.value) d.rest y d.others in
    let table = number-said greatest_word a.word a.value a.read in
    let key = key-said b.word b.value b.read in
    let tag = number-said greatest_word c.word c.value c.read in
    let body = body-said d.word d.value d.read in record {
      table = a.value;
      key = b.value;
      tag = c.value;
      body = d.value;
      text = a.cut ∙ headed a.word (decimal a.value) a.rest (encode_lower b.value ∷ decimal c.value ∷ body_word d.value ∷ []) table.0
          (b.cut ∙ headed b.word (encode_lower b.value) b.rest (decimal c.value ∷ body_word d.value ∷ []) key.0
          (two b.rest c.rest d.rest c.word d.word (decimal c.value) (body_word d.value) c.cut d.cut e.0 tag.0 body.0));
      fits = record { place_fits = record { table_fits = table.1; key_fits = key.1 }; tag_fits = tag.1; body_fits = body.1 };
      made = e.1;
    }

-- calls
abbrev Says : List ℕ → List (List ℕ) → Call → Type 0
Says verb words call = (verb ∷ words ≡ call_words call) × CanBeCall call

fetch-said : (verb : List ℕ) (words : List (List ℕ)) (call : Call) → verb ≡ codes "fetch" → number_then (λ ticket. ending (Fetch ticket)) words ≡ Some call → Says verb words call
fetch-said verb words call is h =
    let a = first-said (number_of greatest_word) (λ ticket. ending (Fetch ticket)) words call h in
    let e = ending-said (Fetch a.value) a.rest call a.others in
    let n = number-said greatest_word a.word a.value a.read in
    rw (← e.1) (headed verb _ words (decimal a.value ∷ []) is (one words a.rest a.word (decimal a.value) a.cut e.0 n.0), n.1)

scan-said : (verb : List ℕ) (words : List (List ℕ)) (call : Call) → verb ≡ codes "scan" → number_then (λ table. ending (Scan table)) words ≡ Some call → Says verb words call
scan-said verb words call is h =
    let a = first-said (number_of greatest_word) (λ table. ending (Scan table)) words call h in
    let e = ending-said (Scan a.value) a.rest call a.others in
    let n = number-said greatest_word a.word a.value a.read in
    rw (← e.1) (headed verb _ words (decimal a.value ∷ []) is (one words a.rest a.word (decimal a.value) a.cut e.0 n.0), n.1)

find-said : (verb : List ℕ) (words : List (List ℕ)) (call : Call) → verb ≡ codes "find" → number_then (λ table. number_then (λ tag. ending (Find table tag))) words ≡ Some call → Says verb words call
find-said verb words call is h =
    let a = first-said (number_of greatest_word) (λ table. number_then (λ tag. ending (Find table tag))) words call h in
    let b = first-said (number_of greatest_word) (λ tag. ending (Find a.value tag)) a.rest call a.others in
    let e = ending-said (Find a.value b.value) b.rest call b.others in
    let table = number-said greatest_word a.word a.value a.read in
    let tag = number-said greatest_word b.word b.value b.read in
    rw (← e.1)
    (headed verb (codes "find") words (decimal a.value ∷ decimal b.value ∷ []) is (two words a.rest b.rest a.word b.word (decimal a.value) (decimal b.value) a.cut b.cut e.0 table.0 tag.0), (table.1, tag.1))

call-said : (verb : List ℕ) (words : List (List ℕ)) (call : Call) → call_of verb words ≡ Some call → Says verb words call
call-said verb words call h =
    elim (chosen verb (codes "begin") _ _ call h) [
      | inl it ↦ let e = ending-said Begin words call it.1 in rw (← e.1) (headed verb _ words [] it.0 e.0, tt)
      | inr h1 ↦ elim (chosen verb (codes "commit") _ _ call h1) [
        | inl it ↦ let e = ending-said Commit words call it.1 in rw (← e.1) (headed verb _ words [] it.0 e.0, tt)
        | inr h2 ↦ elim (chosen verb (codes "rollback") _ _ call h2) [
          | inl it ↦ let e = ending-said Rollback words call it.1 in rw (← e.1) (headed verb _ words [] it.0 e.0, tt)
          | inr h3 ↦ elim (chosen verb (codes "get") _ _ call h3) [
            | inl it ↦ let p = place-said Get words call it.1 in rw (← p.made) (headed verb _ words _ it.0 p.text, p.fits)
            | inr h4 ↦ elim (chosen verb (codes "hold") _ _ call h4) [
              | inl it ↦ let p = place-said Hold words call it.1 in rw (← p.made) (headed verb _ words _ it.0 p.text, p.fits)
              | inr h5 ↦ elim (chosen verb (codes "delete") _ _ call h5) [
                | inl it ↦ let p = place-said Delete words call it.1 in rw (← p.made) (headed verb _ words _ it.0 p.text, p.fits)
                | inr h6 ↦ elim (chosen verb (codes "fetch") _ _ call h6) [
                  | inl it ↦ fetch-said verb words call it.0 it.1
                  | inr h7 ↦ elim (chosen verb (codes "find") _ _ call h7) [
                    | inl it ↦ find-said verb words call it.0 it.1
                    | inr h8 ↦ elim (chosen verb (codes "scan") _ _ call h8) [
                      | inl it ↦ scan-said verb words call it.0 it.1
                      | inr h9 ↦ elim (chosen verb (codes "insert") _ _ call h9) [
                        | inl it ↦ let p = row-said Insert words call it.1 in rw (← p.made) (headed verb _ words _ it.0 p.text, p.fits)
                        | inr h10 ↦ elim (chosen verb (codes "update") _ _ call h10) [
                          | inl it ↦ let p = row-said Update words call it.1 in rw (← p.made) (headed verb _ words _ it.0 p.text, p.fits)
                          | inr refused ↦ cc refused
                        ]
                      ]
                    ]
                  ]
                ]
              ]
            ]
          ]
        ]
      ]
    ]

-- lines
session-said : (word : List ℕ) (session : ℕ) → session_of word ≡ Some session → (word ≡ letter session) × (session < 16)
session-said [] session h = cc h
session-said (byte ∷ []) session h =
    let p = some_both (leb 97 byte) (leb byte 112) (byte - 97) session h in
    let low = leb-true 97 byte p.0 in
    let high = leb-true byte 112 p.1 in
    let is : byte - 97 ≡ session = p.2 in
    let whole : byte ≡ 97 + session = omega (arith, low, is) in
    (ap (λ (first : ℕ). first ∷ []) whole, omega (arith, high, whole))
session-said (byte ∷ another ∷ bytes) session h = cc h

abbrev SaysLine : List (List ℕ) → Line → Type 0
SaysLine words line = (words ≡ line_words line) × CanBeLine line

behind-said : (word : List ℕ) (session : ℕ) (verb : List ℕ) (words : List (List ℕ)) (line : Line) → word ≡ letter session → session < 16 → session_line session (verb ∷ words) ≡ Some line → SaysLine (word ∷ verb ∷ words) line
behind-said word session verb words line is small h =
    elim (chosen verb (codes "peek") _ _ line h) [
      | inl it ↦
          let p = place-said (Peek session) words line it.1 in
          rw (← p.made) (headed word (letter session) (verb ∷ words) _ is (headed verb (codes "peek") words _ it.0 p.text), (small, p.fits))
      | inr other ↦
          let m = map_some (λ call. Step (ByCall session call)) (call_of verb words) line other in
          let c = call-said verb words m.0 m.1 in
          rw (← m.2)
          (ap (λ (first : List ℕ). first ∷ verb ∷ words) is ∙ ap (λ (others : List (List ℕ)). letter session ∷ others) c.0, (small, c.1))
    ]

word-said : (word : List ℕ) (line : Line) → word_line word ≡ Some line → SaysLine (word ∷ []) line
word-said word line h =
    elim (chosen word (codes "writer") _ _ line h) [
      | inl it ↦ let e = some_same (Step (ByActivity Writer)) line it.1 in rw (← e) (ap (λ (w : List ℕ). w ∷ []) it.0, tt)
      | inr h1 ↦ elim (chosen word (codes "sweeper") _ _ line h1) [
        | inl it ↦ let e = some_same (Step (ByActivity Sweeper)) line it.1 in rw (← e) (ap (λ (w : List ℕ). w ∷ []) it.0, tt)
        | inr h2 ↦ elim (chosen word (codes "compactor") _ _ line h2) [
          | inl it ↦ let e = some_same (Step (ByActivity Compactor)) line it.1 in rw (← e) (ap (λ (w : List ℕ). w ∷ []) it.0, tt)
          | inr h3 ↦ elim (chosen word (codes "checkpointer") _ _ line h3) [
            | inl it ↦ let e = some_same (Step (ByActivity Checkpointer)) line it.1 in rw (← e) (ap (λ (w : List ℕ). w ∷ []) it.0, tt)
            | inr h4 ↦ elim (chosen word (codes "drain") _ _ line h4) [
              | inl it ↦ let e = some_same Drain line it.1 in rw (← e) (ap (λ (w : List ℕ). w ∷ []) it.0, tt)
              | inr h5 ↦ elim (chosen word (codes "stat") _ _ line h5) [
                | inl it ↦ let e = some_same Stat line it.1 in rw (← e) (ap (λ (w : List ℕ). w ∷ []) it.0, tt)
                | inr refused ↦ cc refused
              ]
            ]
          ]
        ]
      ]
    ]

words-said : (words : List (List ℕ)) (line : Line) → line_of_words words ≡ Some line → SaysLine words line
words-said [] line h = cc h
words-said (word ∷ []) line h = word-said word line h
words-said (word ∷ verb ∷ words) line h =
    let p = then_some (λ session. session_line session (verb ∷ words)) (session_of word) line h in
    let session = session-said word p.0 p.1 in
    behind-said word p.0 verb words line session.0 session.1 p.2

pub text-said : (bytes : List ℕ) (line : Line) → line_of bytes ≡ Some line → (bytes ≡ line_text line) × CanBeLine line
unfolding line_of
text-said bytes line h =
    elim (either (leb (length bytes) longest_line) (line_of_words (words_of bytes)) None (Some line) h) [
      | inl it ↦
          let says = words-said (words_of bytes) line it.1 in
          (sym (join_with_byte-slice_split 32 bytes) ∙ ap (join_with_byte 32) says.0, says.1)
      | inr other ↦ cc other.1
    ]
