-- The lines of replies, and which of them acknowledge a commit.
use Rattle.std.proofs.Common.{◌≡◌, ◌⊎◌, ℕ, zero, suc, ◌-◌, ◌^◌, ◌<◌, ◌==◌, Bool, true, false, cond, List, [], ◌∷◌, ◌++◌, length, take, Option, Some, None, unwrap_or, refl, sym, ap, subst, ◌∙◌, append_assoc, arith, inl, inr, length-append}
use Rattle.std.specs.Prelude.{codes, flat_map}
use Rattle.std.specs.Fmt.{decimal}
use Rattle.std.proofs.lemmas.Bool.{cases_lt}
use Rattle.std.proofs.lemmas.Fmt.{decimal_is_IsNumeral}
use Rattle.std.proofs.lemmas.List.{take_all, take-append-le}
use Rattle.hex.specs.Hex.{encode_lower}
use Rattle.px_site.specs.Names.{file_text}
use Rattle.px_model.specs.declared.row.Row.{Row}
use Rattle.px_calls.specs.declared.reply.Reply.{Reply}
use Rattle.px_calls.specs.declared.reply.Reply.TheVariants.{Began, RowIs, NoRow, Held, Rows, Inserted, Updated, Deleted, Committed, EndedEmpty, RolledBack, NoTransaction, OpenAlready, LimitBegins, NoTable, LimitKey, LimitBody, LimitWrites, LimitTickets, NoTicket, Conflict, Duplicate, Missing, TableFull, Applied, Swept, Moved, Dropped, Noted, Synced, Saved, Trimmed, Idle}
use Rattle.px_calls.specs.Texts.{line, numbered, body_text, tag_and_body, found_line, reply_text}
use Rattle.px_engine.specs.declared.census.Census.{Census}
use Rattle.px_engine.specs.declared.census.Marks.{Marks}
use Rattle.px_engine.specs.Texts.{census_words, marks_words, stat_text}
use Rattle.px_script.specs.Lines.{complete_after, complete_lines, open_line}
use Rattle.px_script.specs.Words.{number_of}
use Rattle.px_script.proofs.Numbers.{number_of-some}
use Rattle.px_play.specs.Acknowledged.{committed_in, last_committed_in, acknowledged}
use Rattle.px_play.proofs.Parts.{lines_behind, open_behind, open_ended, open_nil, complete_nil, line_ended}
use Rattle.px_play.proofs.Words.{no_feed, no_feed_both, no_feed_front, no_line, decimal_no_feed, hex_no_feed, body_no_feed, file_no_feed}

-- ---- lines that acknowledge nothing

abbrev pub AreQuiet : List (List ℕ) → Type 0
AreQuiet [] = Unit {0}
AreQuiet (line ∷ lines) = (committed_in line ≡ None) × AreQuiet lines

quiet_both : (a b : List (List ℕ)) → AreQuiet a → AreQuiet b → AreQuiet (a ++ b)
quiet_both [] b first second = second
quiet_both (line ∷ a) b first second = (first.0, quiet_both a b first.1 second)

last_quiet : (last : ℕ) (lines : List (List ℕ)) → AreQuiet lines → last_committed_in last lines ≡ last
last_quiet last [] quiet = refl
last_quiet last (line ∷ lines) quiet = ap (λ (o : Option ℕ). last_committed_in (unwrap_or o last) lines) quiet.0 ∙ last_quiet last lines quiet.1

last_behind : (last : ℕ) (a b : List (List ℕ)) → last_committed_in last (a ++ b) ≡ last_committed_in (last_committed_in last a) b
last_behind last [] b = refl
last_behind last (line ∷ a) b = last_behind (unwrap_or (committed_in line) last) a b

-- the lines of a front are among those of the whole
quiet_way : (feed : Bool) (line : List ℕ) (x y z w : List (List ℕ)) → (AreQuiet x → AreQuiet y) → (AreQuiet z → AreQuiet w) → AreQuiet (cond feed (line ∷ x) z) → AreQuiet (cond feed (line ∷ y) w)
quiet_way true line x y z w first second quiet = (quiet.0, first quiet.1)
quiet_way false line x y z w first second quiet = second quiet

quiet_front : (line bytes : List ℕ) (few : ℕ) → AreQuiet (complete_after line bytes) → AreQuiet (complete_after line (take few bytes))
quiet_front line bytes zero quiet = tt
quiet_front line [] (suc few) quiet = tt
quiet_front line (byte ∷ bytes) (suc few) quiet =
    quiet_way (byte == 10) line (complete_after [] bytes) (complete_after [] (take few bytes)) (complete_after (line ++ byte ∷ []) bytes) (complete_after (line ++ byte ∷ []) (take few bytes))
    (quiet_front [] bytes few) (quiet_front (line ++ byte ∷ []) bytes few) quiet

-- ---- texts that acknowledge nothing

-- whole lines, none of which says that a commit was made
pub record IsQuiet (text : List ℕ) : Type 0 where
  pub whole : open_line text ≡ []
  pub quiet : AreQuiet (complete_lines text)

nothing_quiet : IsQuiet []
nothing_quiet = record { whole = open_nil; quiet = subst AreQuiet (sym complete_nil) tt }

text_both : (a b : List ℕ) → IsQuiet a → IsQuiet b → IsQuiet (a ++ b)
text_both a b first second = record {
  whole = open_behind a b first.whole ∙ second.whole;
  quiet = subst AreQuiet (sym (lines_behind a b first.whole)) (quiet_both (complete_lines a) (complete_lines b) first.quiet second.quiet);
}

pub line_quiet : (words : List ℕ) → no_feed words ≡ true → committed_in words ≡ None → IsQuiet (line words)
line_quiet words one none = record {
  whole = open_ended words;
  quiet = subst AreQuiet (sym (line_ended words (no_line words one))) (none, tt);
}

pub numbered_one : (word : List ℕ) (n : ℕ) → no_feed word ≡ true → no_feed (numbered word n) ≡ true
numbered_one word n one = no_feed_both (word ++ codes " ") (decimal n) (no_feed_both word (codes " ") one refl) (decimal_no_feed n)

tag_and_body_one : (row : Row) → no_feed (decimal row.tag ++ codes " " ++ body_text row.body) ≡ true
tag_and_body_one row =
    no_feed_both (decimal row.tag ++ codes " ") (body_text row.body) (no_feed_both (decimal row.tag) (codes " ") (decimal_no_feed row.tag) refl) (body_no_feed row.body)

row_quiet : (row : Row) → IsQuiet (codes "row " ++ tag_and_body row)
row_quiet row =
    let words : List ℕ = decimal row.tag ++ codes " " ++ body_text row.body in
    line_quiet (codes "row " ++ words) (no_feed_both (codes "row ") words refl (tag_and_body_one row)) refl

found_quiet : (row : Row) → IsQuiet (found_line row)
found_quiet row =
    let key : List ℕ = encode_lower row.key ++ codes " " in
    let words : List ℕ = decimal row.tag ++ codes " " ++ body_text row.body in
    let one : no_feed key ≡ true = no_feed_both (encode_lower row.key) (codes " ") (hex_no_feed row.key) refl in
    let parts : line (codes "at " ++ (key ++ words)) ≡ found_line row =
    ap (λ (b : List ℕ). codes "at " ++ b) (append_assoc key words (10 ∷ [])) in
    subst IsQuiet parts (line_quiet (codes "at " ++ (key ++ words)) (no_feed_both (codes "at ") (key ++ words) refl (no_feed_both key words one (tag_and_body_one row))) refl)

rows_quiet : (rows : List Row) → IsQuiet (flat_map found_line rows)
rows_quiet [] = nothing_quiet
rows_quiet (row ∷ rows) = text_both (found_line row) (flat_map found_line rows) (found_quiet row) (rows_quiet rows)

numbers_one : (front word : List ℕ) (n : ℕ) → no_feed front ≡ true → no_feed word ≡ true → no_feed (front ++ numbered word n) ≡ true
numbers_one front word n first one = no_feed_both front (numbered word n) first (numbered_one word n one)

census_one : (census : Census) → no_feed (census_words census) ≡ true
census_one census =
    let commits : List ℕ = numbered (codes "commits") census.commits in
    let opens : List ℕ = commits ++ numbered (codes " open") census.opens in
    let unswept : List ℕ = opens ++ numbered (codes " unswept") census.unswept in
    let variations : List ℕ = unswept ++ numbered (codes " variations") census.variations in
    let live : List ℕ = variations ++ numbered (codes " live") census.live in
    numbers_one live (codes " held") census.held
    (numbers_one variations (codes " live") census.live
    (numbers_one unswept (codes " variations") census.variations
    (numbers_one opens (codes " unswept") census.unswept
    (numbers_one commits (codes " open") census.opens (numbered_one (codes "commits") census.commits refl) refl) refl) refl) refl) refl

marks_one : (marks : Marks) → no_feed (marks_words marks) ≡ true
marks_one marks =
    let frames : List ℕ = numbered (codes " frames") marks.frames in
    let durable : List ℕ = frames ++ numbered (codes " durable") marks.durable in
    let applied : List ℕ = durable ++ numbered (codes " applied") marks.applied in
    numbers_one applied (codes " redo") marks.redo
    (numbers_one durable (codes " applied") marks.applied
    (numbers_one frames (codes " durable") marks.durable (numbered_one (codes " frames") marks.frames refl) refl) refl) refl

abbrev pub tells_commit : Reply → Bool
tells_commit (Committed n) = true
tells_commit _ = false

pub reply_quiet : (reply : Reply) → tells_commit reply ≡ false → IsQuiet (reply_text reply)
unfolding reply_text
reply_quiet (Began n) other = line_quiet (numbered (codes "began") n) (numbered_one (codes "began") n refl) refl
reply_quiet (RowIs row) other = row_quiet row
reply_quiet NoRow other = line_quiet (codes "none") refl refl
reply_quiet (Held k) other = line_quiet (numbered (codes "held") k) (numbered_one (codes "held") k refl) refl
reply_quiet (Rows rows) other =
    text_both (line (numbered (codes "found") (length rows))) (flat_map found_line rows)
    (line_quiet (numbered (codes "found") (length rows)) (numbered_one (codes "found") (length rows) refl) refl) (rows_quiet rows)
reply_quiet Inserted other = line_quiet (codes "inserted") refl refl
reply_quiet Updated other = line_quiet (codes "updated") refl refl
reply_quiet Deleted other = line_quiet (codes "deleted") refl refl
reply_quiet (Committed n) other = absurd cc
reply_quiet EndedEmpty other = line_quiet (codes "ended") refl refl
reply_quiet RolledBack other = line_quiet (codes "rolled back") refl refl
reply_quiet NoTransaction other = line_quiet (codes "no transaction") refl refl
reply_quiet OpenAlready other = line_quiet (codes "open already") refl refl
reply_quiet LimitBegins other = line_quiet (codes "limit begins") refl refl
reply_quiet NoTable other = line_quiet (codes "no table") refl refl
reply_quiet LimitKey other = line_quiet (codes "limit key") refl refl
reply_quiet LimitBody other = line_quiet (codes "limit body") refl refl
reply_quiet LimitWrites other = line_quiet (codes "limit writes") refl refl
reply_quiet LimitTickets other = line_quiet (codes "limit tickets") refl refl
reply_quiet NoTicket other = line_quiet (codes "no ticket") refl refl
reply_quiet (Conflict n) other = line_quiet (numbered (codes "conflict") n) (numbered_one (codes "conflict") n refl) refl
reply_quiet Duplicate other = line_quiet (codes "duplicate") refl refl
reply_quiet Missing other = line_quiet (codes "missing") refl refl
reply_quiet (TableFull n) other = line_quiet (numbered (codes "table full") n) (numbered_one (codes "table full") n refl) refl
reply_quiet (Applied n) other = line_quiet (numbered (codes "applied") n) (numbered_one (codes "applied") n refl) refl
reply_quiet (Swept n) other = line_quiet (numbered (codes "swept") n) (numbered_one (codes "swept") n refl) refl
reply_quiet (Moved k) other = line_quiet (numbered (codes "moved") k) (numbered_one (codes "moved") k refl) refl
reply_quiet (Dropped k) other = line_quiet (numbered (codes "dropped") k) (numbered_one (codes "dropped") k refl) refl
reply_quiet Noted other = line_quiet (codes "noted") refl refl
reply_quiet (Synced file) other = line_quiet (codes "synced " ++ file_text file) (no_feed_both (codes "synced ") (file_text file) refl (file_no_feed file)) refl
reply_quiet (Saved s) other = line_quiet (numbered (codes "saved") s) (numbered_one (codes "saved") s refl) refl
reply_quiet (Trimmed k) other = line_quiet (numbered (codes "trimmed") k) (numbered_one (codes "trimmed") k refl) refl
reply_quiet Idle other = line_quiet (codes "idle") refl refl

-- the line of the numbers
pub stat_quiet : (census : Census) (marks : Marks) → IsQuiet (stat_text census marks)
unfolding stat_text
stat_quiet census marks =
    line_quiet (codes "stat " ++ census_words census ++ marks_words marks)
    (no_feed_both (codes "stat " ++ census_words census) (marks_words marks) (no_feed_both (codes "stat ") (census_words census) refl (census_one census)) (marks_one marks)) refl

-- ---- what is acknowledged behind whole lines

acknowledged_behind : (before : ℕ) (so_far text : List ℕ) → open_line so_far ≡ [] → acknowledged before (so_far ++ text) ≡ last_committed_in (acknowledged before so_far) (complete_lines text)
unfolding acknowledged
acknowledged_behind before so_far text whole =
    ap (last_committed_in before) (lines_behind so_far text whole) ∙ last_behind before (complete_lines so_far) (complete_lines text)

-- a front of a quiet text acknowledges nothing
pub quiet_acknowledged : (before : ℕ) (so_far text : List ℕ) (few : ℕ) → open_line so_far ≡ [] → IsQuiet text → acknowledged before (so_far ++ take few text) ≡ acknowledged before so_far
unfolding complete_lines
quiet_acknowledged before so_far text few whole quiet =
    acknowledged_behind before so_far (take few text) whole
    ∙ last_quiet (acknowledged before so_far) (complete_lines (take few text)) (quiet_front [] text few quiet.quiet)

abbrev committed_words : ℕ → List ℕ
committed_words n = numbered (codes "committed") n

number_read : (n : ℕ) → n < 2 ^ 64 → number_of (2 ^ 64 - 1) (decimal n) ≡ Some n
number_read n fits =
    let value = (decimal_is_IsNumeral n fits).1 in
    number_of-some (2 ^ 64 - 1) (decimal n) (omega (arith, value, fits)) (sym (ap decimal value)) ∙ ap Some value

-- the line of a commit
pub committed_acknowledged : (before : ℕ) (so_far : List ℕ) (n : ℕ) → open_line so_far ≡ [] → n < 2 ^ 64 → acknowledged before (so_far ++ reply_text (Committed n)) ≡ n
unfolding reply_text
committed_acknowledged before so_far n whole fits =
    let words : List ℕ = committed_words n in
    acknowledged_behind before so_far (line words) whole
    ∙ ap (last_committed_in (acknowledged before so_far)) (line_ended words (no_line words (numbered_one (codes "committed") n refl)))
    ∙ ap (λ (o : Option ℕ). unwrap_or o (acknowledged before so_far)) (number_read n fits)

-- a front of it acknowledges nothing, or all
pub committed_front : (before : ℕ) (so_far : List ℕ) (n few : ℕ) → open_line so_far ≡ [] → n < 2 ^ 64
    → (acknowledged before (so_far ++ take few (reply_text (Committed n))) ≡ acknowledged before so_far) ⊎ (acknowledged before (so_far ++ take few (reply_text (Committed n))) ≡ n)
unfolding reply_text
committed_front before so_far n few whole fits =
    let words : List ℕ = committed_words n in
    elim (cases_lt (length words) few) [
      | inr part ↦
          let front : take few (line words) ≡ take few words = take-append-le few words (10 ∷ []) part in
          inl (ap (λ (b : List ℕ). acknowledged before (so_far ++ b)) front
          ∙ acknowledged_behind before so_far (take few words) whole
          ∙ ap (last_committed_in (acknowledged before so_far)) (no_line (take few words) (no_feed_front few words (numbered_one (codes "committed") n refl))))
      | inl all ↦
          let front : take few (line words) ≡ line words = take_all few (line words) (omega (arith, all, length-append words (10 ∷ []))) in
          inr (ap (λ (b : List ℕ). acknowledged before (so_far ++ b)) front ∙ committed_acknowledged before so_far n whole fits)
    ]

-- a reply that a commit was made, or another one
pub kind_of : (reply : Reply) → (tells_commit reply ≡ false) ⊎ ((n : ℕ) × (reply ≡ Committed n))
kind_of (Committed n) = inr (n, refl)
kind_of _ = inl refl

pub committed_whole : (n : ℕ) → open_line (reply_text (Committed n)) ≡ []
unfolding reply_text
committed_whole n = open_ended (committed_words n)

-- each reply's text is whole lines
pub reply_whole : (reply : Reply) → open_line (reply_text reply) ≡ []
reply_whole reply =
    elim (kind_of reply) [
      | inl other ↦ (reply_quiet reply other).whole
      | inr one ↦ subst (λ (r : Reply). open_line (reply_text r) ≡ []) (sym one.1) (committed_whole one.0)
    ]
