-- How a script is read on, and where a run ends by what was read.
use Rattle.std.proofs.Common.{◌≡◌, ◌≢◌, ◌⊎◌, ℕ, ◌+◌, ◌<◌, ◌≤◌, true, false, List, [], ◌∷◌, ◌++◌, length, Some, None, refl, sym, ap, subst, ◌∙◌, append_assoc, arith, inl, inr, length-append}
use Rattle.std.specs.Prelude.{slice_get}
use Rattle.std.proofs.lemmas.Bool.{true≢false}
use Rattle.std.proofs.lemmas.List.{append-nil, nil_from_length}
use Rattle.px_engine.specs.Requests.{Request}
use Rattle.px_calls.specs.declared.status.Status.TheVariants.{Done, BadLine, SourceFault, OutOfMemory, TooLong}
use Rattle.px_script.specs.declared.lines.NextLine.TheVariants.{Line, End, Fault as ReadFault, TooLong as TooMuch, LongLine}
use Rattle.px_script.specs.Grammar.{command_line, longest_line, requests_of}
use Rattle.px_script.specs.Lines.{complete_lines, open_line, last_line, lines_at_end}
use Rattle.px_script.proofs.LineFeeds.{lines-last}
use Rattle.px_script.specs.Progress.{Progress, HasCause, IsOpen, IsOverlong as IsOverlongHeld, Moves, TakesLine, ahead, longest_input, longest_piece, nothing_read}
use Rattle.px_play.specs.Input.{AreCommands, EndsAt, IsBetween, IsFirstBad, TakesLittle, script_of}
use Rattle.px_play.specs.Reading.{IsAsked, IsOver, IsRead, MayEnd}
use Rattle.px_play.proofs.Parts.{lines_behind, open_behind, at_end_whole, at_end_behind, open_ended, open_nil, at_end_nil, line_ended, open_long, open_single, first_long}
use Rattle.px_play.proofs.Asked.{requests_nil, requests_behind, commands_more, first_bad, request_at, long_none}

-- ---- what a look at the input changed

-- the counts of a reader, before and after a look for a line
pub record Looks (old new : Progress) (left left_now : List ℕ) : Type 0 where
  pub counted : new.count + length left_now ≡ old.count + length left
  pub within : new.count ≤ longest_input
  pub at_end : new.ended ≡ true → left_now ≡ []
  pub stays : old.ended ≡ true → new.ended ≡ true
  pub below : new.ended ≡ true → new.count < longest_input
  pub little : length new.held ≤ longest_line + longest_piece

-- what was taken of the input: the lines that were handed out, and the bytes that are held
record Takes (input : List ℕ) (progress : Progress) (left : List ℕ) (taken : List ℕ) : Type 0 where
  in_order : input ≡ taken ++ left
  size : length taken ≡ progress.count

taken_of : (input handed : List ℕ) (progress : Progress) (left : List ℕ) → input ≡ handed ++ ahead progress left → progress.count + length left ≡ length input → Takes input progress left (handed ++ progress.held)
taken_of input handed progress left in_order counted =
    let whole : input ≡ handed ++ progress.held ++ left = in_order ∙ sym (append_assoc handed progress.held left) in
    record { in_order = whole; size = omega (arith, counted, ap length whole, length-append (handed ++ progress.held) left) }

-- no line was handed out, and so all is as it was
record Still (input : List ℕ) (new : Progress) (left_now handed : List ℕ) (lines : ℕ) : Type 0 where
  takes : Takes input new left_now (handed ++ new.held)
  commands : AreCommands (complete_lines handed)
  count : length (complete_lines handed) ≡ lines
  complete : complete_lines (handed ++ new.held) ≡ complete_lines handed ++ complete_lines new.held
  at_end : lines_at_end (handed ++ new.held) ≡ lines_at_end handed ++ lines_at_end new.held
  last : open_line (handed ++ new.held) ≡ open_line new.held

counts_on : {input : List ℕ} {old new : Progress} {left left_now : List ℕ} {lines : ℕ} → IsRead input old left lines → Looks old new left left_now → new.count + length left_now ≡ length input
counts_on read looks = looks.counted ∙ read.counted

still : {input : List ℕ} {old new : Progress} {left left_now : List ℕ} {lines : ℕ} (read : IsRead input old left lines) → Looks old new left left_now → ahead new left_now ≡ ahead old left → open_line read.handed ≡ []
    → Still input new left_now read.handed lines
still {input} {old} {new} {left} {left_now} {lines} read looks same cut =
    let whole : lines_at_end read.handed ≡ complete_lines read.handed = at_end_whole read.handed cut in
    record {
      takes = taken_of input read.handed new left_now (read.in_order ∙ ap (λ (rest : List ℕ). read.handed ++ rest) (sym same)) (counts_on read looks);
      commands = subst AreCommands whole read.commands;
      count = ap length (sym whole) ∙ read.count;
      complete = lines_behind read.handed new.held cut;
      at_end = at_end_behind read.handed new.held cut;
      last = open_behind read.handed new.held cut;
    }

little_so_far : {input : List ℕ} {old new : Progress} {left left_now : List ℕ} {lines : ℕ} (read : IsRead input old left lines) → Looks old new left left_now → Still input new left_now read.handed lines → TakesLittle input left_now lines
little_so_far {input} {old} {new} read looks s = record { answered = read.handed; beyond = new.held; in_order = s.takes.in_order; count = read.count; little = omega (arith, looks.little) }

read_so_far : {input : List ℕ} {new : Progress} {left_now handed : List ℕ} {lines : ℕ} → Still input new left_now handed lines → lines ≤ length (lines_at_end (handed ++ new.held))
read_so_far {input} {new} {left_now} {handed} {lines} s =
    omega (arith, s.count, ap length s.complete, length-append (complete_lines handed) (complete_lines new.held), length-append (complete_lines (handed ++ new.held)) (last_line (open_line (handed ++ new.held))))

-- ---- the input ends here

-- the last line had no line feed, and nothing is left
over_ends : {input : List ℕ} {old new : Progress} {left left_now : List ℕ} {lines : ℕ} (read : IsRead input old left lines) → Looks old new left left_now → ahead new left_now ≡ [] → new.ended ≡ true → ahead new left_now ≡ ahead old left
    → MayEnd input left_now lines Done
over_ends {input} {old} {new} {left} {left_now} {lines} read looks none ended same =
    let nothing : left_now ≡ [] = looks.at_end ended in
    let all : input ≡ read.handed ++ left_now =
    read.in_order ∙ ap (λ (rest : List ℕ). read.handed ++ rest) (sym same ∙ none ∙ sym nothing) in
    let size : length read.handed ≡ new.count = omega (arith, counts_on read looks, ap length all, length-append read.handed left_now) in
    record {
      taken = read.handed;
      in_order = all;
      within = omega (arith, size, looks.within);
      fits = (record { nothing_left = nothing; below = omega (arith, size, looks.below ended) }, read.commands);
      read_before = omega (arith, read.count);
      counts = sym read.count;
      little = record {
        answered = read.handed;
        beyond = [];
        in_order = all ∙ ap (λ (front : List ℕ). front ++ left_now) (sym (append-nil read.handed));
        count = read.count;
        little = omega arith;
      };
    }

pub end_ends : {input : List ℕ} {old new : Progress} {left left_now : List ℕ} {lines : ℕ} → IsRead input old left lines → Looks old new left left_now → HasCause new End → Moves (ahead old left) (ahead new left_now) new End
    → MayEnd input left_now lines Done
end_ends {input} {old} {new} {left} {left_now} read looks cause same =
    over_ends read looks (ap (λ (held : List ℕ). held ++ left_now) cause.0 ∙ looks.at_end cause.1) cause.1 same

-- ---- a read failed, or all that may be read was

between : {input : List ℕ} {new : Progress} {left_now handed : List ℕ} {lines : ℕ} → Still input new left_now handed lines → IsOpen new.held → IsBetween (handed ++ new.held)
between {input} {new} {left_now} {handed} s open_held =
    let only : complete_lines (handed ++ new.held) ≡ complete_lines handed = s.complete ∙ ap (λ (lines : List (List ℕ)). complete_lines handed ++ lines) open_held.incomplete ∙ append-nil (complete_lines handed) in
    record {
      commands = subst AreCommands (sym only) s.commands;
      short_enough = omega (arith, ap length s.last, open_long new.held, open_held.short);
    }

answered_before : {input : List ℕ} {new : Progress} {left_now handed : List ℕ} {lines : ℕ} → Still input new left_now handed lines → IsOpen new.held → lines ≡ length (complete_lines (handed ++ new.held))
answered_before {input} {new} {left_now} {handed} s open_held =
    omega (arith, s.count, ap length s.complete, length-append (complete_lines handed) (complete_lines new.held), ap length open_held.incomplete)

going_cut : {input : List ℕ} {old new : Progress} {left left_now : List ℕ} {lines : ℕ} (read : IsRead input old left lines) → Looks old new left left_now → new.ended ≡ false → open_line read.handed ≡ []
going_cut {input} {old} {new} {left} read looks going = by_cut read.cut
  where
    by_cut : (open_line read.handed ≡ []) ⊎ IsOver old left → open_line read.handed ≡ []
    by_cut (inl cut) = cut
    by_cut (inr over) = absurd (true≢false (sym (looks.stays over.ended) ∙ going))

pub fault_ends : {input : List ℕ} {old new : Progress} {left left_now : List ℕ} {lines : ℕ} → IsRead input old left lines → Looks old new left left_now → HasCause new ReadFault → ahead new left_now ≡ ahead old left
    → MayEnd input left_now lines SourceFault
fault_ends {input} {old} {new} {left} {left_now} {lines} read looks cause same =
    let s = still read looks same (going_cut read looks cause.going) in
    record {
      taken = read.handed ++ new.held;
      in_order = s.takes.in_order;
      within = omega (arith, s.takes.size, looks.within);
      fits = (omega (arith, s.takes.size, cause.below), between s cause.open_line);
      read_before = read_so_far s;
      counts = answered_before s cause.open_line;
      little = little_so_far read looks s;
    }

pub much_ends : {input : List ℕ} {old new : Progress} {left left_now : List ℕ} {lines : ℕ} → IsRead input old left lines → Looks old new left left_now → HasCause new TooMuch → ahead new left_now ≡ ahead old left
    → MayEnd input left_now lines TooLong
much_ends {input} {old} {new} {left} {left_now} {lines} read looks cause same =
    let s = still read looks same (going_cut read looks cause.2) in
    record {
      taken = read.handed ++ new.held;
      in_order = s.takes.in_order;
      within = omega (arith, s.takes.size, looks.within);
      fits = (omega (arith, s.takes.size, cause.1), between s cause.0);
      read_before = read_so_far s;
      counts = answered_before s cause.0;
      little = little_so_far read looks s;
    }

-- ---- memory was wanted

pub short_ends : {input : List ℕ} {old new : Progress} {left left_now : List ℕ} {lines : ℕ} → IsRead input old left lines → Looks old new left left_now → ahead new left_now ≡ ahead old left
    → MayEnd input left_now lines OutOfMemory
short_ends {input} {old} {new} {left} {left_now} {lines} read looks same = by_cut read.cut
  where
    by_cut : (open_line read.handed ≡ []) ⊎ IsOver old left → MayEnd input left_now lines OutOfMemory
    by_cut (inl cut) =
        let s = still read looks same cut in
        record {
          taken = read.handed ++ new.held;
          in_order = s.takes.in_order;
          within = omega (arith, s.takes.size, looks.within);
          fits = tt;
          read_before = read_so_far s;
          counts = tt;
          little = little_so_far read looks s;
        }
    by_cut (inr over) =
        let done = over_ends read looks (same ∙ over.nothing_ahead) (looks.stays over.ended) same in
        record { taken = done.taken; in_order = done.in_order; within = done.within; fits = tt; read_before = done.read_before; counts = tt; little = done.little }

-- ---- a line that is too long

some_cut : {input : List ℕ} {old : Progress} {left : List ℕ} {lines : ℕ} (read : IsRead input old left lines) → 0 < length (ahead old left) → open_line read.handed ≡ []
some_cut {input} {old} {left} read some = by_cut read.cut
  where
    by_cut : (open_line read.handed ≡ []) ⊎ IsOver old left → open_line read.handed ≡ []
    by_cut (inl cut) = cut
    by_cut (inr over) = absurd (omega (arith, some, ap length over.nothing_ahead))

long_fits : {input : List ℕ} {new : Progress} {left_now handed : List ℕ} {lines : ℕ} → Still input new left_now handed lines → IsOverlongHeld new.held → (first : List (List ℕ)) → complete_lines new.held ≡ first
    → EndsAt (handed ++ new.held) left_now (BadLine (lines + 1))
long_fits {input} {new} {left_now} {handed} {lines} s long [] none =
    let only : complete_lines (handed ++ new.held) ≡ complete_lines handed = s.complete ∙ ap (λ (found : List (List ℕ)). complete_lines handed ++ found) none ∙ append-nil (complete_lines handed) in
    inr (inl (record {
      commands = subst AreCommands (sym only) s.commands;
      too_long = omega (arith, long.long, ap length s.last, ap length (open_single new.held none));
      number = omega (arith, s.count, ap length only);
    }))
long_fits {input} {new} {left_now} {handed} {lines} s long (line ∷ others) some =
    let is_long : longest_line + 1 ≤ length line = first_long (longest_line + 1) new.held line others long.incomplete (omega (arith, long.long)) some in
    let bad = first_bad (complete_lines handed) line others s.commands (long_none line (omega (arith, is_long))) in
    let whole : complete_lines handed ++ line ∷ others ≡ complete_lines (handed ++ new.held) = sym (s.complete ∙ ap (λ (found : List (List ℕ)). complete_lines handed ++ found) some) in
    inl (subst (λ (k : ℕ). IsFirstBad (complete_lines (handed ++ new.held)) (k + 1)) s.count
    (subst (λ (found : List (List ℕ)). IsFirstBad found (length (complete_lines handed) + 1)) whole bad))

pub long_ends : {input : List ℕ} {old new : Progress} {left left_now : List ℕ} {lines : ℕ} → IsRead input old left lines → Looks old new left left_now → HasCause new LongLine → ahead new left_now ≡ ahead old left
    → MayEnd input left_now lines (BadLine (lines + 1))
long_ends {input} {old} {new} {left} {left_now} {lines} read looks cause same =
    let some : 0 < length (ahead old left) = omega (arith, ap length same, length-append new.held left_now, cause.long) in
    let s = still read looks same (some_cut read some) in
    record {
      taken = read.handed ++ new.held;
      in_order = s.takes.in_order;
      within = omega (arith, s.takes.size, looks.within);
      fits = long_fits s cause (complete_lines new.held) refl;
      read_before = read_so_far s;
      counts = refl;
      little = little_so_far read looks s;
    }

-- ---- a line

-- a line was taken, with these bytes: itself and its line feed, or itself at the end
record Took (progress : Progress) (left_now bytes : List ℕ) : Type 0 where
  at_end : lines_at_end bytes ≡ progress.line ∷ []
  some : 0 < length bytes
  few : length bytes ≤ longest_line + 1
  cut : (open_line bytes ≡ []) ⊎ IsOver progress left_now

took : {before : List ℕ} {new : Progress} {left_now : List ℕ} → IsOpen new.line → TakesLine before (ahead new left_now) new → (bytes : List ℕ) × (before ≡ bytes ++ ahead new left_now) × Took new left_now bytes
took {before} {new} {left_now} fits (inl line) =
    let whole : lines_at_end (new.line ++ 10 ∷ []) ≡ new.line ∷ [] = at_end_whole (new.line ++ 10 ∷ []) (open_ended new.line) ∙ line_ended new.line fits.incomplete in (
      new.line ++ 10 ∷ [],
      line ∙ sym (append_assoc new.line (10 ∷ []) (ahead new left_now)),
      record {
        at_end = whole;
        some = omega (arith, length-append new.line (10 ∷ []));
        few = omega (arith, fits.short, length-append new.line (10 ∷ []));
        cut = inl (open_ended new.line);
      },
    )
took {before} {new} {left_now} fits (inr last) = (
  new.line,
  last.0 ∙ sym (append-nil new.line) ∙ ap (λ (rest : List ℕ). new.line ++ rest) (sym last.1),
  record {
    at_end = lines-last new.line fits.incomplete last.2;
    some = some_length new.line last.2;
    few = omega (arith, fits.short);
    cut = inr (record { nothing_ahead = last.1; ended = last.3 });
  },
)
  where
    some_length : (l : List ℕ) → l ≢ [] → 0 < length l
    some_length [] some = absurd (some refl)
    some_length (byte ∷ l) some = omega arith

-- all that is known where a line was handed out
record Hands (input : List ℕ) (new : Progress) (left_now handed bytes : List ℕ) (lines : ℕ) : Type 0 where
  in_order : input ≡ handed ++ bytes ++ ahead new left_now
  before : open_line handed ≡ []
  count : length (lines_at_end handed) ≡ lines
  commands : AreCommands (lines_at_end handed)
  long : lines ≤ length handed
  whole : new.count + length left_now ≡ length input
  within : new.count ≤ longest_input
  behind : length new.held ≤ longest_piece
  at_end : new.ended ≡ true → left_now ≡ []
  below : new.ended ≡ true → new.count < longest_input
  takes : Took new left_now bytes

hands_lines : {input : List ℕ} {new : Progress} {left_now handed bytes : List ℕ} {lines : ℕ} → Hands input new left_now handed bytes lines → lines_at_end (handed ++ bytes) ≡ lines_at_end handed ++ new.line ∷ []
hands_lines {input} {new} {left_now} {handed} {bytes} h = at_end_behind handed bytes h.before ∙ ap (λ (found : List (List ℕ)). lines_at_end handed ++ found) h.takes.at_end

-- where the line is a command, the next one may be looked for
handed_on : {input : List ℕ} {new : Progress} {left_now handed bytes : List ℕ} {lines : ℕ} → Hands input new left_now handed bytes lines → (c : Request) → command_line new.line ≡ Some c → IsRead input new left_now (lines + 1)
handed_on {input} {new} {left_now} {handed} {bytes} {lines} h c is = record {
  handed = handed ++ bytes;
  in_order = h.in_order;
  count = omega (arith, ap length (hands_lines h), length-append (lines_at_end handed) (new.line ∷ []), h.count);
  commands = subst AreCommands (sym (hands_lines h)) (commands_more (lines_at_end handed) new.line c h.commands is);
  cut = by_cut h.takes.cut;
  long = omega (arith, h.long, h.takes.some, length-append handed bytes);
  counted = h.whole;
  within = h.within;
  behind = h.behind;
  at_end = h.at_end;
  below = h.below;
}
  where
    by_cut : (open_line bytes ≡ []) ⊎ IsOver new left_now → (open_line (handed ++ bytes) ≡ []) ⊎ IsOver new left_now
    by_cut (inl cut) = inl (open_behind handed bytes h.before ∙ cut)
    by_cut (inr over) = inr over

-- and it is the script's next request
handed_request : {input : List ℕ} {new : Progress} {left_now handed bytes : List ℕ} {lines : ℕ} → Hands input new left_now handed bytes lines → (c : Request) → command_line new.line ≡ Some c → slice_get (script_of input) lines ≡ Some c
unfolding script_of
handed_request {input} {new} {left_now} {handed} {bytes} {lines} h c is = by_cut h.takes.cut
  where
    rest : List ℕ
    rest = ahead new left_now

    from_lines : (others : List (List ℕ)) → lines_at_end input ≡ lines_at_end handed ++ new.line ∷ others → slice_get (requests_of (lines_at_end input)) lines ≡ Some c
    from_lines others e =
        ap (λ (found : List (List ℕ)). slice_get (requests_of found) lines) e
        ∙ ap (λ (n : ℕ). slice_get (requests_of (lines_at_end handed ++ new.line ∷ others)) n) (sym h.count)
        ∙ request_at (lines_at_end handed) new.line others c h.commands is

    by_cut : (open_line bytes ≡ []) ⊎ IsOver new left_now → slice_get (requests_of (lines_at_end input)) lines ≡ Some c
    by_cut (inl cut) =
        from_lines (lines_at_end rest)
        (ap lines_at_end h.in_order ∙ at_end_behind (handed ++ bytes) rest (open_behind handed bytes h.before ∙ cut)
        ∙ ap (λ (found : List (List ℕ)). found ++ lines_at_end rest) (hands_lines h)
        ∙ append_assoc (lines_at_end handed) (new.line ∷ []) (lines_at_end rest))
    by_cut (inr over) =
        from_lines []
        (ap lines_at_end (h.in_order ∙ ap (λ (r : List ℕ). handed ++ bytes ++ r) over.nothing_ahead ∙ append-nil (handed ++ bytes)) ∙ hands_lines h)

-- what was taken, the line among it
record Reaches (input : List ℕ) (left_now taken : List ℕ) (lines : ℕ) (line : List ℕ) : Type 0 where
  in_order : input ≡ taken ++ left_now
  within : length taken ≤ longest_input
  read_before : lines ≤ length (lines_at_end taken)
  little : TakesLittle input left_now lines
  bad : command_line line ≡ None → EndsAt taken left_now (BadLine (lines + 1))

reaches : {input : List ℕ} {new : Progress} {left_now handed bytes : List ℕ} {lines : ℕ} → Hands input new left_now handed bytes lines → Reaches input left_now (handed ++ bytes ++ new.held) lines new.line
reaches {input} {new} {left_now} {handed} {bytes} {lines} h = by_cut h.takes.cut
  where
    front : List ℕ
    front = handed ++ bytes

    takes : Takes input new left_now (front ++ new.held)
    takes = taken_of input front new left_now h.in_order h.whole

    little : TakesLittle input left_now lines
    little = record {
      answered = handed;
      beyond = bytes ++ new.held;
      in_order = takes.in_order ∙ ap (λ (front : List ℕ). front ++ left_now) (append_assoc handed bytes new.held);
      count = h.count;
      little = omega (arith, h.takes.few, h.behind, length-append bytes new.held);
    }

    number : (k : ℕ) → k ≡ lines → length (lines_at_end handed) + 1 ≡ k + 1
    number k is = omega (arith, h.count, is)

    by_cut : (open_line bytes ≡ []) ⊎ IsOver new left_now → Reaches input left_now (front ++ new.held) lines new.line
    by_cut (inl cut) =
        let ended : open_line front ≡ [] = open_behind handed bytes h.before ∙ cut in
        let whole : complete_lines (front ++ new.held) ≡ lines_at_end handed ++ new.line ∷ complete_lines new.held =
        lines_behind front new.held ended ∙ ap (λ (found : List (List ℕ)). found ++ complete_lines new.held) (sym (at_end_whole front ended) ∙ hands_lines h)
        ∙ append_assoc (lines_at_end handed) (new.line ∷ []) (complete_lines new.held) in
        record {
          in_order = takes.in_order;
          within = omega (arith, takes.size, h.within);
          read_before = omega (arith, h.count, ap length whole, length-append (lines_at_end handed) (new.line ∷ complete_lines new.held), length-append (complete_lines (front ++ new.held)) (last_line (open_line (front ++ new.held))));
          little = little;
          bad = λ none. inl (subst (IsFirstBad (complete_lines (front ++ new.held))) (number lines refl)
              (subst (λ (found : List (List ℕ)). IsFirstBad found (length (lines_at_end handed) + 1)) (sym whole) (first_bad (lines_at_end handed) new.line (complete_lines new.held) h.commands none)));
        }
    by_cut (inr over) =
        let nothing : new.held ≡ [] = nil_from_length new.held (omega (arith, ap length over.nothing_ahead, length-append new.held left_now)) in
        let all : front ++ new.held ≡ front = ap (λ (held : List ℕ). front ++ held) nothing ∙ append-nil front in
        let whole : lines_at_end (front ++ new.held) ≡ lines_at_end handed ++ new.line ∷ [] = ap lines_at_end all ∙ hands_lines h in
        record {
          in_order = takes.in_order;
          within = omega (arith, takes.size, h.within);
          read_before = omega (arith, h.count, ap length whole, length-append (lines_at_end handed) (new.line ∷ []));
          little = little;
          bad = λ none. inr (inr (
            record { nothing_left = h.at_end over.ended; below = omega (arith, takes.size, h.below over.ended) },
            subst (IsFirstBad (lines_at_end (front ++ new.held))) (number lines refl)
                (subst (λ (found : List (List ℕ)). IsFirstBad found (length (lines_at_end handed) + 1)) (sym whole) (first_bad (lines_at_end handed) new.line [] h.commands none)),
          ));
        }

pub line_asked : {input : List ℕ} {old new : Progress} {left left_now : List ℕ} {lines : ℕ} → IsRead input old left lines → Looks old new left left_now → HasCause new Line → Moves (ahead old left) (ahead new left_now) new Line
    → length new.held ≤ longest_piece → IsAsked input new left_now lines
line_asked {input} {old} {new} {left} {left_now} {lines} read looks cause moves behind =
    let took_line = took {before = ahead old left} {new = new} {left_now = left_now} cause moves in
    let some : 0 < length (ahead old left) = omega (arith, ap length took_line.1, length-append took_line.0 (ahead new left_now), took_line.2.some) in
    let h : Hands input new left_now read.handed took_line.0 lines = record {
      in_order = read.in_order ∙ ap (λ (rest : List ℕ). read.handed ++ rest) took_line.1 ∙ sym (append_assoc read.handed took_line.0 (ahead new left_now));
      before = some_cut read some;
      count = read.count;
      commands = read.commands;
      long = read.long;
      whole = counts_on read looks;
      within = looks.within;
      behind = behind;
      at_end = looks.at_end;
      below = looks.below;
      takes = took_line.2;
    } in
    let r = reaches h in
    let taken : List ℕ = read.handed ++ took_line.0 ++ new.held in
    record {
      command = λ c is. (handed_request h c is, handed_on h c is);
      bad = λ none. record { taken = taken; in_order = r.in_order; within = r.within; fits = r.bad none; read_before = r.read_before; counts = refl; little = r.little };
      damage = λ file place. record { taken = taken; in_order = r.in_order; within = r.within; fits = tt; read_before = r.read_before; counts = tt; little = r.little };
      disk = λ fault. record { taken = taken; in_order = r.in_order; within = r.within; fits = tt; read_before = r.read_before; counts = tt; little = r.little };
      output = record { taken = taken; in_order = r.in_order; within = r.within; fits = tt; read_before = r.read_before; counts = tt; little = r.little };
      memory = record { taken = taken; in_order = r.in_order; within = r.within; fits = tt; read_before = r.read_before; counts = tt; little = r.little };
      full = λ n. record { taken = taken; in_order = r.in_order; within = r.within; fits = tt; read_before = r.read_before; counts = tt; little = r.little };
    }

-- ---- the beginning

pub nothing_handed : (input : List ℕ) → IsRead input nothing_read input 0
nothing_handed input = record {
  handed = [];
  in_order = refl;
  count = ap length at_end_nil;
  commands = ap (λ (lines : List (List ℕ)). length (requests_of lines)) at_end_nil ∙ ap length requests_nil ∙ ap length (sym at_end_nil);
  cut = inl open_nil;
  long = omega arith;
  counted = omega arith;
  within = omega arith;
  behind = omega arith;
  at_end = λ ended. absurd (true≢false (sym ended));
  below = λ ended. absurd (true≢false (sym ended));
}

-- no more lines come than bytes
pub few_lines : {input : List ℕ} {progress : Progress} {left : List ℕ} {lines : ℕ} → IsRead input progress left lines → lines ≤ longest_input
few_lines {input} {progress} {left} {lines} read =
    omega (arith, read.long, read.within, read.counted, ap length read.in_order, length-append read.handed (ahead progress left), length-append progress.held left)

-- there are no more lines than bytes that may be read
pub lines_below : {input : List ℕ} {progress : Progress} {left : List ℕ} {lines : ℕ} → IsRead input progress left lines → lines ≤ longest_input
lines_below {input} {progress} {left} read =
    omega (arith, read.long, ap length read.in_order, length-append read.handed (ahead progress left), length-append progress.held left, read.counted, read.within)

-- nor more lines than the script has requests
pub few_requests : {input : List ℕ} {progress : Progress} {left : List ℕ} {lines : ℕ} → IsRead input progress left lines → lines ≤ length (script_of input)
unfolding script_of
few_requests {input} {progress} {left} {lines} read = by_cut read.cut
  where
    rest : List ℕ
    rest = ahead progress left

    by_cut : (open_line read.handed ≡ []) ⊎ IsOver progress left → lines ≤ length (requests_of (lines_at_end input))
    by_cut (inl cut) =
        let parts : requests_of (lines_at_end input) ≡ requests_of (lines_at_end read.handed) ++ requests_of (lines_at_end rest) =
        ap (λ (b : List ℕ). requests_of (lines_at_end b)) read.in_order ∙ ap requests_of (at_end_behind read.handed rest cut) ∙ requests_behind (lines_at_end read.handed) (lines_at_end rest) read.commands in
        omega (arith, read.count, read.commands, ap length parts, length-append (requests_of (lines_at_end read.handed)) (requests_of (lines_at_end rest)))
    by_cut (inr over) =
        let all : input ≡ read.handed = read.in_order ∙ ap (λ (b : List ℕ). read.handed ++ b) over.nothing_ahead ∙ append-nil read.handed in
        omega (arith, read.count, read.commands, ap (λ (b : List ℕ). length (requests_of (lines_at_end b))) all)
