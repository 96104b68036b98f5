-- Where a call of the program is bound to succeed, it is done, unless memory is wanted.
use Rattle.std.proofs.Common.{◌≡◌, ◌≢◌, ℕ, zero, suc, ◌+◌, ◌<◌, ◌≤◌, List, [], ◌∷◌, ◌++◌, length, map, take, drop, Option, Some, None, refl, sym, ap, subst, ◌∙◌, append_assoc, inl, inr, arith, length-append}
use Rattle.std.proofs.lemmas.List.{append-nil}
use Rattle.px_site.specs.Cause.{Counts}
use Rattle.px_site.specs.State.{State}
use Rattle.px_source.specs.Source.{Rose as ReadRose}
use Rattle.px_model.specs.Machine.{Machine}
use Rattle.px_calls.specs.declared.status.Status.{Status}
use Rattle.px_calls.specs.declared.status.Status.TheVariants.{Done, BadLine, NotEmpty, DiskFault, SourceFault, OutputFault, OutOfMemory, LogFull, TooLong}
use Rattle.px_calls.specs.Histories.{FirstCommitterWins}
use Rattle.px_engine.specs.Engine.{Engine, after_step}
use Rattle.px_engine.specs.Frames.{step_frames}
use Rattle.px_engine.specs.Requests.{Request, Ask, Stat, after_requests, steps_of}
use Rattle.px_engine.proofs.Stepping.{engine_behind, machine_of_requests}
use Rattle.px_machine_laws.proofs.EveryHistory.{first_committer_wins}
use Rattle.px_script.specs.Grammar.{command_line}
use Rattle.px_script.specs.Lines.{complete_after, rest_after, complete_lines, open_line, last_line, lines_at_end}
use Rattle.px_restart.proofs.Restarts.{restart_long}
use Rattle.px_cell_standing.specs.Found.{Found, machine_of}
use Rattle.px_standing.specs.Files.{Files, first_restart, second_restart}
use Rattle.px_recovery.specs.Making.{IsFree, first_file, second_file}
use Rattle.px_play.specs.Input.{AreCommands, EndsAt, EndsInput, IsFirstBad, IsOverlong, script_of}
use Rattle.px_play.specs.Playing.{StopsFull}
use Rattle.px_play.proofs.Asked.{requests_nil, request_none, request_some, long_none}
use Rattle.px_play.proofs.Parts.{complete_behind, first_after, rest_behind, rest_single}
use Rattle.px_play.proofs.Places.{parts_at}
use Rattle.px_run.specs.declared.command.Command.{Command}
use Rattle.px_run.specs.Causes.{HasStatusCause}
use Rattle.px_run.specs.Dumping.{DumpsRight}
use Rattle.px_run.specs.Making.{MakesRight}
use Rattle.px_run.specs.Premises.{CanRun, HasRoom, IsDoneOrShort, IsEmpty, NoneRose}
use Rattle.px_run.specs.Running.{EndsFull, FindsNoRoom, RunsRight, engine_of, machine_after}

-- ---- `make` and `dump`

empty_free : (files : Files) → IsEmpty files → IsFree files
empty_free files empty = record {
  others = λ name first second. empty name;
  no_restart = record {
    first = λ restart at. omega (arith, restart_long (first_restart files) restart at, ap length (empty first_file));
    second = λ restart at. omega (arith, restart_long (second_restart files) restart at, ap length (empty second_file));
  };
}

pub complete_make : (command : Option Command) (tables short : ℕ) (a c : State) (x z : Counts) (reads reads_now : ℕ) (status : Status) → IsEmpty a.content → NoneRose x z → HasStatusCause command x z reads reads_now status → MakesRight tables short a c x z status
    → IsDoneOrShort status
complete_make command tables short a c x z reads reads_now Done empty none cause makes = tt
complete_make command tables short a c x z reads reads_now OutOfMemory empty none cause makes = tt
complete_make command tables short a c x z reads reads_now OutputFault empty none cause makes = absurd (none.tell_faults cause.1)
complete_make command tables short a c x z reads reads_now NotEmpty empty none cause makes = absurd (makes.ends.1.used (empty_free a.content empty))
complete_make command tables short a c x z reads reads_now (DiskFault fault) empty none cause makes = absurd (none.faults fault cause.2)
complete_make command tables short a c x z reads reads_now _ empty none cause makes = absurd makes.ends

has_room : (found : Found) (n : ℕ) → HasRoom found → FindsNoRoom found n → ⊥
has_room found n room full = omega (arith, room, full.none_left, full.below)

pub complete_dump : (command : Option Command) (found : Found) (a c : State) (x z : Counts) (reads reads_now : ℕ) (status : Status) → HasRoom found → NoneRose x z → HasStatusCause command x z reads reads_now status
    → DumpsRight found a c x z status → IsDoneOrShort status
complete_dump command found a c x z reads reads_now Done room none cause dumps = tt
complete_dump command found a c x z reads reads_now OutOfMemory room none cause dumps = tt
complete_dump command found a c x z reads reads_now OutputFault room none cause dumps = absurd (none.tell_faults cause.1)
complete_dump command found a c x z reads reads_now (DiskFault fault) room none cause dumps = absurd (none.faults fault cause.2)
complete_dump command found a c x z reads reads_now (LogFull n) room none cause dumps = absurd (has_room found n room dumps.ends.1)
complete_dump command found a c x z reads reads_now _ room none cause dumps = absurd dumps.ends

-- ---- lines that are all commands

-- the first of them is one
record Begins (line : List ℕ) (lines : List (List ℕ)) : Type 0 where
  request : Request
  is : command_line line ≡ Some request
  others : AreCommands lines

begins : (line : List ℕ) (lines : List (List ℕ)) → AreCommands (line ∷ lines) → Begins line lines
begins line lines commands = by_request (command_line line) refl
  where
    by_request : (o : Option Request) → command_line line ≡ o → Begins line lines
    by_request None is = absurd (omega (arith, commands, ap length (request_none line lines is)))
    by_request (Some request) is = record { request = request; is = is; others = omega (arith, commands, ap length (request_some line lines request is)) }

-- so is each front of them
front_commands : (front back : List (List ℕ)) → AreCommands (front ++ back) → AreCommands front × AreCommands back
front_commands [] back commands = (ap length requests_nil, commands)
front_commands (line ∷ front) back commands =
    let first = begins line (front ++ back) commands in
    let others = front_commands front back first.others in
    (omega (arith, others.0, ap length (request_some line front first.request first.is)), others.1)

none_bad : (lines : List (List ℕ)) (k : ℕ) → AreCommands lines → IsFirstBad lines k → ⊥
none_bad lines k commands bad = omega (arith, commands, bad.there)

-- the lines of an input are those that are complete in a front of it, and others
lines_parts : (taken left : List ℕ) → lines_at_end (taken ++ left) ≡ complete_lines taken ++ (complete_after (open_line taken) left ++ last_line (rest_after (open_line taken) left))
unfolding complete_lines open_line
lines_parts taken left =
    ap (λ (lines : List (List ℕ)). lines ++ last_line (rest_after [] (taken ++ left))) (complete_behind [] taken left)
    ∙ ap (λ (rest : List ℕ). complete_after [] taken ++ complete_after (rest_after [] taken) left ++ last_line rest) (rest_behind [] taken left)
    ∙ append_assoc (complete_after [] taken) (complete_after (rest_after [] taken) left) (last_line (rest_after (rest_after [] taken) left))

-- the line that was begun is the first of these others, and as long
record Goes (begun : List ℕ) (lines : List (List ℕ)) : Type 0 where
  line : List ℕ
  others : List (List ℕ)
  are : lines ≡ line ∷ others
  long : length begun ≤ length line

last_some : (line : List ℕ) → 0 < length line → last_line line ≡ line ∷ []
last_some [] some = absurd (omega (arith, some))
last_some (byte ∷ line) some = refl

goes_on : (begun left : List ℕ) → 0 < length begun → Goes begun (complete_after begun left ++ last_line (rest_after begun left))
goes_on begun left some = by_lines (complete_after begun left) refl
  where
    by_lines : (lines : List (List ℕ)) → complete_after begun left ≡ lines → Goes begun (complete_after begun left ++ last_line (rest_after begun left))
    by_lines [] is =
        let rest : rest_after begun left ≡ begun ++ left = rest_single begun left is in
        record {
          line = begun ++ left;
          others = [];
          are = ap (λ (lines : List (List ℕ)). lines ++ last_line (rest_after begun left)) is ∙ ap last_line rest ∙ last_some (begun ++ left) (omega (arith, some, length-append begun left));
          long = omega (arith, length-append begun left);
        }
    by_lines (line ∷ lines) is = record {
      line = line;
      others = lines ++ last_line (rest_after begun left);
      are = ap (λ (all : List (List ℕ)). all ++ last_line (rest_after begun left)) is;
      long = first_after begun left line lines is;
    }

-- no line is too long
none_overlong : (taken left : List ℕ) (k : ℕ) → AreCommands (lines_at_end (taken ++ left)) → IsOverlong taken k → ⊥
none_overlong taken left k commands over =
    let on = goes_on (open_line taken) left (omega (arith, over.too_long)) in
    let parts = front_commands (complete_lines taken) (complete_after (open_line taken) left ++ last_line (rest_after (open_line taken) left)) (subst AreCommands (lines_parts taken left) commands) in
    let first = begins on.line on.others (subst AreCommands on.are parts.1) in
    not_both (command_line on.line) first.request (long_none on.line (omega (arith, over.too_long, on.long))) first.is
  where
    not_both : (o : Option Request) (c : Request) → o ≡ None → o ≡ Some c → ⊥
    not_both o c none some = cc

none_is_bad : (input taken left : List ℕ) (k : ℕ) → input ≡ taken ++ left → AreCommands (lines_at_end input) → EndsAt taken left (BadLine k) → ⊥
none_is_bad input taken left k in_order commands ends =
    let all : AreCommands (lines_at_end (taken ++ left)) = subst (λ (l : List ℕ). AreCommands (lines_at_end l)) in_order commands in
    elim ends as (λ _. ⊥) [
      | inl bad ↦ none_bad (complete_lines taken) k (front_commands (complete_lines taken) (complete_after (open_line taken) left ++ last_line (rest_after (open_line taken) left)) (subst AreCommands (lines_parts taken left) all)).0 bad
      | inr other ↦ elim other as (λ _. ⊥) [
        | inl over ↦ none_overlong taken left k all over
        | inr last ↦
            let whole : taken ++ left ≡ taken = ap (λ (l : List ℕ). taken ++ l) last.0.nothing_left ∙ append-nil taken in
            none_bad (lines_at_end taken) k (subst (λ (l : List ℕ). AreCommands (lines_at_end l)) whole all) last.1
      ]
    ]

-- ---- a log with room

-- frames are never fewer
frames_rise : (e : Engine) (requests : List Request) → e.frames ≤ (after_requests e requests).frames
frames_rise e [] = omega arith
frames_rise e (Ask step ∷ requests) = omega (arith, frames_rise (after_step e step) requests)
frames_rise e (Stat ∷ requests) = frames_rise e requests

some_frames : (n : ℕ) → n ≢ 0 → 0 < n
some_frames zero none = absurd (none refl)
some_frames (suc n) none = omega arith

not_full : (found : Found) (input : List ℕ) (answered n : ℕ) → CanRun found input → StopsFull (engine_of found) (script_of input) answered n → ⊥
not_full found input answered n can full =
    let script : List Request = script_of input in
    let k : Engine = after_requests (engine_of found) (take answered script) in
    let back : List Request = drop (answered + 1) script in
    let parts : after_requests (engine_of found) script ≡ after_requests (after_step k full.step) back =
    ap (after_requests (engine_of found)) (parts_at script answered (Ask full.step) full.there) ∙ engine_behind (engine_of found) (take answered script) (Ask full.step ∷ back) in
    omega (
      arith,
      can.numbers,
      full.none_left,
      full.number,
      some_frames (step_frames k.machine full.step) full.writes,
      ap (λ (e : Engine). e.frames) parts,
      frames_rise (after_step k full.step) back,
    )

not_ends_full : (found : Found) (input : List ℕ) (whole n : ℕ) → CanRun found input → EndsFull found (script_of input) whole n → ⊥
not_ends_full found input zero n can full = has_room found n (omega (arith, can.numbers, frames_rise (engine_of found) (script_of input))) full
not_ends_full found input (suc answered) n can full = not_full found input answered n can full

-- ---- `run`

pub complete_run : (command : Option Command) (found : Found) (input left : List ℕ) (a c : State) (x z : Counts) (reads reads_now : ℕ) (status : Status) → CanRun found input → NoneRose x z → (ReadRose reads reads_now → ⊥)
    → HasStatusCause command x z reads reads_now status → EndsInput input left status → RunsRight found input left a c x z status → IsDoneOrShort status
complete_run command found input left a c x z reads reads_now Done can none no_read cause ends runs = tt
complete_run command found input left a c x z reads reads_now OutOfMemory can none no_read cause ends runs = tt
complete_run command found input left a c x z reads reads_now OutputFault can none no_read cause ends runs = absurd (none.tell_faults cause.1)
complete_run command found input left a c x z reads reads_now (DiskFault fault) can none no_read cause ends runs = absurd (none.faults fault cause.2)
complete_run command found input left a c x z reads reads_now SourceFault can none no_read cause ends runs = absurd (no_read cause.1)
complete_run command found input left a c x z reads reads_now (BadLine k) can none no_read cause ends runs = absurd (none_is_bad input ends.taken left k ends.in_order can.commands ends.fits)
complete_run command found input left a c x z reads reads_now (LogFull n) can none no_read cause ends runs = absurd (not_ends_full found input runs.whole n can runs.ends)
complete_run command found input left a c x z reads reads_now TooLong can none no_read cause ends runs =
    absurd (omega (arith, can.below, ends.fits.0, ap length ends.in_order, length-append ends.taken left))
complete_run command found input left a c x z reads reads_now _ can none no_read cause ends runs = absurd runs.ends

-- ---- the first committer

pub first_wins : (found : Found) (requests : List Request) → FirstCommitterWins (machine_after found requests).ended
first_wins found requests =
    subst (λ (m : Machine). FirstCommitterWins m.ended) (sym (machine_of_requests (engine_of found) requests))
    (first_committer_wins found.tables found.short found.rows found.commits found.base (steps_of requests))
