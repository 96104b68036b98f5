-- A script that is played: line by line, and where it ends.
use Rattle.std.proofs.Common.{◌≡◌, ◌⊎◌, ℕ, ◌+◌, ◌≤◌, List, [], ◌∷◌, ◌++◌, length, take, drop, Option, Some, None, Result, Ok, Err, refl, sym, ap, subst, ◌∙◌, append_assoc, inl, inr, arith}
use Rattle.std.specs.Prelude.{slice_get, slice_index_or}
use Rattle.std.specs.Result.{IfErr}
use Rattle.std.proofs.lemmas.List.{append-nil}
use Rattle.std.proofs.lemmas.Option.{slice_get_within, get_or_from_slice_get, same_Some}
use Rattle.px_site.specs.State.{State, EachMoment}
use Rattle.px_site.specs.Cause.{Counts, NoneFell, Rose}
use Rattle.px_site.proofs.Moments.{then_moments, no_moment}
use Rattle.px_calls.specs.declared.status.Status.{Status}
use Rattle.px_calls.specs.declared.status.Status.TheVariants.{Done, BadLine, Damaged, DiskFault, SourceFault, OutputFault, OutOfMemory, LogFull, TooLong}
use Rattle.px_calls.specs.Histories.{Step}
use Rattle.px_engine.specs.Engine.{Engine}
use Rattle.px_engine.specs.Requests.{Request, Ask, Stat, after_request, after_requests, answer_text}
use Rattle.px_engine.proofs.Stepping.{engine_behind}
use Rattle.px_script.specs.Grammar.{command_line}
use Rattle.px_script.specs.Progress.{Progress}
use Rattle.px_log.specs.Log.{most_frames}
use Rattle.px_model.specs.Machine.{Machine}
use Rattle.px_standing.specs.Images.{LeavesOthers}
use Rattle.px_core.specs.Working.{WorksFor}
use Rattle.px_core.specs.declared.state.Kept.{Kept}
use Rattle.px_play.specs.declared.commands.Asked.{Asked}
use Rattle.px_play.specs.Acknowledged.{KeepsAcknowledged}
use Rattle.px_play.specs.Causes.{HasPlayCause, IsUndamaged, faults_by}
use Rattle.px_play.specs.Engine.{IsEngine}
use Rattle.px_play.specs.Input.{EndsInput, script_of}
use Rattle.px_play.specs.Told.{joined}
use Rattle.px_play.specs.Playing.{AreNumbered, IsSpared, PlaysRight, StopsFull, pieces_of}
use Rattle.px_play.specs.Reading.{MayEnd, HasReadEnd, IsAsked}
use Rattle.px_play.specs.Turns.{ReadsCommand, HasTurnEnd, HasAnswerEnd, FoundFull, IsCommit, TurnsRight, WasMade, WritesFrame, Acknowledges, KeepsWithin, request_asked}
use Rattle.px_play.proofs.Places.{engine_more, front_more, parts_at, joined_more, piece_at}
use Rattle.px_play.proofs.Stays.{stands_whole}
use Rattle.px_play.proofs.Acking.{acknowledges_next}
use Rattle.px_play.proofs.Answering.{engine_at, engine_is, others_on, rose_on}

-- ---- so many requests were answered

-- the core after the first requests of a script
pub record HasMade {W : Type 0} (state : W → State) (e : Engine) (script : List Request) (now : Kept W) (made : ℕ) : Type 0 where
  pub engine : IsEngine state now (after_requests e (take made script))
  pub numbered : AreNumbered e (take made script)

-- and what was told of them
pub record HasPlayed {W : Type 0} (state : W → State) (e : Engine) (script : List Request) (old now : Kept W) (answered : ℕ) : Type 0 where
  pub made : HasMade state e script now answered
  pub told : (state now.site).now.told ≡ (state old.site).now.told ++ joined (take answered (pieces_of e script))

pub played_none : {W : Type 0} (state : W → State) (e : Engine) (script : List Request) (old : Kept W) → IsEngine state old e → HasPlayed state e script old old 0
played_none state e script old engine = record {
  made = record { engine = engine; numbered = inl refl };
  told = sym (append-nil (state old.site).now.told);
}

-- one more
made_more : {W : Type 0} {state : W → State} {e : Engine} {script : List Request} {mid new : Kept W} {answered : ℕ} (request : Request) → HasMade state e script mid answered
    → slice_get script answered ≡ Some request → WasMade state (after_requests e (take answered script)) request new → HasMade state e script new (answered + 1)
made_more {W} {state} {e} {script} {mid} {new} {answered} request made at one =
    let next = sym (engine_more e script answered request at) in
    record {
      engine = subst (IsEngine state new) next one.engine;
      numbered = subst (λ (f : Engine). (f.frames ≡ e.frames) ⊎ (f.frames ≤ most_frames)) next (by_before made.numbered one.numbered);
    }
  where
    k : Engine
    k = after_requests e (take answered script)

    by_before : (k.frames ≡ e.frames) ⊎ (k.frames ≤ most_frames) → ((after_request k request).frames ≡ k.frames) ⊎ ((after_request k request).frames ≤ most_frames)
        → ((after_request k request).frames ≡ e.frames) ⊎ ((after_request k request).frames ≤ most_frames)
    by_before before (inr fits) = inr fits
    by_before (inl none) (inl nothing) = inl (nothing ∙ none)
    by_before (inr below) (inl nothing) = inr (omega (arith, below, nothing))

pub played_more : {W : Type 0} {state : W → State} (counts : W → Counts) {e : Engine} {script : List Request} {old mid new : Kept W} {answered : ℕ} (request : Request) → HasPlayed state e script old mid answered
    → slice_get script answered ≡ Some request → TurnsRight state counts (after_requests e (take answered script)) request mid new (Ok tt) → HasPlayed state e script old new (answered + 1)
played_more {W} {state} counts {e} {script} {old} {mid} {new} {answered} request played at one =
    let text : List ℕ = answer_text (after_requests e (take answered script)) request in
    let pieces : List (List ℕ) = pieces_of e script in
    let before : List ℕ = (state old.site).now.told in
    record {
      made = made_more request played.made at one.made;
      told = one.told ∙ ap (λ (b : List ℕ). b ++ text) played.told ∙ append_assoc before (joined (take answered pieces)) text
          ∙ ap (λ (b : List ℕ). before ++ b) (sym (joined_more (take answered pieces) text) ∙ ap joined (sym (front_more pieces answered text (piece_at e script answered request at))));
    }

-- ---- the end

-- nothing was told of a next answer
told_whole : {W : Type 0} {state : W → State} {e : Engine} {script : List Request} {old mid : Kept W} (now : State) {answered : ℕ} → HasPlayed state e script old mid answered → now.now.told ≡ (state mid.site).now.told
    → now.now.told ≡ (state old.site).now.told ++ joined (take answered (pieces_of e script)) ++ []
told_whole {W} {state} {e} {script} {old} now {answered} played same = same ∙ played.told ∙ sym (append-nil ((state old.site).now.told ++ joined (take answered (pieces_of e script))))

-- what is known of each end
pub record EndsAfter {W : Type 0} (state : W → State) (e : Engine) (old new : Kept W) (input left : List ℕ) (answered : ℕ) (status : Status) : Type 0 where
  pub may : MayEnd input left answered status
  pub few : answered ≤ length (script_of input)
  pub played : HasPlayed state e (script_of input) old new answered

-- an end between two lines
pub reading_ends : {W : Type 0} {state : W → State} (counts : W → Counts) {e : Engine} {old new : Kept W} {input left : List ℕ} {answered : ℕ} (faults faults_now : ℕ) (status : Status) → HasReadEnd faults faults_now status
    → EndsAfter state e old new input left answered status → PlaysRight state counts e old new input left status
reading_ends {W} {state} counts {e} {old} {new} {input} {left} {answered} faults faults_now status cause ends = by_status status cause ends
  where
    by_status : (status : Status) → HasReadEnd faults faults_now status → EndsAfter state e old new input left answered status → PlaysRight state counts e old new input left status
    by_status Done cause ends = record {
      taken = ends.may.taken;
      in_order = ends.may.in_order;
      whole = answered;
      read_before = ends.may.read_before;
      little = ends.may.little;
      stops = ends.may.counts;
      told = record { front = 0; text = told_whole (state new.site) ends.played refl };
      holds = ends.played.made.engine;
      spared = tt;
      numbered = ends.played.made.numbered;
    }
    by_status (BadLine k) cause ends = record {
      taken = ends.may.taken;
      in_order = ends.may.in_order;
      whole = answered;
      read_before = ends.may.read_before;
      little = ends.may.little;
      stops = ends.may.counts;
      told = record { front = 0; text = told_whole (state new.site) ends.played refl };
      holds = ends.played.made.engine;
      spared = tt;
      numbered = ends.played.made.numbered;
    }
    by_status SourceFault cause ends = record {
      taken = ends.may.taken;
      in_order = ends.may.in_order;
      whole = answered;
      read_before = ends.may.read_before;
      little = ends.may.little;
      stops = ends.may.counts;
      told = record { front = 0; text = told_whole (state new.site) ends.played refl };
      holds = ends.played.made.engine;
      spared = tt;
      numbered = ends.played.made.numbered;
    }
    by_status TooLong cause ends = record {
      taken = ends.may.taken;
      in_order = ends.may.in_order;
      whole = answered;
      read_before = ends.may.read_before;
      little = ends.may.little;
      stops = ends.may.counts;
      told = record { front = 0; text = told_whole (state new.site) ends.played refl };
      holds = ends.played.made.engine;
      spared = tt;
      numbered = ends.played.made.numbered;
    }
    by_status OutOfMemory cause ends = record {
      taken = ends.may.taken;
      in_order = ends.may.in_order;
      whole = answered;
      read_before = ends.may.read_before;
      little = ends.may.little;
      stops = ends.few;
      told = record { front = 0; text = told_whole (state new.site) ends.played refl };
      holds = tt;
      spared = inl ends.played.made.engine;
      numbered = ends.played.made.numbered;
    }
    by_status _ cause ends = absurd cause

-- an end at a line
pub turn_ends : {W : Type 0} {e : Engine} {old mid new : Kept W} {input left : List ℕ} {progress : Progress} {answered : ℕ} (state : W → State) (counts : W → Counts) (status : Status)
    → HasTurnEnd progress.line (answered + 1) status → IsUndamaged status → IsAsked input progress left answered → answered ≤ length (script_of input) → HasPlayed state e (script_of input) old mid answered → NoneFell (counts old.site) (counts mid.site)
    → (command_line progress.line ≡ None → new ≡ mid)
    → ((request : Request) → command_line progress.line ≡ Some request → TurnsRight state counts (after_requests e (take answered (script_of input))) request mid new (Err status))
    → PlaysRight state counts e old new input left status
turn_ends {W} {e} {old} {mid} {new} {input} {left} {progress} {answered} state counts status cause sound asked few played fell unplayed plays = by_status status cause sound plays
  where
    script : List Request
    script = script_of input

    k : Engine
    k = after_requests e (take answered script)

    Plays : Status → Type 0
    Plays status = (request : Request) → command_line progress.line ≡ Some request → TurnsRight state counts k request mid new (Err status)

    -- memory was wanted for the line, for the step or for its answer's text
    short_told : (o : Option Request) → command_line progress.line ≡ o → Plays OutOfMemory → (state new.site).now.told ≡ (state mid.site).now.told
    short_told None is plays = ap (λ (k : Kept W). (state k.site).now.told) (unplayed is)
    short_told (Some request) is plays = (plays request is).told

    front_told : (request : Request) → command_line progress.line ≡ Some request → (front : ℕ) → (state new.site).now.told ≡ (state mid.site).now.told ++ take front (answer_text k request)
        → (state new.site).now.told ≡ (state old.site).now.told ++ joined (take answered (pieces_of e script)) ++ take front (slice_index_or (pieces_of e script) answered [])
    front_told request is front told =
        let pieces : List (List ℕ) = pieces_of e script in
        let next : slice_index_or pieces answered [] ≡ answer_text k request = get_or_from_slice_get pieces answered _ [] (piece_at e script answered request (asked.command request is).0) in
        told ∙ ap (λ (b : List ℕ). b ++ take front (answer_text k request)) played.told
        ∙ ap (λ (b : List ℕ). (state old.site).now.told ++ joined (take answered pieces) ++ take front b) (sym next)

    Spared : Type 0
    Spared = IsSpared (λ requests. IsEngine state new (after_requests e requests)) script answered (counts old.site) (counts new.site)

    -- how the want of memory left the core
    by_left : (request : Request) → command_line progress.line ≡ Some request
        → IsEngine state new k ⊎ (WasMade state k request new ⊎ (IsCommit request × Rose (counts mid.site).shorts (counts new.site).shorts)) → Spared
    by_left request is (inl still) = inl still
    by_left request is (inr (inl one)) = inr (inl (made_more request played.made (asked.command request is).0 one).engine)
    by_left request is (inr (inr commit)) = inr (inr (record {
      session = commit.0.0;
      there = (asked.command request is).0 ∙ ap (λ (r : Request). Some r) commit.0.1;
      rose = rose_on (counts old.site).shorts (counts mid.site).shorts (counts new.site).shorts fell.shorts commit.1;
    }))

    spared : (o : Option Request) → command_line progress.line ≡ o → Plays OutOfMemory → Spared
    spared None is plays = inl (subst (λ (core : Kept W). IsEngine state core k) (sym (unplayed is)) played.made.engine)
    spared (Some request) is plays = by_left request is (plays request is).left

    full : (request : Request) → command_line progress.line ≡ Some request → (n : ℕ) → FoundFull state k request mid new n → StopsFull e script answered n
    full (Ask step) is n found = record {
      step = step;
      there = (asked.command (Ask step) is).0;
      writes = found.writes;
      number = found.number;
      none_left = found.none_left;
    }
    full Stat is n found = absurd found.writes

    by_status : (status : Status) → HasTurnEnd progress.line (answered + 1) status → IsUndamaged status → Plays status → PlaysRight state counts e old new input left status
    by_status (BadLine k) cause sound plays =
        let same : new ≡ mid = unplayed cause.0 in
        reading_ends counts 0 0 (BadLine k) tt (record {
          may = subst (λ (number : ℕ). MayEnd input left answered (BadLine number)) (sym cause.1) (asked.bad cause.0);
          few = few;
          played = subst (λ (core : Kept W). HasPlayed state e script old core answered) (sym same) played;
        })
    by_status (Damaged file place) cause sound plays = absurd sound
    by_status (DiskFault fault) cause sound plays =
        let may = asked.disk fault in
        record {
          taken = may.taken;
          in_order = may.in_order;
          whole = answered;
          read_before = may.read_before;
          little = may.little;
          stops = slice_get_within script answered cause.0 (asked.command cause.0 cause.1).0;
          told = record { front = 0; text = told_whole (state new.site) played (plays cause.0 cause.1) };
          holds = tt;
          spared = tt;
          numbered = played.made.numbered;
        }
    by_status OutputFault cause sound plays =
        let may = asked.output in
        let part = plays cause.0 cause.1 in
        let made = made_more cause.0 played.made (asked.command cause.0 cause.1).0 part.1.made in
        record {
          taken = may.taken;
          in_order = may.in_order;
          whole = answered;
          read_before = may.read_before;
          little = may.little;
          stops = slice_get_within script answered cause.0 (asked.command cause.0 cause.1).0;
          told = record { front = part.0; text = front_told cause.0 cause.1 part.0 part.1.told };
          holds = made.engine;
          spared = tt;
          numbered = made.numbered;
        }
    by_status (LogFull n) cause sound plays =
        let may = asked.full n in
        let found = plays cause.0 cause.1 in
        record {
          taken = may.taken;
          in_order = may.in_order;
          whole = answered;
          read_before = may.read_before;
          little = may.little;
          stops = full cause.0 cause.1 n found;
          told = record { front = 0; text = told_whole (state new.site) played found.told };
          holds = found.still;
          spared = tt;
          numbered = played.made.numbered;
        }
    by_status OutOfMemory cause sound plays =
        let may = asked.memory in
        record {
          taken = may.taken;
          in_order = may.in_order;
          whole = answered;
          read_before = may.read_before;
          little = may.little;
          stops = few;
          told = record { front = 0; text = told_whole (state new.site) played (short_told (command_line progress.line) refl plays) };
          holds = tt;
          spared = spared (command_line progress.line) refl plays;
          numbered = played.made.numbered;
        }
    by_status _ cause sound plays = absurd cause

pub turn_input : {input left : List ℕ} {progress : Progress} {answered : ℕ} (status : Status) → HasTurnEnd progress.line (answered + 1) status → IsAsked input progress left answered → MayEnd input left answered status
turn_input {input} {left} {progress} {answered} (BadLine k) cause asked = subst (λ (number : ℕ). MayEnd input left answered (BadLine number)) (sym cause.1) (asked.bad cause.0)
turn_input (Damaged file place) cause asked = asked.damage file place
turn_input (DiskFault fault) cause asked = asked.disk fault
turn_input OutputFault cause asked = asked.output
turn_input (LogFull n) cause asked = asked.full n
turn_input OutOfMemory cause asked = asked.memory
turn_input _ cause asked = absurd cause

pub ends_input : {input left : List ℕ} {answered : ℕ} {status : Status} → MayEnd input left answered status → EndsInput input left status
ends_input may = record { taken = may.taken; in_order = may.in_order; within = may.within; fits = may.fits }

-- ---- what was acknowledged

pub record KeepsSoFar (e : Engine) (script : List Request) (told : List ℕ) (before now : State) (answered : ℕ) : Type 0 where
  pub moments : EachMoment (KeepsAcknowledged (after_requests e script).machine told) before now
  pub acks : Acknowledges told (after_requests e (take answered script)).machine now

pub keeps_none : (e : Engine) (script : List Request) (told : List ℕ) (s : State) → Acknowledges told e.machine s → KeepsSoFar e script told s s 0
keeps_none e script told s acks = record { moments = no_moment s; acks = acks }

-- the moments of a turn, in the words of the whole script
pub keeps_turn : {e : Engine} {script : List Request} {told : List ℕ} {before s now : State} {answered : ℕ} (request : Request) → slice_get script answered ≡ Some request → KeepsSoFar e script told before s answered
    → KeepsWithin (after_requests e (take answered script)) request s now → EachMoment (KeepsAcknowledged (after_requests e script).machine told) before now
keeps_turn {e} {script} {told} {before} {s} {now} {answered} request at so_far keeps =
    let front : List Request = take answered script in
    let later : List Request = drop (answered + 1) script in
    let last : after_requests (after_requests e front) (request ∷ later) ≡ after_requests e script = sym (engine_behind e front (request ∷ later)) ∙ ap (after_requests e) (sym (parts_at script answered request at)) in
    then_moments so_far.moments (subst (λ (k : Engine). EachMoment (KeepsAcknowledged k.machine told) s now) last (keeps told so_far.acks later))

pub keeps_more : {W : Type 0} {state : W → State} (counts : W → Counts) {e : Engine} {script : List Request} {told : List ℕ} {before : State} {mid new : Kept W} {answered : ℕ} (request : Request) → slice_get script answered ≡ Some request
    → TurnsRight state counts (after_requests e (take answered script)) request mid new (Ok tt) → KeepsSoFar e script told before (state mid.site) answered → KeepsWithin (after_requests e (take answered script)) request (state mid.site) (state new.site)
    → KeepsSoFar e script told before (state new.site) (answered + 1)
keeps_more {W} {state} counts {e} {script} {told} {before} {mid} {new} {answered} request at one so_far keeps = record {
  moments = keeps_turn request at so_far keeps;
  acks = subst (λ (k : Engine). Acknowledges told k.machine (state new.site)) (sym (engine_more e script answered request at))
      (acknowledges_next (after_requests e (take answered script)) request so_far.acks one.told (stands_whole one.made.engine.works).few);
}

-- a turn that ends the run
pub keeps_end : {W : Type 0} {e : Engine} {script : List Request} {told : List ℕ} {before : State} {mid new : Kept W} {answered : ℕ} (state : W → State) (line : List ℕ) → ((request : Request) → command_line line ≡ Some request → slice_get script answered ≡ Some request)
    → KeepsSoFar e script told before (state mid.site) answered → (command_line line ≡ None → new ≡ mid)
    → ((request : Request) → command_line line ≡ Some request → KeepsWithin (after_requests e (take answered script)) request (state mid.site) (state new.site))
    → EachMoment (KeepsAcknowledged (after_requests e script).machine told) before (state new.site)
keeps_end {W} {e} {script} {told} {before} {mid} {new} {answered} state line at so_far unplayed keeps = by_command (command_line line) refl
  where
    by_command : (o : Option Request) → command_line line ≡ o → EachMoment (KeepsAcknowledged (after_requests e script).machine told) before (state new.site)
    by_command None is = subst (λ (k : Kept W). EachMoment (KeepsAcknowledged (after_requests e script).machine told) before (state k.site)) (sym (unplayed is)) so_far.moments
    by_command (Some request) is = keeps_turn request (at request is) so_far (keeps request is)

-- ---- no file but the log's is changed

pub record LeavesFiles {W : Type 0} (state : W → State) (old now : Kept W) : Type 0 where
  pub machine : Machine
  pub works : WorksFor state now machine
  pub moments : EachMoment (LeavesOthers (state old.site).now) (state old.site) (state now.site)

pub leaves_none : {W : Type 0} (state : W → State) (m : Machine) (core : Kept W) → WorksFor state core m → LeavesFiles state core core
leaves_none state m core works = record { machine = m; works = works; moments = no_moment (state core.site) }

pub leaves_more : {W : Type 0} {state : W → State} (counts : W → Counts) (request : Request) {old mid new : Kept W} → LeavesFiles state old mid → ((m : Machine) → WorksFor state mid m → EachMoment (LeavesOthers (state mid.site).now) (state mid.site) (state new.site))
    → ((e : Engine) → IsEngine state mid e → TurnsRight state counts e request mid new (Ok tt)) → LeavesFiles state old new
leaves_more {W} {state} counts request {old} {mid} {new} so_far others plays =
    let e : Engine = engine_at mid so_far.machine in
    record {
      machine = (after_request e request).machine;
      works = (plays e (engine_is so_far.works)).made.engine.works;
      moments = others_on so_far.moments (others so_far.machine so_far.works);
    }

-- ---- causes

pub turn_cause : (old mid new : Counts) (reads reads_now : ℕ) (status : Status) → NoneFell old mid → HasPlayCause mid new 0 0 status → HasPlayCause old new reads reads_now status
turn_cause old mid new reads reads_now Done fell cause = tt
turn_cause old mid new reads reads_now (BadLine k) fell cause = tt
turn_cause old mid new reads reads_now (Damaged file place) fell cause = tt
turn_cause old mid new reads reads_now (DiskFault fault) fell cause = (cause.0, rose_on (old.faults fault) (mid.faults fault) (new.faults fault) (fell.faults fault) cause.1)
turn_cause old mid new reads reads_now SourceFault fell cause = absurd (omega (arith, cause))
turn_cause old mid new reads reads_now OutputFault fell cause = rose_on old.tell_faults mid.tell_faults new.tell_faults fell.tell_faults cause
turn_cause old mid new reads reads_now OutOfMemory fell cause = tt
turn_cause old mid new reads reads_now (LogFull n) fell cause = cause
turn_cause old mid new reads reads_now TooLong fell cause = tt
turn_cause old mid new reads reads_now _ fell cause = absurd cause

-- no read failed where a run ends at a line
pub turn_faults : (line : List ℕ) (number : ℕ) (status : Status) → HasTurnEnd line number status → (faults now : ℕ) → now ≡ faults → now ≡ faults_by status faults
turn_faults line number (BadLine k) cause faults now same = same
turn_faults line number (Damaged file place) cause faults now same = same
turn_faults line number (DiskFault fault) cause faults now same = same
turn_faults line number OutputFault cause faults now same = same
turn_faults line number (LogFull n) cause faults now same = same
turn_faults line number OutOfMemory cause faults now same = same
turn_faults line number _ cause faults now same = absurd cause

pub reading_cause : (old new : Counts) (reads mid reads_now : ℕ) (status : Status) → reads ≤ mid → HasReadEnd mid reads_now status → HasPlayCause old new reads reads_now status
reading_cause old new reads mid reads_now Done rises cause = tt
reading_cause old new reads mid reads_now (BadLine k) rises cause = tt
reading_cause old new reads mid reads_now SourceFault rises cause = rose_on reads mid reads_now rises cause
reading_cause old new reads mid reads_now OutOfMemory rises cause = tt
reading_cause old new reads mid reads_now TooLong rises cause = tt
reading_cause old new reads mid reads_now _ rises cause = absurd cause

pub reading_sound : (faults faults_now : ℕ) (status : Status) → HasReadEnd faults faults_now status → IsUndamaged status
reading_sound faults faults_now (Damaged file place) cause = absurd cause
reading_sound faults faults_now _ cause = tt

-- ---- a line that asks for nothing

pub command_sound : (line : List ℕ) (number : ℕ) (status : Status) → ReadsCommand line number (Err status) → IsUndamaged status
command_sound line number (Damaged file place) none = absurd none
command_sound line number _ none = tt

pub command_ends : (line : List ℕ) (number : ℕ) (status : Status) → ReadsCommand line number (Err status) → HasTurnEnd line number status
command_ends line number (BadLine k) none = none
command_ends line number OutOfMemory short = tt
command_ends line number _ none = absurd none

pub command_cause : (counts : Counts) (line : List ℕ) (number : ℕ) (status : Status) → ReadsCommand line number (Err status) → HasPlayCause counts counts 0 0 status
command_cause counts line number (BadLine k) none = tt
command_cause counts line number OutOfMemory short = tt
command_cause counts line number _ none = absurd none

pub command_right : {W : Type 0} (state : W → State) (counts : W → Counts) (e : Engine) (request : Request) (core : Kept W) (line : List ℕ) (number : ℕ) (status : Status) → IsEngine state core e → ReadsCommand line number (Err status)
    → TurnsRight state counts e request core core (Err status)
command_right state counts e request core line number (BadLine k) engine none = refl
command_right state counts e request core line number OutOfMemory engine short = record { told = refl; left = inl engine }
command_right state counts e request core line number _ engine none = absurd none

-- and one that asks for this
pub answer_ends : (line : List ℕ) (number : ℕ) (request : Request) → command_line line ≡ Some request → (result : Result (Unit {0}) Status) → IfErr result HasAnswerEnd → IfErr result (HasTurnEnd line number)
answer_ends line number request is (Ok done) ends = tt
answer_ends line number request is (Err (Damaged file place)) ends = (request, is)
answer_ends line number request is (Err (DiskFault fault)) ends = (request, is)
answer_ends line number request is (Err OutputFault) ends = (request, is)
answer_ends line number request is (Err (LogFull n)) ends = (request, is)
answer_ends line number request is (Err OutOfMemory) ends = tt
answer_ends line number request is (Err _) ends = absurd ends

pub same_request : (line : List ℕ) (r q : Request) → command_line line ≡ Some r → command_line line ≡ Some q → r ≡ q
same_request line r q is also = same_Some r q (sym is ∙ also)

pub not_none : (line : List ℕ) (request : Request) → command_line line ≡ Some request → command_line line ≡ None → ⊥
not_none line request is none = cc (sym is ∙ none)
