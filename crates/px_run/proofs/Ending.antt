-- The line that a run ends with acknowledges nothing.
use Rattle.std.proofs.Common.{◌≡◌, ◌⊎◌, ℕ, zero, suc, List, [], ◌∷◌, ◌++◌, take, codes, refl, sym, ap, subst, ◌∙◌, append_assoc, inl, inr}
use Rattle.std.specs.List.{AllByRecursion}
use Rattle.std.proofs.lemmas.List.{append-nil}
use Rattle.px_site.specs.declared.error.Fault.{Fault}
use Rattle.px_site.specs.declared.error.Fault.TheVariants.{Read, Write, Sync, Remove, List as Listing, Tell}
use Rattle.px_site.specs.Cause.{Counts}
use Rattle.px_site.specs.State.{State, EachMoment}
use Rattle.px_site.specs.Names.{file_text}
use Rattle.px_site.proofs.Moments.{same_moment, then_moments}
use Rattle.px_model.specs.Machine.{Machine}
use Rattle.px_engine.specs.Engine.{Engine}
use Rattle.px_engine.specs.Requests.{Request, after_request, answer_texts}
use Rattle.px_calls.specs.declared.status.Status.{Status}
use Rattle.px_calls.specs.declared.status.Status.TheVariants.{Done, Usage, BadLine, NoStore, NotEmpty, Damaged, DiskFault, SourceFault, OutputFault, OutOfMemory, LogFull, TooLong}
use Rattle.px_calls.specs.Closing.{closing_line}
use Rattle.px_calls.specs.Texts.{numbered}
use Rattle.px_script.specs.Lines.{open_line}
use Rattle.px_cell_standing.specs.Found.{Found, IsSettledStore, machine_of}
use Rattle.px_standing.proofs.Moments.{last_moment}
use Rattle.px_play.specs.Acknowledged.{KeepsAcknowledged, acknowledged}
use Rattle.px_play.specs.Input.{script_of}
use Rattle.px_play.specs.Playing.{pieces_of}
use Rattle.px_play.specs.Told.{IsTold, joined, last_piece}
use Rattle.px_play.proofs.Acking.{nothing_taken, text_whole}
use Rattle.px_play.proofs.Committing.{says_commit}
use Rattle.px_play.proofs.Parts.{open_behind, open_nil}
use Rattle.px_play.proofs.Replies.{IsQuiet, line_quiet, numbered_one, quiet_acknowledged}
use Rattle.px_play.proofs.Words.{file_no_feed, no_feed_both}
use Rattle.px_run.specs.Running.{engine_of, machine_after, run_pieces}
use Rattle.px_run.specs.Working.{Closes, RunsScript}
use Rattle.px_run.proofs.Pieces.{spoke_moments}
use Rattle.px_run.proofs.Quiet.{AddsNothing, KeepsTold, front_after, front_within, opening_holds, opening_quiet, quiet_keeps, starting_told, told_kept}

-- ---- the closing lines

fault_line : (fault : Fault) → IsQuiet (closing_line (DiskFault fault))
unfolding closing_line
fault_line Read = line_quiet (codes "disk fault: read") refl refl
fault_line Write = line_quiet (codes "disk fault: write") refl refl
fault_line Sync = line_quiet (codes "disk fault: sync") refl refl
fault_line Remove = line_quiet (codes "disk fault: remove") refl refl
fault_line Listing = line_quiet (codes "disk fault: list") refl refl
fault_line Tell = line_quiet (codes "disk fault: tell") refl refl

closing_quiet : (status : Status) → (closing_line status ≡ []) ⊎ IsQuiet (closing_line status)
unfolding closing_line
closing_quiet Done = inl refl
closing_quiet OutputFault = inl refl
closing_quiet (DiskFault fault) = inr (fault_line fault)
closing_quiet Usage = inr (line_quiet (codes "usage: pbxt make N S, run, dump") refl refl)
closing_quiet (BadLine k) = inr (line_quiet (numbered (codes "line") k ++ codes ": not a command") (no_feed_both (numbered (codes "line") k) (codes ": not a command") (numbered_one (codes "line") k refl) refl) refl)
closing_quiet NoStore = inr (line_quiet (codes "no store") refl refl)
closing_quiet NotEmpty = inr (line_quiet (codes "not empty") refl refl)
closing_quiet (Damaged file place) =
    inr (line_quiet (codes "damaged " ++ file_text file ++ numbered (codes " at") place)
    (no_feed_both (codes "damaged " ++ file_text file) (numbered (codes " at") place) (no_feed_both (codes "damaged ") (file_text file) refl (file_no_feed file)) (numbered_one (codes " at") place refl)) refl)
closing_quiet SourceFault = inr (line_quiet (codes "source fault") refl refl)
closing_quiet OutOfMemory = inr (line_quiet (codes "out of memory") refl refl)
closing_quiet (LogFull n) = inr (line_quiet (numbered (codes "log full at") n) (numbered_one (codes "log full at") n refl) refl)
closing_quiet TooLong = inr (line_quiet (codes "too long") refl refl)

empty_adds : (m : Machine) (so_far text : List ℕ) → text ≡ [] → AddsNothing m so_far text
empty_adds m so_far text none front = ap (λ (l : List ℕ). acknowledged m.before (so_far ++ l)) (nothing_taken front text none) ∙ ap (acknowledged m.before) (append-nil so_far)

closing_adds : (m : Machine) (so_far : List ℕ) (status : Status) → (closing_line status ≡ []) ⊎ (open_line so_far ≡ []) → AddsNothing m so_far (closing_line status)
closing_adds m so_far status whole = elim whole as (λ _. AddsNothing m so_far (closing_line status)) [
  | inl none ↦ empty_adds m so_far (closing_line status) none
  | inr ended ↦ elim (closing_quiet status) as (λ _. AddsNothing m so_far (closing_line status)) [
    | inl none ↦ empty_adds m so_far (closing_line status) none
    | inr quiet ↦ λ front. quiet_acknowledged m.before so_far (closing_line status) front ended quiet
  ]
]

-- ---- what was told before

abbrev IsWhole : List ℕ → Type 0
IsWhole piece = open_line piece ≡ []

joined_whole : (pieces : List (List ℕ)) → AllByRecursion IsWhole pieces → (whole : ℕ) → open_line (joined (take whole pieces)) ≡ []
joined_whole pieces each zero = open_nil
joined_whole [] each (suc whole) = open_nil
joined_whole (piece ∷ pieces) each (suc whole) = open_behind piece (joined (take whole pieces)) each.0 ∙ joined_whole pieces each.1 whole

answers_whole : (e : Engine) (requests : List Request) → AllByRecursion IsWhole (answer_texts e requests)
answers_whole e [] = tt
answers_whole e (request ∷ requests) = (text_whole e.machine (after_request e request).machine (says_commit e request), answers_whole (after_request e request) requests)

pieces_whole : (found : Found) (requests : List Request) → AllByRecursion IsWhole (run_pieces found requests)
unfolding run_pieces pieces_of
pieces_whole found requests = ((opening_quiet found).whole, answers_whole (engine_of found) requests)

last_none : (pieces : List (List ℕ)) (whole : ℕ) (status : Status) → (closing_line status ≡ []) ⊎ (last_piece pieces whole status ≡ [])
unfolding closing_line
last_none pieces whole OutputFault = inl refl
last_none pieces whole _ = inr refl

-- all that was told by a run: whole lines, but for a front of a reply where no closing line follows
record Told (status : Status) (a b : State) : Type 0 where
  so_far : List ℕ
  told : b.now.told ≡ a.now.told ++ so_far
  whole : (closing_line status ≡ []) ⊎ (open_line so_far ≡ [])

told_by : (found : Found) (requests : List Request) (whole : ℕ) (status : Status) (a b : State) → IsTold (run_pieces found requests) whole status a b → Told status a b
told_by found requests whole status a b is =
    let pieces : List (List ℕ) = run_pieces found requests in
    let replies : List ℕ = joined (take whole pieces) in
    let last : List ℕ = take is.front (last_piece pieces whole status) in
    record {
      so_far = replies ++ last;
      told = is.text ∙ append_assoc a.now.told replies last;
      whole = elim (last_none pieces whole status) as (λ _. (closing_line status ≡ []) ⊎ (open_line (replies ++ last) ≡ [])) [
        | inl none ↦ inl none
        | inr none ↦
            inr (ap (λ (l : List ℕ). open_line (replies ++ l)) (nothing_taken is.front (last_piece pieces whole status) none)
            ∙ ap open_line (append-nil replies) ∙ joined_whole pieces (pieces_whole found requests) whole)
      ];
    }

-- ---- at each moment

kept_last : (found : Found) (requests : List Request) (a b : State) → IsSettledStore found a → EachMoment (KeepsAcknowledged (machine_after found requests) a.now.told) a b
    → KeepsTold (machine_after found requests) a.now.told b.now
kept_last found requests a b store moments =
    let m : Machine = machine_after found requests in
    let first : KeepsTold m a.now.told a.now = starting_told found requests a.now (λ image plain. opening_holds found requests image (store.settled.images.each image plain)) in
    elim (last_moment moments) as (λ _. KeepsTold m a.now.told b.now) [
      | inl same ↦ subst (KeepsTold m a.now.told) (sym same) first
      | inr keeps ↦ told_kept keeps
    ]

pub acknowledged_closed : (found : Found) (input left : List ℕ) (status : Status) (a b c : State) (x0 x y : Counts) → IsSettledStore found a
    → EachMoment (KeepsAcknowledged (machine_after found (script_of input)) a.now.told) a b → RunsScript found input left a b x0 x status → Closes status b c x y
    → EachMoment (KeepsAcknowledged (machine_after found (script_of input)) a.now.told) a c
acknowledged_closed found input left status a b c x0 x y store moments runs closes =
    let m : Machine = machine_after found (script_of input) in
    let line : List ℕ = closing_line status in
    let keeps = kept_last found (script_of input) a b store moments in
    let told = told_by found (script_of input) runs.whole status a b runs.told in
    let adds : AddsNothing m told.so_far line = closing_adds m told.so_far status told.whole in
    then_moments moments (elim closes.is as (λ _. EachMoment (KeepsAcknowledged m a.now.told) b c) [
      | inl e ↦
          spoke_moments line (take closes.front line) e (quiet_keeps told.so_far line told.told adds keeps (front_within line b.now)) (quiet_keeps told.so_far line told.told adds keeps (front_after line b.now closes.front))
      | inr none ↦ same_moment none.0
    ])
