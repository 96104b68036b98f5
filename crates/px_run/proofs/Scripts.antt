-- What `run` tells and leaves: the opened line, and behind it what the playing of the script does.
use Rattle.std.proofs.Common.{◌≡◌, ℕ, zero, suc, ◌+◌, ◌-◌, ◌≤◌, List, [], ◌++◌, length, take, Result, Err, refl, sym, ap, subst, ◌∙◌, inl, inr, arith}
use Rattle.std.proofs.lemmas.List.{append-nil, take_all}
use Rattle.px_site.specs.State.{State, EachMoment, told}
use Rattle.px_site.specs.Cause.{Counts, NoneFell}
use Rattle.px_site.proofs.Moments.{then_moments, weaker_moments}
use Rattle.px_model.specs.Machine.{Machine, commits}
use Rattle.px_engine.specs.Requests.{Request}
use Rattle.px_calls.specs.declared.status.Status.{Status}
use Rattle.px_calls.specs.declared.status.Status.TheVariants.{Done, Usage, BadLine, NoStore, NotEmpty, Damaged, DiskFault, SourceFault, OutputFault, OutOfMemory, LogFull, TooLong}
use Rattle.px_calls.specs.Texts.{opened_line}
use Rattle.px_cell_standing.specs.Found.{Found, HoldsStore, machine_of}
use Rattle.px_cell_standing.specs.Images.{KeepsStanding}
use Rattle.px_core.specs.Core.{durable_of, frames_of}
use Rattle.px_core.specs.declared.state.Kept.{Kept}
use Rattle.px_core.specs.Working.{WorksFor}
use Rattle.px_recovery.specs.declared.opening.OpenReport.{OpenReport}
use Rattle.px_recovery.specs.declared.error.OpenError.{OpenError}
use Rattle.px_recovery.specs.declared.error.OpenError.TheVariants.{OutOfMemory as OpenShort, Fault as OpenFault, NoStore as OpenNone, LogFull as OpenFull, Damaged as OpenDamaged}
use Rattle.px_recovery.specs.Errors.{FindsNoRoom, IsPassing, status_of_opening}
use Rattle.px_recovery.specs.Opening.{OpensTo, report_of}
use Rattle.px_play.specs.Acknowledged.{KeepsAcknowledged, TellsWhole, acknowledged}
use Rattle.px_engine.specs.Engine.{Engine}
use Rattle.px_engine.specs.Requests.{after_requests}
use Rattle.px_play.specs.Causes.{faults_by}
use Rattle.px_play.specs.Engine.{IsEngine}
use Rattle.px_play.specs.Input.{script_of}
use Rattle.px_play.specs.Playing.{AreNumbered, IsSpared, OnShort, PlaysRight, StopsAfter, UnlessBroken, answers_made as texts_made, pieces_of}
use Rattle.px_play.specs.Told.{IsTold}
use Rattle.px_play.proofs.Parts.{open_nil}
use Rattle.px_play.proofs.Replies.{quiet_acknowledged}
use Rattle.px_play.proofs.Stays.{stands_whole}
use Rattle.px_run.specs.Running.{RunEnds, UnlessNoRoom, answers_made, engine_of, machine_after, machine_left, opening_line, run_pieces}
use Rattle.px_run.specs.Working.{HasTellCause, RunsBy, RunsScript, TellsPiece}
use Rattle.px_run.proofs.Pieces.{piece_moments, told_behind, told_from, told_nothing}
use Rattle.px_run.proofs.Quiet.{AddsNothing, front_after, front_within, opening_acknowledges, opening_keeps, opening_quiet, quiet_keeps, starting_holds, starting_told}

-- ---- at each moment

-- while the store is opened
pub opening_moments : {a b : State} (found : Found) (script : List Request) → EachMoment (KeepsStanding found.commits found.rows a.now) a b → EachMoment (KeepsAcknowledged (machine_after found script) a.now.told) a b
opening_moments {a} found script moments = weaker_moments (λ m keeps. opening_keeps found script a.now m keeps) moments

-- while the opened line is told
pub line_moments : {W : Type 0} {core : Kept W} {b : State} (state : W → State) (found : Found) (script : List Request) (result : Result (Unit {0}) Status) → WorksFor state core (machine_of found) → TellsPiece (opening_line found) (state core.site) b result
    → EachMoment (KeepsAcknowledged (machine_after found script) (state core.site).now.told) (state core.site) b
line_moments {W} {core} {b} state found script result works tells =
    let a : State = state core.site in
    let last : Machine = machine_after found script in
    let line : List ℕ = opening_line found in
    let adds : AddsNothing last [] line = λ front. quiet_acknowledged last.before [] line front open_nil (opening_quiet found) in
    let keeps = starting_told found script a.now (λ image plain. starting_holds found script image ((stands_whole works).images.each image plain)) in
    let out : (n : ℕ) → KeepsAcknowledged last a.now.told (told (take n line) a.now) = λ n. quiet_keeps [] line (sym (append-nil a.now.told)) adds keeps (front_after line a.now n) in
    piece_moments line result tells (quiet_keeps [] line (sym (append-nil a.now.told)) adds keeps (front_within line a.now))
    (subst (λ (l : List ℕ). KeepsAcknowledged last a.now.told (told l a.now)) (take_all (length line) line (omega arith)) (out (length line))) out

-- behind the line
pub script_moments : {a b c : State} (found : Found) (script : List Request) → b.now.told ≡ a.now.told ++ opening_line found → EachMoment (KeepsAcknowledged (machine_after found script) a.now.told) a b
    → ((before so_far : List ℕ) → b.now.told ≡ before ++ so_far → TellsWhole so_far → acknowledged (machine_of found).before so_far ≡ commits (machine_of found) → EachMoment (KeepsAcknowledged (machine_after found script) before) b c)
    → EachMoment (KeepsAcknowledged (machine_after found script) a.now.told) a c
script_moments {a} found script line first later = then_moments first (later a.now.told (opening_line found) line (opening_quiet found).whole (opening_acknowledges found))

-- behind the opening
pub moments_behind : {a b c : State} (found : Found) (script : List Request) → b.now.told ≡ a.now.told → EachMoment (KeepsStanding found.commits found.rows a.now) a b
    → EachMoment (KeepsAcknowledged (machine_after found script) b.now.told) b c → EachMoment (KeepsAcknowledged (machine_after found script) a.now.told) a c
moments_behind {a} {b} {c} found script same first later =
    then_moments (opening_moments found script first) (subst (λ (before : List ℕ). EachMoment (KeepsAcknowledged (machine_after found script) before) b c) same later)

-- ---- where it ends

pub unless_broken : (status : Status) {P Q : Type 0} → (P → Q) → UnlessBroken status P → UnlessBroken status Q
unless_broken Done f p = f p
unless_broken (BadLine k) f p = f p
unless_broken TooLong f p = f p
unless_broken SourceFault f p = f p
unless_broken OutputFault f p = f p
unless_broken (LogFull n) f p = f p
unless_broken _ f p = tt

pub unless_no_room : (status : Status) (whole : ℕ) {P Q : Type 0} → (P → Q) → UnlessNoRoom status whole P → UnlessNoRoom status whole Q
unless_no_room (LogFull n) zero f p = tt
unless_no_room (LogFull n) (suc answered) f p = f p
unless_no_room Done whole f p = f p
unless_no_room Usage whole f p = f p
unless_no_room (BadLine k) whole f p = f p
unless_no_room NoStore whole f p = f p
unless_no_room NotEmpty whole f p = f p
unless_no_room (Damaged file place) whole f p = f p
unless_no_room (DiskFault fault) whole f p = f p
unless_no_room SourceFault whole f p = f p
unless_no_room OutputFault whole f p = f p
unless_no_room OutOfMemory whole f p = f p
unless_no_room TooLong whole f p = f p

-- some pieces were told
with_room : (status : Status) (whole : ℕ) {P : Type 0} → P → UnlessNoRoom status (suc whole) P
with_room (LogFull n) whole p = p
with_room Done whole p = p
with_room Usage whole p = p
with_room (BadLine k) whole p = p
with_room NoStore whole p = p
with_room NotEmpty whole p = p
with_room (Damaged file place) whole p = p
with_room (DiskFault fault) whole p = p
with_room SourceFault whole p = p
with_room OutputFault whole p = p
with_room OutOfMemory whole p = p
with_room TooLong whole p = p

one_less : (whole : ℕ) → suc whole - 1 ≡ whole
one_less whole = omega arith

-- so many answers, and the opened line in front of them
run_ends : (found : Found) (script : List Request) (taken : List ℕ) (whole : ℕ) (status : Status) → StopsAfter (engine_of found) script taken whole status → RunEnds found script taken (suc whole) status
run_ends found script taken whole Done stops = omega (arith, stops)
run_ends found script taken whole (BadLine k) stops = omega (arith, stops)
run_ends found script taken whole (DiskFault fault) stops = omega (arith, stops)
run_ends found script taken whole SourceFault stops = omega (arith, stops)
run_ends found script taken whole OutputFault stops = omega (arith, stops)
run_ends found script taken whole OutOfMemory stops = omega (arith, stops)
run_ends found script taken whole (LogFull n) stops = stops
run_ends found script taken whole TooLong stops = omega (arith, stops)
run_ends found script taken whole _ stops = absurd stops

pub on_short : (status : Status) {P Q : Type 0} → (P → Q) → OnShort status P → OnShort status Q
on_short OutOfMemory f p = f p
on_short _ f p = tt

-- with the counts before and behind, and by what follows from what is held
pub later_spared : (H K : List Request → Type 0) (script : List Request) (answered : ℕ) {x y z t : Counts} → ((requests : List Request) → H requests → K requests) → x.shorts ≤ y.shorts → z.shorts ≤ t.shorts → IsSpared H script answered y z
    → IsSpared K script answered x t
later_spared H K script answered weaker below above (inl same) = inl (weaker (take answered script) same)
later_spared H K script answered weaker below above (inr (inl one)) = inr (inl (weaker (take (answered + 1) script) one))
later_spared H K script answered weaker below above (inr (inr short)) = inr (inr (record { session = short.session; there = short.there; rose = omega (arith, below, above, short.rose) }))

-- so many requests behind the opened line
made_behind : (status : Status) (whole : ℕ) → answers_made status (suc whole) ≡ texts_made status whole
made_behind OutputFault whole = omega arith
made_behind Done whole = one_less whole
made_behind Usage whole = one_less whole
made_behind (BadLine k) whole = one_less whole
made_behind NoStore whole = one_less whole
made_behind NotEmpty whole = one_less whole
made_behind (Damaged file place) whole = one_less whole
made_behind (DiskFault fault) whole = one_less whole
made_behind SourceFault whole = one_less whole
made_behind OutOfMemory whole = one_less whole
made_behind (LogFull n) whole = one_less whole
made_behind TooLong whole = one_less whole

-- what was opened is the engine that starts there, also once its line was told
pub engine_opened : {W : Type 0} {state : W → State} {core : Kept W} {report : OpenReport} (found : Found) → OpensTo state found core report → (new : Kept W) → ((m : Machine) → WorksFor state core m → WorksFor state new m)
    → new ≡ record core { site = new.site } → IsEngine state new (engine_of found)
engine_opened {W} {state} {core} found opens new on rest = record { works = on (machine_of found) opens.works; frames = ap frames_of rest ∙ opens.frames; durable = ap durable_of rest ∙ opens.durable }

-- the opened line was told, and the script played
pub script_played : {W : Type 0} {state : W → State} {counts : W → Counts} {found : Found} {old new : Kept W} {input left : List ℕ} {a : State} {x : Counts} {status : Status} → (state old.site).now.told ≡ a.now.told ++ opening_line found → NoneFell x (counts old.site) → PlaysRight state counts (engine_of found) old new input left status
    → RunsBy (WorksFor state new) found input left a (state new.site) x (counts new.site) status
unfolding run_pieces
script_played {W} {state} {counts} {found} {old} {new} {input} {left} {a} {x} {status} line fell p =
    let e : Engine = engine_of found in
    let script : List Request = script_of input in
    record {
      taken = p.taken;
      in_order = p.in_order;
      whole = suc p.whole;
      read_before = omega (arith, p.read_before);
      behind = p.little;
      ends = run_ends found script p.taken p.whole status p.stops;
      told = told_behind (opening_line found) (pieces_of e script) p.whole status a (state old.site) (state new.site) line p.told;
      holds = with_room status p.whole
          (subst (λ (n : ℕ). UnlessBroken status (WorksFor state new (machine_after found (take n script)))) (sym (made_behind status p.whole))
          (unless_broken status (λ (all : IsEngine state new (after_requests e (take (texts_made status p.whole) script))). all.works) p.holds));
      spared = on_short status (λ spared some.
          subst (λ (n : ℕ). IsSpared (λ (requests : List Request). WorksFor state new (machine_after found requests)) script n x (counts new.site)) (sym (one_less p.whole))
          (later_spared (λ requests. IsEngine state new (after_requests e requests)) (λ requests. WorksFor state new (machine_after found requests)) script p.whole (λ requests all. all.works) fell.shorts (omega arith) spared)) p.spared;
      numbered = subst (λ (n : ℕ). AreNumbered e (take n script)) (sym (made_behind status p.whole)) p.numbered;
    }

-- the statuses by which nothing was told
abbrev OnNothing : Status → Type 0
OnNothing OutOfMemory = Unit {0}
OnNothing (DiskFault fault) = Unit {0}
OnNothing _ = ⊥

nothing_told : {Holds : Machine → Type 0} (found : Found) (input : List ℕ) (a b : State) (x y : Counts) (status : Status) → OnNothing status → b.now.told ≡ a.now.told → RunsBy Holds found input input a b x y status
nothing_told found input a b x y OutOfMemory on same = record {
  taken = [];
  in_order = refl;
  whole = 0;
  read_before = omega arith;
  behind = refl;
  ends = omega arith;
  told = told_nothing (run_pieces found (script_of input)) OutOfMemory same;
  holds = tt;
  spared = λ some. absurd (omega (arith, some));
  numbered = inl refl;
}
nothing_told found input a b x y (DiskFault fault) on same = record {
  taken = [];
  in_order = refl;
  whole = 0;
  read_before = omega arith;
  behind = refl;
  ends = omega arith;
  told = told_nothing (run_pieces found (script_of input)) (DiskFault fault) same;
  holds = tt;
  spared = tt;
  numbered = inl refl;
}
nothing_told found input a b x y _ on same = absurd on

-- the opened line wasn't told, or a front of it
pub line_untold : {Holds : Machine → Type 0} (found : Found) (input : List ℕ) (a b : State) (x y : Counts) (status : Status) → Holds (machine_of found) → TellsPiece (opening_line found) a b (Err status)
    → RunsBy Holds found input input a b x y status
unfolding run_pieces
line_untold found input a b x y OutputFault holds tells = record {
  taken = [];
  in_order = refl;
  whole = 0;
  read_before = omega arith;
  behind = refl;
  ends = omega arith;
  told = record {
    front = tells.0;
    text = ap (λ (s : State). s.now.told) tells.1 ∙ ap (λ (l : List ℕ). l ++ take tells.0 (opening_line found)) (sym (append-nil a.now.told));
  };
  holds = holds;
  spared = tt;
  numbered = inl refl;
}
line_untold found input a b x y OutOfMemory holds tells = nothing_told found input a b x y OutOfMemory tt (ap (λ (s : State). s.now.told) tells)
line_untold found input a b x y _ holds tells = absurd tells

-- what is told is the line of the store's report
pub tells_opening : (found : Found) (report : OpenReport) (bytes : List ℕ) (a b : State) (result : Result (Unit {0}) Status) → bytes ≡ opened_line report.commits report.rows report.redone → report ≡ report_of found → TellsPiece bytes a b result
    → TellsPiece (opening_line found) a b result
tells_opening found report bytes a b result text same tells = subst (λ (l : List ℕ). TellsPiece l a b result) (text ∙ ap (λ (r : OpenReport). opened_line r.commits r.rows r.redone) same) tells

-- ---- behind the opening

-- nothing was told before it, and the site was given back
pub run_behind : {W : Type 0} {state : W → State} (counts : W → Counts) {found : Found} {core : Kept W} {input left : List ℕ} {a b : State} {x y : Counts} {status : Status} (site : W) → b.now.told ≡ a.now.told → NoneFell x y → site ≡ core.site
    → ((m : Machine) → WorksFor state core m → HoldsStore m (state site)) → RunsBy (WorksFor state core) found input left b (state core.site) y (counts core.site) status → RunsScript found input left a (state site) x (counts site) status
run_behind {W} {state} counts {found} {core} {input} {left} {a} {b} {x} {y} {status} site same fell closed settles runs =
    let script : List Request = script_of input in
    let shorts : (counts core.site).shorts ≡ (counts site).shorts = ap (λ (w : W). (counts w).shorts) (sym closed) in
    record {
      taken = runs.taken;
      in_order = runs.in_order;
      whole = runs.whole;
      read_before = runs.read_before;
      behind = runs.behind;
      ends = runs.ends;
      told = subst (λ (w : W). IsTold (run_pieces found script) runs.whole status a (state w)) (sym closed) (told_from (run_pieces found script) runs.whole status a b (state core.site) same runs.told);
      holds = unless_no_room status runs.whole (unless_broken status (settles (machine_left found script runs.whole status))) runs.holds;
      spared = on_short status (λ spared some.
          later_spared (λ requests. WorksFor state core (machine_after found requests)) (λ requests. HoldsStore (machine_after found requests) (state site)) script (runs.whole - 1)
          (λ requests works. settles (machine_after found requests) works) fell.shorts (omega (arith, shorts)) (spared some)) runs.spared;
      numbered = runs.numbered;
    }

-- it gave up
pub not_opened : (found : Found) (input : List ℕ) (a b : State) (x y : Counts) (error : OpenError) → IsPassing error → FindsNoRoom found error → b.now.told ≡ a.now.told → RunsScript found input input a b x y (status_of_opening error)
not_opened found input a b x y OpenShort passing full same = nothing_told found input a b x y OutOfMemory tt same
not_opened found input a b x y (OpenFault fault) passing full same = nothing_told found input a b x y (DiskFault fault) tt same
not_opened found input a b x y (OpenFull n) passing full same = record {
  taken = [];
  in_order = refl;
  whole = 0;
  read_before = omega arith;
  behind = refl;
  ends = record { none_left = full.0; below = full.1 };
  told = told_nothing (run_pieces found (script_of input)) (LogFull n) same;
  holds = tt;
  spared = tt;
  numbered = inl refl;
}
not_opened found input a b x y _ passing full same = absurd passing

-- ---- where nothing was read

pub untold_faults : (x y : Counts) (status : Status) → HasTellCause x y status → (faults : ℕ) → faults ≡ faults_by status faults
untold_faults x y OutputFault cause faults = refl
untold_faults x y OutOfMemory cause faults = refl
untold_faults x y _ cause faults = absurd cause

pub unopened_faults : (error : OpenError) (faults : ℕ) → faults ≡ faults_by (status_of_opening error) faults
unopened_faults OpenShort faults = refl
unopened_faults (OpenFault fault) faults = refl
unopened_faults OpenNone faults = refl
unopened_faults (OpenFull n) faults = refl
unopened_faults (OpenDamaged file place) faults = refl
