-- The line that a call ends with, behind all else that it did.
use Rattle.std.proofs.Common.{◌≡◌, ℕ, ◌-◌, List, [], ◌++◌, length, take, refl, sym, ap, ◌∙◌, inl, inr, arith}
use Rattle.std.proofs.lemmas.List.{append-nil}
use Rattle.px_site.specs.declared.error.Fault.TheVariants.{Read, Write, Sync, Remove, List as ListFault, Tell}
use Rattle.px_site.specs.declared.name.FileName.{FileName}
use Rattle.px_site.specs.Disk.{FileState}
use Rattle.px_site.specs.State.{State, Moment, EachMoment}
use Rattle.px_site.specs.Cause.{Counts, NoneFell, Rose}
use Rattle.px_site.proofs.Moments.{then_moments, weaker_moments}
use Rattle.px_calls.specs.declared.status.Status.{Status}
use Rattle.px_calls.specs.declared.status.Status.TheVariants.{Done, Usage, BadLine, NoStore, NotEmpty, Damaged, DiskFault, SourceFault, OutputFault, OutOfMemory, LogFull, TooLong}
use Rattle.px_calls.specs.Closing.{closing_line}
use Rattle.px_cell_standing.specs.Found.{Found, HoldsStore, IsSettledStore, machine_of}
use Rattle.px_cell_standing.specs.Images.{CanMake, ImagesAreNew, ImagesStandFor}
use Rattle.px_recovery.specs.Making.{first_file}
use Rattle.px_recovery.proofs.Quiet.{last_moment}
use Rattle.px_play.specs.Input.{script_of}
use Rattle.px_play.specs.Told.{IsTold, joined, last_piece}
use Rattle.px_play.proofs.Acking.{nothing_taken}
use Rattle.px_run.specs.Causes.{NoCountFell, TellsLineAlone}
use Rattle.px_run.specs.Dumping.{DumpsRight, dump_pieces}
use Rattle.px_run.specs.Making.{Made, MakeEnds, MakesRight, RefusesStore, made_pieces}
use Rattle.px_run.specs.Running.{RunsRight, TakesAsTold, answers_made, machine_after, machine_left, run_pieces}
use Rattle.px_run.specs.Told.{HasFilesOf, OnlyTells, TellFailed, TellsInAll, last_text}
use Rattle.px_run.specs.Working.{Closes, DumpsRows, MakesStore, RefusesQuietly, RunsScript}
use Rattle.px_cell_standing.proofs.Syncing.{settled_alike, stand_alike, store_alike}
use Rattle.px_run.proofs.Alike.{new_alike}
use Rattle.px_run.proofs.Complete.{first_wins}
use Rattle.px_run.proofs.Dumped.{later_done}
use Rattle.px_run.proofs.Pieces.{only_nothing, only_spoke, then_only, told_nothing}
use Rattle.px_run.proofs.Scripts.{later_spared, on_short, unless_broken, unless_no_room}

-- ---- the line

pub only_closes : {status : Status} {b c : State} {x y : Counts} → Closes status b c x y → OnlyTells b c
only_closes {status} {b} {c} {x} {y} closes = elim closes.is as (λ _. OnlyTells b c) [
  | inl told ↦ only_spoke (closing_line status) (take closes.front (closing_line status)) told
  | inr none ↦ only_nothing none.0
]

closes_text : {status : Status} {b c : State} {x y : Counts} (closes : Closes status b c x y) → c.now.told ≡ b.now.told ++ take closes.front (closing_line status)
closes_text {status} {b} {c} {x} {y} closes = elim closes.is as (λ _. c.now.told ≡ b.now.told ++ take closes.front (closing_line status)) [
  | inl told ↦ ap (λ (s : State). s.now.told) told
  | inr none ↦ ap (λ (s : State). s.now.told) none.0 ∙ sym (append-nil b.now.told) ∙ ap (λ (n : ℕ). b.now.told ++ take n (closing_line status)) (sym none.1)
]

earlier_failed : (x y z : Counts) → NoCountFell x y → TellFailed y z → TellFailed x z
earlier_failed x y z fell failed = elim failed as (λ _. TellFailed x z) [
  | inl rose ↦ inl (omega (arith, fell.tell_faults, rose))
  | inr rose ↦ inr (omega (arith, fell.shorts, rose))
]

-- ---- what was told

-- at an output's fault the tell failed
abbrev pub OnOutput : Status → Type 0 → Type 0
OnOutput OutputFault P = P
OnOutput _ P = Unit {0}

closed_with : (pieces : List (List ℕ)) (whole : ℕ) (status : Status) {a b c : State} {x y z : Counts} → last_text pieces whole status ≡ closing_line status → last_piece pieces whole status ≡ [] → IsTold pieces whole status a b → Closes status b c y z → NoCountFell x y
    → TellsInAll pieces whole status a c x z
closed_with pieces whole status {a} {b} {c} {x} {y} {z} last none told closes fell =
    let so_far : List ℕ = a.now.told ++ joined (take whole pieces) in
    let front : List ℕ = take closes.front (closing_line status) in
    record {
      front = closes.front;
      text = closes_text closes ∙ ap (λ (l : List ℕ). l ++ front) (told.text ∙ ap (λ (l : List ℕ). so_far ++ l) (nothing_taken told.front (last_piece pieces whole status) none) ∙ append-nil so_far)
          ∙ ap (λ (l : List ℕ). so_far ++ take closes.front l) (sym last);
      cut = λ short. earlier_failed x y z fell (closes.cut (omega (arith, short, ap length last)));
    }

closing_none : closing_line OutputFault ≡ []
unfolding closing_line
closing_none = refl

pub told_in_all : (pieces : List (List ℕ)) (whole : ℕ) (status : Status) {a b c : State} {x y z : Counts} → IsTold pieces whole status a b → Closes status b c y z → NoCountFell x y → OnOutput status (Rose x.tell_faults z.tell_faults)
    → TellsInAll pieces whole status a c x z
told_in_all pieces whole OutputFault {a} {b} {c} {x} {y} {z} told closes fell fault = record {
  front = told.front;
  text = closes_text closes ∙ ap (λ (l : List ℕ). b.now.told ++ l) (nothing_taken closes.front (closing_line OutputFault) closing_none) ∙ append-nil b.now.told ∙ told.text;
  cut = λ short. inl fault;
}
told_in_all pieces whole Done told closes fell fault = closed_with pieces whole Done refl refl told closes fell
told_in_all pieces whole Usage told closes fell fault = closed_with pieces whole Usage refl refl told closes fell
told_in_all pieces whole (BadLine k) told closes fell fault = closed_with pieces whole (BadLine k) refl refl told closes fell
told_in_all pieces whole NoStore told closes fell fault = closed_with pieces whole NoStore refl refl told closes fell
told_in_all pieces whole NotEmpty told closes fell fault = closed_with pieces whole NotEmpty refl refl told closes fell
told_in_all pieces whole (Damaged file place) told closes fell fault = closed_with pieces whole (Damaged file place) refl refl told closes fell
told_in_all pieces whole (DiskFault fault) told closes fell _ = closed_with pieces whole (DiskFault fault) refl refl told closes fell
told_in_all pieces whole SourceFault told closes fell fault = closed_with pieces whole SourceFault refl refl told closes fell
told_in_all pieces whole OutOfMemory told closes fell fault = closed_with pieces whole OutOfMemory refl refl told closes fell
told_in_all pieces whole (LogFull n) told closes fell fault = closed_with pieces whole (LogFull n) refl refl told closes fell
told_in_all pieces whole TooLong told closes fell fault = closed_with pieces whole TooLong refl refl told closes fell

-- ---- a refusal

pub alone : (status : Status) (a b c : State) (x y z : Counts) → RefusesQuietly a b status → Closes status b c y z → NoCountFell x y → TellsLineAlone a c x z status
alone Usage a b c x y z same closes fell =
    let only = then_only (only_nothing same) (only_closes closes) in
    (told_in_all [] 0 Usage (told_nothing [] Usage (ap (λ (s : State). s.now.told) same)) closes fell tt, only.content, only.moments)
alone NoStore a b c x y z same closes fell =
    let only = then_only (only_nothing same) (only_closes closes) in
    (told_in_all [] 0 NoStore (told_nothing [] NoStore (ap (λ (s : State). s.now.told) same)) closes fell tt, only.moments)
alone (Damaged file place) a b c x y z same closes fell = told_in_all [] 0 (Damaged file place) (told_nothing [] (Damaged file place) same) closes fell tt
alone Done a b c x y z same closes fell = tt
alone (BadLine k) a b c x y z same closes fell = tt
alone NotEmpty a b c x y z same closes fell = tt
alone (DiskFault fault) a b c x y z same closes fell = tt
alone SourceFault a b c x y z same closes fell = tt
alone OutputFault a b c x y z same closes fell = tt
alone OutOfMemory a b c x y z same closes fell = tt
alone (LogFull n) a b c x y z same closes fell = tt
alone TooLong a b c x y z same closes fell = tt

-- ---- each word

made_still : (tables short : ℕ) (a b c : State) → Made tables short a b → OnlyTells b c → Made tables short a c
made_still tables short a b c made only = record {
  was_free = made.was_free;
  content = ap (λ (f : FileName → List ℕ). f first_file) only.content ∙ made.content;
  durable = ap (λ (f : FileName → FileState). f first_file) only.files ∙ made.durable;
  others = λ name other. ap (λ f. f name) only.content ∙ made.others name other;
  others_files = λ name other. ap (λ f. f name) only.files ∙ made.others_files name other;
  settled = λ can. settled_alike b c 0 [] only.content only.files (made.settled can);
}

refuses_still : (a b c : State) → RefusesStore a b → b.now.files ≡ a.now.files → OnlyTells b c → RefusesStore a c
refuses_still a b c refuses files only = record {
  used = refuses.used;
  content = only.content ∙ refuses.content;
  files = then_moments refuses.files (weaker_moments (λ m has. record { same = has.same ∙ files }) only.moments);
}

files_still : {a b : State} → EachMoment (HasFilesOf a.now) a b → b.now.files ≡ a.now.files
files_still {a} {b} moments = last_moment (λ (m : Moment). m.files ≡ a.now.files) refl (weaker_moments (λ m has. has.same) moments)

make_ends : (tables short : ℕ) (a b c : State) (whole : ℕ) (status : Status) → MakeEnds tables short a b whole status → OnlyTells b c → MakeEnds tables short a c whole status
make_ends tables short a b c whole Done ends only = (ends.0, made_still tables short a b c ends.1 only)
make_ends tables short a b c whole OutputFault ends only = (ends.0, made_still tables short a b c ends.1 only)
make_ends tables short a b c whole NotEmpty ends only = (ends.0, refuses_still a b c ends.1 (files_still ends.1.files) only)
make_ends tables short a b c whole (DiskFault Read) ends only = (ends.0, then_only ends.1 only)
make_ends tables short a b c whole (DiskFault ListFault) ends only = (ends.0, then_only ends.1 only)
make_ends tables short a b c whole (DiskFault Write) ends only = ends
make_ends tables short a b c whole (DiskFault Sync) ends only = ends
make_ends tables short a b c whole (DiskFault Remove) ends only = ends
make_ends tables short a b c whole (DiskFault Tell) ends only = ends
make_ends tables short a b c whole OutOfMemory ends only = ends
make_ends tables short a b c whole _ ends only = absurd ends

pub make_closed : (tables short : ℕ) (a b c : State) (x y z : Counts) (status : Status) → MakesStore tables short a b status → Closes status b c y z → NoCountFell x y → OnOutput status (Rose x.tell_faults z.tell_faults) → MakesRight tables short a c x z status
make_closed tables short a b c x y z status makes closes fell fault = record {
  whole = makes.whole;
  ends = make_ends tables short a b c makes.whole status makes.ends (only_closes closes);
  spared = λ used. then_only (makes.spared used) (only_closes closes);
  told = told_in_all (made_pieces tables short) makes.whole status makes.told closes fell fault;
}

pub dump_closed : (found : Found) (a b c : State) (x y z : Counts) (status : Status) → DumpsRows found a b status → Closes status b c y z → NoCountFell x y → OnOutput status (Rose x.tell_faults z.tell_faults) → DumpsRight found a c x z status
dump_closed found a b c x y z status dumps closes fell fault = record {
  whole = dumps.tells.whole;
  ends = dumps.tells.ends;
  told = told_in_all (dump_pieces found.rows) dumps.tells.whole status dumps.tells.told closes fell fault;
  holds = later_done status (store_alike (machine_of found) b c (only_closes closes).content (only_closes closes).files) dumps.holds;
}

pub run_closed : (found : Found) (input left : List ℕ) (a b c : State) (x y z : Counts) (status : Status) → RunsScript found input left a b x y status → Closes status b c y z → NoCountFell x y → NoneFell y z → OnOutput status (Rose x.tell_faults z.tell_faults)
    → RunsRight found input left a c x z status
run_closed found input left a b c x y z status runs closes fell later fault = record {
  taken = runs.taken;
  in_order = runs.in_order;
  whole = runs.whole;
  read_before = runs.read_before;
  ends = runs.ends;
  told = told_in_all (run_pieces found (script_of input)) runs.whole status runs.told closes fell fault;
  holds = unless_no_room status runs.whole
      (unless_broken status (store_alike (machine_left found (script_of input) runs.whole status) b c (only_closes closes).content (only_closes closes).files)) runs.holds;
  spared = on_short status (λ spared some.
      later_spared (λ requests. HoldsStore (machine_after found requests) b) (λ requests. HoldsStore (machine_after found requests) c) (script_of input) (runs.whole - 1)
      (λ requests. store_alike (machine_after found requests) b c (only_closes closes).content (only_closes closes).files) (omega arith) later.shorts (spared some)) runs.spared;
  numbered = runs.numbered;
  first_committer_wins = first_wins found (take (answers_made status runs.whole) (script_of input));
}

pub taken_closed : (found : Found) (input left : List ℕ) (a b c : State) (x y z : Counts) (status : Status) → RunsScript found input left a b x y status → Closes status b c y z → NoCountFell x y → OnOutput status (Rose x.tell_faults z.tell_faults)
    → TakesAsTold found input left a c x z status
taken_closed found input left a b c x y z status runs closes fell fault = record {
  whole = runs.whole;
  told = told_in_all (run_pieces found (script_of input)) runs.whole status runs.told closes fell fault;
  taken = runs.behind;
}

-- ---- at each moment

pub new_closed : {a b c : State} → CanMake a → EachMoment ImagesAreNew a b → OnlyTells b c → EachMoment ImagesAreNew a c
new_closed {a} {b} {c} can moments only =
    let now : ImagesAreNew b.now = last_moment ImagesAreNew can.images moments in
    then_moments moments (weaker_moments (λ m has. new_alike b.now m has.same now) only.moments)

pub same_closed : {a b c : State} (found : Found) → IsSettledStore found a → EachMoment (ImagesStandFor found.commits found.rows) a b → OnlyTells b c → EachMoment (ImagesStandFor found.commits found.rows) a c
same_closed {a} {b} {c} found store moments only =
    let now = last_moment (ImagesStandFor found.commits found.rows) store.settled.images moments in
    then_moments moments (weaker_moments (λ m has. stand_alike b.now m found.commits found.rows has.same now) only.moments)
