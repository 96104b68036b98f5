-- What an append and a flush do to a site.
use Rattle.std.proofs.Common.{◌≡◌, ℕ, ◌+◌, ◌^◌, ◌<◌, ◌≤◌, true, List, [], ◌∷◌, ◌++◌, length, map, Result, Ok, sym, ap, subst, ◌∙◌, arith, length-append}
use Rattle.px_site.specs.declared.name.FileName.{FileName}
use Rattle.px_site.specs.Disk.{Wrote, at_rest, pending_more, overlay}
use Rattle.px_site.specs.State.{State, EachMoment, OnFile, Changes, Syncs}
use Rattle.px_site.specs.declared.error.SiteError.{SiteError}
use Rattle.px_site.proofs.Files.{stands, stands_changed, change_on_file, sync_on_file}
use Rattle.px_change.specs.declared.change.Change.{Change}
use Rattle.px_change.specs.Grammar.{may_hold}
use Rattle.px_change.specs.Text.{change_text}
use Rattle.px_frame.specs.Frame.{frame}
use Rattle.px_scan.specs.Scan.{CanFrames}
use Rattle.px_log.specs.Contents.{log_text}
use Rattle.px_log.specs.MayStand.{MayStand}
use Rattle.px_xlog.specs.Contents.{the_log}
use Rattle.px_log.specs.Window.{longest_frame}
use Rattle.px_log.specs.Log.{Log, grown_file, with_frame, IsLogOf, HasFirst}
use Rattle.px_log.proofs.Appending.{grown_more, grown_all, first_survive, first_of_fewer}
use Rattle.px_log.proofs.FramesOfChanges.{can_frames, stand_more, log_more, length_held_frame}
use Rattle.px_log.proofs.Growing.{overlay_end}

-- the log and a change that it may hold next
pub record MayAppend (log : Log) (change : Change) (bytes : List ℕ) : Type 0 where
  pub held : may_hold log.tables log.frames log.short change ≡ true
  pub below : log.frames < 2 ^ 48
  pub bytes_are : bytes ≡ frame log.frames (change_text change)

pub may_append : (log : Log) (change : Change) (bytes : List ℕ) (number : ℕ) → number ≡ log.frames → number < 2 ^ 48 → may_hold log.tables log.frames log.short change ≡ true → bytes ≡ frame number (change_text change) → MayAppend log change bytes
may_append log change bytes number same below held is = record { held = held; below = omega (arith, same, below); bytes_are = is ∙ ap (λ (n : ℕ). frame n (change_text change)) same }

pub short_frame : (log : Log) (change : Change) (bytes : List ℕ) → MayAppend log change bytes → length bytes ≤ longest_frame
short_frame log change bytes may = omega (arith, ap length may.bytes_are, length_held_frame log.tables log.frames log.short change may.held)

same_frame : (log : Log) (changes : List Change) (change : Change) (bytes : List ℕ) (s0 : State) → IsLogOf log changes s0 → MayAppend log change bytes → bytes ≡ frame (length changes) (change_text change)
same_frame log changes change bytes s0 is may = may.bytes_are ∙ ap (λ (n : ℕ). frame n (change_text change)) is.count

held_more : (log : Log) (changes : List Change) (change : Change) (bytes : List ℕ) (s0 : State) → IsLogOf log changes s0 → MayAppend log change bytes → MayStand log.tables 0 log.short (changes ++ change ∷ [])
held_more log changes change bytes s0 is may =
    let next : log.frames ≡ 0 + length changes = omega (arith, is.count) in
    stand_more log.tables 0 log.short changes change is.held (subst (λ (n : ℕ). may_hold log.tables n log.short change ≡ true) next may.held)

longer : (changes : List Change) (change : Change) → length (changes ++ change ∷ []) ≡ length changes + 1
longer changes change = omega (arith, length-append changes (change ∷ []))

-- the file with the write begun is that of the log with one frame more
append_file : (log : Log) (changes : List Change) (change : Change) (bytes : List ℕ) (s0 : State) → IsLogOf log changes s0 → MayAppend log change bytes
    → grown_file log.durable (changes ++ change ∷ []) ≡ pending_more (Wrote log.size bytes) (grown_file log.durable changes)
append_file log changes change bytes s0 is may =
    let file = grown_file log.durable changes in
    grown_more log.durable changes change is.durable
    ∙ ap (λ (p : ℕ). pending_more (Wrote p (frame (length changes) (change_text change))) file) (sym is.size)
    ∙ ap (λ (b : List ℕ). pending_more (Wrote log.size b) file) (sym (same_frame log changes change bytes s0 is may))

first_more : (log : Log) (changes : List Change) (change : Change) (bytes : List ℕ) (s0 : State) → IsLogOf log changes s0 → MayAppend log change bytes
    → HasFirst log.durable (changes ++ change ∷ []) (pending_more (Wrote log.size bytes) (grown_file log.durable changes))
first_more log changes change bytes s0 is may =
    let more = changes ++ change ∷ [] in
    let room : 0 + length more ≤ 2 ^ 48 = omega (arith, longer changes change, is.count, may.below) in
    let can = can_frames log.tables 0 log.short more (held_more log changes change bytes s0 is may) room in
    let within : log.durable ≤ length more = omega (arith, longer changes change, is.durable) in
    subst (HasFirst log.durable more) (append_file log changes change bytes s0 is may) (first_survive log.durable more can within)

pub append_moments : {T : Type 0} {log : Log} {changes : List Change} {change : Change} {file : FileName} {place : ℕ} {bytes : List ℕ} {s0 s1 : State} {r : Result T SiteError} → IsLogOf log changes s0 → MayAppend log change bytes
    → file ≡ the_log → place ≡ log.size → Changes file (Wrote place bytes) s0 s1 r → EachMoment (OnFile the_log s0.now (HasFirst log.durable (changes ++ change ∷ []))) s0 s1
append_moments {T} {log} {changes} {change} {file} {place} {bytes} {s0} {s1} {r} is may there at moves =
    let here : Changes the_log (Wrote log.size bytes) s0 s1 r = subst (λ (f : FileName). Changes f (Wrote log.size bytes) s0 s1 r) there (subst (λ (p : ℕ). Changes file (Wrote p bytes) s0 s1 r) at moves) in
    change_on_file (stands is.file) here (first_more log changes change bytes s0 is may)

pub append_logged : {T : Type 0} {log : Log} {changes : List Change} {change : Change} {file : FileName} {place : ℕ} {bytes : List ℕ} {s0 s1 : State} {x : T} → IsLogOf log changes s0 → MayAppend log change bytes
    → file ≡ the_log → place ≡ log.size → Changes file (Wrote place bytes) s0 s1 (Ok x) → IsLogOf (with_frame change log) (changes ++ change ∷ []) s1
append_logged {T} {log} {changes} {change} {file} {place} {bytes} {s0} {s1} {x} is may there at moves =
    let begun : Changes the_log (Wrote log.size bytes) s0 s1 (Ok x) = subst (λ (f : FileName). Changes f (Wrote log.size bytes) s0 s1 (Ok x)) there (subst (λ (p : ℕ). Changes file (Wrote p bytes) s0 s1 (Ok x)) at moves) in
    let here = stands_changed (stands is.file) begun in
    let same = same_frame log changes change bytes s0 is may in
    let whole : overlay (s0.content the_log) log.size bytes ≡ log_text (changes ++ change ∷ []) =
    ap (λ (c : List ℕ). overlay c log.size bytes) is.content
    ∙ overlay_end (log_text changes) bytes log.size is.size
    ∙ ap (λ (b : List ℕ). log_text changes ++ b) same
    ∙ sym (log_more changes change) in
    record {
      held = held_more log changes change bytes s0 is may;
      count = omega (arith, longer changes change, is.count);
      durable = omega (arith, longer changes change, is.durable);
      size = omega (arith, is.size, ap length (log_more changes change), length-append (log_text changes) (frame (length changes) (change_text change)), ap length (sym may.bytes_are ∙ same));
      content = here.content ∙ whole;
      file = here.this ∙ sym (append_file log changes change bytes s0 is may);
    }

-- ---- a flush

can_all : (log : Log) (changes : List Change) (s0 : State) → IsLogOf log changes s0 → log.frames ≤ 2 ^ 48 → CanFrames 0 (map change_text changes)
can_all log changes s0 is below = can_frames log.tables 0 log.short changes is.held (omega (arith, is.count, below))

pub flush_moments : {T : Type 0} {log : Log} {changes : List Change} {file : FileName} {s0 s1 : State} {r : Result T SiteError} → IsLogOf log changes s0 → log.frames ≤ 2 ^ 48
    → file ≡ the_log → Syncs file s0 s1 r → EachMoment (OnFile the_log s0.now (HasFirst log.durable changes)) s0 s1
flush_moments {T} {log} {changes} {file} {s0} {s1} {r} is below there syncs =
    let can = can_all log changes s0 is below in
    let rests : at_rest (s0.content the_log) ≡ grown_file (length changes) changes = ap at_rest is.content ∙ sym (grown_all changes) in
    sync_on_file (stands is.file) (subst (λ (f : FileName). Syncs f s0 s1 r) there syncs) (first_survive log.durable changes can is.durable)
    (subst (HasFirst log.durable changes) (sym rests) (first_of_fewer log.durable (length changes) changes _ is.durable (first_survive (length changes) changes can (omega arith))))
