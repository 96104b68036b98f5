-- The loop that reads the log.
use Rattle.std.proofs.Common.{◌≡◌, ℕ, ◌+◌, true, List, [], ◌∷◌, ◌++◌, length, map, drop, None, sym, ap, subst, ◌∙◌, arith}
use Rattle.px_frame.specs.Frame.{FrameAt, payload_at}
use Rattle.px_frame.proofs.Frames.{payload_at-again, payload_at-none}
use Rattle.px_scan.specs.Scan.{frames, frames_of}
use Rattle.px_scan.proofs.Loop.{IsScanning, scan_begins, scan_goes_on, scan_ends}
use Rattle.std.proofs.lemmas.List.{drop_at}
use Rattle.px_change.specs.declared.change.Change.{Change}
use Rattle.px_change.specs.Grammar.{may_hold}
use Rattle.px_change.specs.Text.{change_text}
use Rattle.px_restart.specs.declared.restart.Restart.{Restart}
use Rattle.px_scan.proofs.Scans.{is_scan, frames_of-step}
use Rattle.px_log.specs.Contents.{log_text, HoldsNone}
use Rattle.px_log.specs.MayStand.{MayStand}
use Rattle.px_log.specs.Scanning.{IsForeign, IsNext, HasForeign, FindsForeign, FindsDamage, ScansTo}
use Rattle.px_log.specs.declared.error.LogOpenError.{LogOpenError}
use Rattle.px_log.specs.declared.error.LogOpenError.TheVariants.{OutOfMemory, Fault as FaultOf, Damaged}
use Rattle.px_log.specs.Window.{Shows}
use Rattle.px_log.proofs.FramesOfChanges.{map_push_one, length-map-text, stand_more}
use Rattle.px_log.proofs.Windows.{shown, shown_frame}

-- ---- one frame

pub next_shown : (rest bytes : List ℕ) (number : ℕ) (payload : List ℕ) (size : ℕ) (change : Change) → Shows rest bytes → FrameAt bytes number payload → size ≡ 16 + length payload → payload ≡ change_text change → IsNext rest number change size
next_shown rest bytes number payload size change shows at sized is = record {
  frame = subst (FrameAt rest number) is (shown_frame rest bytes number payload shows at);
  size_is = sized ∙ ap (λ (p : List ℕ). 16 + length p) is;
}

pub foreign_shown : (rest bytes : List ℕ) (restart : Restart) (number : ℕ) (payload : List ℕ) → Shows rest bytes → FrameAt bytes number payload → IsForeign restart number payload → HasForeign rest restart number
foreign_shown rest bytes restart number payload shows at foreign = record { payload = payload; frame = shown_frame rest bytes number payload shows at; foreign = foreign }

pub none_shown : (rest bytes : List ℕ) (number : ℕ) → Shows rest bytes → ((payload : List ℕ) → FrameAt bytes number payload → ⊥) → payload_at rest number ≡ None
none_shown rest bytes number shows none = sym (shown rest bytes number shows) ∙ payload_at-none bytes number none

-- ---- all of them

-- so many changes were read, and the next frame is looked for at this place
pub record IsReading (content : List ℕ) (changes : List Change) (stop count : ℕ) : Type 0 where
  pub scanning : IsScanning content 0 (map change_text changes) stop count

pub reading_begins : (content : List ℕ) → IsReading content [] 0 0
reading_begins content = record { scanning = scan_begins content 0 }

pub reading_goes_on : (content : List ℕ) (changes : List Change) (stop count : ℕ) (change : Change) (size : ℕ) → IsReading content changes stop count → IsNext (drop stop content) count change size
    → IsReading content (changes ++ change ∷ []) (stop + size) (count + 1)
reading_goes_on content changes stop count change size reading next =
    let on = scan_goes_on content 0 (map change_text changes) stop count (change_text change) reading.scanning next.frame in
    record {
      scanning = subst (λ (ps : List (List ℕ)). IsScanning content 0 ps (stop + size) (count + 1)) (sym (map_push_one changes change))
          (subst (λ (n : ℕ). IsScanning content 0 (map change_text changes ++ change_text change ∷ []) (stop + n) (count + 1)) (sym next.size_is) on);
    }

-- each of them may stand there, and so may the next
pub held_goes_on : (tables short : ℕ) (changes : List Change) (count : ℕ) (change : Change) → MayStand tables 0 short changes → count ≡ length changes → may_hold tables count short change ≡ true
    → MayStand tables 0 short (changes ++ change ∷ [])
held_goes_on tables short changes count change held many next =
    let here : count ≡ 0 + length changes = omega (arith, many) in
    stand_more tables 0 short changes change held (subst (λ (n : ℕ). may_hold tables n short change ≡ true) here next)

pub reading_ends : (content : List ℕ) (changes : List Change) (stop count : ℕ) → IsReading content changes stop count → payload_at (drop stop content) count ≡ None → ScansTo content changes stop
unfolding log_text
reading_ends content changes stop count reading none =
    let scan = is_scan content 0 in
    let ps = frames_of content 0 in
    let all : map change_text changes ≡ ps = scan_ends content 0 (map change_text changes) stop count reading.scanning none in
    let size : length (frames 0 ps) ≡ stop = ap (λ (qs : List (List ℕ)). length (frames 0 qs)) (sym all) ∙ sym reading.scanning.place in
    let left : drop stop content ≡ scan.0 = ap (drop stop) scan.1.front ∙ drop_at (frames 0 ps) scan.0 stop size in
    record {
      scanned = sym all;
      front = scan.1.front ∙ ap (λ (rest : List ℕ). frames 0 ps ++ rest) (sym left) ∙ ap (λ (qs : List (List ℕ)). frames 0 qs ++ drop stop content) (sym all);
      place = reading.scanning.place;
    }

-- where the next frame is foreign, the log is damaged there
pub reading_damaged : (content : List ℕ) (restart : Restart) (changes : List Change) (stop count : ℕ) → IsReading content changes stop count → MayStand restart.tables 0 restart.short changes
    → HasForeign (drop stop content) restart count → HoldsNone restart content stop
unfolding log_text
reading_damaged content restart changes stop count reading held has =
    let many : count ≡ length changes = omega (arith, reading.scanning.numbered, length-map-text changes) in
    let found = payload_at-again (drop stop content) count has.payload has.frame in
    record {
      before = changes;
      payload = has.payload;
      others = frames_of (drop (16 + length has.payload) (drop stop content)) (count + 1);
      scanned = sym reading.scanning.whole ∙ ap (λ (ps : List (List ℕ)). map change_text changes ++ ps) (frames_of-step (drop stop content) count has.payload found);
      held = held;
      none = λ change ok. has.foreign change (subst (λ (n : ℕ). may_hold restart.tables n restart.short change ≡ true) (sym many) ok);
      at = reading.scanning.place;
    }

-- what the next frame's error says of the whole log
pub damage_found : (content : List ℕ) (restart : Restart) (changes : List Change) (stop count : ℕ) (error : LogOpenError) → IsReading content changes stop count → MayStand restart.tables 0 restart.short changes
    → FindsForeign (drop stop content) restart count stop error → FindsDamage restart content error
damage_found content restart changes stop count OutOfMemory reading held finds = tt
damage_found content restart changes stop count (FaultOf fault) reading held finds = tt
damage_found content restart changes stop count (Damaged file place) reading held finds =
    (finds.0, subst (HoldsNone restart content) (sym finds.1) (reading_damaged content restart changes stop count reading held finds.2))
