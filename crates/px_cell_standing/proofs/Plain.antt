-- What is read of files that rest is what was written there.
use Rattle.std.proofs.Common.{◌≡◌, ℕ, ◌+◌, ◌≤◌, List, [], ◌++◌, length, map, take, drop, refl, sym, ap, subst, ◌∙◌}
use Rattle.std.proofs.lemmas.List.{drop_at, take_at}
use Rattle.px_change.specs.Text.{change_text}
use Rattle.px_change.specs.declared.change.Change.{Change}
use Rattle.px_frame.specs.Frame.{frame}
use Rattle.px_frame.specs.declared.frame.TheConstants.{HEADER_SIZE}
use Rattle.px_log.proofs.Appending.{appended_fronts, log_parts}
use Rattle.px_log.proofs.Growing.{fronts_none}
use Rattle.px_log.specs.Contents.{log_text}
use Rattle.px_log.specs.Log.{grown_file}
use Rattle.px_restart.specs.Restart.{restart_text}
use Rattle.px_restart.specs.declared.restart.Restart.{Restart}
use Rattle.px_restart.specs.declared.restart.TheConstants.{RESTART_SIZE}
use Rattle.px_restart.specs.declared.text.TheConstants.{VERSION}
use Rattle.px_scan.specs.Scan.{frames}
use Rattle.px_site.specs.Disk.{FileState, at_rest, overlaid}
use Rattle.px_standing.specs.Images.{IsPlainRestart}
use Rattle.px_xlog.specs.Written.{HasAt, IsPlainLog}

-- a restart that checks stands in what was synced
pub plain_restart : (file : FileState) (content : List ℕ) → file ≡ at_rest content → IsPlainRestart file content
plain_restart file content rests = subst (λ (f : FileState). IsPlainRestart f content) (sym rests) (λ restart at. (0, has restart at.front))
  where
    has : (restart : Restart) → content ≡ restart_text VERSION restart ++ drop RESTART_SIZE content → HasAt content 0 (restart_text VERSION restart)
    has restart front =
        let text = restart_text VERSION restart in
        ap (λ (b : List ℕ). take (length text) b) front ∙ take_at text (drop RESTART_SIZE content) (length text) refl

pub frame_has : (content front text rest : List ℕ) → content ≡ front ++ (text ++ rest) → HasAt content (length front) text
frame_has content front text rest e =
    ap (λ (b : List ℕ). take (length text) b) (ap (λ (c : List ℕ). drop (length front) c) e ∙ drop_at front (text ++ rest) (length front) refl)
    ∙ take_at text rest (length text) refl

-- and so does each frame that is read
pub rest_is_plain : (content : List ℕ) → IsPlainLog (at_rest content) content
rest_is_plain content before payload rest can e at =
    let text = frame (length before) payload in
    let parts : content ≡ frames 0 before ++ (text ++ drop (HEADER_SIZE + length payload) rest) = e ∙ ap (λ (b : List ℕ). frames 0 before ++ b) at.front in
    (0, frame_has content (frames 0 before) text (drop (HEADER_SIZE + length payload) rest) parts)

-- with all its writes over it, a log's file is the frames of its changes, so each frame that is read was written there
pub log_is_plain : (durable : ℕ) (changes : List Change) → durable ≤ length changes → IsPlainLog (grown_file durable changes) (log_text changes)
log_is_plain durable changes within before payload rest can e at =
    let file = grown_file durable changes in
    let number = length before in
    let text = frame number payload in
    let all : overlaid file.synced file.pending ≡ log_text changes =
    (appended_fronts file.synced [] file.synced (length file.synced) durable (map change_text (drop durable changes)) (fronts_none file.synced) refl).whole ∙ log_parts durable changes within in
    let parts : log_text changes ≡ frames 0 before ++ (text ++ drop (HEADER_SIZE + length payload) rest) = e ∙ ap (λ (b : List ℕ). frames 0 before ++ b) at.front in
    (0, subst (λ (c : List ℕ). HasAt c (length (frames 0 before)) text) (sym all) (frame_has (log_text changes) (frames 0 before) text (drop (HEADER_SIZE + length payload) rest) parts))
