-- What was acknowledged stays kept while a text is told that acknowledges nothing.
use Rattle.std.proofs.Common.{◌≡◌, ℕ, ◌-◌, List, [], ◌++◌, length, take, drop, codes, refl, sym, ap, subst, ◌∙◌, append_assoc, arith}
use Rattle.std.proofs.lemmas.List.{append-nil, drop_at, take_all}
use Rattle.px_site.specs.State.{Moment, telling, told}
use Rattle.px_model.specs.declared.row.Row.{Row}
use Rattle.px_model.specs.Machine.{Machine, commits, fresh, published}
use Rattle.px_engine.specs.Requests.{Request}
use Rattle.px_calls.specs.Texts.{numbered, opened_line}
use Rattle.px_script.specs.Lines.{complete_lines}
use Rattle.px_logged.specs.Recounting.{rows_now}
use Rattle.px_cell_standing.specs.Standing.{StandsFor}
use Rattle.px_standing.specs.Files.{Files}
use Rattle.px_cell_standing.specs.Images.{HasCommitted, KeepsStanding}
use Rattle.px_standing.specs.Images.{IsPlainImage}
use Rattle.px_cell_standing.specs.Found.{Found, machine_of}
use Rattle.px_play.specs.Acknowledged.{HoldsAcknowledged, KeepsAcknowledged, acknowledged}
use Rattle.px_play.proofs.Acking.{follow, holds_at, nothing_taken, out_behind}
use Rattle.px_play.proofs.Parts.{open_nil}
use Rattle.px_play.proofs.Replies.{IsQuiet, line_quiet, numbered_one, quiet_acknowledged}
use Rattle.px_play.proofs.Words.{no_feed_both}
use Rattle.px_run.specs.Running.{engine_of, machine_after, opening_line}
use Rattle.px_run.proofs.Alike.{plain_alike}

-- ---- a text that is told

-- a front of the text was told since, and belongs to it what is being told; the files are as before
pub record TellsFront (text : List ℕ) (before m : Moment) : Type 0 where
  pub files : m.files ≡ before.files
  pub told : (front : ℕ) × (m.told ≡ before.told ++ take front text)
  pub out : (part : ℕ) → (front : ℕ) × (m.told ++ take part m.telling ≡ before.told ++ take front text)

pub front_within : (text : List ℕ) (a : Moment) → TellsFront text a (telling text a)
front_within text a = record { files = refl; told = (0, sym (append-nil a.told)); out = λ part. (part, refl) }

pub front_after : (text : List ℕ) (a : Moment) (n : ℕ) → TellsFront text a (told (take n text) a)
front_after text a n = record {
  files = refl;
  told = (n, refl);
  out = λ part. (n, ap (λ (l : List ℕ). a.told ++ take n text ++ l) (nothing_taken part [] refl) ∙ append-nil (a.told ++ take n text));
}

-- ---- what is kept of what was acknowledged

-- whatever a crash leaves of these files, with all that was told
pub record KeepsTold (m : Machine) (before : List ℕ) (now : Moment) : Type 0 where
  pub each : (image : Files) → IsPlainImage now image → HoldsAcknowledged m (drop (length before) now.told) image

pub told_kept : {m : Machine} {before : List ℕ} {now : Moment} → KeepsAcknowledged m before now → KeepsTold m before now
told_kept {m} {before} {now} keeps = record { each = λ image plain. keeps.each image now.told plain (record { front = 0; text = sym (append-nil now.told) }) }

same_acknowledged : (m : Machine) (x y : List ℕ) (image : Files) → acknowledged m.before x ≡ acknowledged m.before y → HoldsAcknowledged m y image → HoldsAcknowledged m x image
same_acknowledged m x y image same holds = record {
  count = holds.count;
  no_less = omega (arith, holds.no_less, same);
  one_ahead = omega (arith, holds.one_ahead, same);
  made = holds.made;
  stands = holds.stands;
}

-- the text behind what was told acknowledges nothing more
abbrev pub AddsNothing : Machine → (so_far text : List ℕ) → Type 0
AddsNothing m so_far text = (front : ℕ) → acknowledged m.before (so_far ++ take front text) ≡ acknowledged m.before so_far

pub quiet_keeps : {m : Machine} {before : List ℕ} {a now : Moment} (so_far text : List ℕ) → a.told ≡ before ++ so_far → AddsNothing m so_far text → KeepsTold m before a → TellsFront text a now → KeepsAcknowledged m before now
quiet_keeps {m} {before} {a} {now} so_far text is adds keeps tells = record {
  each = λ image out plain is_out.
      let part = tells.out is_out.front in
      let here : drop (length before) a.told ≡ so_far = ap (drop (length before)) is ∙ drop_at before so_far (length before) refl in
      let there : drop (length before) out ≡ so_far ++ take part.0 text = out_behind before so_far text out a.told part.0 (is_out.text ∙ part.1) is in
      let held = subst (λ (l : List ℕ). HoldsAcknowledged m l image) here (keeps.each image (plain_alike a now image tells.files plain)) in
      subst (λ (l : List ℕ). HoldsAcknowledged m l image) (sym there) (same_acknowledged m (so_far ++ take part.0 text) so_far image (adds part.0) held);
  told_later = (so_far ++ take tells.told.0 text, tells.told.1 ∙ ap (λ (l : List ℕ). l ++ take tells.told.0 text) is ∙ append_assoc before so_far (take tells.told.0 text));
}

-- ---- the machine that starts

before_is : (found : Found) → (machine_of found).before ≡ found.commits
unfolding fresh
before_is found = refl

commits_are : (found : Found) → commits (machine_of found) ≡ found.commits
unfolding fresh commits
commits_are found = omega arith

pub rows_are : (found : Found) → rows_now (machine_of found) ≡ found.rows
unfolding fresh published
rows_are found =
    let none : commits (machine_of found) - (machine_of found).before ≡ 0 = omega (arith, before_is found, commits_are found) in
    ap (published (machine_of found)) none

ack_nothing : (n : ℕ) → acknowledged n [] ≡ n
unfolding acknowledged complete_lines
ack_nothing n = refl

acked_first : (found : Found) → acknowledged (machine_of found).before [] ≡ commits (machine_of found)
acked_first found = ack_nothing (machine_of found).before ∙ before_is found ∙ sym (commits_are found)

-- ---- while nothing is acknowledged

-- what stands for all that was found holds all that was acknowledged when nothing was told yet
pub starting_holds : (found : Found) (requests : List Request) (image : Files) → HasCommitted (machine_of found) image → HoldsAcknowledged (machine_after found requests) [] image
starting_holds found requests image has = holds_at (machine_of found) (machine_after found requests) (follow (engine_of found) requests) [] image has (omega (arith, acked_first found)) (omega (arith, acked_first found))

pub opening_holds : (found : Found) (requests : List Request) (image : Files) → StandsFor image found.commits found.rows → HoldsAcknowledged (machine_after found requests) [] image
opening_holds found requests image stands =
    let m : Machine = machine_of found in
    starting_holds found requests image (subst (λ (n : ℕ). StandsFor image n (rows_now m)) (sym (commits_are found)) (subst (λ (rows : List Row). StandsFor image found.commits rows) (sym (rows_are found)) stands))

pub opening_keeps : (found : Found) (requests : List Request) (a now : Moment) → KeepsStanding found.commits found.rows a now → KeepsAcknowledged (machine_after found requests) a.told now
opening_keeps found requests a now keeps = record {
  each = λ image out plain is_out.
      let nothing : drop (length a.told) out ≡ [] =
      out_behind a.told [] now.telling out now.told is_out.front is_out.text (keeps.told ∙ sym (append-nil a.told)) ∙ nothing_taken is_out.front now.telling keeps.telling in
      subst (λ (l : List ℕ). HoldsAcknowledged (machine_after found requests) l image) (sym nothing) (opening_holds found requests image (keeps.images.each image plain));
  told_later = ([], keeps.told ∙ sym (append-nil a.told));
}

pub nothing_behind : (l : List ℕ) → drop (length l) l ≡ []
nothing_behind l = ap (drop (length l)) (sym (append-nil l)) ∙ drop_at l [] (length l) refl

-- before anything is told
pub starting_told : (found : Found) (requests : List Request) (m : Moment) → ((image : Files) → IsPlainImage m image → HoldsAcknowledged (machine_after found requests) [] image) → KeepsTold (machine_after found requests) m.told m
starting_told found requests m holds = record {
  each = λ image plain. subst (λ (l : List ℕ). HoldsAcknowledged (machine_after found requests) l image) (sym (nothing_behind m.told)) (holds image plain);
}

-- ---- texts

pub opening_quiet : (found : Found) → IsQuiet (opening_line found)
unfolding opened_line
opening_quiet found =
    let first : List ℕ = numbered (codes "opened commits") found.commits in
    let second : List ℕ = numbered (codes "rows") (length found.rows) in
    let third : List ℕ = numbered (codes "redone") found.redone in
    line_quiet (first ++ codes " " ++ second ++ codes " " ++ third)
    (no_feed_both (first ++ codes " " ++ second ++ codes " ") third
    (no_feed_both (first ++ codes " " ++ second) (codes " ") (no_feed_both (first ++ codes " ") second (no_feed_both first (codes " ") (numbered_one (codes "opened commits") _ refl) refl) (numbered_one (codes "rows") _ refl)) refl)
    (numbered_one (codes "redone") _ refl)) refl

-- all of the line acknowledges nothing
pub opening_acknowledges : (found : Found) → acknowledged (machine_of found).before (opening_line found) ≡ commits (machine_of found)
opening_acknowledges found =
    let line : List ℕ = opening_line found in
    let m : Machine = machine_of found in
    ap (acknowledged m.before) (sym (take_all (length line) line (omega arith)))
    ∙ quiet_acknowledged m.before [] line (length line) open_nil (opening_quiet found) ∙ acked_first found
