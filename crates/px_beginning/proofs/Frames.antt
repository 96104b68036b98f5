-- The changes that were read: whose commits are among them, and that they are what stands in the log.
use Rattle.std.proofs.Common.{◌≡◌, ℕ, zero, suc, ◌+◌, ◌-◌, ◌<◌, ◌++◌, ◌^◌, Bool, cond, true, false, All, List, [], ◌∷◌, length, map, refl, sym, ap, subst, ◌∙◌}
use Rattle.std.specs.Prelude.{if◌then◌else◌}
use Rattle.std.proofs.lemmas.List.{append-nil}
use Rattle.std.proofs.lemmas.List.Elements.{All-append, All-cons, All-head, All-nil, All-tail}
use Rattle.px_apply.specs.Contents.{Contents}
use Rattle.px_change.specs.Text.{change_text}
use Rattle.px_change.specs.declared.change.Change.{Change}
use Rattle.px_change.specs.declared.change.ChangeKind.{ChangeKind}
use Rattle.px_change.specs.declared.change.ChangeKind.TheVariants.{Put, Commit, Rollback, Sweep, Move, Tidy}
use Rattle.px_life.specs.Life.{committed_by, committer}
use Rattle.px_reached.specs.Scanned.{scan, scan_from}
use Rattle.px_restart.specs.declared.restart.Restart.{Restart}
use Rattle.px_scan.specs.Scan.{frames_of, frames_within}
use Rattle.px_scan.specs.Segments.{is_full}
use Rattle.px_site.specs.declared.name.FileName.TheVariants.{Xlog}

-- ---- their numbers

committer_below : (next : ℕ) (kind : ChangeKind) (xn : ℕ) → xn < next → All (λ (n : ℕ). n < next) (committer kind xn)
committer_below next Put xn below = All-nil (λ (n : ℕ). n < next)
committer_below next Commit xn below = All-cons (λ (n : ℕ). n < next) xn [] below (All-nil (λ (n : ℕ). n < next))
committer_below next Rollback xn below = All-nil (λ (n : ℕ). n < next)
committer_below next Sweep xn below = All-nil (λ (n : ℕ). n < next)
committer_below next Move xn below = All-nil (λ (n : ℕ). n < next)
committer_below next Tidy xn below = All-nil (λ (n : ℕ). n < next)

pub committed_below : (next : ℕ) (changes : List Change) → All (λ change. change.xn < next) changes → All (λ (xn : ℕ). xn < next) (committed_by changes)
committed_below next [] below = All-nil (λ (n : ℕ). n < next)
committed_below next (change ∷ changes) below =
    All-append (λ (n : ℕ). n < next) (committer change.kind change.xn) (committed_by changes)
    (committer_below next change.kind change.xn (All-head (λ (c : Change). c.xn < next) change changes below))
    (committed_below next changes (All-tail (λ (c : Change). c.xn < next) change changes below))

-- ---- one segment

none_behind : (most : ℕ) (files : Contents) (number : ℕ) → files (Xlog 2) ≡ [] → scan_from most files 2 number ≡ []
unfolding frames_of frames_within
none_behind zero files number none = refl
none_behind (suc most) files number none =
    subst (λ (bytes : List ℕ). (frames_of bytes number ++ (if is_full bytes number then scan_from most files (2 + 1) (number + length (frames_of bytes number)) else [])) ≡ [])
    (sym none) refl

either : (b : Bool) (l : List (List ℕ)) → l ≡ [] → cond b l [] ≡ []
either true l none = none
either false l none = refl

one_scanned : (most : ℕ) (files : Contents) → files (Xlog 2) ≡ [] → scan_from (suc most) files 1 0 ≡ frames_of (files (Xlog 1)) 0
one_scanned most files none =
    let found = frames_of (files (Xlog 1)) 0 in
    ap (λ (l : List (List ℕ)). found ++ l)
    (either (is_full (files (Xlog 1)) 0) (scan_from most files (1 + 1) (0 + length found)) (none_behind most files (0 + length found) none))
    ∙ append-nil found

pub scanned_alone : (restart : Restart) (files : Contents) (changes : List Change) → restart.segment ≡ 1 → restart.first ≡ 0 → files (Xlog 2) ≡ []
    → scan restart files ≡ map change_text changes → frames_of (files (Xlog 1)) 0 ≡ map change_text changes
unfolding scan
scanned_alone restart files changes segment first none scanned =
    let at : scan_from (2 ^ 32 - restart.segment) files restart.segment restart.first ≡ scan_from (suc 4294967294) files 1 0 =
    ap (λ (k : ℕ). scan_from (2 ^ 32 - k) files k restart.first) segment ∙ ap (λ (n : ℕ). scan_from (2 ^ 32 - 1) files 1 n) first in
    sym (one_scanned 4294967294 files none) ∙ sym at ∙ scanned
