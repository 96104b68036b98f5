-- The rows after longer lists of changes, and after two runs.
use Rattle.std.proofs.Common.{◌≡◌, ℕ, List, [], ◌∷◌, ◌++◌, refl, sym, ap, ◌∙◌, append_assoc}
use Rattle.std.proofs.lemmas.Grind.{fold-append}
use Rattle.std.proofs.lemmas.List.{append-nil}
use Rattle.std.proofs.lemmas.List.Elements.{Contains-append_left, Contains-append_right, Contains-push}
use Rattle.px_model.specs.declared.row.Row.{Row}
use Rattle.px_model.specs.declared.write.Write.{Write}
use Rattle.px_model.specs.Rows.{after, after_write}
use Rattle.px_told.specs.declared.change.Change.{Change}
use Rattle.px_told.specs.declared.change.Change.TheVariants.{Put, Commit, Rollback}
use Rattle.px_told.specs.Changes.{IsUntold}
use Rattle.px_told.specs.Commits.{HasCommitOf}
use Rattle.px_told.specs.Writes.{committed_after, rows_in, rows_over, writes_of}
use Rattle.px_told.proofs.Changes.{untold_writes, writes_of-append}

pub committed-append : (before changes more : List Change) → committed_after before (changes ++ more) ≡ committed_after before changes ++ committed_after (before ++ changes) more
committed-append before [] more = ap (λ (front : List Change). committed_after front more) (sym (append-nil before))
committed-append before (Put xn write ∷ changes) more =
    committed-append (before ++ Put xn write ∷ []) changes more
    ∙ ap (λ (front : List Change). committed_after (before ++ Put xn write ∷ []) changes ++ committed_after front more) (append_assoc before (Put xn write ∷ []) changes)
committed-append before (Commit xn commit ∷ changes) more =
    ap (λ (writes : List Write). writes_of xn before ++ writes) (
    committed-append (before ++ Commit xn commit ∷ []) changes more
    ∙ ap (λ (front : List Change). committed_after (before ++ Commit xn commit ∷ []) changes ++ committed_after front more) (append_assoc before (Commit xn commit ∷ []) changes))
    ∙ sym (append_assoc (writes_of xn before) (committed_after (before ++ Commit xn commit ∷ []) changes) (committed_after (before ++ Commit xn commit ∷ changes) more))
committed-append before (Rollback xn ∷ changes) more =
    committed-append (before ++ Rollback xn ∷ []) changes more
    ∙ ap (λ (front : List Change). committed_after (before ++ Rollback xn ∷ []) changes ++ committed_after front more) (append_assoc before (Rollback xn ∷ []) changes)

pub rows_more : (rows : List Row) (changes more : List Change) → rows_over rows (changes ++ more) ≡ after (rows_over rows changes) (committed_after changes more)
unfolding rows_over
rows_more rows changes more =
    ap (after rows) (committed-append [] changes more) ∙ fold-append after_write rows (committed_after [] changes) (committed_after changes more)

pub rows_committed : (rows : List Row) (changes : List Change) (xn number : ℕ) → rows_over rows (changes ++ Commit xn number ∷ []) ≡ after (rows_over rows changes) (writes_of xn changes)
rows_committed rows changes xn number = rows_more rows changes (Commit xn number ∷ []) ∙ ap (after (rows_over rows changes)) (append-nil (writes_of xn changes))

pub no_changes : (rows : List Row) → rows_over rows [] ≡ rows
unfolding rows_over
no_changes rows = refl

pub over_none : (changes : List Change) → rows_over [] changes ≡ rows_in changes
unfolding rows_over rows_in
over_none changes = refl

-- ---- two runs

-- of none that commits there is a write in these
abbrev AreOfOthers : (first more : List Change) → Type 0
AreOfOthers first more = (xn : ℕ) → HasCommitOf xn more → writes_of xn first ≡ []

others_behind : (first : List Change) (change : Change) (more : List Change) → AreOfOthers first (change ∷ more) → AreOfOthers first more
others_behind first change more others xn has = others xn (has.0, Contains-append_right (change ∷ []) more (Commit xn has.0) has.1)

one_behind : (first before : List Change) (change : Change) (more : List Change)
    → committed_after (first ++ (before ++ change ∷ [])) more ≡ committed_after (before ++ change ∷ []) more
    → committed_after ((first ++ before) ++ change ∷ []) more ≡ committed_after (before ++ change ∷ []) more
one_behind first before change more same = ap (λ (front : List Change). committed_after front more) (append_assoc first before (change ∷ [])) ∙ same

second_committed : (first before more : List Change) → AreOfOthers first more → committed_after (first ++ before) more ≡ committed_after before more
second_committed first before [] others = refl
second_committed first before (Put xn write ∷ more) others =
    one_behind first before (Put xn write) more (second_committed first (before ++ Put xn write ∷ []) more (others_behind first (Put xn write) more others))
second_committed first before (Commit xn commit ∷ more) others =
    let none = others xn (commit, Contains-append_left (Commit xn commit ∷ []) more (Commit xn commit) (Contains-push [] (Commit xn commit))) in
    ap (λ (writes : List Write). writes ++ committed_after ((first ++ before) ++ Commit xn commit ∷ []) more)
    (writes_of-append xn first before ∙ ap (λ (writes : List Write). writes ++ writes_of xn before) none)
    ∙ ap (λ (writes : List Write). writes_of xn before ++ writes) (one_behind first before (Commit xn commit) more
    (second_committed first (before ++ Commit xn commit ∷ []) more (others_behind first (Commit xn commit) more others)))
second_committed first before (Rollback xn ∷ more) others =
    one_behind first before (Rollback xn) more (second_committed first (before ++ Rollback xn ∷ []) more (others_behind first (Rollback xn) more others))

pub rows_second : (rows : List Row) (changes more : List Change) → ((xn : ℕ) → HasCommitOf xn more → IsUntold xn changes)
    → rows_over (rows_over rows changes) more ≡ rows_over rows (changes ++ more)
unfolding rows_over
rows_second rows changes more apart =
    let its = second_committed changes [] more (λ xn has. untold_writes xn changes (apart xn has)) in
    sym (rows_more rows changes more ∙ ap (after (rows_over rows changes)) (ap (λ (front : List Change). committed_after front more) (sym (append-nil changes)) ∙ its))
