-- The writes that changes tell, and the rows after those that commit.
use Rattle.std.specs.Prelude.{ℕ, ◌==◌, List, [], ◌∷◌, ◌++◌, if◌then◌else◌}
use Rattle.px_model.specs.declared.row.Row.{Row}
use Rattle.px_model.specs.declared.write.Write.{Write}
use Rattle.px_model.specs.Rows.{after}
use Rattle.px_told.specs.declared.change.Change.{Change}
use Rattle.px_told.specs.declared.change.Change.TheVariants.{Put, Commit, Rollback}

-- the writes of a transaction, in order
abbrev pub writes_of : ℕ → List Change → List Write
writes_of xn [] = []
writes_of xn (Put by write ∷ changes) = if by == xn then write ∷ writes_of xn changes else writes_of xn changes
writes_of xn (Commit by commit ∷ changes) = writes_of xn changes
writes_of xn (Rollback by ∷ changes) = writes_of xn changes

-- at each Commit the writes of its number before it, in the order of the Commits
abbrev pub committed_after : List Change → List Change → List Write
committed_after before [] = []
committed_after before (Put xn write ∷ changes) = committed_after (before ++ Put xn write ∷ []) changes
committed_after before (Commit xn commit ∷ changes) = writes_of xn before ++ committed_after (before ++ Commit xn commit ∷ []) changes
committed_after before (Rollback xn ∷ changes) = committed_after (before ++ Rollback xn ∷ []) changes

unfoldable pub rows_in : List Change → List Row
rows_in changes = after [] (committed_after [] changes)

-- the rows after the writes of the transactions that commit in the changes, over these
unfoldable pub rows_over : List Row → List Change → List Row
rows_over rows changes = after rows (committed_after [] changes)
