-- What a call adds to the log has its Commits numbered on.
use Rattle.std.proofs.Common.{ℕ, ◌+◌, ◌==◌, Bool, true, false, cond, List, [], ◌∷◌, ◌++◌, length, Option, Some, None, refl, subst}
use Rattle.px_model.specs.declared.machine.Open.{Open}
use Rattle.px_model.specs.declared.write.Write.{Write}
use Rattle.px_model.specs.Machine.{Machine, commits}
use Rattle.px_calls.specs.declared.call.Call.{Call}
use Rattle.px_calls.specs.declared.call.Call.TheVariants.{Insert, Update, Delete, Commit as CommitCall, Rollback as RollbackCall}
use Rattle.px_calls.specs.Steps.{open_of, is_refusal, reply_of}
use Rattle.px_told.specs.declared.change.Change.{Change}
use Rattle.px_told.specs.declared.change.Change.TheVariants.{Commit, Rollback}
use Rattle.px_told.specs.Commits.{CountsFrom, commits_in}
use Rattle.px_logged.specs.Logged.{put_of, end_of, logged_when_done, logged}
use Rattle.px_logged.specs.Recounting.{Recounts}
use Rattle.px_told.proofs.Commits.{counts_on}

put_counts : (m : Machine) (slot : Option Open) (write : Write) → CountsFrom (commits m) (put_of m slot write)
put_counts m None write = tt
put_counts m (Some x) write = tt

end_counts : (m : Machine) (slot : Option Open) (change : ℕ → Change) → ((xn : ℕ) → CountsFrom (commits m) (change xn ∷ [])) → CountsFrom (commits m) (end_of m slot change)
end_counts m None change counts = tt
end_counts m (Some x) change counts = by_writes (length x.writes == 0)
  where
    by_writes : (b : Bool) → CountsFrom (commits m) (cond b [] (change (m.base + x.number) ∷ []))
    by_writes true = tt
    by_writes false = counts (m.base + x.number)

done_counts : (m : Machine) (session : ℕ) (call : Call) → CountsFrom (commits m) (logged_when_done m (open_of m session) call)
done_counts m session (Insert table key tag body) = put_counts m (open_of m session) _
done_counts m session (Update table key tag body) = put_counts m (open_of m session) _
done_counts m session (Delete table key) = put_counts m (open_of m session) _
done_counts m session CommitCall = end_counts m (open_of m session) (λ xn. Commit xn (commits m + 1)) (λ xn. (refl, tt))
done_counts m session RollbackCall = end_counts m (open_of m session) Rollback (λ xn. tt)
done_counts m session _ = tt

unless_added : (last : ℕ) (refused : Bool) (added : List Change) → CountsFrom last added → CountsFrom last (cond refused [] added)
unless_added last true added counts = tt
unless_added last false added counts = counts

logged_counts : (m : Machine) (session : ℕ) (call : Call) → CountsFrom (commits m) (logged m session call)
unfolding logged
logged_counts m session call = unless_added (commits m) (is_refusal (reply_of m session call)) (logged_when_done m (open_of m session) call) (done_counts m session call)

pub counts_more : (changes : List Change) (m : Machine) (session : ℕ) (call : Call) → Recounts changes m → CountsFrom 0 changes → CountsFrom 0 (changes ++ logged m session call)
unfolding commits_in
counts_more changes m session call did counted =
    counts_on 0 changes (logged m session call) counted (subst (λ (k : ℕ). CountsFrom k (logged m session call)) did.commits_are (logged_counts m session call))
