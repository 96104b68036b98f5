-- Through calls that add no frame the store lasts, and the machine works on.
use Rattle.std.proofs.Common.{◌≡◌, ℕ, true, false, [], ◌∷◌, None, Some, sym, subst}
use Rattle.px_calls.specs.declared.call.Call.{Call}
use Rattle.px_calls.specs.Steps.{is_refusal, open_of, reply_of, state_after}
use Rattle.px_cell_laws.specs.Holding.{HoldsChains}
use Rattle.px_cell_laws.specs.Writing.{is_end}
use Rattle.px_chain_laws.specs.Kept.{IsKept}
use Rattle.px_chain_laws.specs.Writing as calls
use Rattle.px_history.specs.Store.{Store}
use Rattle.px_life.specs.Life.{Life}
use Rattle.px_logged.proofs.Grown.{opening_stays, published_stays}
use Rattle.px_model.specs.Machine.{Machine, commits}
use Rattle.px_model.specs.declared.machine.Open.{Open}
use Rattle.px_reached.specs.Reachable.{Marks}
use Rattle.px_restart.specs.declared.restart.Restart.{Restart}
use Rattle.px_shown.specs.Parts.{Parts}
use Rattle.px_site.specs.State.{Moment}
use Rattle.px_working.specs.Follows.{last_store}
use Rattle.px_working.specs.Lasts.{Lasts}
use Rattle.px_working.specs.Works.{Works}
use Rattle.px_working.proofs.Adding.{CallsKeep}
use Rattle.px_working.proofs.Calling.{no_commit, refused_stays, works_after, wrote_none}
use Rattle.px_working.proofs.Moments.{another_lasts}

pub refused_works : (parts : Parts) (m : Machine) (life : Life) (restart : Restart) (session : ℕ) (call : Call) → Works parts m life restart
    → is_refusal (reply_of m session call) ≡ true → Works parts (state_after m session call) life restart
refused_works parts m life restart session call works refused = subst (λ (n : Machine). Works parts n life restart) (sym (refused_stays m session call refused)) works

pub refused_lasts : (parts : Parts) (least : ℕ) (m : Machine) (life : Life) (restart : Restart) (marks : Marks) (now : Moment) (session : ℕ) (call : Call)
    → Lasts parts least m life restart marks now → is_refusal (reply_of m session call) ≡ true → Lasts parts least (state_after m session call) life restart marks now
refused_lasts parts least m life restart marks now session call lasts refused =
    subst (λ (n : Machine). Lasts parts least n life restart marks now) (sym (refused_stays m session call refused)) lasts

abbrev pub ReadsLeave : Type 0
ReadsLeave = (parts : Parts) (m : Machine) (store : Store) (session : ℕ) (call : Call) → HoldsChains parts m store → IsKept m
    → calls.write_of call ≡ None → is_end call ≡ false → HoldsChains parts (state_after m session call) store

abbrev pub EmptyEndsLeave : Type 0
EmptyEndsLeave = (parts : Parts) (m : Machine) (store : Store) (session : ℕ) (call : Call) (xact : Open)
    → HoldsChains parts m store → IsKept m → is_end call ≡ true → open_of m session ≡ Some xact → xact.writes ≡ []
    → HoldsChains parts (state_after m session call) store

pub reads_work : ReadsLeave → CallsKeep → (parts : Parts) (m : Machine) (life : Life) (restart : Restart) (session : ℕ) (call : Call) → Works parts m life restart
    → calls.write_of call ≡ None → is_end call ≡ false → Works parts (state_after m session call) life restart
reads_work leave keep parts m life restart session call works none no_end =
    works_after parts m life life restart session call works (leave parts m (last_store life) session call works.holds works.kept none no_end) (keep m session call works.kept)

pub empty_ends_work : EmptyEndsLeave → CallsKeep → (parts : Parts) (m : Machine) (life : Life) (restart : Restart) (session : ℕ) (call : Call) (xact : Open)
    → Works parts m life restart → is_end call ≡ true → open_of m session ≡ Some xact → xact.writes ≡ [] → Works parts (state_after m session call) life restart
empty_ends_work leave keep parts m life restart session call xact works ends at none =
    works_after parts m life life restart session call works (leave parts m (last_store life) session call xact works.holds works.kept ends at none) (keep m session call works.kept)

same_commits_last : (parts : Parts) (least : ℕ) (m : Machine) (life : Life) (restart : Restart) (marks : Marks) (now : Moment) (session : ℕ) (call : Call)
    → Lasts parts least m life restart marks now → commits (state_after m session call) ≡ commits m → Lasts parts least (state_after m session call) life restart marks now
same_commits_last parts least m life restart marks now session call lasts same =
    another_lasts parts least m (state_after m session call) life restart marks now lasts (opening_stays m ((session, call) ∷ [])) same (published_stays m ((session, call) ∷ []))

pub reads_last : (parts : Parts) (least : ℕ) (m : Machine) (life : Life) (restart : Restart) (marks : Marks) (now : Moment) (session : ℕ) (call : Call)
    → Lasts parts least m life restart marks now → calls.write_of call ≡ None → is_end call ≡ false → Lasts parts least (state_after m session call) life restart marks now
reads_last parts least m life restart marks now session call lasts none no_end =
    same_commits_last parts least m life restart marks now session call lasts (no_commit m session call no_end)

pub empty_ends_last : (parts : Parts) (least : ℕ) (m : Machine) (life : Life) (restart : Restart) (marks : Marks) (now : Moment) (session : ℕ) (call : Call) (xact : Open)
    → Lasts parts least m life restart marks now → is_end call ≡ true → open_of m session ≡ Some xact → xact.writes ≡ []
    → Lasts parts least (state_after m session call) life restart marks now
empty_ends_last parts least m life restart marks now session call xact lasts ends at none =
    same_commits_last parts least m life restart marks now session call lasts (wrote_none m session call xact ends at none)
