-- The store after an end of a transaction with writes.
use Rattle.std.proofs.Common.{◌≡◌, ◌≢◌, ℕ, ◌+◌, ◌≤◌, ◌==◌, ◌||◌, Bool, true, false, not, List, [], ◌∷◌, ◌++◌, Some, refl, sym, ap, subst, ◌∙◌, arith, ⊎_elim}
use Rattle.std.proofs.lemmas.Bool.{cases_eq, eq-eqb, ne_eqb, or_left}
use Rattle.std.proofs.lemmas.List.Elements.{All-weaker}
use Rattle.px_calls.specs.declared.call.Call.TheVariants.{Commit, Rollback}
use Rattle.px_calls.specs.Steps.{open_of, state_after}
use Rattle.px_cells.specs.declared.slot.Slot.{Slot}
use Rattle.px_chain_laws.specs.Kept.{IsKept}
use Rattle.px_chain_laws.specs.Reading.{is_committed, standing_in}
use Rattle.px_chain_laws.proofs.Moving.{calls_keep_chains}
use Rattle.px_chain_laws.proofs.Reading.{committed_at}
use Rattle.px_history.specs.Steps.{IsStep, Step, after_step}
use Rattle.px_history.specs.Store.{Store, versions_of}
use Rattle.px_history.specs.Writers.{HaveOneWriter}
use Rattle.px_model.specs.Chains.{chain}
use Rattle.px_model.specs.Machine.{Machine, commits}
use Rattle.px_model.specs.Rows.{Key}
use Rattle.px_model.specs.declared.machine.Ended.{Ended}
use Rattle.px_model.specs.declared.machine.Open.{Open}
use Rattle.px_shown.specs.Shown.{Done, done_with}
use Rattle.px_shown.specs.Tables.{AreSound}
use Rattle.px_cell_laws.specs.Holding.{HoldsChains, is_rolled_back}
use Rattle.px_cell_laws.proofs.Beginning.{open_may_commit}
use Rattle.px_cell_laws.proofs.Calling.{found_of, same_chains}
use Rattle.px_cell_laws.proofs.Ends.{KeepsBase, calls_keep_base, commit_ends, ended_is, entry, one_entry, rollback_ends, rolled_back_at}
use Rattle.px_shown.specs.Parts.{Parts}

-- the store's tables, where one transaction has ended
record IsEnded (store : Store) (own : ℕ) (committed : Bool) (done : Done) (over : ℕ → Bool) : Type 0 where
  pub its_done : done own ≡ committed
  pub its_over : over own ≡ not committed
  pub others_done : (xn : ℕ) → xn ≢ own → done xn ≡ store.done xn
  pub others_over : (xn : ℕ) → xn ≢ own → over xn ≡ store.over xn

end_holds : (parts : Parts) (m n : Machine) (store : Store) (s : ℕ) (x : Open) (committed : Bool) (done : Done) (over : ℕ → Bool) → HoldsChains parts m store → IsKept m → open_of m s ≡ Some x
    → KeepsBase m n → n.ended ≡ m.ended ++ entry committed x ∷ [] → ((key : Key) → chain n key ≡ chain m key)
    → IsEnded store (m.base + x.number) committed done over → HoldsChains parts n (record store { done = done; over = over })
end_holds parts m n store s x committed done over h k at keeps ended same is =
    let own = m.base + x.number in
    let e = ended_is m n s x committed k at keeps.base ended in
    let one = k.numbered.open_ones.from_one s x at in
    let next : Store = record store { done = done; over = over } in
    record {
      sound = subst (λ (short : ℕ). AreSound short store.tables store.layouts) (sym keeps.short) h.sound;
      chains = same_chains parts m n store h keeps.base same;
      found = found_of next m.base n.base keeps.base (λ t row.
          All-weaker (λ (slot : Slot). slot.xn ≤ m.base → store.done slot.xn ≡ true) (λ (slot : Slot). slot.xn ≤ m.base → done slot.xn ≡ true)
          (λ slot was low. is.others_done slot.xn (λ its. omega (arith, its, low, one)) ∙ was low) (versions_of store t row) (h.found t row));
      done = λ xn past. ⊎_elim
          (λ (its : xn ≡ own). ap done its ∙ is.its_done ∙ sym (ap (λ (i : ℕ). is_committed (standing_in n (Some i))) its ∙ ap is_committed e.its ∙ committed_at e.place committed))
          (λ (other : xn ≢ own). is.others_done xn other ∙ h.done xn (omega (arith, past, keeps.base)) ∙ sym (ap is_committed (e.others xn (omega (arith, past, keeps.base)) other)))
          (cases_eq xn own);
      over = λ xn past. ⊎_elim
          (λ (its : xn ≡ own). ap over its ∙ is.its_over ∙ sym (ap (λ (i : ℕ). is_rolled_back (standing_in n (Some i))) its ∙ ap is_rolled_back e.its ∙ rolled_back_at e.place committed))
          (λ (other : xn ≢ own). is.others_over xn other ∙ h.over xn (omega (arith, past, keeps.base)) ∙ sym (ap is_rolled_back (e.others xn (omega (arith, past, keeps.base)) other)))
          (cases_eq xn own);
    }

pub commit_follows : (parts : Parts) (m : Machine) (store : Store) (session : ℕ) (xact : Open) → HoldsChains parts m store → IsKept m → HaveOneWriter store
    → open_of m session ≡ Some xact → IsStep parts m.short store (Step.commit (m.base + xact.number) (commits m + 1))
commit_follows parts m store session xact h k one at =
    let its = open_may_commit parts m store session xact h k at in
    record { writer = its; in_front = one.in_front (m.base + xact.number) its }

pub commit_holds : (parts : Parts) (m : Machine) (store : Store) (session : ℕ) (xact : Open) → HoldsChains parts m store → IsKept m → open_of m session ≡ Some xact → xact.writes ≢ []
    → HoldsChains parts (state_after m session Commit) (after_step store (Step.commit (m.base + xact.number) (commits m + 1)))
commit_holds parts m store session xact h k at some =
    let own = m.base + xact.number in
    let its = open_may_commit parts m store session xact h k at in
    end_holds parts m (state_after m session Commit) store session xact true (done_with own store.done) store.over h k at (calls_keep_base m session Commit)
    (commit_ends m session xact at ∙ ap (λ (l : List Ended). m.ended ++ l) (one_entry true xact some))
    (λ key. calls_keep_chains m session Commit key k refl)
    (record {
      its_done = or_left (own == own) (store.done own) (eq-eqb own own refl);
      its_over = its.not_over;
      others_done = λ xn other. ap (λ (b : Bool). b || store.done xn) (ne_eqb xn own other);
      others_over = λ xn other. refl;
    })

pub rollback_follows : (parts : Parts) (m : Machine) (store : Store) (session : ℕ) (xact : Open) → HoldsChains parts m store → IsKept m → open_of m session ≡ Some xact
    → IsStep parts m.short store (Step.rollback (m.base + xact.number))
rollback_follows parts m store session xact h k at = (open_may_commit parts m store session xact h k at).undone

pub rollback_holds : (parts : Parts) (m : Machine) (store : Store) (session : ℕ) (xact : Open) → HoldsChains parts m store → IsKept m → open_of m session ≡ Some xact → xact.writes ≢ []
    → HoldsChains parts (state_after m session Rollback) (after_step store (Step.rollback (m.base + xact.number)))
rollback_holds parts m store session xact h k at some =
    let own = m.base + xact.number in
    let its = open_may_commit parts m store session xact h k at in
    end_holds parts m (state_after m session Rollback) store session xact false store.done (λ number. (number == own) || store.over number) h k at (calls_keep_base m session Rollback)
    (rollback_ends m session xact at ∙ ap (λ (l : List Ended). m.ended ++ l) (one_entry false xact some))
    (λ key. calls_keep_chains m session Rollback key k refl)
    (record {
      its_done = its.undone;
      its_over = or_left (own == own) (store.over own) (eq-eqb own own refl);
      others_done = λ xn other. refl;
      others_over = λ xn other. ap (λ (b : Bool). b || store.over xn) (ne_eqb xn own other);
    })
