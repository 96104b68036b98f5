-- What tickets keep, and what the machine's transactions keep.
use Rattle.std.proofs.Common.{◌≡◌, ℕ, ◌+◌, ◌<◌, ◌==◌, Bool, true, false, cond, List, [], ◌∷◌, ◌++◌, length, get_or, set, Option, Some, None, option_map, refl, sym, ap, subst, ◌∙◌, inl, inr, zero, suc}
use Rattle.std.specs.Prelude.{is_some}
use Rattle.std.proofs.lemmas.Bool.{cases_eq, cases_lt, true≢false}
use Rattle.std.proofs.lemmas.List.{get_or-set_same, get_or-set_other, get_or_past, set_past}
use Rattle.std.proofs.Math.ListN.{replicate}
use Rattle.std.proofs.lemmas.Option.{none-some}
use Rattle.px_calls.proofs.EveryMachine.{refusal_changes_nothing}
use Rattle.px_calls.specs.declared.call.Call.{Call}
use Rattle.px_calls.specs.declared.call.Call.TheVariants.{Begin, Commit, Delete as DeleteCall, Fetch, Find, Get, Hold, Insert, Rollback, Scan, Update}
use Rattle.px_calls.specs.declared.reply.Reply.{Reply}
use Rattle.px_calls.specs.declared.reply.Reply.TheVariants.{Began, Committed, EndedEmpty, Held, LimitBegins, OpenAlready, RolledBack}
use Rattle.px_calls.specs.Steps.{begins_spent, closed, if_open, is_refusal, new_transaction, open_of, plus_kept, plus_write, reply_of, state_after, state_when_done, with_slot}
use Rattle.px_calls.specs.Sweeps.{swept_state}
use Rattle.px_cell_laws.specs.Writing.{is_end}
use Rattle.px_model.specs.declared.limits.TheConstants.{SESSIONS}
use Rattle.px_model.specs.declared.machine.Open.{Open}
use Rattle.px_model.specs.declared.row.Row.{Row}
use Rattle.px_model.specs.declared.write.Write.{Write}
use Rattle.px_model.specs.declared.write.Write.TheVariants.{Delete, Put}
use Rattle.px_model.specs.Machine.{Machine, commits, fresh, view}
use Rattle.px_model.specs.Rows.{row_at}
use Rattle.px_answers.specs.Keeping.{Kept, KeepsTickets, is_hold, kept_by, kept_in, none_kept, with_kept, without_kept}

-- a session that has a transaction has its place
has_place : (active : List (Option Open)) (session : ℕ) (x : Open) → get_or active session None ≡ Some x → session < length active
has_place active session x at = elim (cases_lt session (length active)) [
  | inl within ↦ within
  | inr past ↦ absurd (none-some x (sym (get_or_past active session None past) ∙ at))
]

-- a row is kept on both sides
pub kept_one_more : (kept : Kept) (m : Machine) (session : ℕ) (x : Open) (row : Row) → KeepsTickets kept m → session < length kept → open_of m session ≡ Some x
    → KeepsTickets (with_kept kept session row) (with_slot m session (Some (plus_kept (Some row) x)))
kept_one_more kept m session x row keeps within at t bound = elim (cases_eq t session) [
  | inl here ↦
      ap (λ n. get_or (with_kept kept session row) n []) here
      ∙ get_or-set_same kept session (kept_by kept session ++ row ∷ []) [] within
      ∙ ap (λ (l : List Row). l ++ row ∷ []) (keeps session (subst (λ n. n < SESSIONS) here bound) ∙ ap kept_in at)
      ∙ ap kept_in (sym (ap (λ n. get_or (set m.active session (Some (plus_kept (Some row) x))) n None) here
      ∙ get_or-set_same m.active session (Some (plus_kept (Some row) x)) None (has_place m.active session x at)))
  | inr other ↦
      get_or-set_other kept session t (kept_by kept session ++ row ∷ []) [] other
      ∙ keeps t bound
      ∙ ap kept_in (sym (get_or-set_other m.active session t (Some (plus_kept (Some row) x)) None other))
]

-- a hold that is answered keeps the row of the view
pub held_state : (m : Machine) (session table ticket : ℕ) (key : List ℕ) (x : Open) (row : Row) → open_of m session ≡ Some x
    → row_at (table, key) (view m x) ≡ Some row → Held ticket ≡ reply_of m session (Hold table key)
    → state_after m session (Hold table key) ≡ with_slot m session (Some (plus_kept (Some row) x))
unfolding state_after state_when_done
held_state m session table ticket key x row at seen replied =
    ap (λ r. cond (is_refusal r) m (state_when_done m session (Hold table key))) (sym replied)
    ∙ ap (λ (o : Option Open). with_slot m session (option_map (λ (xact : Open). plus_kept (row_at (table, key) (view m xact)) xact) o)) at
    ∙ ap (λ o. with_slot m session (Some (plus_kept o x))) seen

-- a refusal keeps what was kept
pub refused_keeps : (kept : Kept) (m : Machine) (session table : ℕ) (key : List ℕ) (reply : Reply) → KeepsTickets kept m
    → reply ≡ reply_of m session (Hold table key) → is_refusal reply ≡ true → KeepsTickets kept (state_after m session (Hold table key))
refused_keeps kept m session table key reply keeps replied refused =
    subst (KeepsTickets kept) (sym (refusal_changes_nothing m session (Hold table key) (ap is_refusal (sym replied) ∙ refused))) keeps

-- ---- call by call

-- one place changes, and what it keeps doesn't
kept_there : (active : List (Option Open)) (s t : ℕ) (x : Option Open) → kept_in x ≡ kept_in (get_or active s None)
    → kept_in (get_or (set active s x) t None) ≡ kept_in (get_or active t None)
kept_there active s t x same = elim (cases_eq t s) [
  | inl here ↦ elim (cases_lt s (length active)) [
    | inl within ↦ ap (λ n. kept_in (get_or (set active s x) n None)) here ∙ ap kept_in (get_or-set_same active s x None within) ∙ same
        ∙ ap (λ n. kept_in (get_or active n None)) (sym here)
    | inr past ↦ ap (λ l. kept_in (get_or l t None)) (set_past active s x past)
  ]
  | inr other ↦ ap kept_in (get_or-set_other active s t x None other)
]

slot_keeps : (kept : Kept) (m : Machine) (session : ℕ) (x : Option Open) → kept_in x ≡ kept_in (open_of m session) → KeepsTickets kept m
    → KeepsTickets kept (with_slot m session x)
slot_keeps kept m session x same keeps t bound = keeps t bound ∙ sym (kept_there m.active session t x same)

written_keeps : (write : Write) (o : Option Open) → kept_in (option_map (plus_write write) o) ≡ kept_in o
written_keeps write None = refl
written_keeps write (Some x) = refl

-- a begin that is answered finds no transaction
none_at_begin : (m : Machine) (session : ℕ) → is_refusal (reply_of m session Begin) ≡ false → kept_in (open_of m session) ≡ []
unfolding reply_of
none_at_begin m session answered = by_slot (open_of m session) answered
  where
    by_slot : (o : Option Open) → is_refusal (cond (is_some o) OpenAlready (cond (begins_spent m) LimitBegins (Began (m.begun + 1)))) ≡ false → kept_in o ≡ []
    by_slot None h = refl
    by_slot (Some x) h = absurd (true≢false h)

done_keeps : (kept : Kept) (m : Machine) (session : ℕ) (call : Call) → is_hold call ≡ false → is_end call ≡ false → KeepsTickets kept m
    → is_refusal (reply_of m session call) ≡ false → KeepsTickets kept (state_when_done m session call)
unfolding state_when_done
done_keeps kept m session Begin hold end keeps answered = λ t bound.
    keeps t bound ∙ sym (kept_there m.active session t (Some (new_transaction m)) (sym (none_at_begin m session answered)))
done_keeps kept m session (Get table key) hold end keeps answered = keeps
done_keeps kept m session (Hold table key) hold end keeps answered = absurd (true≢false hold)
done_keeps kept m session (Fetch ticket) hold end keeps answered = keeps
done_keeps kept m session (Find table tag) hold end keeps answered = keeps
done_keeps kept m session (Scan table) hold end keeps answered = keeps
done_keeps kept m session (Insert table key tag body) hold end keeps answered =
    let write = Put (record { table = table; key = key; tag = tag; body = body }) in
    slot_keeps kept m session (option_map (plus_write write) (open_of m session)) (written_keeps write (open_of m session)) keeps
done_keeps kept m session (Update table key tag body) hold end keeps answered =
    let write = Put (record { table = table; key = key; tag = tag; body = body }) in
    slot_keeps kept m session (option_map (plus_write write) (open_of m session)) (written_keeps write (open_of m session)) keeps
done_keeps kept m session (DeleteCall table key) hold end keeps answered =
    slot_keeps kept m session (option_map (plus_write (Delete table key)) (open_of m session)) (written_keeps (Delete table key) (open_of m session)) keeps
done_keeps kept m session Commit hold end keeps answered = absurd (true≢false end)
done_keeps kept m session Rollback hold end keeps answered = absurd (true≢false end)

pub call_keeps : (kept : Kept) (m : Machine) (session : ℕ) (call : Call) → is_hold call ≡ false → is_end call ≡ false → KeepsTickets kept m
    → KeepsTickets kept (state_after m session call)
unfolding state_after
call_keeps kept m session call hold end keeps =
    (elim (is_refusal (reply_of m session call)) as (λ b. is_refusal (reply_of m session call) ≡ b
    → KeepsTickets kept (cond b m (state_when_done m session call))) [
      | true ↦ λ _. keeps
      | false ↦ λ answered. done_keeps kept m session call hold end keeps answered
    ]) refl

nothing_at : (kept : Kept) (session : ℕ) → kept_by (without_kept kept session) session ≡ []
nothing_at kept session = elim (cases_lt session (length kept)) [
  | inl within ↦ get_or-set_same kept session [] [] within
  | inr past ↦ ap (λ (l : Kept). get_or l session []) (set_past kept session [] past) ∙ get_or_past kept session [] past
]

nobody_at : (active : List (Option Open)) (session : ℕ) → kept_in (get_or (set active session None) session None) ≡ []
nobody_at active session = elim (cases_lt session (length active)) [
  | inl within ↦ ap kept_in (get_or-set_same active session None None within)
  | inr past ↦ ap (λ (l : List (Option Open)). kept_in (get_or l session None)) (set_past active session None past)
      ∙ ap kept_in (get_or_past active session None past)
]

closed_keeps : (kept : Kept) (m : Machine) (session : ℕ) (committed : Bool) → KeepsTickets kept m → KeepsTickets (without_kept kept session) (closed m session committed)
closed_keeps kept m session committed keeps t bound = elim (cases_eq t session) [
  | inl here ↦ ap (λ n. kept_by (without_kept kept session) n) here ∙ nothing_at kept session
      ∙ sym (ap (λ n. kept_in (get_or (set m.active session None) n None)) here ∙ nobody_at m.active session)
  | inr other ↦ get_or-set_other kept session t [] [] other ∙ keeps t bound ∙ ap kept_in (sym (get_or-set_other m.active session t None None other))
]

-- an end that is refused finds no transaction
unopened_keeps : (kept : Kept) (m : Machine) (session : ℕ) → kept_in (open_of m session) ≡ [] → KeepsTickets kept m → KeepsTickets (without_kept kept session) m
unopened_keeps kept m session none keeps t bound = elim (cases_eq t session) [
  | inl here ↦ ap (λ n. kept_by (without_kept kept session) n) here ∙ nothing_at kept session ∙ sym (ap (λ n. kept_in (open_of m n)) here ∙ none)
  | inr other ↦ get_or-set_other kept session t [] [] other ∙ keeps t bound
]

none_at_end : (m : Machine) (session : ℕ) (call : Call) → is_end call ≡ true → is_refusal (reply_of m session call) ≡ true → kept_in (open_of m session) ≡ []
unfolding reply_of
none_at_end m session Commit end refused = by_slot (open_of m session) refused
  where
    by_slot : (o : Option Open) → is_refusal (if_open o (λ xact. cond (length xact.writes == 0) EndedEmpty (Committed (commits m + 1)))) ≡ true → kept_in o ≡ []
    by_slot None h = refl
    by_slot (Some x) h = absurd (true≢false (sym h ∙ answered (length x.writes == 0)))
      where
        answered : (b : Bool) → is_refusal (cond b EndedEmpty (Committed (commits m + 1))) ≡ false
        answered true = refl
        answered false = refl
none_at_end m session Rollback end refused = by_slot (open_of m session) refused
  where
    by_slot : (o : Option Open) → is_refusal (if_open o (λ xact. RolledBack)) ≡ true → kept_in o ≡ []
    by_slot None h = refl
    by_slot (Some x) h = absurd (true≢false (sym h))
none_at_end m session _ end refused = absurd (true≢false (sym end))

end_done : (kept : Kept) (m : Machine) (session : ℕ) (call : Call) → is_end call ≡ true → KeepsTickets kept m → KeepsTickets (without_kept kept session) (state_when_done m session call)
unfolding state_when_done
end_done kept m session Commit end keeps = closed_keeps kept m session true keeps
end_done kept m session Rollback end keeps = closed_keeps kept m session false keeps
end_done kept m session _ end keeps = absurd (true≢false (sym end))

pub end_keeps : (kept : Kept) (m : Machine) (session : ℕ) (call : Call) → is_end call ≡ true → KeepsTickets kept m
    → KeepsTickets (without_kept kept session) (state_after m session call)
unfolding state_after
end_keeps kept m session call end keeps =
    (elim (is_refusal (reply_of m session call)) as (λ b. is_refusal (reply_of m session call) ≡ b
    → KeepsTickets (without_kept kept session) (cond b m (state_when_done m session call))) [
      | true ↦ λ refused. unopened_keeps kept m session (none_at_end m session call end refused) keeps
      | false ↦ λ _. end_done kept m session call end keeps
    ]) refl

pub sweep_keeps : (kept : Kept) (m : Machine) → KeepsTickets kept m → KeepsTickets kept (swept_state m)
unfolding swept_state
sweep_keeps kept m keeps = keeps

-- ---- a fresh machine

-- as many places, all of them empty
empty_places : (count t : ℕ) → get_or (replicate count []) t [] ≡ kept_in (get_or (replicate count None) t None)
empty_places zero t = refl
empty_places (suc count) zero = refl
empty_places (suc count) (suc t) = empty_places count t

pub fresh_keeps : (tables short : ℕ) (opening : List Row) (before base : ℕ) → KeepsTickets none_kept (fresh tables short opening before base)
unfolding fresh
fresh_keeps tables short opening before base t bound = empty_places 16 t
