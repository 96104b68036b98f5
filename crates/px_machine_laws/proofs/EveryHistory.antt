-- The invariant of `Overlap` over every call and every step of the sweeper.
use Rattle.std.proofs.Common.{◌≡◌, ℕ, ◌<◌, Bool, true, false, cond, List, [], ◌∷◌, ◌++◌, length, get_or, set, Option, Some, None, refl, sym, ap, subst, ◌∙◌, inl, inr}
use Rattle.std.specs.Prelude.{option_map}
use Rattle.std.proofs.lemmas.Bool.{true≢false, false≢true, cases_lt}
use Rattle.std.proofs.lemmas.Option.{none-some, same_Some}
use Rattle.std.proofs.lemmas.List.{get_or-replicate, get_or_past}
use Rattle.px_model.specs.declared.row.Row.{Row}
use Rattle.px_model.specs.declared.write.Write.{Write}
use Rattle.px_model.specs.declared.write.Write.TheVariants.{Put, Delete}
use Rattle.px_model.specs.declared.machine.Open.{Open}
use Rattle.px_calls.specs.declared.call.Call.{Call}
use Rattle.px_calls.specs.declared.call.Call.TheVariants.{Begin, Get, Hold, Fetch, Find, Scan, Insert, Update, Delete as DeleteCall, Commit, Rollback}
use Rattle.px_calls.specs.declared.reply.Reply.{Reply}
use Rattle.px_calls.specs.declared.reply.Reply.TheVariants.{NoTable, LimitKey, LimitBody, LimitWrites, Conflict}
use Rattle.px_model.specs.Rows.{key_written, row_at, has_write_of}
use Rattle.px_model.specs.Machine.{Machine, fresh, no_session, view}
use Rattle.px_calls.specs.Steps.{write_refusal, is_refusal, if_open, unless_refused, open_of, open_writer, conflict_of, plus_write, plus_kept, entries_of, reply_of, state_after, state_when_done}
use Rattle.px_calls.specs.Sweeps.{swept_state}
use Rattle.px_calls.specs.Histories.{Step, by, sweep, step_state, machine_after, FirstCommitterWins}
use Rattle.px_machine_laws.proofs.Overlap.{Sound, change_slot, close, write_once, option_or_none}

abbrev SoundState : Machine → Type 0
SoundState m = Sound m.ended m.active

-- a refused call leaves the state, and one that is not refused was made in an open transaction
kept : (b : Bool) (m n : Machine) → SoundState m → (b ≡ false → SoundState n) → SoundState (cond b m n)
kept true m n k h = k
kept false m n k h = h refl

opened : (o : Option Open) (f : Open → Reply) → is_refusal (if_open o f) ≡ false → (x : Open) × (o ≡ Some x) × (is_refusal (f x) ≡ false)
opened None f h = absurd (true≢false h)
opened (Some x) f h = (x, refl, h)

-- the refusals of `write_refusal` are refusals
no_conflict : (a b c d : Bool) (o : Option ℕ) (r : Reply)
    → is_refusal (unless_refused (cond a (Some NoTable) (cond b (Some LimitKey) (cond c (Some LimitBody) (cond d (Some LimitWrites) (option_map Conflict o))))) r) ≡ false → o ≡ None
no_conflict true b c d o r h = absurd (true≢false h)
no_conflict false true c d o r h = absurd (true≢false h)
no_conflict false false true d o r h = absurd (true≢false h)
no_conflict false false false true o r h = absurd (true≢false h)
no_conflict false false false false None r h = refl
no_conflict false false false false (Some n) r h = absurd (true≢false h)

-- a write that is not refused
written : (m : Machine) (s : ℕ) (x : Open) (w : Write) → open_of m s ≡ Some x → conflict_of m s x (key_written w) ≡ None → SoundState m
    → Sound m.ended (set m.active s (option_map (plus_write w) (open_of m s)))
unfolding conflict_of
written m s x w o free k =
    let none = option_or_none (open_writer (key_written w) (set m.active s None)) _ free in
    subst (λ slot. Sound m.ended (set m.active s (option_map (plus_write w) slot))) (sym o)
    (write_once m.ended m.active s x w o none.0 none.1 k)

ended_by : (m : Machine) (s : ℕ) (x : Open) (committed : Bool) → open_of m s ≡ Some x → SoundState m
    → Sound (m.ended ++ entries_of committed (open_of m s)) (set m.active s None)
ended_by m s x committed o k =
    subst (λ slot. Sound (m.ended ++ entries_of committed slot) (set m.active s None)) (sym o) (close m.ended m.active s x committed o k)

held : (m : Machine) (s : ℕ) (f : Open → Option Row) → (x : Open) → open_of m s ≡ Some x → SoundState m
    → Sound m.ended (set m.active s (option_map (λ z. plus_kept (f z) z) (open_of m s)))
held m s f x o k =
    subst (λ slot. Sound m.ended (set m.active s (option_map (λ z. plus_kept (f z) z) slot))) (sym o)
    (change_slot m.ended m.active s (Some (plus_kept (f x) x)) k
    (λ y same i e key at c w v.
    let is : plus_kept (f x) x ≡ y = same_Some (plus_kept (f x) x) y same in
    subst (λ z. i < z.snap) is (k.seen s i x e key o at c w (ap (λ z. has_write_of key z.writes) is ∙ v)))
    (λ y same t z key ne q w v.
    let is : plus_kept (f x) x ≡ y = same_Some (plus_kept (f x) x) y same in
    k.apart s t x z key ne o q (ap (λ z. has_write_of key z.writes) is ∙ w) v))

begun : (m : Machine) (s number : ℕ) → SoundState m
    → Sound m.ended (set m.active s (Some (record { number = number; snap = length m.ended; writes = []; kept = [] })))
begun m s number k =
    let new : Open = record { number = number; snap = length m.ended; writes = []; kept = [] } in
    change_slot m.ended m.active s (Some new) k
    (λ y same i e key at c w v. absurd (false≢true (ap (λ z. has_write_of key z.writes) (same_Some new y same) ∙ v)))
    (λ y same t z key ne q w v. false≢true (ap (λ z. has_write_of key z.writes) (same_Some new y same) ∙ w))

pub after_call : (m : Machine) (s : ℕ) (call : Call) → SoundState m → SoundState (state_after m s call)
unfolding state_after state_when_done reply_of write_refusal
after_call m s Begin k = kept _ m _ k (λ h. begun m s _ k)
after_call m s (Get table key) k = kept _ m m k (λ h. k)
after_call m s (Hold table key) k = kept _ m _ k (λ h. let p = opened _ _ h in held m s (λ z. row_at (table, key) (view m z)) p.0 p.1 k)
after_call m s (Fetch ticket) k = kept _ m m k (λ h. k)
after_call m s (Find table tag) k = kept _ m m k (λ h. k)
after_call m s (Scan table) k = kept _ m m k (λ h. k)
after_call m s (Insert table key tag body) k = kept _ m _ k (λ h. let p = opened _ _ h in
    written m s p.0 (Put (record { table = table; key = key; tag = tag; body = body })) p.1 (no_conflict _ _ _ _ _ _ p.2) k)
after_call m s (Update table key tag body) k = kept _ m _ k (λ h. let p = opened _ _ h in
    written m s p.0 (Put (record { table = table; key = key; tag = tag; body = body })) p.1 (no_conflict _ _ _ _ _ _ p.2) k)
after_call m s (DeleteCall table key) k = kept _ m _ k (λ h. let p = opened _ _ h in
    written m s p.0 (Delete table key) p.1 (no_conflict _ _ false _ _ _ p.2) k)
after_call m s Commit k = kept _ m _ k (λ h. let p = opened _ _ h in ended_by m s p.0 true p.1 k)
after_call m s Rollback k = kept _ m _ k (λ h. let p = opened _ _ h in ended_by m s p.0 false p.1 k)

-- a step of the sweeper ends and opens nothing
pub after_step : (m : Machine) (s : Step) → SoundState m → SoundState (step_state m s)
unfolding swept_state
after_step m (by session call) k = after_call m session call k
after_step m sweep k = k

pub after_steps : (m : Machine) (steps : List Step) → SoundState m → SoundState (machine_after m steps)
after_steps m [] k = k
after_steps m (s ∷ steps) k = after_steps (step_state m s) steps (after_step m s k)

nobody : (s : ℕ) (x : Open) → get_or no_session s None ≡ Some x → ⊥
nobody s x o = elim (cases_lt s 16) [
  | inl lt ↦ none-some x (sym (get_or-replicate 16 s None None lt) ∙ o)
  | inr le ↦ none-some x (sym (get_or_past no_session s None le) ∙ o)
]

pub sound_at_first : (tables short : ℕ) (opening : List Row) (before base : ℕ) → SoundState (fresh tables short opening before base)
unfolding fresh
sound_at_first tables short opening before base = record {
  first_wins = λ i j e f key lt at. absurd (none-some e at);
  seen = λ s i x e key o. absurd (nobody s x o);
  apart = λ s t x y key ne o. absurd (nobody s x o);
}

-- over all calls and sweeper steps from a fresh state
pub first_committer_wins : (tables short : ℕ) (opening : List Row) (before base : ℕ) (steps : List Step)
    → FirstCommitterWins (machine_after (fresh tables short opening before base) steps).ended
first_committer_wins tables short opening before base steps =
    (after_steps (fresh tables short opening before base) steps (sound_at_first tables short opening before base)).first_wins
