-- The transactions stay those of the machine, call by call.
use Rattle.std.proofs.Common.{◌≡◌, ℕ, ◌+◌, ◌-◌, Bool, true, false, cond, ◌||◌, List, [], ◌∷◌, ◌++◌, map, length, take, drop, get_or, set, Option, Some, None, option_map, refl, sym, ap, subst, ◌∙◌, arith, eqb, length-append}
use Rattle.std.specs.Prelude.{is_some, slice_set}
use Rattle.std.proofs.Math.ListN.{get_or-map}
use Rattle.std.proofs.lemmas.Bool.{eqb-true}
use Rattle.std.proofs.Math.Nat.{suc-ne-zero}
use Rattle.std.proofs.lemmas.Simd.{map-map}
use Rattle.std.proofs.Math.Seq.{map-set_same}
use Rattle.std.proofs.lemmas.List.{map-append, map-set, length-map, append-nil, append_assoc, drop-append-le}
use Rattle.std.specs.List.{take-map}
use Rattle.px_model.specs.declared.row.Row.{Row}
use Rattle.px_model.specs.declared.write.Write.{Write}
use Rattle.px_model.specs.declared.machine.Ended.{Ended}
use Rattle.px_model.specs.declared.machine.Flat.{Flat}
use Rattle.px_model.specs.declared.machine.Open.{Open}
use Rattle.px_model.specs.Rows.{Key, key_written}
use Rattle.px_model.specs.Machine.{Machine, fresh, flat, flat_of, flat_from}
use Rattle.px_calls.specs.declared.call.Call.TheVariants.{Begin}
use Rattle.px_calls.specs.declared.reply.Reply.TheVariants.{Began, OpenAlready, LimitBegins}
use Rattle.px_xacts.specs.declared.answers.Begun.TheVariants.{Number}
use Rattle.px_xacts.specs.declared.answers.Begun.TheVariants as xacts_answers
use Rattle.px_calls.specs.Steps.{begins_spent, is_refusal, reply_of, state_after, state_when_done, open_of, with_slot, with_write, plus_write, plus_kept, entries_of, closed, new_transaction}
use Rattle.px_machine_laws.specs.Unwriting.{minus_last, without_last}
use Rattle.px_xacts.specs.declared.write.WriteAt.{WriteAt}
use Rattle.px_xacts.specs.declared.transaction.Transaction.{Transaction}
use Rattle.px_xacts.specs.declared.transaction.Outcome.{Outcome}
use Rattle.px_xacts.specs.Transactions as xacts
use Rattle.px_xacts.specs.Transactions.{Transactions, outcomes_of, unswept, unswept_of, ended, opened}
use Rattle.px_xacts_laws.specs.Mirrors.{Mirrors, Known, KnownWrite, key_at, known_of_transaction, known_of_open, outcome_of, known_of_unswept, known_of_flat, begun_reply}

-- ---- a session's transaction

pub session_known : (m : Machine) (all : Transactions) (session : ℕ) → Mirrors m all
    → known_of_transaction (xacts.open_of all session) ≡ known_of_open (open_of m session)
session_known m all session h =
    sym (get_or-map known_of_transaction all.active session None)
    ∙ ap (λ (l : List (Option Known)). get_or l session None) h.active
    ∙ get_or-map known_of_open m.active session None

-- one place changes on both sides
pub slot_mirrors : (m : Machine) (all : Transactions) (session : ℕ) (x : Option Transaction) (y : Option Open) → Mirrors m all
    → known_of_transaction x ≡ known_of_open y → Mirrors (with_slot m session y) (xacts.with_slot all session x)
slot_mirrors m all session x y h same = record {
  base = h.base;
  begun = h.begun;
  outcomes = h.outcomes;
  queue = h.queue;
  active =
      map-set known_of_transaction all.active session x
      ∙ ap (λ (l : List (Option Known)). set l session (known_of_transaction x)) h.active
      ∙ ap (set (map known_of_open m.active) session) same
      ∙ sym (map-set known_of_open m.active session y);
  swept = h.swept;
}

-- ---- a fresh machine

pub fresh_mirrors : (tables short : ℕ) (opening : List Row) (before base : ℕ) → Mirrors (fresh tables short opening before base) (xacts.fresh base)
unfolding fresh
fresh_mirrors tables short opening before base = record {
  base = refl;
  begun = refl;
  outcomes = refl;
  queue = refl;
  active = refl;
  swept = omega arith;
}

-- ---- writes

abbrev plus_key : Key → Option Known → Option Known
plus_key key None = None
plus_key key (Some known) = Some (known.0, (known.1.0, known.1.1 ++ key ∷ []))

written_at : (x : Option Transaction) (at : WriteAt) → known_of_transaction (option_map (xacts.plus_write at) x) ≡ plus_key (key_at at) (known_of_transaction x)
written_at None at = refl
written_at (Some x) at = ap (λ (keys : List Key). Some (x.number, (x.snap, keys))) (map-append key_at x.writes (at ∷ []))

written : (x : Option Open) (write : Write) → known_of_open (option_map (plus_write write) x) ≡ plus_key (key_written write) (known_of_open x)
written None write = refl
written (Some x) write = ap (λ (keys : List Key). Some (x.number, (x.snap, keys))) (map-append key_written x.writes (write ∷ []))

pub write_mirrors : (m : Machine) (all : Transactions) (session : ℕ) (write : Write) (at : WriteAt) → Mirrors m all
    → key_at at ≡ key_written write → Mirrors (with_write m session write) (xacts.with_write all session at)
write_mirrors m all session write at h same =
    slot_mirrors m all session (option_map (xacts.plus_write at) (xacts.open_of all session)) (option_map (plus_write write) (open_of m session)) h
    (written_at (xacts.open_of all session) at
    ∙ ap (plus_key (key_at at)) (session_known m all session h)
    ∙ ap (λ (key : Key). plus_key key (known_of_open (open_of m session))) same
    ∙ sym (written (open_of m session) write))

abbrev minus_key : Option Known → Option Known
minus_key None = None
minus_key (Some known) = Some (known.0, (known.1.0, take (length known.1.1 - 1) known.1.1))

taken_at : (x : Option Transaction) → known_of_transaction (option_map xacts.minus_last x) ≡ minus_key (known_of_transaction x)
taken_at None = refl
taken_at (Some x) = ap (λ (keys : List Key). Some (x.number, (x.snap, keys)))
    (sym (take-map key_at (length x.writes - 1) x.writes)
    ∙ ap (λ (n : ℕ). take (n - 1) (map key_at x.writes)) (sym (length-map x.writes key_at)))

taken : (x : Option Open) → known_of_open (option_map minus_last x) ≡ minus_key (known_of_open x)
taken None = refl
taken (Some x) = ap (λ (keys : List Key). Some (x.number, (x.snap, keys)))
    (sym (take-map key_written (length x.writes - 1) x.writes)
    ∙ ap (λ (n : ℕ). take (n - 1) (map key_written x.writes)) (sym (length-map x.writes key_written)))

pub unwrite_mirrors : (m : Machine) (all : Transactions) (session : ℕ) → Mirrors m all → Mirrors (without_last m session) (xacts.without_last all session)
unwrite_mirrors m all session h =
    slot_mirrors m all session (option_map xacts.minus_last (xacts.open_of all session)) (option_map minus_last (open_of m session)) h
    (taken_at (xacts.open_of all session) ∙ ap minus_key (session_known m all session h) ∙ sym (taken (open_of m session)))

-- ---- ends

abbrev known_outcomes : Bool → Option Known → List Outcome
known_outcomes committed None = []
known_outcomes committed (Some known) = cond (eqb (length known.1.1) 0) [] (record { number = known.0; committed = committed } ∷ [])

outcomes_at : (committed : Bool) (x : Option Transaction) → outcomes_of committed x ≡ known_outcomes committed (known_of_transaction x)
outcomes_at committed None = refl
outcomes_at committed (Some x) =
    ap (λ (n : ℕ). cond (eqb n 0) [] (record { number = x.number; committed = committed } ∷ [])) (sym (length-map x.writes key_at))

entries_known : (committed : Bool) (y : Option Open) → map outcome_of (entries_of committed y) ≡ known_outcomes committed (known_of_open y)
entries_known committed None = refl
entries_known committed (Some y) =
    elim (eqb (length y.writes) 0) as (λ b. map outcome_of (cond b [] (record { number = y.number; committed = committed; snap = y.snap; writes = y.writes } ∷ []))
    ≡ cond b [] (record { number = y.number; committed = committed } ∷ [])) [
      | true ↦ refl
      | false ↦ refl
    ]
    ∙ ap (λ (n : ℕ). cond (eqb n 0) [] (record { number = y.number; committed = committed } ∷ [])) (sym (length-map y.writes key_written))

abbrev known_write : (place : ℕ) (committed : Bool) → (number : ℕ) → Key → KnownWrite
known_write place committed number key = (place, (number, (committed, key)))

abbrev known_queue : (place : ℕ) (committed : Bool) → Option Known → List KnownWrite
known_queue place committed None = []
known_queue place committed (Some known) = map (known_write place committed known.0) known.1.1

queue_at : (place : ℕ) (committed : Bool) (x : Option Transaction)
    → map known_of_unswept (unswept_of place committed x) ≡ known_queue place committed (known_of_transaction x)
queue_at place committed None = refl
queue_at place committed (Some x) =
    map-map known_of_unswept (unswept place committed x) x.writes ∙ sym (map-map (known_write place committed x.number) key_at x.writes)

flat_known : (place : ℕ) (e : Ended) → map known_of_flat (flat_of place e) ≡ map (known_write place e.committed e.number) (map key_written e.writes)
flat_known place e =
    map-map known_of_flat (λ (w : Write). record { place = place; number = e.number; committed = e.committed; write = w }) e.writes
    ∙ sym (map-map (known_write place e.committed e.number) key_written e.writes)

no_writes : (place : ℕ) (committed : Bool) (y : Open) → eqb (length y.writes) 0 ≡ true → [] ≡ known_queue place committed (known_of_open (Some y))
no_writes place committed y none = ends y.writes none
  where
    ends : (writes : List Write) → eqb (length writes) 0 ≡ true → [] ≡ map (known_write place committed y.number) (map key_written writes)
    ends [] e = refl
    ends (w ∷ writes) e = absurd (suc-ne-zero (length writes) (eqb-true (length (w ∷ writes)) 0 e))

entries_flat : (place : ℕ) (committed : Bool) (y : Option Open)
    → map known_of_flat (flat_from place (entries_of committed y)) ≡ known_queue place committed (known_of_open y)
entries_flat place committed None = refl
entries_flat place committed (Some y) =
    elim (eqb (length y.writes) 0) as (λ b. eqb (length y.writes) 0 ≡ b
    → map known_of_flat (flat_from place (cond b [] (record { number = y.number; committed = committed; snap = y.snap; writes = y.writes } ∷ [])))
    ≡ known_queue place committed (known_of_open (Some y))) [
      | true ↦ λ e. no_writes place committed y e
      | false ↦ λ e.
          ap (map known_of_flat) (append-nil (flat_of place (record { number = y.number; committed = committed; snap = y.snap; writes = y.writes })))
          ∙ flat_known place (record { number = y.number; committed = committed; snap = y.snap; writes = y.writes })
    ] refl

pub flat_from-append : (place : ℕ) (a b : List Ended) → flat_from place (a ++ b) ≡ flat_from place a ++ flat_from (place + length a) b
flat_from-append place [] b = ap (λ (n : ℕ). flat_from n b) (omega arith)
flat_from-append place (e ∷ a) b =
    ap (λ (l : List Flat). flat_of place e ++ l) (flat_from-append (place + 1) a b)
    ∙ ap (λ (n : ℕ). flat_of place e ++ (flat_from (place + 1) a ++ flat_from n b)) (omega arith)
    ∙ sym (append_assoc (flat_of place e) (flat_from (place + 1) a) (flat_from (place + length (e ∷ a)) b))

pub end_mirrors : (m : Machine) (all : Transactions) (session : ℕ) (committed : Bool) → Mirrors m all
    → Mirrors (closed m session committed) (ended all session committed)
end_mirrors m all session committed h =
    let x = xacts.open_of all session in
    let y = open_of m session in
    let known = session_known m all session h in
    let count : length all.outcomes ≡ length m.ended = ap length h.outcomes ∙ length-map m.ended outcome_of in
    let from_none : 0 + length m.ended ≡ length m.ended = omega arith in
    let more : flat (closed m session committed) ≡ flat m ++ flat_from (length m.ended) (entries_of committed y) =
    flat_from-append 0 m.ended (entries_of committed y) ∙ ap (λ (n : ℕ). flat m ++ flat_from n (entries_of committed y)) from_none in
    let longer : length (flat (closed m session committed)) ≡ length (flat m) + length (flat_from (length m.ended) (entries_of committed y)) =
    ap length more ∙ length-append (flat m) (flat_from (length m.ended) (entries_of committed y)) in
    record {
      base = h.base;
      begun = h.begun;
      outcomes =
          ap (λ (l : List Outcome). l ++ outcomes_of committed x) h.outcomes
          ∙ ap (λ (l : List Outcome). map outcome_of m.ended ++ l) (outcomes_at committed x ∙ ap (known_outcomes committed) known ∙ sym (entries_known committed y))
          ∙ sym (map-append outcome_of m.ended (entries_of committed y));
      queue =
          map-append known_of_unswept all.queue (unswept_of (length all.outcomes) committed x)
          ∙ ap (λ (l : List KnownWrite). l ++ map known_of_unswept (unswept_of (length all.outcomes) committed x)) h.queue
          ∙ ap (λ (l : List KnownWrite). map known_of_flat (drop m.swept (flat m)) ++ l)
          (queue_at (length all.outcomes) committed x
          ∙ ap (λ (n : ℕ). known_queue n committed (known_of_transaction x)) count
          ∙ ap (known_queue (length m.ended) committed) known
          ∙ sym (entries_flat (length m.ended) committed y))
          ∙ sym (map-append known_of_flat (drop m.swept (flat m)) (flat_from (length m.ended) (entries_of committed y)))
          ∙ ap (map known_of_flat) (sym (drop-append-le m.swept (flat m) (flat_from (length m.ended) (entries_of committed y)) h.swept))
          ∙ ap (λ (l : List Flat). map known_of_flat (drop m.swept l)) (sym more);
      active = (slot_mirrors m all session None None h refl).active;
      swept = omega (arith, h.swept, longer);
    }

-- ---- what is read

abbrev pub number_known : Option Known → Option ℕ
number_known None = None
number_known (Some known) = Some known.0

abbrev pub snap_known : Option Known → Option ℕ
snap_known None = None
snap_known (Some known) = Some known.1.0

number_at : (x : Option Transaction) → option_map (λ (t : Transaction). t.number) x ≡ number_known (known_of_transaction x)
number_at None = refl
number_at (Some x) = refl

number_in : (y : Option Open) → number_known (known_of_open y) ≡ option_map (λ (t : Open). t.number) y
number_in None = refl
number_in (Some y) = refl

pub number_mirrors : (m : Machine) (all : Transactions) (session : ℕ) → Mirrors m all
    → option_map (λ (t : Transaction). t.number) (xacts.open_of all session) ≡ option_map (λ (t : Open). t.number) (open_of m session)
number_mirrors m all session h =
    number_at (xacts.open_of all session) ∙ ap number_known (session_known m all session h) ∙ number_in (open_of m session)

snap_at : (x : Option Transaction) → option_map (λ (t : Transaction). t.snap) x ≡ snap_known (known_of_transaction x)
snap_at None = refl
snap_at (Some x) = refl

snap_in : (y : Option Open) → snap_known (known_of_open y) ≡ option_map (λ (t : Open). t.snap) y
snap_in None = refl
snap_in (Some y) = refl

pub snap_mirrors : (m : Machine) (all : Transactions) (session : ℕ) → Mirrors m all
    → option_map (λ (t : Transaction). t.snap) (xacts.open_of all session) ≡ option_map (λ (t : Open). t.snap) (open_of m session)
snap_mirrors m all session h =
    snap_at (xacts.open_of all session) ∙ ap snap_known (session_known m all session h) ∙ snap_in (open_of m session)

pub count_mirrors : (m : Machine) (all : Transactions) → Mirrors m all → length all.outcomes ≡ length m.ended
count_mirrors m all h = ap length h.outcomes ∙ length-map m.ended outcome_of

some_known : (x : Option Transaction) (y : Option Open) → known_of_transaction x ≡ known_of_open y → is_some x ≡ is_some y
some_known x y same = some_at x ∙ ap is_some same ∙ sym (some_in y)
  where
    some_at : (x : Option Transaction) → is_some x ≡ is_some (known_of_transaction x)
    some_at None = refl
    some_at (Some x) = refl

    some_in : (y : Option Open) → is_some y ≡ is_some (known_of_open y)
    some_in None = refl
    some_in (Some y) = refl

pub is_open_mirrors : (m : Machine) (all : Transactions) (session : ℕ) → Mirrors m all
    → is_some (xacts.open_of all session) ≡ is_some (open_of m session)
is_open_mirrors m all session h = some_known (xacts.open_of all session) (open_of m session) (session_known m all session h)

-- ---- a begin

pub spent_mirrors : (m : Machine) (all : Transactions) → Mirrors m all → xacts.begins_spent all ≡ begins_spent m
unfolding xacts.begins_spent begins_spent
spent_mirrors m all h =
    ap (λ (n : ℕ). eqb n 4294967295 || eqb (all.base + n + 1) 4611686018427387904) h.begun
    ∙ ap (λ (n : ℕ). eqb m.begun 4294967295 || eqb (n + m.begun + 1) 4611686018427387904) h.base

pub opened_mirrors : (m : Machine) (all : Transactions) (session frames : ℕ) → Mirrors m all
    → Mirrors (record m { begun = m.begun + 1; active = slice_set m.active session (Some (new_transaction m)) }) (opened all session frames)
opened_mirrors m all session frames h =
    let x : Transaction = record { number = all.begun + 1; snap = length all.outcomes; frames = frames; writes = [] } in
    let same : known_of_transaction (Some x) ≡ known_of_open (Some (new_transaction m)) =
    ap (λ (n : ℕ). Some (n + 1, (length all.outcomes, []))) h.begun ∙ ap (λ (n : ℕ). Some (m.begun + 1, (n, []))) (count_mirrors m all h) in
    record {
      base = h.base;
      begun = ap (λ (n : ℕ). n + 1) h.begun;
      outcomes = h.outcomes;
      queue = h.queue;
      active = (slot_mirrors m all session (Some x) (Some (new_transaction m)) h same).active;
      swept = h.swept;
    }

begin_by : (m : Machine) (all : Transactions) (session frames : ℕ) → Mirrors m all → (is_open spent : Bool)
    → Mirrors (cond (is_refusal (cond is_open OpenAlready (cond spent LimitBegins (Began (m.begun + 1))))) m (state_when_done m session Begin))
    (xacts.when_answered (cond is_open xacts_answers.OpenAlready (cond spent xacts_answers.LimitBegins (Number (all.begun + 1)))) all (opened all session frames))
unfolding state_when_done
begin_by m all session frames h true spent = h
begin_by m all session frames h false true = h
begin_by m all session frames h false false = opened_mirrors m all session frames h

pub begin_mirrors : (m : Machine) (all : Transactions) (session frames : ℕ) → Mirrors m all
    → Mirrors (state_after m session Begin) (xacts.after_begin all session frames)
unfolding state_after reply_of xacts.begin_answer
begin_mirrors m all session frames h =
    subst (λ (b : Bool). Mirrors (cond (is_refusal (cond (is_some (open_of m session)) OpenAlready (cond (begins_spent m) LimitBegins (Began (m.begun + 1))))) m (state_when_done m session Begin))
    (xacts.when_answered (cond b xacts_answers.OpenAlready (cond (xacts.begins_spent all) xacts_answers.LimitBegins (Number (all.begun + 1)))) all (opened all session frames)))
    (sym (is_open_mirrors m all session h))
    (subst (λ (b : Bool). Mirrors (cond (is_refusal (cond (is_some (open_of m session)) OpenAlready (cond (begins_spent m) LimitBegins (Began (m.begun + 1))))) m (state_when_done m session Begin))
    (xacts.when_answered (cond (is_some (open_of m session)) xacts_answers.OpenAlready (cond b xacts_answers.LimitBegins (Number (all.begun + 1)))) all (opened all session frames)))
    (sym (spent_mirrors m all h))
    (begin_by m all session frames h (is_some (open_of m session)) (begins_spent m)))

pub begin_answers : (m : Machine) (all : Transactions) (session : ℕ) → Mirrors m all
    → begun_reply (xacts.begin_answer all session) ≡ reply_of m session Begin
unfolding reply_of xacts.begin_answer
begin_answers m all session h =
    ap (λ (b : Bool). begun_reply (cond b xacts_answers.OpenAlready (cond (xacts.begins_spent all) xacts_answers.LimitBegins (Number (all.begun + 1))))) (is_open_mirrors m all session h)
    ∙ ap (λ (b : Bool). begun_reply (cond (is_some (open_of m session)) xacts_answers.OpenAlready (cond b xacts_answers.LimitBegins (Number (all.begun + 1))))) (spent_mirrors m all h)
    ∙ ap (λ (n : ℕ). begun_reply (cond (is_some (open_of m session)) xacts_answers.OpenAlready (cond (begins_spent m) xacts_answers.LimitBegins (Number (n + 1))))) h.begun
    ∙ told (is_some (open_of m session)) (begins_spent m) m.begun
  where
    told : (is_open spent : Bool) (n : ℕ) → begun_reply (cond is_open xacts_answers.OpenAlready (cond spent xacts_answers.LimitBegins (Number (n + 1))))
        ≡ cond is_open OpenAlready (cond spent LimitBegins (Began (n + 1)))
    told true spent n = refl
    told false true n = refl
    told false false n = refl

-- ---- calls that write nothing

kept_known : (row : Option Row) (y : Option Open) → known_of_open (option_map (plus_kept row) y) ≡ known_of_open y
kept_known row None = refl
kept_known row (Some y) = refl

pub kept_mirrors : (m : Machine) (all : Transactions) (session : ℕ) (row : Option Row) → Mirrors m all
    → Mirrors (with_slot m session (option_map (plus_kept row) (open_of m session))) all
kept_mirrors m all session row h = record {
  base = h.base;
  begun = h.begun;
  outcomes = h.outcomes;
  queue = h.queue;
  active = h.active ∙ sym (map-set_same known_of_open m.active session (option_map (plus_kept row) (open_of m session)) None (kept_known row (open_of m session)));
  swept = h.swept;
}
