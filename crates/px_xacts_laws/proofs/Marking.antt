-- How far the sweeper may go, and what is due, are those of the machine.
use Rattle.std.proofs.Common.{◌≡◌, ℕ, zero, suc, ◌+◌, ◌≤◌, true, false, cond, List, [], ◌∷◌, map, length, drop, Option, Some, None, refl, sym, ap, ◌∙◌, arith, ltb}
use Rattle.std.specs.Prelude.{is_some, unwrap_or, slice_get}
use Rattle.std.proofs.lemmas.Bool.{true≢false}
use Rattle.std.proofs.lemmas.Option.{none-some, same_Some}
use Rattle.std.proofs.lemmas.List.{drop-drop, drop-map, length-map, length-drop}
use Rattle.px_model.specs.declared.machine.Ended.{Ended}
use Rattle.px_model.specs.declared.machine.Flat.{Flat}
use Rattle.px_model.specs.declared.machine.Open.{Open}
use Rattle.px_model.specs.Machine.{Machine, horizon, flat, least_snap, lower_of}
use Rattle.px_calls.specs.declared.reply.Reply.{Reply}
use Rattle.px_calls.specs.declared.reply.Reply.TheVariants.{Swept, Idle}
use Rattle.px_calls.specs.Sweeps as sweeps
use Rattle.px_xacts.specs.declared.answers.Due.{Due}
use Rattle.px_xacts.specs.declared.transaction.Transaction.{Transaction}
use Rattle.px_xacts.specs.declared.transaction.Outcome.{Outcome}
use Rattle.px_xacts.specs.declared.transaction.Unswept.{Unswept}
use Rattle.px_xacts.specs.Transactions as xacts
use Rattle.px_xacts.specs.Transactions.{Transactions, due_from, due_below}
use Rattle.px_xacts_laws.specs.Mirrors.{Mirrors, Known, KnownWrite, known_of_transaction, known_of_open, known_of_unswept, known_of_flat, outcome_of, due_reply}
use Rattle.px_xacts_laws.proofs.Mirroring.{count_mirrors}

-- ---- the horizon

abbrev known_least : Option ℕ → List (Option Known) → Option ℕ
known_least least [] = least
known_least least (None ∷ slots) = known_least least slots
known_least least (Some known ∷ slots) = known_least (Some (lower_of least known.1.0)) slots

least_at : (least : Option ℕ) (slots : List (Option Transaction)) → xacts.least_snap least slots ≡ known_least least (map known_of_transaction slots)
least_at least [] = refl
least_at least (None ∷ slots) = least_at least slots
least_at least (Some x ∷ slots) = least_at (Some (lower_of least x.snap)) slots

least_in : (least : Option ℕ) (slots : List (Option Open)) → known_least least (map known_of_open slots) ≡ least_snap least slots
least_in least [] = refl
least_in least (None ∷ slots) = least_in least slots
least_in least (Some x ∷ slots) = least_in (Some (lower_of least x.snap)) slots

pub horizon_mirrors : (m : Machine) (all : Transactions) → Mirrors m all → xacts.horizon all ≡ horizon m
unfolding xacts.horizon horizon
horizon_mirrors m all h =
    ap (λ (n : ℕ). unwrap_or (xacts.least_snap None all.active) n) (count_mirrors m all h)
    ∙ ap (λ (o : Option ℕ). unwrap_or o (length m.ended))
    (least_at None all.active ∙ ap (known_least None) h.active ∙ least_in None m.active)

-- ---- what is due

abbrev known_due : ℕ → List KnownWrite → Reply
known_due end [] = Idle
known_due end (write ∷ writes) = cond (ltb write.0 end) (Swept write.1.0) Idle

due_at : (end : ℕ) (queue : List Unswept) → due_reply (due_below end queue) ≡ known_due end (map known_of_unswept queue)
due_at end [] = refl
due_at end (entry ∷ queue) =
    elim (ltb entry.place end) as (λ b. due_reply (cond b (Some (due_from entry)) None) ≡ cond b (Swept entry.number) Idle) [
      | true ↦ refl
      | false ↦ refl
    ]

due_in : (end n : ℕ) (all : List Flat) → known_due end (map known_of_flat (drop n all)) ≡ sweeps.due_below end (slice_get all n)
due_in end zero [] = refl
due_in end (suc n) [] = refl
due_in end zero (f ∷ all) = refl
due_in end (suc n) (f ∷ all) = due_in end n all

-- the sweeper's step replies by what is due
pub due_mirrors : (m : Machine) (all : Transactions) → Mirrors m all → due_reply (xacts.due all) ≡ sweeps.sweep_reply m
unfolding xacts.due sweeps.sweep_reply
due_mirrors m all h =
    due_at (xacts.horizon all) all.queue
    ∙ ap (λ (n : ℕ). known_due n (map known_of_unswept all.queue)) (horizon_mirrors m all h)
    ∙ ap (known_due (horizon m)) h.queue
    ∙ due_in (horizon m) m.swept (flat m)

-- ---- a write that is swept

one_less : (n : ℕ) (all : List Flat) → drop 1 (map known_of_flat (drop n all)) ≡ map known_of_flat (drop (n + 1) all)
one_less n all = drop-map known_of_flat 1 (drop n all) ∙ ap (map known_of_flat) (drop-drop 1 n all)

dropped : (queue : List Unswept) → map known_of_unswept (drop 1 queue) ≡ drop 1 (map known_of_unswept queue)
dropped [] = refl
dropped (entry ∷ queue) = refl

counted : (due : Option Due) → is_some due ≡ true → sweeps.counts_sweep (due_reply due) ≡ 1
counted None h = absurd (true≢false (sym h))
counted (Some due) h = refl

some_due : (end : ℕ) (queue : List Unswept) → is_some (due_below end queue) ≡ true → 1 ≤ length queue
some_due end [] h = absurd (true≢false (sym h))
some_due end (entry ∷ queue) h = omega arith

some_in : (all : Transactions) → is_some (xacts.due all) ≡ true → 1 ≤ length all.queue
unfolding xacts.due
some_in all h = some_due (xacts.horizon all) all.queue h

pub swept_mirrors : (m : Machine) (all : Transactions) → Mirrors m all → is_some (xacts.due all) ≡ true
    → Mirrors (sweeps.swept_state m) (record all { queue = drop 1 all.queue })
unfolding sweeps.swept_state
swept_mirrors m all h is_due =
    let one : sweeps.counts_sweep (sweeps.sweep_reply m) ≡ 1 = ap sweeps.counts_sweep (sym (due_mirrors m all h)) ∙ counted (xacts.due all) is_due in
    let left : length all.queue ≡ length (drop m.swept (flat m)) =
    sym (length-map all.queue known_of_unswept) ∙ ap length h.queue ∙ length-map (drop m.swept (flat m)) known_of_flat in
    record {
      base = h.base;
      begun = h.begun;
      outcomes = h.outcomes;
      queue =
          dropped all.queue ∙ ap (drop 1) h.queue ∙ one_less m.swept (flat m)
          ∙ ap (λ (n : ℕ). map known_of_flat (drop (m.swept + n) (flat m))) (sym one);
      active = h.active;
      swept = omega (arith, one, left, some_in all is_due, length-drop m.swept (flat m), h.swept);
    }

-- ---- what became of one that ended

pub ended_mirrors : (m : Machine) (all : Transactions) (place : ℕ) (e : Ended) → Mirrors m all → slice_get m.ended place ≡ Some e
    → xacts.IsEndedAs all place e.committed (m.base + e.number)
ended_mirrors m all place e h at = record {
  outcome = outcome_of e;
  is = ap (λ (l : List Outcome). slice_get l place) h.outcomes ∙ mapped m.ended place e at;
  so = refl;
  stored = ap (λ (n : ℕ). n + e.number) h.base;
}
  where
    mapped : (l : List Ended) (i : ℕ) (e : Ended) → slice_get l i ≡ Some e → slice_get (map outcome_of l) i ≡ Some (outcome_of e)
    mapped [] i e at = absurd (none-some e at)
    mapped (x ∷ l) zero e at = ap (λ (y : Ended). Some (outcome_of y)) (same_Some x e at)
    mapped (x ∷ l) (suc i) e at = mapped l i e at
