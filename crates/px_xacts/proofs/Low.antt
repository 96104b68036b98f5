-- Nothing that the low mark is kept for lies below it.
use Rattle.std.proofs.Common.{◌≡◌, ℕ, zero, suc, ◌+◌, ◌<◌, ◌≤◌, true, false, cond, ltb, List, [], ◌∷◌, get_or, length, Option, Some, None, option_map, refl, sym, ap, arith}
use Rattle.std.specs.Prelude.{All, unwrap_or}
use Rattle.std.proofs.lemmas.Bool.{false≢true, ltb-true, ltb-false}
use Rattle.std.proofs.lemmas.Option.{none-some, same_Some}
use Rattle.px_xacts.specs.declared.transaction.Transaction.{Transaction}
use Rattle.px_xacts.specs.declared.transaction.Start.{Start}
use Rattle.px_xacts.specs.declared.transaction.Unswept.{Unswept}
use Rattle.px_xacts.specs.Transactions.{Transactions, open_of, older_of, oldest_open, oldest_undone, oldest, low}

-- the number of the oldest, if there is one
abbrev number_or : Option Start → ℕ → ℕ
number_or oldest none = unwrap_or (option_map (λ (start : Start). start.number) oldest) none

older-le-oldest : (oldest start : Start) → (older_of (Some oldest) start).number ≤ oldest.number
older-le-oldest oldest start =
    elim (ltb start.number oldest.number) as (λ b. ltb start.number oldest.number ≡ b → (cond b start oldest).number ≤ oldest.number) [
      | true ↦ λ e. omega (arith, ltb-true start.number oldest.number e)
      | false ↦ λ e. omega arith
    ] refl

older-le-start : (oldest : Option Start) (start : Start) → (older_of oldest start).number ≤ start.number
older-le-start None start = omega arith
older-le-start (Some oldest) start =
    elim (ltb start.number oldest.number) as (λ b. ltb start.number oldest.number ≡ b → (cond b start oldest).number ≤ start.number) [
      | true ↦ λ e. omega arith
      | false ↦ λ e. omega (arith, ltb-false start.number oldest.number e)
    ] refl

-- what was seen stays a bound
undone-seen : (oldest : Start) (queue : List Unswept) (none : ℕ) → number_or (oldest_undone (Some oldest) queue) none ≤ oldest.number
undone-seen oldest [] none = omega arith
undone-seen oldest (entry ∷ queue) none =
    let start : Start = record { number = entry.number; frames = entry.frames } in
    elim entry.committed as (λ b. number_or (cond b (oldest_undone (Some oldest) queue) (oldest_undone (Some (older_of (Some oldest) start)) queue)) none ≤ oldest.number) [
      | true ↦ undone-seen oldest queue none
      | false ↦ omega (arith, undone-seen (older_of (Some oldest) start) queue none, older-le-oldest oldest start)
    ]

open-seen : (oldest : Start) (slots : List (Option Transaction)) (queue : List Unswept) (none : ℕ)
    → number_or (oldest_undone (oldest_open (Some oldest) slots) queue) none ≤ oldest.number
open-seen oldest [] queue none = undone-seen oldest queue none
open-seen oldest (None ∷ slots) queue none = open-seen oldest slots queue none
open-seen oldest (Some x ∷ slots) queue none =
    let start : Start = record { number = x.number; frames = x.frames } in
    omega (arith, open-seen (older_of (Some oldest) start) slots queue none, older-le-oldest oldest start)

below_open : (oldest : Option Start) (slots : List (Option Transaction)) (queue : List Unswept) (none s : ℕ) (x : Transaction) → get_or slots s None ≡ Some x
    → number_or (oldest_undone (oldest_open oldest slots) queue) none ≤ x.number
below_open oldest [] queue none s x at = absurd (none-some x at)
below_open oldest (None ∷ slots) queue none zero x at = absurd (none-some x at)
below_open oldest (None ∷ slots) queue none (suc s) x at = below_open oldest slots queue none s x at
below_open oldest (Some y ∷ slots) queue none zero x at =
    let start : Start = record { number = y.number; frames = y.frames } in
    omega (arith, open-seen (older_of oldest start) slots queue none, older-le-start oldest start, ap (λ (t : Transaction). t.number) (same_Some y x at))
below_open oldest (Some y ∷ slots) queue none (suc s) x at =
    below_open (Some (older_of oldest (record { number = y.number; frames = y.frames }))) slots queue none s x at

below_undone : (oldest : Option Start) (queue : List Unswept) (none k : ℕ) (d : Unswept) → k < length queue → (get_or queue k d).committed ≡ false
    → number_or (oldest_undone oldest queue) none ≤ (get_or queue k d).number
below_undone oldest [] none k d lt undone = absurd (omega (arith, lt))
below_undone oldest (entry ∷ queue) none zero d lt undone =
    let start : Start = record { number = entry.number; frames = entry.frames } in
    elim entry.committed as (λ b. b ≡ false → number_or (cond b (oldest_undone oldest queue) (oldest_undone (Some (older_of oldest start)) queue)) none ≤ entry.number) [
      | true ↦ λ e. absurd (false≢true (sym e))
      | false ↦ λ e. omega (arith, undone-seen (older_of oldest start) queue none, older-le-start oldest start)
    ] undone
below_undone oldest (entry ∷ queue) none (suc k) d lt undone =
    let start : Start = record { number = entry.number; frames = entry.frames } in
    elim entry.committed as (λ b. number_or (cond b (oldest_undone oldest queue) (oldest_undone (Some (older_of oldest start)) queue)) none ≤ (get_or queue k d).number) [
      | true ↦ below_undone oldest queue none k d (omega (arith, lt)) undone
      | false ↦ below_undone (Some (older_of oldest start)) queue none k d (omega (arith, lt)) undone
    ]

pub low_below_open : (all : Transactions) (session : ℕ) (x : Transaction) → open_of all session ≡ Some x → low all ≤ all.base + x.number
unfolding low oldest
low_below_open all session x at = omega (arith, below_open None all.active all.queue (all.begun + 1) session x at)

pub low_below_undone : (all : Transactions) → All (λ (entry : Unswept). entry.committed ≡ false → low all ≤ all.base + entry.number) all.queue
unfolding low oldest
low_below_undone all = λ k d lt undone. omega (arith, below_undone (oldest_open None all.active) all.queue (all.begun + 1) k d lt undone)
