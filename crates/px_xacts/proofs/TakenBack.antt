-- A begin and a write that are taken back.
use Rattle.std.proofs.Common.{◌≡◌, ℕ, ◌+◌, ◌-◌, ◌<◌, List, [], ◌∷◌, ◌++◌, length, take, get_or, set, Option, Some, None, option_map, refl, sym, ap, ◌∙◌, arith, inl, inr, length-append}
use Rattle.std.proofs.lemmas.Bool.{cases_lt}
use Rattle.std.proofs.lemmas.List.{take_at, get_or-set_same, get_or_past, set_past}
use Rattle.px_xacts.specs.declared.write.WriteAt.{WriteAt}
use Rattle.px_xacts.specs.declared.transaction.Transaction.{Transaction}
use Rattle.px_xacts.specs.Transactions.{Transactions, open_of, opened, BeganLast, without_begin, plus_write, minus_last, with_write, without_last}
use Rattle.px_xacts.proofs.Lists.{set_back}

-- ---- a write

last_dropped : (writes : List WriteAt) (write : WriteAt) → take (length (writes ++ write ∷ []) - 1) (writes ++ write ∷ []) ≡ writes
last_dropped writes write =
    ap (λ (n : ℕ). take n (writes ++ write ∷ [])) (omega (arith, length-append writes (write ∷ []))) ∙ take_at writes (write ∷ []) (length writes) refl

slot_back : (slot : Option Transaction) (write : WriteAt) → option_map minus_last (option_map (plus_write write) slot) ≡ slot
slot_back None write = refl
slot_back (Some x) write = ap (λ (writes : List WriteAt). Some (record x { writes = writes })) (last_dropped x.writes write)

now_at : (slots : List (Option Transaction)) (s : ℕ) (write : WriteAt)
    → option_map minus_last (get_or (set slots s (option_map (plus_write write) (get_or slots s None))) s None) ≡ get_or slots s None
now_at slots s write = elim (cases_lt s (length slots)) [
  | inl lt ↦
      ap (option_map minus_last) (get_or-set_same slots s (option_map (plus_write write) (get_or slots s None)) None lt)
      ∙ slot_back (get_or slots s None) write
  | inr le ↦
      ap (λ (l : List (Option Transaction)). option_map minus_last (get_or l s None)) (set_past slots s (option_map (plus_write write) (get_or slots s None)) le)
      ∙ ap (option_map minus_last) (get_or_past slots s None le)
      ∙ sym (get_or_past slots s None le)
]

pub write_taken_back : (old new before : Transactions) (session : ℕ) (write : WriteAt) → new ≡ without_last old session
    → old ≡ with_write before session write → new ≡ before
write_taken_back old new before session write is was =
    is ∙ ap (λ (all : Transactions). without_last all session) was
    ∙ ap (λ (active : List (Option Transaction)). record before { active = active })
    (set_back before.active session (option_map (plus_write write) (open_of before session))
    (option_map minus_last (open_of (with_write before session write) session)) (now_at before.active session write))

-- ---- a begin

pub begin_taken_back : (old new before : Transactions) (session frames : ℕ) → new ≡ without_begin old session
    → open_of before session ≡ None → old ≡ opened before session frames → new ≡ before
begin_taken_back old new before session frames is closed was =
    let begun : before.begun + 1 - 1 ≡ before.begun = omega arith in
    is ∙ ap (λ (all : Transactions). without_begin all session) was
    ∙ ap (λ (n : ℕ). record before { begun = n; active = set (opened before session frames).active session None }) begun
    ∙ ap (λ (active : List (Option Transaction)). record before { active = active })
    (set_back before.active session (Some (record { number = before.begun + 1; snap = length before.outcomes; frames = frames; writes = [] })) None (sym closed))

-- a begin may be taken back at once
pub began_last : (before : Transactions) (session frames : ℕ) → session < length before.active → BeganLast (opened before session frames) session
began_last before session frames lt =
    let new : Transaction = record { number = before.begun + 1; snap = length before.outcomes; frames = frames; writes = [] } in
    record { transaction = new; is = get_or-set_same before.active session (Some new) None lt; last = refl; empty = refl }
