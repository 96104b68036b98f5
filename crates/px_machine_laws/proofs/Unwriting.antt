-- A write that is taken back.
use Rattle.std.proofs.Common.{◌≡◌, ℕ, ◌-◌, List, [], ◌∷◌, ◌++◌, length, take, get_or, set, Option, Some, None, option_map, refl, ap, ◌∙◌, arith, inl, inr, length-append}
use Rattle.std.proofs.lemmas.Bool.{cases_lt}
use Rattle.std.proofs.lemmas.List.{take_at, get_or-set_same, set-set, set-get_or, set_past}
use Rattle.px_model.specs.declared.machine.Open.{Open}
use Rattle.px_model.specs.declared.write.Write.{Write}
use Rattle.px_model.specs.Machine.{Machine}
use Rattle.px_calls.specs.Steps.{open_of, plus_write, with_write}
use Rattle.px_machine_laws.specs.Unwriting.{minus_last, without_last}

last_dropped : (writes : List Write) (write : Write) → take (length (writes ++ write ∷ []) - 1) (writes ++ write ∷ []) ≡ writes
last_dropped writes write =
    ap (λ (n : ℕ). take n (writes ++ write ∷ [])) (omega (arith, length-append writes (write ∷ []))) ∙ take_at writes (write ∷ []) (length writes) refl

slot_back : (slot : Option Open) (write : Write) → option_map minus_last (option_map (plus_write write) slot) ≡ slot
slot_back None write = refl
slot_back (Some xact) write = ap (λ (writes : List Write). Some (record xact { writes = writes })) (last_dropped xact.writes write)

-- a place that is changed and changed back
set_back : (slots : List (Option Open)) (s : ℕ) (slot : Option Open) (back : Option Open → Option Open) → back slot ≡ get_or slots s None
    → set (set slots s slot) s (back (get_or (set slots s slot) s None)) ≡ slots
set_back slots s slot back is = elim (cases_lt s (length slots)) [
  | inl lt ↦
      ap (λ (o : Option Open). set (set slots s slot) s (back o)) (get_or-set_same slots s slot None lt)
      ∙ ap (set (set slots s slot) s) is
      ∙ set-set slots s slot (get_or slots s None)
      ∙ set-get_or slots s None
  | inr le ↦
      ap (λ (l : List (Option Open)). set l s (back (get_or l s None))) (set_past slots s slot le)
      ∙ set_past slots s (back (get_or slots s None)) le
]

pub taken_back : (before : Machine) (session : ℕ) (write : Write) → without_last (with_write before session write) session ≡ before
taken_back before session write =
    ap (λ (active : List (Option Open)). record before { active = active })
    (set_back before.active session (option_map (plus_write write) (open_of before session)) (option_map minus_last) (slot_back (open_of before session) write))

pub was_taken_back : (old new before : Machine) (session : ℕ) (write : Write) → new ≡ without_last old session → old ≡ with_write before session write → new ≡ before
was_taken_back old new before session write is was = is ∙ ap (λ (m : Machine). without_last m session) was ∙ taken_back before session write
