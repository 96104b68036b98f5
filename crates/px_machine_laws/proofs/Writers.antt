-- The session's writer and its last write, after a write.
use Rattle.std.proofs.Common.{◌≡◌, ℕ, ◌+◌, ◌-◌, ◌<◌, ◌==◌, Bool, true, false, cond, List, [], ◌∷◌, ◌++◌, length, Option, Some, None, option_map, refl, sym, ap, ◌∙◌, arith, inl, inr, length-append}
use Rattle.std.specs.Prelude.{slice_get}
use Rattle.std.proofs.lemmas.Bool.{cases_lt, ne_eqb, eqb-false, eqb-true}
use Rattle.std.proofs.lemmas.List.{get_or-set_same, get_or_past}
use Rattle.std.proofs.lemmas.Option.{none-some, same_Some}
use Rattle.px_model.specs.declared.machine.Open.{Open}
use Rattle.px_model.specs.declared.write.Write.{Write}
use Rattle.px_model.specs.Machine.{Machine}
use Rattle.px_calls.specs.Steps.{open_of, plus_write, with_write}
use Rattle.px_machine_laws.specs.Writers.{number_with_writes, last_of, writer_of, last_write_of}

open_after : (m : Machine) (session : ℕ) (write : Write) (x : Open) → open_of m session ≡ Some x → open_of (with_write m session write) session ≡ Some (plus_write write x)
open_after m session write x is = elim (cases_lt session (length m.active)) [
  | inl lt ↦ get_or-set_same m.active session (option_map (plus_write write) (open_of m session)) None lt ∙ ap (option_map (plus_write write)) is
  | inr le ↦ absurd (none-some x (sym (get_or_past m.active session None le) ∙ is))
]

last_pushed : (writes : List Write) (write : Write) → slice_get (writes ++ write ∷ []) (length writes) ≡ Some write
last_pushed [] write = refl
last_pushed (first ∷ writes) write = last_pushed writes write

pub written_last : (m : Machine) (session : ℕ) (write : Write) (x : Open) → open_of m session ≡ Some x → last_write_of (with_write m session write) session ≡ Some write
written_last m session write x is =
    let place : length (x.writes ++ write ∷ []) - 1 ≡ length x.writes = omega (arith, length-append x.writes (write ∷ [])) in
    ap last_of (open_after m session write x is)
    ∙ ap (slice_get (x.writes ++ write ∷ [])) place
    ∙ last_pushed x.writes write

pub written_by : (m : Machine) (session : ℕ) (write : Write) (x : Open) → open_of m session ≡ Some x → writer_of (with_write m session write) session ≡ Some (m.base + x.number)
written_by m session write x is =
    let some : (length (x.writes ++ write ∷ []) ≡ 0) → ⊥ = λ none. omega (arith, none, length-append x.writes (write ∷ [])) in
    ap (number_with_writes m.base) (open_after m session write x is)
    ∙ ap (λ (b : Bool). cond b None (Some (m.base + x.number))) (ne_eqb (length (x.writes ++ write ∷ [])) 0 some)

-- ---- a writer has writes

some_number : (base : ℕ) (slot : Option Open) (xn : ℕ) → number_with_writes base slot ≡ Some xn
    → (x : Open) × (slot ≡ Some x) × (0 < length x.writes) × (xn ≡ base + x.number)
some_number base None xn is = absurd (none-some xn is)
some_number base (Some x) xn is = elim (length x.writes == 0) as (λ b. length x.writes == 0 ≡ b → (y : Open) × (Some x ≡ Some y) × (0 < length y.writes) × (xn ≡ base + y.number)) [
  | true ↦ λ none. absurd (none-some xn (ap (λ (b : Bool). cond b None (Some (base + x.number))) (sym none) ∙ is))
  | false ↦ λ some. (x, refl, omega (arith, eqb-false (length x.writes) 0 some), sym (same_Some (base + x.number) xn (ap (λ (b : Bool). cond b None (Some (base + x.number))) (sym some) ∙ is)))
] refl

no_number : (base : ℕ) (slot : Option Open) → number_with_writes base slot ≡ None → (x : Open) → slot ≡ Some x → length x.writes ≡ 0
no_number base None none x is = absurd (none-some x is)
no_number base (Some y) none x is = elim (length y.writes == 0) as (λ b. length y.writes == 0 ≡ b → length x.writes ≡ 0) [
  | true ↦ λ empty. ap (λ (o : Open). length o.writes) (sym (same_Some y x is)) ∙ eqb-true (length y.writes) 0 empty
  | false ↦ λ some. absurd (none-some (base + y.number) (sym none ∙ ap (λ (b : Bool). cond b None (Some (base + y.number))) some))
] refl

pub writer_some : (m : Machine) (session xn : ℕ) → writer_of m session ≡ Some xn
    → (x : Open) × (open_of m session ≡ Some x) × (0 < length x.writes) × (xn ≡ m.base + x.number)
writer_some m session xn is = some_number m.base (open_of m session) xn is

pub writer_none : (m : Machine) (session : ℕ) → writer_of m session ≡ None → (x : Open) → open_of m session ≡ Some x → length x.writes ≡ 0
writer_none m session none x is = no_number m.base (open_of m session) none x is
