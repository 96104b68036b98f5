-- The open transactions were begun, also after a change of one place.
use Rattle.std.proofs.Common.{◌≡◌, ◌≢◌, ℕ, ◌+◌, ◌-◌, ◌<◌, ◌≤◌, List, Option, Some, None, get_or, set, replicate, sym, ap, ◌∙◌, arith, inl, inr}
use Rattle.std.proofs.lemmas.Bool.{cases_lt}
use Rattle.std.proofs.lemmas.Option.{none-some, same_Some}
use Rattle.std.proofs.lemmas.List.{get_or-replicate, get_or_past, length-replicate}
use Rattle.px_model.specs.declared.machine.Open.{Open}
use Rattle.px_machine_laws.specs.Begun.{WereBegun}
use Rattle.px_machine_laws.proofs.Overlap.{slot_cases}

nobody : (count session : ℕ) (xact : Open) → get_or (replicate count None) session None ≡ Some xact → ⊥
nobody count session xact at = elim (cases_lt session count) [
  | inl lt ↦ none-some xact (sym (get_or-replicate count session None None lt) ∙ at)
  | inr le ↦ none-some xact (sym (get_or_past (replicate count None) session None (omega (arith, le, length-replicate {A = Option Open} count None))) ∙ at)
]

pub begun-none : (count : ℕ) → WereBegun 0 (replicate count None)
begun-none count = record {
  from_one = λ session xact at. absurd (nobody count session xact at);
  given = λ session xact at. absurd (nobody count session xact at);
  apart = λ one other x y at _ _. absurd (nobody count one x at);
}

-- The place has nobody, or a transaction whose number was given out and that no other place has.
one_place : (begun more : ℕ) (active : List (Option Open)) (s : ℕ) (slot : Option Open) → WereBegun begun active → begun ≤ more
    → ((x : Open) → slot ≡ Some x → (0 < x.number) × (x.number ≤ more))
    → ((x : Open) → slot ≡ Some x → (t : ℕ) (y : Open) → t ≢ s → get_or active t None ≡ Some y → x.number ≡ y.number → ⊥)
    → WereBegun more (set active s slot)
one_place begun more active s slot before up now alone = record {
  from_one = λ session xact at. elim (slot_cases active s session slot xact at) [
    | inl p ↦ (now xact p.1).0
    | inr p ↦ before.from_one session xact p.1
  ];
  given = λ session xact at. elim (slot_cases active s session slot xact at) [
    | inl p ↦ (now xact p.1).1
    | inr p ↦ omega (arith, up, before.given session xact p.1)
  ];
  apart = λ one other x y at bt same. elim (slot_cases active s one slot x at) [
    | inl p ↦ elim (slot_cases active s other slot y bt) [
      | inl q ↦ p.0 ∙ sym q.0
      | inr q ↦ absurd (alone x p.1 other y q.0 q.1 same)
    ]
    | inr p ↦ elim (slot_cases active s other slot y bt) [
      | inl q ↦ absurd (alone y q.1 one x p.0 p.1 (sym same))
      | inr q ↦ before.apart one other x y p.1 q.1 same
    ]
  ];
}

pub begun-changed : (begun : ℕ) (active : List (Option Open)) (s : ℕ) (x y : Open) → WereBegun begun active → get_or active s None ≡ Some x
    → y.number ≡ x.number → WereBegun begun (set active s (Some y))
begun-changed begun active s x y before at same = one_place begun begun active s (Some y) before (omega arith)
    (λ z is.
    let number : z.number ≡ x.number = sym (ap (λ (o : Open). o.number) (same_Some y z is)) ∙ same in
    (omega (arith, before.from_one s x at, number), omega (arith, before.given s x at, number)))
    (λ z is t other ne bt equal.
    let number : z.number ≡ x.number = sym (ap (λ (o : Open). o.number) (same_Some y z is)) ∙ same in
    ne (before.apart t s other x bt at (sym equal ∙ number)))

pub begun-closed : (begun : ℕ) (active : List (Option Open)) (s : ℕ) → WereBegun begun active → WereBegun begun (set active s None)
begun-closed begun active s before = one_place begun begun active s None before (omega arith)
    (λ z is. absurd (none-some z is)) (λ z is t y ne bt same. none-some z is)

pub begun-one_more : (begun : ℕ) (active : List (Option Open)) (s : ℕ) (y : Open) → WereBegun begun active → y.number ≡ begun + 1
    → WereBegun (begun + 1) (set active s (Some y))
begun-one_more begun active s y before is_next = one_place begun (begun + 1) active s (Some y) before (omega arith)
    (λ z is.
    let number : z.number ≡ begun + 1 = sym (ap (λ (o : Open). o.number) (same_Some y z is)) ∙ is_next in
    (omega (arith, number), omega (arith, number)))
    (λ z is t other ne bt equal.
    let number : z.number ≡ begun + 1 = sym (ap (λ (o : Open). o.number) (same_Some y z is)) ∙ is_next in
    omega (arith, number, equal, before.given t other bt))

pub ruleset were_begun = (begun-none)

-- the last begin is taken back
pub begun-one_less : (begun : ℕ) (active : List (Option Open)) (s : ℕ) (x : Open) → WereBegun begun active → get_or active s None ≡ Some x
    → x.number ≡ begun → WereBegun (begun - 1) (set active s None)
begun-one_less begun active s x before at last =
    let closed : WereBegun begun (set active s None) = begun-closed begun active s before in
    record {
      from_one = closed.from_one;
      given = λ t y bt. elim (slot_cases active s t None y bt) [
        | inl p ↦ absurd (none-some y p.1)
        | inr p ↦
            let other : y.number ≢ x.number = λ same. p.0 (before.apart t s y x p.1 at same) in
            omega (arith, other, last, before.given t y p.1)
      ];
      apart = closed.apart;
    }

pub begun-some : (begun : ℕ) (active : List (Option Open)) (s : ℕ) (x : Open) → WereBegun begun active → get_or active s None ≡ Some x
    → x.number ≡ begun → 0 < begun
begun-some begun active s x before at last = omega (arith, before.from_one s x at, last)
