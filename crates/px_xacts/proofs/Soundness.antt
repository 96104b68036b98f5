-- What holds at every time holds after each call.
use Rattle.std.proofs.Common.{◌≡◌, ◌≢◌, ℕ, ◌+◌, ◌-◌, ◌<◌, ◌≤◌, Bool, inl, inr, List, [], ◌∷◌, ◌++◌, length, get_or, set, take, drop, map, replicate, Option, Some, None, refl, sym, ap, ◌∙◌, arith, length-append, length-set}
use Rattle.std.specs.Prelude.{slice_get}
use Rattle.std.proofs.lemmas.Bool.{cases_eq, cases_lt}
use Rattle.std.proofs.lemmas.Option.{none-some, same_Some}
use Rattle.std.proofs.lemmas.List.{get_or_past, get_or-replicate, get_or-take, length-take-le, length-replicate}
use Rattle.std.proofs.lemmas.List.Elements.{All-nil, All-append, All-weaker, All-map, All-drop}
use Rattle.px_model.specs.declared.limits.TheConstants.{MOST_WRITES}
use Rattle.px_model.specs.declared.standing.Standing.{Standing}
use Rattle.px_model.specs.declared.standing.Standing.TheVariants.{Open}
use Rattle.px_xacts.specs.declared.transaction.Transaction.{Transaction}
use Rattle.px_xacts.specs.declared.transaction.Outcome.{Outcome}
use Rattle.px_xacts.specs.declared.transaction.Unswept.{Unswept}
use Rattle.px_xacts.specs.Transactions.{standing_at, standing_from, unswept}
use Rattle.px_xacts.specs.Sound.{IsOpen, AreOpen, AreOutcomes, IsOf, IsSound}
use Rattle.px_xacts.proofs.Lists.{slot_cases, get_or-push_default, slice_get-append_left, slice_get-push, push_cases}
use Rattle.px_xacts.proofs.Standings.{ended_not_open, standing_from-push_other, standing_from-push_same, standings_ended}

-- no number past the last begin has an outcome
pub open_past : (begun : ℕ) (outcomes : List Outcome) (standings : List Standing) (queue : List Unswept) (active : List (Option Transaction))
    → IsSound begun outcomes standings queue active → (number : ℕ) → begun < number → standing_from 0 outcomes number ≡ Open
open_past begun outcomes standings queue active sound number past =
    ap (standing_from 0 outcomes) (omega (arith, past))
    ∙ sym (sound.standings_are (number - 1))
    ∙ get_or_past standings (number - 1) Open (omega (arith, sound.as_many, past))

-- the number of an outcome was given out
pub outcome_given : (begun : ℕ) (outcomes : List Outcome) (standings : List Standing) (queue : List Unswept) (active : List (Option Transaction))
    → IsSound begun outcomes standings queue active → (place : ℕ) (outcome : Outcome) → slice_get outcomes place ≡ Some outcome
    → outcome.number ≤ begun
outcome_given begun outcomes standings queue active sound place outcome at = elim (cases_lt begun outcome.number) [
  | inl past ↦ absurd (ended_not_open place outcome.committed
      (sym (sound.are_outcomes.own place outcome at) ∙ open_past begun outcomes standings queue active sound outcome.number past))
  | inr le ↦ le
]

nobody : (count s : ℕ) (x : Transaction) → get_or (replicate count None) s None ≡ Some x → ⊥
nobody count s x at = elim (cases_lt s count) [
  | inl lt ↦ none-some x (sym (get_or-replicate count s None None lt) ∙ at)
  | inr le ↦ none-some x (sym (get_or_past (replicate count None) s None (omega (arith, le, length-replicate {A = Option Transaction} count None))) ∙ at)
]

pub sound-fresh : (count : ℕ) → IsSound 0 [] [] [] (replicate count None)
sound-fresh count = record {
  standings_are = λ k. refl;
  as_many = refl;
  are_open = record {
    each = λ s x at. absurd (nobody count s x at);
    apart = λ s t x y at bt same. absurd (nobody count s x at);
  };
  are_outcomes = record {
    from_one = λ place outcome at. absurd (none-some outcome at);
    own = λ place outcome at. absurd (none-some outcome at);
  };
  unswept_are = All-nil (IsOf []);
}

-- ---- the open ones

-- a slot is set to nothing, or to a transaction with a number of its own
set_open : (begun more : ℕ) (outcomes : List Outcome) (active : List (Option Transaction)) (s : ℕ) (slot : Option Transaction)
    → AreOpen begun outcomes active → begun ≤ more
    → ((x : Transaction) → slot ≡ Some x → IsOpen more outcomes x)
    → ((x y : Transaction) (t : ℕ) → slot ≡ Some x → t ≢ s → get_or active t None ≡ Some y → x.number ≡ y.number → ⊥)
    → AreOpen more outcomes (set active s slot)
set_open begun more outcomes active s slot are up now other = record {
  each = λ t y at. elim (slot_cases active s t slot y at) [
    | inl p ↦ now y p.1
    | inr p ↦ let old : IsOpen begun outcomes y = are.each t y p.1 in
        record { from_one = old.from_one; given = omega (arith, old.given, up); snap = old.snap; open_yet = old.open_yet; writes = old.writes }
  ];
  apart = λ one two x y at bt same. elim (slot_cases active s one slot x at) [
    | inl p ↦ elim (slot_cases active s two slot y bt) [
      | inl q ↦ p.0 ∙ sym q.0
      | inr q ↦ absurd (other x y two p.1 q.0 q.1 same)
    ]
    | inr p ↦ elim (slot_cases active s two slot y bt) [
      | inl q ↦ absurd (other y x one q.1 p.0 p.1 (sym same))
      | inr q ↦ are.apart one two x y p.1 q.1 same
    ]
  ];
}

-- the session's transaction changes, and keeps its number and its snapshot
pub sound-changed : (begun : ℕ) (outcomes : List Outcome) (standings : List Standing) (queue : List Unswept) (active : List (Option Transaction))
    (s : ℕ) (x y : Transaction) → IsSound begun outcomes standings queue active → get_or active s None ≡ Some x
    → y.number ≡ x.number → y.snap ≡ x.snap → length y.writes ≤ MOST_WRITES
    → IsSound begun outcomes standings queue (set active s (Some y))
sound-changed begun outcomes standings queue active s x y sound at number snap writes =
    let old : IsOpen begun outcomes x = sound.are_open.each s x at in
    let new : (z : Transaction) → Some y ≡ Some z → IsOpen begun outcomes z = λ z is.
    let same_number : z.number ≡ x.number = ap (λ (t : Transaction). t.number) (sym (same_Some y z is)) ∙ number in
    let same_snap : z.snap ≡ x.snap = ap (λ (t : Transaction). t.snap) (sym (same_Some y z is)) ∙ snap in
    let same_writes : length z.writes ≡ length y.writes = ap (λ (t : Transaction). length t.writes) (sym (same_Some y z is)) in
    record {
      from_one = omega (arith, old.from_one, same_number);
      given = omega (arith, old.given, same_number);
      snap = omega (arith, old.snap, same_snap);
      open_yet = ap (standing_from 0 outcomes) same_number ∙ old.open_yet;
      writes = omega (arith, writes, same_writes);
    } in
    record {
      standings_are = sound.standings_are;
      as_many = sound.as_many;
      are_open = set_open begun begun outcomes active s (Some y) sound.are_open (omega arith) new
          (λ z w t is ne bt same. ne (sym (sound.are_open.apart s t x w at bt
          (sym number ∙ ap (λ (t : Transaction). t.number) (same_Some y z is) ∙ same))));
      are_outcomes = sound.are_outcomes;
      unswept_are = sound.unswept_are;
    }

-- the session's transaction is gone
pub sound-closed : (begun : ℕ) (outcomes : List Outcome) (standings : List Standing) (queue : List Unswept) (active : List (Option Transaction))
    (s : ℕ) → IsSound begun outcomes standings queue active → IsSound begun outcomes standings queue (set active s None)
sound-closed begun outcomes standings queue active s sound = record {
  standings_are = sound.standings_are;
  as_many = sound.as_many;
  are_open = set_open begun begun outcomes active s None sound.are_open (omega arith)
      (λ x is. absurd (none-some x is)) (λ x y t is ne at same. none-some x is);
  are_outcomes = sound.are_outcomes;
  unswept_are = sound.unswept_are;
}

-- ---- a begin

pub sound-begun : (begun : ℕ) (outcomes : List Outcome) (standings : List Standing) (queue : List Unswept) (active : List (Option Transaction))
    (s : ℕ) (y : Transaction) → IsSound begun outcomes standings queue active → y.number ≡ begun + 1 → y.snap ≡ length outcomes → y.writes ≡ []
    → IsSound (begun + 1) outcomes (standings ++ Open ∷ []) queue (set active s (Some y))
sound-begun begun outcomes standings queue active s y sound number snap writes =
    let new : (z : Transaction) → Some y ≡ Some z → IsOpen (begun + 1) outcomes z = λ z is.
    let same_number : z.number ≡ begun + 1 = ap (λ (t : Transaction). t.number) (sym (same_Some y z is)) ∙ number in
    let same_snap : z.snap ≡ length outcomes = ap (λ (t : Transaction). t.snap) (sym (same_Some y z is)) ∙ snap in
    let same_writes : length z.writes ≡ 0 = ap (λ (t : Transaction). length t.writes) (sym (same_Some y z is)) ∙ ap length writes in
    record {
      from_one = omega (arith, same_number);
      given = omega (arith, same_number);
      snap = omega (arith, same_snap);
      open_yet = open_past begun outcomes standings queue active sound z.number (omega (arith, same_number));
      writes = omega (arith, same_writes);
    } in
    record {
      standings_are = λ k. get_or-push_default standings Open k ∙ sound.standings_are k;
      as_many = omega (arith, sound.as_many, length-append standings (Open ∷ []));
      are_open = set_open begun (begun + 1) outcomes active s (Some y) sound.are_open (omega arith) new
          (λ z w t is ne at same.
          let old : w.number ≤ begun = (sound.are_open.each t w at).given in
          let last : z.number ≡ begun + 1 = ap (λ (t : Transaction). t.number) (sym (same_Some y z is)) ∙ number in
          omega (arith, old, last, same));
      are_outcomes = sound.are_outcomes;
      unswept_are = sound.unswept_are;
    }

below : (begun k : ℕ) → begun - 1 ≤ k → (k + 1 ≡ begun → ⊥) → begun < k + 1
below begun k le ne = elim (cases_lt begun (k + 1)) [ inl lt ↦ lt | inr ge ↦ absurd (ne (omega (arith, le, ge))) ]

less : (begun number : ℕ) → number ≤ begun → (number ≡ begun → ⊥) → number ≤ begun - 1
less begun number le ne = elim (cases_lt number begun) [ inl lt ↦ omega (arith, lt) | inr ge ↦ absurd (ne (omega (arith, le, ge))) ]

-- the last begin is taken back
pub sound-unbegun : (begun : ℕ) (outcomes : List Outcome) (standings : List Standing) (queue : List Unswept) (active : List (Option Transaction))
    (s : ℕ) (x : Transaction) → IsSound begun outcomes standings queue active → get_or active s None ≡ Some x → x.number ≡ begun
    → IsSound (begun - 1) outcomes (take (begun - 1) standings) queue (set active s None)
sound-unbegun begun outcomes standings queue active s x sound at last =
    let gone : IsOpen begun outcomes x = sound.are_open.each s x at in
    let short : length (take (begun - 1) standings) ≡ begun - 1 = length-take-le (begun - 1) standings (omega (arith, sound.as_many)) in
    record {
      standings_are = λ k. elim (cases_lt k (begun - 1)) [
        | inl lt ↦ get_or-take (begun - 1) standings k Open lt ∙ sound.standings_are k
        | inr le ↦
            get_or_past (take (begun - 1) standings) k Open (omega (arith, short, le))
            ∙ sym (elim (cases_eq (k + 1) begun) [
              | inl e ↦ ap (standing_from 0 outcomes) (e ∙ sym last) ∙ gone.open_yet
              | inr ne ↦ open_past begun outcomes standings queue active sound (k + 1) (below begun k le ne)
            ])
      ];
      as_many = short;
      are_open = record {
        each = λ t y bt. elim (slot_cases active s t None y bt) [
          | inl p ↦ absurd (none-some y p.1)
          | inr p ↦
              let old : IsOpen begun outcomes y = sound.are_open.each t y p.1 in
              record {
                from_one = old.from_one;
                given = less begun y.number old.given (λ e. p.0 (sound.are_open.apart t s y x p.1 at (e ∙ sym last)));
                snap = old.snap;
                open_yet = old.open_yet;
                writes = old.writes;
              }
        ];
        apart = (sound-closed begun outcomes standings queue active s sound).are_open.apart;
      };
      are_outcomes = sound.are_outcomes;
      unswept_are = sound.unswept_are;
    }

-- ---- an end of a transaction with writes

-- another open transaction hasn't the number of the one that ends
open_still : (begun : ℕ) (outcomes : List Outcome) (outcome : Outcome) (y : Transaction) → IsOpen begun outcomes y → (outcome.number ≡ y.number → ⊥)
    → IsOpen begun (outcomes ++ outcome ∷ []) y
open_still begun outcomes outcome y old ne = record {
  from_one = old.from_one;
  given = old.given;
  snap = omega (arith, old.snap, length-append outcomes (outcome ∷ []));
  open_yet = standing_from-push_other 0 outcomes outcome y.number ne ∙ old.open_yet;
  writes = old.writes;
}

-- one more outcome, of a transaction that was open
outcomes_pushed : (outcomes : List Outcome) (outcome : Outcome) → AreOutcomes outcomes → 1 ≤ outcome.number → standing_from 0 outcomes outcome.number ≡ Open
    → AreOutcomes (outcomes ++ outcome ∷ [])
outcomes_pushed outcomes outcome are one open' = record {
  from_one = λ place e at. elim (push_cases outcomes outcome place e at) [
    | inl old ↦ are.from_one place e old
    | inr new ↦ omega (arith, one, ap (λ (o : Outcome). o.number) new.1)
  ];
  own = λ place e at. elim (push_cases outcomes outcome place e at) [
    | inl old ↦
        standing_from-push_other 0 outcomes outcome e.number
        (λ same. ended_not_open place e.committed (sym (are.own place e old) ∙ ap (standing_from 0 outcomes) (sym same) ∙ open'))
        ∙ are.own place e old
    | inr new ↦
        ap (λ (o : Outcome). standing_from 0 (outcomes ++ outcome ∷ []) o.number) (sym new.1)
        ∙ standing_from-push_same 0 outcomes outcome open'
        ∙ ap (λ (p : ℕ). standing_at p outcome.committed) (omega (arith, new.0))
        ∙ ap (λ (o : Outcome). standing_at place o.committed) new.1
  ];
}

pub sound-ended : (begun : ℕ) (outcomes : List Outcome) (standings : List Standing) (queue : List Unswept) (active : List (Option Transaction))
    (s : ℕ) (x : Transaction) (committed : Bool) → IsSound begun outcomes standings queue active → get_or active s None ≡ Some x
    → IsSound begun (outcomes ++ record { number = x.number; committed = committed } ∷ [])
    (set standings (x.number - 1) (standing_at (length outcomes) committed))
    (queue ++ map (unswept (length outcomes) committed x) x.writes) (set active s None)
sound-ended begun outcomes standings queue active s x committed sound at =
    let outcome : Outcome = record { number = x.number; committed = committed } in
    let ends : IsOpen begun outcomes x = sound.are_open.each s x at in
    record {
      standings_are = standings_ended standings outcomes outcome sound.standings_are ends.from_one (omega (arith, ends.given, sound.as_many)) ends.open_yet;
      as_many = length-set standings (x.number - 1) (standing_at (length outcomes) committed) ∙ sound.as_many;
      are_open = record {
        each = λ t y bt. elim (slot_cases active s t None y bt) [
          | inl p ↦ absurd (none-some y p.1)
          | inr p ↦ open_still begun outcomes outcome y (sound.are_open.each t y p.1) (λ same. p.0 (sym (sound.are_open.apart s t x y at p.1 same)))
        ];
        apart = (sound-closed begun outcomes standings queue active s sound).are_open.apart;
      };
      are_outcomes = outcomes_pushed outcomes outcome sound.are_outcomes ends.from_one ends.open_yet;
      unswept_are = All-append (IsOf (outcomes ++ outcome ∷ [])) queue (map (unswept (length outcomes) committed x) x.writes)
          (All-weaker (IsOf outcomes) (IsOf (outcomes ++ outcome ∷ []))
          (λ entry of. slice_get-append_left outcomes outcome entry.place (record { number = entry.number; committed = entry.committed }) of)
          queue sound.unswept_are)
          (All-map (IsOf (outcomes ++ outcome ∷ [])) (unswept (length outcomes) committed x) x.writes
          (λ k d lt. slice_get-push outcomes outcome));
    }

-- ---- the sweeper

pub sound-swept : (begun : ℕ) (outcomes : List Outcome) (standings : List Standing) (queue : List Unswept) (active : List (Option Transaction))
    → IsSound begun outcomes standings queue active → IsSound begun outcomes standings (drop 1 queue) active
sound-swept begun outcomes standings queue active sound = record {
  standings_are = sound.standings_are;
  as_many = sound.as_many;
  are_open = sound.are_open;
  are_outcomes = sound.are_outcomes;
  unswept_are = All-drop (IsOf outcomes) 1 queue sound.unswept_are;
}
