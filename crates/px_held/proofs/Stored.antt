-- The stored numbers of the first slots of a table.
use Rattle.std.proofs.Common.{◌≡◌, ◌≢◌, ℕ, ◌+◌, ◌<◌, ◌≤◌, max, sym, subst, arith, ⊎_elim}
use Rattle.std.proofs.lemmas.Bool.{cases_eq}
use Rattle.px_cells.specs.declared.cell.CellKind.TheVariants as kind
use Rattle.px_chain.specs.Sound.{IsFreeSlot}
use Rattle.px_chain.specs.Table.{Table}
use Rattle.px_history.specs.Fitting.{IsStoredNumber}
use Rattle.px_model.specs.declared.limits.TheConstants.{STORED_NUMBERS_END}
use Rattle.px_recs.specs.Place.{place_of, table_file}
use Rattle.px_held.specs.Errors.{IfDamage}
use Rattle.px_held.specs.Numbers.{IsPastVersions, IsUnstored, IsUnstoredAt, IsVersion}
use Rattle.px_held.specs.declared.error.HeldError.{HeldError}
use Rattle.px_held.specs.declared.error.HeldError.TheVariants.{OutOfMemory, Fault as FaultOf, Damaged}

-- the number is past those of the versions in the slots up to one
pub record IsPastSome (first : ℕ) (table : Table) (last next : ℕ) : Type 0 where
  pub from : first ≤ next
  pub small : next ≤ STORED_NUMBERS_END
  pub stored : (slot : ℕ) → 1 ≤ slot → slot ≤ last → (IsFreeSlot table slot → ⊥) → IsStoredNumber (table.slot slot).xn
  pub past : (slot : ℕ) → 1 ≤ slot → slot ≤ last → (IsFreeSlot table slot → ⊥) → (table.slot slot).xn < next
  pub least : (other : ℕ) → first ≤ other → ((slot : ℕ) → IsVersion table slot → (table.slot slot).xn < other) → next ≤ other

pub past_none : (first : ℕ) (table : Table) → first ≤ STORED_NUMBERS_END → IsPastSome first table 0 first
past_none first table small = record {
  from = omega arith;
  small = small;
  stored = λ slot some none used. absurd (omega (arith, some, none));
  past = λ slot some none used. absurd (omega (arith, some, none));
  least = λ other from below. from;
}

pub past_free : (first : ℕ) (table : Table) (last next : ℕ) → IsPastSome first table last next → IsFreeSlot table (last + 1) → IsPastSome first table (last + 1) next
past_free first table last next past free = record {
  from = past.from;
  small = past.small;
  stored = λ slot some to used. past.stored slot some (below slot to used) used;
  past = λ slot some to used. past.past slot some (below slot to used) used;
  least = past.least;
}
  where
    below : (slot : ℕ) → slot ≤ last + 1 → (IsFreeSlot table slot → ⊥) → slot ≤ last
    below slot to used = ⊎_elim
        (λ (is : slot ≡ last + 1). absurd (used (subst (IsFreeSlot table) (sym is) free)))
        (λ (other : slot ≢ last + 1). omega (arith, to, other))
        (cases_eq slot (last + 1))

pub past_version : (first : ℕ) (table : Table) (last next : ℕ) → IsPastSome first table last next → IsVersion table (last + 1)
    → IsStoredNumber (table.slot (last + 1)).xn → IsPastSome first table (last + 1) (max next ((table.slot (last + 1)).xn + 1))
past_version first table last next past version stored =
    let xn = (table.slot (last + 1)).xn in
    let from = past.from in
    let small = past.small in
    let end = stored.1 in
    record {
      from = omega (arith, from);
      small = omega (arith, small, end);
      stored = λ slot some to used. ⊎_elim
          (λ (is : slot ≡ last + 1). subst (λ (n : ℕ). IsStoredNumber (table.slot n).xn) (sym is) stored)
          (λ (other : slot ≢ last + 1). past.stored slot some (omega (arith, to, other)) used)
          (cases_eq slot (last + 1));
      past = λ slot some to used. ⊎_elim
          (λ (is : slot ≡ last + 1). subst (λ (n : ℕ). (table.slot n).xn < max next (xn + 1)) (sym is) (omega arith))
          (λ (other : slot ≢ last + 1). let was = past.past slot some (omega (arith, to, other)) used in omega (arith, was))
          (cases_eq slot (last + 1));
      least = λ other to below. let was = past.least other to below in let this = below (last + 1) version in omega (arith, was, this);
    }

pub past_all : (first : ℕ) (table : Table) (last next : ℕ) → IsPastSome first table last next → table.header.slots ≤ last → IsPastVersions first table next
past_all first table last next past all = record {
  from = past.from;
  stored = λ slot version. let to = version.0.1 in past.stored slot version.0.0 (omega (arith, to, all)) version.1;
  past = λ slot version. let to = version.0.1 in past.past slot version.0.0 (omega (arith, to, all)) version.1;
  least = past.least;
}

-- damage at the place of such a slot
pub unstored_at : (short number : ℕ) (table : Table) (slot : ℕ) (error : HeldError) → IsUnstored table slot
    → IfDamage (λ file place. (file ≡ table_file kind.Slot number) × (place ≡ place_of short kind.Slot slot)) error
    → IfDamage (IsUnstoredAt short number table) error
unstored_at short number table slot OutOfMemory unstored at = tt
unstored_at short number table slot (FaultOf fault) unstored at = tt
unstored_at short number table slot (Damaged file place) unstored at = record { slot = slot; unstored = unstored; its_file = at.0; its_place = at.1 }
