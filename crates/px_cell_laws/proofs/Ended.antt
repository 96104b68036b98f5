-- What became of the writers of versions.
use Rattle.std.proofs.Common.{◌≡◌, ℕ, ◌+◌, ◌<◌, ◌≤◌, Bool, true, false, not, cond, inl, inr, [], ◌∷◌, take, Option, Some, None, sym, ap, subst, ◌∙◌, ⊎_elim}
use Rattle.std.specs.Prelude.{◌⊎◌, All, IfSome, slice_get}
use Rattle.std.proofs.lemmas.Bool.{cases_lt, le-leb, lt-leb}
use Rattle.std.proofs.lemmas.Option.{get_or_from_slice_get, none-some, same_Some, slice_get_within}
use Rattle.std.proofs.lemmas.List.Elements.{All-cons, All-nil, All-take, All-weaker}
use Rattle.px_cells.specs.declared.slot.Slot.{Slot}
use Rattle.px_chain_laws.specs.Kept.{IsKept}
use Rattle.px_chain_laws.specs.Reading.{is_committed, standing_in}
use Rattle.px_chain_laws.specs.Sweeping.{base_of}
use Rattle.px_chain_laws.proofs.Looking.{by}
use Rattle.px_chain_laws.proofs.Reading.{committed_at, committed_found}
use Rattle.px_chain_laws.proofs.Standings.{IsTold, ended_are_told}
use Rattle.px_history.specs.Store.{Store}
use Rattle.px_model.specs.Chains.{base_or, is_put, last_committed, of_ended}
use Rattle.px_model.specs.Machine.{Machine, flat}
use Rattle.px_model.specs.Rows.{Key, row_at}
use Rattle.px_model.specs.declared.machine.Flat.{Flat}
use Rattle.px_model.specs.declared.machine.Variation.{Variation}
use Rattle.px_model.specs.declared.row.Row.{Row}
use Rattle.px_model.specs.declared.write.Write.TheVariants.{Put}
use Rattle.px_xacts.specs.Transactions.{standing_at}
use Rattle.px_cell_laws.specs.Holding.{HoldsChains, is_rolled_back, number_past, variation_in}
use Rattle.px_cell_laws.proofs.Ends.{rolled_back_at}
use Rattle.px_shown.specs.Parts.{Parts}

-- its transaction ended
pub record HasEnded (m : Machine) (xn : ℕ) : Type 0 where
  pub place : ℕ
  pub committed : Bool
  pub so : standing_in m (Some xn) ≡ standing_at place committed

-- the version is of the opening, or of a transaction that ended
abbrev pub IsEnded : Machine → Variation → Type 0
IsEnded m v = IfSome v.xn (HasEnded m)

pub of_told : (m : Machine) (f : Flat) → IsTold m f → IsEnded m (of_ended m.base f)
of_told m f told = record { place = f.place; committed = f.committed; so = told }

base_ended : (m : Machine) (row : Option Row) (o : Option Flat) → IfSome o (IsTold m) → All (IsEnded m) (base_or m.base row o)
base_ended m None None told = All-nil (IsEnded m)
base_ended m (Some row) None told = All-cons (IsEnded m) (by None (Put row)) [] tt (All-nil (IsEnded m))
base_ended m row (Some f) told =
    elim (is_put f.write) as (λ b. All (IsEnded m) (cond b (of_ended m.base f ∷ []) [])) [
      | true ↦ All-cons (IsEnded m) (of_ended m.base f) [] (of_told m f told) (All-nil (IsEnded m))
      | false ↦ All-nil (IsEnded m)
    ]

pub bases_ended : (m : Machine) (key : Key) → IsKept m → All (IsEnded m) (base_of m key)
bases_ended m key k =
    let swept = take m.swept (flat m) in
    base_ended m (row_at key m.opening) (last_committed key swept) (committed_found key (IsTold m) swept
    (All-weaker (IsTold m) (λ (f : Flat). f.committed ≡ true → IsTold m f) (λ f t c. t) swept (All-take (IsTold m) m.swept (flat m) (ended_are_told m k.numbered))))

pub next_told : (m : Machine) (w : Flat) → IsKept m → slice_get (flat m) m.swept ≡ Some w → IsTold m w
next_told m w k at =
    subst (IsTold m) (get_or_from_slice_get (flat m) m.swept w w at) (ended_are_told m k.numbered m.swept w (slice_get_within (flat m) m.swept w at))

-- ---- in the store

-- a version whose writer is known was written since the opening
pub number_known : (base xn number : ℕ) → number_past base xn ≡ Some number → (xn ≡ number) × (base < xn)
number_known base xn number known = ⊎_elim
    (λ (past : base < xn). (same_Some xn number (sym (ap (λ (b : Bool). cond b None (Some xn)) (lt-leb xn base past)) ∙ known), past))
    (λ (low : xn ≤ base). absurd (none-some number (sym (ap (λ (b : Bool). cond b None (Some xn)) (le-leb xn base low)) ∙ known)))
    (cases_lt base xn)

-- it won't commit any more
abbrev pub IsDoneOrOver : Store → (xn : ℕ) → Type 0
IsDoneOrOver store xn = (store.done xn ≡ true) ⊎ (store.over xn ≡ true)

pub ended_is_past : (parts : Parts) (m : Machine) (store : Store) (xn : ℕ) → HoldsChains parts m store → m.base < xn → HasEnded m xn → IsDoneOrOver store xn
ended_is_past parts m store xn h past ended = how ended.committed ended.so
  where
    how : (committed : Bool) → standing_in m (Some xn) ≡ standing_at ended.place committed → IsDoneOrOver store xn
    how true so = inl (h.done xn past ∙ ap is_committed so)
    how false so = inr (h.over xn past ∙ ap is_rolled_back so)

pub version_is_past : (parts : Parts) (m : Machine) (store : Store) (t : ℕ) (s : Slot) → HoldsChains parts m store → (s.xn ≤ m.base → store.done s.xn ≡ true)
    → IsEnded m (variation_in parts m.base t s) → IsDoneOrOver store s.xn
version_is_past parts m store t s h found ended = ⊎_elim
    (λ (past : m.base < s.xn). ended_is_past parts m store s.xn h past (subst (λ (b : Bool). IfSome (cond b None (Some s.xn)) (HasEnded m)) (lt-leb s.xn m.base past) ended))
    (λ (low : s.xn ≤ m.base). inl (found low))
    (cases_lt m.base s.xn)

-- the version that a write made whose transaction ended
pub record IsMadeBy (m : Machine) (store : Store) (w : Flat) (s : Slot) : Type 0 where
  pub number : s.xn ≡ m.base + w.number
  pub done : store.done s.xn ≡ w.committed
  pub over : store.over s.xn ≡ not w.committed

pub made_by : (parts : Parts) (m : Machine) (store : Store) (w : Flat) (t : ℕ) (s : Slot) → HoldsChains parts m store → IsTold m w
    → variation_in parts m.base t s ≡ of_ended m.base w → IsMadeBy m store w s
made_by parts m store w t s h told is =
    let known = number_known m.base s.xn (m.base + w.number) (ap (λ (v : Variation). v.xn) is) in
    let so = ap (λ (xn : ℕ). standing_in m (Some xn)) known.0 ∙ told in
    record {
      number = known.0;
      done = h.done s.xn known.1 ∙ ap is_committed so ∙ committed_at w.place w.committed;
      over = h.over s.xn known.1 ∙ ap is_rolled_back so ∙ rolled_back_at w.place w.committed;
    }
