-- What became of the ended and of the open transactions.
use Rattle.std.proofs.Common.{◌≡◌, ◌≢◌, ℕ, zero, suc, ◌+◌, ◌-◌, ◌≤◌, cond, leb, List, [], ◌∷◌, map, get_or, Some, None, refl, ap, ◌∙◌, arith}
use Rattle.std.specs.Prelude.{All, slice_get}
use Rattle.std.proofs.lemmas.Bool.{ne_eqb, eq-eqb, lt-leb}
use Rattle.std.proofs.lemmas.Option.{none-some, same_Some}
use Rattle.px_model.specs.declared.machine.Ended.{Ended}
use Rattle.px_model.specs.declared.machine.Flat.{Flat}
use Rattle.px_model.specs.declared.machine.Open.{Open}
use Rattle.px_model.specs.Machine.{Machine, flat}
use Rattle.px_model.specs.declared.standing.Standing.TheVariants.{Before, Open as OpenYet}
use Rattle.px_xacts.specs.declared.transaction.Outcome.{Outcome}
use Rattle.px_xacts.specs.Transactions.{Transactions, standing, standing_at, standing_from}
use Rattle.px_xacts_laws.specs.Mirrors.{Mirrors, outcome_of}
use Rattle.px_chain_laws.specs.Kept.{AreNumbered}
use Rattle.px_chain_laws.specs.Reading.{standing_in}
use Rattle.px_chain_laws.proofs.Ended.{flats_from}

standing_of_ended : (place : ℕ) (ended : List Ended) (i : ℕ) (e : Ended) → slice_get ended i ≡ Some e
    → ((j : ℕ) (f : Ended) → slice_get ended j ≡ Some f → f.number ≡ e.number → j ≡ i)
    → standing_from place (map outcome_of ended) e.number ≡ standing_at (place + i) e.committed
standing_of_ended place [] i e at once = absurd (none-some e at)
standing_of_ended place (g ∷ ended) zero e at once =
    let same : g ≡ e = same_Some g e at in
    ap (λ b. cond b (standing_at place g.committed) (standing_from (place + 1) (map outcome_of ended) e.number)) (eq-eqb g.number e.number (ap (λ (x : Ended). x.number) same))
    ∙ ap (λ (x : Ended). standing_at place x.committed) same
    ∙ ap (λ (p : ℕ). standing_at p e.committed) (omega arith)
standing_of_ended place (g ∷ ended) (suc i) e at once =
    ap (λ b. cond b (standing_at place g.committed) (standing_from (place + 1) (map outcome_of ended) e.number))
    (ne_eqb g.number e.number (λ same. let first : zero ≡ suc i = once zero g refl same in omega (arith, first)))
    ∙ standing_of_ended (place + 1) ended i e at (λ j f bt same. let next : suc j ≡ suc i = once (suc j) f bt same in omega (arith, next))
    ∙ ap (λ (p : ℕ). standing_at p e.committed) (omega arith)

pub standing_of_none : (place : ℕ) (ended : List Ended) (number : ℕ) → ((i : ℕ) (e : Ended) → slice_get ended i ≡ Some e → e.number ≢ number)
    → standing_from place (map outcome_of ended) number ≡ OpenYet
standing_of_none place [] number none = refl
standing_of_none place (e ∷ ended) number none =
    ap (λ b. cond b (standing_at place e.committed) (standing_from (place + 1) (map outcome_of ended) number)) (ne_eqb e.number number (none zero e refl))
    ∙ standing_of_none (place + 1) ended number (λ i f at. none (suc i) f at)

standing_of_number : (m : Machine) (number : ℕ) → 1 ≤ number → standing_in m (Some (m.base + number)) ≡ standing_from 0 (map outcome_of m.ended) number
standing_of_number m number one =
    ap (λ b. cond b Before (standing_from 0 (map outcome_of m.ended) (m.base + number - m.base))) (lt-leb (m.base + number) m.base (omega (arith, one)))
    ∙ ap (standing_from 0 (map outcome_of m.ended)) (omega arith)

-- a write of an ended transaction tells what became of that
abbrev pub IsTold : Machine → Flat → Type 0
IsTold m f = standing_in m (Some (m.base + f.number)) ≡ standing_at f.place f.committed

pub ended_are_told : (m : Machine) → AreNumbered m.begun m.ended m.active → All (IsTold m) (flat m)
ended_are_told m n = flats_from (IsTold m) 0 m.ended (λ i e w at.
    standing_of_number m e.number (n.from_one i e at) ∙ standing_of_ended 0 m.ended i e at (λ j f bt same. n.once j i f e bt at same))

pub open_are_open : (m : Machine) → AreNumbered m.begun m.ended m.active → (session : ℕ) (x : Open) → get_or m.active session None ≡ Some x
    → standing_in m (Some (m.base + x.number)) ≡ OpenYet
open_are_open m n session x at =
    standing_of_number m x.number (omega (arith, n.open_ones.from_one session x at))
    ∙ standing_of_none 0 m.ended x.number (λ i e bt. n.not_open i session e x bt at)

-- what the transactions without their rows tell is the same
pub mirrored_standing : (m : Machine) (all : Transactions) (xn : ℕ) → Mirrors m all → standing all xn ≡ standing_in m (Some xn)
unfolding standing
mirrored_standing m all xn h =
    ap (λ (n : ℕ). cond (leb xn n) Before (standing_from 0 all.outcomes (xn - n))) h.base
    ∙ ap (λ (outcomes : List Outcome). cond (leb xn m.base) Before (standing_from 0 outcomes (xn - m.base))) h.outcomes
