-- The newest committed version in the cells is the machine's.
use Rattle.std.proofs.Common.{◌≡◌, ℕ, ◌<◌, ◌≤◌, ◌-◌, Bool, cond, map, get_or, Some, None, option_map, sym, ap, ◌∙◌, ⊎_elim}
use Rattle.std.specs.Prelude.{find}
use Rattle.std.proofs.lemmas.Bool.{cases_lt, le-leb, lt-leb}
use Rattle.std.proofs.lemmas.Simd.{map-map}
use Rattle.px_cell_laws.specs.Holding.{HoldsChains, variation_in}
use Rattle.px_cell_laws.specs.Reading.{view_of}
use Rattle.px_cell_laws.proofs.Chained.{chain_of_row}
use Rattle.px_cell_laws.proofs.Lists.{find_alike, find_mapped, mapped_twice}
use Rattle.px_chain.specs.Sound.{IsUsedRow, key_of}
use Rattle.px_chain.specs.Table.{Table}
use Rattle.px_chain.specs.declared.views.SlotView.{SlotView}
use Rattle.px_chain_laws.specs.Reading.{is_committed, standing_in}
use Rattle.px_chain_laws.specs.Reading as machine
use Rattle.px_chain_laws.proofs.Standings.{mirrored_standing}
use Rattle.px_history.specs.Store.{Store}
use Rattle.px_model.specs.Machine.{Machine}
use Rattle.px_model.specs.declared.machine.Variation.{Variation}
use Rattle.px_model.specs.declared.standing.Standing.TheVariants.{Before}
use Rattle.px_shown.specs.Parts.{Parts}
use Rattle.px_xacts.specs.Transactions.{Transactions, standing_from}
use Rattle.px_xacts_laws.specs.Mirrors.{Mirrors, outcome_of}
use Rattle.px_held.specs.Reading.{newest_committed}

-- the cells and the machine know the same of a version's transaction
standing_known : (parts : Parts) (m : Machine) (all : Transactions) (table : Table) (t n : ℕ) → Mirrors m all
    → (view_of all table n).standing ≡ standing_in m (variation_in parts m.base t (table.slot n)).xn
standing_known parts m all table t n mirrors =
    let xn = (table.slot n).xn in
    let known = mirrored_standing m all xn mirrors in
    ⊎_elim
    (λ (past : m.base < xn). known ∙ sym (ap (λ (b : Bool). standing_in m (cond b None (Some xn))) (lt-leb xn m.base past)))
    (λ (low : xn ≤ m.base).
    known ∙ ap (λ (b : Bool). cond b Before (standing_from 0 (map outcome_of m.ended) (xn - m.base))) (le-leb xn m.base low)
    ∙ sym (ap (λ (b : Bool). standing_in m (cond b None (Some xn))) (le-leb xn m.base low)))
    (cases_lt m.base xn)

pub committed_in_cells : (parts : Parts) (m : Machine) (all : Transactions) (store : Store) (t row : ℕ) → HoldsChains parts m store → Mirrors m all → IsUsedRow (store.tables t) row
    → option_map (λ view. variation_in parts m.base t ((store.tables t).slot view.slot)) (newest_committed all store t row)
    ≡ machine.newest_committed m (t, key_of (store.tables t) row)
unfolding machine.newest_committed
committed_in_cells parts m all store t row h mirrors used =
    let table = store.tables t in
    let places = (store.layouts t).chain row in
    let view : ℕ → SlotView = view_of all table in
    let at : ℕ → Variation = λ n. variation_in parts m.base t (table.slot n) in
    let committed : ℕ → Bool = λ n. is_committed (view n).standing in
    ap (option_map (λ (v : SlotView). at v.slot)) (find_mapped (λ (v : SlotView). is_committed v.standing) view places)
    ∙ mapped_twice view (λ (v : SlotView). at v.slot) (find committed places)
    ∙ ap (option_map at) (find_alike committed (λ n. is_committed (standing_in m (at n).xn)) places
    (λ i d lt. ap is_committed (standing_known parts m all table t (get_or places i d) mirrors)))
    ∙ sym (find_mapped (λ (v : Variation). is_committed (standing_in m v.xn)) at places)
    ∙ ap (find (λ (v : Variation). is_committed (standing_in m v.xn))) (sym (map-map (variation_in parts m.base t) table.slot places))
    ∙ ap (find (λ (v : Variation). is_committed (standing_in m v.xn))) (sym (chain_of_row parts m store t row h used))
