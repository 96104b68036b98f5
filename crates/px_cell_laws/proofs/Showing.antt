-- What cells show: the committed rows, and each reader's view.
use Rattle.std.proofs.Common.{◌≡◌, ◌≢◌, ℕ, ◌+◌, ◌-◌, ◌<◌, ◌≤◌, ◌==◌, ◌||◌, Bool, true, cond, List, map, reverse, take, drop, get_or, Option, Some, None, option_map, refl, sym, ap, ◌∙◌, ⊎_elim}
use Rattle.std.specs.Prelude.{All, IfSome, find, flat_map}
use Rattle.std.specs.Option.{option_or}
use Rattle.std.proofs.lemmas.Bool.{cases_lt, le-leb, lt-leb, or_right}
use Rattle.std.proofs.lemmas.List.{take-append-drop}
use Rattle.std.proofs.lemmas.List.Elements.{All-drop, All-take, All-weaker}
use Rattle.std.proofs.lemmas.Simd.{map-map}
use Rattle.std.proofs.Math.Seq.{take-length}
use Rattle.px_calls.specs.Steps.{open_of}
use Rattle.px_calls.proofs.EveryMachine.{new_transaction_sees_all}
use Rattle.px_cells.specs.declared.slot.Slot.{Slot}
use Rattle.px_model.specs.declared.standing.Standing.{Standing}
use Rattle.px_model.specs.declared.standing.Standing.TheVariants.{Before}
use Rattle.px_chain.specs.Sound.{IsUsedRow, key_of}
use Rattle.px_chain.specs.Table.{Table}
use Rattle.px_chain.specs.Visible.{is_done, is_visible}
use Rattle.px_chain.specs.declared.views.SlotView.{SlotView}
use Rattle.px_chain_laws.specs.Kept.{IsKept}
use Rattle.px_chain_laws.specs.Reading.{is_committed, row_seen, seen, sees, standing_in}
use Rattle.px_chain_laws.proofs.Ended.{last_write}
use Rattle.px_chain_laws.proofs.Looking.{last, last_committed-append, last_committed-last, last_of_flats, none_of_slots}
use Rattle.px_chain_laws.proofs.Reading.{base_seen, committed_at, committed_found, left_left, left_writes, newest_first, row_over_ended, seen_row}
use Rattle.px_chain_laws.proofs.Standings.{IsTold, ended_are_told, mirrored_standing, open_are_open}
use Rattle.px_history.specs.Store.{Store, versions_of}
use Rattle.px_model.specs.Chains.{base_or, chain, last_committed, of_ended, of_key, of_slot}
use Rattle.px_model.specs.Machine.{Machine, commits, committed_writes, flat, published, view}
use Rattle.px_model.specs.Rows.{Key, after, in_order, row_at}
use Rattle.px_model.specs.declared.machine.Ended.{Ended}
use Rattle.px_model.specs.declared.machine.Flat.{Flat}
use Rattle.px_model.specs.declared.machine.Open.{Open}
use Rattle.px_model.specs.declared.machine.Variation.{Variation}
use Rattle.px_model_laws.proofs.BaseRows.{left_by}
use Rattle.px_model_laws.proofs.Laws.{rows_stay_in_order}
use Rattle.px_machine_laws.specs.Seen.{row_left}
use Rattle.px_machine_laws.proofs.Seen.{row_at-committed}
use Rattle.px_shown.specs.Shown.{Shows, row_shown, write_of}
use Rattle.px_xacts.specs.Transactions.{Transactions, standing_from}
use Rattle.px_xacts_laws.specs.Mirrors.{Mirrors, outcome_of}
use Rattle.px_cell_laws.specs.Holding.{HoldsChains, variation_in}
use Rattle.px_cell_laws.specs.Reading.{slot_seen, view_of}
use Rattle.px_cell_laws.proofs.Chained.{chain_of_row, no_row_no_chain}
use Rattle.px_cell_laws.proofs.Lists.{find_alike, find_mapped, mapped_to_itself, mapped_twice}
use Rattle.px_shown.specs.Parts.{Parts}

-- ---- the rows after all commits

published_now : (m : Machine) → published m (commits m - m.before) ≡ after m.opening (committed_writes m.ended)
unfolding view
published_now m = sym (new_transaction_sees_all m) ∙ ap (λ (ended : List Ended). after m.opening (committed_writes ended)) (take-length m.ended)

-- what it wrote counts
abbrev counts : Machine → Option ℕ → Bool
counts m None = true
counts m (Some xn) = is_committed (standing_in m (Some xn))

abbrev counts_in : Machine → Variation → Bool
counts_in m v = counts m v.xn

-- the newest version that counts is the row after all commits
row_now : (m : Machine) (key : Key) → IsKept m → row_seen (last (counts_in m) (chain m key)) ≡ row_at key (published m (commits m - m.before))
unfolding chain
row_now m key k =
    let test : Variation → Bool = counts_in m in
    let row = row_at key m.opening in
    let was = last_committed key (take m.swept (flat m)) in
    let now = last_committed key (drop m.swept (flat m)) in
    let base = base_or m.base row was in
    let passed = of_key key (map (of_ended m.base) (drop m.swept (flat m))) in
    let own = of_key key (flat_map (of_slot m.base) m.active) in
    let told = ended_are_told m k.numbered in
    let is_told : All (λ f. test (of_ended m.base f) ≡ f.committed) (flat m) =
    All-weaker (IsTold m) (λ (f : Flat). test (of_ended m.base f) ≡ f.committed) (λ f t. ap is_committed t ∙ committed_at f.place f.committed) (flat m) told in
    let of_own : last test own ≡ None = none_of_slots test m.base key m.active (λ t y w bt. ap is_committed (open_are_open m k.numbered t y bt)) in
    let of_passed : last test passed ≡ option_map (of_ended m.base) now =
    last_of_flats test (λ f. f.committed) m.base key (drop m.swept (flat m)) (All-drop (λ (f : Flat). test (of_ended m.base f) ≡ f.committed) m.swept (flat m) is_told)
    ∙ ap (option_map (of_ended m.base)) (sym (last_committed-last key (drop m.swept (flat m)))) in
    let base_counts : IfSome was (λ f. test (of_ended m.base f) ≡ true) = committed_found key (λ (f : Flat). test (of_ended m.base f) ≡ true) (take m.swept (flat m))
    (All-weaker (λ (f : Flat). test (of_ended m.base f) ≡ f.committed) (λ (f : Flat). f.committed ≡ true → test (of_ended m.base f) ≡ true) (λ f t c. t ∙ c) (take m.swept (flat m))
    (All-take (λ (f : Flat). test (of_ended m.base f) ≡ f.committed) m.swept (flat m) is_told)) in
    let both : option_or now was ≡ last_committed key (flat m) =
    sym (last_committed-append key (take m.swept (flat m)) (drop m.swept (flat m))) ∙ ap (last_committed key) (take-append-drop m.swept (flat m)) in
    ap row_seen (newest_first test base passed own)
    ∙ ap (λ o. row_seen (option_or o (option_or (last test passed) (last test base)))) of_own
    ∙ ap (λ o. row_seen (option_or o (last test base))) of_passed
    ∙ row_over_ended m.base now (last test base)
    ∙ ap (λ r. left_by r now) (base_seen test m.base row was (λ r. refl) base_counts)
    ∙ left_left row was now
    ∙ ap (left_by row) both
    ∙ left_writes row (last_committed key (flat m))
    ∙ ap (row_left row) (last_write key 0 m.ended)
    ∙ sym (row_at-committed key m.opening m.ended)
    ∙ ap (row_at key) (sym (published_now m))

-- ---- the slots that count

slot_counts : (parts : Parts) (m : Machine) (store : Store) (t : ℕ) (s : Slot) → HoldsChains parts m store → (s.xn ≤ m.base → store.done s.xn ≡ true)
    → store.done s.xn ≡ counts_in m (variation_in parts m.base t s)
slot_counts parts m store t s h found = ⊎_elim
    (λ (past : m.base < s.xn). h.done s.xn past ∙ sym (ap (λ (b : Bool). counts m (cond b None (Some s.xn))) (lt-leb s.xn m.base past)))
    (λ (low : s.xn ≤ m.base). found low ∙ sym (ap (λ (b : Bool). counts m (cond b None (Some s.xn))) (le-leb s.xn m.base low)))
    (cases_lt m.base s.xn)

row_of_slot : (parts : Parts) (base t : ℕ) (o : Option Slot) → row_left None (option_map (write_of parts t) o) ≡ row_seen (option_map (variation_in parts base t) o)
row_of_slot parts base t None = refl
row_of_slot parts base t (Some s) = refl

shown_now : (parts : Parts) (m : Machine) (store : Store) (t row : ℕ) → HoldsChains parts m store → IsUsedRow (store.tables t) row
    → row_shown parts t store.done (versions_of store t row) ≡ row_seen (last (counts_in m) (chain m (t, key_of (store.tables t) row)))
shown_now parts m store t row h used =
    let slots = versions_of store t row in
    let counts_here : Slot → Bool = λ s. counts_in m (variation_in parts m.base t s) in
    ap (λ o. row_left None (option_map (write_of parts t) o)) (find_alike (λ (s : Slot). store.done s.xn) counts_here slots
    (All-weaker (λ (s : Slot). s.xn ≤ m.base → store.done s.xn ≡ true) (λ (s : Slot). store.done s.xn ≡ counts_here s) (λ s found. slot_counts parts m store t s h found) slots (h.found t row)))
    ∙ row_of_slot parts m.base t (find counts_here slots)
    ∙ ap row_seen (sym (find_mapped (counts_in m) (variation_in parts m.base t) slots))
    ∙ ap (λ (l : List Variation). row_seen (find (counts_in m) l)) (sym (chain_of_row parts m store t row h used))

pub committed_shown : (parts : Parts) (m : Machine) (store : Store) → HoldsChains parts m store → IsKept m → in_order m.opening ≡ true
    → Shows parts store.tables store.layouts store.done (published m (commits m - m.before))
committed_shown parts m store h k opening = record {
  order = ap in_order (published_now m) ∙ rows_stay_in_order m.opening (committed_writes m.ended) opening;
  keys = record {
    of_row = λ t row used. sym (row_now m (t, key_of (store.tables t) row) k) ∙ sym (shown_now parts m store t row h used);
    of_none = λ key none. sym (row_now m key k) ∙ ap (λ (l : List Variation). row_seen (last (counts_in m) l)) (no_row_no_chain parts m store key h none);
  };
}

-- ---- a reader

slot_sees : (parts : Parts) (m : Machine) (all : Transactions) (table : Table) (t : ℕ) (x : Open) (n : ℕ) → Mirrors m all
    → is_visible (m.base + x.number) x.snap (view_of all table n) ≡ sees m x (variation_in parts m.base t (table.slot n))
slot_sees parts m all table t x n mirrors =
    let xn = (table.slot n).xn in
    let is_own : Bool = xn == m.base + x.number in
    let write = write_of parts t (table.slot n) in
    let known : is_visible (m.base + x.number) x.snap (view_of all table n) ≡ (is_own || is_done x.snap (standing_in m (Some xn))) =
    ap (λ (s : Standing). is_own || is_done x.snap s) (mirrored_standing m all xn mirrors) in
    ⊎_elim
    (λ (past : m.base < xn).
    known ∙ sym (ap (λ (b : Bool). sees m x (record { xn = cond b None (Some xn); write = write })) (lt-leb xn m.base past)))
    (λ (low : xn ≤ m.base).
    known
    ∙ or_right is_own (is_done x.snap (standing_in m (Some xn))) (ap (λ (b : Bool). is_done x.snap (cond b Before (standing_from 0 (map outcome_of m.ended) (xn - m.base)))) (le-leb xn m.base low))
    ∙ sym (ap (λ (b : Bool). sees m x (record { xn = cond b None (Some xn); write = write })) (le-leb xn m.base low)))
    (cases_lt m.base xn)

-- the slot that is seen is found among the places of the chain
seen_place : (all : Transactions) (store : Store) (own snapshot t row : ℕ)
    → slot_seen all store own snapshot t row ≡ find (λ n. is_visible own snapshot (view_of all (store.tables t) n)) ((store.layouts t).chain row)
seen_place all store own snapshot t row =
    let places = (store.layouts t).chain row in
    let view : ℕ → SlotView = view_of all (store.tables t) in
    let found = find (λ n. is_visible own snapshot (view n)) places in
    ap (option_map (λ (v : SlotView). v.slot)) (find_mapped (is_visible own snapshot) view places)
    ∙ mapped_twice view (λ (v : SlotView). v.slot) found
    ∙ mapped_to_itself found

pub seen_in_cells : (parts : Parts) (m : Machine) (all : Transactions) (store : Store) (x : Open) (t row : ℕ) → HoldsChains parts m store → Mirrors m all
    → IsUsedRow (store.tables t) row
    → option_map (λ slot. variation_in parts m.base t ((store.tables t).slot slot)) (slot_seen all store (m.base + x.number) x.snap t row)
    ≡ seen m x (t, key_of (store.tables t) row)
unfolding seen
seen_in_cells parts m all store x t row h mirrors used =
    let table = store.tables t in
    let places = (store.layouts t).chain row in
    let at : ℕ → Variation = λ n. variation_in parts m.base t (table.slot n) in
    let visible : ℕ → Bool = λ n. is_visible (m.base + x.number) x.snap (view_of all table n) in
    ap (option_map at) (seen_place all store (m.base + x.number) x.snap t row
    ∙ find_alike visible (λ n. sees m x (at n)) places (λ i d lt. slot_sees parts m all table t x (get_or places i d) mirrors))
    ∙ sym (find_mapped (sees m x) at places)
    ∙ ap (find (sees m x)) (sym (map-map (variation_in parts m.base t) table.slot places))
    ∙ ap (find (sees m x)) (sym (chain_of_row parts m store t row h used))

row_of_place : (parts : Parts) (base t : ℕ) (table : Table) (o : Option ℕ)
    → row_left None (option_map (λ n. write_of parts t (table.slot n)) o) ≡ row_seen (option_map (λ n. variation_in parts base t (table.slot n)) o)
row_of_place parts base t table None = refl
row_of_place parts base t table (Some n) = refl

pub row_in_cells : (parts : Parts) (m : Machine) (all : Transactions) (store : Store) (session : ℕ) (x : Open) (t row : ℕ) → HoldsChains parts m store → IsKept m → Mirrors m all
    → open_of m session ≡ Some x → IsUsedRow (store.tables t) row
    → row_left None (option_map (λ slot. write_of parts t ((store.tables t).slot slot)) (slot_seen all store (m.base + x.number) x.snap t row))
    ≡ row_at (t, key_of (store.tables t) row) (view m x)
row_in_cells parts m all store session x t row h k mirrors at used =
    row_of_place parts m.base t (store.tables t) (slot_seen all store (m.base + x.number) x.snap t row)
    ∙ ap row_seen (seen_in_cells parts m all store x t row h mirrors used)
    ∙ seen_row m session x (t, key_of (store.tables t) row) k at

pub no_row_in_cells : (parts : Parts) (m : Machine) (store : Store) (session : ℕ) (x : Open) (key : Key) → HoldsChains parts m store → IsKept m → open_of m session ≡ Some x
    → ((row : ℕ) → IsUsedRow (store.tables key.0) row → key_of (store.tables key.0) row ≢ key.1) → row_at key (view m x) ≡ None
unfolding seen
no_row_in_cells parts m store session x key h k at none =
    sym (seen_row m session x key k at) ∙ ap (λ (l : List Variation). row_seen (find (sees m x) (reverse l))) (no_row_no_chain parts m store key h none)
