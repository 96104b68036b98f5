-- Where unswept writes stand after a sweep.
use Rattle.std.proofs.Common.{◌≡◌, ◌≢◌, ℕ, ◌+◌, ◌-◌, ◌≤◌, Bool, true, false, cond, List, [], ◌∷◌, ◌++◌, map, take, drop, length, Some, refl, sym, ap, subst, ◌∙◌, arith, ⊎_elim}
use Rattle.std.specs.Prelude.{slice_get}
use Rattle.std.proofs.lemmas.Bool.{cases_eq, eq-eqb, ne_eqb}
use Rattle.std.proofs.lemmas.List.{append_assoc, map-append}
use Rattle.std.proofs.Math.Seq.{take-append-add}
use Rattle.px_chain.specs.Sound.{IsUsedRow, key_of}
use Rattle.px_chain_laws.specs.Kept.{IsKept}
use Rattle.px_history.specs.Steps.{after_step, after_unlink}
use Rattle.px_history.specs.Store.{Store}
use Rattle.px_model.specs.Machine.{Machine}
use Rattle.px_model.specs.Rows.{Key, same_key}
use Rattle.px_shown.specs.Changes.{layouts_unlinked, left_of}
use Rattle.px_shown.specs.Tables.{Layouts}
use Rattle.px_shown.proofs.Changes.{unlink_stays_sound}
use Rattle.px_chain_laws.proofs.Sweeping.{dropped}
use Rattle.px_model.specs.Chains.{is_put}
use Rattle.px_model.specs.Machine.{flat}
use Rattle.px_model.specs.Rows.{key_written}
use Rattle.px_model.specs.declared.machine.Flat.{Flat}
use Rattle.px_cell_laws.specs.Sweeping.{IsSweptAt, sweep_count_of, sweep_from, sweep_of}
use Rattle.px_cell_laws.proofs.Covering.{within_row}
use Rattle.px_cell_laws.proofs.Sweeping.{cut}
use Rattle.px_cell_laws.proofs.Swept.{sweep_changes}
use Rattle.px_shown.proofs.Keys.{same_key-not}
use Rattle.px_xacts.specs.declared.transaction.Unswept.{Unswept}
use Rattle.px_xacts.specs.Transactions.{Transactions}
use Rattle.px_xacts_laws.specs.Mirrors.{KnownWrite, Mirrors, key_at, known_of_flat, known_of_unswept}
use Rattle.px_cell_laws.specs.Holding.{HoldsChains}
use Rattle.px_cell_laws.specs.Locating.{AreWrittenAt, BeginsWith, of_key, unswept_writes, without_first}
use Rattle.px_cell_laws.proofs.Noting.{in_row}
use Rattle.px_cell_laws.proofs.OneRow.{ChangesRow, row_changes, written_changed}
use Rattle.px_cell_laws.proofs.Due.{located}
use Rattle.px_shown.specs.Parts.{Parts}

mapped_front : {X Y : Type 0} (f : X → Y) (first list : List X) → BeginsWith first list → BeginsWith (map f first) (map f list)
mapped_front f first list b = record { others = map f b.others; split = ap (map f) b.split ∙ map-append f first b.others }

-- what stands in front of all that goes stays in front
front_stays : {X : Type 0} (first others : List X) (from count : ℕ) → length first ≤ from → BeginsWith first (left_of (first ++ others) from count)
front_stays first others from count below =
    let more = from - length first in
    let behind = drop count (drop from (first ++ others)) in
    let taken : take from (first ++ others) ≡ first ++ take more others =
    ap (λ (n : ℕ). take n (first ++ others)) (let whole : from ≡ length first + more = omega (arith, below) in whole) ∙ take-append-add first others more in
    record {
      others = take more others ++ behind;
      split = ap (λ l. l ++ behind) taken ∙ append_assoc first (take more others) behind;
    }

from_there : (committed put : Bool) (place : ℕ) → place ≤ sweep_from committed put place
from_there true true place = omega arith
from_there true false place = omega arith
from_there false put place = omega arith

unlinked_here : (layouts : Layouts) (t row from count : ℕ) → (layouts_unlinked layouts t row from count t).chain row ≡ left_of ((layouts t).chain row) from count
unlinked_here layouts t row from count = rw (eq-eqb t t refl) (rw (eq-eqb row row refl) refl)

unlinked_away : (layouts : Layouts) (t row from count n q : ℕ) → (n ≡ t → q ≡ row → ⊥) → (layouts_unlinked layouts t row from count n).chain q ≡ (layouts n).chain q
unlinked_away layouts t row from count n q away = ⊎_elim
    (λ (e : n ≡ t). rw (eq-eqb n t e) (rw (ne_eqb q row (away e)) (ap (λ (k : ℕ). (layouts k).chain q) (sym e))))
    (λ (e : n ≢ t). rw (ne_eqb n t e) refl)
    (cases_eq n t)

-- ---- the queue

-- the first of the queue is the machine's next write
record IsFirstOf (all : Transactions) (w : Flat) : Type 0 where
  pub entry : Unswept
  pub rest : List Unswept
  pub queue : all.queue ≡ entry ∷ rest
  pub its_key : key_at entry.write ≡ key_written w.write

first_of : (m : Machine) (all : Transactions) (w : Flat) → Mirrors m all → slice_get (flat m) m.swept ≡ Some w → IsFirstOf all w
first_of m all w mirrors next = of_queue all.queue refl (mirrors.queue ∙ ap (map known_of_flat) (dropped m w next))
  where
    of_queue : (queue : List Unswept) → all.queue ≡ queue → map known_of_unswept queue ≡ known_of_flat w ∷ map known_of_flat (drop (m.swept + 1) (flat m)) → IsFirstOf all w
    of_queue [] is same = let no : ⊥ = cc in absurd no
    of_queue (entry ∷ rest) is same =
        let known : known_of_unswept entry ≡ known_of_flat w = cc in
        record { entry = entry; rest = rest; queue = is; its_key = ap (λ (k : KnownWrite). k.1.1.1) known }

others_stay : (all : Transactions) (entry : Unswept) (rest : List Unswept) (key : Key) → all.queue ≡ entry ∷ rest → same_key key (key_at entry.write) ≡ false
    → of_key key (unswept_writes (without_first all)) ≡ of_key key (unswept_writes all)
others_stay all entry rest key queue other =
    let others = of_key key (unswept_writes (record all { queue = rest })) in
    ap (λ (l : List Unswept). of_key key (unswept_writes (record all { queue = drop 1 l }))) queue
    ∙ sym (ap (λ (l : List Unswept). of_key key (unswept_writes (record all { queue = l }))) queue
    ∙ ap (λ (b : Bool). cond b (entry.write ∷ others) others) other)

-- ---- a sweep

-- the row still begins with the places of the other writes of its key, where no more goes than from the version on
sweep_leaves : (parts : Parts) (m : Machine) (all : Transactions) (store next : Store) (w : Flat) (t row place : ℕ) → Mirrors m all → HoldsChains parts m store → AreWrittenAt all store
    → IsSweptAt m store w t row place → ChangesRow store next t row (key_of (store.tables t) row)
    → ((first : List ℕ) (others : List ℕ) → length first ≡ place → (store.layouts t).chain row ≡ first ++ others → BeginsWith first ((next.layouts t).chain row))
    → AreWrittenAt (without_first all) next
sweep_leaves parts m all store next w t row place mirrors h at swept c left =
    let key : Key = (t, key_of (store.tables t) row) in
    let f = first_of m all w mirrors swept.next in
    let l = located parts m all store f.entry f.rest w t row place mirrors h at f.queue f.its_key swept in
    let its_key : key_at f.entry.write ≡ key = f.its_key ∙ sym swept.its_key in
    written_changed all (without_first all) store next t row (key_of (store.tables t) row) c at
    (λ k other. others_stay all f.entry f.rest k f.queue (ap (same_key k) its_key ∙ other))
    (λ used. subst (λ (first : List (ℕ × ℕ)). BeginsWith first (in_row row ((next.layouts t).chain row))) l.later
    (mapped_front (λ slot. (row, slot)) l.first ((next.layouts t).chain row) (left l.first (f.entry.write.slot ∷ l.last) l.count l.split)))

pub sweep_written : (parts : Parts) (m : Machine) (all : Transactions) (store : Store) (w : Flat) (t row place : ℕ) → Mirrors m all → HoldsChains parts m store → IsKept m → AreWrittenAt all store
    → IsSweptAt m store w t row place → 1 ≤ sweep_count_of store w t row place → AreWrittenAt (without_first all) (after_step store (sweep_of store w t row place))
sweep_written parts m all store w t row place mirrors h k at swept some =
    let from = sweep_from w.committed (is_put w.write) place in
    let count = sweep_count_of store w t row place in
    let next = after_unlink store t row from count in
    let c = cut parts m store w t row place h k swept in
    sweep_leaves parts m all store next w t row place mirrors h at swept
    (row_changes m.short store next t row (key_of (store.tables t) row) (map (store.tables t).slot (left_of ((store.layouts t).chain row) from count)) h.sound
    (unlink_stays_sound m.short store.tables store.layouts t row from count h.sound swept.used some (within_row parts m store w t row from count c))
    (sweep_changes parts m store w t row place from count h swept c some) (unlinked_away store.layouts t row from count))
    (λ first others many split.
    let below = from_there w.committed (is_put w.write) place in
    subst (λ (slots : List ℕ). BeginsWith first slots) (sym (unlinked_here store.layouts t row from count ∙ ap (λ (slots : List ℕ). left_of slots from count) split))
    (front_stays first others from count (omega (arith, many, below))))

-- the cells stay
same_cells : (parts : Parts) (m : Machine) (store : Store) (t row : ℕ) → HoldsChains parts m store → IsUsedRow (store.tables t) row → ChangesRow store store t row (key_of (store.tables t) row)
same_cells parts m store t row h its_used = record {
  here = λ used. refl;
  away = λ n q away used. (used, refl);
  apart = λ n q away used. same_key-not (n, key_of (store.tables n) q) (t, key_of (store.tables t) row) (λ same.
      let table : n ≡ t = ap (λ (k : Key). k.0) same in
      let used_there : IsUsedRow (store.tables t) q = subst (λ (i : ℕ). IsUsedRow (store.tables i) q) table used in
      let bytes : key_of (store.tables t) q ≡ key_of (store.tables t) row = ap (λ (i : ℕ). key_of (store.tables i) q) (sym table) ∙ ap (λ (k : Key). k.1) same in
      away table ((h.sound t).keys q row used_there its_used bytes));
  places = λ n q away. refl;
}

pub nothing_swept_written : (parts : Parts) (m : Machine) (all : Transactions) (store : Store) (w : Flat) (t row place : ℕ) → Mirrors m all → HoldsChains parts m store → AreWrittenAt all store
    → IsSweptAt m store w t row place → AreWrittenAt (without_first all) store
nothing_swept_written parts m all store w t row place mirrors h at swept =
    sweep_leaves parts m all store store w t row place mirrors h at swept (same_cells parts m store t row h swept.used) (λ first others many split. record { others = others; split = split })
