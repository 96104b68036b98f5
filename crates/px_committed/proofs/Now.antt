-- What a reader that came after all that ended sees of a row: its first version whose transaction is done.
use Rattle.std.proofs.Common.{◌≡◌, ℕ, ◌+◌, ◌-◌, ◌<◌, ◌≤◌, ◌==◌, ◌||◌, Bool, true, false, cond, List, [], ◌∷◌, length, Option, Some, None, option_map, refl, sym, ap, subst, ◌∙◌, ⊎_elim, arith}
use Rattle.std.specs.Prelude.{All, T, find}
use Rattle.std.proofs.lemmas.Bool.{cases_lt, le-leb, lt-leb, lt-ltb, ne_eqb, or_right}
use Rattle.std.proofs.lemmas.List.Elements.{All-weaker}
use Rattle.px_cell_laws.proofs.Lists.{all_unmapped, find_alike, find_mapped, mapped_to_itself, mapped_twice}
use Rattle.px_cell_laws.proofs.Showing.{committed_shown}
use Rattle.px_cell_laws.specs.Holding.{HoldsChains}
use Rattle.px_cell_laws.specs.Reading.{slot_seen, view_of}
use Rattle.px_cells.specs.declared.slot.Slot.{Slot}
use Rattle.px_chain.specs.declared.views.SlotView.{SlotView}
use Rattle.px_chain.specs.Sound.{IsUsedRow, key_of}
use Rattle.px_chain.specs.Visible.{is_done, is_visible}
use Rattle.px_chain_laws.proofs.Standings.{mirrored_standing}
use Rattle.px_chain_laws.specs.Reading.{is_committed}
use Rattle.px_history.specs.Store.{Store, versions_of}
use Rattle.px_locks.specs.Holders.{Holders}
use Rattle.px_logged.specs.Recounting.{rows_now}
use Rattle.px_machine_laws.specs.Seen.{row_left}
use Rattle.px_model.specs.declared.key.KeyOf.{KeyOf}
use Rattle.px_model.specs.declared.standing.Standing.TheVariants.{Before}
use Rattle.px_model.specs.Machine.{Machine}
use Rattle.px_model.specs.Rows.{row_at}
use Rattle.px_model_laws.proofs.RowsAsMap.{AreRows}
use Rattle.px_model_laws.specs.Keys.{row_written}
use Rattle.px_shown.specs.Parts.{no_parts}
use Rattle.px_shown.specs.Shown.{first_done, write_of}
use Rattle.px_xacts.specs.declared.transaction.Outcome.{Outcome}
use Rattle.px_xacts.specs.Transactions.{Transactions, standing, standing_at, standing_from}
use Rattle.px_xacts_laws.specs.Mirrors.{Mirrors}
use Rattle.px_held.specs.declared.reader.Reader.{Reader}
use Rattle.px_held.proofs.Unlinked.{used_there}
use Rattle.px_held.specs.Linking.{HasTable}
use Rattle.px_held.specs.Serving.{HeldTables}
use Rattle.px_site.specs.State.{State}
use Rattle.px_tables.specs.Keys.{HasNoRow}
use Rattle.px_tables.specs.Order.{HasNoKeyPast, IsBefore, IsNextKey, IsPast}
use Rattle.px_answers.specs.Seeing.{Sees}
use Rattle.px_committed.proofs.Firsts.{HasNoneBelow, IsGap, before_first, none_first}
use Rattle.px_committed.specs.Rows.{first_past}
use Rattle.px_committed.specs.Walking.{first_table}

-- ---- at its place

told_at : (place end : ℕ) (committed : Bool) → place < end → is_done end (standing_at place committed) ≡ is_committed (standing_at place committed)
told_at place end true before = lt-ltb place end before
told_at place end false before = refl

-- each committed one has a place below the end
ended_before : (place end : ℕ) (outcomes : List Outcome) (number : ℕ) → place + length outcomes ≤ end
    → is_done end (standing_from place outcomes number) ≡ is_committed (standing_from place outcomes number)
ended_before place end [] number within = refl
ended_before place end (outcome ∷ outcomes) number within =
    elim (outcome.number == number) as (λ b. is_done end (cond b (standing_at place outcome.committed) (standing_from (place + 1) outcomes number))
    ≡ is_committed (cond b (standing_at place outcome.committed) (standing_from (place + 1) outcomes number))) [
      | true ↦ told_at place end outcome.committed (omega (arith, within))
      | false ↦ ended_before (place + 1) end outcomes number (omega (arith, within))
    ]

-- ---- a version

-- what was there at the opening is seen, whoever reads
seen_before : (all : Transactions) (end xn : ℕ) → xn ≤ all.base → is_done end (standing all xn) ≡ true
unfolding standing
seen_before all end xn low = ap (λ b. is_done end (cond b Before (standing_from 0 all.outcomes (xn - all.base)))) (le-leb xn all.base low)

-- behind the opening just what committed is
seen_behind : (all : Transactions) (xn : ℕ) → all.base < xn → is_done (length all.outcomes) (standing all xn) ≡ is_committed (standing all xn)
unfolding standing
seen_behind all xn past =
    subst (λ (b : Bool). is_done (length all.outcomes) (cond b Before (standing_from 0 all.outcomes (xn - all.base)))
    ≡ is_committed (cond b Before (standing_from 0 all.outcomes (xn - all.base)))) (sym (lt-leb xn all.base past))
    (ended_before 0 (length all.outcomes) all.outcomes (xn - all.base) (omega arith))

-- such a reader sees a version just where its transaction is done
seen_now : (m : Machine) (all : Transactions) (store : Store) (xn : ℕ) → Mirrors m all → HoldsChains no_parts m store
    → (xn ≤ m.base → store.done xn ≡ true) → ((xn == 0) || is_done (length all.outcomes) (standing all xn)) ≡ store.done xn
seen_now m all store xn mirrors holds found = ⊎_elim
    (λ (past : m.base < xn).
    ap (λ b. b || is_done (length all.outcomes) (standing all xn)) (ne_eqb xn 0 (λ zero. let none : m.base < 0 = subst (λ n. m.base < n) zero past in omega (arith, none)))
    ∙ seen_behind all xn (subst (λ n. n < xn) (sym mirrors.base) past)
    ∙ ap is_committed (mirrored_standing m all xn mirrors)
    ∙ sym (holds.done xn past))
    (λ (low : xn ≤ m.base).
    or_right (xn == 0) (is_done (length all.outcomes) (standing all xn)) (seen_before all (length all.outcomes) xn (subst (λ n. xn ≤ n) (sym mirrors.base) low))
    ∙ sym (found low))
    (cases_lt m.base xn)

-- ---- a row

pub first_done_is_seen : (m : Machine) (all : Transactions) (store : Store) (t row : ℕ) → Mirrors m all → HoldsChains no_parts m store
    → option_map (store.tables t).slot (slot_seen all store 0 (length all.outcomes) t row) ≡ first_done store.done (versions_of store t row)
first_done_is_seen m all store t row mirrors holds =
    let chain = (store.layouts t).chain row in
    let slot = (store.tables t).slot in
    let view : ℕ → SlotView = view_of all (store.tables t) in
    let visible : SlotView → Bool = is_visible 0 (length all.outcomes) in
    let found = find (λ n. visible (view n)) chain in
    let alike : All (λ n. visible (view n) ≡ store.done (slot n).xn) chain =
    All-weaker (λ n. (slot n).xn ≤ m.base → store.done (slot n).xn ≡ true) (λ n. visible (view n) ≡ store.done (slot n).xn)
    (λ n known. seen_now m all store (slot n).xn mirrors holds known) chain
    (all_unmapped (λ (s : Slot). s.xn ≤ m.base → store.done s.xn ≡ true) slot chain (holds.found t row)) in
    ap (λ o. option_map slot (option_map (λ (v : SlotView). v.slot) o)) (find_mapped visible view chain)
    ∙ ap (option_map slot) (mapped_twice view (λ (v : SlotView). v.slot) found ∙ mapped_to_itself found)
    ∙ ap (option_map slot) (find_alike (λ n. visible (view n)) (λ n. store.done (slot n).xn) chain alike)
    ∙ sym (find_mapped (λ (s : Slot). store.done s.xn) slot chain)

-- what is seen of a row's slot is its row among those that are committed now
pub row_seen_now : {site : State} {held : HeldTables} {all : Transactions} {holders : Holders} {m : Machine} {store : Store} (t row : ℕ) → Sees site held all holders m store
    → IsUsedRow (store.tables t) row
    → row_left None (option_map (λ n. write_of no_parts t ((store.tables t).slot n)) (slot_seen all store 0 (length all.outcomes) t row))
    ≡ row_at (t, key_of (store.tables t) row) (rows_now m)
row_seen_now {all = all} {m = m} {store = store} t row sees used =
    ap (row_left None) (sym (mapped_twice (store.tables t).slot (write_of no_parts t) (slot_seen all store 0 (length all.outcomes) t row)))
    ∙ ap (λ o. row_left None (option_map (write_of no_parts t) o)) (first_done_is_seen m all store t row sees.mirrors sees.holds)
    ∙ sym ((committed_shown no_parts m store sees.holds sees.kept sees.order).keys.of_row t row used)

-- a key without a row has none
pub no_row_now : {site : State} {held : HeldTables} {all : Transactions} {holders : Holders} {m : Machine} {store : Store} (t : ℕ) (key : List ℕ) → Sees site held all holders m store
    → HasNoRow (store.tables t) key → row_at (t, key) (rows_now m) ≡ None
no_row_now {m = m} {store = store} t key sees none = (committed_shown no_parts m store sees.holds sees.kept sees.order).keys.of_none (t, key) none

pub rows_are_in_order : {site : State} {held : HeldTables} {all : Transactions} {holders : Holders} {m : Machine} {store : Store} → Sees site held all holders m store
    → AreRows (rows_now m)
rows_are_in_order {m = m} {store = store} sees = subst T (sym (committed_shown no_parts m store sees.holds sees.kept sees.order).order) tt

-- ---- what the reader sees

-- nobody, come after all that ended
pub record IsNow (all : Transactions) (reader : Reader) : Type 0 where
  pub xacts : reader.xacts.now ≡ all
  pub own : reader.own ≡ 0
  pub snapshot : reader.snapshot ≡ length all.outcomes

seen_by : {all : Transactions} (reader : Reader) (store : Store) (t row : ℕ) (slot : Option ℕ) → IsNow all reader
    → slot ≡ slot_seen reader.xacts.now store reader.own reader.snapshot t row → slot ≡ slot_seen all store 0 (length all.outcomes) t row
seen_by {all = all} reader store t row slot is seen =
    seen
    ∙ ap (λ (x : Transactions). slot_seen x store reader.own reader.snapshot t row) is.xacts
    ∙ ap (λ own. slot_seen all store own reader.snapshot t row) is.own
    ∙ ap (λ snapshot. slot_seen all store 0 snapshot t row) is.snapshot

-- it sees no version
pub none_seen : {site : State} {held : HeldTables} {all : Transactions} {holders : Holders} {m : Machine} {store : Store} (reader : Reader) (t row : ℕ) (slot : Option ℕ)
    → Sees site held all holders m store → IsNow all reader → IsUsedRow (store.tables t) row
    → slot ≡ slot_seen reader.xacts.now store reader.own reader.snapshot t row → slot ≡ None → None ≡ row_at (t, key_of (store.tables t) row) (rows_now m)
none_seen {store = store} reader t row slot sees is used seen none =
    ap (λ (o : Option ℕ). row_left None (option_map (λ n. write_of no_parts t ((store.tables t).slot n)) o)) (sym none ∙ seen_by reader store t row slot is seen)
    ∙ row_seen_now t row sees used

-- it sees this one
pub some_seen : {site : State} {held : HeldTables} {all : Transactions} {holders : Holders} {m : Machine} {store : Store} (reader : Reader) (t row : ℕ) (slot : Option ℕ)
    (number : ℕ) (copy : Slot) → Sees site held all holders m store → IsNow all reader → IsUsedRow (store.tables t) row
    → slot ≡ slot_seen reader.xacts.now store reader.own reader.snapshot t row → slot ≡ Some number → copy ≡ (store.tables t).slot number
    → row_written (write_of no_parts t copy) ≡ row_at (t, key_of (store.tables t) row) (rows_now m)
some_seen {store = store} reader t row slot number copy sees is used seen some same =
    ap (λ (s : Slot). row_written (write_of no_parts t s)) same
    ∙ ap (λ (o : Option ℕ). row_left None (option_map (λ n. write_of no_parts t ((store.tables t).slot n)) o)) (sym some ∙ seen_by reader store t row slot is seen)
    ∙ row_seen_now t row sees used

-- ---- past a key

-- no row of the table has a key past the last one and before the next one
pub gap_before : {site : State} {held : HeldTables} {all : Transactions} {holders : Holders} {m : Machine} {store : Store} (t : ℕ) (last : Option (List ℕ)) (key : List ℕ)
    (row : ℕ) → Sees site held all holders m store → IsNextKey (store.tables t) last key row → IsGap (rows_now m) t last key
gap_before {store = store} t last key row sees next = λ other past before. no_row_now t other sees (λ its_row used same.
    next.least its_row used (subst (IsPast last) (sym same) past) (subst (λ (k : List ℕ). IsBefore k key) (sym same) before))

-- no row of the table has a key past the last one
pub none_behind : {site : State} {held : HeldTables} {all : Transactions} {holders : Holders} {m : Machine} {store : Store} (t : ℕ) (last : Option (List ℕ))
    → Sees site held all holders m store → HasNoKeyPast (store.tables t) last → (key : List ℕ) → IsPast last key → row_at (t, key) (rows_now m) ≡ None
none_behind {store = store} t last sees none = λ key past. no_row_now t key sees (λ its_row used same. none its_row used (subst (IsPast last) (sym same) past))

-- ---- in all tables

-- what isn't a table has no row
no_table : {site : State} {held : HeldTables} {all : Transactions} {holders : Holders} {m : Machine} {store : Store} (t : ℕ) (key : List ℕ) → Sees site held all holders m store
    → (¬ HasTable held t) → row_at (t, key) (rows_now m) ≡ None
no_table {site = site} {held = held} {store = store} t key sees outside = no_row_now t key sees (λ row used same. outside (used_there site held store t row sees.serves used))

pub none_below_first : {site : State} {held : HeldTables} {all : Transactions} {holders : Holders} {m : Machine} {store : Store} (after : Option KeyOf) → Sees site held all holders m store
    → HasNoneBelow (rows_now m) after (first_table after)
none_below_first {held = held} after sees = λ key past lt.
    let zero : key.0 ≡ 0 = before_first after key past lt in
    no_table key.0 key.1 sees (λ (is : HasTable held key.0). let one : 1 ≤ key.0 = is.0 in omega (arith, zero, one))

-- where no table is left, there is no row past the key
pub none_of_all : {site : State} {held : HeldTables} {all : Transactions} {holders : Holders} {m : Machine} {store : Store} (after : Option KeyOf) (table : ℕ)
    → Sees site held all holders m store → length held.tables < table → HasNoneBelow (rows_now m) after table → first_past after (rows_now m) ≡ None
none_of_all {held = held} {m = m} after table sees last below = none_first after (rows_now m) (λ key past. ⊎_elim
    (λ (lower : key.0 < table). below key past lower)
    (λ (ge : table ≤ key.0). no_table key.0 key.1 sees (λ (is : HasTable held key.0). let within : key.0 ≤ length held.tables = is.1 in omega (arith, last, ge, within)))
    (cases_lt key.0 table))
