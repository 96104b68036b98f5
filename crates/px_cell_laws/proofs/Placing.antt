-- Where unswept writes stand after a write.
use Rattle.std.proofs.Common.{◌≡◌, ◌≢◌, ℕ, ◌==◌, Bool, true, false, cond, List, [], ◌∷◌, ◌++◌, map, reverse, length, get_or, set, Option, Some, None, option_map, refl, sym, ap, subst, ◌∙◌, arith, ⊎_elim}
use Rattle.std.specs.Prelude.{◌⊎◌}
use Rattle.std.proofs.lemmas.Bool.{cases_eq, eq-eqb, ne_eqb}
use Rattle.std.proofs.lemmas.List.{append-nil, append_assoc, length-map, map-append, nil_from_length, set-get_or}
use Rattle.std.proofs.lemmas.List.Elements.{filter-append}
use Rattle.px_calls.specs.declared.call.Call.{Call}
use Rattle.px_calls.specs.Steps.{open_of}
use Rattle.px_cells.specs.declared.header.Header.{Header}
use Rattle.px_cells.specs.declared.slot.Slot.{Slot}
use Rattle.px_chain.specs.Links.{BeginsRow, VariesRow, linked, row_taken, slot_taken}
use Rattle.px_chain.specs.Sound.{Layout}
use Rattle.px_chain.specs.Table.{Table}
use Rattle.px_chain_laws.proofs.Gathered.{gathered_alone}
use Rattle.px_chain_laws.proofs.Moving.{key_itself, nobody_writes, open_within, slots_at}
use Rattle.px_cell_laws.proofs.Chained.{no_row_no_chain}
use Rattle.px_cell_laws.proofs.Lists.{reverse_push}
use Rattle.px_cell_laws.proofs.Writing.{its_key_is_free, put_changes, put_sound}
use Rattle.px_history.specs.Steps.{Step, after_put, after_step, layout_linked}
use Rattle.px_history.specs.Store.{Store, versions_of}
use Rattle.px_model.specs.Chains.{chain}
use Rattle.px_model.specs.Machine.{Machine}
use Rattle.px_model.specs.Rows.{Key, same_key}
use Rattle.px_model.specs.declared.machine.Open.{Open}
use Rattle.px_shown.specs.Changes.{taken_slot}
use Rattle.px_xacts.specs.declared.transaction.Transaction.{Transaction}
use Rattle.px_xacts.specs.declared.transaction.Unswept.{Unswept}
use Rattle.px_xacts.specs.declared.write.WriteAt.{WriteAt}
use Rattle.px_xacts.specs.Transactions as xacts
use Rattle.px_xacts.specs.Transactions.{Transactions}
use Rattle.px_xacts_laws.specs.Mirrors.{Mirrors, key_at, known_of_open, known_of_transaction}
use Rattle.px_xacts_laws.proofs.Mirroring.{session_known, slot_mirrors}
use Rattle.px_cell_laws.specs.Holding.{HoldsChains}
use Rattle.px_cell_laws.specs.Locating.{AreWrittenAt, of_key, place_of, unswept_writes, write_at, writes_of}
use Rattle.px_cell_laws.specs.Writing.{IsWriteBy}
use Rattle.px_cell_laws.proofs.Locating.{as_many_open, chain_length, of_key_parts}
use Rattle.px_cell_laws.proofs.Noting.{Locates, in_row, open_at, slot_alike, with_slots}
use Rattle.px_cell_laws.proofs.OneRow.{row_changes, written_changed}
use Rattle.px_shown.specs.Parts.{Parts}

linked_here : (table : Table) (layout : Layout) (slot : Slot) → (layout_linked table layout slot).chain slot.row ≡ taken_slot table ∷ layout.chain slot.row
linked_here table layout slot =
    ap (λ (b : Bool). (linked (cond b (row_taken (slot_taken layout)) (slot_taken layout)) (taken_slot table) slot.row).chain slot.row) refl
    ∙ (elim (slot.next == 0) as (λ b. (linked (cond b (row_taken (slot_taken layout)) (slot_taken layout)) (taken_slot table) slot.row).chain slot.row ≡ taken_slot table ∷ layout.chain slot.row) [
      | true ↦ rw (eq-eqb slot.row slot.row refl) refl
      | false ↦ rw (eq-eqb slot.row slot.row refl) refl
    ])

linked_away : (table : Table) (layout : Layout) (slot : Slot) (q : ℕ) → q ≢ slot.row → (layout_linked table layout slot).chain q ≡ layout.chain q
linked_away table layout slot q other =
    elim (slot.next == 0) as (λ b. (linked (cond b (row_taken (slot_taken layout)) (slot_taken layout)) (taken_slot table) slot.row).chain q ≡ layout.chain q) [
      | true ↦ rw (ne_eqb q slot.row other) refl
      | false ↦ rw (ne_eqb q slot.row other) refl
    ]

put_away : (store : Store) (t : ℕ) (header : Header) (slot : Slot) (n q : ℕ) → (n ≡ t → q ≡ slot.row → ⊥)
    → ((after_put store t header slot).layouts n).chain q ≡ (store.layouts n).chain q
put_away store t header slot n q away = ⊎_elim
    (λ (e : n ≡ t). rw (eq-eqb n t e) (linked_away (store.tables t) (store.layouts t) slot q (away e) ∙ ap (λ (k : ℕ). (store.layouts k).chain q) (sym e)))
    (λ (e : n ≢ t). rw (ne_eqb n t e) refl)
    (cases_eq n t)

put_here : (store : Store) (t : ℕ) (header : Header) (slot : Slot)
    → ((after_put store t header slot).layouts t).chain slot.row ≡ taken_slot (store.tables t) ∷ (store.layouts t).chain slot.row
put_here store t header slot = rw (eq-eqb t t refl) (linked_here (store.tables t) (store.layouts t) slot)

-- in the transactions too no other session has the key
pub no_others : (m : Machine) (all : Transactions) (session : ℕ) (key : Key) → Mirrors m all → slots_at key m.base (set m.active session None) ≡ []
    → open_at key (set all.active session None) ≡ []
no_others m all session key mirrors none =
    let closed = slot_mirrors m all session None None mirrors refl in
    nil_from_length (open_at key (set all.active session None))
    (as_many_open key m.base (set all.active session None) (set m.active session None) closed.active ∙ ap (λ l. length l) none)

alone_at : (m : Machine) (all : Transactions) (session : ℕ) (x : Open) (key : Key) (slot : Option Transaction) → Mirrors m all → open_of m session ≡ Some x
    → slots_at key m.base (set m.active session None) ≡ [] → open_at key (set all.active session slot) ≡ of_key key (writes_of slot)
alone_at m all session x key slot mirrors at none =
    let many : length all.active ≡ length m.active =
    sym (length-map all.active known_of_transaction) ∙ ap (λ l. length l) mirrors.active ∙ length-map m.active known_of_open in
    let within = open_within m.active session x at in
    gathered_alone (λ (write : WriteAt). same_key key (key_at write)) writes_of all.active session slot None (omega (arith, many, within)) (no_others m all session key mirrors none)

pub own_at : (m : Machine) (all : Transactions) (session : ℕ) (x : Open) (key : Key) → Mirrors m all → open_of m session ≡ Some x
    → slots_at key m.base (set m.active session None) ≡ [] → open_at key all.active ≡ of_key key (writes_of (xacts.open_of all session))
own_at m all session x key mirrors at none =
    ap (open_at key) (sym (set-get_or all.active session None)) ∙ alone_at m all session x key (get_or all.active session None) mirrors at none

written_elsewhere : (key : Key) (write : WriteAt) (slot : Option Transaction) → same_key key (key_at write) ≡ false
    → of_key key (writes_of (option_map (xacts.plus_write write) slot)) ≡ of_key key (writes_of slot)
written_elsewhere key write None other = refl
written_elsewhere key write (Some x) other =
    filter-append (λ (w : WriteAt). same_key key (key_at w)) x.writes (write ∷ [])
    ∙ ap (λ (b : Bool). of_key key x.writes ++ cond b (write ∷ []) []) other
    ∙ append-nil (of_key key x.writes)

written_there : (key : Key) (write : WriteAt) (slot : Option Transaction) (y : Open) → known_of_transaction slot ≡ known_of_open (Some y) → key_at write ≡ key
    → of_key key (writes_of (option_map (xacts.plus_write write) slot)) ≡ of_key key (writes_of slot) ++ write ∷ []
written_there key write None y known its = let no : ⊥ = cc in absurd no
written_there key write (Some x) y known its =
    filter-append (λ (w : WriteAt). same_key key (key_at w)) x.writes (write ∷ [])
    ∙ ap (λ (b : Bool). of_key key x.writes ++ cond b (write ∷ []) []) (ap (same_key key) its ∙ key_itself key)

-- the write is the newest of its key
newest_at : (m : Machine) (all : Transactions) (session : ℕ) (x : Open) (key : Key) (write : WriteAt) → Mirrors m all → open_of m session ≡ Some x
    → slots_at key m.base (set m.active session None) ≡ [] → key_at write ≡ key
    → of_key key (unswept_writes (xacts.with_write all session write)) ≡ of_key key (unswept_writes all) ++ write ∷ []
newest_at m all session x key write mirrors at none its =
    let swept = of_key key (map (λ (e : Unswept). e.write) all.queue) in
    let slot = xacts.open_of all session in
    of_key_parts key (xacts.with_write all session write)
    ∙ ap (λ (l : List WriteAt). swept ++ l) (alone_at m all session x key (option_map (xacts.plus_write write) slot) mirrors at none
    ∙ written_there key write slot x (session_known m all session mirrors ∙ ap known_of_open at) its
    ∙ ap (λ (l : List WriteAt). l ++ write ∷ []) (sym (own_at m all session x key mirrors at none)))
    ∙ sym (append_assoc swept (open_at key all.active) (write ∷ []))
    ∙ ap (λ (l : List WriteAt). l ++ write ∷ []) (sym (of_key_parts key all))

-- what is unswept of the slot's key stands in its row, also where the slot begins the row
before_it : (parts : Parts) (m : Machine) (all : Transactions) (store : Store) (t : ℕ) (header : Header) (slot : Slot) → Mirrors m all → HoldsChains parts m store → AreWrittenAt all store
    → BeginsRow (store.tables t) header slot ⊎ VariesRow (store.tables t) header slot
    → Locates slot.row (of_key (t, slot.key) (unswept_writes all)) ((store.layouts t).chain slot.row)
before_it parts m all store t header slot mirrors h at link = ⊎_elim
    (λ (begins : BeginsRow (store.tables t) header slot).
    let whole = chain_length m all (t, slot.key) mirrors in
    let empty : length (chain m (t, slot.key)) ≡ 0 = ap (λ l. length l) (no_row_no_chain parts m store (t, slot.key) h begins.its_key) in
    let none : of_key (t, slot.key) (unswept_writes all) ≡ [] = nil_from_length (of_key (t, slot.key) (unswept_writes all)) (omega (arith, whole, empty)) in
    subst (λ (l : List WriteAt). Locates slot.row l ((store.layouts t).chain slot.row)) (sym none)
    (record { others = in_row slot.row ((store.layouts t).chain slot.row); split = refl }))
    (λ (varies : VariesRow (store.tables t) header slot).
    subst (λ (k : List ℕ). Locates slot.row (of_key (t, k) (unswept_writes all)) ((store.layouts t).chain slot.row)) (sym varies.its_key)
    (at.chains t slot.row varies.its_row))
    link

one_more : (row slot : ℕ) (writes : List WriteAt) (write : WriteAt) (slots : List ℕ) → place_of write ≡ (row, slot) → Locates row writes slots
    → Locates row (writes ++ write ∷ []) (slot ∷ slots)
one_more row slot writes write slots its l =
    let newest : reverse (map place_of (writes ++ write ∷ [])) ≡ (row, slot) ∷ reverse (map place_of writes) =
    ap (λ (p : List (ℕ × ℕ)). reverse p) (map-append place_of writes (write ∷ []))
    ∙ reverse_push (map place_of writes) (place_of write)
    ∙ ap (λ (p : ℕ × ℕ). p ∷ reverse (map place_of writes)) its in
    record {
      others = l.others;
      split = ap (λ (p : List (ℕ × ℕ)). (row, slot) ∷ p) l.split ∙ ap (λ (p : List (ℕ × ℕ)). p ++ l.others) (sym newest);
    }

pub write_written : (parts : Parts) (m : Machine) (all : Transactions) (store : Store) (session : ℕ) (call : Call) (t : ℕ) (header : Header) (slot : Slot) → Mirrors m all → HoldsChains parts m store
    → AreWrittenAt all store → IsWriteBy parts m store session call t header slot
    → AreWrittenAt (xacts.with_write all session (write_at store t slot)) (after_step store (Step.put t header slot))
write_written parts m all store session call t header slot mirrors h at v =
    let next = after_put store t header slot in
    let key : Key = (t, slot.key) in
    let write = write_at store t slot in
    let other = xacts.with_write all session write in
    let none = nobody_writes key m.base (set m.active session None) (its_key_is_free parts m store session call t header slot v) in
    written_changed all other store next t slot.row slot.key
    (row_changes m.short store next t slot.row slot.key (slot ∷ versions_of store t slot.row) h.sound (put_sound parts m store session call t header slot h v)
    (put_changes parts m store session call t header slot h v) (put_away store t header slot))
    at
    (λ k apart. with_slots all other k refl
    (slot_alike k all.active session (option_map (xacts.plus_write write) (xacts.open_of all session)) (written_elsewhere k write (xacts.open_of all session) apart)))
    (λ used.
    subst (λ (writes : List WriteAt). Locates slot.row writes ((next.layouts t).chain slot.row)) (sym (newest_at m all session v.xact key write mirrors v.is_open none refl))
    (subst (λ (slots : List ℕ). Locates slot.row (of_key key (unswept_writes all) ++ write ∷ []) slots) (sym (put_here store t header slot))
    (one_more slot.row (taken_slot (store.tables t)) (of_key key (unswept_writes all)) write ((store.layouts t).chain slot.row) refl
    (before_it parts m all store t header slot mirrors h at v.link))))
