-- The store after the link of a version that a call writes.
use Rattle.std.proofs.Common.{◌≡◌, ◌≢◌, ℕ, ◌+◌, ◌<◌, ◌≤◌, Bool, true, false, cond, inl, inr, List, [], ◌∷◌, ◌++◌, map, reverse, drop, set, get_or, Option, Some, None, refl, sym, ap, subst, ◌∙◌, arith, ⊎_elim}
use Rattle.std.specs.Prelude.{◌⊎◌, All, IfSome}
use Rattle.std.proofs.lemmas.Bool.{cases_lt, false≢true, lt-leb, ne_eqb}
use Rattle.std.proofs.lemmas.Option.{none-some, same_Some}
use Rattle.std.proofs.lemmas.List.{append-nil}
use Rattle.std.proofs.lemmas.List.Elements.{All-append, All-cons, All-drop, All-filter, All-map, All-same, All-weaker}
use Rattle.px_calls.specs.declared.call.Call.{Call}
use Rattle.px_calls.specs.declared.call.Call.TheVariants.{Begin, Get, Hold, Fetch, Find, Scan, Insert, Update, Delete as DeleteCall, Commit, Rollback}
use Rattle.px_calls.specs.Steps.{is_refusal, open_of, open_writer, reply_of, state_after, write_refusal}
use Rattle.px_cells.specs.declared.header.Header.{Header}
use Rattle.px_cells.specs.declared.slot.Slot.{Slot}
use Rattle.px_chain_laws.specs.Kept.{IsKept}
use Rattle.px_chain_laws.specs.Reading.{is_committed}
use Rattle.px_chain_laws.specs.Sweeping.{base_of}
use Rattle.px_chain_laws.specs.Writing.{write_of as written_by}
use Rattle.px_chain_laws.proofs.Looking.{by}
use Rattle.px_chain_laws.proofs.Moving.{answered, answered_write_is_newest, free, held_alone, no_conflict, nobody_writes, slots_at, writes_at, writes_keep_other_chains}
use Rattle.px_chain_laws.proofs.Standings.{IsTold, ended_are_told}
use Rattle.px_history.specs.Steps.{IsStep, Step, after_put, after_step, layout_linked}
use Rattle.px_history.specs.Store.{IsOpen, Store, versions_of}
use Rattle.px_history.specs.Writers.{IsAlone}
use Rattle.px_history.proofs.Agreeing.{link_of}
use Rattle.px_model.specs.Chains.{chain, of_ended, of_key}
use Rattle.px_model.specs.Machine.{Machine, flat}
use Rattle.px_model.specs.Rows.{Key, key_written, same_key}
use Rattle.px_model.specs.declared.machine.Flat.{Flat}
use Rattle.px_model.specs.declared.machine.Open.{Open}
use Rattle.px_model.specs.declared.machine.Variation.{Variation}
use Rattle.px_model.specs.declared.write.Write.{Write}
use Rattle.px_model.specs.declared.write.Write.TheVariants.{Put, Delete}
use Rattle.px_shown.specs.Shown.{AreToldByChains, write_of}
use Rattle.px_shown.specs.Tables.{AreSound}
use Rattle.px_shown.proofs.Changes.{link_changes, link_stays_sound}
use Rattle.px_shown.proofs.Firsts.{key_of_write}
use Rattle.px_shown.proofs.Keys.{same_key-not}
use Rattle.px_shown.proofs.Rows.{chains_of, told_by_rows, told_of_rows}
use Rattle.px_shown.proofs.Told.{IsChanged, told_changed, told_here}
use Rattle.px_tables.specs.Linking.{version_of}
use Rattle.px_cell_laws.specs.Holding.{HoldsChains, if_any, is_rolled_back, newest_first, variation_in, variations_in}
use Rattle.px_cell_laws.specs.Writing.{IsWriteBy}
use Rattle.px_cell_laws.proofs.Beginning.{open_may_commit}
use Rattle.px_cell_laws.proofs.Calling.{found_of, same_standing}
use Rattle.px_cell_laws.proofs.Chained.{numbers_changed, variations_blind}
use Rattle.px_cell_laws.proofs.Ended.{HasEnded, IsEnded, bases_ended, ended_is_past, of_told}
use Rattle.px_cell_laws.proofs.Ends.{calls_keep_base, calls_keep_ended, writes_end_nothing}
use Rattle.px_cell_laws.proofs.Lists.{all_reversed, all_unmapped, any_same, reverse_push}
use Rattle.px_shown.specs.Parts.{Parts}

pub version_writes : (parts : Parts) (xn next row : ℕ) (w : Write) → write_of parts (key_written w).0 (version_of xn next row w) ≡ w
version_writes parts xn next row (Put put) = ap (λ (body : List ℕ). Put (record put { body = body })) (append-nil put.body)
version_writes parts xn next row (Delete table key) = refl

pub put_follows : (parts : Parts) (m : Machine) (store : Store) (session : ℕ) (call : Call) (t : ℕ) (header : Header) (slot : Slot) → HoldsChains parts m store → IsKept m
    → IsWriteBy parts m store session call t header slot → IsStep parts m.short store (Step.put t header slot)
put_follows parts m store session call t header slot h k v = record {
  stored = v.stored;
  writer = subst (IsOpen store) (sym v.number) (open_may_commit parts m store session v.xact h k v.is_open);
  link = v.link;
}

pub put_changes : (parts : Parts) (m : Machine) (store : Store) (session : ℕ) (call : Call) (t : ℕ) (header : Header) (slot : Slot) → HoldsChains parts m store → IsWriteBy parts m store session call t header slot
    → let next = after_put store t header slot in
    IsChanged (chains_of store.tables store.layouts) (chains_of next.tables next.layouts) t slot.row slot.key (slot ∷ versions_of store t slot.row)
put_changes parts m store session call t header slot h v =
    link_changes m.short store.tables store.layouts t header slot (layout_linked (store.tables t) (store.layouts t) slot) h.sound v.stored
    (link_of m.short (store.tables t) (store.layouts t) header slot (h.sound t) v.link)

pub put_sound : (parts : Parts) (m : Machine) (store : Store) (session : ℕ) (call : Call) (t : ℕ) (header : Header) (slot : Slot) → HoldsChains parts m store → IsWriteBy parts m store session call t header slot
    → let next = after_put store t header slot in AreSound m.short next.tables next.layouts
put_sound parts m store session call t header slot h v =
    link_stays_sound m.short store.tables store.layouts t header slot (layout_linked (store.tables t) (store.layouts t) slot) h.sound v.stored
    (link_of m.short (store.tables t) (store.layouts t) header slot (h.sound t) v.link)

-- the versions in the slot's row are the chain of its key, also where the slot begins the row
versions_before : (parts : Parts) (m : Machine) (store : Store) (session : ℕ) (call : Call) (t : ℕ) (header : Header) (slot : Slot) → HoldsChains parts m store → IsWriteBy parts m store session call t header slot
    → reverse (chain m (t, slot.key)) ≡ map (variation_in parts m.base t) (versions_of store t slot.row)
versions_before parts m store session call t header slot h v =
    let next = after_put store t header slot in
    any_same (reverse (chain m (t, slot.key))) (map (variation_in parts m.base t) (versions_of store t slot.row))
    (told_here (chains_of store.tables store.layouts) (chains_of next.tables next.layouts) t slot.row slot.key (slot ∷ versions_of store t slot.row)
    (variations_in parts m.base) (newest_first m) (put_changes parts m store session call t header slot h v) (variations_blind parts m.base)
    (told_by_rows m.short store.tables store.layouts (variations_in parts m.base) (newest_first m) h.sound h.chains))

-- ---- no other one writes there

nobody_else : (m : Machine) (s : ℕ) (call : Call) (x : Open) (w : Write) → open_of m s ≡ Some x → written_by call ≡ Some w
    → is_refusal (reply_of m s call) ≡ false → open_writer (key_written w) (set m.active s None) ≡ None
unfolding reply_of write_refusal
nobody_else m s Begin x w at writes done = absurd (none-some w writes)
nobody_else m s (Get table key) x w at writes done = absurd (none-some w writes)
nobody_else m s (Hold table key) x w at writes done = absurd (none-some w writes)
nobody_else m s (Fetch ticket) x w at writes done = absurd (none-some w writes)
nobody_else m s (Find table tag) x w at writes done = absurd (none-some w writes)
nobody_else m s (Scan table) x w at writes done = absurd (none-some w writes)
nobody_else m s (Insert table key tag body) x w at writes done =
    let put : Write = Put (record { table = table; key = key; tag = tag; body = body }) in
    subst (λ (u : Write). open_writer (key_written u) (set m.active s None) ≡ None) (same_Some put w writes)
    (free m s x (table, key) (no_conflict _ _ _ _ _ _ (answered _ _ x at done)))
nobody_else m s (Update table key tag body) x w at writes done =
    let put : Write = Put (record { table = table; key = key; tag = tag; body = body }) in
    subst (λ (u : Write). open_writer (key_written u) (set m.active s None) ≡ None) (same_Some put w writes)
    (free m s x (table, key) (no_conflict _ _ _ _ _ _ (answered _ _ x at done)))
nobody_else m s (DeleteCall table key) x w at writes done =
    subst (λ (u : Write). open_writer (key_written u) (set m.active s None) ≡ None) (same_Some (Delete table key) w writes)
    (free m s x (table, key) (no_conflict _ _ false _ _ _ (answered _ _ x at done)))
nobody_else m s Commit x w at writes done = absurd (none-some w writes)
nobody_else m s Rollback x w at writes done = absurd (none-some w writes)

-- no other open transaction has written the slot's key
pub its_key_is_free : (parts : Parts) (m : Machine) (store : Store) (session : ℕ) (call : Call) (t : ℕ) (header : Header) (slot : Slot) → IsWriteBy parts m store session call t header slot
    → open_writer (t, slot.key) (set m.active session None) ≡ None
its_key_is_free parts m store session call t header slot v =
    subst (λ (q : Key). open_writer q (set m.active session None) ≡ None) (key_of_write parts t slot)
    (nobody_else m session call v.xact (write_of parts t slot) v.is_open v.write v.answered)

-- the version is of the opening, of this transaction, or of one that ended
abbrev IsOwnOrEnded : Machine → (own : ℕ) → Variation → Type 0
IsOwnOrEnded m own v = IfSome v.xn (λ xn. (xn ≡ own) ⊎ HasEnded m xn)

if_ended : (m : Machine) (own : ℕ) (v : Variation) → IsEnded m v → IsOwnOrEnded m own v
if_ended m own v = of_number v.xn
  where
    of_number : (o : Option ℕ) → IfSome o (HasEnded m) → IfSome o (λ xn. (xn ≡ own) ⊎ HasEnded m xn)
    of_number None ended = tt
    of_number (Some xn) ended = inr ended

chain_is : (m : Machine) (s : ℕ) (x : Open) (key : Key) → IsKept m → open_of m s ≡ Some x → open_writer key (set m.active s None) ≡ None
    → All (IsOwnOrEnded m (m.base + x.number)) (chain m key)
unfolding chain
chain_is m s x key k at nobody =
    let own = m.base + x.number in
    let P : Variation → Type 0 = IsOwnOrEnded m own in
    let test : Variation → Bool = λ v. same_key key (key_written v.write) in
    let passed = drop m.swept (flat m) in
    let of_base : All P (base_of m key) = All-weaker (IsEnded m) P (if_ended m own) (base_of m key) (bases_ended m key k) in
    let of_passed = All-filter test P (map (of_ended m.base) passed) (All-map P (of_ended m.base) passed
    (All-weaker (IsTold m) (λ (f : Flat). P (of_ended m.base f)) (λ f told. inr (of_told m f told)) passed (All-drop (IsTold m) m.swept (flat m) (ended_are_told m k.numbered)))) in
    let of_own : All P (slots_at key m.base m.active) = All-same P (slots_at key m.base m.active) (writes_at key (Some own) x.writes)
    (held_alone key m.base m.active s x at (nobody_writes key m.base (set m.active s None) nobody))
    (All-filter test P (map (by (Some own)) x.writes) (All-map P (by (Some own)) x.writes (λ i d lt. inl refl))) in
    All-append P (base_of m key ++ of_key key (map (of_ended m.base) passed)) (slots_at key m.base m.active)
    (All-append P (base_of m key) (of_key key (map (of_ended m.base) passed)) of_base of_passed) of_own

-- who ended can't commit any more
ended_is_not_open : (parts : Parts) (m : Machine) (store : Store) (xn : ℕ) → HoldsChains parts m store → m.base < xn → HasEnded m xn → IsOpen store xn → ⊥
ended_is_not_open parts m store xn h past ended its = ⊎_elim
    (λ (done : store.done xn ≡ true). false≢true (sym its.undone ∙ done))
    (λ (over : store.over xn ≡ true). false≢true (sym its.not_over ∙ over))
    (ended_is_past parts m store xn h past ended)

other_version : (parts : Parts) (m : Machine) (store : Store) (t own other : ℕ) (s : Slot) → HoldsChains parts m store → (s.xn ≤ m.base → store.done s.xn ≡ true)
    → IsOwnOrEnded m own (variation_in parts m.base t s) → IsOpen store other → other ≢ own → s.xn ≢ other
other_version parts m store t own other s h found is its differ same = ⊎_elim
    (λ (past : m.base < s.xn).
    let known : (s.xn ≡ own) ⊎ HasEnded m s.xn = subst (λ (b : Bool). IfSome (cond b None (Some s.xn)) (λ xn. (xn ≡ own) ⊎ HasEnded m xn)) (lt-leb s.xn m.base past) is in
    ⊎_elim
    (λ (e : s.xn ≡ own). differ (sym same ∙ e))
    (λ (ended : HasEnded m s.xn). ended_is_not_open parts m store s.xn h past ended (subst (IsOpen store) (sym same) its))
    known)
    (λ (low : s.xn ≤ m.base). false≢true (sym its.undone ∙ ap store.done (sym same) ∙ found low))
    (cases_lt m.base s.xn)

pub put_alone : (parts : Parts) (m : Machine) (store : Store) (session : ℕ) (call : Call) (t : ℕ) (header : Header) (slot : Slot) → HoldsChains parts m store → IsKept m
    → IsWriteBy parts m store session call t header slot → IsAlone store (Step.put t header slot)
put_alone parts m store session call t header slot h k v other its differ =
    let own = m.base + v.xact.number in
    let key : Key = (t, slot.key) in
    let nobody = its_key_is_free parts m store session call t header slot v in
    let P : Variation → Type 0 = IsOwnOrEnded m own in
    let all : All P (map (variation_in parts m.base t) (versions_of store t slot.row)) =
    All-same P (map (variation_in parts m.base t) (versions_of store t slot.row)) (reverse (chain m key)) (sym (versions_before parts m store session call t header slot h v))
    (all_reversed P (chain m key) (chain_is m session v.xact key k v.is_open nobody)) in
    let each = all_unmapped P (variation_in parts m.base t) (versions_of store t slot.row) all in
    λ i d lt. ne_eqb (get_or (versions_of store t slot.row) i d).xn other
    (other_version parts m store t own other (get_or (versions_of store t slot.row) i d) h (h.found t slot.row i d lt) (each i d lt) its (λ same. differ (same ∙ sym v.number)))

-- ---- the chains after it

its_variation : (parts : Parts) (m : Machine) (store : Store) (session : ℕ) (call : Call) (t : ℕ) (header : Header) (slot : Slot) → IsKept m → (v : IsWriteBy parts m store session call t header slot)
    → by (Some (m.base + v.xact.number)) (write_of parts t slot) ≡ variation_in parts m.base t slot
its_variation parts m store session call t header slot k v =
    let one = k.numbered.open_ones.from_one session v.xact v.is_open in
    let number = v.number in
    ap (λ (xn : ℕ). by (Some xn) (write_of parts t slot)) (sym v.number)
    ∙ sym (ap (λ (b : Bool). by (cond b None (Some slot.xn)) (write_of parts t slot)) (lt-leb slot.xn m.base (omega (arith, one, number))))

chain_after : (parts : Parts) (m : Machine) (store : Store) (session : ℕ) (call : Call) (t : ℕ) (header : Header) (slot : Slot) → IsKept m → IsWriteBy parts m store session call t header slot
    → chain (state_after m session call) (t, slot.key) ≡ chain m (t, slot.key) ++ variation_in parts m.base t slot ∷ []
chain_after parts m store session call t header slot k v =
    subst (λ (q : Key). chain (state_after m session call) q ≡ chain m q ++ variation_in parts m.base t slot ∷ []) (key_of_write parts t slot)
    (answered_write_is_newest m session call v.xact (write_of parts t slot) v.is_open v.write v.answered
    ∙ ap (λ (u : Variation). chain m (key_written (write_of parts t slot)) ++ u ∷ []) (its_variation parts m store session call t header slot k v))

other_chains : (parts : Parts) (m : Machine) (store : Store) (session : ℕ) (call : Call) (t : ℕ) (header : Header) (slot : Slot) (key : Key) → IsWriteBy parts m store session call t header slot → key ≢ (t, slot.key)
    → chain (state_after m session call) key ≡ chain m key
other_chains parts m store session call t header slot key v apart =
    writes_keep_other_chains m session call (write_of parts t slot) key v.write (ap (same_key key) (key_of_write parts t slot) ∙ same_key-not key (t, slot.key) apart)

put_chains : (parts : Parts) (m : Machine) (store : Store) (session : ℕ) (call : Call) (t : ℕ) (header : Header) (slot : Slot) → HoldsChains parts m store → IsKept m → IsWriteBy parts m store session call t header slot
    → let next = after_put store t header slot in
    AreSound m.short next.tables next.layouts → AreToldByChains next.tables next.layouts (variations_in parts m.base) (newest_first (state_after m session call))
put_chains parts m store session call t header slot h k v sound =
    let n = state_after m session call in
    let next = after_put store t header slot in
    let slots = slot ∷ versions_of store t slot.row in
    let here : newest_first n (t, slot.key) ≡ variations_in parts m.base t slots =
    ap (λ (l : List Variation). if_any (reverse l)) (chain_after parts m store session call t header slot k v)
    ∙ ap if_any (reverse_push (chain m (t, slot.key)) (variation_in parts m.base t slot))
    ∙ ap (λ (l : List Variation). Some (variation_in parts m.base t slot ∷ l)) (versions_before parts m store session call t header slot h v) in
    told_of_rows m.short next.tables next.layouts (variations_in parts m.base) (newest_first n) sound
    (told_changed (chains_of store.tables store.layouts) (chains_of next.tables next.layouts) t slot.row slot.key slots (variations_in parts m.base) (newest_first m) (newest_first n)
    (put_changes parts m store session call t header slot h v) (variations_blind parts m.base)
    (told_by_rows m.short store.tables store.layouts (variations_in parts m.base) (newest_first m) h.sound h.chains)
    (λ key apart. ap (λ (l : List Variation). if_any (reverse l)) (other_chains parts m store session call t header slot key v apart))
    here)

pub put_holds : (parts : Parts) (m : Machine) (store : Store) (session : ℕ) (call : Call) (t : ℕ) (header : Header) (slot : Slot) → HoldsChains parts m store → IsKept m
    → IsWriteBy parts m store session call t header slot → HoldsChains parts (state_after m session call) (after_step store (Step.put t header slot))
put_holds parts m store session call t header slot h k v =
    let n = state_after m session call in
    let next = after_put store t header slot in
    let keeps = calls_keep_base m session call in
    let ended = calls_keep_ended m session call (writes_end_nothing call (write_of parts t slot) v.write) in
    let one = k.numbered.open_ones.from_one session v.xact v.is_open in
    let number = v.number in
    let sound = put_sound parts m store session call t header slot h v in
    let P : ℕ → Type 0 = λ xn. xn ≤ m.base → store.done xn ≡ true in
    record {
      sound = subst (λ (short : ℕ). AreSound short next.tables next.layouts) (sym keeps.short) sound;
      chains = subst (λ (base : ℕ). AreToldByChains next.tables next.layouts (variations_in parts base) (newest_first n)) (sym keeps.base)
          (put_chains parts m store session call t header slot h k v sound);
      found = found_of next m.base n.base keeps.base
          (numbers_changed P (chains_of store.tables store.layouts) (chains_of next.tables next.layouts) t slot.row slot.key (slot ∷ versions_of store t slot.row)
          (put_changes parts m store session call t header slot h v) h.found
          (All-cons (λ (s : Slot). P s.xn) slot (versions_of store t slot.row) (λ low. absurd (omega (arith, low, one, number))) (h.found t slot.row)));
      done = λ xn past. h.done xn (omega (arith, past, keeps.base)) ∙ ap is_committed (sym (same_standing m n (Some xn) keeps.base ended));
      over = λ xn past. h.over xn (omega (arith, past, keeps.base)) ∙ ap is_rolled_back (sym (same_standing m n (Some xn) keeps.base ended));
    }
