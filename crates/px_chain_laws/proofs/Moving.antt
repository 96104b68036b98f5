-- How chains move with each call.
use Rattle.std.proofs.Common.{◌≡◌, ℕ, zero, suc, ◌+◌, ◌<◌, Bool, true, false, cond, eqb, inl, inr, List, [], ◌∷◌, ◌++◌, map, length, take, drop, get_or, set, Option, Some, None, option_map, refl, sym, ap, subst, ◌∙◌}
use Rattle.std.specs.Prelude.{is_some, slice_set, flat_map}
use Rattle.std.specs.Cmp.{eq_by_cmp_equiv}
use Rattle.std.proofs.lemmas.Bool.{true≢false, eqb-true, cases_lt, or_parts}
use Rattle.std.proofs.lemmas.Option.{none-some, same_Some}
use Rattle.std.proofs.lemmas.List.{append-nil, append_assoc, map-append, set-get_or, get_or_past, take-append-le, drop-append-le, nil_from_length}
use Rattle.std.proofs.lemmas.List.Elements.{filter-append}
use Rattle.std.proofs.lemmas.Simd.{map-map}
use Rattle.px_model.specs.declared.row.Row.{Row}
use Rattle.px_model.specs.declared.write.Write.{Write}
use Rattle.px_model.specs.declared.write.Write.TheVariants.{Put, Delete}
use Rattle.px_model.specs.declared.machine.Ended.{Ended}
use Rattle.px_model.specs.declared.machine.Flat.{Flat}
use Rattle.px_model.specs.declared.machine.Open.{Open}
use Rattle.px_model.specs.declared.machine.Variation.{Variation}
use Rattle.px_model.specs.Rows.{Key, same_key, key_written, row_at, has_write_of}
use Rattle.px_model.specs.Machine.{Machine, fresh, view, flat, flat_of, flat_from}
use Rattle.px_model.specs.Chains.{last_committed, of_opening, of_ended, of_slot, of_key, base_or, chain}
use Rattle.px_model_laws.proofs.RowsAsMap.{key_total}
use Rattle.px_calls.specs.declared.call.Call.{Call}
use Rattle.px_calls.specs.declared.call.Call.TheVariants.{Begin, Get, Hold, Fetch, Find, Scan, Insert, Update, Delete as DeleteCall, Commit, Rollback}
use Rattle.px_calls.specs.declared.reply.Reply.{Reply}
use Rattle.px_calls.specs.declared.reply.Reply.TheVariants.{Began, OpenAlready, LimitBegins, NoTable, LimitKey, LimitBody, LimitWrites, Conflict}
use Rattle.px_calls.specs.Steps as steps
use Rattle.px_calls.specs.Steps.{open_of, open_writer, last_writer, conflict_of, write_refusal, with_slot, with_write, plus_write, plus_kept, entry_of, entries_of, closed, new_transaction, if_open, is_refusal, reply_of, state_when_done, state_after}
use Rattle.px_machine_laws.proofs.Overlap.{option_or_none}
use Rattle.px_xacts.proofs.Lists.{slot_cases}
use Rattle.px_xacts_laws.proofs.Mirroring.{flat_from-append}
use Rattle.px_chain_laws.specs.Kept.{IsKept}
use Rattle.px_chain_laws.specs.Writing.{write_of}
use Rattle.px_chain_laws.proofs.Gathered.{gathered_alike, gathered_alone}
use Rattle.px_chain_laws.proofs.Looking.{by}

-- ---- what a key has of writes

pub key_itself : (key : Key) → same_key key key ≡ true
unfolding same_key
key_itself key = (eq_by_cmp_equiv key_total).refl key

abbrev pub writes_at : Key → Option ℕ → List Write → List Variation
writes_at key xn writes = of_key key (map (by xn) writes)

pub writes_plus : (key : Key) (xn : Option ℕ) (writes : List Write) (w : Write)
    → writes_at key xn (writes ++ w ∷ []) ≡ writes_at key xn writes ++ writes_at key xn (w ∷ [])
writes_plus key xn writes w =
    ap (of_key key) (map-append (by xn) writes (w ∷ []))
    ∙ filter-append (λ (v : Variation). same_key key (key_written v.write)) (map (by xn) writes) (by xn w ∷ [])

one_at : (key : Key) (xn : Option ℕ) (w : Write) → same_key key (key_written w) ≡ true → writes_at key xn (w ∷ []) ≡ by xn w ∷ []
one_at key xn w is = ap (λ b. cond b (by xn w ∷ []) []) is

one_elsewhere : (key : Key) (xn : Option ℕ) (w : Write) → same_key key (key_written w) ≡ false → writes_at key xn (w ∷ []) ≡ []
one_elsewhere key xn w is = ap (λ b. cond b (by xn w ∷ []) []) is

pub none_at : (key : Key) (xn : Option ℕ) (writes : List Write) → has_write_of key writes ≡ false → writes_at key xn writes ≡ []
none_at key xn [] none = refl
none_at key xn (w ∷ writes) none =
    let parts = or_parts (same_key key (key_written w)) (has_write_of key writes) none in
    ap (λ b. cond b (by xn w ∷ writes_at key xn writes) (writes_at key xn writes)) parts.0 ∙ none_at key xn writes parts.1

-- ---- what a key has of open transactions

abbrev pub slots_at : Key → ℕ → List (Option Open) → List Variation
slots_at key base slots = of_key key (flat_map (of_slot base) slots)

slots_first : (key : Key) (base : ℕ) (slot : Option Open) (slots : List (Option Open))
    → slots_at key base (slot ∷ slots) ≡ of_key key (of_slot base slot) ++ slots_at key base slots
slots_first key base slot slots = filter-append (λ (v : Variation). same_key key (key_written v.write)) (of_slot base slot) (flat_map (of_slot base) slots)

-- a slot changes, and has the same of the key
slot_alike : (key : Key) (base : ℕ) (slots : List (Option Open)) (s : ℕ) (slot : Option Open)
    → of_key key (of_slot base slot) ≡ of_key key (of_slot base (get_or slots s None)) → slots_at key base (set slots s slot) ≡ slots_at key base slots
slot_alike key base slots s slot same = gathered_alike (λ (v : Variation). same_key key (key_written v.write)) (of_slot base) slots s slot None same

-- one slot has all of the key
slot_alone : (key : Key) (base : ℕ) (slots : List (Option Open)) (s : ℕ) (slot : Option Open) → s < length slots
    → slots_at key base (set slots s None) ≡ [] → slots_at key base (set slots s slot) ≡ of_key key (of_slot base slot)
slot_alone key base slots s slot within none = gathered_alone (λ (v : Variation). same_key key (key_written v.write)) (of_slot base) slots s slot None within none

pub open_within : (slots : List (Option Open)) (s : ℕ) (x : Open) → get_or slots s None ≡ Some x → s < length slots
open_within slots s x at = elim (cases_lt s (length slots)) [
  | inl lt ↦ lt
  | inr le ↦ absurd (none-some x (sym (get_or_past slots s None le) ∙ at))
]

-- what the key has where one transaction alone has written it
pub held_alone : (key : Key) (base : ℕ) (slots : List (Option Open)) (s : ℕ) (x : Open) → get_or slots s None ≡ Some x
    → slots_at key base (set slots s None) ≡ [] → slots_at key base slots ≡ writes_at key (Some (base + x.number)) x.writes
held_alone key base slots s x at none =
    ap (slots_at key base) (sym (set-get_or slots s None))
    ∙ slot_alone key base slots s (get_or slots s None) (open_within slots s x at) none
    ∙ ap (λ (slot : Option Open). of_key key (of_slot base slot)) at

pub nobody_writes : (key : Key) (base : ℕ) (slots : List (Option Open)) → open_writer key slots ≡ None → slots_at key base slots ≡ []
nobody_writes key base [] nobody = refl
nobody_writes key base (None ∷ slots) nobody = nobody_writes key base slots nobody
nobody_writes key base (Some y ∷ slots) nobody =
    elim (has_write_of key y.writes) as (λ b. has_write_of key y.writes ≡ b → cond b (Some y.number) (open_writer key slots) ≡ None → slots_at key base (Some y ∷ slots) ≡ []) [
      | true ↦ λ e some. absurd (none-some y.number (sym some))
      | false ↦ λ e none.
          slots_first key base (Some y) slots
          ∙ ap (λ l. l ++ slots_at key base slots) (none_at key (Some (base + y.number)) y.writes e)
          ∙ nobody_writes key base slots none
    ] refl nobody

nobody_has : (key : Key) (base : ℕ) (slots : List (Option Open))
    → ((t : ℕ) (y : Open) → get_or slots t None ≡ Some y → has_write_of key y.writes ≡ true → ⊥) → slots_at key base slots ≡ []
nobody_has key base [] nobody = refl
nobody_has key base (None ∷ slots) nobody = nobody_has key base slots (λ t y at. nobody (suc t) y at)
nobody_has key base (Some y ∷ slots) nobody =
    elim (has_write_of key y.writes) as (λ b. has_write_of key y.writes ≡ b → slots_at key base (Some y ∷ slots) ≡ []) [
      | true ↦ λ e. absurd (nobody zero y refl e)
      | false ↦ λ e.
          slots_first key base (Some y) slots
          ∙ ap (λ l. l ++ slots_at key base slots) (none_at key (Some (base + y.number)) y.writes e)
          ∙ nobody_has key base slots (λ t z at. nobody (suc t) z at)
    ] refl

-- ---- a chain, when only open transactions change

-- what stands below the open writes
abbrev below_open : Machine → Key → List Variation
below_open m key =
    base_or m.base (row_at key m.opening) (last_committed key (take m.swept (flat m)))
    ++ of_key key (map (of_ended m.base) (drop m.swept (flat m)))

same_slots : (m : Machine) (active : List (Option Open)) (key : Key) → slots_at key m.base active ≡ slots_at key m.base m.active
    → chain (record m { active = active }) key ≡ chain m key
unfolding chain
same_slots m active key same = ap (λ l. below_open m key ++ l) same

same_slot : (m : Machine) (s : ℕ) (slot : Option Open) (key : Key)
    → of_key key (of_slot m.base slot) ≡ of_key key (of_slot m.base (open_of m s)) → chain (with_slot m s slot) key ≡ chain m key
same_slot m s slot key same = same_slots m (set m.active s slot) key (slot_alike key m.base m.active s slot same)

-- ---- a fresh machine

pub fresh_chain : (tables short : ℕ) (opening : List Row) (first base : ℕ) (key : Key) → chain (fresh tables short opening first base) key ≡ of_opening (row_at key opening)
unfolding chain fresh
fresh_chain tables short opening first base key = append-nil (of_opening (row_at key opening) ++ []) ∙ append-nil (of_opening (row_at key opening))

-- ---- a write

pub write_is_newest : (m : Machine) (s : ℕ) (x : Open) (w : Write) → open_of m s ≡ Some x
    → open_writer (key_written w) (slice_set m.active s None) ≡ None
    → chain (with_write m s w) (key_written w) ≡ chain m (key_written w) ++ by (Some (m.base + x.number)) w ∷ []
unfolding chain
write_is_newest m s x w at nobody =
    let key = key_written w in
    let xn : Option ℕ = Some (m.base + x.number) in
    let none : slots_at key m.base (set m.active s None) ≡ [] = nobody_writes key m.base (set m.active s None) nobody in
    let was : slots_at key m.base m.active ≡ writes_at key xn x.writes = held_alone key m.base m.active s x at none in
    let now : slots_at key m.base (set m.active s (option_map (plus_write w) (open_of m s))) ≡ slots_at key m.base m.active ++ by xn w ∷ [] =
    ap (λ (slot : Option Open). slots_at key m.base (set m.active s (option_map (plus_write w) slot))) at
    ∙ slot_alone key m.base m.active s (Some (plus_write w x)) (open_within m.active s x at) none
    ∙ writes_plus key xn x.writes w
    ∙ ap (λ l. writes_at key xn x.writes ++ l) (one_at key xn w (key_itself key))
    ∙ ap (λ l. l ++ by xn w ∷ []) (sym was) in
    ap (λ l. below_open m key ++ l) now ∙ sym (append_assoc (below_open m key) (slots_at key m.base m.active) (by xn w ∷ []))

written_elsewhere : (key : Key) (base : ℕ) (slot : Option Open) (w : Write) → same_key key (key_written w) ≡ false
    → of_key key (of_slot base (option_map (plus_write w) slot)) ≡ of_key key (of_slot base slot)
written_elsewhere key base None w other = refl
written_elsewhere key base (Some x) w other =
    let xn : Option ℕ = Some (base + x.number) in
    writes_plus key xn x.writes w
    ∙ ap (λ l. writes_at key xn x.writes ++ l) (one_elsewhere key xn w other)
    ∙ append-nil (writes_at key xn x.writes)

pub write_leaves_others : (m : Machine) (s : ℕ) (w : Write) (key : Key) → same_key key (key_written w) ≡ false
    → chain (with_write m s w) key ≡ chain m key
write_leaves_others m s w key other =
    same_slot m s (option_map (plus_write w) (open_of m s)) key (written_elsewhere key m.base (open_of m s) w other)

-- ---- an end

-- the entry has the transaction's writes
entry_variations : (base place : ℕ) (committed : Bool) (x : Open) → map (of_ended base) (flat_from place (entry_of committed x)) ≡ of_slot base (Some x)
entry_variations base place committed x =
    let entry : Ended = record { number = x.number; committed = committed; snap = x.snap; writes = x.writes } in
    elim (eqb (length x.writes) 0) as (λ b. eqb (length x.writes) 0 ≡ b → map (of_ended base) (flat_from place (cond b [] (entry ∷ []))) ≡ of_slot base (Some x)) [
      | true ↦ λ e. ap (map (by (Some (base + x.number)))) (sym (nil_from_length x.writes (eqb-true (length x.writes) 0 e)))
      | false ↦ λ e.
          ap (map (of_ended base)) (append-nil (flat_of place entry))
          ∙ map-map (of_ended base) (λ (w : Write). record { place = place; number = x.number; committed = committed; write = w }) x.writes
    ] refl

-- no other one has written a key that a transaction wrote
pub alone_where_written : (m : Machine) (s : ℕ) (x : Open) (key : Key) → IsKept m → open_of m s ≡ Some x → has_write_of key x.writes ≡ true
    → slots_at key m.base (set m.active s None) ≡ []
alone_where_written m s x key k at wrote = nobody_has key m.base (set m.active s None) (λ t y bt has.
    elim (slot_cases m.active s t None y bt) [
      | inl p ↦ none-some y p.1
      | inr p ↦ k.own_keys.apart s t x y key p.0 at p.1 wrote has
    ])

-- the open writes of a transaction are in front of those of the others
moved : (m : Machine) (s : ℕ) (x : Open) (key : Key) → IsKept m → open_of m s ≡ Some x
    → of_key key (of_slot m.base (Some x)) ++ slots_at key m.base (set m.active s None) ≡ slots_at key m.base m.active
moved m s x key k at =
    let own = of_key key (of_slot m.base (Some x)) in
    elim (has_write_of key x.writes) as (λ b. has_write_of key x.writes ≡ b → own ++ slots_at key m.base (set m.active s None) ≡ slots_at key m.base m.active) [
      | true ↦ λ e.
          let none = alone_where_written m s x key k at e in
          ap (λ l. own ++ l) none ∙ append-nil own ∙ sym (held_alone key m.base m.active s x at none)
      | false ↦ λ e.
          let nothing : own ≡ [] = none_at key (Some (m.base + x.number)) x.writes e in
          ap (λ l. l ++ slots_at key m.base (set m.active s None)) nothing
          ∙ slot_alike key m.base m.active s None (sym nothing ∙ ap (λ (slot : Option Open). of_key key (of_slot m.base slot)) (sym at))
    ] refl

pub end_keeps_chains : (m : Machine) (s : ℕ) (x : Open) (committed : Bool) (key : Key) → IsKept m → open_of m s ≡ Some x
    → chain (closed m s committed) key ≡ chain m key
unfolding chain
end_keeps_chains m s x committed key k at =
    let new = flat_from (0 + length m.ended) (entry_of committed x) in
    let base = base_or m.base (row_at key m.opening) (last_committed key (take m.swept (flat m))) in
    let passed = of_key key (map (of_ended m.base) (drop m.swept (flat m))) in
    let own = of_key key (of_slot m.base (Some x)) in
    let open' = slots_at key m.base (set m.active s None) in
    let grown : flat (closed m s committed) ≡ flat m ++ new =
    ap (λ (slot : Option Open). flat_from 0 (m.ended ++ entries_of committed slot)) at ∙ flat_from-append 0 m.ended (entry_of committed x) in
    let dropped : of_key key (map (of_ended m.base) (drop m.swept (flat m ++ new))) ≡ passed ++ own =
    ap (λ l. of_key key (map (of_ended m.base) l)) (drop-append-le m.swept (flat m) new k.swept.within)
    ∙ ap (of_key key) (map-append (of_ended m.base) (drop m.swept (flat m)) new)
    ∙ filter-append (λ (v : Variation). same_key key (key_written v.write)) (map (of_ended m.base) (drop m.swept (flat m))) (map (of_ended m.base) new)
    ∙ ap (λ l. passed ++ of_key key l) (entry_variations m.base (0 + length m.ended) committed x) in
    ap (λ (l : List Flat). (base_or m.base (row_at key m.opening) (last_committed key (take m.swept l)) ++ of_key key (map (of_ended m.base) (drop m.swept l))) ++ open') grown
    ∙ ap (λ (l : List Flat). (base_or m.base (row_at key m.opening) (last_committed key l) ++ of_key key (map (of_ended m.base) (drop m.swept (flat m ++ new)))) ++ open')
    (take-append-le m.swept (flat m) new k.swept.within)
    ∙ ap (λ (l : List Variation). (base ++ l) ++ open') dropped
    ∙ ap (λ (l : List Variation). l ++ open') (sym (append_assoc base passed own))
    ∙ append_assoc (base ++ passed) own open'
    ∙ ap (λ (l : List Variation). (base ++ passed) ++ l) (moved m s x key k at)

-- ---- calls that write nothing

pub opened : (o : Option Open) (f : Open → Reply) → is_refusal (if_open o f) ≡ false → (x : Open) × (o ≡ Some x)
opened None f h = absurd (true≢false h)
opened (Some x) f h = (x, refl)

pub begin_keeps_chains : (m : Machine) (s : ℕ) (key : Key) → open_of m s ≡ None
    → chain (record m { begun = m.begun + 1; active = set m.active s (Some (new_transaction m)) }) key ≡ chain m key
unfolding chain
begin_keeps_chains m s key none =
    ap (λ l. below_open m key ++ l) (slot_alike key m.base m.active s (Some (new_transaction m)) (ap (λ (slot : Option Open). of_key key (of_slot m.base slot)) (sym none)))

kept_slot : (key : Key) (base : ℕ) (slot : Option Open) (f : Open → Option Row) → of_key key (of_slot base (option_map (λ x. plus_kept (f x) x) slot)) ≡ of_key key (of_slot base slot)
kept_slot key base None f = refl
kept_slot key base (Some x) f = refl

unless_refused : (b : Bool) (m n : Machine) (key : Key) → (b ≡ false → chain n key ≡ chain m key) → chain (cond b m n) key ≡ chain m key
unless_refused true m n key same = refl
unless_refused false m n key same = same refl

pub refusals_keep_chains : (m : Machine) (s : ℕ) (call : Call) (key : Key) → is_refusal (reply_of m s call) ≡ true → chain (state_after m s call) key ≡ chain m key
unfolding state_after
refusals_keep_chains m s call key refused =
    unless_refused (is_refusal (reply_of m s call)) m (state_when_done m s call) key (λ done. absurd (true≢false (sym refused ∙ done)))

nobody_open : (is_open spent : Bool) (number : ℕ) → is_refusal (cond is_open OpenAlready (cond spent LimitBegins (Began number))) ≡ false → is_open ≡ false
nobody_open true spent number h = absurd (true≢false h)
nobody_open false spent number h = refl

none_of : (slot : Option Open) → is_some slot ≡ false → slot ≡ None
none_of None e = refl
none_of (Some x) e = absurd (true≢false e)

pub calls_keep_chains : (m : Machine) (s : ℕ) (call : Call) (key : Key) → IsKept m → write_of call ≡ None → chain (state_after m s call) key ≡ chain m key
unfolding state_after state_when_done reply_of
calls_keep_chains m s Begin key k reads = unless_refused _ m _ key (λ h. begin_keeps_chains m s key (none_of (open_of m s) (nobody_open _ _ _ h)))
calls_keep_chains m s (Get table bytes) key k reads = unless_refused _ m m key (λ h. refl)
calls_keep_chains m s (Hold table bytes) key k reads = unless_refused _ m _ key (λ h.
    let f : Open → Option Row = λ x. row_at (table, bytes) (view m x) in
    same_slot m s (option_map (λ x. plus_kept (f x) x) (open_of m s)) key (kept_slot key m.base (open_of m s) f))
calls_keep_chains m s (Fetch ticket) key k reads = unless_refused _ m m key (λ h. refl)
calls_keep_chains m s (Find table tag) key k reads = unless_refused _ m m key (λ h. refl)
calls_keep_chains m s (Scan table) key k reads = unless_refused _ m m key (λ h. refl)
calls_keep_chains m s (Insert table bytes tag body) key k reads = absurd (none-some (Put (record { table = table; key = bytes; tag = tag; body = body })) (sym reads))
calls_keep_chains m s (Update table bytes tag body) key k reads = absurd (none-some (Put (record { table = table; key = bytes; tag = tag; body = body })) (sym reads))
calls_keep_chains m s (DeleteCall table bytes) key k reads = absurd (none-some (Delete table bytes) (sym reads))
calls_keep_chains m s Commit key k reads = unless_refused _ m _ key (λ h. let p = opened _ _ h in end_keeps_chains m s p.0 true key k p.1)
calls_keep_chains m s Rollback key k reads = unless_refused _ m _ key (λ h. let p = opened _ _ h in end_keeps_chains m s p.0 false key k p.1)

-- ---- calls that write

pub no_conflict : (a b c d : Bool) (o : Option ℕ) (r : Reply)
    → is_refusal (steps.unless_refused (cond a (Some NoTable) (cond b (Some LimitKey) (cond c (Some LimitBody) (cond d (Some LimitWrites) (option_map Conflict o))))) r) ≡ false → o ≡ None
no_conflict true b c d o r h = absurd (true≢false h)
no_conflict false true c d o r h = absurd (true≢false h)
no_conflict false false true d o r h = absurd (true≢false h)
no_conflict false false false true o r h = absurd (true≢false h)
no_conflict false false false false None r h = refl
no_conflict false false false false (Some n) r h = absurd (true≢false h)

pub answered : (o : Option Open) (f : Open → Reply) (x : Open) → o ≡ Some x → is_refusal (if_open o f) ≡ false → is_refusal (f x) ≡ false
answered None f x is h = absurd (none-some x is)
answered (Some y) f x is h = ap (λ (z : Open). is_refusal (f z)) (sym (same_Some y x is)) ∙ h

pub free : (m : Machine) (s : ℕ) (x : Open) (key : Key) → conflict_of m s x key ≡ None → open_writer key (set m.active s None) ≡ None
unfolding conflict_of
free m s x key none = (option_or_none (open_writer key (set m.active s None)) (last_writer key (drop x.snap m.ended)) none).0

-- a write that was done
done_write : (m : Machine) (s : ℕ) (call : Call) (x : Open) (v w : Write) → open_of m s ≡ Some x → v ≡ w → conflict_of m s x (key_written v) ≡ None
    → is_refusal (reply_of m s call) ≡ false → state_when_done m s call ≡ with_write m s v
    → chain (state_after m s call) (key_written w) ≡ chain m (key_written w) ++ by (Some (m.base + x.number)) w ∷ []
unfolding state_after
done_write m s call x v w at same none done is =
    ap (λ b. chain (cond b m (state_when_done m s call)) (key_written w)) done
    ∙ ap (λ (n : Machine). chain n (key_written w)) is
    ∙ subst (λ (u : Write). chain (with_write m s v) (key_written u) ≡ chain m (key_written u) ++ by (Some (m.base + x.number)) u ∷ []) same
    (write_is_newest m s x v at (free m s x (key_written v) none))

pub answered_write_is_newest : (m : Machine) (s : ℕ) (call : Call) (x : Open) (w : Write) → open_of m s ≡ Some x → write_of call ≡ Some w
    → is_refusal (reply_of m s call) ≡ false
    → chain (state_after m s call) (key_written w) ≡ chain m (key_written w) ++ by (Some (m.base + x.number)) w ∷ []
unfolding state_when_done reply_of write_refusal
answered_write_is_newest m s Begin x w at writes done = absurd (none-some w writes)
answered_write_is_newest m s (Get table key) x w at writes done = absurd (none-some w writes)
answered_write_is_newest m s (Hold table key) x w at writes done = absurd (none-some w writes)
answered_write_is_newest m s (Fetch ticket) x w at writes done = absurd (none-some w writes)
answered_write_is_newest m s (Find table tag) x w at writes done = absurd (none-some w writes)
answered_write_is_newest m s (Scan table) x w at writes done = absurd (none-some w writes)
answered_write_is_newest m s (Insert table key tag body) x w at writes done =
    let put : Write = Put (record { table = table; key = key; tag = tag; body = body }) in
    done_write m s (Insert table key tag body) x put w at (same_Some put w writes) (no_conflict _ _ _ _ _ _ (answered _ _ x at done)) done refl
answered_write_is_newest m s (Update table key tag body) x w at writes done =
    let put : Write = Put (record { table = table; key = key; tag = tag; body = body }) in
    done_write m s (Update table key tag body) x put w at (same_Some put w writes) (no_conflict _ _ _ _ _ _ (answered _ _ x at done)) done refl
answered_write_is_newest m s (DeleteCall table key) x w at writes done =
    done_write m s (DeleteCall table key) x (Delete table key) w at (same_Some (Delete table key) w writes) (no_conflict _ _ false _ _ _ (answered _ _ x at done)) done refl
answered_write_is_newest m s Commit x w at writes done = absurd (none-some w writes)
answered_write_is_newest m s Rollback x w at writes done = absurd (none-some w writes)

-- a call that writes leaves each other chain
pub writes_keep_other_chains : (m : Machine) (s : ℕ) (call : Call) (w : Write) (key : Key) → write_of call ≡ Some w → same_key key (key_written w) ≡ false
    → chain (state_after m s call) key ≡ chain m key
unfolding state_after state_when_done
writes_keep_other_chains m s Begin w key writes other = absurd (none-some w writes)
writes_keep_other_chains m s (Get table bytes) w key writes other = absurd (none-some w writes)
writes_keep_other_chains m s (Hold table bytes) w key writes other = absurd (none-some w writes)
writes_keep_other_chains m s (Fetch ticket) w key writes other = absurd (none-some w writes)
writes_keep_other_chains m s (Find table tag) w key writes other = absurd (none-some w writes)
writes_keep_other_chains m s (Scan table) w key writes other = absurd (none-some w writes)
writes_keep_other_chains m s (Insert table bytes tag body) w key writes other = unless_refused _ m _ key (λ h.
    let put : Write = Put (record { table = table; key = bytes; tag = tag; body = body }) in
    write_leaves_others m s put key (ap (λ (v : Write). same_key key (key_written v)) (same_Some put w writes) ∙ other))
writes_keep_other_chains m s (Update table bytes tag body) w key writes other = unless_refused _ m _ key (λ h.
    let put : Write = Put (record { table = table; key = bytes; tag = tag; body = body }) in
    write_leaves_others m s put key (ap (λ (v : Write). same_key key (key_written v)) (same_Some put w writes) ∙ other))
writes_keep_other_chains m s (DeleteCall table bytes) w key writes other = unless_refused _ m _ key (λ h.
    write_leaves_others m s (Delete table bytes) key (ap (λ (v : Write). same_key key (key_written v)) (same_Some (Delete table bytes) w writes) ∙ other))
writes_keep_other_chains m s Commit w key writes other = absurd (none-some w writes)
writes_keep_other_chains m s Rollback w key writes other = absurd (none-some w writes)
