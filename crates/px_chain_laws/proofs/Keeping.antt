-- What holds of a fresh machine holds after each call and each step of the sweeper.
use Rattle.std.proofs.Common.{◌≡◌, ◌≢◌, ℕ, ◌+◌, ◌<◌, ◌≤◌, Bool, true, false, cond, eqb, ltb, inl, inr, List, [], ◌∷◌, ◌++◌, length, take, get_or, set, Option, Some, None, option_map, refl, sym, ap, subst, ◌∙◌, arith, length-append}
use Rattle.std.specs.Prelude.{All, slice_get, slice_set}
use Rattle.std.proofs.lemmas.Bool.{cond_both, cases_lt, ltb-true}
use Rattle.std.proofs.lemmas.Option.{none-some, same_Some, slice_get_within, get_or_from_slice_get}
use Rattle.std.proofs.lemmas.List.{append-nil, take-append-le, take_more, get_or-replicate, get_or_past}
use Rattle.std.proofs.lemmas.List.Elements.{All-take, All-push, All-same}
use Rattle.px_model.specs.declared.row.Row.{Row}
use Rattle.px_model.specs.declared.write.Write.TheVariants.{Put, Delete}
use Rattle.px_model.specs.declared.machine.Ended.{Ended}
use Rattle.px_model.specs.declared.machine.Flat.{Flat}
use Rattle.px_model.specs.declared.machine.Open.{Open}
use Rattle.px_model.specs.Rows.{row_at}
use Rattle.px_model.specs.Machine.{Machine, fresh, no_session, view, flat, flat_from, horizon}
use Rattle.px_calls.specs.declared.call.Call.{Call}
use Rattle.px_calls.specs.declared.call.Call.TheVariants.{Begin, Get, Hold, Fetch, Find, Scan, Insert, Update, Delete as DeleteCall, Commit, Rollback}
use Rattle.px_calls.specs.declared.reply.Reply.TheVariants.{Swept, Idle}
use Rattle.px_calls.specs.Steps.{open_of, with_slot, plus_write, plus_kept, entry_of, entries_of, closed, new_transaction, reply_of, state_when_done, state_after}
use Rattle.px_calls.specs.Sweeps.{due_below, sweep_reply, counts_sweep, swept_state}
use Rattle.px_calls.specs.Histories.{Step, by, sweep, step_state, machine_after}
use Rattle.px_machine_laws.specs.Begun.{WereBegun}
use Rattle.px_machine_laws.proofs.Begun.{begun-none, begun-changed, begun-closed, begun-one_more}
use Rattle.px_machine_laws.proofs.Overlap.{Sound}
use Rattle.px_machine_laws.proofs.EveryHistory.{after_call, sound_at_first}
use Rattle.px_xacts.proofs.Lists.{slot_cases, push_cases}
use Rattle.px_xacts_laws.proofs.Mirroring.{flat_from-append}
use Rattle.px_chain_laws.specs.Kept.{AreNumbered, HaveOwnKeys, KeepsSnapshots, IsKept}
use Rattle.px_chain_laws.proofs.Ended.{places_below}
use Rattle.px_chain_laws.proofs.Horizon.{horizon_below}
use Rattle.px_chain_laws.proofs.Moving.{opened}

-- ---- the numbers

numbered_slot : (begun more : ℕ) (ended : List Ended) (active : List (Option Open)) (s : ℕ) (slot : Option Open)
    → AreNumbered begun ended active → begun ≤ more → WereBegun more (set active s slot)
    → ((x : Open) → slot ≡ Some x → (place : ℕ) (e : Ended) → slice_get ended place ≡ Some e → e.number ≢ x.number)
    → AreNumbered more ended (set active s slot)
numbered_slot begun more ended active s slot n up open_ones apart = record {
  open_ones = open_ones;
  from_one = n.from_one;
  given = λ i e at. omega (arith, n.given i e at, up);
  once = n.once;
  not_open = λ i t e y at bt. elim (slot_cases active s t slot y bt) [
    | inl p ↦ apart y p.1 i e at
    | inr p ↦ n.not_open i t e y at p.1
  ];
}

numbered_changed : (begun : ℕ) (ended : List Ended) (active : List (Option Open)) (s : ℕ) (x y : Open) → AreNumbered begun ended active
    → get_or active s None ≡ Some x → y.number ≡ x.number → AreNumbered begun ended (set active s (Some y))
numbered_changed begun ended active s x y n at same =
    numbered_slot begun begun ended active s (Some y) n (omega arith) (begun-changed begun active s x y n.open_ones at same)
    (λ z is i e bt equal. n.not_open i s e x bt at (equal ∙ sym (ap (λ (o : Open). o.number) (same_Some y z is)) ∙ same))

numbered_begun : (begun : ℕ) (ended : List Ended) (active : List (Option Open)) (s : ℕ) (y : Open) → AreNumbered begun ended active
    → y.number ≡ begun + 1 → AreNumbered (begun + 1) ended (set active s (Some y))
numbered_begun begun ended active s y n next =
    numbered_slot begun (begun + 1) ended active s (Some y) n (omega arith) (begun-one_more begun active s y n.open_ones next)
    (λ z is i e bt equal. omega (arith, n.given i e bt, equal, ap (λ (o : Open). o.number) (same_Some y z is), next))

numbered_left : (begun : ℕ) (ended : List Ended) (active : List (Option Open)) (s : ℕ) → AreNumbered begun ended active
    → AreNumbered begun ended (set active s None)
numbered_left begun ended active s n =
    numbered_slot begun begun ended active s None n (omega arith) (begun-closed begun active s n.open_ones) (λ z is. absurd (none-some z is))

-- the entry of the session's transaction, which is open no more
numbered_pushed : (begun : ℕ) (ended : List Ended) (active : List (Option Open)) (s : ℕ) (x : Open) (f : Ended) → AreNumbered begun ended active
    → get_or active s None ≡ Some x → f.number ≡ x.number → AreNumbered begun (ended ++ f ∷ []) (set active s None)
numbered_pushed begun ended active s x f n at same =
    let left : AreNumbered begun ended (set active s None) = numbered_left begun ended active s n in
    record {
      open_ones = left.open_ones;
      from_one = λ i e bt. elim (push_cases ended f i e bt) [
        | inl old ↦ n.from_one i e old
        | inr new ↦ omega (arith, n.open_ones.from_one s x at, same, ap (λ (g : Ended). g.number) new.1)
      ];
      given = λ i e bt. elim (push_cases ended f i e bt) [
        | inl old ↦ n.given i e old
        | inr new ↦ omega (arith, n.open_ones.given s x at, same, ap (λ (g : Ended). g.number) new.1)
      ];
      once = λ i j e g bt ct equal. elim (push_cases ended f i e bt) [
        | inl old ↦ elim (push_cases ended f j g ct) [
          | inl other ↦ n.once i j e g old other equal
          | inr new ↦ absurd (n.not_open i s e x old at (equal ∙ sym (ap (λ (h : Ended). h.number) new.1) ∙ same))
        ]
        | inr new ↦ elim (push_cases ended f j g ct) [
          | inl other ↦ absurd (n.not_open j s g x other at (sym equal ∙ sym (ap (λ (h : Ended). h.number) new.1) ∙ same))
          | inr last ↦ new.0 ∙ sym last.0
        ]
      ];
      not_open = λ i t e y bt ct. elim (push_cases ended f i e bt) [
        | inl old ↦ left.not_open i t e y old ct
        | inr new ↦ λ equal. elim (slot_cases active s t None y ct) [
          | inl p ↦ none-some y p.1
          | inr p ↦ p.0 (n.open_ones.apart t s y x p.1 at (sym equal ∙ sym (ap (λ (h : Ended). h.number) new.1) ∙ same))
        ]
      ];
    }

numbered_ended : (begun : ℕ) (ended : List Ended) (active : List (Option Open)) (s : ℕ) (x : Open) (committed : Bool) → AreNumbered begun ended active
    → get_or active s None ≡ Some x → AreNumbered begun (ended ++ entry_of committed x) (set active s None)
numbered_ended begun ended active s x committed n at =
    let entry : Ended = record { number = x.number; committed = committed; snap = x.snap; writes = x.writes } in
    elim (eqb (length x.writes) 0) as (λ b. AreNumbered begun (ended ++ cond b [] (entry ∷ [])) (set active s None)) [
      | true ↦ subst (λ l. AreNumbered begun l (set active s None)) (sym (append-nil ended)) (numbered_left begun ended active s n)
      | false ↦ numbered_pushed begun ended active s x entry n at refl
    ]

-- ---- how far the sweeper is

-- one slot changes, to a transaction whose snapshot is the one of before or the newest
swept_slot : (m n : Machine) (s : ℕ) (slot : Option Open) → KeepsSnapshots m → n.ended ≡ m.ended → n.swept ≡ m.swept → n.active ≡ set m.active s slot
    → ((y : Open) → slot ≡ Some y → (y.snap ≤ length m.ended) × (All (λ w. w.place < y.snap) (take m.swept (flat m))))
    → KeepsSnapshots n
swept_slot m n s slot k ended swept active now =
    let there : (t : ℕ) (y : Open) → open_of n t ≡ Some y → (y.snap ≤ length m.ended) × (All (λ w. w.place < y.snap) (take m.swept (flat m))) =
    λ t y at. elim (slot_cases m.active s t slot y (ap (λ (l : List (Option Open)). get_or l t None) (sym active) ∙ at)) [
      | inl p ↦ now y p.1
      | inr p ↦ (k.snaps t y p.1, k.below t y p.1)
    ] in
    let same : flat n ≡ flat m = ap (flat_from 0) ended in
    record {
      within = omega (arith, swept, k.within, ap length same);
      snaps = λ t y at. omega (arith, (there t y at).0, ap length ended);
      below = λ t y at. All-same (λ (w : Flat). w.place < y.snap) (take n.swept (flat n)) (take m.swept (flat m))
          (ap (λ (i : ℕ). take i (flat n)) swept ∙ ap (take m.swept) same) (there t y at).1;
    }

swept_changed : (m : Machine) (s : ℕ) (x y : Open) → KeepsSnapshots m → open_of m s ≡ Some x → y.snap ≡ x.snap → KeepsSnapshots (with_slot m s (Some y))
swept_changed m s x y k at same = swept_slot m (with_slot m s (Some y)) s (Some y) k refl refl refl (λ z is.
    let snap : x.snap ≡ z.snap = sym same ∙ ap (λ (o : Open). o.snap) (same_Some y z is) in (
      omega (arith, k.snaps s x at, snap),
      subst (λ (n : ℕ). All (λ w. w.place < n) (take m.swept (flat m))) snap (k.below s x at),
    ))

swept_begun : (m : Machine) (s : ℕ) → KeepsSnapshots m → KeepsSnapshots (record m { begun = m.begun + 1; active = slice_set m.active s (Some (new_transaction m)) })
swept_begun m s k = swept_slot m (record m { begun = m.begun + 1; active = slice_set m.active s (Some (new_transaction m)) }) s (Some (new_transaction m)) k refl refl refl (λ z is.
    let snap : length m.ended ≡ z.snap = ap (λ (o : Open). o.snap) (same_Some (new_transaction m) z is) in (
      omega (arith, snap),
      subst (λ (n : ℕ). All (λ w. w.place < n) (take m.swept (flat m))) (omega (arith, snap))
          (All-take (λ (w : Flat). w.place < 0 + length m.ended) m.swept (flat m) (places_below 0 m.ended)),
    ))

swept_ended : (m : Machine) (s : ℕ) (committed : Bool) → KeepsSnapshots m → KeepsSnapshots (closed m s committed)
swept_ended m s committed k =
    let new = entries_of committed (open_of m s) in
    let grown : flat (closed m s committed) ≡ flat m ++ flat_from (0 + length m.ended) new = flat_from-append 0 m.ended new in
    let there : (t : ℕ) (y : Open) → get_or (set m.active s None) t None ≡ Some y → open_of m t ≡ Some y =
    λ t y at. elim (slot_cases m.active s t None y at) [
      | inl p ↦ absurd (none-some y p.1)
      | inr p ↦ p.1
    ] in
    record {
      within = omega (arith, k.within, ap length grown, length-append (flat m) (flat_from (0 + length m.ended) new));
      snaps = λ t y at. omega (arith, k.snaps t y (there t y at), length-append m.ended new);
      below = λ t y at. All-same (λ (w : Flat). w.place < y.snap) (take m.swept (flat (closed m s committed))) (take m.swept (flat m))
          (ap (take m.swept) grown ∙ take-append-le m.swept (flat m) (flat_from (0 + length m.ended) new) k.within) (k.below t y (there t y at));
    }

-- ---- each call

pub by_call : (P : Machine → Type 0) (m : Machine) (s : ℕ) → P m
    → P (record m { begun = m.begun + 1; active = slice_set m.active s (Some (new_transaction m)) })
    → ((x y : Open) → open_of m s ≡ Some x → y.number ≡ x.number → y.snap ≡ x.snap → P (with_slot m s (Some y)))
    → ((x : Open) (committed : Bool) → open_of m s ≡ Some x → P (closed m s committed))
    → (call : Call) → P (state_after m s call)
unfolding state_after state_when_done reply_of
by_call P m s same begins changes ends Begin = cond_both _ m _ P (λ h. same) (λ h. begins)
by_call P m s same begins changes ends (Get table key) = cond_both _ m m P (λ h. same) (λ h. same)
by_call P m s same begins changes ends (Hold table key) = cond_both _ m _ P (λ h. same) (λ h. let p = opened _ _ h in
    subst (λ (slot : Option Open). P (with_slot m s (option_map (λ x. plus_kept (row_at (table, key) (view m x)) x) slot))) (sym p.1)
    (changes p.0 (plus_kept (row_at (table, key) (view m p.0)) p.0) p.1 refl refl))
by_call P m s same begins changes ends (Fetch ticket) = cond_both _ m m P (λ h. same) (λ h. same)
by_call P m s same begins changes ends (Find table tag) = cond_both _ m m P (λ h. same) (λ h. same)
by_call P m s same begins changes ends (Scan table) = cond_both _ m m P (λ h. same) (λ h. same)
by_call P m s same begins changes ends (Insert table key tag body) = cond_both _ m _ P (λ h. same) (λ h. let p = opened _ _ h in
    let row : Row = record { table = table; key = key; tag = tag; body = body } in
    subst (λ (slot : Option Open). P (with_slot m s (option_map (plus_write (Put row)) slot))) (sym p.1) (changes p.0 (plus_write (Put row) p.0) p.1 refl refl))
by_call P m s same begins changes ends (Update table key tag body) = cond_both _ m _ P (λ h. same) (λ h. let p = opened _ _ h in
    let row : Row = record { table = table; key = key; tag = tag; body = body } in
    subst (λ (slot : Option Open). P (with_slot m s (option_map (plus_write (Put row)) slot))) (sym p.1) (changes p.0 (plus_write (Put row) p.0) p.1 refl refl))
by_call P m s same begins changes ends (DeleteCall table key) = cond_both _ m _ P (λ h. same) (λ h. let p = opened _ _ h in
    subst (λ (slot : Option Open). P (with_slot m s (option_map (plus_write (Delete table key)) slot))) (sym p.1) (changes p.0 (plus_write (Delete table key) p.0) p.1 refl refl))
by_call P m s same begins changes ends Commit = cond_both _ m _ P (λ h. same) (λ h. let p = opened _ _ h in ends p.0 true p.1)
by_call P m s same begins changes ends Rollback = cond_both _ m _ P (λ h. same) (λ h. let p = opened _ _ h in ends p.0 false p.1)

abbrev NumberedState : Machine → Type 0
NumberedState m = AreNumbered m.begun m.ended m.active

numbered_call : (m : Machine) (s : ℕ) (call : Call) → NumberedState m → NumberedState (state_after m s call)
numbered_call m s call n = by_call NumberedState m s n
    (numbered_begun m.begun m.ended m.active s (new_transaction m) n refl)
    (λ x y at number snap. numbered_changed m.begun m.ended m.active s x y n at number)
    (λ x committed at. subst (λ (slot : Option Open). AreNumbered m.begun (m.ended ++ entries_of committed slot) (set m.active s None)) (sym at)
    (numbered_ended m.begun m.ended m.active s x committed n at))
    call

swept_call : (m : Machine) (s : ℕ) (call : Call) → KeepsSnapshots m → KeepsSnapshots (state_after m s call)
swept_call m s call k = by_call KeepsSnapshots m s k
    (swept_begun m s k)
    (λ x y at number snap. swept_changed m s x y k at snap)
    (λ x committed at. swept_ended m s committed k)
    call

sound : (m : Machine) → HaveOwnKeys m.ended m.active → Sound m.ended m.active
sound m k = record { first_wins = k.first_wins; seen = k.seen; apart = k.apart }

own : (m : Machine) → Sound m.ended m.active → HaveOwnKeys m.ended m.active
own m k = record { first_wins = k.first_wins; seen = k.seen; apart = k.apart }

pub kept_call : (m : Machine) (s : ℕ) (call : Call) → IsKept m → IsKept (state_after m s call)
kept_call m s call k = record {
  numbered = numbered_call m s call k.numbered;
  own_keys = own (state_after m s call) (after_call m s call (sound m k.own_keys));
  swept = swept_call m s call k.swept;
}

-- ---- a step of the sweeper

passes : (m : Machine) (w : Flat) → KeepsSnapshots m → slice_get (flat m) m.swept ≡ Some w → w.place < horizon m → KeepsSnapshots (record m { swept = m.swept + 1 })
passes m w k at due = record {
  within = omega (arith, slice_get_within (flat m) m.swept w at);
  snaps = k.snaps;
  below = λ t y bt.
      All-same (λ (f : Flat). f.place < y.snap) (take (m.swept + 1) (flat m)) (take m.swept (flat m) ++ w ∷ [])
      (take_more (flat m) m.swept w (slice_get_within (flat m) m.swept w at) ∙ ap (λ f. take m.swept (flat m) ++ f ∷ []) (get_or_from_slice_get (flat m) m.swept w w at))
      (All-push (λ (f : Flat). f.place < y.snap) (take m.swept (flat m)) w (k.below t y bt) (omega (arith, due, horizon_below m t y bt)));
}

not_yet : (m : Machine) (w : Flat) (b : Bool) → KeepsSnapshots m → slice_get (flat m) m.swept ≡ Some w → ltb w.place (horizon m) ≡ b
    → KeepsSnapshots (record m { swept = m.swept + counts_sweep (cond b (Swept w.number) Idle) })
not_yet m w true k at due = passes m w k at (ltb-true w.place (horizon m) due)
not_yet m w false k at due = subst (λ (n : ℕ). KeepsSnapshots (record m { swept = n })) (omega arith) k

next_is : (m : Machine) (next : Option Flat) → KeepsSnapshots m → slice_get (flat m) m.swept ≡ next
    → KeepsSnapshots (record m { swept = m.swept + counts_sweep (due_below (horizon m) next) })
next_is m None k at = subst (λ (n : ℕ). KeepsSnapshots (record m { swept = n })) (omega arith) k
next_is m (Some w) k at = not_yet m w (ltb w.place (horizon m)) k at refl

swept_sweep : (m : Machine) → KeepsSnapshots m → KeepsSnapshots (swept_state m)
unfolding swept_state sweep_reply
swept_sweep m k = next_is m (slice_get (flat m) m.swept) k refl

pub kept_sweep : (m : Machine) → IsKept m → IsKept (swept_state m)
unfolding swept_state
kept_sweep m k = record { numbered = k.numbered; own_keys = k.own_keys; swept = swept_sweep m k.swept }

-- ---- a fresh machine, and every history

nobody : (s : ℕ) (x : Open) → get_or no_session s None ≡ Some x → ⊥
nobody s x at = elim (cases_lt s 16) [
  | inl lt ↦ none-some x (sym (get_or-replicate 16 s None None lt) ∙ at)
  | inr le ↦ none-some x (sym (get_or_past no_session s None le) ∙ at)
]

pub kept_fresh : (tables short : ℕ) (opening : List Row) (before base : ℕ) → IsKept (fresh tables short opening before base)
unfolding fresh
kept_fresh tables short opening before base = record {
  numbered = record {
    open_ones = begun-none 16;
    from_one = λ i e at. absurd (none-some e at);
    given = λ i e at. absurd (none-some e at);
    once = λ i j e f at. absurd (none-some e at);
    not_open = λ i t e x at. absurd (none-some e at);
  };
  own_keys = own (fresh tables short opening before base) (sound_at_first tables short opening before base);
  swept = record {
    within = omega arith;
    snaps = λ t x at. absurd (nobody t x at);
    below = λ t x at. absurd (nobody t x at);
  };
}

pub kept_step : (m : Machine) (step : Step) → IsKept m → IsKept (step_state m step)
kept_step m (by session call) k = kept_call m session call k
kept_step m sweep k = kept_sweep m k

pub kept_steps : (m : Machine) (steps : List Step) → IsKept m → IsKept (machine_after m steps)
kept_steps m [] k = k
kept_steps m (step ∷ steps) k = kept_steps (step_state m step) steps (kept_step m step k)
