-- What goes of a row with a sweep, and what is left.
use Rattle.std.proofs.Common.{◌≡◌, ◌≢◌, ℕ, ◌+◌, ◌<◌, ◌≤◌, Bool, true, false, not, cond, inl, inr, List, [], ◌∷◌, ◌++◌, map, reverse, length, drop, get_or, Some, None, refl, sym, ap, subst, ◌∙◌, arith, ⊎_elim, length-append}
use Rattle.std.specs.Prelude.{All, Contains, slice_get}
use Rattle.std.proofs.lemmas.Bool.{true≢false}
use Rattle.std.proofs.lemmas.Option.{same_Some}
use Rattle.std.proofs.lemmas.List.{append_assoc, append-nil, length-map, length-reverse, map-append, reverse-append}
use Rattle.std.proofs.lemmas.List.Elements.{All-cons, All-drop, All-nil, All-same, Contains-append_right}
use Rattle.std.proofs.Math.Seq.{drop-append_seam}
use Rattle.px_chain.proofs.Walks.{contains_first}
use Rattle.px_cells.specs.declared.slot.Slot.{Slot}
use Rattle.px_chain.specs.Sound.{IsUsedRow, key_of}
use Rattle.px_chain_laws.specs.Kept.{IsKept}
use Rattle.px_chain_laws.specs.Sweeping.{IsSweptFrom, base_left, base_of}
use Rattle.px_chain_laws.proofs.Sweeping.{swept_from}
use Rattle.px_calls.specs.Sweeps.{swept_state}
use Rattle.px_history.specs.Store.{Store, versions_of}
use Rattle.px_model.specs.Chains.{chain, is_put, of_ended}
use Rattle.px_model.specs.Machine.{Machine, flat, horizon}
use Rattle.px_model.specs.Rows.{Key, key_written}
use Rattle.px_model.specs.declared.machine.Flat.{Flat}
use Rattle.px_model.specs.declared.machine.Variation.{Variation}
use Rattle.px_shown.specs.Shown.{Done, slot_in, write_in, write_of}
use Rattle.px_cells.specs.declared.slot.SlotState.{SlotState}
use Rattle.px_cells.specs.declared.slot.SlotState.TheVariants as state
use Rattle.px_shown.specs.Writes.{HasNoneDone}
use Rattle.px_shown.proofs.Rows.{row_found}
use Rattle.px_cell_laws.specs.Holding.{HoldsChains, variation_in}
use Rattle.px_cell_laws.specs.Sweeping.{IsSweptAt, sweep_count, sweep_count_of, sweep_from}
use Rattle.px_cell_laws.proofs.Chained.{chain_of_row, no_row_no_chain}
use Rattle.px_cell_laws.proofs.Cutting.{IsMappedTo, mapped_to}
use Rattle.px_cell_laws.proofs.Ended.{IsDoneOrOver, IsEnded, bases_ended, made_by, next_told, number_known, version_is_past}
use Rattle.px_cell_laws.proofs.Lists.{all_reversed, all_unmapped}
use Rattle.px_shown.specs.Parts.{Parts}

reversed_at : {X : Type 0} (before : List X) (x : X) (behind : List X) → reverse (before ++ x ∷ behind) ≡ reverse behind ++ x ∷ reverse before
reversed_at before x behind =
    reverse-append before (x ∷ behind)
    ∙ ap (λ l. l ++ reverse before) (reverse-append (x ∷ []) behind)
    ∙ append_assoc (reverse behind) (x ∷ []) (reverse before)

-- ---- the version

-- the parts of its row: what is newer, the version that the write made, and the base
abbrev Found : Parts → Machine → Store → Flat → (t row : ℕ) → List Variation → Type 0
Found parts m store w t row newer =
    IsMappedTo (variation_in parts m.base t) (versions_of store t row) (reverse newer) (of_ended m.base w) (reverse (base_of m (key_written w.write)))

of_row : (parts : Parts) (m : Machine) (store : Store) (w : Flat) (t row : ℕ) → HoldsChains parts m store → IsUsedRow (store.tables t) row
    → (t, key_of (store.tables t) row) ≡ key_written w.write → (s : IsSweptFrom m w) → Found parts m store w t row s.newer
of_row parts m store w t row h used its_key s =
    mapped_to (variation_in parts m.base t) (versions_of store t row) (reverse s.newer) (of_ended m.base w) (reverse (base_of m (key_written w.write)))
    (sym (chain_of_row parts m store t row h used)
    ∙ ap (λ (key : Key). reverse (chain m key)) its_key
    ∙ ap (λ (l : List Variation). reverse l) s.was
    ∙ reversed_at (base_of m (key_written w.write)) (of_ended m.base w) s.newer)

behind_it : (parts : Parts) (m : Machine) (store : Store) (w : Flat) (t row : ℕ) (newer : List Variation) → (f : Found parts m store w t row newer)
    → length (versions_of store t row) ≡ length f.first + 1 + length (base_of m (key_written w.write))
behind_it parts m store w t row newer f =
    let base = base_of m (key_written w.write) in
    let last : length f.last ≡ length base = sym (length-map f.last (variation_in parts m.base t)) ∙ ap (λ (l : List Variation). length l) f.its_last ∙ length-reverse base in
    let all : length (versions_of store t row) ≡ length f.first + length (f.one ∷ f.last) = ap (λ (l : List Slot). length l) f.split ∙ length-append f.first (f.one ∷ f.last) in
    omega (arith, last, all)

pub version_there : (parts : Parts) (m : Machine) (store : Store) (w : Flat) → HoldsChains parts m store → slice_get (flat m) m.swept ≡ Some w → w.place < horizon m
    → (row place : ℕ) × IsSweptAt m store w (key_written w.write).0 row place
version_there parts m store w h at due =
    let key = key_written w.write in
    let s = swept_from m w at due in
    ⊎_elim
    (λ (found : (row : ℕ) × IsUsedRow (store.tables key.0) row × (key_of (store.tables key.0) row ≡ key.1)).
    let its_key : (key.0, key_of (store.tables key.0) found.0) ≡ key = ap (λ (bytes : List ℕ). (key.0, bytes)) found.2 in
    let f = of_row parts m store w key.0 found.0 h found.1 its_key s in
    (found.0, length f.first, record { next = at; due = due; used = found.1; its_key = its_key; behind = behind_it parts m store w key.0 found.0 s.newer f }))
    (λ (none : (row : ℕ) → IsUsedRow (store.tables key.0) row → key_of (store.tables key.0) row ≢ key.1).
    let empty : base_of m key ++ of_ended m.base w ∷ s.newer ≡ [] = sym s.was ∙ no_row_no_chain parts m store key h none in
    absurd (not_empty (base_of m key) (of_ended m.base w) s.newer empty))
    (row_found (store.tables key.0) key.1)
  where
    not_empty : (before : List Variation) (v : Variation) (behind : List Variation) → before ++ v ∷ behind ≡ [] → ⊥
    not_empty [] v behind e = cc
    not_empty (u ∷ before) v behind e = cc

-- ---- what goes

-- What is left shows what the whole showed: none that goes is done, or one that is done stands in front of them, or the first of
-- them is a deletion that is done, and nothing stands behind them.
pub data Covers (done : Done) (before gone behind : List Slot) : Type 0 where
  not_done : HasNoneDone done gone → Covers done before gone behind
  older : (slot : Slot) → Contains before slot → done slot.xn ≡ true → Covers done before gone behind
  deleted : (slot : Slot) (older : List Slot) → gone ≡ slot ∷ older → slot_in slot.state slot ≡ None → done slot.xn ≡ true → behind ≡ []
      → Covers done before gone behind

shows_none : (parts : Parts) (t : ℕ) (slot : Slot) → is_put (write_of parts t slot) ≡ false → slot_in slot.state slot ≡ None
shows_none parts t slot kind = in_state slot.state kind
  where
    in_state : (s : SlotState) → is_put (write_in parts s t slot) ≡ false → slot_in s slot ≡ None
    in_state state.Row wrong = absurd (true≢false wrong)
    in_state state.Deletion right = refl
    in_state state.Free right = refl

-- so many of the row's versions go, from a place on; what is left is the machine's chain after the sweep
pub record IsCut (parts : Parts) (m : Machine) (store : Store) (w : Flat) (t row from count : ℕ) : Type 0 where
  pub before : List Slot
  pub gone : List Slot
  pub behind : List Slot
  pub split : versions_of store t row ≡ before ++ (gone ++ behind)
  pub first : from ≡ length before
  pub many : count ≡ length gone
  pub left : map (variation_in parts m.base t) (before ++ behind) ≡ reverse (chain (swept_state m) (key_written w.write))
  pub ended : All (λ slot. IsDoneOrOver store slot.xn) gone
  pub covers : Covers store.done before gone behind

-- the base's versions won't commit any more
past_base : (parts : Parts) (m : Machine) (store : Store) (key : Key) (t row : ℕ) (before last : List Slot) → HoldsChains parts m store → IsKept m
    → versions_of store t row ≡ before ++ last → map (variation_in parts m.base t) last ≡ reverse (base_of m key)
    → All (λ slot. IsDoneOrOver store slot.xn) last
past_base parts m store key t row before last h k split its =
    let IsFound : Slot → Type 0 = λ slot. slot.xn ≤ m.base → store.done slot.xn ≡ true in
    let of_base = all_unmapped (IsEnded m) (variation_in parts m.base t) last
    (All-same (IsEnded m) (map (variation_in parts m.base t) last) (reverse (base_of m key)) its (all_reversed (IsEnded m) (base_of m key) (bases_ended m key k))) in
    let found : All IsFound last =
    All-same IsFound last (drop (length before) (before ++ last)) (sym (drop-append_seam before last))
    (All-drop IsFound (length before) (before ++ last) (All-same IsFound (before ++ last) (versions_of store t row) (sym split) (h.found t row))) in
    λ i d lt. version_is_past parts m store t (get_or last i d) h (found i d lt) (of_base i d lt)

-- the machine's chain after the sweep, the newest first
chain_left : (m : Machine) (w : Flat) (s : IsSweptFrom m w) (committed put : Bool) → w.committed ≡ committed → is_put w.write ≡ put
    → reverse (chain (swept_state m) (key_written w.write))
    ≡ reverse s.newer ++ reverse (cond committed (cond put (of_ended m.base w ∷ []) []) (base_of m (key_written w.write)))
chain_left m w s committed put its_end its_kind =
    let base = base_of m (key_written w.write) in
    let left : base_left m w base ≡ cond committed (cond put (of_ended m.base w ∷ []) []) base =
    ap (λ (b : Bool). cond b (cond (is_put w.write) (of_ended m.base w ∷ []) []) base) its_end
    ∙ ap (λ (b : Bool). cond committed (cond b (of_ended m.base w ∷ []) []) base) its_kind in
    ap (λ (l : List Variation). reverse l) s.now
    ∙ reverse-append (base_of (swept_state m) (key_written w.write)) s.newer
    ∙ ap (λ (l : List Variation). reverse s.newer ++ reverse l) (s.base ∙ left)

-- the newer versions, and others behind them
newer_then : (parts : Parts) (m : Machine) (store : Store) (w : Flat) (t row : ℕ) (newer : List Variation) (f : Found parts m store w t row newer) (slots : List Slot) (their : List Variation)
    → map (variation_in parts m.base t) slots ≡ their → map (variation_in parts m.base t) (f.first ++ slots) ≡ reverse newer ++ their
newer_then parts m store w t row newer f slots their are =
    map-append (variation_in parts m.base t) f.first slots
    ∙ ap (λ (l : List Variation). l ++ map (variation_in parts m.base t) slots) f.its_first
    ∙ ap (λ (l : List Variation). reverse newer ++ l) are

how_many : (parts : Parts) (m : Machine) (store : Store) (w : Flat) (t row : ℕ) (newer : List Variation) (f : Found parts m store w t row newer)
    → length (versions_of store t row) ≡ length f.first + 1 + length f.last
how_many parts m store w t row newer f =
    let all : length (versions_of store t row) ≡ length f.first + length (f.one ∷ f.last) = ap (λ (l : List Slot). length l) f.split ∙ length-append f.first (f.one ∷ f.last) in
    omega (arith, all)

cut_at : (parts : Parts) (m : Machine) (store : Store) (w : Flat) (t row : ℕ) → HoldsChains parts m store → IsKept m → slice_get (flat m) m.swept ≡ Some w
    → (s : IsSweptFrom m w) → (f : Found parts m store w t row s.newer) → (committed put : Bool) → w.committed ≡ committed → is_put w.write ≡ put
    → IsCut parts m store w t row (sweep_from committed put (length f.first)) (sweep_count committed put (length f.first) (length (versions_of store t row)))
cut_at parts m store w t row h k at s f true true its_end its_kind =
    let its = made_by parts m store w t f.one h (next_told m w k at) f.its_one in
    let split = f.split ∙ sym (append_assoc f.first (f.one ∷ []) f.last) in
    record {
      before = f.first ++ f.one ∷ [];
      gone = f.last;
      behind = [];
      split = split ∙ ap (λ (l : List Slot). (f.first ++ f.one ∷ []) ++ l) (sym (append-nil f.last));
      first = sym (length-append f.first (f.one ∷ []));
      many = omega (arith, how_many parts m store w t row s.newer f);
      left = ap (map (variation_in parts m.base t)) (append-nil (f.first ++ f.one ∷ []))
          ∙ newer_then parts m store w t row s.newer f (f.one ∷ []) (of_ended m.base w ∷ []) (ap (λ (v : Variation). v ∷ []) f.its_one)
          ∙ sym (chain_left m w s true true its_end its_kind);
      ended = past_base parts m store (key_written w.write) t row (f.first ++ f.one ∷ []) f.last h k split f.its_last;
      covers = older f.one (Contains-append_right f.first (f.one ∷ []) f.one (contains_first f.one [])) (its.done ∙ its_end);
    }
cut_at parts m store w t row h k at s f true false its_end its_kind =
    let its = made_by parts m store w t f.one h (next_told m w k at) f.its_one in
    let split = f.split ∙ sym (append_assoc f.first (f.one ∷ []) f.last) in
    record {
      before = f.first;
      gone = f.one ∷ f.last;
      behind = [];
      split = f.split ∙ ap (λ (l : List Slot). f.first ++ l) (sym (append-nil (f.one ∷ f.last)));
      first = refl;
      many = omega (arith, how_many parts m store w t row s.newer f);
      left = newer_then parts m store w t row s.newer f [] [] refl ∙ sym (chain_left m w s true false its_end its_kind);
      ended = All-cons (λ (slot : Slot). IsDoneOrOver store slot.xn) f.one f.last (inl (its.done ∙ its_end))
          (past_base parts m store (key_written w.write) t row (f.first ++ f.one ∷ []) f.last h k split f.its_last);
      covers = deleted f.one f.last refl (shows_none parts t f.one (ap (λ (v : Variation). is_put v.write) f.its_one ∙ its_kind)) (its.done ∙ its_end) refl;
    }
cut_at parts m store w t row h k at s f false put its_end its_kind =
    let its = made_by parts m store w t f.one h (next_told m w k at) f.its_one in
    record {
      before = f.first;
      gone = f.one ∷ [];
      behind = f.last;
      split = f.split;
      first = refl;
      many = refl;
      left = newer_then parts m store w t row s.newer f f.last (reverse (base_of m (key_written w.write))) f.its_last ∙ sym (chain_left m w s false put its_end its_kind);
      ended = All-cons (λ (slot : Slot). IsDoneOrOver store slot.xn) f.one [] (inr (its.over ∙ ap not its_end)) (All-nil (λ (slot : Slot). IsDoneOrOver store slot.xn));
      covers = not_done (All-cons (λ (slot : Slot). store.done slot.xn ≡ false) f.one [] (its.done ∙ its_end) (All-nil (λ (slot : Slot). store.done slot.xn ≡ false)));
    }

place_is : (parts : Parts) (m : Machine) (store : Store) (w : Flat) (t row place : ℕ) (newer : List Variation) → IsSweptAt m store w t row place → (f : Found parts m store w t row newer)
    → length f.first ≡ place
place_is parts m store w t row place newer at f = omega (arith, at.behind, behind_it parts m store w t row newer f)

pub cut : (parts : Parts) (m : Machine) (store : Store) (w : Flat) (t row place : ℕ) → HoldsChains parts m store → IsKept m → IsSweptAt m store w t row place
    → IsCut parts m store w t row (sweep_from w.committed (is_put w.write) place) (sweep_count_of store w t row place)
cut parts m store w t row place h k at =
    let s = swept_from m w at.next at.due in
    let f = of_row parts m store w t row h at.used at.its_key s in
    subst (λ (p : ℕ). IsCut parts m store w t row (sweep_from w.committed (is_put w.write) p) (sweep_count_of store w t row p)) (place_is parts m store w t row place s.newer at f)
    (cut_at parts m store w t row h k at.next s f w.committed (is_put w.write) refl refl)

-- ---- the version at the place

pub version_at : (parts : Parts) (m : Machine) (store : Store) (w : Flat) (t row place : ℕ) (slot : Slot) → HoldsChains parts m store → IsSweptAt m store w t row place
    → slice_get (versions_of store t row) place ≡ Some slot → (slot.xn ≡ m.base + w.number) × (write_of parts t slot ≡ w.write)
version_at parts m store w t row place slot h at there =
    let s = swept_from m w at.next at.due in
    let f = of_row parts m store w t row h at.used at.its_key s in
    let one : slice_get (versions_of store t row) place ≡ Some f.one =
    ap (λ (l : List Slot). slice_get l place) f.split
    ∙ ap (slice_get (f.first ++ f.one ∷ f.last)) (sym (place_is parts m store w t row place s.newer at f))
    ∙ there_behind f.first f.one f.last in
    let its = ap (variation_in parts m.base t) (same_Some slot f.one (sym there ∙ one)) ∙ f.its_one in
    ((number_known m.base slot.xn (m.base + w.number) (ap (λ (v : Variation). v.xn) its)).0, ap (λ (v : Variation). v.write) its)
  where
    there_behind : (before : List Slot) (slot : Slot) (behind : List Slot) → slice_get (before ++ slot ∷ behind) (length before) ≡ Some slot
    there_behind [] slot behind = refl
    there_behind (newer ∷ before) slot behind = there_behind before slot behind
