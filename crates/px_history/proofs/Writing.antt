-- Transactions that may still commit, and rows that have one writer at a time.
use Rattle.std.proofs.Common.{◌≡◌, ◌≢◌, ℕ, ◌≤◌, zero, suc, ◌==◌, ◌||◌, ◌&&◌, not, Bool, List, [], ◌∷◌, ◌++◌, drop, map, take, refl, sym, ap, subst, ◌∙◌, inl, inr, ⊎_elim}
use Rattle.std.specs.Prelude.{All, ◌⊎◌}
use Rattle.std.proofs.lemmas.Bool.{and_right, cases_eq, ne_eqb, or_from, or_parts, eqb-false}
use Rattle.std.proofs.lemmas.List.Elements.{All-append, All-cons, All-drop, All-head, All-map, All-nil, All-tail, All-take}
use Rattle.px_cells.specs.declared.header.Header.{Header}
use Rattle.px_cells.specs.declared.slot.Slot.{Slot}
use Rattle.px_chain.specs.Sound.{IsUsedRow, key_of}
use Rattle.px_model.specs.declared.row.Row.{Row}
use Rattle.px_shown.specs.Changes.{left_of}
use Rattle.px_shown.specs.Tables.{AreSound}
use Rattle.px_shown.specs.Writes.{HasNoneOf}
use Rattle.px_shown.proofs.Changes.{link_changes, unlink_changes}
use Rattle.px_shown.proofs.Keys.{seen}
use Rattle.px_shown.proofs.Moving.{in_front_after, none_after}
use Rattle.px_shown.proofs.Rows.{chains_of, used_or_not}
use Rattle.px_shown.proofs.Told.{Chains, IsChanged, here_or_away}
use Rattle.px_shown.proofs.Unlinking.{unlink_in_front}
use Rattle.px_shown.proofs.Writing.{commit_in_front, link_in_front, nothing_in_front}
use Rattle.px_told.specs.declared.change.Change.{Change}
use Rattle.px_history.specs.Base.{IsBase}
use Rattle.px_history.specs.Store.{IsOpen, Store, versions_from, versions_of}
use Rattle.px_history.specs.Steps.{AreSteps, History, IsStep, LeavesOpen, MayPut, MayUnlink, Step, after_commit, after_move, after_put, after_rollback, after_step, after_steps, after_unlink, has_one_of, layout_linked}
use Rattle.px_history.specs.Told.{Agrees, told}
use Rattle.px_history.specs.Writers.{AreAlone, HaveOneWriter, IsAlone}
use Rattle.px_history.proofs.Agreeing.{IsNotOf, base_agrees, link_of, none_among, none_later, none_of, open_before, open_later, step_agrees}
use Rattle.px_shown.specs.Parts.{Parts}

-- ---- a step of another one

pub stays_open : (store : Store) (step : Step) (xn : ℕ) → IsOpen store xn → LeavesOpen xn store step → IsOpen (after_step store step) xn
stays_open store (Step.put t header slot) xn its other = record { undone = its.undone; not_over = its.not_over }
stays_open store (Step.commit by number) xn its other = record { undone = or_from (xn == by) (store.done xn) (ne_eqb xn by (λ e. other (sym e))) its.undone; not_over = its.not_over }
stays_open store (Step.rollback by) xn its other = record { undone = its.undone; not_over = or_from (xn == by) (store.over xn) (ne_eqb xn by (λ e. other (sym e))) its.not_over }
stays_open store (Step.unlink t row from count) xn its none =
    let gone = versions_from store t row from count in
    record {
      undone = its.undone;
      not_over = or_from (store.over xn) (not (store.done xn) && has_one_of xn gone) its.not_over (and_right (not (store.done xn)) (has_one_of xn gone) (none_among xn gone none));
    }
stays_open store (Step.move t number log place) xn its other = record { undone = its.undone; not_over = its.not_over }

-- ---- versions that differ only in their links

one_of_seen : (xn : ℕ) (slots : List Slot) → has_one_of xn (map seen slots) ≡ has_one_of xn slots
one_of_seen xn [] = refl
one_of_seen xn (slot ∷ slots) = ap (λ (b : Bool). (slot.xn == xn) || b) (one_of_seen xn slots)

none_alike : (xn : ℕ) (a b : List Slot) → map seen a ≡ map seen b → HasNoneOf xn b → HasNoneOf xn a
none_alike xn a b alike none = none_of xn a (sym (one_of_seen xn a) ∙ ap (has_one_of xn) alike ∙ one_of_seen xn b ∙ none_among xn b none)

-- one of the two has none there
abbrev IsApart : (a b : ℕ) → List Slot → Type 0
IsApart a b slots = HasNoneOf a slots ⊎ HasNoneOf b slots

apart_alike : (a b : ℕ) (slots others : List Slot) → map seen slots ≡ map seen others → IsApart a b others → IsApart a b slots
apart_alike a b slots others alike apart = ⊎_elim
    (λ (none : HasNoneOf a others). inl (none_alike a slots others alike none))
    (λ (none : HasNoneOf b others). inr (none_alike b slots others alike none))
    apart

apart_changed : (old new : Chains) (t row : ℕ) (key : List ℕ) (slots : List Slot) (a b : ℕ) → IsChanged old new t row key slots
    → ((n q : ℕ) → IsApart a b (old n q)) → IsApart a b slots → (n q : ℕ) → IsApart a b (new n q)
apart_changed old new t row key slots a b c was here n q = ⊎_elim
    (λ (same : (n ≡ t) × (q ≡ row)). subst (λ (m : ℕ). IsApart a b (new m q)) (sym same.0) (subst (λ (p : ℕ). IsApart a b (new t p)) (sym same.1) (apart_alike a b (new t row) slots c.here here)))
    (λ (away : n ≡ t → q ≡ row → ⊥). apart_alike a b (new n q) (old n q) (c.away n q away) (was n q))
    (here_or_away n q t row)

-- ---- a link

one_more : (xn : ℕ) (slot : Slot) (slots : List Slot) → slot.xn ≢ xn → HasNoneOf xn slots → HasNoneOf xn (slot ∷ slots)
one_more xn slot slots other none = All-cons (IsNotOf xn) slot slots (ne_eqb slot.xn xn other) none

put_apart : (a b : ℕ) (slot : Slot) (slots : List Slot) → a ≢ b → (a ≢ slot.xn → HasNoneOf a slots) → (b ≢ slot.xn → HasNoneOf b slots) → IsApart a b (slot ∷ slots)
put_apart a b slot slots differ none_of_a none_of_b = ⊎_elim
    (λ (its : a ≡ slot.xn). let other : b ≢ slot.xn = λ e. differ (its ∙ sym e) in inr (one_more b slot slots (λ e. other (sym e)) (none_of_b other)))
    (λ (other : a ≢ slot.xn). inl (one_more a slot slots (λ e. other (sym e)) (none_of_a other)))
    (cases_eq a slot.xn)

put_writer : (short : ℕ) (store : Store) (t : ℕ) (header : Header) (slot : Slot) → AreSound short store.tables store.layouts → HaveOneWriter store → MayPut short store t header slot
    → IsAlone store (Step.put t header slot) → HaveOneWriter (after_put store t header slot)
put_writer short store t header slot sound one may alone =
    let layout = layout_linked (store.tables t) (store.layouts t) slot in
    let next = after_put store t header slot in
    let link = link_of short (store.tables t) (store.layouts t) header slot (sound t) may.link in
    let was : (xn : ℕ) → IsOpen next xn → IsOpen store xn = open_before store (Step.put t header slot) in
    record {
      apart = λ a b open_a open_b differ. apart_changed (chains_of store.tables store.layouts) (chains_of next.tables next.layouts) t slot.row slot.key
          (slot ∷ versions_of store t slot.row) a b (link_changes short store.tables store.layouts t header slot layout sound may.stored link)
          (one.apart a b (was a open_a) (was b open_b) differ)
          (put_apart a b slot (versions_of store t slot.row) differ (alone a (was a open_a)) (alone b (was b open_b)));
      in_front = λ xn its. link_in_front short store.tables store.layouts store.done xn t header slot layout sound may.stored link may.writer.undone (one.in_front xn (was xn its));
    }

-- ---- an end

commit_writer : (store : Store) (by : ℕ) → IsOpen store by → HaveOneWriter store → HaveOneWriter (after_commit store by)
commit_writer store by writer one =
    let next = after_commit store by in
    let was : (xn : ℕ) → IsOpen next xn → IsOpen store xn = open_before store (Step.commit by 0) in
    record {
      apart = λ a b open_a open_b differ. one.apart a b (was a open_a) (was b open_b) differ;
      in_front = λ xn its.
          let other : by ≢ xn = λ same. eqb-false xn by (or_parts (xn == by) (store.done xn) its.undone).0 (sym same) in
          commit_in_front store.tables store.layouts store.done by xn (λ t row used. one.apart by xn writer (was xn its) other t row) (one.in_front xn (was xn its));
    }

rollback_writer : (store : Store) (by : ℕ) → HaveOneWriter store → HaveOneWriter (after_rollback store by)
rollback_writer store by one =
    let next = after_rollback store by in
    let was : (xn : ℕ) → IsOpen next xn → IsOpen store xn = open_before store (Step.rollback by) in
    record {
      apart = λ a b open_a open_b differ. one.apart a b (was a open_a) (was b open_b) differ;
      in_front = λ xn its. one.in_front xn (was xn its);
    }

-- ---- an unlink

unmapped : (xn : ℕ) (slot : ℕ → Slot) (chain : List ℕ) → HasNoneOf xn (map slot chain) → All (λ (n : ℕ). IsNotOf xn (slot n)) chain
unmapped xn slot [] none = All-nil (λ (n : ℕ). IsNotOf xn (slot n))
unmapped xn slot (n ∷ chain) none =
    All-cons (λ (m : ℕ). IsNotOf xn (slot m)) n chain (All-head (IsNotOf xn) (slot n) (map slot chain) none) (unmapped xn slot chain (All-tail (IsNotOf xn) (slot n) (map slot chain) none))

none_left : (xn : ℕ) (slot : ℕ → Slot) (chain : List ℕ) (from count : ℕ) → HasNoneOf xn (map slot chain) → HasNoneOf xn (map slot (left_of chain from count))
none_left xn slot chain from count none =
    let P : ℕ → Type 0 = λ n. IsNotOf xn (slot n) in
    let all = unmapped xn slot chain none in
    All-map (IsNotOf xn) slot (left_of chain from count)
    (All-append P (take from chain) (drop count (drop from chain)) (All-take P from chain all) (All-drop P count (drop from chain) (All-drop P from chain all)))

unlink_writer : (short : ℕ) (store : Store) (t row from count : ℕ) → AreSound short store.tables store.layouts → HaveOneWriter store → MayUnlink store t row from count
    → HaveOneWriter (after_unlink store t row from count)
unlink_writer short store t row from count sound one may =
    let next = after_unlink store t row from count in
    let slot = (store.tables t).slot in
    let chain = (store.layouts t).chain row in
    let was : (xn : ℕ) → IsOpen next xn → IsOpen store xn = open_before store (Step.unlink t row from count) in
    record {
      apart = λ a b open_a open_b differ.
          let old = one.apart a b (was a open_a) (was b open_b) differ in
          apart_changed (chains_of store.tables store.layouts) (chains_of next.tables next.layouts) t row (key_of (store.tables t) row)
          (map slot (left_of chain from count)) a b (unlink_changes short store.tables store.layouts t row from count sound may.used may.some may.within) old
          (⊎_elim
          (λ (none : HasNoneOf a (map slot chain)). inl (none_left a slot chain from count none))
          (λ (none : HasNoneOf b (map slot chain)). inr (none_left b slot chain from count none))
          (old t row));
      in_front = λ xn its. unlink_in_front short store.tables store.layouts store.done xn t row from count sound may.used may.some may.within (one.in_front xn (was xn its));
    }

-- ---- a move

move_writer : (store : Store) (t number log place : ℕ) → HaveOneWriter store → HaveOneWriter (after_move store t number log place)
move_writer store t number log place one =
    let next = after_move store t number log place in
    let was : (xn : ℕ) → IsOpen next xn → IsOpen store xn = open_before store (Step.move t number log place) in
    record {
      apart = λ a b open_a open_b differ n row. ⊎_elim
          (λ (none : HasNoneOf a (versions_of store n row)). inl (none_after store.tables store.layouts a t number log place n row none))
          (λ (none : HasNoneOf b (versions_of store n row)). inr (none_after store.tables store.layouts b t number log place n row none))
          (one.apart a b (was a open_a) (was b open_b) differ n row);
      in_front = λ xn its. in_front_after store.tables store.layouts store.done xn t number log place (one.in_front xn (was xn its));
    }

-- ---- steps

none_in_row : (parts : Parts) (short next : ℕ) (rows : List Row) (base : Store) (xn t row : ℕ) → IsBase parts short next rows base → next ≤ xn → HasNoneOf xn (versions_of base t row)
none_in_row parts short next rows base xn t row b later = ⊎_elim
    (λ (used : IsUsedRow (base.tables t) row). none_later parts short next rows base xn t row b later used)
    (λ (unused : IsUsedRow (base.tables t) row → ⊥).
    subst (λ (chain : List ℕ). HasNoneOf xn (map (base.tables t).slot chain)) (sym ((b.sound t).no_chain row unused)) (All-nil (IsNotOf xn)))
    (used_or_not (base.tables t) row)

pub base_writer : (parts : Parts) (short next : ℕ) (rows : List Row) (base : Store) → IsBase parts short next rows base → HaveOneWriter base
base_writer parts short next rows base b = record {
  apart = λ a other open_a open_b differ t row. inl (none_in_row parts short next rows base a t row b (open_later parts short next rows base a b open_a));
  in_front = λ xn its. nothing_in_front base.done xn base.tables base.layouts (λ t row used. none_later parts short next rows base xn t row b (open_later parts short next rows base xn b its) used);
}

pub step_writer : (parts : Parts) (short : ℕ) (store : Store) (step : Step) → AreSound short store.tables store.layouts → HaveOneWriter store → IsStep parts short store step → IsAlone store step
    → HaveOneWriter (after_step store step)
step_writer parts short store (Step.put t header slot) sound one may alone = put_writer short store t header slot sound one may alone
step_writer parts short store (Step.commit xn number) sound one may alone = commit_writer store xn may.writer one
step_writer parts short store (Step.rollback xn) sound one may alone = rollback_writer store xn one
step_writer parts short store (Step.unlink t row from count) sound one may alone = unlink_writer short store t row from count sound one may
step_writer parts short store (Step.move t number log place) sound one may alone = move_writer store t number log place one

pub may_commit : (parts : Parts) (short : ℕ) (store : Store) (xn number : ℕ) → HaveOneWriter store → IsOpen store xn → IsStep parts short store (Step.commit xn number)
may_commit parts short store xn number one its = record { writer = its; in_front = one.in_front xn its }

-- ---- histories

steps_writer : (parts : Parts) (short next : ℕ) (rows : List Row) (base : Store) (changes : List Change) (store : Store) (steps : List Step) → Agrees parts short next rows base changes store
    → HaveOneWriter store → AreSteps parts short store steps → AreAlone store steps → HaveOneWriter (after_steps store steps)
steps_writer parts short next rows base changes store [] a one follow alone = one
steps_writer parts short next rows base changes store (step ∷ steps) a one follow alone =
    steps_writer parts short next rows base (changes ++ told parts step) (after_step store step) steps (step_agrees parts short next rows base changes store step a follow.0)
    (step_writer parts short store step a.sound one follow.0 alone.0) follow.1 alone.1

pub history_writer : (parts : Parts) (short next : ℕ) (rows : List Row) (base store : Store) (steps : List Step) → IsBase parts short next rows base → History parts short base steps store
    → AreAlone base steps → HaveOneWriter store
history_writer parts short next rows base store steps b h alone =
    subst HaveOneWriter (sym h.lead) (steps_writer parts short next rows base [] base steps (base_agrees parts short next rows base b) (base_writer parts short next rows base b) h.follow alone)

pub front_alone : (store : Store) (steps : List Step) (count : ℕ) → AreAlone store steps → AreAlone store (take count steps)
front_alone store steps zero alone = tt
front_alone store [] (suc count) alone = tt
front_alone store (step ∷ steps) (suc count) alone = (alone.0, front_alone (after_step store step) steps count alone.1)

alone_more : (store : Store) (steps : List Step) (step : Step) → AreAlone store steps → IsAlone (after_steps store steps) step → AreAlone store (steps ++ step ∷ [])
alone_more store [] step alone one = (one, tt)
alone_more store (first ∷ steps) step alone one = (alone.0, alone_more (after_step store first) steps step alone.1 one)

pub history_alone : (parts : Parts) (short : ℕ) (base store : Store) (steps : List Step) (step : Step) → History parts short base steps store → AreAlone base steps → IsAlone store step
    → AreAlone base (steps ++ step ∷ [])
history_alone parts short base store steps step h alone one = alone_more base steps step alone (subst (λ (s : Store). IsAlone s step) h.lead one)
