-- Which numbers are named, and that this goes on with each step.
use Rattle.std.proofs.Common.{◌≡◌, ℕ, zero, suc, ◌+◌, ◌<◌, ◌≤◌, All, List, [], ◌∷◌, ◌++◌, drop, length, map, take, refl, sym, subst, arith, ⊎_elim}
use Rattle.std.proofs.lemmas.List.Elements.{All-append, All-cons, All-drop, All-head, All-nil, All-same, All-tail, All-take, All-weaker}
use Rattle.px_beginning.proofs.Steps.{IsCounted, last_grown}
use Rattle.px_beginning.specs.Numbers.{IsUnnamed}
use Rattle.px_cell_laws.proofs.Cutting.{left_mapped}
use Rattle.px_cells.specs.declared.header.Header.{Header}
use Rattle.px_cells.specs.declared.slot.Slot.{Slot}
use Rattle.px_change.specs.declared.change.Change.{Change}
use Rattle.px_chain.specs.Sound.{IsUsedRow, key_of}
use Rattle.px_history.proofs.Agreeing.{link_of}
use Rattle.px_history.specs.Steps.{IsStep, MayPut, MayUnlink, Step, after_put, after_step, after_unlink, layout_linked}
use Rattle.px_history.specs.Store.{Store, versions_from}
use Rattle.px_history.specs.Written.{change_of, first_writer, writer_of}
use Rattle.px_life.specs.Found.{AreBelow}
use Rattle.px_life.specs.Life.{Life, grown}
use Rattle.px_model.specs.Machine.{Machine}
use Rattle.px_restart.specs.declared.restart.Restart.{Restart}
use Rattle.px_shown.proofs.Changes.{link_changes, link_stays_sound, unlink_changes, unlink_stays_sound}
use Rattle.px_shown.proofs.Keys.{seen}
use Rattle.px_shown.proofs.Rows.{chains_of, used_or_not}
use Rattle.px_shown.proofs.Told.{Chains, IsChanged, here_or_away}
use Rattle.px_shown.specs.Changes.{left_of}
use Rattle.px_shown.specs.Parts.{Parts}
use Rattle.px_shown.specs.Tables.{AreSound, Layouts, Tables, slots_of_row}
use Rattle.px_working.specs.Follows.{last_store, swept_change, with_step, with_sweep}
use Rattle.px_cell_standing.specs.Found.{NamesNumbers}
use Rattle.px_cell_standing.specs.Naming.{IsOneVersion}

-- ---- the numbers of versions

abbrev pub IsBelow : ℕ → Slot → Type 0
IsBelow n slot = slot.xn < n

to_seen : (n : ℕ) (slots : List Slot) → All (IsBelow n) slots → All (IsBelow n) (map seen slots)
to_seen n [] below = All-nil (IsBelow n)
to_seen n (slot ∷ slots) below =
    All-cons (IsBelow n) (seen slot) (map seen slots) (All-head (IsBelow n) slot slots below) (to_seen n slots (All-tail (IsBelow n) slot slots below))

from_seen : (n : ℕ) (slots : List Slot) → All (IsBelow n) (map seen slots) → All (IsBelow n) slots
from_seen n [] below = All-nil (IsBelow n)
from_seen n (slot ∷ slots) below =
    All-cons (IsBelow n) slot slots (All-head (IsBelow n) (seen slot) (map seen slots) below) (from_seen n slots (All-tail (IsBelow n) (seen slot) (map seen slots) below))

-- links say nothing of them
same_below : (n : ℕ) (a b : List Slot) → map seen b ≡ map seen a → All (IsBelow n) a → All (IsBelow n) b
same_below n a b same below = from_seen n b (subst (All (IsBelow n)) (sym same) (to_seen n a below))

abbrev AllBelow : (n : ℕ) → Chains → Type 0
AllBelow n chains = (t row : ℕ) → All (IsBelow n) (chains t row)

-- no row has versions but a used one
in_chains : (n short : ℕ) (tables : Tables) (layouts : Layouts) → AreSound short tables layouts → AreBelow n tables layouts → AllBelow n (chains_of tables layouts)
in_chains n short tables layouts sound below t row = ⊎_elim
    (λ (used : IsUsedRow (tables t) row). below t row used)
    (λ (not : IsUsedRow (tables t) row → ⊥).
    subst (λ (chain : List ℕ). All (IsBelow n) (map (tables t).slot chain)) (sym ((sound t).no_chain row not)) (All-nil (IsBelow n)))
    (used_or_not (tables t) row)

-- where one chain has other slots
module _ (n : ℕ) (old new : Chains) (t row : ℕ) (key : List ℕ) (slots : List Slot) (is : IsChanged old new t row key slots) where
  pub later_below : AllBelow n old → All (IsBelow n) slots → AllBelow n new
  later_below below its u q = ⊎_elim
      (λ (here : (u ≡ t) × (q ≡ row)).
      subst (λ (v : ℕ). All (IsBelow n) (new v q)) (sym here.0) (subst (λ (r : ℕ). All (IsBelow n) (new t r)) (sym here.1) (same_below n slots (new t row) is.here its)))
      (λ (away : u ≡ t → q ≡ row → ⊥). same_below n (old u q) (new u q) (is.away u q away) (below u q))
      (here_or_away u q t row)

  pub earlier_below : AllBelow n new → (All (IsBelow n) slots → All (IsBelow n) (old t row)) → AllBelow n old
  earlier_below below whole u q = ⊎_elim
      (λ (here : (u ≡ t) × (q ≡ row)).
      subst (λ (v : ℕ). All (IsBelow n) (old v q)) (sym here.0)
      (subst (λ (r : ℕ). All (IsBelow n) (old t r)) (sym here.1) (whole (same_below n (new t row) slots (sym is.here) (below t row)))))
      (λ (away : u ≡ t → q ≡ row → ⊥). same_below n (new u q) (old u q) (sym (is.away u q away)) (below u q))
      (here_or_away u q t row)

-- ---- versions go

left_below : (n : ℕ) (f : ℕ → Slot) (chain : List ℕ) (from count : ℕ) → All (IsBelow n) (map f chain) → All (IsBelow n) (map f (left_of chain from count))
left_below n f chain from count below =
    let slots = map f chain in
    All-same (IsBelow n) (map f (left_of chain from count)) (left_of slots from count) (left_mapped f chain from count)
    (All-append (IsBelow n) (take from slots) (drop count (drop from slots)) (All-take (IsBelow n) from slots below)
    (All-drop (IsBelow n) count (drop from slots) (All-drop (IsBelow n) from slots below)))

-- what is left of the versions is below what all were
unlinked_below : (n short : ℕ) (store : Store) (t row from count : ℕ) → AreSound short store.tables store.layouts → MayUnlink store t row from count
    → AreBelow n store.tables store.layouts → let after = after_unlink store t row from count in AreBelow n after.tables after.layouts
unlinked_below n short store t row from count sound may below u q used =
    let after = after_unlink store t row from count in
    let chain = (store.layouts t).chain row in
    let was = in_chains n short store.tables store.layouts sound below in
    later_below n (chains_of store.tables store.layouts) (chains_of after.tables after.layouts) t row (key_of (store.tables t) row)
    (map (store.tables t).slot (left_of chain from count))
    (unlink_changes short store.tables store.layouts t row from count sound may.used may.some may.within) was
    (left_below n (store.tables t).slot chain from count (was t row)) u q

-- ---- one version goes

whole_below : (n : ℕ) (f : ℕ → Slot) (chain : List ℕ) (from : ℕ) → from + 1 ≤ length chain → first_writer (take 1 (drop from (map f chain))) < n
    → All (IsBelow n) (map f (left_of chain from 1)) → All (IsBelow n) (map f chain)
whole_below n f [] from within gone left = absurd (omega (arith, within))
whole_below n f (place ∷ chain) zero within gone left = All-cons (IsBelow n) (f place) (map f chain) gone left
whole_below n f (place ∷ chain) (suc from) within gone left =
    All-cons (IsBelow n) (f place) (map f chain) (All-head (IsBelow n) (f place) (map f (left_of chain from 1)) left)
    (whole_below n f chain from (omega (arith, within)) gone (All-tail (IsBelow n) (f place) (map f (left_of chain from 1)) left))

-- and it is below what all are below
gone_below : (n : ℕ) (f : ℕ → Slot) (chain : List ℕ) (from : ℕ) → from + 1 ≤ length chain → All (IsBelow n) (map f chain) → first_writer (take 1 (drop from (map f chain))) < n
gone_below n f [] from within below = absurd (omega (arith, within))
gone_below n f (place ∷ chain) zero within below = All-head (IsBelow n) (f place) (map f chain) below
gone_below n f (place ∷ chain) (suc from) within below = gone_below n f chain from (omega (arith, within)) (All-tail (IsBelow n) (f place) (map f chain) below)

-- ---- a step

-- past the number that the step's frame names, the same numbers are past the versions before it and after it
record NamesSame (store after : Store) (xn : ℕ) : Type 0 where
  forth : (n : ℕ) → xn < n → AreBelow n store.tables store.layouts → AreBelow n after.tables after.layouts
  back : (n : ℕ) → xn < n → AreBelow n after.tables after.layouts → AreBelow n store.tables store.layouts

put_names : (short : ℕ) (store : Store) (t : ℕ) (header : Header) (slot : Slot) → AreSound short store.tables store.layouts → MayPut short store t header slot
    → NamesSame store (after_put store t header slot) slot.xn
put_names short store t header slot sound may =
    let layout = layout_linked (store.tables t) (store.layouts t) slot in
    let after = after_put store t header slot in
    let link = link_of short (store.tables t) (store.layouts t) header slot (sound t) may.link in
    let changes = link_changes short store.tables store.layouts t header slot layout sound may.stored link in
    let stays = link_stays_sound short store.tables store.layouts t header slot layout sound may.stored link in
    let old = chains_of store.tables store.layouts in
    let new = chains_of after.tables after.layouts in
    let whole = slots_of_row (store.tables t) (store.layouts t) slot.row in
    record {
      forth = λ n past below u q used.
          let was = in_chains n short store.tables store.layouts sound below in
          later_below n old new t slot.row slot.key (slot ∷ whole) changes was (All-cons (IsBelow n) slot whole past (was t slot.row)) u q;
      back = λ n past below u q used.
          earlier_below n old new t slot.row slot.key (slot ∷ whole) changes (in_chains n short after.tables after.layouts stays below)
          (λ its. All-tail (IsBelow n) slot whole its) u q;
    }

unlink_names : (short : ℕ) (store : Store) (t row from : ℕ) → AreSound short store.tables store.layouts → MayUnlink store t row from 1
    → NamesSame store (after_unlink store t row from 1) (first_writer (versions_from store t row from 1))
unlink_names short store t row from sound may =
    let after = after_unlink store t row from 1 in
    let chain = (store.layouts t).chain row in
    let key = key_of (store.tables t) row in
    let left = map (store.tables t).slot (left_of chain from 1) in
    let changes = unlink_changes short store.tables store.layouts t row from 1 sound may.used may.some may.within in
    let stays = unlink_stays_sound short store.tables store.layouts t row from 1 sound may.used may.some may.within in
    let old = chains_of store.tables store.layouts in
    let new = chains_of after.tables after.layouts in
    record {
      forth = λ n past below. unlinked_below n short store t row from 1 sound may below;
      back = λ n past below u q used.
          earlier_below n old new t row key left changes (in_chains n short after.tables after.layouts stays below)
          (λ its. whole_below n (store.tables t).slot chain from may.within past its) u q;
    }

step_names : (parts : Parts) (short : ℕ) (store : Store) (step : Step) → AreSound short store.tables store.layouts → IsStep parts short store step → IsOneVersion step
    → NamesSame store (after_step store step) (writer_of store step)
step_names parts short store (Step.put t header slot) sound may one = put_names short store t header slot sound may
step_names parts short store (Step.commit xn number) sound may one = record { forth = λ n past below. below; back = λ n past below. below }
step_names parts short store (Step.rollback xn) sound may one = record { forth = λ n past below. below; back = λ n past below. below }
step_names parts short store (Step.unlink t row from count) sound may one =
    subst (λ (c : ℕ). NamesSame store (after_unlink store t row from c) (first_writer (versions_from store t row from c))) (sym one)
    (unlink_names short store t row from sound (subst (λ (c : ℕ). MayUnlink store t row from c) one may))
step_names parts short store (Step.move t number log place) sound may one = absurd one

-- whom an unlink names has a version
pub unlink_within : (n short : ℕ) (store : Store) (t row from : ℕ) → AreSound short store.tables store.layouts → MayUnlink store t row from 1
    → AreBelow n store.tables store.layouts → first_writer (versions_from store t row from 1) < n
unlink_within n short store t row from sound may below =
    gone_below n (store.tables t).slot ((store.layouts t).chain row) from may.within (in_chains n short store.tables store.layouts sound below t row)

-- ---- a life

below_rises : (n more : ℕ) (tables : Tables) (layouts : Layouts) → n ≤ more → AreBelow n tables layouts → AreBelow more tables layouts
below_rises n more tables layouts rose below t row used =
    All-weaker (IsBelow n) (IsBelow more) (λ slot less. omega (arith, less, rose)) (slots_of_row (tables t) (layouts t) row) (below t row used)

abbrev IsEarlier : ℕ → Change → Type 0
IsEarlier n change = change.xn < n

front_of : (n : ℕ) (changes : List Change) (change : Change) → All (IsEarlier n) (changes ++ change ∷ []) → All (IsEarlier n) changes
front_of n [] change all = All-nil (IsEarlier n)
front_of n (first ∷ changes) change all =
    All-cons (IsEarlier n) first changes (All-head (IsEarlier n) first (changes ++ change ∷ []) all)
    (front_of n changes change (All-tail (IsEarlier n) first (changes ++ change ∷ []) all))

last_of : (n : ℕ) (changes : List Change) (change : Change) → All (IsEarlier n) (changes ++ change ∷ []) → change.xn < n
last_of n [] change all = All-head (IsEarlier n) change [] all
last_of n (first ∷ changes) change all = last_of n changes change (All-tail (IsEarlier n) first (changes ++ change ∷ []) all)

pub unnamed_rises : (restart : Restart) (changes : List Change) (tables : Tables) (layouts : Layouts) (n more : ℕ) → n ≤ more → IsUnnamed restart changes tables layouts n
    → IsUnnamed restart changes tables layouts more
unnamed_rises restart changes tables layouts n more rose unnamed = record {
  restart_is = omega (arith, unnamed.restart_is, rose);
  frames = All-weaker (IsEarlier n) (IsEarlier more) (λ change less. omega (arith, less, rose)) changes unnamed.frames;
  versions = below_rises n more tables layouts rose unnamed.versions;
}

-- With a frame more, whose number was given, none past the later machine's numbers is named, where its step leaves no version past the older
-- ones and the frame's number.
frame_names : (m later : Machine) (life : Life) (restart : Restart) (step : Step) (change : Change) → IsCounted life
    → let store = last_store life in
    let after = after_step store step in
    later.base ≡ m.base → m.begun ≤ later.begun → change.xn ≤ m.base + later.begun
    → ((n : ℕ) → change.xn < n → AreBelow n store.tables store.layouts → AreBelow n after.tables after.layouts)
    → NamesNumbers m life restart
    → let next = grown life step change in
    IsUnnamed restart next.changes (last_store next).tables (last_store next).layouts (later.base + later.begun + 1)
frame_names m later life restart step change count base begun given forth names =
    let store = last_store life in
    let upto = later.base + later.begun + 1 in
    record {
      restart_is = omega (arith, names.to.restart_is, base, begun);
      frames = All-append (IsEarlier upto) life.changes (change ∷ [])
          (All-weaker (IsEarlier (m.base + m.begun + 1)) (IsEarlier upto) (λ c less. omega (arith, less, base, begun)) life.changes names.to.frames)
          (All-cons (IsEarlier upto) change [] (omega (arith, given, base)) (All-nil (IsEarlier upto)));
      versions = subst (λ (s : Store). AreBelow upto s.tables s.layouts) (sym (last_grown life step change count))
          (forth upto (omega (arith, given, base))
          (below_rises (m.base + m.begun + 1) upto store.tables store.layouts (omega (arith, base, begun)) names.to.versions));
    }

-- the machine's numbers went on, and the step names one of them
pub names_step : (parts : Parts) (m later : Machine) (life : Life) (restart : Restart) (step : Step) → IsCounted life
    → let store = last_store life in
    AreSound restart.short store.tables store.layouts → IsStep parts restart.short store step → IsOneVersion step
    → later.base ≡ m.base → m.begun ≤ later.begun → writer_of store step ≤ m.base + later.begun
    → NamesNumbers m life restart → NamesNumbers later (with_step restart.short life step) restart
names_step parts m later life restart step count sound may one base begun writer names = record {
  from = λ next unnamed.
      let after = of_after next unnamed.versions in
      let was = names.from next (record {
        restart_is = unnamed.restart_is;
        frames = front_of next life.changes change unnamed.frames;
        versions = same.back next (last_of next life.changes change unnamed.frames) after;
      }) in
      omega (arith, was, base);
  to = frame_names m later life restart step change count base begun writer same.forth names;
}
  where
    change : Change
    change = change_of restart.short (last_store life) step

    of_after : (next : ℕ) → AreBelow next (last_store (with_step restart.short life step)).tables (last_store (with_step restart.short life step)).layouts
        → AreBelow next (after_step (last_store life) step).tables (after_step (last_store life) step).layouts
    of_after next below = subst (λ (s : Store). AreBelow next s.tables s.layouts) (last_grown life step change count) below

    same : NamesSame (last_store life) (after_step (last_store life) step) (writer_of (last_store life) step)
    same = step_names parts restart.short (last_store life) step sound may one

-- ---- a sweep

-- the frame of an unlink that names any number past the base that was given
pub sweep_names : (m : Machine) (life : Life) (restart : Restart) (t row from count xn : ℕ) → IsCounted life
    → let store = last_store life in
    AreSound restart.short store.tables store.layouts → MayUnlink store t row from count → m.base ≤ xn → xn ≤ m.base + m.begun
    → NamesNumbers m life restart → NamesNumbers m (with_sweep restart.short life (Step.unlink t row from count) xn) restart
sweep_names m life restart t row from count xn counted sound may past given names =
    let store = last_store life in
    let step = Step.unlink t row from count in
    let change = swept_change restart.short store step xn in
    record {
      from = λ next unnamed. let less : xn < next = last_of next life.changes change unnamed.frames in omega (arith, less, past);
      to = frame_names m m life restart step change counted refl (omega arith) given
          (λ n less. unlinked_below n restart.short store t row from count sound may) names;
    }
