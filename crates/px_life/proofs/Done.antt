-- A step leaves done who is done, as a restart has it; and so it is where an opening found the store.
use Rattle.std.proofs.Common.{◌≡◌, ℕ, zero, suc, ◌+◌, ◌-◌, ◌<◌, ◌≤◌, ◌||◌, Bool, true, false, nat_lt, List, [], ◌∷◌, ◌++◌, drop, length, take, refl, sym, ap, subst, ◌∙◌, arith, length-append}
use Rattle.std.specs.Prelude.{All}
use Rattle.std.proofs.lemmas.Bool.{and_parts, le-ltb, leb-true, ltb-true}
use Rattle.std.proofs.lemmas.Grind.{fold-append}
use Rattle.std.proofs.lemmas.List.{append-nil, drop-append-le, drop_all, take-append-drop, take-append-le, take_all}
use Rattle.std.proofs.lemmas.List.Elements.{All-weaker}
use Rattle.px_cells.specs.declared.slot.Slot.{Slot}
use Rattle.px_change.specs.declared.change.Change.{Change}
use Rattle.px_change.specs.Grammar.{is_change, is_stored, may_hold}
use Rattle.px_history.specs.Fitting.{IsStoredNumber}
use Rattle.px_history.specs.Steps.{AreSteps, IsStep, Step, after_step, after_steps}
use Rattle.px_history.specs.Store.{IsOpen, Store, versions_of}
use Rattle.px_history.specs.Told.{Agrees, told_by}
use Rattle.px_history.specs.Written.{AreChangesOf, IsChangeOf}
use Rattle.px_history.proofs.Agreeing.{history_agrees}
use Rattle.px_model.specs.declared.row.Row.{Row}
use Rattle.px_restart.specs.declared.restart.Restart.{Restart}
use Rattle.px_shown.specs.Parts.{Parts}
use Rattle.px_shown.specs.Shown.{Done}
use Rattle.px_shown.specs.Tables.{AreSound, Layouts, Tables, slots_of_row}
use Rattle.px_laid.specs.Places.{Places}
use Rattle.px_opened.specs.Opened.{Opens, changes_over}
use Rattle.px_life.specs.Found.{AreBelow, life_found, store_found}
use Rattle.px_life.specs.Front.{AreStored, HasStoredNumber, IsFrom, KnowsDone, done_at, done_by}
use Rattle.px_life.proofs.Found.{counted_slots, done_cut}
use Rattle.px_life.specs.Life.{IsLife, Life, MayStand, between, committed_by, committer, end_of, grown, store_at}
use Rattle.px_life.proofs.Between.{all_between, one_more_between}
use Rattle.px_life.proofs.Commits.{among_both, committed_both, done_after, ended_by, is_among, mark_ends, none_behind, none_from, undone_before}
use Rattle.px_life.proofs.Fronts.{stand_drop}
use Rattle.px_life.proofs.Writers.{AreWriters, IsWriter, step_leaves_writers}

-- ---- without the last frame

steps_before : (parts : Parts) (short : ℕ) (store : Store) (steps : List Step) (step : Step) → AreSteps parts short store (steps ++ step ∷ [])
    → AreSteps parts short store steps × IsStep parts short (after_steps store steps) step
steps_before parts short store [] step follow = (tt, follow.0)
steps_before parts short store (first ∷ steps) step follow =
    let rest = steps_before parts short (after_step store first) steps step follow.1 in ((follow.0, rest.0), rest.1)

changes_before : (short : ℕ) (store : Store) (steps : List Step) (changes : List Change) (step : Step) (change : Change)
    → AreChangesOf short store (steps ++ step ∷ []) (changes ++ change ∷ []) → AreChangesOf short store steps changes × IsChangeOf short (after_steps store steps) step change
changes_before short store [] [] step change are = (tt, are.0)
changes_before short store [] (first ∷ []) step change are = elim are.1 [ ]
changes_before short store [] (first ∷ second ∷ changes) step change are = elim are.1 [ ]
changes_before short store (first ∷ []) [] step change are = elim are.1 [ ]
changes_before short store (first ∷ second ∷ steps) [] step change are = elim are.1 [ ]
changes_before short store (first ∷ steps) (other ∷ changes) step change are =
    let rest = changes_before short (after_step store first) steps changes step change are.1 in ((are.0, rest.0), rest.1)

-- ---- a step more

-- the writer of a version that is put is the change's
writer_is : (P : ℕ → Type 0) (step : Step) (short : ℕ) (store : Store) (change : Change) → IsChangeOf short store step change → P change.xn → IsWriter P step
writer_is P (Step.put t header slot) short store change is its = subst (λ (c : Change). P c.xn) is.mark its
writer_is P (Step.commit xn number) short store change is its = tt
writer_is P (Step.rollback xn) short store change is its = tt
writer_is P (Step.unlink t row from count) short store change is its = tt
writer_is P (Step.move t number log place) short store change is its = tt

-- who puts a version may still commit, and has no number below the low mark
open_writer : (Q : ℕ → Type 0) (step : Step) (parts : Parts) (short low : ℕ) (store : Store) → IsStep parts short store step → IsFrom low step
    → ((xn : ℕ) → IsOpen store xn → low ≤ xn → Q xn) → IsWriter Q step
open_writer Q (Step.put t header slot) parts short low store may from each = each slot.xn may.writer from
open_writer Q (Step.commit xn number) parts short low store may from each = tt
open_writer Q (Step.rollback xn) parts short low store may from each = tt
open_writer Q (Step.unlink t row from count) parts short low store may fr each = tt
open_writer Q (Step.move t number log place) parts short low store may from each = tt

stored_held : (tables frame short : ℕ) (change : Change) → may_hold tables frame short change ≡ true → IsStoredNumber change.xn
unfolding may_hold is_change
stored_held tables frame short change held =
    let whole = and_parts _ _ held in
    let first = and_parts (is_stored change.xn) _ whole.0 in
    let both = and_parts _ _ first.0 in
    (leb-true _ _ both.0, ltb-true _ _ both.1)

in_turn : (a b c : Bool) → (a || (b || c)) ≡ ((b || a) || c)
in_turn true true c = refl
in_turn true false c = refl
in_turn false true c = refl
in_turn false false c = refl

-- a store that the step leaves, and who is done in it
module _ (parts : Parts) (short tables next : ℕ) (rows : List Row) (life : Life) (step : Step) (change : Change)
    (is : IsLife parts short tables next rows (grown life step change)) where
  count : life.start + length life.steps ≡ end_of life
  count = omega (arith, is.count, length-append life.steps (step ∷ []), length-append life.changes (change ∷ []))

  read : ℕ
  read = life.start - life.first

  read_within : life.start - life.first ≤ length life.changes
  read_within = omega (arith, count, is.redo_from, is.start_from)

  last : Store
  last = after_steps life.base life.steps

  last_is : store_at life (end_of life) ≡ after_steps life.base life.steps
  last_is = ap (after_steps life.base) (take_all (end_of life - life.start) life.steps (omega (arith, count)))

  pub grown_is : store_at (grown life step change) (end_of life + 1) ≡ after_step (store_at life (end_of life)) step
  grown_is =
      ap (after_steps life.base) (take_all (end_of life + 1 - life.start) (life.steps ++ step ∷ []) (omega (arith, count, length-append life.steps (step ∷ []))))
      ∙ fold-append after_step life.base life.steps (step ∷ [])
      ∙ ap (λ (s : Store). after_step s step) (sym last_is)

  follow : AreSteps parts short life.base life.steps × IsStep parts short (after_steps life.base life.steps) step
  follow = steps_before parts short life.base life.steps step is.follow

  are : AreChangesOf short life.base life.steps (drop (life.start - life.first) life.changes) × IsChangeOf short (after_steps life.base life.steps) step change
  are = changes_before short life.base life.steps (drop (life.start - life.first) life.changes) step change
      (subst (AreChangesOf short life.base (life.steps ++ step ∷ [])) (drop-append-le (life.start - life.first) life.changes (change ∷ []) read_within) is.are)

  agrees : Agrees parts short next rows life.base (told_by parts life.steps) (after_steps life.base life.steps)
  agrees = history_agrees parts short next rows life.base (after_steps life.base life.steps) life.steps is.base (record { follow = follow.0; lead = refl })

  stored : IsStoredNumber change.xn
  stored =
      let all = stand_drop tables life.first short (length life.changes) (life.changes ++ change ∷ []) (omega (arith, length-append life.changes (change ∷ []))) is.stand in
      let alone : drop (length life.changes) (life.changes ++ change ∷ []) ≡ change ∷ [] =
      drop-append-le (length life.changes) life.changes (change ∷ []) (omega arith) ∙ ap (λ (l : List Change). l ++ change ∷ []) (drop_all (length life.changes) life.changes (omega arith)) in
      stored_held tables (life.first + length life.changes) short change (subst (MayStand tables (life.first + length life.changes) short) alone all).0

  -- of who may still commit there is no Commit
  no_commit : (xn count : ℕ) → IsOpen (after_steps life.base life.steps) xn → is_among xn (committed_by (drop count life.changes)) ≡ false
  no_commit xn behind open_one = none_behind xn behind life.changes (
      ap (λ (l : List Change). is_among xn (committed_by l)) (sym (take-append-drop (life.start - life.first) life.changes))
      ∙ ap (is_among xn) (committed_both (take (life.start - life.first) life.changes) (drop (life.start - life.first) life.changes))
      ∙ among_both xn (committed_by (take (life.start - life.first) life.changes)) (committed_by (drop (life.start - life.first) life.changes))
      ∙ ap (λ (b : Bool). b || is_among xn (committed_by (drop (life.start - life.first) life.changes))) earlier
      ∙ (undone_before short life.base life.steps (drop (life.start - life.first) life.changes) xn are.0 open_one.undone).1)
    where
      earlier : is_among xn (committed_by (take (life.start - life.first) life.changes)) ≡ false
      earlier = none_from next xn (committed_by (take (life.start - life.first) life.changes))
          (subst (λ (l : List Change). All (λ xn. xn < next) (committed_by l)) (take-append-le (life.start - life.first) life.changes (change ∷ []) read_within) is.earlier)
          (agrees.later xn open_one)

  among_after : (restart : Restart) (number : ℕ) → life.first ≤ restart.first → restart.first ≤ end_of life
      → done_at restart (grown life step change) (end_of life + 1) number ≡ (is_among number (ended_by step) || done_at restart life (end_of life) number)
  among_after restart number from to =
      ap (λ (l : List Change). done_by restart l number) (one_more_between life step change restart.first from to)
      ∙ ap (λ (l : List ℕ). is_among number l || nat_lt number restart.low) (committed_both (between life restart.first (end_of life)) (change ∷ []))
      ∙ ap (λ (b : Bool). b || nat_lt number restart.low) (
      among_both number (committed_by (between life restart.first (end_of life))) (committer change.kind change.xn ++ [])
      ∙ ap (λ (l : List ℕ). is_among number (committed_by (between life restart.first (end_of life))) || is_among number l)
      (append-nil (committer change.kind change.xn) ∙ mark_ends step short (after_steps life.base life.steps) change are.1.mark))
      ∙ sym (in_turn (is_among number (ended_by step)) (is_among number (committed_by (between life restart.first (end_of life)))) (nat_lt number restart.low))

  -- where the restart took as done who is, it does so after the step
  done_alike : (restart : Restart) (number : ℕ) → life.first ≤ restart.first → restart.first ≤ end_of life
      → (store_at life (end_of life)).done number ≡ done_at restart life (end_of life) number
      → (after_step (store_at life (end_of life)) step).done number ≡ done_at restart (grown life step change) (end_of life + 1) number
  done_alike restart number from to alike =
      done_after (store_at life (end_of life)) step number
      ∙ ap (λ (b : Bool). is_among number (ended_by step) || b) alike
      ∙ sym (among_after restart number from to)

  -- and who may still commit counts neither here nor there
  open_alike : (restart : Restart) → life.first ≤ restart.first → restart.first ≤ end_of life → (xn : ℕ) → IsOpen (store_at life (end_of life)) xn → restart.low ≤ xn
      → (store_at life (end_of life)).done xn ≡ done_at restart life (end_of life) xn
  open_alike restart from to xn open_one high =
      open_one.undone
      ∙ sym (ap (λ (l : List Change). done_by restart l xn) (all_between life restart.first from to)
      ∙ ap (λ (b : Bool). b || nat_lt xn restart.low) (no_commit xn (restart.first - life.first) (subst (λ (s : Store). IsOpen s xn) last_is open_one))
      ∙ le-ltb xn restart.low high)

  pub done_goes_on : (restart : Restart) → life.first ≤ restart.first → restart.first ≤ end_of life → IsFrom restart.low step
      → KnowsDone restart life (end_of life) → KnowsDone restart (grown life step change) (end_of life + 1)
  done_goes_on restart from to low knows =
      let before = store_at life (end_of life) in
      let after = after_step before step in
      let may : IsStep parts short before step = subst (λ (s : Store). IsStep parts short s step) (sym last_is) follow.1 in
      let sound = subst (λ (s : Store). AreSound short s.tables s.layouts) (sym last_is) agrees.sound in
      let Alike : ℕ → Type 0 = λ number. after.done number ≡ done_at restart (grown life step change) (end_of life + 1) number in
      let same : AreWriters Alike before = λ t row used.
      All-weaker (λ (slot : Slot). before.done slot.xn ≡ done_at restart life (end_of life) slot.xn) (λ (slot : Slot). Alike slot.xn)
      (λ slot alike. done_alike restart slot.xn from to alike) (versions_of before t row) (knows.done t row used) in
      let own : IsWriter Alike step = open_writer Alike step parts short restart.low before may low
      (λ xn open_one high. done_alike restart xn from to (open_alike restart from to xn open_one high)) in
      record {
        done = subst (λ (s : Store). AreWriters (λ number. s.done number ≡ done_at restart (grown life step change) (end_of life + 1) number) s) (sym grown_is)
            (step_leaves_writers Alike parts short before step sound may own same);
        numbers = subst (λ (s : Store). AreWriters IsStoredNumber s) (sym grown_is)
            (step_leaves_writers IsStoredNumber parts short before step sound may
            (writer_is IsStoredNumber step short (after_steps life.base life.steps) change are.1 stored) knows.numbers);
      }

-- ---- what an opening found

take_none : {X : Type 0} (n : ℕ) → take {A = X} n [] ≡ []
take_none zero = refl
take_none (suc n) = refl

pub opening_knows : (short tables next redo : ℕ) (restart : Restart) (changes : List Change) (files : Places) (found : Tables) (layouts : Layouts)
    → Opens short tables (changes_over files (drop (redo - restart.first) changes)) found layouts → AreBelow next found layouts → AreStored found layouts
    → KnowsDone restart (life_found next restart.first redo changes files found layouts (done_by restart changes)) (restart.first + length changes)
opening_knows short tables next redo restart changes files found layouts opens below are_stored =
    let done = done_by restart changes in
    let base = store_found next found layouts done in
    let life = life_found next restart.first redo changes files found layouts done in
    let places = changes_over files (drop (redo - restart.first) changes) in
    let at_start : store_at life (restart.first + length changes) ≡ base = ap (after_steps base) (take_none (restart.first + length changes - (restart.first + length changes))) in
    let none : restart.first - restart.first ≡ 0 = omega arith in
    let scanned : between life restart.first (restart.first + length changes) ≡ changes =
    ap (λ (n : ℕ). take (restart.first + length changes - restart.first) (drop n changes)) none
    ∙ take_all (restart.first + length changes - restart.first) changes (omega arith) in
    let Alike : Done → Store → ℕ → Type 0 = λ d s xn. s.done xn ≡ d xn in
    record {
      done = subst (λ (s : Store). AreWriters (Alike (done_at restart life (restart.first + length changes)) s) s) (sym at_start)
          (subst (λ (l : List Change). AreWriters (Alike (done_by restart l) base) base) (sym scanned)
          (counted_slots (λ (slot : Slot). base.done slot.xn ≡ done slot.xn) short tables places found layouts opens
          (λ t row used. All-weaker (λ (slot : Slot). slot.xn < next) (λ (slot : Slot). base.done slot.xn ≡ done slot.xn)
          (λ slot less. sym (done_cut next done slot.xn less)) (slots_of_row (found t) (layouts t) row) (below t row used))));
      numbers = subst (λ (s : Store). AreStored s.tables s.layouts) (sym at_start)
          (counted_slots HasStoredNumber short tables places found layouts opens are_stored);
    }
