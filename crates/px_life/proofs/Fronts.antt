-- Fronts of a life, and a life that goes on.
use Rattle.std.proofs.Common.{◌≡◌, ℕ, zero, suc, ◌+◌, ◌-◌, ◌<◌, ◌≤◌, true, Some, All, List, [], ◌∷◌, ◌++◌, drop, length, take, refl, sym, ap, subst, ◌∙◌, arith, length-append}
use Rattle.std.proofs.lemmas.List.{drop-append-le, length-drop, take-append-le, take_all}
use Rattle.px_cells.specs.declared.cell.CellKind.TheVariants as kinds
use Rattle.px_change.specs.declared.change.Change.{Change}
use Rattle.px_change.specs.Grammar.{may_hold}
use Rattle.px_history.specs.Base.{IsBase}
use Rattle.px_history.specs.Store.{Store}
use Rattle.px_history.specs.Told.{told_by}
use Rattle.px_shown.specs.Shown.{Shows}
use Rattle.px_told.specs.Writes.{rows_over}
use Rattle.px_history.specs.Steps.{AreSteps, History, IsStep, Step, after_step, after_steps}
use Rattle.px_history.specs.Writers.{AreAlone, IsAlone}
use Rattle.px_history.specs.Fitting.{AreWritten, IsWritten}
use Rattle.px_history.specs.Written.{AreChangesOf, IsChangeOf}
use Rattle.px_shown.specs.Parts.{Parts}
use Rattle.px_laid.specs.Places.{Places, none_laid}
use Rattle.px_model.specs.declared.row.Row.{Row}
use Rattle.px_opened.specs.Kept.{HoldsStore}
use Rattle.px_opened.specs.Opened.{changes_over}
use Rattle.px_life.specs.Laid.{cells_by, is_laid_by}
use Rattle.px_life.specs.Life.{IsLife, Life, MayStand, between, committed_by, end_of, grown, places_at, store_at}

-- ---- fronts

front_changes : (short : ℕ) (store : Store) (steps : List Step) (changes : List Change) (count : ℕ) → AreChangesOf short store steps changes
    → AreChangesOf short store (take count steps) (take count changes)
front_changes short store steps changes zero are = tt
front_changes short store [] [] (suc count) are = tt
front_changes short store [] (change ∷ changes) (suc count) are = elim are [ ]
front_changes short store (step ∷ steps) [] (suc count) are = elim are [ ]
front_changes short store (step ∷ steps) (change ∷ changes) (suc count) are = (are.0, front_changes short (after_step store step) steps changes count are.1)

front_written : (tables : ℕ) (steps : List Step) (count : ℕ) → AreWritten tables steps → AreWritten tables (take count steps)
front_written tables steps zero written = tt
front_written tables [] (suc count) written = tt
front_written tables (step ∷ steps) (suc count) written = (written.0, front_written tables steps count written.1)

front_follows : (parts : Parts) (short : ℕ) (store : Store) (steps : List Step) (count : ℕ) → AreSteps parts short store steps → AreSteps parts short store (take count steps)
front_follows parts short store steps zero follow = tt
front_follows parts short store [] (suc count) follow = tt
front_follows parts short store (step ∷ steps) (suc count) follow = (follow.0, front_follows parts short (after_step store step) steps count follow.1)

-- steps keep what is held
abbrev pub StepsHold : Type 0
StepsHold = (parts : Parts) (short tables : ℕ) (store : Store) (steps : List Step) (changes : List Change) (places : Places) → HoldsStore short tables store places
    → AreSteps parts short store steps → AreWritten tables steps → AreChangesOf short store steps changes
    → HoldsStore short tables (after_steps store steps) (changes_over places changes)

pub front_held : StepsHold → (parts : Parts) (short tables next : ℕ) (rows : List Row) (life : Life) (frame : ℕ) → IsLife parts short tables next rows life
    → life.start ≤ frame → frame ≤ end_of life → HoldsStore short tables (store_at life frame) (places_at life frame)
front_held hold parts short tables next rows life frame is from to =
    let count = frame - life.start in
    hold parts short tables life.base (take count life.steps) (take count (drop (life.start - life.first) life.changes)) life.below is.held
    (front_follows parts short life.base life.steps count is.follow) (front_written tables life.steps count is.written)
    (front_changes short life.base life.steps (drop (life.start - life.first) life.changes) count is.are)

-- what a history shows
abbrev pub HistoriesShow : Type 0
HistoriesShow = (parts : Parts) (short next : ℕ) (rows : List Row) (base store : Store) (steps : List Step) → IsBase parts short next rows base
    → History parts short base steps store → Shows parts store.tables store.layouts store.done (rows_over rows (told_by parts steps))

pub front_shows : HistoriesShow → (parts : Parts) (short tables next : ℕ) (rows : List Row) (life : Life) (frame : ℕ) → IsLife parts short tables next rows life
    → Shows parts (store_at life frame).tables (store_at life frame).layouts (store_at life frame).done (rows_over rows (told_by parts (take (frame - life.start) life.steps)))
front_shows show parts short tables next rows life frame is =
    show parts short next rows life.base (store_at life frame) (take (frame - life.start) life.steps) is.base
    (record { follow = front_follows parts short life.base life.steps (frame - life.start) is.follow; lead = refl })

-- ---- one frame more

follow_more : (parts : Parts) (short : ℕ) (store : Store) (steps : List Step) (step : Step) → AreSteps parts short store steps → IsStep parts short (after_steps store steps) step
    → AreSteps parts short store (steps ++ step ∷ [])
follow_more parts short store [] step follow may = (may, tt)
follow_more parts short store (first ∷ steps) step follow may = (follow.0, follow_more parts short (after_step store first) steps step follow.1 may)

alone_more : (store : Store) (steps : List Step) (step : Step) → AreAlone store steps → IsAlone (after_steps store steps) step → AreAlone store (steps ++ step ∷ [])
alone_more store [] step alone one = (one, tt)
alone_more store (first ∷ steps) step alone one = (alone.0, alone_more (after_step store first) steps step alone.1 one)

written_more : (tables : ℕ) (steps : List Step) (step : Step) → AreWritten tables steps → IsWritten tables step → AreWritten tables (steps ++ step ∷ [])
written_more tables [] step written one = (one, tt)
written_more tables (first ∷ steps) step written one = (written.0, written_more tables steps step written.1 one)

are_more : (short : ℕ) (store : Store) (steps : List Step) (changes : List Change) (step : Step) (change : Change) → AreChangesOf short store steps changes
    → IsChangeOf short (after_steps store steps) step change → AreChangesOf short store (steps ++ step ∷ []) (changes ++ change ∷ [])
are_more short store [] [] step change are is = (is, tt)
are_more short store [] (first ∷ changes) step change are is = elim are [ ]
are_more short store (first ∷ steps) [] step change are is = elim are [ ]
are_more short store (first ∷ steps) (other ∷ changes) step change are is = (are.0, are_more short (after_step store first) steps changes step change are.1 is)

stand_more : (tables number short : ℕ) (changes : List Change) (change : Change) → MayStand tables number short changes
    → may_hold tables (number + length changes) short change ≡ true → MayStand tables number short (changes ++ change ∷ [])
stand_more tables number short [] change all one =
    let same : number + zero ≡ number = omega arith in
    (subst (λ (n : ℕ). may_hold tables n short change ≡ true) same one, tt)
stand_more tables number short (first ∷ changes) change all one =
    let same : number + suc (length changes) ≡ number + 1 + length changes = omega arith in
    (all.0, stand_more tables (number + 1) short changes change all.1 (subst (λ (n : ℕ). may_hold tables n short change ≡ true) same one))

-- a front of them, and what is behind one
pub stand_take : (tables number short count : ℕ) (changes : List Change) → MayStand tables number short changes → MayStand tables number short (take count changes)
stand_take tables number short zero changes all = tt
stand_take tables number short (suc count) [] all = tt
stand_take tables number short (suc count) (change ∷ changes) all = (all.0, stand_take tables (number + 1) short count changes all.1)

pub stand_drop : (tables number short count : ℕ) (changes : List Change) → count ≤ length changes → MayStand tables number short changes
    → MayStand tables (number + count) short (drop count changes)
stand_drop tables number short zero changes within all = let same : number ≡ number + zero = omega arith in subst (λ (n : ℕ). MayStand tables n short changes) same all
stand_drop tables number short (suc count) [] within all = let no : ⊥ = omega (arith, within) in elim no [ ]
stand_drop tables number short (suc count) (change ∷ changes) within all =
    let same : number + 1 + count ≡ number + suc count = omega arith in
    let left : count ≤ length changes = omega (arith, within) in
    subst (λ (n : ℕ). MayStand tables n short (drop count changes)) same (stand_drop tables (number + 1) short count changes left all.1)

pub life_grows : (parts : Parts) (short tables next : ℕ) (rows : List Row) (life : Life) (step : Step) (change : Change) → IsLife parts short tables next rows life
    → IsStep parts short (store_at life (end_of life)) step → IsAlone (store_at life (end_of life)) step → IsWritten tables step
    → IsChangeOf short (store_at life (end_of life)) step change → may_hold tables (end_of life) short change ≡ true → IsLife parts short tables next rows (grown life step change)
life_grows parts short tables next rows life step change is may alone written of stands = record {
  redo_from = is.redo_from;
  start_from = is.start_from;
  count = omega (arith, is.count, length-append life.steps (step ∷ []), length-append life.changes (change ∷ []));
  base = is.base;
  held = is.held;
  read = record {
    each = λ what table number bytes below laid.
        subst (λ (changes : List Change). changes_over none_laid changes what table number ≡ Some bytes) (sym same_read)
        (is.read.each what table number bytes below (subst (λ (changes : List Change). is_laid_by (cells_by changes) what table number ≡ true) same_read laid));
    headers = λ table laid. is.read.headers table (subst (λ (changes : List Change). is_laid_by (cells_by changes) kinds.Header table 0 ≡ true) same_read laid);
  };
  follow = follow_more parts short life.base life.steps step is.follow (subst (λ (s : Store). IsStep parts short s step) whole may);
  alone = alone_more life.base life.steps step is.alone (subst (λ (s : Store). IsAlone s step) whole alone);
  written = written_more tables life.steps step is.written written;
  earlier = subst (λ (changes : List Change). All (λ xn. xn < next) (committed_by changes)) (sym (take-append-le (life.start - life.first) life.changes (change ∷ []) within)) is.earlier;
  stand = stand_more tables life.first short life.changes change is.stand stands;
  are = subst (λ (changes : List Change). AreChangesOf short life.base (life.steps ++ step ∷ []) changes) (sym (drop-append-le (life.start - life.first) life.changes (change ∷ []) within))
      (are_more short life.base life.steps (drop (life.start - life.first) life.changes) step change is.are (subst (λ (s : Store). IsChangeOf short s step change) whole of));
}
  where
    -- what was read is among the changes
    within : life.start - life.first ≤ length life.changes
    within = omega (arith, is.count, is.redo_from, is.start_from)

    whole : store_at life (end_of life) ≡ after_steps life.base life.steps
    whole = ap (after_steps life.base) (take_all (end_of life - life.start) life.steps (omega (arith, is.count)))

    same_read : between (grown life step change) life.redo life.start ≡ between life life.redo life.start
    same_read =
        ap (take (life.start - life.redo)) (drop-append-le (life.redo - life.first) life.changes (change ∷ []) (omega (arith, is.count, is.redo_from, is.start_from)))
        ∙ take-append-le (life.start - life.redo) (drop (life.redo - life.first) life.changes) (change ∷ []) (omega (arith, is.count, is.redo_from, is.start_from, length-drop (life.redo - life.first) life.changes))
