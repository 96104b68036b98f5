-- Fronts of histories, and histories that grow.
use Rattle.std.proofs.Common.{◌≡◌, ℕ, zero, suc, List, [], ◌∷◌, ◌++◌, drop, length, take, refl, sym, ap, subst, ◌∙◌}
use Rattle.std.proofs.lemmas.Grind.{flat_map-append, fold-append}
use Rattle.std.proofs.lemmas.List.{append-nil, take-append-drop, take_at}
use Rattle.px_change.specs.declared.change.Change.{Change}
use Rattle.px_told.specs.declared.change.Change.{Change as Told}
use Rattle.px_history.specs.Store.{Store}
use Rattle.px_history.specs.Base.{IsBase}
use Rattle.px_history.specs.Steps.{AgreeOnStep, AgreeOnSteps, AreSteps, History, IsStep, Step, after_step, after_steps}
use Rattle.px_history.specs.Told.{told, told_by}
use Rattle.px_history.specs.Written.{AreChangesOf, IsChangeOf, change_of, changes_of}
use Rattle.px_shown.specs.Parts.{AgreeInChains, Parts}
use Rattle.px_shown.proofs.Moving.{same_rows, write_agrees}
use Rattle.px_model.specs.declared.row.Row.{Row}
use Rattle.px_model.specs.declared.write.Write.{Write}
use Rattle.px_told.specs.declared.change.Change.TheVariants.{Put}

-- ---- fronts

front_follows : (parts : Parts) (short : ℕ) (store : Store) (steps : List Step) (count : ℕ) → AreSteps parts short store steps → AreSteps parts short store (take count steps)
front_follows parts short store steps zero follow = tt
front_follows parts short store [] (suc count) follow = tt
front_follows parts short store (step ∷ steps) (suc count) follow = (follow.0, front_follows parts short (after_step store step) steps count follow.1)

pub front_history : (parts : Parts) (short : ℕ) (base store : Store) (steps : List Step) (count : ℕ) → History parts short base steps store
    → History parts short base (take count steps) (after_steps base (take count steps))
front_history parts short base store steps count h = record { follow = front_follows parts short base steps count h.follow; lead = refl }

pub front_changes : (short : ℕ) (store : Store) (steps : List Step) (count : ℕ) → changes_of short store (take count steps) ≡ take count (changes_of short store steps)
front_changes short store steps zero = refl
front_changes short store [] (suc count) = refl
front_changes short store (step ∷ steps) (suc count) =
    ap (λ (l : List Change). change_of short store step ∷ l) (front_changes short (after_step store step) steps count)

pub front_logged : (short : ℕ) (store : Store) (steps : List Step) (changes : List Change) (count : ℕ) → AreChangesOf short store steps changes
    → AreChangesOf short store (take count steps) (take count changes)
front_logged short store steps changes zero are = tt
front_logged short store [] [] (suc count) are = tt
front_logged short store [] (change ∷ changes) (suc count) are = absurd are
front_logged short store (step ∷ steps) [] (suc count) are = absurd are
front_logged short store (step ∷ steps) (change ∷ changes) (suc count) are = (are.0, front_logged short (after_step store step) steps changes count are.1)

pub front_told : (parts : Parts) (steps : List Step) (count : ℕ) → told_by parts (take count steps) ≡ take (length (told_by parts (take count steps))) (told_by parts steps)
front_told parts steps count =
    let front = told_by parts (take count steps) in
    let rest = told_by parts (drop count steps) in
    let whole : front ++ rest ≡ told_by parts steps = sym (flat_map-append (told parts) (take count steps) (drop count steps)) ∙ ap (told_by parts) (take-append-drop count steps) in
    sym (take_at front rest (length front) refl) ∙ ap (take (length front)) whole

-- ---- one step more

pub no_steps : (parts : Parts) (short : ℕ) (base : Store) → History parts short base [] base
no_steps parts short base = record { follow = tt; lead = refl }

follow_more : (parts : Parts) (short : ℕ) (store : Store) (steps : List Step) (step : Step) → AreSteps parts short store steps → IsStep parts short (after_steps store steps) step
    → AreSteps parts short store (steps ++ step ∷ [])
follow_more parts short store [] step follow may = (may, tt)
follow_more parts short store (first ∷ steps) step follow may = (follow.0, follow_more parts short (after_step store first) steps step follow.1 may)

pub history_more : (parts : Parts) (short : ℕ) (base store : Store) (steps : List Step) (step : Step) → History parts short base steps store → IsStep parts short store step
    → History parts short base (steps ++ step ∷ []) (after_step store step)
history_more parts short base store steps step h may = record {
  follow = follow_more parts short base steps step h.follow (subst (λ (s : Store). IsStep parts short s step) h.lead may);
  lead = ap (λ (s : Store). after_step s step) h.lead ∙ sym (fold-append after_step base steps (step ∷ []));
}

pub told_more : (parts : Parts) (steps : List Step) (step : Step) → told_by parts (steps ++ step ∷ []) ≡ told_by parts steps ++ told parts step
told_more parts steps step = flat_map-append (told parts) steps (step ∷ []) ∙ ap (λ (l : List Told). told_by parts steps ++ l) (append-nil (told parts step))

changes_after : (short : ℕ) (store : Store) (steps : List Step) (step : Step)
    → changes_of short store (steps ++ step ∷ []) ≡ changes_of short store steps ++ change_of short (after_steps store steps) step ∷ []
changes_after short store [] step = refl
changes_after short store (first ∷ steps) step = ap (λ (l : List Change). change_of short store first ∷ l) (changes_after short (after_step store first) steps step)

pub changes_more : (parts : Parts) (short : ℕ) (base store : Store) (steps : List Step) (step : Step) → History parts short base steps store
    → changes_of short base (steps ++ step ∷ []) ≡ changes_of short base steps ++ change_of short store step ∷ []
changes_more parts short base store steps step h =
    changes_after short base steps step ∙ ap (λ (s : Store). changes_of short base steps ++ change_of short s step ∷ []) (sym h.lead)

logged_after : (short : ℕ) (store : Store) (steps : List Step) (changes : List Change) (step : Step) (change : Change) → AreChangesOf short store steps changes
    → IsChangeOf short (after_steps store steps) step change → AreChangesOf short store (steps ++ step ∷ []) (changes ++ change ∷ [])
logged_after short store [] [] step change are is = (is, tt)
logged_after short store [] (other ∷ changes) step change are is = absurd are
logged_after short store (first ∷ steps) [] step change are is = absurd are
logged_after short store (first ∷ steps) (other ∷ changes) step change are is = (are.0, logged_after short (after_step store first) steps changes step change are.1 is)

pub logged_more : (parts : Parts) (short : ℕ) (base store : Store) (steps : List Step) (changes : List Change) (step : Step) (change : Change) → History parts short base steps store
    → AreChangesOf short base steps changes → IsChangeOf short store step change → AreChangesOf short base (steps ++ step ∷ []) (changes ++ change ∷ [])
logged_more parts short base store steps changes step change h are is =
    logged_after short base steps changes step change are (subst (λ (s : Store). IsChangeOf short s step change) h.lead is)

-- ---- other data logs

steps_agreed : (parts others : Parts) (short : ℕ) (store : Store) (steps : List Step) → AgreeOnSteps parts others store steps → AreSteps parts short store steps → AreSteps others short store steps
steps_agreed parts others short store [] agree follow = tt
steps_agreed parts others short store (step ∷ steps) agree follow =
    (step_agreed parts others short store step agree.0 follow.0, steps_agreed parts others short (after_step store step) steps agree.1 follow.1)
  where
    step_agreed : (parts others : Parts) (short : ℕ) (store : Store) (step : Step) → AgreeOnStep parts others store step → IsStep parts short store step → IsStep others short store step
    step_agreed parts others short store (Step.put t header slot) agree may = may
    step_agreed parts others short store (Step.commit xn number) agree may = may
    step_agreed parts others short store (Step.rollback xn) agree may = may
    step_agreed parts others short store (Step.unlink t row from count) agree may = may
    step_agreed parts others short store (Step.move t number log place) agree may = record {
      row = may.row;
      used = may.used;
      linked = may.linked;
      long = may.long;
      some = may.some;
      stored = may.stored;
      same = sym (agree.0 may.long) ∙ may.same ∙ agree.1 may.some;
    }

pub history_agreed : (parts others : Parts) (short : ℕ) (base store : Store) (steps : List Step) → AgreeOnSteps parts others base steps
    → History parts short base steps store → History others short base steps store
history_agreed parts others short base store steps agree h = record { follow = steps_agreed parts others short base steps agree h.follow; lead = h.lead }

pub told_agreed : (parts others : Parts) (store : Store) (steps : List Step) → AgreeOnSteps parts others store steps → told_by parts steps ≡ told_by others steps
told_agreed parts others store [] agree = refl
told_agreed parts others store (step ∷ steps) agree =
    ap (λ (l : List Told). l ++ told_by parts steps) (one_agreed parts others store step agree.0)
    ∙ ap (λ (l : List Told). told others step ++ l) (told_agreed parts others (after_step store step) steps agree.1)
  where
    one_agreed : (parts others : Parts) (store : Store) (step : Step) → AgreeOnStep parts others store step → told parts step ≡ told others step
    one_agreed parts others store (Step.put t header slot) agree = ap (λ (w : Write). Put slot.xn w ∷ []) (sym (write_agrees parts others t slot agree))
    one_agreed parts others store (Step.commit xn number) agree = refl
    one_agreed parts others store (Step.rollback xn) agree = refl
    one_agreed parts others store (Step.unlink t row from count) agree = refl
    one_agreed parts others store (Step.move t number log place) agree = refl

pub base_agreed : (parts others : Parts) (short next : ℕ) (rows : List Row) (base : Store) → AgreeInChains parts others base.tables base.layouts → IsBase parts short next rows base
    → IsBase others short next rows base
base_agreed parts others short next rows base agree b = record {
  sound = b.sound;
  shows = same_rows parts others base.tables base.layouts base.done rows agree b.shows;
  numbers = b.numbers;
  ended = b.ended;
  later = b.later;
}
