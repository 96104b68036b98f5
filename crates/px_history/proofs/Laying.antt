-- The cells of steps, laid over tables, are those of the tables after them.
use Rattle.std.proofs.Common.{◌≡◌, ◌≢◌, ℕ, ◌==◌, Bool, cond, true, false, List, [], ◌∷◌, ◌++◌, map, refl, sym, ap, subst, ◌∙◌, inl, ⊎_elim}
use Rattle.std.proofs.lemmas.Bool.{cases_eq, eq-eqb, ne_eqb}
use Rattle.std.proofs.lemmas.Grind.{fold-append}
use Rattle.std.proofs.lemmas.List.{map-append}
use Rattle.std.specs.Prelude.{filter}
use Rattle.px_cells.specs.declared.cell.Cell.{Cell}
use Rattle.px_change.specs.declared.change.Change.{Change}
use Rattle.px_chain.specs.Cells.{cell_of}
use Rattle.px_chain.specs.Table.{Content, Table, laid, overlaid}
use Rattle.px_shown.specs.Tables.{Tables, with_table}
use Rattle.px_history.specs.Store.{Store}
use Rattle.px_history.specs.Steps.{History, Step, after_step, after_steps}
use Rattle.px_history.specs.Written.{AreChangesOf, IsChangeOf, IsMarkOf, cells_for, cells_in, change_of, changes_of, contents_by, contents_in, contents_of, table_of}
use Rattle.px_shown.specs.Parts.{Parts}

one_laid : (tables : Tables) (n t : ℕ) (cells : List Content) → with_table tables t (laid (tables t) cells) n ≡ laid (tables n) (cond (n == t) cells [])
one_laid tables n t cells = ⊎_elim
    (λ (here : n ≡ t). rw (eq-eqb n t here) (ap (λ (m : ℕ). laid (tables m) cells) (sym here)))
    (λ (away : n ≢ t). rw (ne_eqb n t away) refl)
    (cases_eq n t)

none_laid : (table : Table) (b : Bool) → table ≡ laid table (cond b [] [])
none_laid table true = refl
none_laid table false = refl

pub step_laid : (store : Store) (step : Step) (t : ℕ) → (after_step store step).tables t ≡ laid (store.tables t) (contents_in t store step)
step_laid store (Step.put at header slot) t = one_laid store.tables t at (contents_of store (Step.put at header slot))
step_laid store (Step.commit xn number) t = none_laid (store.tables t) (t == 0)
step_laid store (Step.rollback xn) t = none_laid (store.tables t) (t == 0)
step_laid store (Step.unlink at row from count) t = one_laid store.tables t at (contents_of store (Step.unlink at row from count))
step_laid store (Step.move at number log place) t = one_laid store.tables t at (contents_of store (Step.move at number log place))

steps_laid : (store : Store) (steps : List Step) (t : ℕ) → (after_steps store steps).tables t ≡ laid (store.tables t) (contents_by t store steps)
steps_laid store [] t = refl
steps_laid store (step ∷ steps) t =
    steps_laid (after_step store step) steps t
    ∙ ap (λ (table : Table). laid table (contents_by t (after_step store step) steps)) (step_laid store step t)
    ∙ sym (fold-append overlaid (store.tables t) (contents_in t store step) (contents_by t (after_step store step) steps))

pub history_laid : (parts : Parts) (short : ℕ) (base store : Store) (steps : List Step) (t : ℕ) → History parts short base steps store
    → store.tables t ≡ laid (base.tables t) (contents_by t base steps)
history_laid parts short base store steps t h = ap (λ (s : Store). s.tables t) h.lead ∙ steps_laid base steps t

-- ---- the cells of changes

its_table : (t short : ℕ) (content : Content) → (cell_of t short content).table ≡ t
its_table t short (Content.header_is header) = refl
its_table t short (Content.slot_is n slot) = refl
its_table t short (Content.pointer_is n pointer) = refl

all_kept : (t short : ℕ) (contents : List Content) → filter (λ (cell : Cell). cell.table == t) (map (cell_of t short) contents) ≡ map (cell_of t short) contents
all_kept t short [] = refl
all_kept t short (content ∷ contents) =
    let cell = cell_of t short content in
    let others = filter (λ (c : Cell). c.table == t) (map (cell_of t short) contents) in
    ap (λ (b : Bool). cond b (cell ∷ others) others) (eq-eqb cell.table t (its_table t short content)) ∙ ap (λ (l : List Cell). cell ∷ l) (all_kept t short contents)

none_kept : (n t short : ℕ) (contents : List Content) → n ≢ t → filter (λ (cell : Cell). cell.table == n) (map (cell_of t short) contents) ≡ []
none_kept n t short [] away = refl
none_kept n t short (content ∷ contents) away =
    let cell = cell_of t short content in
    let others = filter (λ (c : Cell). c.table == n) (map (cell_of t short) contents) in
    ap (λ (b : Bool). cond b (cell ∷ others) others) (ne_eqb cell.table n (λ same. away (sym same ∙ its_table t short content))) ∙ none_kept n t short contents away

kept : (n t short : ℕ) (contents : List Content) → filter (λ (cell : Cell). cell.table == n) (map (cell_of t short) contents) ≡ map (cell_of n short) (cond (n == t) contents [])
kept n t short contents = ⊎_elim
    (λ (here : n ≡ t). rw (eq-eqb n t here)
    (subst (λ (m : ℕ). filter (λ (cell : Cell). cell.table == m) (map (cell_of t short) contents) ≡ map (cell_of m short) contents) (sym here) (all_kept t short contents)))
    (λ (away : n ≢ t). rw (ne_eqb n t away) (none_kept n t short contents away))
    (cases_eq n t)

-- ---- what the log has for a step

pub change_is_one : (short : ℕ) (store : Store) (step : Step) → IsChangeOf short store step (change_of short store step)
change_is_one short store step = record { mark = marked step; cells = refl; commit = refl }
  where
    marked : (of : Step) → IsMarkOf of short store (change_of short store of)
    marked (Step.put t header slot) = refl
    marked (Step.commit xn number) = refl
    marked (Step.rollback xn) = refl
    marked (Step.unlink t row from count) = inl refl
    marked (Step.move t number log place) = refl

pub changes_are : (short : ℕ) (store : Store) (steps : List Step) → AreChangesOf short store steps (changes_of short store steps)
changes_are short store [] = tt
changes_are short store (step ∷ steps) = (change_is_one short store step, changes_are short (after_step store step) steps)

pub step_cells : (short : ℕ) (store : Store) (step : Step) (change : Change) (t : ℕ) → IsChangeOf short store step change
    → cells_for t change ≡ map (cell_of t short) (contents_in t store step)
step_cells short store step change t is =
    ap (λ (cells : List Cell). filter (λ (cell : Cell). cell.table == t) cells) is.cells ∙ kept t (table_of step) short (contents_of store step)

pub steps_cells : (short : ℕ) (store : Store) (steps : List Step) (changes : List Change) (t : ℕ) → AreChangesOf short store steps changes
    → cells_in t changes ≡ map (cell_of t short) (contents_by t store steps)
steps_cells short store [] [] t are = refl
steps_cells short store [] (change ∷ changes) t are = absurd are
steps_cells short store (step ∷ steps) [] t are = absurd are
steps_cells short store (step ∷ steps) (change ∷ changes) t are =
    let next = after_step store step in
    ap (λ (l : List Cell). l ++ cells_in t changes) (step_cells short store step change t are.0)
    ∙ ap (λ (l : List Cell). map (cell_of t short) (contents_in t store step) ++ l) (steps_cells short next steps changes t are.1)
    ∙ sym (map-append (cell_of t short) (contents_in t store step) (contents_by t next steps))
