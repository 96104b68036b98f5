-- What lies at a place once cells are laid.
use Rattle.std.proofs.Common.{◌≡◌, ◌≢◌, ℕ, Bool, cond, true, false, ◌||◌, List, [], ◌∷◌, ◌++◌, Some, None, is_some, refl, sym, ap, ◌∙◌, inl, inr}
use Rattle.std.proofs.lemmas.Bool.{cases_Bool, true≢false, false≢true}
use Rattle.std.proofs.lemmas.Grind.{flat_map-append}
use Rattle.std.proofs.lemmas.List.Folds.{list_any-append}
use Rattle.std.proofs.lemmas.List.Sums.{fold-append}
use Rattle.px_cells.specs.declared.cell.Cell.{Cell}
use Rattle.px_cells.specs.declared.cell.CellKind.{CellKind}
use Rattle.px_change.specs.declared.change.Change.{Change}
use Rattle.px_laid.specs.Places.{Places, is_at, laid_over, over}
use Rattle.px_opened.specs.Opened.{changes_over}
use Rattle.px_life.specs.Laid.{cells_by, is_laid_by}

pub or_none : (x y : Bool) → (x || y) ≡ false → (x ≡ false) × (y ≡ false)
or_none true y none = elim (true≢false none) [ ]
or_none false y none = (refl, none)

-- ---- cells

cells_away : (below : Places) (cells : List Cell) (what : CellKind) (table number : ℕ) → is_laid_by cells what table number ≡ false
    → laid_over below cells what table number ≡ below what table number
cells_away below [] what table number none = refl
cells_away below (cell ∷ cells) what table number none =
    let both = or_none (is_at what table number cell) (is_laid_by cells what table number) none in
    cells_away (over below cell) cells what table number both.1
    ∙ ap (λ (b : Bool). cond b (Some cell.bytes) (below what table number)) both.0

first_of : (x y : Bool) → (x || y) ≡ true → y ≡ false → x ≡ true
first_of true y either none = refl
first_of false y either none = elim (true≢false (sym either ∙ none)) [ ]

some_not_none : {X : Type 0} {x : X} → Some x ≡ None → ⊥
some_not_none e = true≢false (ap is_some e)

cells_here : (below other : Places) (cells : List Cell) (what : CellKind) (table number : ℕ) → is_laid_by cells what table number ≡ true
    → laid_over below cells what table number ≡ laid_over other cells what table number
cells_here below other [] what table number some = elim (false≢true some) [ ]
cells_here below other (cell ∷ cells) what table number some =
    elim (cases_Bool (is_laid_by cells what table number)) [
      | inl later ↦ cells_here (over below cell) (over other cell) cells what table number later
      | inr none ↦
          let this : is_at what table number cell ≡ true = first_of (is_at what table number cell) (is_laid_by cells what table number) some none in
          cells_away (over below cell) cells what table number none
          ∙ ap (λ (b : Bool). cond b (Some cell.bytes) (below what table number)) this
          ∙ sym (cells_away (over other cell) cells what table number none ∙ ap (λ (b : Bool). cond b (Some cell.bytes) (other what table number)) this)
    ]

cells_some : (below : Places) (cells : List Cell) (what : CellKind) (table number : ℕ) → is_laid_by cells what table number ≡ true
    → laid_over below cells what table number ≢ None
cells_some below [] what table number some none = elim (false≢true some) [ ]
cells_some below (cell ∷ cells) what table number some none =
    elim (cases_Bool (is_laid_by cells what table number)) [
      | inl later ↦ cells_some (over below cell) cells what table number later none
      | inr away ↦
          let this : is_at what table number cell ≡ true = first_of (is_at what table number cell) (is_laid_by cells what table number) some away in
          some_not_none (sym (cells_away (over below cell) cells what table number away ∙ ap (λ (b : Bool). cond b (Some cell.bytes) (below what table number)) this) ∙ none)
    ]

-- ---- changes

pub flat_over : (below : Places) (changes : List Change) → changes_over below changes ≡ laid_over below (cells_by changes)
flat_over below [] = refl
flat_over below (change ∷ changes) = flat_over (laid_over below change.cells) changes ∙ sym (fold-append over below change.cells (cells_by changes))

pub away : (below : Places) (changes : List Change) (what : CellKind) (table number : ℕ) → is_laid_by (cells_by changes) what table number ≡ false
    → changes_over below changes what table number ≡ below what table number
away below changes what table number none =
    ap (λ (p : Places). p what table number) (flat_over below changes) ∙ cells_away below (cells_by changes) what table number none

pub here : (below other : Places) (changes : List Change) (what : CellKind) (table number : ℕ) → is_laid_by (cells_by changes) what table number ≡ true
    → changes_over below changes what table number ≡ changes_over other changes what table number
here below other changes what table number some =
    ap (λ (p : Places). p what table number) (flat_over below changes)
    ∙ cells_here below other (cells_by changes) what table number some
    ∙ sym (ap (λ (p : Places). p what table number) (flat_over other changes))

pub here_some : (below : Places) (changes : List Change) (what : CellKind) (table number : ℕ) → is_laid_by (cells_by changes) what table number ≡ true
    → changes_over below changes what table number ≢ None
here_some below changes what table number some none =
    cells_some below (cells_by changes) what table number some (sym (ap (λ (p : Places). p what table number) (flat_over below changes)) ∙ none)

pub over_both : (below : Places) (changes more : List Change) → changes_over below (changes ++ more) ≡ changes_over (changes_over below changes) more
over_both below changes more = fold-append (λ (places : Places) (change : Change). laid_over places change.cells) below changes more

pub laid_both : (changes more : List Change) (what : CellKind) (table number : ℕ)
    → is_laid_by (cells_by (changes ++ more)) what table number ≡ (is_laid_by (cells_by changes) what table number || is_laid_by (cells_by more) what table number)
laid_both changes more what table number =
    ap (λ (cells : List Cell). is_laid_by cells what table number) (flat_map-append (λ (change : Change). change.cells) changes more)
    ∙ list_any-append (is_at what table number) (cells_by changes) (cells_by more)
