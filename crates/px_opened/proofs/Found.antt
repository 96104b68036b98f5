-- The tables in memory that were opened are those that the places open to.
use Rattle.std.proofs.Common.{◌≡◌, ◌≢◌, ℕ, suc, ◌+◌, ◌<◌, ◌≤◌, List, [], ◌∷◌, ◌++◌, length, refl, sym, ap, subst, ◌∙◌, arith, ⊎_elim}
use Rattle.std.specs.Prelude.{IfErr, IsErrAnd, Result, Ok, Err}
use Rattle.std.proofs.lemmas.Bool.{cases_eq, eq-eqb, ne_eqb}
use Rattle.px_chain.specs.Sound.{no_layout}
use Rattle.px_laid.specs.Places.{Places}
use Rattle.std.proofs.lemmas.List.{length-append}
use Rattle.px_laid.specs.Whole.{AllFrom}
use Rattle.px_laid.proofs.Numbers.{AllFrom-push}
use Rattle.px_shown.specs.Tables.{Layouts, Tables, with_layout}
use Rattle.px_tables.specs.Held.{Held, table_of}
use Rattle.px_opened.specs.Damage.{IsErrorIn, IsErrorOf, IsIntact}
use Rattle.px_opened.specs.Opened.{AreOpened, IsOpened, IsUnused, Opens, OpensTo, numbered_from, tables_of}
use Rattle.px_opened.specs.declared.error.OpenedError.{OpenedError}
use Rattle.px_opened.specs.declared.error.OpenedError.TheVariants.{OutOfMemory, Damaged}
use Rattle.px_opened.proofs.Numbers.{some_value}

abbrev IsOpenedAt : (short : ℕ) → Places → ℕ → Held → Type 0
IsOpenedAt short places number table = IsOpened short places number table.cells

-- so many tables from this one on
record OpenFrom (short : ℕ) (places : Places) (first count : ℕ) (found : Tables) (layouts : Layouts) : Type 0 where
  pub each : (t : ℕ) → first ≤ t → t < first + count → OpensTo short places t (found t) (layouts t)
  pub below : (t : ℕ) → t < first → IsUnused (found t) (layouts t)
  pub above : (t : ℕ) → first + count ≤ t → IsUnused (found t) (layouts t)

layouts_from : (short : ℕ) (places : Places) (first : ℕ) (opened : List Held) → AllFrom (IsOpenedAt short places) first opened → Layouts
layouts_from short places first [] all = λ t. no_layout
layouts_from short places first (table ∷ others) all = with_layout (layouts_from short places (suc first) others all.1) first all.0.layout

found_from : (short : ℕ) (places : Places) (first : ℕ) (opened : List Held) (all : AllFrom (IsOpenedAt short places) first opened)
    → OpenFrom short places first (length opened) (numbered_from first opened) (layouts_from short places first opened all)
unfolding layouts_from
found_from short places first [] all = record {
  each = λ t low high. absurd (omega (arith, low, high));
  below = λ t low. record { header = refl; lists = refl };
  above = λ t high. record { header = refl; lists = refl };
}
found_from short places first (table ∷ others) all =
    let rest = found_from short places (suc first) others all.1 in
    record {
      each = λ t low high. ⊎_elim
          (λ (here : t ≡ first). rw (eq-eqb t first here) (subst (λ (n : ℕ). OpensTo short places n (table_of table.cells) all.0.layout) (sym here) all.0.opens))
          (λ (away : t ≢ first). rw (ne_eqb t first away) (rest.each t (omega (arith, low, away)) (omega (arith, high))))
          (cases_eq t first);
      below = λ t low. (let away : t ≢ first = (λ e. omega (arith, e, low)) in rw (ne_eqb t first away) (rest.below t (omega (arith, low))));
      above = λ t high. (let away : t ≢ first = (λ e. omega (arith, e, high)) in rw (ne_eqb t first away) (rest.above t (omega (arith, high))));
    }

pub found : (short tables : ℕ) (places : Places) (opened : List Held) → AreOpened short tables places opened
    → (layouts : Layouts) × Opens short tables places (tables_of opened) layouts
found short tables places opened all =
    let from = found_from short places 1 opened all.each in
    let long = all.long in (
      layouts_from short places 1 opened all.each,
      record {
        each = λ t within. (let low = within.0 in let high = within.1 in from.each t low (omega (arith, long, high)));
        others = λ t not. ⊎_elim
            (λ (is : t ≡ 0). from.below t (omega (arith, is)))
            (λ (some : t ≢ 0). from.above t (omega (arith, long, some, λ (within : t ≤ tables). not (omega (arith, some), within))))
            (cases_eq t 0);
      },
    )

-- the tables before one
pub intact : (short count : ℕ) (places : Places) (opened : List Held) (t : ℕ) → AreOpened short count places opened → 1 ≤ t → t ≤ count → IsIntact short places t
intact short count places opened t all some within =
    let found = some_value (IsOpenedAt short places) count opened t all some within in
    record { table = table_of found.0.cells; layout = found.1.layout; opens = found.1.opens }

-- ---- table by table

pub none_opened : (short : ℕ) (places : Places) → AreOpened short 0 places []
none_opened short places = record { long = refl; each = tt }

pub one_more : (short count : ℕ) (places : Places) (opened : List Held) (table : Held) → AreOpened short count places opened → IsOpened short places (count + 1) table.cells
    → AreOpened short (count + 1) places (opened ++ table ∷ [])
one_more short count places opened table all next =
    let long = all.long in
    let number : count + 1 ≡ 1 + length opened = omega (arith, long) in
    record {
      long = length-append opened (table ∷ []) ∙ ap (λ (n : ℕ). n + 1) all.long;
      each = AllFrom-push (IsOpenedAt short places) 1 opened table all.each (subst (λ (n : ℕ). IsOpenedAt short places n table) number next);
    }

-- the damage of a table behind those that are intact
pub error_in : (short tables count : ℕ) (places : Places) (opened : List Held) (error : OpenedError) → AreOpened short count places opened → count < tables
    → IsErrorOf short places (count + 1) error → IsErrorIn short tables places error
error_in short tables count places opened OutOfMemory all less is = tt
error_in short tables count places opened (Damaged file place) all less is = record {
  number = count + 1;
  within = (omega arith, omega (arith, less));
  before = λ t some below. intact short count places opened t all some (omega (arith, below));
  damage = is;
}

-- the error that a `?` hands on
pub if_err : {T E : Type 0} (r : Result T E) (P : E → Type 0) (error : E) → IsErrAnd r (λ e. e ≡ error) → P error → IfErr r P
if_err (Ok x) P error is holds = tt
if_err (Err e) P error is holds = subst P (sym is) holds
