-- Tables in order of their numbers.
use Rattle.std.proofs.Common.{◌≡◌, ◌≢◌, ℕ, zero, suc, ◌+◌, ◌-◌, ◌<◌, ◌≤◌, true, false, cond, eqb, ltb, rules, Bor, ⊎_elim, List, [], ◌∷◌, length, get_or, Option, Some, None, refl, sym, ap, subst, ◌∙◌, arith}
use Rattle.std.specs.Prelude.{IfSome, MatchOption, is_some}
use Rattle.std.proofs.lemmas.Bool.{ltb-true, lt-ltb, cases_lt, ne_eqb, false≢true}
use Rattle.px_chain.specs.Unused.{unused_table}
use Rattle.px_laid.specs.Places.{Places}
use Rattle.px_laid.specs.Whole.{AllFrom}
use Rattle.px_opened.specs.Opened.{AreOpened, IsOpened, numbered_from, tables_of}
use Rattle.px_tables.specs.Held.{Held, table_of}
use Rattle.px_held.specs.Serving.{AreNumbered, HeldTables, IsNumbered, IsTableOf}

all_numbered : (short : ℕ) (places : Places) (first : ℕ) (opened : List Held) → AllFrom (λ number table. IsOpened short places number table.cells) first opened
    → AllFrom (IsNumbered short) first opened
all_numbered short places first [] all = tt
all_numbered short places first (table ∷ others) all =
    (record { its_number = all.0.its_number; its_short = all.0.its_short }, all_numbered short places (suc first) others all.1)

pub opened_numbered : (short tables : ℕ) (places : Places) (opened : List Held) → AreOpened short tables places opened → AreNumbered short opened
opened_numbered short tables places opened all = all_numbered short places 1 opened all.each

-- ---- the table with a number

same_number : (n : ℕ) → eqb n n ≡ true
same_number n = search rules

-- so many places behind the first
at_place : (short first : ℕ) (tables : List Held) (place : ℕ) (d : Held) → AllFrom (IsNumbered short) first tables → place < length tables
    → (numbered_from first tables (first + place) ≡ table_of (get_or tables place d).cells) × IsNumbered short (first + place) (get_or tables place d)
at_place short first [] place d all within = absurd (omega (arith, within))
at_place short first (table ∷ others) zero d all within =
    let here : first ≡ first + 0 = omega arith in
    let front : numbered_from first (table ∷ others) first ≡ table_of table.cells = ap (λ b. cond b (table_of table.cells) (numbered_from (suc first) others first)) (same_number first) in
    (subst (λ (n : ℕ). numbered_from first (table ∷ others) n ≡ table_of table.cells) here front, subst (λ (n : ℕ). IsNumbered short n table) here all.0)
at_place short first (table ∷ others) (suc place) d all within =
    let on : suc first + place ≡ first + suc place = omega arith in
    let past : first + suc place ≢ first = omega arith in
    let rest = at_place short (suc first) others place d all.1 (omega (arith, within)) in (
      ap (λ b. cond b (table_of table.cells) (numbered_from (suc first) others (first + suc place))) (ne_eqb (first + suc place) first past)
          ∙ ap (numbered_from (suc first) others) (sym on) ∙ rest.0,
      subst (λ (n : ℕ). IsNumbered short n (get_or others place d)) on rest.1,
    )

-- below the first and behind the last there is none
pub none_below : (first : ℕ) (tables : List Held) (number : ℕ) → number < first → numbered_from first tables number ≡ unused_table
none_below first [] number low = refl
none_below first (table ∷ others) number low =
    let past : number ≢ first = omega (arith, low) in
    ap (λ b. cond b (table_of table.cells) (numbered_from (suc first) others number)) (ne_eqb number first past)
    ∙ none_below (suc first) others number (omega (arith, low))

none_past : (first : ℕ) (tables : List Held) (number : ℕ) → first + length tables ≤ number → numbered_from first tables number ≡ unused_table
none_past first [] number high = refl
none_past first (table ∷ others) number high =
    let past : number ≢ first = omega (arith, high) in
    ap (λ b. cond b (table_of table.cells) (numbered_from (suc first) others number)) (ne_eqb number first past)
    ∙ none_past (suc first) others number (omega (arith, high))

pub no_table_0 : (tables : List Held) → tables_of tables 0 ≡ unused_table
no_table_0 tables = none_below 1 tables 0 (omega arith)

pub no_table_past : (tables : List Held) (number : ℕ) → length tables < number → tables_of tables number ≡ unused_table
no_table_past tables number high = none_past 1 tables number (omega (arith, high))

pub table_at_number : (held : HeldTables) (number : ℕ) (table : Held) → AreNumbered held.short held.tables → 1 ≤ number → number ≤ length held.tables
    → table ≡ get_or held.tables (number - 1) table → IsTableOf held number table
table_at_number held number table all some within is =
    let same : 1 + (number - 1) ≡ number = omega (arith, some) in
    let at = at_place held.short 1 held.tables (number - 1) table all (omega (arith, some, within)) in
    let found : Held = get_or held.tables (number - 1) table in
    let tables : tables_of held.tables number ≡ table_of found.cells = subst (λ (n : ℕ). tables_of held.tables n ≡ table_of found.cells) same at.0 in
    let numbered : IsNumbered held.short number found = subst (λ (n : ℕ). IsNumbered held.short n found) same at.1 in
    record { is = tables ∙ ap (λ (h : Held). table_of h.cells) (sym is); numbered = subst (λ (h : Held). IsNumbered held.short number h) (sym is) numbered }

not_below : (a b : ℕ) → ltb a b ≡ false → b ≤ a
not_below a b fails = ⊎_elim (λ (below : a < b). absurd (false≢true (sym fails ∙ lt-ltb a b below))) (λ (past : b ≤ a). past) (cases_lt a b)

-- what a look-up by the place in front of the number gave
pub table_got : (held : HeldTables) (number : ℕ) (got : Option (Bor Held)) → AreNumbered held.short held.tables → number ≢ 0
    → is_some got ≡ ltb (number - 1) (length held.tables) → IfSome got (λ table. table.now ≡ get_or held.tables (number - 1) table.now)
    → MatchOption got (tables_of held.tables number ≡ unused_table) (λ table. IsTableOf held number table.now)
table_got held number None all some there is =
    let past : length held.tables ≤ number - 1 = not_below (number - 1) (length held.tables) (sym there) in
    no_table_past held.tables number (omega (arith, some, past))
table_got held number (Some table) all some there is =
    let within : number - 1 < length held.tables = ltb-true (number - 1) (length held.tables) (sym there) in
    table_at_number held number table.now all (omega (arith, some)) (omega (arith, some, within)) is
