-- One of the tables replaced by another one with its number.
use Rattle.std.proofs.Common.{◌≡◌, ◌≢◌, ℕ, zero, suc, ◌+◌, ◌-◌, ◌<◌, cond, eqb, ⊎_elim, List, [], ◌∷◌, length, map, set, get_or, Option, Some, None, Result, Ok, Err, sym, ap, subst, ◌∙◌, arith}
use Rattle.std.specs.Prelude.{IfOk, IfSome}
use Rattle.std.proofs.lemmas.Bool.{cases_eq, eq-eqb, ne_eqb}
use Rattle.std.proofs.lemmas.List.{get_or_default, get_or-set_same, length-set}
use Rattle.px_change.specs.Version.{version_change}
use Rattle.px_chain.specs.Links.{IsStored, link_cells}
use Rattle.px_chain.specs.Table.{Table, laid}
use Rattle.px_history.specs.Steps.{after_put, layout_linked}
use Rattle.px_history.specs.Store.{Store}
use Rattle.px_history.proofs.Agreeing.{link_of}
use Rattle.px_history.specs.Written.{change_of}
use Rattle.px_laid.specs.Whole.{AllFrom}
use Rattle.px_opened.specs.Opened.{numbered_from, tables_of}
use Rattle.px_shown.specs.Changes.{taken_slot}
use Rattle.px_shown.specs.Tables.{with_table}
use Rattle.px_shown.proofs.Changes.{link_stays_sound}
use Rattle.px_site.specs.State.{State}
use Rattle.px_tables.specs.declared.linking.Linking.{Linking}
use Rattle.px_tables.specs.declared.linking.Place.{Place}
use Rattle.px_tables.specs.Held.{Cells, Held, table_of}
use Rattle.px_tables.specs.Linking.{IsLink, IsPlaceFor, IsPrepared}
use Rattle.px_held.specs.declared.prepared.Prepared.{Prepared}
use Rattle.px_held.specs.Linking.{HasPlaceFor, HasTable, IsHeldAt, IsNextPlace, IsReady, step_of}
use Rattle.px_held.specs.Serving.{AreNumbered, HeldTables, IsNumbered, IsTableOf, Serves}
use Rattle.px_held.proofs.Numbered.{table_at_number}
use Rattle.px_held.proofs.Serving.{served, serving, table_served}

-- ---- lists

-- one of two that are asked first, where they are apart
asked_first : (n a b : ℕ) (one other none : Table) → a ≢ b → cond (eqb n a) one (cond (eqb n b) other none) ≡ cond (eqb n b) other (cond (eqb n a) one none)
asked_first n a b one other none apart = ⊎_elim
    (λ (is : n ≡ a).
    ap (λ c. cond c one (cond (eqb n b) other none)) (eq-eqb n a is)
    ∙ sym (ap (λ c. cond c other (cond (eqb n a) one none)) (ne_eqb n b (λ same. apart (sym is ∙ same))) ∙ ap (λ c. cond c one none) (eq-eqb n a is)))
    (λ (not_a : n ≢ a).
    ap (λ c. cond c one (cond (eqb n b) other none)) (ne_eqb n a not_a)
    ∙ sym (ap (λ c. cond (eqb n b) other (cond c one none)) (ne_eqb n a not_a)))
    (cases_eq n a)

-- what is asked twice is asked once
asked_again : (n a : ℕ) (one other none : Table) → cond (eqb n a) one none ≡ cond (eqb n a) one (cond (eqb n a) other none)
asked_again n a one other none = ⊎_elim
    (λ (is : n ≡ a). ap (λ c. cond c one none) (eq-eqb n a is) ∙ sym (ap (λ c. cond c one (cond (eqb n a) other none)) (eq-eqb n a is)))
    (λ (not_a : n ≢ a). sym (ap (λ c. cond (eqb n a) one (cond c other none)) (ne_eqb n a not_a)))
    (cases_eq n a)

replaced_from : (first : ℕ) (tables : List Held) (place : ℕ) (table : Held) (n : ℕ) → place < length tables
    → numbered_from first (set tables place table) n ≡ with_table (numbered_from first tables) (first + place) (table_of table.cells) n
replaced_from first [] place table n within = absurd (omega (arith, within))
replaced_from first (old ∷ others) zero table n within =
    let here : first ≡ first + 0 = omega arith in
    asked_again n first (table_of table.cells) (table_of old.cells) (numbered_from (suc first) others n)
    ∙ ap (λ (a : ℕ). cond (eqb n a) (table_of table.cells) (numbered_from first (old ∷ others) n)) here
replaced_from first (old ∷ others) (suc place) table n within =
    let on : suc first + place ≡ first + suc place = omega arith in
    let past : first ≢ first + suc place = omega arith in
    ap (λ (t : Table). cond (eqb n first) (table_of old.cells) t) (replaced_from (suc first) others place table n (omega (arith, within)))
    ∙ ap (λ (a : ℕ). cond (eqb n first) (table_of old.cells) (cond (eqb n a) (table_of table.cells) (numbered_from (suc first) others n))) on
    ∙ asked_first n first (first + suc place) (table_of old.cells) (table_of table.cells) (numbered_from (suc first) others n) past

numbers_kept : (short first : ℕ) (tables : List Held) (place : ℕ) (table : Held) → place < length tables → AllFrom (IsNumbered short) first tables
    → IsNumbered short (first + place) table → AllFrom (IsNumbered short) first (set tables place table)
numbers_kept short first [] place table within all its = tt
numbers_kept short first (old ∷ others) zero table within all its =
    let here : first + 0 ≡ first = omega arith in (subst (λ (n : ℕ). IsNumbered short n table) here its, all.1)
numbers_kept short first (old ∷ others) (suc place) table within all its =
    let on : first + suc place ≡ suc first + place = omega arith in
    (all.0, numbers_kept short (suc first) others place table (omega (arith, within)) all.1 (subst (λ (n : ℕ). IsNumbered short n table) on its))

-- what follows from what holds of a result
pub if_so : {X E : Type 0} (P Q : X → Type 0) (r : Result X E) → ((x : X) → P x → Q x) → IfOk r P → IfOk r Q
if_so P Q (Ok x) so is = so x is
if_so P Q (Err e) so is = tt

-- ---- what is held

abbrev pub with_held : HeldTables → (number : ℕ) → Held → HeldTables
with_held held number table = record held { tables = set held.tables (number - 1) table }

-- the table with its number is replaced
pub replaced : (held : HeldTables) (number : ℕ) (table : Held) (n : ℕ) → HasTable held number
    → tables_of (with_held held number table).tables n ≡ with_table (tables_of held.tables) number (table_of table.cells) n
replaced held number table n there =
    let some = there.0 in
    let within = there.1 in
    let same : 1 + (number - 1) ≡ number = omega (arith, some) in
    replaced_from 1 held.tables (number - 1) table n (omega (arith, some, within))
    ∙ ap (λ (a : ℕ). with_table (tables_of held.tables) a (table_of table.cells) n) same

pub still_numbered : (held : HeldTables) (number : ℕ) (table : Held) → AreNumbered held.short held.tables → HasTable held number → IsNumbered held.short number table
    → AreNumbered held.short (with_held held number table).tables
still_numbered held number table all there its =
    let some = there.0 in
    let within = there.1 in
    let same : number ≡ 1 + (number - 1) = omega (arith, some) in
    numbers_kept held.short 1 held.tables (number - 1) table (omega (arith, some, within)) all (subst (λ (n : ℕ). IsNumbered held.short n table) same its)

-- the table that stands there
pub held_there : (held : HeldTables) (number : ℕ) (table : Held) → AreNumbered held.short held.tables → HasTable held number
    → table ≡ get_or held.tables (number - 1) table → IsTableOf held number table
held_there held number table all there is = table_at_number held number table all there.0 there.1 is

pub held_at : (held : HeldTables) (number : ℕ) (table : Held) → AreNumbered held.short held.tables → HasTable held number
    → table ≡ get_or held.tables (number - 1) table → IsHeldAt held number table
held_at held number table all there is = record { there = there; is = is; numbered = (held_there held number table all there is).numbered }

-- in its place a table with the same cells, which has its number
pub same_number_there : (held : HeldTables) (number : ℕ) (old table : Held) → IsTableOf held number old → table.cells ≡ old.cells → IsNumbered held.short number table
same_number_there held number old table at same = record {
  its_number = ap (λ (cells : Cells). cells.number) same ∙ at.numbered.its_number;
  its_short = ap (λ (cells : Cells). cells.short) same ∙ at.numbered.its_short;
}

pub held_in_place : (held : HeldTables) (number : ℕ) (table : Held) → HasTable held number → IsNumbered held.short number table
    → IsHeldAt (with_held held number table) number table
held_in_place held number table there its =
    let some = there.0 in
    let within = there.1 in
    let long = length-set held.tables (number - 1) table in
    record {
      there = (there.0, omega (arith, within, long));
      is = sym (get_or-set_same held.tables (number - 1) table table (omega (arith, some, within)));
      numbered = its;
    }

pub places_held : (held : HeldTables) (number : ℕ) (key : List ℕ) (table : Held) (found : Option Place) → HasTable held number → IsNumbered held.short number table
    → IfSome found (IsPlaceFor table key) → IfSome found (HasPlaceFor (with_held held number table) number key)
places_held held number key table None there its places = tt
places_held held number key table (Some place) there its places =
    record { table = table; at = held_in_place held number table there its; place_is = places }

same_tables : (held : HeldTables) (number : ℕ) (old table : Held) (n : ℕ) → HasTable held number → IsTableOf held number old → table.cells ≡ old.cells
    → tables_of (with_held held number table).tables n ≡ tables_of held.tables n
same_tables held number old table n there at same =
    replaced held number table n there
    ∙ ⊎_elim
    (λ (is : n ≡ number).
    ap (λ c. cond c (table_of table.cells) (tables_of held.tables n)) (eq-eqb n number is) ∙ ap table_of same ∙ sym at.is ∙ ap (tables_of held.tables) (sym is))
    (λ (other : n ≢ number). ap (λ c. cond c (table_of table.cells) (tables_of held.tables n)) (ne_eqb n number other))
    (cases_eq n number)

pub serves_still : (site : State) (held : HeldTables) (store : Store) (number : ℕ) (old table : Held) → HasTable held number → IsTableOf held number old
    → table.cells ≡ old.cells → Serves site held store → Serves site (with_held held number table) store
serves_still site held store number old table there at same serves =
    let are = served site held store serves in
    serving site (with_held held number table) store (record { tables = λ n. same_tables held number old table n there at same ∙ are.tables n; sound = are.sound })

-- in its place the store's table with other cells
pub tables_replaced : (site : State) (held : HeldTables) (store : Store) (number : ℕ) (table : Held) (after : Table) (n : ℕ) → HasTable held number
    → table_of table.cells ≡ after → Serves site held store → tables_of (with_held held number table).tables n ≡ with_table store.tables number after n
tables_replaced site held store number table after n there is serves =
    replaced held number table n there
    ∙ ap (λ (t : Table). cond (eqb n number) t (tables_of held.tables n)) is
    ∙ ap (λ (t : Table). cond (eqb n number) after t) ((served site held store serves).tables n)

-- ---- a link

abbrev linked_over : Table → Linking → Table
linked_over table linking = laid table (link_cells linking.header linking.number linking.slot)

-- the cells of the linking over the store's table
linked_is : (old : Held) (table : Table) (linking : Linking) → table_of old.cells ≡ table → IsPrepared old linking
    → linked_over (table_of old.cells) linking ≡ laid table (link_cells linking.header (taken_slot table) linking.slot)
linked_is old table linking same prepared =
    ap (λ (number : ℕ). laid (table_of old.cells) (link_cells linking.header number linking.slot)) prepared.number
    ∙ ap (λ (t : Table). laid t (link_cells linking.header (taken_slot t) linking.slot)) same

pub serves_linked : (site : State) (held : HeldTables) (store : Store) (number : ℕ) (old table : Held) (linking : Linking) → HasTable held number → IsTableOf held number old
    → IsPrepared old linking → table_of table.cells ≡ linked_over (table_of old.cells) linking
    → Serves site held store → Serves site (with_held held number table) (after_put store number linking.header linking.slot)
serves_linked site held store number old table linking there at prepared is serves =
    let are = served site held store serves in
    let header = linking.header in
    let slot = linking.slot in
    let before = store.tables number in
    let same : table_of old.cells ≡ before = sym at.is ∙ are.tables number in
    let layout = layout_linked before (store.layouts number) slot in
    let link : IsLink before header slot = subst (λ (t : Table). IsLink t header slot) same prepared.link in
    let stored : IsStored held.short slot = subst (λ (n : ℕ). IsStored n slot) at.numbered.its_short prepared.stored in
    serving site (with_held held number table) (after_put store number header slot) (record {
      tables = λ n. tables_replaced site held store number table (laid before (link_cells header (taken_slot before) slot)) n there
          (is ∙ linked_is old before linking same prepared) serves;
      sound = link_stays_sound held.short store.tables store.layouts number header slot layout are.sound stored
          (link_of held.short before (store.layouts number) header slot (are.sound number) link);
    })

-- what stands there is what was prepared for
pub prepared_there : (held : HeldTables) (prepared : Prepared) (table : Held) → IsReady held prepared → table ≡ get_or held.tables (prepared.table - 1) table
    → IsPrepared table prepared.linking
prepared_there held prepared table ready is =
    let some = ready.at.there.0 in
    let within = ready.at.there.1 in
    subst (λ (t : Held). IsPrepared t prepared.linking)
    (ready.at.is ∙ get_or_default held.tables (prepared.table - 1) ready.table table (omega (arith, some, within)) ∙ sym is) ready.linking_is

-- what was found for the table in memory is so for the store's
pub next_places : (held : Held) (table : Table) (key : List ℕ) (found : Option Place) → table_of held.cells ≡ table → IfSome found (IsPlaceFor held key)
    → IfSome found (IsNextPlace table key)
next_places held table key None same places = tt
next_places held table key (Some place) same places =
    subst (λ (t : Table). IsNextPlace t key place) same (record { its_number = places.number_is; link = places.link })

-- what the frame of what was prepared carries is the change of the store's step
pub version_is : (site : State) (held : HeldTables) (store : Store) (prepared : Prepared) (ready : IsReady held prepared) → IsTableOf held prepared.table ready.table
    → Serves site held store
    → version_change held.short prepared.table prepared.linking.header prepared.linking.number prepared.linking.slot ≡ change_of held.short store (step_of prepared)
version_is site held store prepared ready at serves =
    let header = prepared.linking.header in
    let slot = prepared.linking.slot in
    let same : table_of ready.table.cells ≡ store.tables prepared.table = sym (table_served site held store prepared.table serves at) in
    ap (λ (number : ℕ). version_change held.short prepared.table header number slot) ready.linking_is.number
    ∙ ap (λ (t : Table). version_change held.short prepared.table header (taken_slot t) slot) same
