-- Whom a write meets: who holds its key, and who committed it last.
use Rattle.std.proofs.Common.{◌≡◌, ◌≢◌, ℕ, zero, suc, ◌==◌, ◌⊎◌, ◌-◌, Bool, true, false, cond, inl, inr, List, [], ◌∷◌, map, get_or, set, reverse, Option, Some, None, option_map, refl, sym, ap, ◌∙◌}
use Rattle.std.specs.Prelude.{find, nat_le}
use Rattle.std.specs.Option.{option_or}
use Rattle.std.proofs.lemmas.Bool.{false≢true, cases_eq, eq-eqb, eqb-true, ne_eqb}
use Rattle.std.proofs.lemmas.Option.{none-some, same_Some}
use Rattle.std.proofs.lemmas.List.{get_or-set_other}
use Rattle.px_answers.proofs.Seen.{found_there}
use Rattle.px_answers.specs.Asking.{IsOpenIn}
use Rattle.px_answers.specs.declared.caller.Opened.{Opened}
use Rattle.px_answers.specs.Seeing.{Sees}
use Rattle.px_answers.specs.Writing.{committed_since, number_since}
use Rattle.px_calls.specs.Steps.{conflict_of, open_writer}
use Rattle.px_cell_laws.proofs.Chained.{no_row_no_chain}
use Rattle.px_cell_laws.specs.Holding.{number_past, variation_in}
use Rattle.px_cell_laws.specs.Reading.{view_of}
use Rattle.px_chain.specs.declared.views.SlotView.{SlotView}
use Rattle.px_chain.specs.Visible.{is_done}
use Rattle.px_chain_laws.proofs.Reading.{conflict_stands_there}
use Rattle.px_chain_laws.proofs.Standings.{mirrored_standing}
use Rattle.px_chain_laws.specs.Kept.{HaveOwnKeys}
use Rattle.px_chain_laws.specs.Reading.{is_committed, number_in, standing_in, writer_past}
use Rattle.px_chain_laws.specs.Reading as machine
use Rattle.px_held.proofs.Committed.{committed_in_cells}
use Rattle.px_held.specs.Reading.{newest_committed}
use Rattle.px_held.specs.Serving.{HeldTables}
use Rattle.px_history.specs.Store.{Store}
use Rattle.px_locks.specs.Holders.{Holders, holder_of, unless_held_by}
use Rattle.px_machine_laws.proofs.Overlap.{slot_cases}
use Rattle.px_machine_laws.specs.Begun.{WereBegun}
use Rattle.px_model.specs.declared.machine.Open.{Open}
use Rattle.px_model.specs.declared.machine.Variation.{Variation}
use Rattle.px_model.specs.declared.standing.Standing.{Standing}
use Rattle.px_model.specs.declared.standing.Standing.TheVariants.{Before, Committed, Open as OpenYet, RolledBack}
use Rattle.px_model.specs.Machine.{Machine}
use Rattle.px_model.specs.Rows.{Key, has_write_of}
use Rattle.px_shown.specs.Parts.{no_parts}
use Rattle.px_site.specs.State.{State}
use Rattle.px_tables.specs.Keys.{HasNoRow, IsRowOf}
use Rattle.px_xacts.specs.Transactions.{Transactions, standing, standing_from}
use Rattle.px_xacts_laws.specs.Mirrors.{Mirrors}

-- ---- who holds the key

-- no key is written by two open transactions
abbrev WriteApart : List (Option Open) → Type 0
WriteApart active = (one other : ℕ) (x y : Open) (key : Key) → get_or active one None ≡ Some x → get_or active other None ≡ Some y
    → has_write_of key x.writes ≡ true → has_write_of key y.writes ≡ true → one ≡ other

write_apart : (m : Machine) → HaveOwnKeys m.ended m.active → WriteApart m.active
write_apart m own one other x y key at bt h g = elim (cases_eq other one) [
  | inl same ↦ sym same
  | inr apart ↦ absurd (own.apart one other x y key apart at bt h g)
]

-- a transaction of that number is open and has written the key
record Writes (active : List (Option Open)) (key : Key) (number : ℕ) : Type 0 where
  place : ℕ
  xact : Open
  at : get_or active place None ≡ Some xact
  has : has_write_of key xact.writes ≡ true
  is : xact.number ≡ number

later : (slot : Option Open) (slots : List (Option Open)) (key : Key) (number : ℕ) → Writes slots key number → Writes (slot ∷ slots) key number
later slot slots key number w = record { place = suc w.place; xact = w.xact; at = w.at; has = w.has; is = w.is }

writer-is : (key : Key) (slots : List (Option Open)) (number : ℕ) → open_writer key slots ≡ Some number → Writes slots key number
writer-is key [] number h = absurd (none-some number h)
writer-is key (None ∷ slots) number h = later None slots key number (writer-is key slots number h)
writer-is key (Some x ∷ slots) number h =
    elim (has_write_of key x.writes) as (λ b. has_write_of key x.writes ≡ b → cond b (Some x.number) (open_writer key slots) ≡ Some number → Writes (Some x ∷ slots) key number) [
      | true ↦ λ has e. record { place = 0; xact = x; at = refl; has = has; is = same_Some x.number number e }
      | false ↦ λ _ e. later (Some x) slots key number (writer-is key slots number e)
    ] refl h

open_none : (key : Key) (slots : List (Option Open)) → open_writer key slots ≡ None → (t : ℕ) (y : Open) → get_or slots t None ≡ Some y
    → has_write_of key y.writes ≡ true → ⊥
open_none key [] h t y at w = none-some y at
open_none key (None ∷ slots) h zero y at w = none-some y at
open_none key (None ∷ slots) h (suc t) y at w = open_none key slots h t y at w
open_none key (Some x ∷ slots) h zero y at w =
    none-some x.number (sym (ap (λ b. cond b (Some x.number) (open_writer key slots)) (sym (ap (λ (z : Open). has_write_of key z.writes) (same_Some x y at) ∙ w)) ∙ h))
open_none key (Some x ∷ slots) h (suc t) y at w =
    elim (has_write_of key x.writes) as (λ b. has_write_of key x.writes ≡ b → ⊥) [
      | true ↦ λ e. none-some x.number (sym (ap (λ b. cond b (Some x.number) (open_writer key slots)) (sym e) ∙ h))
      | false ↦ λ e. open_none key slots (ap (λ b. cond b (Some x.number) (open_writer key slots)) (sym e) ∙ h) t y at w
    ] refl

nobody : (key : Key) (slots : List (Option Open)) → ((number : ℕ) → Writes slots key number → ⊥) → open_writer key slots ≡ None
nobody key slots never = elim (open_writer key slots) as (λ o. open_writer key slots ≡ o → o ≡ None) [
  | None ↦ λ _. refl
  | Some number ↦ λ e. absurd (never number (writer-is key slots number e))
] refl

is-writer : (key : Key) (slots : List (Option Open)) (number : ℕ) → WriteApart slots → Writes slots key number → open_writer key slots ≡ Some number
is-writer key slots number apart w = elim (open_writer key slots) as (λ o. open_writer key slots ≡ o → o ≡ Some number) [
  | None ↦ λ e. absurd (open_none key slots e w.place w.xact w.at w.has)
  | Some other ↦ λ e.
      let v = writer-is key slots other e in
      let same : v.place ≡ w.place = apart v.place w.place v.xact w.xact key v.at w.at v.has w.has in
      let xact : v.xact ≡ w.xact = same_Some v.xact w.xact (sym v.at ∙ ap (λ p. get_or slots p None) same ∙ w.at) in
      ap (λ n. Some n) (sym v.is ∙ ap (λ (x : Open). x.number) xact ∙ w.is)
] refl

apart-closed : (active : List (Option Open)) (s : ℕ) → WriteApart active → WriteApart (set active s None)
apart-closed active s apart one other x y key at bt h g = elim (slot_cases active s one None x at) [
  | inl p ↦ absurd (none-some x p.1)
  | inr p ↦ elim (slot_cases active s other None y bt) [
    | inl q ↦ absurd (none-some y q.1)
    | inr q ↦ apart one other x y key p.1 q.1 h g
  ]
]

-- without one transaction, another holder is still the holder
holder-without : (begun : ℕ) (active : List (Option Open)) (s : ℕ) (x : Open) (key : Key) → WereBegun begun active → WriteApart active → get_or active s None ≡ Some x
    → open_writer key (set active s None) ≡ unless_held_by x.number (open_writer key active)
holder-without begun active s x key numbers apart at =
    elim (open_writer key active) as (λ o. open_writer key active ≡ o → open_writer key (set active s None) ≡ unless_held_by x.number o) [
      | None ↦ λ e. nobody key (set active s None) (λ number w. elim (slot_cases active s w.place None w.xact w.at) [
        | inl p ↦ none-some w.xact p.1
        | inr p ↦ open_none key active e w.place w.xact p.1 w.has
      ])
      | Some number ↦ λ e.
          let v = writer-is key active number e in
          elim (cases_eq v.place s) [
            | inl here ↦
                let same : v.xact ≡ x = same_Some v.xact x (sym v.at ∙ ap (λ p. get_or active p None) here ∙ at) in
                let own : number ≡ x.number = sym v.is ∙ ap (λ (z : Open). z.number) same in
                nobody key (set active s None) (λ n w. elim (slot_cases active s w.place None w.xact w.at) [
                  | inl p ↦ none-some w.xact p.1
                  | inr p ↦ p.0 (apart w.place v.place w.xact v.xact key p.1 v.at w.has v.has ∙ here)
                ])
                ∙ ap (λ b. cond b None (Some number)) (sym (eq-eqb number x.number own))
            | inr there ↦
                let differs : number ≢ x.number = λ n. there (numbers.apart v.place s v.xact x v.at at (v.is ∙ n)) in
                is-writer key (set active s None) number (apart-closed active s apart)
                (record { place = v.place; xact = v.xact; at = get_or-set_other active s v.place None None there ∙ v.at; has = v.has; is = v.is })
                ∙ ap (λ b. cond b None (Some number)) (sym (ne_eqb number x.number differs))
          ]
    ] refl

-- ---- whom a write meets

pub conflict_read : {site : State} {held : HeldTables} {all : Transactions} {holders : Holders} {m : Machine} {store : Store} {session : ℕ} {xact : Open} {opened : Opened}
    (key : Key) → Sees site held all holders m store → IsOpenIn m session xact opened
    → conflict_of m session xact key ≡ option_or (unless_held_by opened.number (holder_of key holders)) (writer_past m xact.snap (machine.newest_committed m key))
conflict_read {holders = holders} {m = m} {session = session} {xact = xact} {opened = opened} key sees is =
    let past = writer_past m xact.snap (machine.newest_committed m key) in
    conflict_stands_there m session xact key sees.kept is.is_open
    ∙ ap (λ o. option_or o past) (holder-without m.begun m.active session xact key sees.kept.numbered.open_ones (write_apart m sees.kept.own_keys) is.is_open)
    ∙ ap (λ o. option_or (unless_held_by xact.number o) past) (sym (sees.holders key))
    ∙ ap (λ n. option_or (unless_held_by n (holder_of key holders)) past) (sym (ap (λ (o : Opened). o.number) is.known))

-- nobody else holds the key: the one who may write it holds it, or nobody does
pub none_or_own : (number : ℕ) (holder : Option ℕ) → unless_held_by number holder ≡ None → (holder ≡ None) ⊎ (holder ≡ Some number)
none_or_own number None free = inl refl
none_or_own number (Some other) free = (elim (other == number) as (λ b. other == number ≡ b → cond b None (Some other) ≡ None → (Some other ≡ None) ⊎ (Some other ≡ Some number)) [
  | true ↦ λ same _. inr (ap (λ n. Some n) (eqb-true other number same))
  | false ↦ λ _ is. absurd (none-some other (sym is))
]) refl free

-- ---- who committed it last

pub no_row_committed : {site : State} {held : HeldTables} {all : Transactions} {holders : Holders} {m : Machine} {store : Store} (snap t : ℕ) (key : List ℕ)
    → Sees site held all holders m store → HasNoRow (store.tables t) key → None ≡ writer_past m snap (machine.newest_committed m (t, key))
unfolding machine.newest_committed
no_row_committed {m = m} {store = store} snap t key sees none =
    ap (λ (l : List Variation). writer_past m snap (find (λ (v : Variation). is_committed (standing_in m v.xn)) (reverse l)))
    (sym (no_row_no_chain no_parts m store (t, key) sees.holds none))

-- a number that committed since the opening is told where it did so at or past the snapshot
since_done : (base snap xn : ℕ) (s : Standing) → is_committed s ≡ true → number_since base snap xn s ≡ cond (is_done snap s) None (Some (xn - base))
since_done base snap xn Before done = refl
since_done base snap xn OpenYet done = absurd (false≢true done)
since_done base snap xn RolledBack done = absurd (false≢true done)
since_done base snap xn (Committed place) done = refl

-- it isn't one from before the opening
past_base : (m : Machine) (all : Transactions) (xn : ℕ) → Mirrors m all → is_committed (standing all xn) ≡ true → number_past m.base xn ≡ Some xn
unfolding standing
past_base m all xn mirrors done =
    (elim (nat_le xn m.base) as (λ b. nat_le xn m.base ≡ b → cond b None (Some xn) ≡ Some xn) [
      | true ↦ λ low. absurd (false≢true
          (ap (λ b. is_committed (cond b Before (standing_from 0 all.outcomes (xn - all.base)))) (sym (ap (nat_le xn) mirrors.base ∙ low)) ∙ done))
      | false ↦ λ _. refl
    ]) refl

since_known : (m : Machine) (all : Transactions) (snap xn : ℕ) (v : Variation) (s : Standing) → Mirrors m all → standing all xn ≡ s → is_committed s ≡ true
    → v.xn ≡ number_past m.base xn → number_since m.base snap xn s ≡ writer_past m snap (Some v)
since_known m all snap xn v s mirrors is done numbered =
    since_done m.base snap xn s done
    ∙ ap (λ z. cond (is_done snap z) None (Some (xn - m.base))) (sym is ∙ mirrored_standing m all xn mirrors)
    ∙ ap (λ n. cond (is_done snap (standing_in m n)) None (number_in m n)) (sym (numbered ∙ past_base m all xn mirrors (ap is_committed is ∙ done)))

pub committed_last : {site : State} {held : HeldTables} {all : Transactions} {holders : Holders} {m : Machine} {store : Store} (snap t row : ℕ) (key : List ℕ)
    → Sees site held all holders m store → IsRowOf (store.tables t) key row
    → committed_since m.base snap (newest_committed all store t row) ≡ writer_past m snap (machine.newest_committed m (t, key))
committed_last {all = all} {m = m} {store = store} snap t row key sees its =
    let table = store.tables t in
    let places = (store.layouts t).chain row in
    let is_newest : SlotView → Bool = λ v. is_committed v.standing in
    let at : SlotView → Variation = λ v. variation_in no_parts m.base t (table.slot v.slot) in
    (elim (find is_newest (map (view_of all table) places)) as (λ o. find is_newest (map (view_of all table) places) ≡ o
    → committed_since m.base snap o ≡ writer_past m snap (option_map at o)) [
      | None ↦ λ _. refl
      | Some v ↦ λ found.
          let its_view = found_there (λ n. Unit {0}) is_newest all table places v found (λ k d within. tt) in
          let own : v.xn ≡ (table.slot v.slot).xn = ap (λ (w : SlotView). w.xn) its_view.1 in
          let known : standing all v.xn ≡ v.standing = ap (standing all) own ∙ sym (ap (λ (w : SlotView). w.standing) its_view.1) in
          since_known m all snap v.xn (at v) v.standing sees.mirrors known its_view.2 (ap (number_past m.base) (sym own))
    ]) refl
    ∙ ap (writer_past m snap) (committed_in_cells no_parts m all store t row sees.holds sees.mirrors its.0)
    ∙ ap (λ (k : List ℕ). writer_past m snap (machine.newest_committed m (t, k))) its.1

-- ---- both together

pub held_by_another : {site : State} {held : HeldTables} {all : Transactions} {holders : Holders} {m : Machine} {store : Store} {session : ℕ} {xact : Open} {opened : Opened}
    (key : Key) (number : ℕ) → Sees site held all holders m store → IsOpenIn m session xact opened → unless_held_by opened.number (holder_of key holders) ≡ Some number
    → conflict_of m session xact key ≡ Some number
held_by_another {m = m} {xact = xact} key number sees is another =
    conflict_read key sees is ∙ ap (λ o. option_or o (writer_past m xact.snap (machine.newest_committed m key))) another

pub met_in_commits : {site : State} {held : HeldTables} {all : Transactions} {holders : Holders} {m : Machine} {store : Store} {session : ℕ} {xact : Open} {opened : Opened}
    (key : Key) (writer : Option ℕ) → Sees site held all holders m store → IsOpenIn m session xact opened → unless_held_by opened.number (holder_of key holders) ≡ None
    → writer_past m xact.snap (machine.newest_committed m key) ≡ writer → conflict_of m session xact key ≡ writer
met_in_commits {m = m} {xact = xact} key writer sees is nobody_else past =
    conflict_read key sees is ∙ ap (λ o. option_or o (writer_past m xact.snap (machine.newest_committed m key))) nobody_else ∙ past
