-- Who has written a key, and what of it a change of one place leaves.
use Rattle.std.proofs.Common.{◌≡◌, ◌≢◌, ℕ, zero, suc, Bool, true, false, cond, ◌||◌, inl, inr, List, [], ◌∷◌, ◌++◌, length, get_or, set, Option, Some, None, refl, sym, ap, ◌∙◌}
use Rattle.std.proofs.lemmas.Bool.{false≢true, cases_eq, cases_lt, eq-eqb, ne_eqb}
use Rattle.std.proofs.lemmas.Option.{none-some, same_Some}
use Rattle.std.proofs.lemmas.List.{get_or-set_same, get_or-set_other, get_or_past}
use Rattle.std.proofs.lemmas.List.Folds.{list_any-append}
use Rattle.px_model.specs.declared.machine.Open.{Open}
use Rattle.px_model.specs.declared.write.Write.{Write}
use Rattle.px_model.specs.Rows.{Key, same_key, key_written, has_write_of}
use Rattle.px_calls.specs.Steps.{open_writer, plus_write}
use Rattle.px_machine_laws.specs.Begun.{WereBegun}
use Rattle.px_machine_laws.proofs.Overlap.{same_key-is, slot_cases}
use Rattle.px_locks.specs.Holders.{unless_held_by}
use Rattle.px_locks_laws.specs.Keys.{WriteApart}

-- a transaction of that number is open and has written the key
pub record Writes (active : List (Option Open)) (key : Key) (number : ℕ) : Type 0 where
  pub place : ℕ
  pub xact : Open
  pub at : get_or active place None ≡ Some xact
  pub has : has_write_of key xact.writes ≡ true
  pub is : xact.number ≡ number

later : (slot : Option Open) (slots : List (Option Open)) (key : Key) (number : ℕ) → Writes slots key number → Writes (slot ∷ slots) key number
later slot slots key number w = record { place = suc w.place; xact = w.xact; at = w.at; has = w.has; is = w.is }

pub writer-is : (key : Key) (slots : List (Option Open)) (number : ℕ) → open_writer key slots ≡ Some number → Writes slots key number
writer-is key [] number h = absurd (none-some number h)
writer-is key (None ∷ slots) number h = later None slots key number (writer-is key slots number h)
writer-is key (Some x ∷ slots) number h =
    elim (has_write_of key x.writes) as (λ b. has_write_of key x.writes ≡ b → cond b (Some x.number) (open_writer key slots) ≡ Some number → Writes (Some x ∷ slots) key number) [
      | true ↦ λ has e. record { place = 0; xact = x; at = refl; has = has; is = same_Some x.number number e }
      | false ↦ λ _ e. later (Some x) slots key number (writer-is key slots number e)
    ] refl h

open_none : (key : Key) (slots : List (Option Open)) → open_writer key slots ≡ None → (t : ℕ) (y : Open) → get_or slots t None ≡ Some y
    → has_write_of key y.writes ≡ true → ⊥
open_none key [] h t y at w = none-some y at
open_none key (None ∷ slots) h zero y at w = none-some y at
open_none key (None ∷ slots) h (suc t) y at w = open_none key slots h t y at w
open_none key (Some x ∷ slots) h zero y at w =
    none-some x.number (sym (ap (λ b. cond b (Some x.number) (open_writer key slots)) (sym (ap (λ (z : Open). has_write_of key z.writes) (same_Some x y at) ∙ w)) ∙ h))
open_none key (Some x ∷ slots) h (suc t) y at w =
    elim (has_write_of key x.writes) as (λ b. has_write_of key x.writes ≡ b → ⊥) [
      | true ↦ λ e. none-some x.number (sym (ap (λ b. cond b (Some x.number) (open_writer key slots)) (sym e) ∙ h))
      | false ↦ λ e. open_none key slots (ap (λ b. cond b (Some x.number) (open_writer key slots)) (sym e) ∙ h) t y at w
    ] refl

pub nobody : (key : Key) (slots : List (Option Open)) → ((number : ℕ) → Writes slots key number → ⊥) → open_writer key slots ≡ None
nobody key slots never = elim (open_writer key slots) as (λ o. open_writer key slots ≡ o → o ≡ None) [
  | None ↦ λ _. refl
  | Some number ↦ λ e. absurd (never number (writer-is key slots number e))
] refl

pub not_none : (key : Key) (slots : List (Option Open)) (number : ℕ) → open_writer key slots ≡ None → Writes slots key number → ⊥
not_none key slots number none w = open_none key slots none w.place w.xact w.at w.has

pub is-writer : (key : Key) (slots : List (Option Open)) (number : ℕ) → WriteApart slots → Writes slots key number → open_writer key slots ≡ Some number
is-writer key slots number apart w = elim (open_writer key slots) as (λ o. open_writer key slots ≡ o → o ≡ Some number) [
  | None ↦ λ e. absurd (not_none key slots number e w)
  | Some other ↦ λ e.
      let v = writer-is key slots other e in
      let same : v.place ≡ w.place = apart.alone v.place w.place v.xact w.xact key v.at w.at v.has w.has in
      let xact : v.xact ≡ w.xact = same_Some v.xact w.xact (sym v.at ∙ ap (λ p. get_or slots p None) same ∙ w.at) in
      ap (λ n. Some n) (sym v.is ∙ ap (λ (x : Open). x.number) xact ∙ w.is)
] refl

pub determined : (key : Key) (a b : List (Option Open)) → WriteApart b → ((number : ℕ) → Writes a key number → Writes b key number)
    → ((number : ℕ) → Writes b key number → Writes a key number) → open_writer key b ≡ open_writer key a
determined key a b apart there back = elim (open_writer key a) as (λ o. open_writer key a ≡ o → open_writer key b ≡ o) [
  | None ↦ λ e. nobody key b (λ number w. not_none key a number e (back number w))
  | Some number ↦ λ e. is-writer key b number apart (there number (writer-is key a number e))
] refl

-- ---- a place changes

-- Each key that the place's new transaction wrote was the old one's, or nobody's.
pub apart-changed : (active : List (Option Open)) (s : ℕ) (slot : Option Open) → WriteApart active
    → ((y : Open) (key : Key) → slot ≡ Some y → has_write_of key y.writes ≡ true → (t : ℕ) (z : Open) → t ≢ s → get_or active t None ≡ Some z → has_write_of key z.writes ≡ true → ⊥)
    → WriteApart (set active s slot)
apart-changed active s slot apart alone = record {
  alone = λ one other x y key at bt h g. elim (slot_cases active s one slot x at) [
    | inl p ↦ elim (slot_cases active s other slot y bt) [
      | inl q ↦ p.0 ∙ sym q.0
      | inr q ↦ absurd (alone x key p.1 h other y q.0 q.1 g)
    ]
    | inr p ↦ elim (slot_cases active s other slot y bt) [
      | inl q ↦ absurd (alone y key q.1 g one x p.0 p.1 h)
      | inr q ↦ apart.alone one other x y key p.1 q.1 h g
    ]
  ];
}

-- who wrote a key at another place still does
other_stays : (active : List (Option Open)) (s : ℕ) (slot : Option Open) (key : Key) (number : ℕ) (w : Writes active key number) → w.place ≢ s
    → Writes (set active s slot) key number
other_stays active s slot key number w ne =
    record { place = w.place; xact = w.xact; at = get_or-set_other active s w.place slot None ne ∙ w.at; has = w.has; is = w.is }

pub apart-closed : (active : List (Option Open)) (s : ℕ) → WriteApart active → WriteApart (set active s None)
apart-closed active s apart = apart-changed active s None apart (λ y key n h t z ne bt g. none-some y n)

-- without one transaction, another holder is still the holder
pub writer-without : (begun : ℕ) (active : List (Option Open)) (s : ℕ) (x : Open) (key : Key) → WereBegun begun active → WriteApart active → get_or active s None ≡ Some x
    → open_writer key (set active s None) ≡ unless_held_by x.number (open_writer key active)
writer-without begun active s x key numbers apart at =
    elim (open_writer key active) as (λ o. open_writer key active ≡ o → open_writer key (set active s None) ≡ unless_held_by x.number o) [
      | None ↦ λ e. nobody key (set active s None) (λ number w. elim (slot_cases active s w.place None w.xact w.at) [
        | inl p ↦ none-some w.xact p.1
        | inr p ↦ not_none key active number e (record { place = w.place; xact = w.xact; at = p.1; has = w.has; is = w.is })
      ])
      | Some number ↦ λ e.
          let v = writer-is key active number e in
          elim (cases_eq v.place s) [
            | inl here ↦
                let same : v.xact ≡ x = same_Some v.xact x (sym v.at ∙ ap (λ p. get_or active p None) here ∙ at) in
                let own : number ≡ x.number = sym v.is ∙ ap (λ (z : Open). z.number) same in
                nobody key (set active s None) (λ n w. elim (slot_cases active s w.place None w.xact w.at) [
                  | inl p ↦ none-some w.xact p.1
                  | inr p ↦ p.0 (apart.alone w.place v.place w.xact v.xact key p.1 v.at w.has v.has ∙ here)
                ])
                ∙ ap (λ b. cond b None (Some number)) (sym (eq-eqb number x.number own))
            | inr there ↦
                let differs : number ≢ x.number = λ n. there (numbers.apart v.place s v.xact x v.at at (v.is ∙ n)) in
                is-writer key (set active s None) number (apart-closed active s apart) (other_stays active s None key number v there)
                ∙ ap (λ b. cond b None (Some number)) (sym (ne_eqb number x.number differs))
          ]
    ] refl

-- ---- a transaction with the same writes

pub apart-same : (active : List (Option Open)) (s : ℕ) (x y : Open) → WriteApart active → get_or active s None ≡ Some x
    → ((key : Key) → has_write_of key y.writes ≡ true → has_write_of key x.writes ≡ true) → WriteApart (set active s (Some y))
apart-same active s x y apart at fewer = apart-changed active s (Some y) apart
    (λ z key is h t other ne bt g.
    ne (apart.alone t s other x key bt at g (fewer key (ap (λ (o : Open). has_write_of key o.writes) (same_Some y z is) ∙ h))))

here_now : (active : List (Option Open)) (s : ℕ) (x y : Open) (key : Key) (number : ℕ) (v : Writes active key number) → get_or active s None ≡ Some x
    → get_or (set active s (Some y)) s None ≡ Some y → v.place ≡ s → y.number ≡ x.number → has_write_of key y.writes ≡ has_write_of key x.writes
    → Writes (set active s (Some y)) key number
here_now active s x y key number v at now here number_same writes_same =
    let same : v.xact ≡ x = same_Some v.xact x (sym v.at ∙ ap (λ p. get_or active p None) here ∙ at) in
    record {
      place = s;
      xact = y;
      at = now;
      has = writes_same ∙ ap (λ (z : Open). has_write_of key z.writes) (sym same) ∙ v.has;
      is = number_same ∙ ap (λ (z : Open). z.number) (sym same) ∙ v.is;
    }

-- at a key that the transaction has written as it had before
pub writer-same : (active : List (Option Open)) (s : ℕ) (x y : Open) (key : Key) → WriteApart (set active s (Some y)) → get_or active s None ≡ Some x
    → get_or (set active s (Some y)) s None ≡ Some y → y.number ≡ x.number → has_write_of key y.writes ≡ has_write_of key x.writes
    → open_writer key (set active s (Some y)) ≡ open_writer key active
writer-same active s x y key apart at now number_same writes_same = determined key active (set active s (Some y)) apart
    (λ number v. elim (cases_eq v.place s) [
      | inl here ↦ here_now active s x y key number v at now here number_same writes_same
      | inr there ↦ other_stays active s (Some y) key number v there
    ])
    (λ number w. elim (slot_cases active s w.place (Some y) w.xact w.at) [
      | inl p ↦
          let same : y ≡ w.xact = same_Some y w.xact p.1 in
          record {
            place = s;
            xact = x;
            at = at;
            has = sym writes_same ∙ ap (λ (z : Open). has_write_of key z.writes) same ∙ w.has;
            is = sym number_same ∙ ap (λ (z : Open). z.number) same ∙ w.is;
          }
      | inr p ↦ record { place = w.place; xact = w.xact; at = p.1; has = w.has; is = w.is }
    ])

-- a place that had nobody and takes one who wrote nothing
pub apart-begun : (active : List (Option Open)) (s : ℕ) (y : Open) → WriteApart active → y.writes ≡ [] → WriteApart (set active s (Some y))
apart-begun active s y apart nothing = apart-changed active s (Some y) apart
    (λ z key is h t other ne bt g. false≢true (ap (has_write_of key) (sym nothing) ∙ ap (λ (o : Open). has_write_of key o.writes) (same_Some y z is) ∙ h))

pub writer-begun : (active : List (Option Open)) (s : ℕ) (y : Open) (key : Key) → WriteApart active → get_or active s None ≡ None → y.writes ≡ []
    → open_writer key (set active s (Some y)) ≡ open_writer key active
writer-begun active s y key apart none nothing = determined key active (set active s (Some y)) (apart-begun active s y apart nothing)
    (λ number v. other_stays active s (Some y) key number v (λ here. none-some v.xact (sym none ∙ ap (λ p. get_or active p None) (sym here) ∙ v.at)))
    (λ number w. elim (slot_cases active s w.place (Some y) w.xact w.at) [
      | inl p ↦ absurd (false≢true (ap (has_write_of key) (sym nothing) ∙ ap (λ (o : Open). has_write_of key o.writes) (same_Some y w.xact p.1) ∙ w.has))
      | inr p ↦ record { place = w.place; xact = w.xact; at = p.1; has = w.has; is = w.is }
    ])

-- ---- one more write

or_nothing : (b : Bool) → (b || (false || false)) ≡ b
or_nothing true = refl
or_nothing false = refl

or_something : (b : Bool) → (b || (true || false)) ≡ true
or_something true = refl
or_something false = refl

pub has-other : (key : Key) (writes : List Write) (w : Write) → same_key key (key_written w) ≡ false → has_write_of key (writes ++ w ∷ []) ≡ has_write_of key writes
has-other key writes w other =
    list_any-append (λ v. same_key key (key_written v)) writes (w ∷ [])
    ∙ ap (λ b. has_write_of key writes || (b || false)) other
    ∙ or_nothing (has_write_of key writes)

pub has-new : (key : Key) (writes : List Write) (w : Write) → same_key key (key_written w) ≡ true → has_write_of key (writes ++ w ∷ []) ≡ true
has-new key writes w same =
    list_any-append (λ v. same_key key (key_written v)) writes (w ∷ [])
    ∙ ap (λ b. has_write_of key writes || (b || false)) same
    ∙ or_something (has_write_of key writes)

-- a place that has somebody is there
pub now_there : (active : List (Option Open)) (s : ℕ) (x y : Open) → get_or active s None ≡ Some x → get_or (set active s (Some y)) s None ≡ Some y
now_there active s x y at = elim (cases_lt s (length active)) [
  | inl lt ↦ get_or-set_same active s (Some y) None lt
  | inr le ↦ absurd (none-some x (sym (get_or_past active s None le) ∙ at))
]

pub apart-written : (active : List (Option Open)) (s : ℕ) (x : Open) (w : Write) → WriteApart active → get_or active s None ≡ Some x
    → open_writer (key_written w) (set active s None) ≡ None → WriteApart (set active s (Some (plus_write w x)))
apart-written active s x w apart at free = apart-changed active s (Some (plus_write w x)) apart
    (λ z key is h t other ne bt g.
    let has : has_write_of key (x.writes ++ w ∷ []) ≡ true = ap (λ (o : Open). has_write_of key o.writes) (same_Some (plus_write w x) z is) ∙ h in
    elim (same_key key (key_written w)) as (λ b. same_key key (key_written w) ≡ b → ⊥) [
      | true ↦ λ e. open_none (key_written w) (set active s None) free t other (get_or-set_other active s t None None ne ∙ bt)
          (ap (λ k. has_write_of k other.writes) (sym (same_key-is key (key_written w) e)) ∙ g)
      | false ↦ λ e. ne (apart.alone t s other x key bt at g (sym (has-other key x.writes w e) ∙ has))
    ] refl)

pub writer-written : (active : List (Option Open)) (s : ℕ) (x : Open) (w : Write) (q : Key) → WriteApart active → get_or active s None ≡ Some x
    → open_writer (key_written w) (set active s None) ≡ None
    → open_writer q (set active s (Some (plus_write w x))) ≡ cond (same_key q (key_written w)) (Some x.number) (open_writer q active)
writer-written active s x w q apart at free =
    let now = now_there active s x (plus_write w x) at in
    let still = apart-written active s x w apart at free in
    elim (same_key q (key_written w)) as (λ b. same_key q (key_written w) ≡ b
    → open_writer q (set active s (Some (plus_write w x))) ≡ cond b (Some x.number) (open_writer q active)) [
      | true ↦ λ e. is-writer q (set active s (Some (plus_write w x))) x.number still
          (record { place = s; xact = plus_write w x; at = now; has = has-new q x.writes w e; is = refl })
      | false ↦ λ e. writer-same active s x (plus_write w x) q still at now refl (has-other q x.writes w e)
    ] refl
