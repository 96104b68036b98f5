-- The last element that passes a test: of a list, of what a key has of ended writes, and of what open transactions wrote.
use Rattle.std.proofs.Common.{◌≡◌, ◌≢◌, ℕ, zero, suc, ◌+◌, Bool, true, false, cond, ◌&&◌, List, [], ◌∷◌, ◌++◌, map, get_or, reverse, Option, Some, None, option_map, refl, sym, ap, subst, ◌∙◌, arith}
use Rattle.std.specs.Prelude.{All, IfSome, find, flat_map}
use Rattle.std.specs.Option.{option_or}
use Rattle.std.proofs.lemmas.Option.{none-some, same_Some}
use Rattle.std.proofs.lemmas.List.{reverse-append}
use Rattle.std.proofs.lemmas.List.Folds.{find-append}
use Rattle.std.proofs.lemmas.List.Elements.{All-head, All-tail, All-map, All-filter, filter-append}
use Rattle.px_model.specs.declared.write.Write.{Write}
use Rattle.px_model.specs.declared.machine.Flat.{Flat}
use Rattle.px_model.specs.declared.machine.Open.{Open}
use Rattle.px_model.specs.declared.machine.Variation.{Variation}
use Rattle.px_model.specs.Rows.{Key, same_key, key_written}
use Rattle.px_model.specs.Chains.{last_committed, of_ended, of_slot, of_key}
use Rattle.px_machine_laws.specs.Seen.{last_of_key}

abbrev pub last : {X : Type 0} → (X → Bool) → List X → Option X
last test xs = find test (reverse xs)

pub or_none : {X : Type 0} (o : Option X) → option_or o None ≡ o
or_none None = refl
or_none (Some x) = refl

pub last-append : {X : Type 0} (test : X → Bool) (xs ys : List X) → last test (xs ++ ys) ≡ option_or (last test ys) (last test xs)
last-append test xs ys = ap (find test) (reverse-append xs ys) ∙ find-append test (reverse ys) (reverse xs)

pub last-cons : {X : Type 0} (test : X → Bool) (x : X) (xs : List X) → last test (x ∷ xs) ≡ option_or (last test xs) (cond (test x) (Some x) None)
last-cons test x xs = last-append test (x ∷ []) xs

pub none_passes : {X : Type 0} (test : X → Bool) (xs : List X) → All (λ x. test x ≡ false) xs → last test xs ≡ None
none_passes test [] none = refl
none_passes test (x ∷ xs) none =
    last-cons test x xs
    ∙ ap (λ o. option_or o (cond (test x) (Some x) None)) (none_passes test xs (All-tail (λ y. test y ≡ false) x xs none))
    ∙ ap (λ b. cond b (Some x) None) (All-head (λ y. test y ≡ false) x xs none)

-- two tests that agree find the same
pub last_agree : {X : Type 0} (test other : X → Bool) (xs : List X) → All (λ x. test x ≡ other x) xs → last test xs ≡ last other xs
last_agree test other [] same = refl
last_agree test other (x ∷ xs) same =
    last-cons test x xs
    ∙ ap (λ o. option_or o (cond (test x) (Some x) None)) (last_agree test other xs (All-tail (λ y. test y ≡ other y) x xs same))
    ∙ ap (λ b. option_or (last other xs) (cond b (Some x) None)) (All-head (λ y. test y ≡ other y) x xs same)
    ∙ sym (last-cons other x xs)

found_or : {X : Type 0} (P : X → Type 0) (o : Option X) (b : Bool) (x : X) → IfSome o P → (b ≡ true → P x) → IfSome (option_or o (cond b (Some x) None)) P
found_or P None true x old new = new refl
found_or P None false x old new = tt
found_or P (Some y) b x old new = old

-- what holds of each one that passes holds of the one that is found
pub last_found : {X : Type 0} (test : X → Bool) (P : X → Type 0) (xs : List X) → All (λ x. test x ≡ true → P x) xs → IfSome (last test xs) P
last_found test P [] each = tt
last_found test P (x ∷ xs) each =
    subst (λ o. IfSome o P) (sym (last-cons test x xs))
    (found_or P (last test xs) (test x) x (last_found test P xs (All-tail (λ y. test y ≡ true → P y) x xs each)) (All-head (λ y. test y ≡ true → P y) x xs each))

-- ---- ended writes

pub last_committed-last : (key : Key) (all : List Flat) → last_committed key all ≡ last (λ f. f.committed && same_key key (key_written f.write)) all
last_committed-last key [] = refl
last_committed-last key (f ∷ all) =
    ap (λ o. option_or o (cond (f.committed && same_key key (key_written f.write)) (Some f) None)) (last_committed-last key all)
    ∙ sym (last-cons (λ (g : Flat). g.committed && same_key key (key_written g.write)) f all)

pub last_committed-append : (key : Key) (a b : List Flat) → last_committed key (a ++ b) ≡ option_or (last_committed key b) (last_committed key a)
last_committed-append key a b =
    let test = λ (f : Flat). f.committed && same_key key (key_written f.write) in
    last_committed-last key (a ++ b)
    ∙ last-append test a b
    ∙ ap (λ o. option_or o (last test a)) (sym (last_committed-last key b))
    ∙ ap (option_or (last_committed key b)) (sym (last_committed-last key a))

of_the_key : (base : ℕ) (o : Option Flat) (b : Bool) (f : Flat)
    → option_or (option_map (of_ended base) o) (cond b (Some (of_ended base f)) None) ≡ option_map (of_ended base) (option_or o (cond (b && true) (Some f) None))
of_the_key base None true f = refl
of_the_key base None false f = refl
of_the_key base (Some g) b f = refl

of_another_key : (base : ℕ) (o : Option Flat) (b : Bool) (f : Flat)
    → option_map (of_ended base) o ≡ option_map (of_ended base) (option_or o (cond (b && false) (Some f) None))
of_another_key base None true f = refl
of_another_key base None false f = refl
of_another_key base (Some g) b f = refl

pub last_of_flats : (test : Variation → Bool) (told : Flat → Bool) (base : ℕ) (key : Key) (all : List Flat) → All (λ f. test (of_ended base f) ≡ told f) all
    → last test (of_key key (map (of_ended base) all)) ≡ option_map (of_ended base) (last (λ f. told f && same_key key (key_written f.write)) all)
last_of_flats test told base key [] same = refl
last_of_flats test told base key (f ∷ all) same =
    let here = λ (g : Flat). told g && same_key key (key_written g.write) in
    let rest = of_key key (map (of_ended base) all) in
    let ih = last_of_flats test told base key all (All-tail (λ (g : Flat). test (of_ended base g) ≡ told g) f all same) in
    elim (same_key key (key_written f.write)) as (λ b. last test (cond b (of_ended base f ∷ rest) rest) ≡ option_map (of_ended base) (option_or (last here all) (cond (told f && b) (Some f) None))) [
      | true ↦
          last-cons test (of_ended base f) rest
          ∙ ap (λ o. option_or o (cond (test (of_ended base f)) (Some (of_ended base f)) None)) ih
          ∙ ap (λ b. option_or (option_map (of_ended base) (last here all)) (cond b (Some (of_ended base f)) None)) (All-head (λ (g : Flat). test (of_ended base g) ≡ told g) f all same)
          ∙ of_the_key base (last here all) (told f) f
      | false ↦ ih ∙ of_another_key base (last here all) (told f) f
    ]
    ∙ ap (option_map (of_ended base)) (sym (last-cons here f all))

-- ---- open writes

-- a write of the transaction with a stored number
abbrev pub by : Option ℕ → Write → Variation
by xn w = record { xn = xn; write = w }

pub none_of_writes : (test : Variation → Bool) (key : Key) (xn : Option ℕ) (writes : List Write) → ((w : Write) → test (by xn w) ≡ false)
    → last test (of_key key (map (by xn) writes)) ≡ None
none_of_writes test key xn writes none =
    none_passes test (of_key key (map (by xn) writes))
    (All-filter (λ (v : Variation). same_key key (key_written v.write)) (λ (v : Variation). test v ≡ false) (map (by xn) writes)
    (All-map (λ (v : Variation). test v ≡ false) (by xn) writes (λ k d lt. none (get_or writes k d))))

written_or : (xn : Option ℕ) (o : Option Write) (w : Write) → option_or (option_map (by xn) o) (Some (by xn w)) ≡ option_map (by xn) (option_or o (Some w))
written_or xn None w = refl
written_or xn (Some v) w = refl

pub last_of_writes : (test : Variation → Bool) (key : Key) (xn : Option ℕ) (writes : List Write) → ((w : Write) → test (by xn w) ≡ true)
    → last test (of_key key (map (by xn) writes)) ≡ option_map (by xn) (last_of_key key writes)
last_of_writes test key xn [] own = refl
last_of_writes test key xn (w ∷ writes) own =
    let rest = of_key key (map (by xn) writes) in
    let ih = last_of_writes test key xn writes own in
    elim (same_key key (key_written w)) as (λ b. last test (cond b (by xn w ∷ rest) rest) ≡ option_map (by xn) (option_or (last_of_key key writes) (cond b (Some w) None))) [
      | true ↦
          last-cons test (by xn w) rest
          ∙ ap (λ o. option_or o (cond (test (by xn w)) (Some (by xn w)) None)) ih
          ∙ ap (λ b. option_or (option_map (by xn) (last_of_key key writes)) (cond b (Some (by xn w)) None)) (own w)
          ∙ written_or xn (last_of_key key writes) w
      | false ↦ ih ∙ ap (option_map (by xn)) (sym (or_none (last_of_key key writes)))
    ]

slot_first : (test : Variation → Bool) (base : ℕ) (key : Key) (slot : Option Open) (slots : List (Option Open))
    → last test (of_key key (flat_map (of_slot base) (slot ∷ slots)))
    ≡ option_or (last test (of_key key (flat_map (of_slot base) slots))) (last test (of_key key (of_slot base slot)))
slot_first test base key slot slots =
    ap (last test) (filter-append (λ (v : Variation). same_key key (key_written v.write)) (of_slot base slot) (flat_map (of_slot base) slots))
    ∙ last-append test (of_key key (of_slot base slot)) (of_key key (flat_map (of_slot base) slots))

pub none_of_slots : (test : Variation → Bool) (base : ℕ) (key : Key) (slots : List (Option Open))
    → ((t : ℕ) (y : Open) (w : Write) → get_or slots t None ≡ Some y → test (by (Some (base + y.number)) w) ≡ false)
    → last test (of_key key (flat_map (of_slot base) slots)) ≡ None
none_of_slots test base key [] none = refl
none_of_slots test base key (None ∷ slots) none = none_of_slots test base key slots (λ t y w at. none (suc t) y w at)
none_of_slots test base key (Some y ∷ slots) none =
    slot_first test base key (Some y) slots
    ∙ ap (λ o. option_or o (last test (of_key key (of_slot base (Some y))))) (none_of_slots test base key slots (λ t z w at. none (suc t) z w at))
    ∙ none_of_writes test key (Some (base + y.number)) y.writes (λ w. none zero y w refl)

pub last_of_slots : (test : Variation → Bool) (base : ℕ) (key : Key) (slots : List (Option Open)) (s : ℕ) (x : Open) → get_or slots s None ≡ Some x
    → ((t : ℕ) (y : Open) (w : Write) → t ≢ s → get_or slots t None ≡ Some y → test (by (Some (base + y.number)) w) ≡ false)
    → ((w : Write) → test (by (Some (base + x.number)) w) ≡ true)
    → last test (of_key key (flat_map (of_slot base) slots)) ≡ option_map (by (Some (base + x.number))) (last_of_key key x.writes)
last_of_slots test base key [] s x at others own = absurd (none-some x at)
last_of_slots test base key (None ∷ slots) zero x at others own = absurd (none-some x at)
last_of_slots test base key (None ∷ slots) (suc s) x at others own =
    last_of_slots test base key slots s x at (λ t y w ne bt. others (suc t) y w (λ e. ne (omega (arith, e))) bt) own
last_of_slots test base key (Some y ∷ slots) zero x at others own =
    slot_first test base key (Some y) slots
    ∙ ap (λ o. option_or o (last test (of_key key (of_slot base (Some y))))) (none_of_slots test base key slots (λ t z w bt. others (suc t) z w (λ e. omega (arith, e)) bt))
    ∙ subst (λ (z : Open). last test (of_key key (of_slot base (Some z))) ≡ option_map (by (Some (base + x.number))) (last_of_key key x.writes))
    (sym (same_Some y x at)) (last_of_writes test key (Some (base + x.number)) x.writes own)
last_of_slots test base key (Some y ∷ slots) (suc s) x at others own =
    slot_first test base key (Some y) slots
    ∙ ap (option_or (last test (of_key key (flat_map (of_slot base) slots)))) (none_of_writes test key (Some (base + y.number)) y.writes (λ w. others zero y w (λ e. omega (arith, e)) refl))
    ∙ or_none (last test (of_key key (flat_map (of_slot base) slots)))
    ∙ last_of_slots test base key slots s x at (λ t z w ne bt. others (suc t) z w (λ e. ne (omega (arith, e))) bt) own
