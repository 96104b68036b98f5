-- The unswept writes of a key, as the transactions and as the machine have them.
use Rattle.std.proofs.Common.{◌≡◌, ℕ, ◌+◌, Bool, true, false, cond, List, [], ◌∷◌, ◌++◌, map, drop, length, Option, Some, None, refl, sym, ap, ◌∙◌, arith, length-append}
use Rattle.std.specs.Prelude.{filter, flat_map}
use Rattle.std.proofs.lemmas.List.{length-map, map-append}
use Rattle.std.proofs.lemmas.List.Elements.{filter-append}
use Rattle.std.proofs.lemmas.Simd.{map-map}
use Rattle.px_chain_laws.specs.Sweeping.{base_of}
use Rattle.px_chain_laws.proofs.Looking.{by}
use Rattle.px_chain_laws.proofs.Moving.{slots_at}
use Rattle.px_model.specs.Chains.{chain, of_ended, of_key as variations_of_key, of_slot}
use Rattle.px_model.specs.Machine.{Machine, flat}
use Rattle.px_model.specs.Rows.{Key, key_written, same_key}
use Rattle.px_model.specs.declared.machine.Open.{Open}
use Rattle.px_model.specs.declared.machine.Variation.{Variation}
use Rattle.px_xacts.specs.declared.transaction.Transaction.{Transaction}
use Rattle.px_xacts.specs.declared.transaction.Unswept.{Unswept}
use Rattle.px_xacts.specs.declared.write.WriteAt.{WriteAt}
use Rattle.px_xacts.specs.Transactions.{Transactions}
use Rattle.px_xacts_laws.specs.Mirrors.{Known, KnownWrite, Mirrors, key_at, known_of_flat, known_of_open, known_of_transaction, known_of_unswept}
use Rattle.px_cell_laws.specs.Locating.{of_key, unswept_writes, writes_of}

filter_mapped : {X Y : Type 0} (test : Y → Bool) (f : X → Y) (xs : List X) → map f (filter (λ x. test (f x)) xs) ≡ filter test (map f xs)
filter_mapped test f [] = refl
filter_mapped test f (x ∷ xs) =
    elim (test (f x)) as (λ b. map f (cond b (x ∷ filter (λ y. test (f y)) xs) (filter (λ y. test (f y)) xs)) ≡ cond b (f x ∷ filter test (map f xs)) (filter test (map f xs))) [
      | true ↦ ap (λ l. f x ∷ l) (filter_mapped test f xs)
      | false ↦ filter_mapped test f xs
    ]

-- as many pass, where both have the same keys
as_many : {X Y : Type 0} (key : Key) (f : X → Key) (g : Y → Key) (xs : List X) (ys : List Y) → map f xs ≡ map g ys
    → length (filter (λ x. same_key key (f x)) xs) ≡ length (filter (λ y. same_key key (g y)) ys)
as_many key f g xs ys same =
    sym (length-map (filter (λ x. same_key key (f x)) xs) f)
    ∙ ap (λ (l : List Key). length l) (filter_mapped (same_key key) f xs ∙ ap (filter (same_key key)) same ∙ sym (filter_mapped (same_key key) g ys))
    ∙ length-map (filter (λ y. same_key key (g y)) ys) g

-- ---- open transactions

abbrev key_of_variation : Variation → Key
key_of_variation v = key_written v.write

abbrev keys_known : Option Known → List Key
keys_known None = []
keys_known (Some known) = known.1.1

keys_of_transaction : (x : Option Transaction) → map key_at (writes_of x) ≡ keys_known (known_of_transaction x)
keys_of_transaction None = refl
keys_of_transaction (Some x) = refl

keys_of_open : (base : ℕ) (y : Option Open) → map key_of_variation (of_slot base y) ≡ keys_known (known_of_open y)
keys_of_open base None = refl
keys_of_open base (Some y) = map-map key_of_variation (by (Some (base + y.number))) y.writes

keys_gathered : {S X : Type 0} (f : X → Key) (of : S → List X) (known : S → Option Known) → ((slot : S) → map f (of slot) ≡ keys_known (known slot))
    → (slots : List S) → map f (flat_map of slots) ≡ flat_map keys_known (map known slots)
keys_gathered f of known each [] = refl
keys_gathered f of known each (slot ∷ slots) =
    map-append f (of slot) (flat_map of slots)
    ∙ ap (λ (l : List Key). l ++ map f (flat_map of slots)) (each slot)
    ∙ ap (λ (l : List Key). keys_known (known slot) ++ l) (keys_gathered f of known each slots)

pub open_keys : (base : ℕ) (xs : List (Option Transaction)) (ys : List (Option Open)) → map known_of_transaction xs ≡ map known_of_open ys
    → map key_at (flat_map writes_of xs) ≡ map key_of_variation (flat_map (of_slot base) ys)
open_keys base xs ys same =
    keys_gathered key_at writes_of known_of_transaction keys_of_transaction xs
    ∙ ap (flat_map keys_known) same
    ∙ sym (keys_gathered key_of_variation (of_slot base) known_of_open (keys_of_open base) ys)

pub as_many_of_slot : (key : Key) (base : ℕ) (x : Option Transaction) (y : Option Open) → known_of_transaction x ≡ known_of_open y
    → length (of_key key (writes_of x)) ≡ length (variations_of_key key (of_slot base y))
as_many_of_slot key base x y same =
    as_many key key_at key_of_variation (writes_of x) (of_slot base y) (keys_of_transaction x ∙ ap keys_known same ∙ sym (keys_of_open base y))

pub as_many_open : (key : Key) (base : ℕ) (xs : List (Option Transaction)) (ys : List (Option Open)) → map known_of_transaction xs ≡ map known_of_open ys
    → length (of_key key (flat_map writes_of xs)) ≡ length (slots_at key base ys)
as_many_open key base xs ys same = as_many key key_at key_of_variation (flat_map writes_of xs) (flat_map (of_slot base) ys) (open_keys base xs ys same)

-- ---- all that aren't swept

unswept_keys : (m : Machine) (all : Transactions) → Mirrors m all
    → map key_at (map (λ (e : Unswept). e.write) all.queue) ≡ map key_of_variation (map (of_ended m.base) (drop m.swept (flat m)))
unswept_keys m all h =
    let known_key : KnownWrite → Key = λ known. known.1.1.1 in
    map-map key_at (λ (e : Unswept). e.write) all.queue
    ∙ sym (map-map known_key known_of_unswept all.queue)
    ∙ ap (map known_key) h.queue
    ∙ map-map known_key known_of_flat (drop m.swept (flat m))
    ∙ sym (map-map key_of_variation (of_ended m.base) (drop m.swept (flat m)))

pub of_key_parts : (key : Key) (all : Transactions)
    → of_key key (unswept_writes all) ≡ of_key key (map (λ (e : Unswept). e.write) all.queue) ++ of_key key (flat_map writes_of all.active)
of_key_parts key all = filter-append (λ (write : WriteAt). same_key key (key_at write)) (map (λ (e : Unswept). e.write) all.queue) (flat_map writes_of all.active)

-- a chain has a base at most, and a version for each unswept write of its key
pub chain_length : (m : Machine) (all : Transactions) (key : Key) → Mirrors m all
    → length (chain m key) ≡ length (base_of m key) + length (of_key key (unswept_writes all))
unfolding chain
chain_length m all key h =
    let passed = variations_of_key key (map (of_ended m.base) (drop m.swept (flat m))) in
    let own = slots_at key m.base m.active in
    let queue = map (λ (e : Unswept). e.write) all.queue in
    let of_passed : length (of_key key queue) ≡ length passed =
    as_many key key_at key_of_variation queue (map (of_ended m.base) (drop m.swept (flat m))) (unswept_keys m all h) in
    let of_open = as_many_open key m.base all.active m.active h.active in
    let both : length (of_key key (unswept_writes all)) ≡ length (of_key key queue) + length (of_key key (flat_map writes_of all.active)) =
    ap (λ (l : List WriteAt). length l) (of_key_parts key all) ∙ length-append (of_key key queue) (of_key key (flat_map writes_of all.active)) in
    let whole : length ((base_of m key ++ passed) ++ own) ≡ (length (base_of m key) + length passed) + length own =
    length-append (base_of m key ++ passed) own ∙ ap (λ (n : ℕ). n + length own) (length-append (base_of m key) passed) in
    omega (arith, of_passed, of_open, both, whole)
