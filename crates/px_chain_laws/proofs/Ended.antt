-- The writes of ended transactions: their places, and the last committed one of a key.
use Rattle.std.proofs.Common.{◌≡◌, ℕ, zero, suc, ◌+◌, ◌<◌, ◌≤◌, Bool, true, false, cond, ◌&&◌, ◌||◌, List, [], ◌∷◌, map, length, get_or, Option, Some, None, option_map, refl, ap, subst, ◌∙◌, arith}
use Rattle.std.specs.Prelude.{All, slice_get}
use Rattle.std.specs.Option.{option_or}
use Rattle.std.proofs.lemmas.Option.{slice_get_within}
use Rattle.std.proofs.lemmas.List.Elements.{All-nil, All-append, All-map}
use Rattle.px_model.specs.declared.write.Write.{Write}
use Rattle.px_model.specs.declared.machine.Ended.{Ended}
use Rattle.px_model.specs.declared.machine.Flat.{Flat}
use Rattle.px_model.specs.Rows.{Key, same_key, key_written, has_write_of}
use Rattle.px_model.specs.Machine.{flat_of, flat_from}
use Rattle.px_model.specs.Chains.{last_committed}
use Rattle.px_calls.specs.Steps.{last_writer}
use Rattle.px_machine_laws.specs.Seen.{last_of_key, last_committed_of}
use Rattle.px_chain_laws.proofs.Looking.{last_committed-append}

abbrev flat_by : (place number : ℕ) (committed : Bool) → Write → Flat
flat_by place number committed w = record { place = place; number = number; committed = committed; write = w }

-- what holds of each write of each entry
pub flats_from : (P : Flat → Type 0) (place : ℕ) (ended : List Ended)
    → ((i : ℕ) (e : Ended) (w : Write) → slice_get ended i ≡ Some e → P (flat_by (place + i) e.number e.committed w))
    → All P (flat_from place ended)
flats_from P place [] each = All-nil P
flats_from P place (e ∷ ended) each =
    All-append P (flat_of place e) (flat_from (place + 1) ended)
    (All-map P (flat_by place e.number e.committed) e.writes
    (λ k d lt. subst (λ (n : ℕ). P (flat_by n e.number e.committed (get_or e.writes k d))) (omega arith) (each zero e (get_or e.writes k d) refl)))
    (flats_from P (place + 1) ended (λ i f w at. subst (λ (n : ℕ). P (flat_by n f.number f.committed w)) (omega arith) (each (suc i) f w at)))

pub places_from : (place : ℕ) (ended : List Ended) → All (λ f. place ≤ f.place) (flat_from place ended)
places_from place ended = flats_from (λ f. place ≤ f.place) place ended (λ i e w at. omega arith)

pub places_below : (place : ℕ) (ended : List Ended) → All (λ f. f.place < place + length ended) (flat_from place ended)
places_below place ended = flats_from (λ f. f.place < place + length ended) place ended (λ i e w at. omega (arith, slice_get_within ended i e at))

-- ---- the last committed write of a key

by_or : (place number : ℕ) (o : Option Write) (b : Bool) (w : Write)
    → option_or (option_map (flat_by place number true) o) (cond b (Some (flat_by place number true w)) None)
    ≡ option_map (flat_by place number true) (option_or o (cond b (Some w) None))
by_or place number None true w = refl
by_or place number None false w = refl
by_or place number (Some v) b w = refl

last_of_entry : (key : Key) (place number : ℕ) (committed : Bool) (writes : List Write)
    → last_committed key (map (flat_by place number committed) writes) ≡ cond committed (option_map (flat_by place number committed) (last_of_key key writes)) None
last_of_entry key place number true [] = refl
last_of_entry key place number false [] = refl
last_of_entry key place number true (w ∷ writes) =
    ap (λ o. option_or o (cond (same_key key (key_written w)) (Some (flat_by place number true w)) None)) (last_of_entry key place number true writes)
    ∙ by_or place number (last_of_key key writes) (same_key key (key_written w)) w
last_of_entry key place number false (w ∷ writes) = ap (λ (o : Option Flat). option_or o None) (last_of_entry key place number false writes)

map_or : {Y : Type 0} (f : Flat → Y) (a b : Option Flat) → option_map f (option_or a b) ≡ option_or (option_map f a) (option_map f b)
map_or f None b = refl
map_or f (Some x) b = refl

write_back : (place number : ℕ) (committed : Bool) (o : Option Write)
    → option_map (λ (f : Flat). f.write) (cond committed (option_map (flat_by place number committed) o) None) ≡ cond committed o None
write_back place number true None = refl
write_back place number true (Some w) = refl
write_back place number false o = refl

pub last_write : (key : Key) (place : ℕ) (ended : List Ended)
    → option_map (λ (f : Flat). f.write) (last_committed key (flat_from place ended)) ≡ last_committed_of key ended
last_write key place [] = refl
last_write key place (e ∷ ended) =
    ap (option_map (λ (f : Flat). f.write)) (last_committed-append key (flat_of place e) (flat_from (place + 1) ended))
    ∙ map_or (λ (f : Flat). f.write) (last_committed key (flat_from (place + 1) ended)) (last_committed key (flat_of place e))
    ∙ ap (λ o. option_or o (option_map (λ (f : Flat). f.write) (last_committed key (flat_of place e)))) (last_write key (place + 1) ended)
    ∙ ap (λ (o : Option Flat). option_or (last_committed_of key ended) (option_map (λ (f : Flat). f.write) o)) (last_of_entry key place e.number e.committed e.writes)
    ∙ ap (option_or (last_committed_of key ended)) (write_back place e.number e.committed (last_of_key key e.writes))

has_one : (number : ℕ) (o : Option Write) (b r : Bool) (w : Write) → option_map (λ (v : Write). number) o ≡ cond r (Some number) None
    → option_map (λ (v : Write). number) (option_or o (cond b (Some w) None)) ≡ cond (b || r) (Some number) None
has_one number None true r w h = refl
has_one number None false r w h = h
has_one number (Some v) true r w h = refl
has_one number (Some v) false r w h = h

has_last : (number : ℕ) (key : Key) (writes : List Write) → option_map (λ (v : Write). number) (last_of_key key writes) ≡ cond (has_write_of key writes) (Some number) None
has_last number key [] = refl
has_last number key (w ∷ writes) = has_one number (last_of_key key writes) (same_key key (key_written w)) (has_write_of key writes) w (has_last number key writes)

number_back : (place number : ℕ) (committed : Bool) (o : Option Write) (r : Bool) → option_map (λ (v : Write). number) o ≡ cond r (Some number) None
    → option_map (λ (f : Flat). f.number) (cond committed (option_map (flat_by place number committed) o) None) ≡ cond (committed && r) (Some number) None
number_back place number true None r h = h
number_back place number true (Some w) r h = h
number_back place number false o r h = refl

pub last_number : (key : Key) (place : ℕ) (ended : List Ended)
    → option_map (λ (f : Flat). f.number) (last_committed key (flat_from place ended)) ≡ last_writer key ended
last_number key place [] = refl
last_number key place (e ∷ ended) =
    ap (option_map (λ (f : Flat). f.number)) (last_committed-append key (flat_of place e) (flat_from (place + 1) ended))
    ∙ map_or (λ (f : Flat). f.number) (last_committed key (flat_from (place + 1) ended)) (last_committed key (flat_of place e))
    ∙ ap (λ o. option_or o (option_map (λ (f : Flat). f.number) (last_committed key (flat_of place e)))) (last_number key (place + 1) ended)
    ∙ ap (λ (o : Option Flat). option_or (last_writer key ended) (option_map (λ (f : Flat). f.number) o)) (last_of_entry key place e.number e.committed e.writes)
    ∙ ap (option_or (last_writer key ended))
    (number_back place e.number e.committed (last_of_key key e.writes) (has_write_of key e.writes) (has_last e.number key e.writes))
