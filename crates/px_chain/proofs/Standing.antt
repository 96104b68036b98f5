-- Places in the chain of a row: what stands there, and where it leads.
use Rattle.std.proofs.Common.{◌≡◌, ◌≢◌, ℕ, zero, suc, ◌+◌, ◌≤◌, List, [], ◌∷◌, map, take, drop, length, Option, refl, sym, ap, subst, ◌∙◌, arith}
use Rattle.std.specs.Prelude.{All, Contains}
use Rattle.std.specs.List.{take-map, drop-map}
use Rattle.std.proofs.lemmas.Bool.{ne_eqb}
use Rattle.std.proofs.lemmas.List.{drop-drop}
use Rattle.std.proofs.lemmas.List.Elements.{All-head, All-tail, Contains-get_or}
use Rattle.px_chain.specs.declared.chain.Linked.{Linked}
use Rattle.px_chain.specs.Links.{chain_of, parts_of}
use Rattle.px_chain.specs.Near.{Near, first_number, last_linked, linked_at, near_at, near_of, number_at}
use Rattle.px_chain.specs.Places.{StandsAt, slot_before, slot_in}
use Rattle.px_chain.specs.Sound.{Walks, IsApart, IsSound, IsUsedRow, IsVariation, Layout, head_of, next_slot}
use Rattle.px_chain.specs.Table.{Table}
use Rattle.px_chain.proofs.Places.{head_or, walk_head}
use Rattle.px_chain.proofs.SoundLaws.{chain_once, chained}
use Rattle.px_chain.proofs.Walks.{all_from}

pub stands_in : (chain : List ℕ) (place slot : ℕ) → StandsAt chain place slot → Contains chain slot
stands_in chain place slot at = subst (λ (n : ℕ). Contains chain n) at.1 (Contains-get_or chain place 0 at.0)

-- ---- one place

once : (chain : List ℕ) (place other slot : ℕ) → IsApart chain → StandsAt chain place slot → StandsAt chain other slot → place ≡ other
once [] place other slot apart here there = absurd (omega (arith, here.0))
once (x ∷ xs) zero zero slot apart here there = refl
once (x ∷ xs) zero (suc other) slot apart here there =
    absurd (apart.0 (subst (λ (n : ℕ). Contains xs n) (sym here.1) (stands_in xs other slot (omega (arith, there.0), there.1))))
once (x ∷ xs) (suc place) zero slot apart here there =
    absurd (apart.0 (subst (λ (n : ℕ). Contains xs n) (sym there.1) (stands_in xs place slot (omega (arith, here.0), here.1))))
once (x ∷ xs) (suc place) (suc other) slot apart here there =
    ap suc (once xs place other slot apart.1 (omega (arith, here.0), here.1) (omega (arith, there.0), there.1))

pub one_place : (short : ℕ) (table : Table) (layout : Layout) (row place other slot : ℕ) → IsSound short table layout
    → StandsAt (layout.chain row) place slot → StandsAt (layout.chain row) other slot → place ≡ other
one_place short table layout row place other slot sound here there =
    once (layout.chain row) place other slot (chain_once short table layout row sound) here there

-- ---- where slots lead

first_in : (chain : List ℕ) → head_or chain 0 ≡ slot_in chain 0
first_in [] = refl
first_in (x ∷ xs) = refl

pub leads : (next : ℕ → ℕ) (from : ℕ) (chain : List ℕ) (place slot : ℕ) → Walks next from chain 0 → StandsAt chain place slot → next slot ≡ slot_in chain (place + 1)
leads next from [] place slot walk at = absurd (omega (arith, at.0))
leads next from (x ∷ xs) zero slot walk at = ap next (sym at.1) ∙ walk_head next (next x) xs walk.1 ∙ first_in xs
leads next from (x ∷ xs) (suc place) slot walk at =
    leads next (next x) xs place slot walk.1 (omega (arith, at.0), at.1)
    ∙ ap (slot_in (x ∷ xs)) (let e : suc (place + 1) ≡ suc place + 1 = omega arith in e)

pub head_leads : (short : ℕ) (table : Table) (layout : Layout) (row : ℕ) → IsSound short table layout → IsUsedRow table row → head_of table row ≡ slot_in (layout.chain row) 0
head_leads short table layout row sound used =
    walk_head (next_slot table) (head_of table row) (layout.chain row) (sound.chains row used).walk ∙ first_in (layout.chain row)

pub slot_stands : (short : ℕ) (table : Table) (layout : Layout) (row place slot : ℕ) → IsSound short table layout → StandsAt (layout.chain row) place slot → IsVariation table row slot
slot_stands short table layout row place slot sound at = (chained short table layout sound row slot (stands_in (layout.chain row) place slot at)).1

pub slot_leads : (short : ℕ) (table : Table) (layout : Layout) (row place slot : ℕ) → IsSound short table layout
    → StandsAt (layout.chain row) place slot → next_slot table slot ≡ slot_in (layout.chain row) (place + 1)
slot_leads short table layout row place slot sound at =
    let used = (chained short table layout sound row slot (stands_in (layout.chain row) place slot at)).0 in
    leads (next_slot table) (head_of table row) (layout.chain row) place slot (sound.chains row used).walk at

-- ---- neighbours

abbrev with_number : Table → ℕ → Linked
with_number table n = record { number = n; slot = table.slot n }

last_taken : (table : Table) (chain : List ℕ) (from : ℕ) → All (λ place. 1 ≤ place) chain → from ≤ length chain
    → last_linked (map (with_number table) (take from chain)) ≡ linked_at table (slot_before chain from)
last_taken table chain zero all within = refl
last_taken table [] (suc from) all within = absurd (omega (arith, within))
last_taken table (x ∷ xs) (suc zero) all within =
    let some : 1 ≤ x = All-head (λ (place : ℕ). 1 ≤ place) x xs all in
    let away : x ≢ 0 = omega (arith, some) in
    rw (ne_eqb x 0 away) refl
last_taken table (x ∷ []) (suc (suc from)) all within = absurd (omega (arith, within))
last_taken table (x ∷ (y ∷ ys)) (suc (suc from)) all within =
    last_taken table (y ∷ ys) (suc from) (All-tail (λ (place : ℕ). 1 ≤ place) x (y ∷ ys) all) (omega (arith, within))

first_dropped : (table : Table) (chain : List ℕ) (n : ℕ) → All (λ place. 1 ≤ place) chain
    → first_number (map (with_number table) (drop n chain)) ≡ number_at (slot_in chain n)
first_dropped table [] zero all = refl
first_dropped table [] (suc n) all = refl
first_dropped table (x ∷ xs) zero all =
    let some : 1 ≤ x = All-head (λ (place : ℕ). 1 ≤ place) x xs all in
    let away : x ≢ 0 = omega (arith, some) in
    rw (ne_eqb x 0 away) refl
first_dropped table (x ∷ xs) (suc n) all = first_dropped table xs n (All-tail (λ (place : ℕ). 1 ≤ place) x xs all)

abbrev nearby : Option Linked → List Linked → Option ℕ → Near
nearby newer gone older = record { newer = newer; gone = gone; older = older }

near_is : (table : Table) (chain : List ℕ) (from count : ℕ) → All (λ place. 1 ≤ place) chain → from + count ≤ length chain
    → near_of (parts_of (chain_of table chain) from count) ≡ near_at table chain from count
near_is table chain from count all within =
    let before : last_linked (take from (chain_of table chain)) ≡ linked_at table (slot_before chain from) =
    ap last_linked (take-map (with_number table) from chain) ∙ last_taken table chain from all (omega (arith, within)) in
    let gone : take count (drop from (chain_of table chain)) ≡ chain_of table (take count (drop from chain)) =
    ap (λ (l : List Linked). take count l) (drop-map (with_number table) from chain) ∙ take-map (with_number table) count (drop from chain) in
    let behind : first_number (drop count (drop from (chain_of table chain))) ≡ number_at (slot_in chain (from + count)) =
    ap (λ (l : List Linked). first_number (drop count l)) (drop-map (with_number table) from chain)
    ∙ ap first_number (drop-map (with_number table) count (drop from chain))
    ∙ ap (λ (l : List ℕ). first_number (map (with_number table) l)) (drop-drop count from chain)
    ∙ first_dropped table chain (from + count) all in
    ap (λ (l : Option Linked). nearby l (take count (drop from (chain_of table chain))) (first_number (drop count (drop from (chain_of table chain))))) before
    ∙ ap (λ (l : List Linked). nearby (linked_at table (slot_before chain from)) l (first_number (drop count (drop from (chain_of table chain))))) gone
    ∙ ap (nearby (linked_at table (slot_before chain from)) (chain_of table (take count (drop from chain)))) behind

pub near_run : (short : ℕ) (table : Table) (layout : Layout) (row from count : ℕ) → IsSound short table layout → from + count ≤ length (layout.chain row)
    → near_of (parts_of (chain_of table (layout.chain row)) from count) ≡ near_at table (layout.chain row) from count
near_run short table layout row from count sound within =
    near_is table (layout.chain row) from count
    (all_from (λ place. 1 ≤ place) (layout.chain row) (λ n there. (chained short table layout sound row n there).1.place.0)) within
