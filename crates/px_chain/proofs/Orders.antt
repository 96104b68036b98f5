-- The cells of an unlink are in order, each once, and how many they are.
use Rattle.std.proofs.Common.{◌≡◌, ◌≢◌, ℕ, suc, ◌+◌, ◌<◌, ◌≤◌, true, false, List, [], ◌∷◌, ◌++◌, map, take, drop, length, refl, sym, ap, subst, ◌∙◌, append_assoc, arith, ⊎_elim}
use Rattle.std.specs.Prelude.{Contains, fold, insert, nat_le}
use Rattle.std.specs.List.{position_or_len}
use Rattle.std.proofs.Common.{leb}
use Rattle.std.proofs.lemmas.Bool.Decides.{leb_tells}
use Rattle.std.proofs.lemmas.List.{map-append, length-append, length-map, length-take-le, length-drop, take-append-drop}
use Rattle.std.proofs.lemmas.List.Edits.{length-insert}
use Rattle.std.proofs.lemmas.List.Sums.{prefix_len-le-length}
use Rattle.std.proofs.lemmas.List.Elements.{All-nil, All-cons, All-contains}
use Rattle.px_cells.specs.declared.header.Header.{Header}
use Rattle.px_chain.specs.declared.chain.Linked.{Linked}
use Rattle.px_chain.specs.Table.{Table}
use Rattle.px_chain.specs.Sound.{IsApart, Layout, IsSound}
use Rattle.px_chain.specs.Links.{Parts, Rise, placed, freed, relinked, first_or, parts_of, chain_of, content_of, unlinked_slots, unlinked_pointer, unlink_cells}
use Rattle.px_chain.proofs.Walks.{all_from, contains_first, contains_other, contains_cases, contains_none}
use Rattle.px_chain.proofs.Places.{apart_front}
use Rattle.px_chain.proofs.Overlays.{contains_placed, parts_at}
use Rattle.px_chain.proofs.SoundUnlink.{parts_split}
use Rattle.px_chain.proofs.SoundLaws.{chain_once}

abbrev number_of : Linked → ℕ
number_of linked = linked.number

-- ---- a slot put in its place

placed_first : (x : Linked) (xs : List Linked) (l : Linked) → leb l.number x.number ≡ true → placed (x ∷ xs) l ≡ l ∷ (x ∷ xs)
placed_first x xs l below = rw below refl

placed_later : (x : Linked) (xs : List Linked) (l : Linked) → leb l.number x.number ≡ false → placed (x ∷ xs) l ≡ x ∷ placed xs l
placed_later x xs l above =
    let at = position_or_len (λ (other : Linked). nat_le l.number other.number) xs in
    let here : position_or_len (λ (other : Linked). nat_le l.number other.number) (x ∷ xs) ≡ suc at = rw above (omega arith) in
    ap (λ (n : ℕ). insert (x ∷ xs) n l) here

rise_placed : (xs : List Linked) (l : Linked) → Rise xs → ((m : Linked) → Contains xs m → m.number ≢ l.number) → Rise (placed xs l)
rise_placed [] l rise apart = (All-nil (λ (other : Linked). l.number < other.number), tt)
rise_placed (x ∷ xs) l rise apart = ⊎_elim
    (λ (below : (leb l.number x.number ≡ true) × (l.number ≤ x.number)).
    let other : x.number ≢ l.number = apart x (contains_first x xs) in
    let less : l.number < x.number = (let le = below.1 in omega (arith, le, other)) in
    subst Rise (sym (placed_first x xs l below.0)) (
      All-cons (λ (other : Linked). l.number < other.number) x xs less
          (all_from (λ (other : Linked). l.number < other.number) xs (λ m there.
          let up : x.number < m.number = All-contains (λ (other : Linked). x.number < other.number) xs m rise.0 there in omega (arith, less, up))),
      rise,
    ))
    (λ (above : (leb l.number x.number ≡ false) × (x.number < l.number)).
    subst Rise (sym (placed_later x xs l above.0)) (
      all_from (λ (other : Linked). x.number < other.number) (placed xs l) (λ m there. ⊎_elim
          (λ (a : Contains xs m). All-contains (λ (other : Linked). x.number < other.number) xs m rise.0 a)
          (λ (e : l ≡ m). subst (λ (k : Linked). x.number < k.number) e above.1)
          (contains_placed xs l m there)),
      rise_placed xs l rise.1 (λ m there. apart m (contains_other x m xs there)),
    ))
    (leb_tells l.number x.number)

contains_number : (xs : List Linked) (l : Linked) → Contains xs l → Contains (map number_of xs) l.number
contains_number [] l there = absurd (contains_none l there)
contains_number (x ∷ xs) l there = ⊎_elim
    (λ (e : x ≡ l). subst (λ (k : Linked). Contains (map number_of (x ∷ xs)) k.number) e (contains_first x.number (map number_of xs)))
    (λ (later : Contains xs l). contains_other x.number l.number (map number_of xs) (contains_number xs l later))
    (contains_cases x l xs there)

rise_in_order : (sorted slots : List Linked) → Rise sorted → IsApart (map number_of slots) → ((m l : Linked) → Contains sorted m → Contains slots l → m.number ≢ l.number)
    → Rise (fold placed sorted slots)
rise_in_order sorted [] rise apart away = rise
rise_in_order sorted (first ∷ others) rise apart away =
    rise_in_order (placed sorted first) others (rise_placed sorted first rise (λ m there. away m first there (contains_first first others))) apart.1
    (λ m l in_m in_l same. ⊎_elim
    (λ (a : Contains sorted m). away m l a (contains_other first l others in_l) same)
    (λ (e : first ≡ m). apart.0 (subst (λ (n : ℕ). Contains (map number_of others) n) (sym same ∙ ap number_of (sym e)) (contains_number others l in_l)))
    (contains_placed sorted first m in_m))

-- ---- the numbers of the slots that change

lasts : List ℕ → List ℕ
lasts [] = []
lasts (last ∷ []) = last ∷ []
lasts (first ∷ (second ∷ others)) = lasts (second ∷ others)

apart_lasts : (before gone : List ℕ) → IsApart (before ++ gone) → IsApart (lasts before ++ gone)
unfolding lasts
apart_lasts [] gone apart = apart
apart_lasts (x ∷ []) gone apart = apart
apart_lasts (x ∷ (y ∷ ys)) gone apart = apart_lasts (y ∷ ys) gone apart.1

numbers_relinked : (table : Table) (before : List ℕ) (next : ℕ) → map number_of (relinked (chain_of table before) next) ≡ lasts before
unfolding lasts
numbers_relinked table [] next = refl
numbers_relinked table (x ∷ []) next = refl
numbers_relinked table (x ∷ (y ∷ ys)) next = numbers_relinked table (y ∷ ys) next

numbers_freed : (table : Table) (gone : List ℕ) (front : ℕ) → map number_of (freed (chain_of table gone) front) ≡ gone
numbers_freed table [] front = refl
numbers_freed table (x ∷ xs) front = ap (λ (l : List ℕ). x ∷ l) (numbers_freed table xs front)

rise_unlinked : (table : Table) (before gone behind : List ℕ) → IsApart (before ++ (gone ++ behind)) → Rise (unlinked_slots table.header (parts_at table before gone behind))
rise_unlinked table before gone behind apart =
    let parts = parts_at table before gone behind in
    let r = relinked parts.before (first_or parts.behind 0) in
    let f = freed parts.gone table.header.free_slot in
    let front : IsApart (before ++ gone) = apart_front (before ++ gone) behind (subst IsApart (sym (append_assoc before gone behind)) apart) in
    let numbers : map number_of (r ++ f) ≡ lasts before ++ gone =
    map-append number_of r f ∙ ap (λ (l : List ℕ). l ++ map number_of f) (numbers_relinked table before (first_or parts.behind 0))
    ∙ ap (λ (l : List ℕ). lasts before ++ l) (numbers_freed table gone table.header.free_slot) in
    rise_in_order [] (r ++ f) tt (subst IsApart (sym numbers) (apart_lasts before gone front)) (λ m l none there. absurd (contains_none m none))

pub part_rises : (short : ℕ) (table : Table) (layout : Layout) (row from count : ℕ) → IsSound short table layout
    → Rise (unlinked_slots table.header (parts_of (chain_of table (layout.chain row)) from count))
part_rises short table layout row from count sound =
    let chain = layout.chain row in
    let before = take from chain in
    let gone = take count (drop from chain) in
    let behind = drop count (drop from chain) in
    let whole : before ++ (gone ++ behind) ≡ chain = ap (λ (l : List ℕ). before ++ l) (take-append-drop count (drop from chain)) ∙ take-append-drop from chain in
    subst (λ (p : Parts). Rise (unlinked_slots table.header p)) (sym (parts_split table chain from count))
    (rise_unlinked table before gone behind (subst IsApart (sym whole) (chain_once short table layout row sound)))

-- ---- how many they are

length_in_order : (sorted slots : List Linked) → length (fold placed sorted slots) ≡ length sorted + length slots
length_in_order sorted [] = omega arith
length_in_order sorted (first ∷ others) =
    let at = position_or_len (λ (other : Linked). nat_le first.number other.number) sorted in
    let within : at ≤ length sorted = prefix_len-le-length _ sorted in
    let one = length-insert sorted at first within in
    let more = length_in_order (placed sorted first) others in
    omega (arith, one, more)

length_freed : (gone : List Linked) (front : ℕ) → length (freed gone front) ≡ length gone
length_freed [] front = refl
length_freed (first ∷ others) front = let more = length_freed others front in omega (arith, more)

relinked_or_pointer : (header : Header) (before gone behind : List Linked) (next : ℕ)
    → length (relinked before next) + length (unlinked_pointer header (record { before = before; gone = gone; behind = behind })) ≡ 1
relinked_or_pointer header [] gone behind next = refl
relinked_or_pointer header (last ∷ []) gone behind next = refl
relinked_or_pointer header (first ∷ (second ∷ others)) gone behind next = relinked_or_pointer header (second ∷ others) gone behind next

pub cells_counted : (header : Header) (chain : List Linked) (from count : ℕ) → from + count ≤ length chain → length (unlink_cells header (parts_of chain from count)) ≡ count + 2
cells_counted header chain from count within =
    let parts = parts_of chain from count in
    let next = first_or parts.behind 0 in
    let r = relinked parts.before next in
    let f = freed parts.gone header.free_slot in
    let p = unlinked_pointer header parts in
    let slots = unlinked_slots header parts in
    let a : length slots ≡ 0 + length (r ++ f) = length_in_order [] (r ++ f) in
    let b = length-append r f in
    let c = length_freed parts.gone header.free_slot in
    let d = length-drop from chain in
    let e : length parts.gone ≡ count = length-take-le count (drop from chain) (omega (arith, d)) in
    let g : length r + length p ≡ 1 = relinked_or_pointer header parts.before parts.gone parts.behind next in
    let h = length-map slots content_of in
    let i = length-append (map content_of slots) p in
    omega (arith, a, b, c, e, g, h, i)
