-- The write that is due, and where its version stands.
use Rattle.std.proofs.Common.{◌≡◌, ℕ, zero, suc, ◌+◌, ◌<◌, Bool, true, false, cond, ltb, List, [], ◌∷◌, ◌++◌, map, reverse, drop, length, Some, None, refl, sym, ap, subst, ◌∙◌, arith}
use Rattle.std.specs.Prelude.{Contains, slice_get}
use Rattle.std.proofs.lemmas.Bool.{ltb-true}
use Rattle.std.proofs.lemmas.Option.{none-some, same_Some}
use Rattle.std.proofs.lemmas.List.{append_assoc, length-map, length-reverse, reverse-append}
use Rattle.px_chain.specs.Sound.{IsApart, IsUsedRow, key_of}
use Rattle.px_chain.proofs.Walks.{contains_first, contains_other}
use Rattle.px_chain.proofs.SoundLaws.{chain_once}
use Rattle.px_chain_laws.specs.Sweeping.{base_of}
use Rattle.px_chain_laws.proofs.Moving.{key_itself}
use Rattle.px_history.specs.Store.{Store, versions_of}
use Rattle.px_model.specs.Chains.{chain}
use Rattle.px_model.specs.Machine.{Machine, flat}
use Rattle.px_model.specs.Rows.{Key, key_written, same_key}
use Rattle.px_model.specs.declared.machine.Flat.{Flat}
use Rattle.px_model.specs.declared.machine.Variation.{Variation}
use Rattle.px_xacts.specs.declared.answers.Due.{Due}
use Rattle.px_xacts.specs.declared.transaction.Unswept.{Unswept}
use Rattle.px_xacts.specs.declared.write.WriteAt.{WriteAt}
use Rattle.px_xacts.specs.Transactions as xacts
use Rattle.px_xacts.specs.Transactions.{Transactions, due_below, due_from}
use Rattle.px_xacts_laws.specs.Mirrors.{KnownWrite, Mirrors, key_at, known_of_flat, known_of_unswept}
use Rattle.px_xacts_laws.proofs.Marking.{horizon_mirrors}
use Rattle.px_cell_laws.specs.Holding.{HoldsChains, variation_in}
use Rattle.px_cell_laws.specs.Locating.{AreWrittenAt, of_key, place_of, unswept_writes, without_first}
use Rattle.px_cell_laws.specs.Sweeping.{IsSweptAt}
use Rattle.px_cell_laws.proofs.Chained.{chain_of_row}
use Rattle.px_cell_laws.proofs.Cutting.{mapped_to}
use Rattle.px_cell_laws.proofs.Locating.{chain_length}
use Rattle.px_cell_laws.proofs.Sweeping.{version_there}
use Rattle.px_shown.specs.Parts.{Parts}

-- ---- the first of the queue

record IsFirst (all : Transactions) (due : Due) : Type 0 where
  pub entry : Unswept
  pub rest : List Unswept
  pub queue : all.queue ≡ entry ∷ rest
  pub below : entry.place < xacts.horizon all
  pub same : due_from entry ≡ due

first_due : (all : Transactions) (due : Due) → xacts.due all ≡ Some due → IsFirst all due
unfolding xacts.due
first_due all due is = of_queue all.queue refl is
  where
    of_test : (entry : Unswept) (rest : List Unswept) → all.queue ≡ entry ∷ rest → (b : Bool) → ltb entry.place (xacts.horizon all) ≡ b
        → cond b (Some (due_from entry)) None ≡ Some due → IsFirst all due
    of_test entry rest queue true test some =
        record { entry = entry; rest = rest; queue = queue; below = ltb-true entry.place (xacts.horizon all) test; same = same_Some (due_from entry) due some }
    of_test entry rest queue false test some = absurd (none-some due some)

    of_queue : (queue : List Unswept) → all.queue ≡ queue → due_below (xacts.horizon all) queue ≡ Some due → IsFirst all due
    of_queue [] queue some = absurd (none-some due some)
    of_queue (entry ∷ rest) queue some = of_test entry rest queue (ltb entry.place (xacts.horizon all)) refl some

-- the machine's write that it is
record IsWriteOf (m : Machine) (entry : Unswept) : Type 0 where
  pub w : Flat
  pub next : slice_get (flat m) m.swept ≡ Some w
  pub known : known_of_unswept entry ≡ known_of_flat w

at_dropped : (all : List Flat) (n : ℕ) (w : Flat) (rest : List Flat) → drop n all ≡ w ∷ rest → slice_get all n ≡ Some w
at_dropped [] zero w rest is = let no : ⊥ = cc in absurd no
at_dropped [] (suc n) w rest is = let no : ⊥ = cc in absurd no
at_dropped (f ∷ all) zero w rest is = let same : f ≡ w = cc in ap (λ (g : Flat). Some g) same
at_dropped (f ∷ all) (suc n) w rest is = at_dropped all n w rest is

its_write : (m : Machine) (all : Transactions) (entry : Unswept) (rest : List Unswept) → Mirrors m all → all.queue ≡ entry ∷ rest → IsWriteOf m entry
its_write m all entry rest h queue = of_flats (drop m.swept (flat m)) refl (ap (map known_of_unswept) (sym queue) ∙ h.queue)
  where
    of_flats : (flats : List Flat) → drop m.swept (flat m) ≡ flats → known_of_unswept entry ∷ map known_of_unswept rest ≡ map known_of_flat flats → IsWriteOf m entry
    of_flats [] are same = let no : ⊥ = cc in absurd no
    of_flats (w ∷ flats) are same = record { w = w; next = at_dropped (flat m) m.swept w flats are; known = cc }

-- ---- its place

inside : (first : List ℕ) (n : ℕ) (last : List ℕ) → Contains (first ++ n ∷ last) n
inside [] n last = contains_first n last
inside (x ∷ first) n last = contains_other x n (first ++ n ∷ last) (inside first n last)

-- what stands in a list once has one place
one_place : (first last : List ℕ) (n place : ℕ) → IsApart (first ++ n ∷ last) → slice_get (first ++ n ∷ last) place ≡ Some n → place ≡ length first
one_place [] last n zero apart there = refl
one_place [] last n (suc place) apart there = absurd (apart.0 (found last place n there))
  where
    found : (list : List ℕ) (place n : ℕ) → slice_get list place ≡ Some n → Contains list n
    found [] place n there = absurd (none-some n there)
    found (x ∷ list) zero n there = subst (Contains (x ∷ list)) (same_Some x n there) (contains_first x list)
    found (x ∷ list) (suc place) n there = contains_other x n list (found list place n there)
one_place (x ∷ first) last n zero apart there = absurd (apart.0 (subst (Contains (first ++ n ∷ last)) (sym (same_Some x n there)) (inside first n last)))
one_place (x ∷ first) last n (suc place) apart there = ap suc (one_place first last n place apart.1 there)

-- The slot of the write that is due stands at the place of its version: those of the later writes of its key in front of it.
pub record IsLocated (all : Transactions) (store : Store) (write : WriteAt) (t row place : ℕ) : Type 0 where
  pub first : List ℕ
  pub last : List ℕ
  pub split : (store.layouts t).chain row ≡ first ++ write.slot ∷ last
  pub later : map (λ slot. (row, slot)) first ≡ reverse (map place_of (of_key (t, key_of (store.tables t) row) (unswept_writes (without_first all))))
  pub count : length first ≡ place
  pub its_row : row ≡ write.row

-- of the unswept writes of its key it is the first
of_its_key : (all : Transactions) (entry : Unswept) (rest : List Unswept) (key : Key) → all.queue ≡ entry ∷ rest → key_at entry.write ≡ key
    → of_key key (unswept_writes all) ≡ entry.write ∷ of_key key (unswept_writes (without_first all))
of_its_key all entry rest key queue its =
    let others = unswept_writes (record all { queue = rest }) in
    ap (λ (l : List Unswept). of_key key (unswept_writes (record all { queue = l }))) queue
    ∙ ap (λ (b : Bool). cond b (entry.write ∷ of_key key others) (of_key key others)) (ap (same_key key) its ∙ key_itself key)
    ∙ ap (λ (l : List Unswept). entry.write ∷ of_key key (unswept_writes (record all { queue = drop 1 l }))) (sym queue)

as_many_versions : (parts : Parts) (m : Machine) (store : Store) (t row : ℕ) → HoldsChains parts m store → IsUsedRow (store.tables t) row
    → length (versions_of store t row) ≡ length (chain m (t, key_of (store.tables t) row))
as_many_versions parts m store t row h used =
    sym (length-map (versions_of store t row) (variation_in parts m.base t))
    ∙ ap (λ (l : List Variation). length l) (sym (chain_of_row parts m store t row h used))
    ∙ length-reverse (chain m (t, key_of (store.tables t) row))

pub located : (parts : Parts) (m : Machine) (all : Transactions) (store : Store) (entry : Unswept) (rest : List Unswept) (w : Flat) (t row place : ℕ) → Mirrors m all → HoldsChains parts m store
    → AreWrittenAt all store → all.queue ≡ entry ∷ rest → key_at entry.write ≡ key_written w.write → IsSweptAt m store w t row place
    → IsLocated all store entry.write t row place
located parts m all store entry rest w t row place mirrors h at queue its swept =
    let key : Key = (t, key_of (store.tables t) row) in
    let others = of_key key (unswept_writes (without_first all)) in
    let front = at.chains t row swept.used in
    let writes = of_its_key all entry rest key queue (its ∙ sym swept.its_key) in
    let found : map (λ slot. (row, slot)) ((store.layouts t).chain row) ≡ reverse (map place_of others) ++ place_of entry.write ∷ front.others =
    front.split
    ∙ ap (λ (l : List WriteAt). reverse (map place_of l) ++ front.others) writes
    ∙ ap (λ (l : List (ℕ × ℕ)). l ++ front.others) (reverse-append (place_of entry.write ∷ []) (map place_of others))
    ∙ append_assoc (reverse (map place_of others)) (place_of entry.write ∷ []) front.others in
    let f = mapped_to (λ (slot : ℕ). (row, slot)) ((store.layouts t).chain row) (reverse (map place_of others)) (place_of entry.write) front.others found in
    let many : length f.first ≡ length others =
    sym (length-map f.first (λ (slot : ℕ). (row, slot)))
    ∙ ap (λ (l : List (ℕ × ℕ)). length l) f.its_first
    ∙ length-reverse (map place_of others)
    ∙ length-map others place_of in
    let versions = as_many_versions parts m store t row h swept.used in
    let whole = chain_length m all key mirrors in
    let unswept : length (of_key key (unswept_writes all)) ≡ 1 + length others = ap (λ (l : List WriteAt). length l) writes ∙ (let one : length (entry.write ∷ others) ≡ 1 + length others = omega arith in one) in
    let base : length (base_of m (key_written w.write)) ≡ length (base_of m key) = ap (λ (q : Key). length (base_of m q)) (sym swept.its_key) in
    let behind = swept.behind in
    record {
      first = f.first;
      last = f.last;
      split = f.split ∙ ap (λ (n : ℕ). f.first ++ n ∷ f.last) (ap (λ (p : ℕ × ℕ). p.1) f.its_one);
      later = f.its_first;
      count = omega (arith, many, versions, whole, unswept, base, behind);
      its_row = ap (λ (p : ℕ × ℕ). p.0) f.its_one;
    }

-- ---- what is due

-- the write that is due, and where its version stands
pub record IsDueAt (m : Machine) (all : Transactions) (store : Store) (due : Due) : Type 0 where
  pub w : Flat
  pub place : ℕ
  pub swept : IsSweptAt m store w due.table due.row place
  pub first : List ℕ
  pub last : List ℕ
  pub split : (store.layouts due.table).chain due.row ≡ first ++ due.slot ∷ last
  pub count : length first ≡ place
  pub number : w.number ≡ due.number
  pub committed : w.committed ≡ due.committed

due_at : (parts : Parts) (m : Machine) (all : Transactions) (store : Store) (due : Due) → Mirrors m all → HoldsChains parts m store → AreWrittenAt all store → xacts.due all ≡ Some due → IsDueAt m all store due
due_at parts m all store due mirrors h at is =
    let d = first_due all due is in
    let its = its_write m all d.entry d.rest mirrors d.queue in
    let key = key_written its.w.write in
    let its_key : key_at d.entry.write ≡ key = ap (λ (known : KnownWrite). known.1.1.1) its.known in
    let places : d.entry.place ≡ its.w.place = ap (λ (known : KnownWrite). known.0) its.known in
    let horizons = horizon_mirrors m all mirrors in
    let below = d.below in
    let there = version_there parts m store its.w h its.next (omega (arith, places, horizons, below)) in
    let l = located parts m all store d.entry d.rest its.w key.0 there.0 there.1 mirrors h at d.queue its_key there.2 in
    let table : key.0 ≡ d.entry.write.table = sym (ap (λ (q : Key). q.0) its_key) in
    subst (λ (it : Due). IsDueAt m all store it) d.same (subst (λ (t : ℕ). IsDueAt m all store (record (due_from d.entry) { table = t })) table
    (subst (λ (r : ℕ). IsDueAt m all store (record (due_from d.entry) { table = key.0; row = r })) l.its_row (record {
      w = its.w;
      place = there.1;
      swept = there.2;
      first = l.first;
      last = l.last;
      split = l.split;
      count = l.count;
      number = sym (ap (λ (known : KnownWrite). known.1.0) its.known);
      committed = sym (ap (λ (known : KnownWrite). known.1.1.0) its.known);
    })))

pub due_there : (parts : Parts) (m : Machine) (all : Transactions) (store : Store) (due : Due) → Mirrors m all → HoldsChains parts m store → AreWrittenAt all store → xacts.due all ≡ Some due
    → IsUsedRow (store.tables due.table) due.row × Contains ((store.layouts due.table).chain due.row) due.slot
due_there parts m all store due mirrors h at is =
    let d = due_at parts m all store due mirrors h at is in
    (d.swept.used, subst (λ (l : List ℕ). Contains l due.slot) (sym d.split) (inside d.first due.slot d.last))

pub due_swept : (parts : Parts) (m : Machine) (all : Transactions) (store : Store) (due : Due) (place : ℕ) → Mirrors m all → HoldsChains parts m store → AreWrittenAt all store → xacts.due all ≡ Some due
    → slice_get ((store.layouts due.table).chain due.row) place ≡ Some due.slot
    → (w : Flat) × IsSweptAt m store w due.table due.row place × (w.number ≡ due.number) × (w.committed ≡ due.committed)
due_swept parts m all store due place mirrors h at is there =
    let d = due_at parts m all store due mirrors h at is in
    let apart = subst IsApart d.split (chain_once m.short (store.tables due.table) (store.layouts due.table) due.row (h.sound due.table)) in
    let same : place ≡ d.place =
    one_place d.first d.last due.slot place apart (ap (λ (l : List ℕ). slice_get l place) (sym d.split) ∙ there) ∙ d.count in
    (d.w, subst (λ (p : ℕ). IsSweptAt m store d.w due.table due.row p) (sym same) d.swept, d.number, d.committed)
