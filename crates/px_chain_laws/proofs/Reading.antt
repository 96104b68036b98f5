-- What is read of a chain: a reader's view of the key, and the last writer past a snapshot.
use Rattle.std.proofs.Common.{◌≡◌, ◌≢◌, ℕ, ◌+◌, ◌-◌, ◌<◌, ◌≤◌, Bool, true, false, cond, ◌&&◌, ◌||◌, eqb, ltb, List, [], ◌∷◌, ◌++◌, map, length, take, drop, Option, Some, None, option_map, refl, sym, ap, subst, ◌∙◌, arith}
use Rattle.std.specs.Prelude.{All, IfSome, flat_map, slice_set}
use Rattle.std.specs.Option.{option_or}
use Rattle.std.proofs.lemmas.Bool.{ne_eqb, eq-eqb, lt-ltb, le-ltb, and_parts}
use Rattle.std.proofs.lemmas.List.{take-append-drop, length-take-le}
use Rattle.std.proofs.lemmas.List.Elements.{All-take, All-drop, All-weaker}
use Rattle.px_model.specs.declared.row.Row.{Row}
use Rattle.px_model.specs.declared.write.Write.{Write}
use Rattle.px_model.specs.declared.write.Write.TheVariants.{Put, Delete}
use Rattle.px_model.specs.declared.machine.Flat.{Flat}
use Rattle.px_model.specs.declared.machine.Open.{Open}
use Rattle.px_model.specs.declared.machine.Variation.{Variation}
use Rattle.px_model.specs.Rows.{Key, same_key, key_written, row_at, in_order}
use Rattle.px_model.specs.Machine.{Machine, view, flat, flat_from}
use Rattle.px_model.specs.Chains.{last_committed, of_ended, of_slot, of_key, is_put, base_or, chain}
use Rattle.px_model_laws.specs.Keys.{row_written}
use Rattle.px_model_laws.proofs.BaseRows.{left_by}
use Rattle.px_model_laws.proofs.Laws.{rows_are_their_answers, views_are_in_order}
use Rattle.px_calls.specs.Steps.{open_of, open_writer, last_writer, conflict_of}
use Rattle.px_machine_laws.specs.Seen.{last_of_key, row_left}
use Rattle.px_machine_laws.proofs.Seen.{row_at-view}
use Rattle.px_model.specs.declared.standing.Standing.TheVariants.{Open as OpenYet}
use Rattle.px_chain.specs.Visible.{is_done}
use Rattle.px_xacts.specs.Transactions.{standing_at}
use Rattle.px_xacts.proofs.Standings.{ended_not_open}
use Rattle.px_xacts_laws.proofs.Mirroring.{flat_from-append}
use Rattle.px_chain_laws.specs.Kept.{IsKept}
use Rattle.px_chain_laws.specs.Reading.{standing_in, sees, seen, row_seen, is_committed, newest_committed, writer_past}
use Rattle.px_chain_laws.proofs.Ended.{places_from, places_below, last_write, last_number}
use Rattle.px_chain_laws.proofs.Looking.{last, last-append, none_passes, last_agree, last_found, last_committed-last, last_committed-append, last_of_flats, by, none_of_slots, last_of_slots}
use Rattle.px_chain_laws.proofs.Standings.{IsTold, ended_are_told, open_are_open}

-- a chain from its newest end
pub newest_first : (test : Variation → Bool) (base passed own : List Variation)
    → last test (base ++ passed ++ own) ≡ option_or (last test own) (option_or (last test passed) (last test base))
newest_first test base passed own =
    last-append test (base ++ passed) own ∙ ap (option_or (last test own)) (last-append test base passed)

-- ---- ended writes before a snapshot, and past it

abbrev before : ℕ → Machine → List Flat
before snap m = flat_from 0 (take snap m.ended)

abbrev past : ℕ → Machine → List Flat
past snap m = flat_from (0 + length (take snap m.ended)) (drop snap m.ended)

cut : (snap : ℕ) (m : Machine) → flat m ≡ before snap m ++ past snap m
cut snap m = ap (flat_from 0) (sym (take-append-drop snap m.ended)) ∙ flat_from-append 0 (take snap m.ended) (drop snap m.ended)

before_places : (snap : ℕ) (m : Machine) → snap ≤ length m.ended → All (λ f. f.place < snap) (before snap m)
before_places snap m le = All-weaker (λ (f : Flat). f.place < 0 + length (take snap m.ended)) (λ (f : Flat). f.place < snap)
    (λ f h. omega (arith, h, length-take-le snap m.ended le)) (before snap m) (places_below 0 (take snap m.ended))

past_places : (snap : ℕ) (m : Machine) → snap ≤ length m.ended → All (λ f. snap ≤ f.place) (past snap m)
past_places snap m le = All-weaker (λ (f : Flat). 0 + length (take snap m.ended) ≤ f.place) (λ (f : Flat). snap ≤ f.place)
    (λ f h. omega (arith, h, length-take-le snap m.ended le)) (past snap m) (places_from (0 + length (take snap m.ended)) (drop snap m.ended))

-- ---- a reader

-- it committed below the snapshot
abbrev done_by : ℕ → Flat → Bool
done_by snap f = f.committed && ltb f.place snap

abbrev of_done : Key → ℕ → Flat → Bool
of_done key snap f = done_by snap f && same_key key (key_written f.write)

abbrev of_committed : Key → Flat → Bool
of_committed key f = f.committed && same_key key (key_written f.write)

done_at : (place snap : ℕ) (committed : Bool) → is_done snap (standing_at place committed) ≡ (committed && ltb place snap)
done_at place snap true = refl
done_at place snap false = refl

sees_ended : (m : Machine) (x : Open) (f : Flat) → IsTold m f → standing_in m (Some (m.base + x.number)) ≡ OpenYet
    → sees m x (of_ended m.base f) ≡ done_by x.snap f
sees_ended m x f told open' =
    let other : eqb (m.base + f.number) (m.base + x.number) ≡ false = ne_eqb (m.base + f.number) (m.base + x.number)
    (λ same. ended_not_open f.place f.committed (sym told ∙ ap (λ (n : ℕ). standing_in m (Some n)) same ∙ open')) in
    ap (λ b. b || is_done x.snap (standing_in m (Some (m.base + f.number)))) other
    ∙ ap (is_done x.snap) told
    ∙ done_at f.place x.snap f.committed

sees_other : (m : Machine) (x y : Open) (w : Write) → y.number ≢ x.number → standing_in m (Some (m.base + y.number)) ≡ OpenYet
    → sees m x (by (Some (m.base + y.number)) w) ≡ false
sees_other m x y w ne open' =
    ap (λ b. b || is_done x.snap (standing_in m (Some (m.base + y.number)))) (ne_eqb (m.base + y.number) (m.base + x.number) (λ same. ne (omega (arith, same))))
    ∙ ap (is_done x.snap) open'

sees_own : (m : Machine) (x : Open) (w : Write) → sees m x (by (Some (m.base + x.number)) w) ≡ true
sees_own m x w = ap (λ b. b || is_done x.snap (standing_in m (Some (m.base + x.number)))) (eq-eqb (m.base + x.number) (m.base + x.number) refl)

below_snap : (key : Key) (snap : ℕ) (f : Flat) → f.place < snap → of_committed key f ≡ of_done key snap f
below_snap key snap f lt = kept f.committed (ltb f.place snap) (lt-ltb f.place snap lt)
  where
    kept : (c b : Bool) → b ≡ true → (c && same_key key (key_written f.write)) ≡ ((c && b) && same_key key (key_written f.write))
    kept true b e = ap (λ t. t && same_key key (key_written f.write)) (sym e)
    kept false b e = refl

past_snap : (key : Key) (snap : ℕ) (f : Flat) → snap ≤ f.place → of_done key snap f ≡ false
past_snap key snap f le = gone f.committed (ltb f.place snap) (le-ltb f.place snap le)
  where
    gone : (c b : Bool) → b ≡ false → ((c && b) && same_key key (key_written f.write)) ≡ false
    gone true b e = ap (λ t. t && same_key key (key_written f.write)) e
    gone false b e = refl

-- the last committed write among those below the snapshot
last_below : (key : Key) (snap : ℕ) (all : List Flat) → All (λ f. f.place < snap) all → last_committed key all ≡ last (of_done key snap) all
last_below key snap all low =
    last_committed-last key all
    ∙ last_agree (of_committed key) (of_done key snap) all
    (All-weaker (λ (f : Flat). f.place < snap) (λ (f : Flat). of_committed key f ≡ of_done key snap f) (below_snap key snap) all low)

last_done : (key : Key) (snap : ℕ) (m : Machine) → snap ≤ length m.ended → last (of_done key snap) (flat m) ≡ last_committed key (before snap m)
last_done key snap m le =
    ap (last (of_done key snap)) (cut snap m)
    ∙ last-append (of_done key snap) (before snap m) (past snap m)
    ∙ ap (λ o. option_or o (last (of_done key snap) (before snap m))) (none_passes (of_done key snap) (past snap m)
    (All-weaker (λ (f : Flat). snap ≤ f.place) (λ (f : Flat). of_done key snap f ≡ false) (past_snap key snap) (past snap m) (past_places snap m le)))
    ∙ sym (last_below key snap (before snap m) (before_places snap m le))

row_over : (xn : Option ℕ) (o : Option Write) (v : Option Variation) → row_seen (option_or (option_map (by xn) o) v) ≡ row_left (row_seen v) o
row_over xn None v = refl
row_over xn (Some w) v = refl

pub row_over_ended : (base : ℕ) (o : Option Flat) (v : Option Variation) → row_seen (option_or (option_map (of_ended base) o) v) ≡ left_by (row_seen v) o
row_over_ended base None v = refl
row_over_ended base (Some f) v = refl

pub left_left : (row : Option Row) (a b : Option Flat) → left_by (left_by row a) b ≡ left_by row (option_or b a)
left_left row a None = refl
left_left row a (Some f) = refl

pub left_writes : (row : Option Row) (o : Option Flat) → left_by row o ≡ row_left row (option_map (λ (f : Flat). f.write) o)
left_writes row None = refl
left_writes row (Some f) = refl

put_seen : (test : Variation → Bool) (base : ℕ) (f : Flat) (w : Write) → f.write ≡ w → test (of_ended base f) ≡ true
    → row_seen (last test (cond (is_put w) (of_ended base f ∷ []) [])) ≡ row_written w
put_seen test base f (Put row) e passes = ap (λ b. row_seen (cond b (Some (of_ended base f)) None)) passes ∙ ap row_written e
put_seen test base f (Delete table key) e passes = refl

pub base_seen : (test : Variation → Bool) (base : ℕ) (row : Option Row) (o : Option Flat) → ((r : Row) → test (by None (Put r)) ≡ true)
    → IfSome o (λ f. test (of_ended base f) ≡ true) → row_seen (last test (base_or base row o)) ≡ left_by row o
base_seen test base None None first passes = refl
base_seen test base (Some r) None first passes = ap (λ b. row_seen (cond b (Some (by None (Put r))) None)) (first r)
base_seen test base row (Some f) first passes = put_seen test base f f.write refl passes

pub seen_row : (m : Machine) (session : ℕ) (x : Open) (key : Key) → IsKept m → open_of m session ≡ Some x
    → row_seen (seen m x key) ≡ row_at key (view m x)
unfolding seen chain
seen_row m session x key k at =
    let test : Variation → Bool = sees m x in
    let row = row_at key m.opening in
    let was = last_committed key (take m.swept (flat m)) in
    let passed = of_key key (map (of_ended m.base) (drop m.swept (flat m))) in
    let own = of_key key (flat_map (of_slot m.base) m.active) in
    let now = last (of_done key x.snap) (drop m.swept (flat m)) in
    let open' = open_are_open m k.numbered session x at in
    let told : All (λ f. test (of_ended m.base f) ≡ done_by x.snap f) (flat m) =
    All-weaker (IsTold m) (λ (f : Flat). test (of_ended m.base f) ≡ done_by x.snap f) (λ f t. sees_ended m x f t open') (flat m) (ended_are_told m k.numbered) in
    let first = newest_first test (base_or m.base row was) passed own in
    let of_own = last_of_slots test m.base key m.active session x at
    (λ t y w ne bt. sees_other m x y w (λ same. ne (k.numbered.open_ones.apart t session y x bt at same)) (open_are_open m k.numbered t y bt))
    (sees_own m x) in
    let of_passed = last_of_flats test (done_by x.snap) m.base key (drop m.swept (flat m))
    (All-drop (λ (f : Flat). test (of_ended m.base f) ≡ done_by x.snap f) m.swept (flat m) told) in
    let swept : was ≡ last (of_done key x.snap) (take m.swept (flat m)) = last_below key x.snap (take m.swept (flat m)) (k.swept.below session x at) in
    let base_passes : IfSome was (λ f. test (of_ended m.base f) ≡ true) =
    subst (λ o. IfSome o (λ f. test (of_ended m.base f) ≡ true)) (sym swept)
    (last_found (of_done key x.snap) (λ (f : Flat). test (of_ended m.base f) ≡ true) (take m.swept (flat m))
    (All-weaker (λ (f : Flat). test (of_ended m.base f) ≡ done_by x.snap f) (λ (f : Flat). of_done key x.snap f ≡ true → test (of_ended m.base f) ≡ true)
    (λ f t d. t ∙ (and_parts (done_by x.snap f) (same_key key (key_written f.write)) d).0) (take m.swept (flat m))
    (All-take (λ (f : Flat). test (of_ended m.base f) ≡ done_by x.snap f) m.swept (flat m) told))) in
    let both : option_or now was ≡ last_committed key (before x.snap m) =
    ap (option_or now) swept
    ∙ sym (last-append (of_done key x.snap) (take m.swept (flat m)) (drop m.swept (flat m)))
    ∙ ap (last (of_done key x.snap)) (take-append-drop m.swept (flat m))
    ∙ last_done key x.snap m (k.swept.snaps session x at) in
    ap row_seen first
    ∙ ap (λ o. row_seen (option_or o (option_or (last test passed) (last test (base_or m.base row was))))) of_own
    ∙ row_over (Some (m.base + x.number)) (last_of_key key x.writes) (option_or (last test passed) (last test (base_or m.base row was)))
    ∙ ap (λ r. row_left r (last_of_key key x.writes))
    (ap (λ o. row_seen (option_or o (last test (base_or m.base row was)))) of_passed
    ∙ row_over_ended m.base now (last test (base_or m.base row was))
    ∙ ap (λ r. left_by r now) (base_seen test m.base row was (λ r. refl) base_passes)
    ∙ left_left row was now
    ∙ ap (left_by row) both
    ∙ left_writes row (last_committed key (before x.snap m))
    ∙ ap (row_left row) (last_write key 0 (take x.snap m.ended)))
    ∙ sym (row_at-view key m x)

-- rows in order with what is seen at each key are the view
pub seen_rows : (m : Machine) (session : ℕ) (x : Open) (rows : List Row) → IsKept m → open_of m session ≡ Some x → in_order m.opening ≡ true
    → in_order rows ≡ true → ((key : Key) → row_at key rows ≡ row_seen (seen m x key)) → rows ≡ view m x
seen_rows m session x rows k at opening order each =
    rows_are_their_answers rows (view m x) order (views_are_in_order m x opening) (λ key. each key ∙ seen_row m session x key k at)

-- ---- a writer

abbrev number_past : ℕ → Option Flat → Option ℕ
number_past snap None = None
number_past snap (Some f) = cond (ltb f.place snap) None (Some f.number)

pub committed_at : (place : ℕ) (committed : Bool) → is_committed (standing_at place committed) ≡ committed
committed_at place true = refl
committed_at place false = refl

-- of a committed write it is told who wrote it
past_told : (m : Machine) (snap : ℕ) (f : Flat) → IsTold m f → f.committed ≡ true → writer_past m snap (Some (of_ended m.base f)) ≡ number_past snap (Some f)
past_told m snap f told committed =
    ap (λ s. cond (is_done snap s) None (Some (m.base + f.number - m.base))) told
    ∙ ap (λ b. cond (is_done snap (standing_at f.place b)) None (Some (m.base + f.number - m.base))) committed
    ∙ ap (λ (n : ℕ). cond (ltb f.place snap) None (Some n)) (omega arith)

base_past : (m : Machine) (snap : ℕ) (f : Flat) (w : Write) → IsTold m f → f.committed ≡ true → f.place < snap
    → writer_past m snap (last (λ v. is_committed (standing_in m v.xn)) (cond (is_put w) (of_ended m.base f ∷ []) [])) ≡ None
base_past m snap f (Put row) told committed low =
    ap (λ s. writer_past m snap (cond (is_committed s) (Some (of_ended m.base f)) None)) told
    ∙ ap (λ b. writer_past m snap (cond b (Some (of_ended m.base f)) None)) (committed_at f.place f.committed ∙ committed)
    ∙ past_told m snap f told committed
    ∙ ap (λ b. cond b None (Some f.number)) (lt-ltb f.place snap low)
base_past m snap f (Delete table key) told committed low = refl

-- a committed write, of which it is told who wrote it
abbrev IsKnown : Machine → Flat → Type 0
IsKnown m f = IsTold m f × (f.committed ≡ true)

abbrev IsKnownBelow : Machine → ℕ → Flat → Type 0
IsKnownBelow m snap f = IsKnown m f × (f.place < snap)

newest_past : (m : Machine) (snap : ℕ) (row : Option Row) (now was : Option Flat) → IfSome now (IsKnown m) → IfSome was (IsKnownBelow m snap)
    → writer_past m snap (option_or (option_map (of_ended m.base) now) (last (λ v. is_committed (standing_in m v.xn)) (base_or m.base row was)))
    ≡ number_past snap (option_or now was)
newest_past m snap None None None known low = refl
newest_past m snap (Some r) None None known low = refl
newest_past m snap row None (Some f) known low =
    base_past m snap f f.write low.0.0 low.0.1 low.1 ∙ ap (λ b. cond b None (Some f.number)) (sym (lt-ltb f.place snap low.1))
newest_past m snap row (Some f) was known low = past_told m snap f known.0 known.1

number_over : (snap : ℕ) (high low : Option Flat) → IfSome high (λ f. snap ≤ f.place) → IfSome low (λ f. f.place < snap)
    → number_past snap (option_or high low) ≡ option_map (λ (f : Flat). f.number) high
number_over snap None None h l = refl
number_over snap None (Some f) h l = ap (λ b. cond b None (Some f.number)) (lt-ltb f.place snap l)
number_over snap (Some f) low h l = ap (λ b. cond b None (Some f.number)) (le-ltb f.place snap h)

pub committed_found : (key : Key) (P : Flat → Type 0) (all : List Flat) → All (λ f. f.committed ≡ true → P f) all → IfSome (last_committed key all) P
committed_found key P all each =
    subst (λ o. IfSome o P) (sym (last_committed-last key all))
    (last_found (of_committed key) P all
    (All-weaker (λ (f : Flat). f.committed ≡ true → P f) (λ (f : Flat). of_committed key f ≡ true → P f)
    (λ f h d. h (and_parts f.committed (same_key key (key_written f.write)) d).0) all each))

-- the last committed write of a key tells who wrote it last past a snapshot
last_past : (key : Key) (snap : ℕ) (m : Machine) → snap ≤ length m.ended
    → number_past snap (last_committed key (flat m)) ≡ last_writer key (drop snap m.ended)
last_past key snap m le =
    ap (λ l. number_past snap (last_committed key l)) (cut snap m)
    ∙ ap (number_past snap) (last_committed-append key (before snap m) (past snap m))
    ∙ number_over snap (last_committed key (past snap m)) (last_committed key (before snap m))
    (committed_found key (λ (f : Flat). snap ≤ f.place) (past snap m)
    (All-weaker (λ (f : Flat). snap ≤ f.place) (λ (f : Flat). f.committed ≡ true → snap ≤ f.place) (λ f h c. h) (past snap m) (past_places snap m le)))
    (committed_found key (λ (f : Flat). f.place < snap) (before snap m)
    (All-weaker (λ (f : Flat). f.place < snap) (λ (f : Flat). f.committed ≡ true → f.place < snap) (λ f h c. h) (before snap m) (before_places snap m le)))
    ∙ last_number key (0 + length (take snap m.ended)) (drop snap m.ended)

pub writer_stands_there : (m : Machine) (session : ℕ) (x : Open) (key : Key) → IsKept m → open_of m session ≡ Some x
    → last_writer key (drop x.snap m.ended) ≡ writer_past m x.snap (newest_committed m key)
unfolding newest_committed chain
writer_stands_there m session x key k at =
    let test : Variation → Bool = λ v. is_committed (standing_in m v.xn) in
    let row = row_at key m.opening in
    let was = last_committed key (take m.swept (flat m)) in
    let passed = of_key key (map (of_ended m.base) (drop m.swept (flat m))) in
    let own = of_key key (flat_map (of_slot m.base) m.active) in
    let now = last_committed key (drop m.swept (flat m)) in
    let told = ended_are_told m k.numbered in
    let is_told : All (λ f. test (of_ended m.base f) ≡ f.committed) (flat m) =
    All-weaker (IsTold m) (λ (f : Flat). test (of_ended m.base f) ≡ f.committed) (λ f t. ap is_committed t ∙ committed_at f.place f.committed) (flat m) told in
    let of_own : last test own ≡ None = none_of_slots test m.base key m.active (λ t y w bt. ap is_committed (open_are_open m k.numbered t y bt)) in
    let of_passed : last test passed ≡ option_map (of_ended m.base) now =
    last_of_flats test (λ f. f.committed) m.base key (drop m.swept (flat m)) (All-drop (λ (f : Flat). test (of_ended m.base f) ≡ f.committed) m.swept (flat m) is_told)
    ∙ ap (option_map (of_ended m.base)) (sym (last_committed-last key (drop m.swept (flat m)))) in
    let known : IfSome now (IsKnown m) = committed_found key (IsKnown m) (drop m.swept (flat m))
    (All-weaker (IsTold m) (λ (f : Flat). f.committed ≡ true → IsKnown m f) (λ f t c. (t, c)) (drop m.swept (flat m)) (All-drop (IsTold m) m.swept (flat m) told)) in
    let low : IfSome was (IsKnownBelow m x.snap) = committed_found key (IsKnownBelow m x.snap) (take m.swept (flat m))
    (λ i d lt c. ((All-take (IsTold m) m.swept (flat m) told i d lt, c), k.swept.below session x at i d lt)) in
    let both : option_or now was ≡ last_committed key (flat m) =
    sym (last_committed-append key (take m.swept (flat m)) (drop m.swept (flat m))) ∙ ap (last_committed key) (take-append-drop m.swept (flat m)) in
    sym (ap (writer_past m x.snap) (newest_first test (base_or m.base row was) passed own)
    ∙ ap (λ o. writer_past m x.snap (option_or o (option_or (last test passed) (last test (base_or m.base row was))))) of_own
    ∙ ap (λ o. writer_past m x.snap (option_or o (last test (base_or m.base row was)))) of_passed
    ∙ newest_past m x.snap row now was known low
    ∙ ap (number_past x.snap) both
    ∙ last_past key x.snap m (k.swept.snaps session x at))

pub conflict_stands_there : (m : Machine) (session : ℕ) (x : Open) (key : Key) → IsKept m → open_of m session ≡ Some x
    → conflict_of m session x key ≡ option_or (open_writer key (slice_set m.active session None)) (writer_past m x.snap (newest_committed m key))
unfolding conflict_of
conflict_stands_there m session x key k at =
    ap (option_or (open_writer key (slice_set m.active session None))) (writer_stands_there m session x key k at)
