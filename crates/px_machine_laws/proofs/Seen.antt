-- What a view has at a key: what the key's last write left, the transaction's own before a committed one.
use Rattle.std.proofs.Common.{◌≡◌, ℕ, ◌+◌, ◌-◌, ◌<◌, ◌≤◌, Bool, true, false, cond, List, [], ◌∷◌, ◌++◌, length, get_or, take, Option, Some, None, refl, sym, ap, ◌∙◌, arith}
use Rattle.std.specs.Prelude.{filter, flat_map}
use Rattle.std.specs.Option.{option_or}
use Rattle.std.proofs.lemmas.List.{take_more}
use Rattle.px_model.specs.declared.row.Row.{Row}
use Rattle.px_model.specs.declared.write.Write.{Write}
use Rattle.px_model.specs.declared.machine.Ended.{Ended}
use Rattle.px_model.specs.declared.machine.Open.{Open}
use Rattle.px_model.specs.Rows.{Key, same_key, key_written, row_at, after}
use Rattle.px_model.specs.Machine.{Machine, view, committed_writes}
use Rattle.px_model_laws.specs.Keys.{row_written}
use Rattle.px_model_laws.proofs.RowsAsMap.{newest, row_at-after}
use Rattle.px_machine_laws.specs.Seen.{last_of_key, last_committed_of, row_left}

or_none : (o : Option Write) → option_or o None ≡ o
or_none None = refl
or_none (Some w) = refl

or_or : (a b c : Option Write) → option_or a (option_or b c) ≡ option_or (option_or a b) c
or_or None b c = refl
or_or (Some w) b c = refl

-- ---- one more at the end

abbrev found : Key → Write → Option Write
found key w = cond (same_key key (key_written w)) (Some w) None

pub last_of_key-push : (key : Key) (writes : List Write) (w : Write) → last_of_key key (writes ++ w ∷ []) ≡ option_or (found key w) (last_of_key key writes)
last_of_key-push key [] w = sym (or_none (found key w))
last_of_key-push key (v ∷ writes) w =
    ap (λ o. option_or o (found key v)) (last_of_key-push key writes w) ∙ sym (or_or (found key w) (last_of_key key writes) (found key v))

abbrev pub found_in : Key → Ended → Option Write
found_in key e = cond e.committed (last_of_key key e.writes) None

pub last_committed_of-push : (key : Key) (ended : List Ended) (e : Ended)
    → last_committed_of key (ended ++ e ∷ []) ≡ option_or (found_in key e) (last_committed_of key ended)
last_committed_of-push key [] e = sym (or_none (found_in key e))
last_committed_of-push key (f ∷ ended) e =
    ap (λ o. option_or o (found_in key f)) (last_committed_of-push key ended e) ∙ sym (or_or (found_in key e) (last_committed_of key ended) (found_in key f))

-- the steps of a walk from the newest back, at the one before place i
back_one : (key : Key) (writes : List Write) (i : ℕ) (w : Write) → 0 < i → i ≤ length writes → w ≡ get_or writes (i - 1) w
    → last_of_key key (take i writes) ≡ option_or (found key w) (last_of_key key (take (i - 1) writes))
back_one key writes i w some le at =
    let up : i ≡ i - 1 + 1 = omega arith in
    ap (λ n. last_of_key key (take n writes)) up
    ∙ ap (last_of_key key) (take_more writes (i - 1) w (omega arith))
    ∙ ap (λ v. last_of_key key (take (i - 1) writes ++ v ∷ [])) (sym at)
    ∙ last_of_key-push key (take (i - 1) writes) w

pub found_back : (key : Key) (writes : List Write) (i : ℕ) (w : Write) → 0 < i → i ≤ length writes → w ≡ get_or writes (i - 1) w
    → same_key key (key_written w) ≡ true → last_of_key key writes ≡ last_of_key key (take i writes) → Some w ≡ last_of_key key writes
found_back key writes i w some le at same rest =
    sym (rest ∙ back_one key writes i w some le at ∙ ap (λ b. option_or (cond b (Some w) None) (last_of_key key (take (i - 1) writes))) same)

pub passed_back : (key : Key) (writes : List Write) (i : ℕ) (w : Write) → 0 < i → i ≤ length writes → w ≡ get_or writes (i - 1) w
    → same_key key (key_written w) ≡ false → last_of_key key writes ≡ last_of_key key (take i writes)
    → last_of_key key writes ≡ last_of_key key (take (i - 1) writes)
passed_back key writes i w some le at other rest =
    rest ∙ back_one key writes i w some le at ∙ ap (λ b. option_or (cond b (Some w) None) (last_of_key key (take (i - 1) writes))) other

back_entry : (key : Key) (ended : List Ended) (i : ℕ) (e : Ended) → 0 < i → i ≤ length ended → e ≡ get_or ended (i - 1) e
    → last_committed_of key (take i ended) ≡ option_or (found_in key e) (last_committed_of key (take (i - 1) ended))
back_entry key ended i e some le at =
    let up : i ≡ i - 1 + 1 = omega arith in
    ap (λ n. last_committed_of key (take n ended)) up
    ∙ ap (last_committed_of key) (take_more ended (i - 1) e (omega arith))
    ∙ ap (λ f. last_committed_of key (take (i - 1) ended ++ f ∷ [])) (sym at)
    ∙ last_committed_of-push key (take (i - 1) ended) e

pub committed_back : (key : Key) (ended : List Ended) (i : ℕ) (e : Ended) (w : Write) → 0 < i → i ≤ length ended → e ≡ get_or ended (i - 1) e
    → Some w ≡ found_in key e → last_committed_of key ended ≡ last_committed_of key (take i ended) → Some w ≡ last_committed_of key ended
committed_back key ended i e w some le at found_here rest =
    sym (rest ∙ back_entry key ended i e some le at ∙ ap (λ o. option_or o (last_committed_of key (take (i - 1) ended))) (sym found_here))

pub uncommitted_back : (key : Key) (ended : List Ended) (i : ℕ) (e : Ended) → 0 < i → i ≤ length ended → e ≡ get_or ended (i - 1) e
    → None ≡ found_in key e → last_committed_of key ended ≡ last_committed_of key (take i ended)
    → last_committed_of key ended ≡ last_committed_of key (take (i - 1) ended)
uncommitted_back key ended i e some le at none_here rest =
    rest ∙ back_entry key ended i e some le at ∙ ap (λ o. option_or o (last_committed_of key (take (i - 1) ended))) (sym none_here)

-- ---- the rows

row_left-or : (was : Option Row) (o : Option Write) (b : Bool) (w : Write) → row_left (cond b (row_written w) was) o ≡ row_left was (option_or o (cond b (Some w) None))
row_left-or was None true w = refl
row_left-or was None false w = refl
row_left-or was (Some v) b w = refl

pub newest-last : (key : Key) (was : Option Row) (writes : List Write) → newest key was writes ≡ row_left was (last_of_key key writes)
newest-last key was [] = refl
newest-last key was (w ∷ writes) =
    newest-last key (cond (same_key key (key_written w)) (row_written w) was) writes ∙ row_left-or was (last_of_key key writes) (same_key key (key_written w)) w

newest-append : (key : Key) (was : Option Row) (a b : List Write) → newest key was (a ++ b) ≡ newest key (newest key was a) b
newest-append key was [] b = refl
newest-append key was (w ∷ a) b = newest-append key (cond (same_key key (key_written w)) (row_written w) was) a b

row_left-left : (was : Option Row) (a b : Option Write) → row_left (row_left was a) b ≡ row_left was (option_or b a)
row_left-left was a None = refl
row_left-left was a (Some w) = refl

pub newest-committed : (key : Key) (was : Option Row) (ended : List Ended) → newest key was (committed_writes ended) ≡ row_left was (last_committed_of key ended)
newest-committed key was [] = refl
newest-committed key was (e ∷ ended) =
    elim e.committed as (λ b. newest key was (flat_map (λ f. f.writes) (cond b (e ∷ filter (λ f. f.committed) ended) (filter (λ f. f.committed) ended)))
    ≡ row_left was (option_or (last_committed_of key ended) (cond b (last_of_key key e.writes) None))) [
      | true ↦
          newest-append key was e.writes (committed_writes ended)
          ∙ ap (λ o. newest key o (committed_writes ended)) (newest-last key was e.writes)
          ∙ newest-committed key (row_left was (last_of_key key e.writes)) ended
          ∙ row_left-left was (last_of_key key e.writes) (last_committed_of key ended)
      | false ↦ newest-committed key was ended ∙ ap (row_left was) (sym (or_none (last_committed_of key ended)))
    ]

-- what all commits leave of a key
pub row_at-committed : (key : Key) (opening : List Row) (ended : List Ended)
    → row_at key (after opening (committed_writes ended)) ≡ row_left (row_at key opening) (last_committed_of key ended)
row_at-committed key opening ended =
    row_at-after key opening (committed_writes ended) ∙ newest-committed key (row_at key opening) ended

pub row_at-view : (key : Key) (m : Machine) (x : Open)
    → row_at key (view m x) ≡ row_left (row_left (row_at key m.opening) (last_committed_of key (take x.snap m.ended))) (last_of_key key x.writes)
unfolding view
row_at-view key m x =
    row_at-after key (after m.opening (committed_writes (take x.snap m.ended))) x.writes
    ∙ newest-last key (row_at key (after m.opening (committed_writes (take x.snap m.ended)))) x.writes
    ∙ ap (λ was. row_left was (last_of_key key x.writes)) (row_at-committed key m.opening (take x.snap m.ended))

pub ruleset seen = (row_at-view)
