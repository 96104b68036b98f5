-- What a call adds to the log is what it does to the machine.
use Rattle.std.proofs.Common.{◌≡◌, ◌≢◌, ◌⊎◌, ℕ, ◌+◌, ◌-◌, ◌≤◌, ◌==◌, Bool, true, false, cond, List, [], ◌∷◌, ◌++◌, length, take, filter, flat_map, count_by, Option, Some, None, option_map, zero, suc, get_or, set, refl, sym, ap, subst, ◌∙◌, append_assoc, inl, inr, arith}
use Rattle.std.proofs.lemmas.Bool.{ne_eqb, eq-eqb}
use Rattle.std.proofs.lemmas.Grind.{fold-append, flat_map-append}
use Rattle.std.proofs.lemmas.List.{append-nil}
use Rattle.std.proofs.lemmas.List.Elements.{filter-append}
use Rattle.std.proofs.lemmas.List.Sums.{length-filter, sum_by-append}
use Rattle.std.proofs.Math.Seq.{take-length}
use Rattle.px_model.specs.declared.machine.Ended.{Ended}
use Rattle.px_model.specs.declared.machine.Open.{Open}
use Rattle.px_model.specs.declared.row.Row.{Row}
use Rattle.px_model.specs.declared.write.Write.{Write}
use Rattle.px_model.specs.declared.write.Write.TheVariants.{Put as PutRow, Delete as DeleteRow}
use Rattle.px_model.specs.Rows.{after, after_write, row_at}
use Rattle.px_model.specs.Machine.{Machine, fresh, commits, committed_writes, no_session, published, view}
use Rattle.px_calls.specs.declared.call.Call.{Call}
use Rattle.px_calls.specs.declared.call.Call.TheVariants.{Begin, Get, Hold, Fetch, Find, Scan, Insert, Update, Delete, Commit, Rollback}
use Rattle.px_calls.specs.Histories.{state_after_all}
use Rattle.px_calls.specs.Steps.{open_of, is_refusal, reply_of, state_when_done, state_after, plus_write, plus_kept, with_slot, new_transaction, entries_of}
use Rattle.px_told.specs.declared.change.Change.{Change}
use Rattle.px_told.specs.declared.change.Change.TheVariants.{Put, Commit as CommitChange, Rollback as RollbackChange}
use Rattle.px_told.specs.Commits.{last_commit, commits_in}
use Rattle.px_told.specs.Writes.{writes_of, committed_after, rows_in}
use Rattle.px_told.specs.Changes.{greatest_stored, stored_number}
use Rattle.px_logged.specs.Logged.{put_of, end_of, logged_when_done, logged, logged_by_all}
use Rattle.px_logged.specs.Recounting.{rows_now, Recounts}
use Rattle.px_told.proofs.Commits.{last_commit-append}
use Rattle.px_told.proofs.Changes.{writes_of-append, greatest-append, no_writes}
use Rattle.px_told.proofs.Rows.{committed-append}
use Rattle.px_logged.proofs.Slots.{IsNow, IsStill, slot_is}

-- ---- the rows after all commits

abbrev is_committed : Ended → Bool
is_committed e = e.committed

abbrev writes_in : Ended → List Write
writes_in e = e.writes

now_is : (m : Machine) → rows_now m ≡ after m.opening (committed_writes m.ended)
unfolding published commits
now_is m =
    let count : m.before + count_by is_committed m.ended - m.before ≡ length (filter is_committed m.ended) = omega (arith, length-filter is_committed m.ended) in
    ap (λ (k : ℕ). after m.opening (flat_map writes_in (take k (filter is_committed m.ended)))) count
    ∙ ap (λ (ended : List Ended). after m.opening (flat_map writes_in ended)) (take-length (filter is_committed m.ended))

committed_more : (ended entries : List Ended) → committed_writes (ended ++ entries) ≡ committed_writes ended ++ committed_writes entries
committed_more ended entries =
    ap (flat_map writes_in) (filter-append is_committed ended entries) ∙ flat_map-append writes_in (filter is_committed ended) (filter is_committed entries)

some_is : {x y : Open} → Some x ≡ Some y → x ≡ y
some_is e = cc

-- ---- one transaction moves, and a few changes are added

abbrev moved : Machine → List Ended → ℕ → ℕ → Option Open → Machine
moved m ended begun session slot = record m { ended = ended; active = set m.active session slot; begun = begun }

record Moves (changes more : List Change) (m : Machine) (entries : List Ended) (begun session : ℕ) (slot : Option Open) : Type 0 where
  counts : commits m + count_by is_committed entries ≡ last_commit (commits m) more
  publishes : committed_writes entries ≡ committed_after changes more
  others : (s : ℕ) (y : Open) → s ≢ session → open_of m s ≡ Some y → writes_of (m.base + y.number) more ≡ []
  writes : (x : Open) → slot ≡ Some x → writes_of (m.base + x.number) (changes ++ more) ≡ x.writes
  alone : (x : Open) → slot ≡ Some x → (s : ℕ) (y : Open) → s ≢ session → open_of m s ≡ Some y → y.number ≢ x.number
  within : (x : Open) → slot ≡ Some x → x.number ≤ begun
  grew : m.begun ≤ begun
  below : greatest_stored 0 (changes ++ more) ≤ m.base + begun

moved_commits : (changes more : List Change) (m : Machine) (ended entries : List Ended) (begun session : ℕ) (slot : Option Open) → ended ≡ m.ended ++ entries
    → Recounts changes m → Moves changes more m entries begun session slot → commits (moved m ended begun session slot) ≡ commits_in (changes ++ more)
unfolding commits commits_in
moved_commits changes more m ended entries begun session slot is old moves =
    let both : count_by is_committed ended ≡ count_by is_committed m.ended + count_by is_committed entries =
    ap (count_by is_committed) is ∙ sum_by-append (λ (e : Ended). cond e.committed 1 0) m.ended entries in
    let sums : m.before + count_by is_committed ended ≡ m.before + count_by is_committed m.ended + count_by is_committed entries = omega (arith, both) in
    sums ∙ moves.counts ∙ ap (λ (k : ℕ). last_commit k more) old.commits_are ∙ sym (last_commit-append 0 changes more)

moved_rows : (changes more : List Change) (m : Machine) (ended entries : List Ended) (begun session : ℕ) (slot : Option Open) → ended ≡ m.ended ++ entries
    → Recounts changes m → Moves changes more m entries begun session slot → rows_now (moved m ended begun session slot) ≡ rows_in (changes ++ more)
unfolding rows_in
moved_rows changes more m ended entries begun session slot is old moves =
    now_is (moved m ended begun session slot)
    ∙ ap (λ (l : List Ended). after m.opening (committed_writes l)) is
    ∙ ap (after m.opening) (committed_more m.ended entries)
    ∙ fold-append after_write m.opening (committed_writes m.ended) (committed_writes entries)
    ∙ ap (λ (rows : List Row). after rows (committed_writes entries)) (sym (now_is m) ∙ old.rows_are)
    ∙ ap (after (after [] (committed_after [] changes))) moves.publishes
    ∙ sym (fold-append after_write [] (committed_after [] changes) (committed_after changes more))
    ∙ ap (after []) (sym (committed-append [] changes more))

moves_recount : (changes more : List Change) (m : Machine) (ended entries : List Ended) (begun session : ℕ) (slot : Option Open) → ended ≡ m.ended ++ entries
    → Recounts changes m → Moves changes more m entries begun session slot → Recounts (changes ++ more) (moved m ended begun session slot)
moves_recount changes more m ended entries begun session slot is old moves = record {
  commits_are = moved_commits changes more m ended entries begun session slot is old moves;
  rows_are = moved_rows changes more m ended entries begun session slot is old moves;
  writes_are = λ s x opened. writes s x (slot_is m.active session s slot x opened);
  one_each = λ s t x y open_s open_t same. one s t x y (slot_is m.active session s slot x open_s) (slot_is m.active session t slot y open_t) same;
  begun = λ s x opened. begun_by s x (slot_is m.active session s slot x opened);
  below = moves.below;
}
  where
    writes : (s : ℕ) (x : Open) → IsNow session s slot x ⊎ IsStill m.active session s x → writes_of (m.base + x.number) (changes ++ more) ≡ x.writes
    writes s x (inl now) = moves.writes x now.is
    writes s x (inr still) =
        writes_of-append (m.base + x.number) changes more
        ∙ ap (λ (l : List Write). writes_of (m.base + x.number) changes ++ l) (moves.others s x still.other still.is)
        ∙ append-nil (writes_of (m.base + x.number) changes)
        ∙ old.writes_are s x still.is

    one : (s t : ℕ) (x y : Open) → IsNow session s slot x ⊎ IsStill m.active session s x → IsNow session t slot y ⊎ IsStill m.active session t y → x.number ≡ y.number → s ≡ t
    one s t x y (inl a) (inl b) same = a.same ∙ sym b.same
    one s t x y (inl a) (inr b) same = absurd (moves.alone x a.is t y b.other b.is (sym same))
    one s t x y (inr a) (inl b) same = absurd (moves.alone y b.is s x a.other a.is same)
    one s t x y (inr a) (inr b) same = old.one_each s t x y a.is b.is same

    begun_by : (s : ℕ) (x : Open) → IsNow session s slot x ⊎ IsStill m.active session s x → x.number ≤ begun
    begun_by s x (inl now) = moves.within x now.is
    begun_by s x (inr still) = omega (arith, old.begun s x still.is, moves.grew)

-- ---- nothing is added

unmoved : (changes : List Change) (m : Machine) → Recounts changes m → Recounts (changes ++ []) m
unmoved changes m old = subst (λ (l : List Change). Recounts l m) (sym (append-nil changes)) old

-- the slot is emptied, and nothing is added
emptied : (changes : List Change) (m : Machine) (session : ℕ) → Recounts changes m → Moves changes [] m [] m.begun session None
emptied changes m session old = record {
  counts = omega arith;
  publishes = refl;
  others = λ s y other opened. refl;
  writes = λ x is. absurd cc;
  alone = λ x is. absurd cc;
  within = λ x is. absurd cc;
  grew = omega arith;
  below = omega (arith, old.below, ap (greatest_stored 0) (append-nil changes));
}

-- ---- begin

begins : (changes : List Change) (m : Machine) (session : ℕ) → Recounts changes m → Moves changes [] m [] (m.begun + 1) session (Some (new_transaction m))
begins changes m session old = record {
  counts = omega arith;
  publishes = refl;
  others = λ s y other opened. refl;
  writes = λ x is. new_one x (some_is is);
  alone = λ x is s y other opened. λ same. omega (arith, old.begun s y opened, ap (λ (o : Open). o.number) (some_is is), same);
  within = λ x is. omega (arith, ap (λ (o : Open). o.number) (some_is is));
  grew = omega arith;
  below = omega (arith, old.below, ap (greatest_stored 0) (append-nil changes));
}
  where
    new_one : (x : Open) → new_transaction m ≡ x → writes_of (m.base + x.number) (changes ++ []) ≡ x.writes
    new_one x is =
        ap (λ (o : Open). writes_of (m.base + o.number) (changes ++ [])) (sym is)
        ∙ ap (writes_of (m.base + (m.begun + 1))) (append-nil changes)
        ∙ no_writes (m.base + (m.begun + 1)) 0 changes (omega (arith, old.below))
        ∙ ap (λ (o : Open). o.writes) is

-- ---- the transaction stays, with its number

record Keeps (x y : Open) (added : List Write) : Type 0 where
  number : y.number ≡ x.number
  writes : y.writes ≡ x.writes ++ added

-- a change of the session's transaction alone, which ends nothing
stays : (changes more : List Change) (m : Machine) (session : ℕ) (x y : Open) (added : List Write) → Recounts changes m → open_of m session ≡ Some x → Keeps x y added
    → commits m ≡ last_commit (commits m) more → [] ≡ committed_after changes more → writes_of (m.base + x.number) more ≡ added
    → ((k : ℕ) → k ≢ x.number → writes_of (m.base + k) more ≡ []) → greatest_stored 0 (changes ++ more) ≤ m.base + m.begun
    → Moves changes more m [] m.begun session (Some y)
stays changes more m session x y added old opened keeps counts publishes this others below = record {
  counts = omega (arith, counts);
  publishes = publishes;
  others = λ s z other is. others z.number (apart s z other is);
  writes = λ z is. same_writes z (some_is is);
  alone = λ z is s w other open_w. λ same. apart s w other open_w (same ∙ sym (ap (λ (o : Open). o.number) (some_is is)) ∙ keeps.number);
  within = λ z is. omega (arith, old.begun session x opened, keeps.number, ap (λ (o : Open). o.number) (some_is is));
  grew = omega arith;
  below = below;
}
  where
    apart : (s : ℕ) (z : Open) → s ≢ session → open_of m s ≡ Some z → z.number ≢ x.number
    apart s z other is same = other (old.one_each s session z x is opened same)

    same_writes : (z : Open) → y ≡ z → writes_of (m.base + z.number) (changes ++ more) ≡ z.writes
    same_writes z is =
        ap (λ (o : Open). writes_of (m.base + o.number) (changes ++ more)) (sym is)
        ∙ ap (λ (k : ℕ). writes_of (m.base + k) (changes ++ more)) keeps.number
        ∙ writes_of-append (m.base + x.number) changes more
        ∙ ap (λ (l : List Write). l ++ writes_of (m.base + x.number) more) (old.writes_are session x opened)
        ∙ ap (λ (l : List Write). x.writes ++ l) this
        ∙ sym keeps.writes
        ∙ ap (λ (o : Open). o.writes) is

-- ---- hold

holds : (changes : List Change) (m : Machine) (session : ℕ) (row : Option Row) (slot : Option Open) → Recounts changes m → open_of m session ≡ slot
    → Recounts (changes ++ []) (with_slot m session (option_map (plus_kept row) slot))
holds changes m session row None old opened =
    moves_recount changes [] m m.ended [] m.begun session None (sym (append-nil m.ended)) old (emptied changes m session old)
holds changes m session row (Some x) old opened =
    moves_recount changes [] m m.ended [] m.begun session (Some (plus_kept row x)) (sym (append-nil m.ended)) old (
    stays changes [] m session x (plus_kept row x) [] old opened (record { number = refl; writes = sym (append-nil x.writes) }) refl refl refl (λ k other. refl)
    (omega (arith, old.below, ap (greatest_stored 0) (append-nil changes))))

-- ---- a write

-- the numbers in a log with one change more
below_more : (changes : List Change) (m : Machine) (session : ℕ) (x : Open) (change : Change) → Recounts changes m → open_of m session ≡ Some x → stored_number change ≡ m.base + x.number
    → greatest_stored 0 (changes ++ change ∷ []) ≤ m.base + m.begun
below_more changes m session x change old opened is = omega (arith, greatest-append 0 changes (change ∷ []), old.below, old.begun session x opened, is)

puts : (changes : List Change) (m : Machine) (session : ℕ) (write : Write) (slot : Option Open) → Recounts changes m → open_of m session ≡ slot
    → Recounts (changes ++ put_of m slot write) (with_slot m session (option_map (plus_write write) slot))
puts changes m session write None old opened =
    moves_recount changes [] m m.ended [] m.begun session None (sym (append-nil m.ended)) old (emptied changes m session old)
puts changes m session write (Some x) old opened =
    let change : Change = Put (m.base + x.number) write in
    moves_recount changes (change ∷ []) m m.ended [] m.begun session (Some (plus_write write x)) (sym (append-nil m.ended)) old (
    stays changes (change ∷ []) m session x (plus_write write x) (write ∷ []) old opened (record { number = refl; writes = refl }) refl refl
    (ap (λ (b : Bool). cond b (write ∷ []) []) (eq-eqb (m.base + x.number) (m.base + x.number) refl))
    (λ k other. ap (λ (b : Bool). cond b (write ∷ []) []) (ne_eqb (m.base + x.number) (m.base + k) (λ same. other (omega (arith, same)))))
    (below_more changes m session x change old opened refl))

-- ---- the end

abbrev unless_empty : Bool → Change → List Change
unless_empty empty change = cond empty [] (change ∷ [])

abbrev entered : (empty committed : Bool) → Open → List Ended
entered empty committed x = cond empty [] (record { number = x.number; committed = committed; snap = x.snap; writes = x.writes } ∷ [])

-- the transaction ends with one change
ends : (changes : List Change) (m : Machine) (session : ℕ) (x : Open) (change : Change) (e : Ended) → Recounts changes m → open_of m session ≡ Some x
    → stored_number change ≡ m.base + x.number → ((k : ℕ) → writes_of k (change ∷ []) ≡ [])
    → commits m + count_by is_committed (e ∷ []) ≡ last_commit (commits m) (change ∷ []) → committed_writes (e ∷ []) ≡ committed_after changes (change ∷ [])
    → Moves changes (change ∷ []) m (e ∷ []) m.begun session None
ends changes m session x change e old opened is silent counts publishes = record {
  counts = counts;
  publishes = publishes;
  others = λ s y other open_y. silent (m.base + y.number);
  writes = λ z is. absurd cc;
  alone = λ z is. absurd cc;
  within = λ z is. absurd cc;
  grew = omega arith;
  below = below_more changes m session x change old opened is;
}

commits_with : (changes : List Change) (m : Machine) (session : ℕ) (x : Open) (empty : Bool) → Recounts changes m → open_of m session ≡ Some x
    → Recounts (changes ++ unless_empty empty (CommitChange (m.base + x.number) (commits m + 1))) (moved m (m.ended ++ entered empty true x) m.begun session None)
commits_with changes m session x true old opened = moves_recount changes [] m (m.ended ++ []) [] m.begun session None refl old (emptied changes m session old)
commits_with changes m session x false old opened =
    let e : Ended = record { number = x.number; committed = true; snap = x.snap; writes = x.writes } in
    let change : Change = CommitChange (m.base + x.number) (commits m + 1) in
    moves_recount changes (change ∷ []) m (m.ended ++ e ∷ []) (e ∷ []) m.begun session None refl old (
    ends changes m session x change e old opened refl (λ k. refl) (omega arith)
    (ap (λ (l : List Write). l ++ []) (sym (old.writes_are session x opened))))

commits_it : (changes : List Change) (m : Machine) (session : ℕ) (slot : Option Open) → Recounts changes m → open_of m session ≡ slot
    → Recounts (changes ++ end_of m slot (λ xn. CommitChange xn (commits m + 1))) (moved m (m.ended ++ entries_of true slot) m.begun session None)
commits_it changes m session None old opened = moves_recount changes [] m (m.ended ++ []) [] m.begun session None refl old (emptied changes m session old)
commits_it changes m session (Some x) old opened = commits_with changes m session x (length x.writes == 0) old opened

rolls_with : (changes : List Change) (m : Machine) (session : ℕ) (x : Open) (empty : Bool) → Recounts changes m → open_of m session ≡ Some x
    → Recounts (changes ++ unless_empty empty (RollbackChange (m.base + x.number))) (moved m (m.ended ++ entered empty false x) m.begun session None)
rolls_with changes m session x true old opened = moves_recount changes [] m (m.ended ++ []) [] m.begun session None refl old (emptied changes m session old)
rolls_with changes m session x false old opened =
    let e : Ended = record { number = x.number; committed = false; snap = x.snap; writes = x.writes } in
    let change : Change = RollbackChange (m.base + x.number) in
    moves_recount changes (change ∷ []) m (m.ended ++ e ∷ []) (e ∷ []) m.begun session None refl old (
    ends changes m session x change e old opened refl (λ k. refl) (omega arith) refl)

rolls_it : (changes : List Change) (m : Machine) (session : ℕ) (slot : Option Open) → Recounts changes m → open_of m session ≡ slot
    → Recounts (changes ++ end_of m slot RollbackChange) (moved m (m.ended ++ entries_of false slot) m.begun session None)
rolls_it changes m session None old opened = moves_recount changes [] m (m.ended ++ []) [] m.begun session None refl old (emptied changes m session old)
rolls_it changes m session (Some x) old opened = rolls_with changes m session x (length x.writes == 0) old opened

-- ---- each call

done_recounts : (changes : List Change) (m : Machine) (session : ℕ) (call : Call) → Recounts changes m
    → Recounts (changes ++ logged_when_done m (open_of m session) call) (state_when_done m session call)
unfolding state_when_done
done_recounts changes m session Begin old =
    moves_recount changes [] m m.ended [] (m.begun + 1) session (Some (new_transaction m)) (sym (append-nil m.ended)) old (begins changes m session old)
done_recounts changes m session (Get table key) old = unmoved changes m old
done_recounts changes m session (Hold table key) old = holds_row (open_of m session) refl
  where
    kept : Open → Open
    kept xact = plus_kept (row_at (table, key) (view m xact)) xact

    holds_row : (slot : Option Open) → open_of m session ≡ slot → Recounts (changes ++ []) (with_slot m session (option_map kept slot))
    holds_row None opened = holds changes m session None None old opened
    holds_row (Some x) opened = holds changes m session (row_at (table, key) (view m x)) (Some x) old opened
done_recounts changes m session (Fetch ticket) old = unmoved changes m old
done_recounts changes m session (Find table tag) old = unmoved changes m old
done_recounts changes m session (Scan table) old = unmoved changes m old
done_recounts changes m session (Insert table key tag body) old =
    puts changes m session (PutRow (record { table = table; key = key; tag = tag; body = body })) (open_of m session) old refl
done_recounts changes m session (Update table key tag body) old =
    puts changes m session (PutRow (record { table = table; key = key; tag = tag; body = body })) (open_of m session) old refl
done_recounts changes m session (Delete table key) old = puts changes m session (DeleteRow table key) (open_of m session) old refl
done_recounts changes m session Commit old = commits_it changes m session (open_of m session) old refl
done_recounts changes m session Rollback old = rolls_it changes m session (open_of m session) old refl

unless_refused : (changes added : List Change) (m done : Machine) (refused : Bool) → Recounts changes m → Recounts (changes ++ added) done
    → Recounts (changes ++ cond refused [] added) (cond refused m done)
unless_refused changes added m done true old new = unmoved changes m old
unless_refused changes added m done false old new = new

pub call_recounts : (changes : List Change) (m : Machine) (session : ℕ) (call : Call) → Recounts changes m → Recounts (changes ++ logged m session call) (state_after m session call)
unfolding logged state_after
call_recounts changes m session call old =
    unless_refused changes (logged_when_done m (open_of m session) call) m (state_when_done m session call) (is_refusal (reply_of m session call)) old (done_recounts changes m session call old)

pub calls_recount : (changes : List Change) (m : Machine) (calls : List (ℕ × Call)) → Recounts changes m → Recounts (changes ++ logged_by_all m calls) (state_after_all m calls)
calls_recount changes m [] old = unmoved changes m old
calls_recount changes m (c ∷ calls) old =
    let one = call_recounts changes m c.0 c.1 old in
    subst (λ (l : List Change). Recounts l (state_after_all m (c ∷ calls))) (append_assoc changes (logged m c.0 c.1) (logged_by_all (state_after m c.0 c.1) calls))
    (calls_recount (changes ++ logged m c.0 c.1) (state_after m c.0 c.1) calls one)

-- ---- a machine that starts now

abbrev all_none : List (Option Open) → Bool
all_none [] = true
all_none (None ∷ slots) = all_none slots
all_none (Some xact ∷ slots) = false

pub no_slot : (s : ℕ) (x : Open) → get_or no_session s None ≡ Some x → ⊥
no_slot s x is = none s no_session refl is
  where
    none : (s : ℕ) (slots : List (Option Open)) → all_none slots ≡ true → get_or slots s None ≡ Some x → ⊥
    none s [] all is = absurd cc
    none zero (None ∷ slots) all is = absurd cc
    none (suc s) (None ∷ slots) all is = none s slots all is
    none s (Some y ∷ slots) all is = absurd cc

pub fresh_recounts : (changes : List Change) (tables short base : ℕ) → greatest_stored 0 changes ≤ base → Recounts changes (fresh tables short (rows_in changes) (commits_in changes) base)
unfolding fresh commits
fresh_recounts changes tables short base below = record {
  commits_are = omega arith;
  rows_are = now_is (fresh tables short (rows_in changes) (commits_in changes) base);
  writes_are = λ s x opened. absurd (no_slot s x opened);
  one_each = λ s t x y open_s open_t same. absurd (no_slot s x open_s);
  begun = λ s x opened. absurd (no_slot s x opened);
  below = omega (arith, below);
}
