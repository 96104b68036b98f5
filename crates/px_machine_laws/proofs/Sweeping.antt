-- A step of the sweeper makes no table fuller, and leaves each reply as it was but where a table was full.
use Rattle.std.proofs.Common.{◌≡◌, ◌≢◌, ◌⊎◌, ℕ, ◌+◌, ◌≤◌, Bool, true, false, cond, not, List, [], ◌∷◌, ◌++◌, map, take, drop, Option, Some, None, refl, ap, subst, ◌∙◌, inl, inr, arith, suc, zero}
use Rattle.std.specs.Prelude.{count_by, filter, is_none, is_some}
use Rattle.std.specs.declared.cmp.Ordering.TheVariants.{Less, Equal, Greater}
use Rattle.std.specs.FinMap.Entries.{by_order}
use Rattle.std.proofs.lemmas.List.Sums.{sum_by-append, sum_by-cons}
use Rattle.px_model.specs.declared.limits.TheConstants.{MOST_VARIATIONS}
use Rattle.px_model.specs.declared.machine.Flat.{Flat}
use Rattle.px_model.specs.declared.machine.Open.{Open}
use Rattle.px_model.specs.declared.row.Row.{Row}
use Rattle.px_model.specs.declared.write.Write.{Write}
use Rattle.px_model.specs.declared.write.Write.TheVariants.{Put, Delete}
use Rattle.px_model.specs.Chains.{all_variations, base_rows, in_table, open_writes, unswept_writes, variations_of_table}
use Rattle.px_model.specs.Machine.{Machine, committed_flat, commits, flat, view}
use Rattle.px_model.specs.Rows.{after, after_write, key_cmp, key_of, row_at, same_key, with_row}
use Rattle.px_calls.specs.declared.call.Call.{Call}
use Rattle.px_calls.specs.declared.call.Call.TheVariants.{Begin, Get, Hold, Fetch, Find, Scan, Insert, Update, Delete as DeleteCall, Commit, Rollback}
use Rattle.px_calls.specs.declared.reply.Reply.{Reply}
use Rattle.px_calls.specs.declared.reply.Reply.TheVariants.{Deleted, Duplicate, Inserted, Missing, TableFull, Updated}
use Rattle.px_calls.specs.Sweeps.{counts_sweep, sweep_reply, swept_state}
use Rattle.px_calls.specs.Steps.{begins_spent, conflict_of, fits_body, has_table, if_open, is_full, is_refusal, longest_body, open_of, reply_of, unless_refused, write_refusal}

-- ---- the versions of a table

-- how many of these rows the table has
abbrev rows_in : ℕ → List Row → ℕ
rows_in t rows = count_by (in_table t) (map Put rows)

abbrev one_in : ℕ → Write → ℕ
one_in t w = cond (in_table t w) 1 0

rows_in-cons : (t : ℕ) (row : Row) (rows : List Row) → rows_in t (row ∷ rows) ≡ one_in t (Put row) + rows_in t rows
rows_in-cons t row rows = sum_by-cons (one_in t) (Put row) (map Put rows)

-- a row in its place is one more, or one for another
rows_in-with : (t : ℕ) (row : Row) (rows : List Row) → rows_in t (with_row row rows) ≤ one_in t (Put row) + rows_in t rows
rows_in-with t row [] = omega (arith, rows_in-cons t row [])
rows_in-with t row (r ∷ rows) =
    let in_front = rows_in-cons t row (r ∷ rows) in
    let over = rows_in-cons t row rows in
    let behind = rows_in-cons t r (with_row row rows) in
    let was = rows_in-cons t r rows in
    let later = rows_in-with t row rows in
    elim (key_cmp (key_of row) (key_of r)) as (λ o. rows_in t (by_order o (row ∷ r ∷ rows) (row ∷ rows) (r ∷ with_row row rows)) ≤ one_in t (Put row) + rows_in t (r ∷ rows)) [
      | Less ↦ omega (arith, in_front)
      | Equal ↦ omega (arith, over, was)
      | Greater ↦ omega (arith, behind, was, later)
    ]

rows_in-filter : (t : ℕ) (keep : Row → Bool) (rows : List Row) → rows_in t (filter keep rows) ≤ rows_in t rows
rows_in-filter t keep [] = omega arith
rows_in-filter t keep (r ∷ rows) =
    let rest = rows_in-filter t keep rows in
    let was = rows_in-cons t r rows in
    let kept = rows_in-cons t r (filter keep rows) in
    elim (keep r) as (λ b. rows_in t (cond b (r ∷ filter keep rows) (filter keep rows)) ≤ rows_in t (r ∷ rows)) [
      | true ↦ omega (arith, kept, was, rest)
      | false ↦ omega (arith, was, rest)
    ]

rows_in-write : (t : ℕ) (rows : List Row) (w : Write) → rows_in t (after_write rows w) ≤ one_in t w + rows_in t rows
rows_in-write t rows (Put row) = rows_in-with t row rows
rows_in-write t rows (Delete table key) = omega (arith, rows_in-filter t (λ row. not (same_key (table, key) (key_of row))) rows)

-- how many versions the table has of the rows after the first writes, and of the other writes
abbrev held : ℕ → List Row → List Flat → ℕ → ℕ
held t rows all swept =
    rows_in t (after rows (committed_flat (take swept all))) + count_by (in_table t) (map (λ (f : Flat). f.write) (drop swept all))

-- with one more among the first ones they are no more
one_passed : (t : ℕ) (rows : List Row) (all : List Flat) (swept : ℕ) → held t rows all (suc swept) ≤ held t rows all swept
one_passed t rows [] zero = omega arith
one_passed t rows [] (suc swept) = omega arith
one_passed t rows (f ∷ all) zero =
    let goes = sum_by-cons (one_in t) f.write (map (λ (g : Flat). g.write) all) in
    let stays = rows_in-write t rows f.write in
    elim f.committed as (λ b. rows_in t (after rows (map (λ (g : Flat). g.write) (cond b (f ∷ []) []))) + count_by (in_table t) (map (λ (g : Flat). g.write) all) ≤ held t rows (f ∷ all) 0) [
      | true ↦ omega (arith, goes, stays)
      | false ↦ omega (arith, goes)
    ]
one_passed t rows (f ∷ all) (suc swept) =
    elim f.committed as (λ b.
    rows_in t (after rows (map (λ (g : Flat). g.write) (cond b (f ∷ filter (λ g. g.committed) (take (suc swept) all)) (filter (λ g. g.committed) (take (suc swept) all)))))
    + count_by (in_table t) (map (λ (g : Flat). g.write) (drop (suc swept) all))
    ≤ rows_in t (after rows (map (λ (g : Flat). g.write) (cond b (f ∷ filter (λ g. g.committed) (take swept all)) (filter (λ g. g.committed) (take swept all)))))
    + count_by (in_table t) (map (λ (g : Flat). g.write) (drop swept all))) [
      | true ↦ one_passed t (after_write rows f.write) all swept
      | false ↦ one_passed t rows all swept
    ]

some_passed : (t : ℕ) (rows : List Row) (all : List Flat) (swept more : ℕ) → held t rows all (swept + more) ≤ held t rows all swept
some_passed t rows all swept zero =
    let same : swept ≡ swept + 0 = omega arith in
    subst (λ (n : ℕ). held t rows all n ≤ held t rows all swept) same (omega arith)
some_passed t rows all swept (suc more) =
    let same : suc (swept + more) ≡ swept + suc more = omega arith in
    let fewer : held t rows all (suc (swept + more)) ≤ held t rows all swept =
    omega (arith, one_passed t rows all (swept + more), some_passed t rows all swept more) in
    subst (λ (n : ℕ). held t rows all n ≤ held t rows all swept) same fewer

counted : (m : Machine) (t : ℕ) → variations_of_table m t ≡ held t m.opening (flat m) m.swept + count_by (in_table t) (open_writes m)
unfolding variations_of_table all_variations base_rows
counted m t =
    sum_by-append (one_in t) (map Put (base_rows m) ++ unswept_writes m) (open_writes m)
    ∙ ap (λ (n : ℕ). n + count_by (in_table t) (open_writes m)) (sum_by-append (one_in t) (map Put (base_rows m)) (unswept_writes m))

pub no_more_versions : (m : Machine) (t : ℕ) → variations_of_table (swept_state m) t ≤ variations_of_table m t
unfolding swept_state
no_more_versions m t =
    let now = counted (swept_state m) t in
    let was = counted m t in
    let fewer = some_passed t m.opening (flat m) m.swept (counts_sweep (sweep_reply m)) in
    omega (arith, now, was, fewer)

pub room_stays : (m : Machine) (t : ℕ) → is_full m t ≡ false → is_full (swept_state m) t ≡ false
unfolding is_full
room_stays m t room = grind (arith, no_more_versions m t, room)

-- ---- the replies

-- the reply is the same, or a full table has room
abbrev StaysOrIsDone : (was now : Reply) → Type 0
StaysOrIsDone was now = (now ≡ was) ⊎ ((was ≡ TableFull MOST_VARIATIONS) × (is_refusal now ≡ false))

-- where the last thing that a write's reply asks is whether the table is full
written : (slot : Option Open) (refused : Open → Option Reply) (wrong : Open → Bool) (refusal done : Reply) (was now : Bool) → is_refusal done ≡ false
    → (was ≡ false → now ≡ false)
    → StaysOrIsDone (if_open slot (λ x. unless_refused (refused x) (cond (wrong x) refusal (cond was (TableFull MOST_VARIATIONS) done))))
    (if_open slot (λ x. unless_refused (refused x) (cond (wrong x) refusal (cond now (TableFull MOST_VARIATIONS) done))))
written None refused wrong refusal done was now answers room = inl refl
written (Some x) refused wrong refusal done was now answers room = elim (refused x) as (λ o.
    StaysOrIsDone (unless_refused o (cond (wrong x) refusal (cond was (TableFull MOST_VARIATIONS) done)))
    (unless_refused o (cond (wrong x) refusal (cond now (TableFull MOST_VARIATIONS) done)))) [
      | None ↦ elim (wrong x) as (λ b. StaysOrIsDone (cond b refusal (cond was (TableFull MOST_VARIATIONS) done)) (cond b refusal (cond now (TableFull MOST_VARIATIONS) done))) [
        | true ↦ inl refl
        | false ↦ last was now room
      ]
      | Some r ↦ inl refl
    ]
  where
    last : (was now : Bool) → (was ≡ false → now ≡ false) → StaysOrIsDone (cond was (TableFull MOST_VARIATIONS) done) (cond now (TableFull MOST_VARIATIONS) done)
    last true true room = inl refl
    last true false room = inr (refl, answers)
    last false now room = inl (ap (λ (b : Bool). cond b (TableFull MOST_VARIATIONS) done) (room refl))

stays_or_is_done : (m : Machine) (session : ℕ) (call : Call) → StaysOrIsDone (reply_of m session call) (reply_of (swept_state m) session call)
unfolding swept_state reply_of view commits begins_spent has_table fits_body longest_body conflict_of write_refusal
stays_or_is_done m session Begin = inl refl
stays_or_is_done m session (Get table key) = inl refl
stays_or_is_done m session (Hold table key) = inl refl
stays_or_is_done m session (Fetch ticket) = inl refl
stays_or_is_done m session (Find table tag) = inl refl
stays_or_is_done m session (Scan table) = inl refl
stays_or_is_done m session (Insert table key tag body) =
    written (open_of m session) (λ x. write_refusal m session x table key (fits_body m body)) (λ x. is_some (row_at (table, key) (view m x))) Duplicate Inserted
    (is_full m table) (is_full (swept_state m) table) refl (room_stays m table)
stays_or_is_done m session (Update table key tag body) =
    written (open_of m session) (λ x. write_refusal m session x table key (fits_body m body)) (λ x. is_none (row_at (table, key) (view m x))) Missing Updated
    (is_full m table) (is_full (swept_state m) table) refl (room_stays m table)
stays_or_is_done m session (DeleteCall table key) =
    written (open_of m session) (λ x. write_refusal m session x table key true) (λ x. is_none (row_at (table, key) (view m x))) Missing Deleted
    (is_full m table) (is_full (swept_state m) table) refl (room_stays m table)
stays_or_is_done m session Commit = inl refl
stays_or_is_done m session Rollback = inl refl

pub replies_stay : (m : Machine) (session : ℕ) (call : Call) → reply_of m session call ≢ TableFull MOST_VARIATIONS
    → reply_of (swept_state m) session call ≡ reply_of m session call
replies_stay m session call other = elim (stays_or_is_done m session call) [
  | inl same ↦ same
  | inr done ↦ absurd (other done.0)
]

pub full_may_have_room : (m : Machine) (session : ℕ) (call : Call) → reply_of m session call ≡ TableFull MOST_VARIATIONS
    → (reply_of (swept_state m) session call ≡ TableFull MOST_VARIATIONS) ⊎ (is_refusal (reply_of (swept_state m) session call) ≡ false)
full_may_have_room m session call full = elim (stays_or_is_done m session call) [
  | inl same ↦ inl (same ∙ full)
  | inr done ↦ inr done.1
]

pub views_stay : (m : Machine) (xact : Open) → view (swept_state m) xact ≡ view m xact
unfolding swept_state view
views_stay m xact = refl

pub commits_stay : (m : Machine) → commits (swept_state m) ≡ commits m
unfolding swept_state commits
commits_stay m = refl
