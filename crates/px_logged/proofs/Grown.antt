-- What has been committed stays, and only a commit adds to it.
use Rattle.std.proofs.Common.{◌≡◌, ◌≢◌, ℕ, ◌+◌, ◌-◌, ◌<◌, ◌≤◌, ◌==◌, Bool, true, false, cond, List, [], ◌∷◌, ◌++◌, length, take, filter, flat_map, Option, Some, None, refl, sym, ap, subst, ◌∙◌, append_assoc, length-append, arith}
use Rattle.std.proofs.lemmas.Bool.{ne_eqb, false≢true}
use Rattle.std.proofs.lemmas.List.{append-nil, take-append-le}
use Rattle.std.proofs.lemmas.List.Elements.{filter-append}
use Rattle.std.proofs.lemmas.List.Sums.{length-filter}
use Rattle.px_model.specs.declared.machine.Ended.{Ended}
use Rattle.px_model.specs.declared.machine.Open.{Open}
use Rattle.px_model.specs.declared.row.Row.{Row}
use Rattle.px_model.specs.declared.write.Write.{Write}
use Rattle.px_model.specs.Rows.{after}
use Rattle.px_model.specs.Machine.{Machine, commits, published}
use Rattle.px_calls.specs.declared.call.Call.{Call}
use Rattle.px_calls.specs.declared.call.Call.TheVariants.{Begin, Get, Hold, Fetch, Find, Scan, Insert, Update, Delete, Commit, Rollback}
use Rattle.px_calls.specs.declared.reply.Reply.TheVariants.{Committed, EndedEmpty}
use Rattle.px_calls.specs.Histories.{state_after_all}
use Rattle.px_calls.specs.Steps.{open_of, is_refusal, if_open, reply_of, state_when_done, state_after, entries_of}
use Rattle.px_told.specs.declared.change.Change.{Change}
use Rattle.px_told.specs.declared.change.Change.TheVariants.{Commit as CommitChange}
use Rattle.px_logged.specs.Logged.{end_of, logged}
use Rattle.px_logged.specs.Growing.{KeepsOpening, KeepsCommitted}

-- ---- the committed transactions

abbrev is_committed : Ended → Bool
is_committed e = e.committed

abbrev pub committed : List Ended → List Ended
committed ended = filter is_committed ended

-- the transaction that a call commits
abbrev pub committing : Machine → ℕ → Call → List Ended
committing m session Commit = entries_of true (open_of m session)
committing m session _ = []

commits_are : (m : Machine) → commits m ≡ m.before + length (committed m.ended)
unfolding commits
commits_are m = omega (arith, length-filter is_committed m.ended)

-- ---- one call

pub record Grows (m later : Machine) (more : List Ended) : Type 0 where
  pub opening : KeepsOpening m later
  pub committed : committed later.ended ≡ committed m.ended ++ more

abbrev moved : Machine → List Ended → List (Option Open) → ℕ → Machine
moved m ended active begun = record m { ended = ended; active = active; begun = begun }

-- no transaction ends
passes : (m : Machine) (active : List (Option Open)) (begun : ℕ) → Grows m (moved m m.ended active begun) []
passes m active begun = record {
  opening = record { tables = refl; short = refl; opening = refl; before = refl; base = refl };
  committed = sym (append-nil (committed m.ended));
}

-- one ends
closes : (m : Machine) (active : List (Option Open)) (entries more : List Ended) → committed entries ≡ more → Grows m (moved m (m.ended ++ entries) active m.begun) more
closes m active entries more is = record {
  opening = record { tables = refl; short = refl; opening = refl; before = refl; base = refl };
  committed = filter-append is_committed m.ended entries ∙ ap (λ (l : List Ended). committed m.ended ++ l) is;
}

rolls : (slot : Option Open) → committed (entries_of false slot) ≡ []
rolls None = refl
rolls (Some x) = by_writes (length x.writes == 0)
  where
    by_writes : (b : Bool) → committed (cond b [] (record { number = x.number; committed = false; snap = x.snap; writes = x.writes } ∷ [])) ≡ []
    by_writes true = refl
    by_writes false = refl

enters : (slot : Option Open) → committed (entries_of true slot) ≡ entries_of true slot
enters None = refl
enters (Some x) = by_writes (length x.writes == 0)
  where
    e : Ended
    e = record { number = x.number; committed = true; snap = x.snap; writes = x.writes }

    by_writes : (b : Bool) → committed (cond b [] (e ∷ [])) ≡ cond b [] (e ∷ [])
    by_writes true = refl
    by_writes false = refl

-- a commit that is refused has no transaction
none_enters : (m : Machine) (slot : Option Open) → is_refusal (if_open slot (λ xact. cond (length xact.writes == 0) EndedEmpty (Committed (commits m + 1)))) ≡ true → entries_of true slot ≡ []
none_enters m None refused = refl
none_enters m (Some x) refused = absurd (by_writes (length x.writes == 0) refused)
  where
    by_writes : (b : Bool) → is_refusal (cond b EndedEmpty (Committed (commits m + 1))) ≡ true → ⊥
    by_writes true refused = false≢true refused
    by_writes false refused = false≢true refused

unless_refused : (m done : Machine) (refused : Bool) (more : List Ended) → (refused ≡ true → more ≡ []) → Grows m done more → Grows m (cond refused m done) more
unless_refused m done true more none grows = subst (Grows m m) (sym (none refl)) (passes m m.active m.begun)
unless_refused m done false more none grows = grows

when_done : (m : Machine) (session : ℕ) (call : Call) → Grows m (state_when_done m session call) (committing m session call)
unfolding state_when_done
when_done m session Begin = passes m _ (m.begun + 1)
when_done m session (Get table key) = passes m m.active m.begun
when_done m session (Hold table key) = passes m _ m.begun
when_done m session (Fetch ticket) = passes m m.active m.begun
when_done m session (Find table tag) = passes m m.active m.begun
when_done m session (Scan table) = passes m m.active m.begun
when_done m session (Insert table key tag body) = passes m _ m.begun
when_done m session (Update table key tag body) = passes m _ m.begun
when_done m session (Delete table key) = passes m _ m.begun
when_done m session Commit = closes m _ (entries_of true (open_of m session)) _ (enters (open_of m session))
when_done m session Rollback = closes m _ (entries_of false (open_of m session)) _ (rolls (open_of m session))

refused_commits_none : (m : Machine) (session : ℕ) (call : Call) → is_refusal (reply_of m session call) ≡ true → committing m session call ≡ []
unfolding reply_of
refused_commits_none m session Commit refused = none_enters m (open_of m session) refused
refused_commits_none m session _ refused = refl

pub call_grows : (m : Machine) (session : ℕ) (call : Call) → Grows m (state_after m session call) (committing m session call)
unfolding state_after
call_grows m session call =
    unless_refused m (state_when_done m session call) (is_refusal (reply_of m session call)) (committing m session call) (refused_commits_none m session call) (when_done m session call)

-- ---- what has been committed, after a call

abbrev writes_in : Ended → List Write
writes_in e = e.writes

pub grown_commits : (m later : Machine) (more : List Ended) → Grows m later more → commits later ≡ commits m + length more
grown_commits m later more grows =
    omega (arith, commits_are later, commits_are m, ap length grows.committed, length-append (committed m.ended) more, grows.opening.before)

grown_published : (m later : Machine) (more : List Ended) (count : ℕ) → Grows m later more → count ≤ commits m - m.before → published later count ≡ published m count
unfolding published
grown_published m later more count grows within =
    let fits : count ≤ length (committed m.ended) = omega (arith, within, commits_are m) in
    ap (λ (rows : List Row). after rows (flat_map writes_in (take count (committed later.ended)))) grows.opening.opening
    ∙ ap (λ (l : List Ended). after m.opening (flat_map writes_in (take count l))) grows.committed
    ∙ ap (λ (l : List Ended). after m.opening (flat_map writes_in l)) (take-append-le count (committed m.ended) more fits)

grown_by_none : (m later : Machine) (more : List Ended) → Grows m later more → more ≡ [] → KeepsCommitted m later
grown_by_none m later more grows none =
    let same : commits later ≡ commits m = omega (arith, grown_commits m later more grows, ap length none) in
    record {
      commits = same;
      rows = ap (λ (k : ℕ). published later k) (omega (arith, same, grows.opening.before)) ∙ grown_published m later more (commits m - m.before) grows (omega arith);
    }

-- a call that isn't a Commit
pub others_keep_committed : (m : Machine) (session : ℕ) (call : Call) → call ≢ Commit → KeepsCommitted m (state_after m session call)
others_keep_committed m session call other = grown_by_none m (state_after m session call) (committing m session call) (call_grows m session call) (none call other)
  where
    none : (call : Call) → call ≢ Commit → committing m session call ≡ []
    none Commit other = absurd (other refl)
    none _ other = refl

-- what a commit adds to the log has a frame of what it commits
entries_within : (m : Machine) (slot : Option Open) → length (entries_of true slot) ≤ length (end_of m slot (λ xn. CommitChange xn (commits m + 1)))
entries_within m None = omega arith
entries_within m (Some x) = by_writes (length x.writes == 0)
  where
    e : Ended
    e = record { number = x.number; committed = true; snap = x.snap; writes = x.writes }

    by_writes : (b : Bool) → length (cond b [] (e ∷ [])) ≤ length (cond b [] (CommitChange (m.base + x.number) (commits m + 1) ∷ []))
    by_writes true = omega arith
    by_writes false = omega arith

unless_none : (refused : Bool) (entries : List Ended) (changes : List Change) → (refused ≡ true → entries ≡ []) → length entries ≤ length changes → length entries ≤ length (cond refused [] changes)
unless_none true entries changes none within = omega (arith, ap length (none refl))
unless_none false entries changes none within = within

pub committing_within : (m : Machine) (session : ℕ) (call : Call) → length (committing m session call) ≤ length (logged m session call)
unfolding logged
committing_within m session Commit =
    unless_none (is_refusal (reply_of m session Commit)) (entries_of true (open_of m session)) (end_of m (open_of m session) (λ xn. CommitChange xn (commits m + 1))) (refused_commits_none m session Commit) (entries_within m (open_of m session))
committing_within m session _ = omega arith

pub silent_commit_keeps_committed : (m : Machine) (session : ℕ) → logged m session Commit ≡ [] → KeepsCommitted m (state_after m session Commit)
silent_commit_keeps_committed m session silent =
    let none : length (committing m session Commit) ≤ 0 = omega (arith, committing_within m session Commit, ap length silent) in
    grown_by_none m (state_after m session Commit) (committing m session Commit) (call_grows m session Commit) (is_nil (committing m session Commit) none)
  where
    is_nil : (l : List Ended) → length l ≤ 0 → l ≡ []
    is_nil [] none = refl
    is_nil (e ∷ l) none = absurd (omega (arith, none))

pub commit_counts : (m : Machine) (session : ℕ) (x : Open) → open_of m session ≡ Some x → 0 < length x.writes → commits (state_after m session Commit) ≡ commits m + 1
commit_counts m session x is some =
    let e : Ended = record { number = x.number; committed = true; snap = x.snap; writes = x.writes } in
    let one : committing m session Commit ≡ e ∷ [] =
    ap (entries_of true) is ∙ ap (λ (b : Bool). cond b [] (e ∷ [])) (ne_eqb (length x.writes) 0 (λ none. omega (arith, some, none))) in
    omega (arith, grown_commits m (state_after m session Commit) (committing m session Commit) (call_grows m session Commit), ap length one)

-- ---- many calls

grows_on : (m next later : Machine) (some more : List Ended) → Grows m next some → Grows next later more → Grows m later (some ++ more)
grows_on m next later some more first then_on = record {
  opening = record {
    tables = then_on.opening.tables ∙ first.opening.tables;
    short = then_on.opening.short ∙ first.opening.short;
    opening = then_on.opening.opening ∙ first.opening.opening;
    before = then_on.opening.before ∙ first.opening.before;
    base = then_on.opening.base ∙ first.opening.base;
  };
  committed = then_on.committed ∙ ap (λ (l : List Ended). l ++ more) first.committed ∙ append_assoc (committed m.ended) some more;
}

abbrev committing_all : Machine → List (ℕ × Call) → List Ended
committing_all m [] = []
committing_all m (c ∷ calls) = committing m c.0 c.1 ++ committing_all (state_after m c.0 c.1) calls

calls_grow : (m : Machine) (calls : List (ℕ × Call)) → Grows m (state_after_all m calls) (committing_all m calls)
calls_grow m [] = passes m m.active m.begun
calls_grow m (c ∷ calls) =
    grows_on m (state_after m c.0 c.1) (state_after_all m (c ∷ calls)) (committing m c.0 c.1) (committing_all (state_after m c.0 c.1) calls) (call_grows m c.0 c.1) (calls_grow (state_after m c.0 c.1) calls)

pub opening_stays : (m : Machine) (calls : List (ℕ × Call)) → KeepsOpening m (state_after_all m calls)
opening_stays m calls = (calls_grow m calls).opening

pub commits_rise : (m : Machine) (calls : List (ℕ × Call)) → commits m ≤ commits (state_after_all m calls)
commits_rise m calls = omega (arith, grown_commits m (state_after_all m calls) (committing_all m calls) (calls_grow m calls))

pub published_stays : (m : Machine) (calls : List (ℕ × Call)) (count : ℕ) → count ≤ commits m - m.before → published (state_after_all m calls) count ≡ published m count
published_stays m calls count within = grown_published m (state_after_all m calls) (committing_all m calls) count (calls_grow m calls) within
