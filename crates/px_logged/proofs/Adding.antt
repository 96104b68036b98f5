-- What each call adds to the log, and the state that it leaves.
use Rattle.std.proofs.Common.{◌≡◌, ℕ, ◌+◌, ◌<◌, ◌==◌, Bool, true, false, cond, List, [], ◌∷◌, length, Option, Some, None, refl, ap, ◌∙◌, arith}
use Rattle.std.proofs.lemmas.Bool.{true≢false, ne_eqb, eq-eqb}
use Rattle.px_model.specs.declared.machine.Open.{Open}
use Rattle.px_model.specs.declared.write.Write.{Write}
use Rattle.px_model.specs.declared.write.Write.TheVariants.{Put as PutRow, Delete as DeleteRow}
use Rattle.px_model.specs.Machine.{Machine, commits}
use Rattle.px_calls.specs.declared.call.Call.{Call}
use Rattle.px_calls.specs.declared.call.Call.TheVariants.{Begin, Get, Hold, Fetch, Find, Scan, Insert, Update, Delete, Commit, Rollback}
use Rattle.px_calls.specs.declared.reply.Reply.{Reply}
use Rattle.px_calls.specs.declared.reply.Reply.TheVariants.{Committed, EndedEmpty, RolledBack}
use Rattle.px_calls.specs.Steps.{open_of, is_refusal, if_open, reply_of, state_when_done, state_after, with_write}
use Rattle.px_told.specs.declared.change.Change.{Change}
use Rattle.px_told.specs.declared.change.Change.TheVariants.{Put, Commit as CommitChange, Rollback as RollbackChange}
use Rattle.px_logged.specs.Logged.{put_of, end_of, logged_when_done, logged}

-- ---- nothing

pub refused_adds_nothing : (m : Machine) (session : ℕ) (call : Call) → is_refusal (reply_of m session call) ≡ true → logged m session call ≡ []
unfolding logged
refused_adds_nothing m session call refused = ap (λ (b : Bool). cond b [] (logged_when_done m (open_of m session) call)) refused

either_way : {A : Type 0} (b : Bool) (x : A) → cond b x x ≡ x
either_way true x = refl
either_way false x = refl

pub begin_adds_nothing : (m : Machine) (session : ℕ) → logged m session Begin ≡ []
unfolding logged
begin_adds_nothing m session = either_way (is_refusal (reply_of m session Begin)) []

pub get_adds_nothing : (m : Machine) (session table : ℕ) (key : List ℕ) → logged m session (Get table key) ≡ []
unfolding logged
get_adds_nothing m session table key = either_way (is_refusal (reply_of m session (Get table key))) []

pub hold_adds_nothing : (m : Machine) (session table : ℕ) (key : List ℕ) → logged m session (Hold table key) ≡ []
unfolding logged
hold_adds_nothing m session table key = either_way (is_refusal (reply_of m session (Hold table key))) []

pub fetch_adds_nothing : (m : Machine) (session ticket : ℕ) → logged m session (Fetch ticket) ≡ []
unfolding logged
fetch_adds_nothing m session ticket = either_way (is_refusal (reply_of m session (Fetch ticket))) []

pub find_adds_nothing : (m : Machine) (session table tag : ℕ) → logged m session (Find table tag) ≡ []
unfolding logged
find_adds_nothing m session table tag = either_way (is_refusal (reply_of m session (Find table tag))) []

pub scan_adds_nothing : (m : Machine) (session table : ℕ) → logged m session (Scan table) ≡ []
unfolding logged
scan_adds_nothing m session table = either_way (is_refusal (reply_of m session (Scan table))) []

pub ruleset reads_add_nothing = (begin_adds_nothing, get_adds_nothing, hold_adds_nothing, fetch_adds_nothing, find_adds_nothing, scan_adds_nothing)

-- ---- a write that isn't refused

-- the transaction of a call that is not refused
pub opened : (slot : Option Open) (reply : Open → Reply) → is_refusal (if_open slot reply) ≡ false → (x : Open) × (slot ≡ Some x) × (is_refusal (reply x) ≡ false)
opened None reply done = absurd (true≢false done)
opened (Some x) reply done = (x, refl, done)

pub insert_has_one : (m : Machine) (session table : ℕ) (key : List ℕ) (tag : ℕ) (body : List ℕ)
    → is_refusal (reply_of m session (Insert table key tag body)) ≡ false → (x : Open) × (open_of m session ≡ Some x)
unfolding reply_of
insert_has_one m session table key tag body done = let one = opened (open_of m session) _ done in (one.0, one.1)

pub update_has_one : (m : Machine) (session table : ℕ) (key : List ℕ) (tag : ℕ) (body : List ℕ)
    → is_refusal (reply_of m session (Update table key tag body)) ≡ false → (x : Open) × (open_of m session ≡ Some x)
unfolding reply_of
update_has_one m session table key tag body done = let one = opened (open_of m session) _ done in (one.0, one.1)

pub delete_has_one : (m : Machine) (session table : ℕ) (key : List ℕ)
    → is_refusal (reply_of m session (Delete table key)) ≡ false → (x : Open) × (open_of m session ≡ Some x)
unfolding reply_of
delete_has_one m session table key done = let one = opened (open_of m session) _ done in (one.0, one.1)

-- what an open transaction adds with a write
put_by : (m : Machine) (slot : Option Open) (x : Open) (write : Write) (refused : Bool) → slot ≡ Some x → refused ≡ false
    → cond refused [] (put_of m slot write) ≡ Put (m.base + x.number) write ∷ []
put_by m slot x write refused is done =
    ap (λ (b : Bool). cond b [] (put_of m slot write)) done ∙ ap (λ (o : Option Open). put_of m o write) is

pub insert_adds : (m : Machine) (session : ℕ) (x : Open) (table : ℕ) (key : List ℕ) (tag : ℕ) (body : List ℕ)
    → open_of m session ≡ Some x → is_refusal (reply_of m session (Insert table key tag body)) ≡ false
    → logged m session (Insert table key tag body) ≡ Put (m.base + x.number) (PutRow (record { table = table; key = key; tag = tag; body = body })) ∷ []
unfolding logged
insert_adds m session x table key tag body is done = put_by m (open_of m session) x _ (is_refusal (reply_of m session (Insert table key tag body))) is done

pub update_adds : (m : Machine) (session : ℕ) (x : Open) (table : ℕ) (key : List ℕ) (tag : ℕ) (body : List ℕ)
    → open_of m session ≡ Some x → is_refusal (reply_of m session (Update table key tag body)) ≡ false
    → logged m session (Update table key tag body) ≡ Put (m.base + x.number) (PutRow (record { table = table; key = key; tag = tag; body = body })) ∷ []
unfolding logged
update_adds m session x table key tag body is done = put_by m (open_of m session) x _ (is_refusal (reply_of m session (Update table key tag body))) is done

pub delete_adds : (m : Machine) (session : ℕ) (x : Open) (table : ℕ) (key : List ℕ)
    → open_of m session ≡ Some x → is_refusal (reply_of m session (Delete table key)) ≡ false
    → logged m session (Delete table key) ≡ Put (m.base + x.number) (DeleteRow table key) ∷ []
unfolding logged
delete_adds m session x table key is done = put_by m (open_of m session) x _ (is_refusal (reply_of m session (Delete table key))) is done

pub insert_leaves : (m : Machine) (session table : ℕ) (key : List ℕ) (tag : ℕ) (body : List ℕ)
    → is_refusal (reply_of m session (Insert table key tag body)) ≡ false
    → state_after m session (Insert table key tag body) ≡ with_write m session (PutRow (record { table = table; key = key; tag = tag; body = body }))
unfolding state_after state_when_done
insert_leaves m session table key tag body done = ap (λ (b : Bool). cond b m (state_when_done m session (Insert table key tag body))) done

pub update_leaves : (m : Machine) (session table : ℕ) (key : List ℕ) (tag : ℕ) (body : List ℕ)
    → is_refusal (reply_of m session (Update table key tag body)) ≡ false
    → state_after m session (Update table key tag body) ≡ with_write m session (PutRow (record { table = table; key = key; tag = tag; body = body }))
unfolding state_after state_when_done
update_leaves m session table key tag body done = ap (λ (b : Bool). cond b m (state_when_done m session (Update table key tag body))) done

pub delete_leaves : (m : Machine) (session table : ℕ) (key : List ℕ)
    → is_refusal (reply_of m session (Delete table key)) ≡ false → state_after m session (Delete table key) ≡ with_write m session (DeleteRow table key)
unfolding state_after state_when_done
delete_leaves m session table key done = ap (λ (b : Bool). cond b m (state_when_done m session (Delete table key))) done

-- ---- an end

abbrev commit_reply : Machine → Option Open → Reply
commit_reply m slot = if_open slot (λ xact. cond (length xact.writes == 0) EndedEmpty (Committed (commits m + 1)))

abbrev commit_adding : Machine → Option Open → List Change
commit_adding m slot = cond (is_refusal (commit_reply m slot)) [] (end_of m slot (λ xn. CommitChange xn (commits m + 1)))

-- what a commit adds, by whether the transaction is without writes
abbrev commit_of : Machine → Open → Bool → List Change
commit_of m x empty = cond (is_refusal (cond empty EndedEmpty (Committed (commits m + 1)))) [] (cond empty [] (CommitChange (m.base + x.number) (commits m + 1) ∷ []))

pub commit_adds : (m : Machine) (session : ℕ) (x : Open) → open_of m session ≡ Some x → 0 < length x.writes
    → logged m session Commit ≡ CommitChange (m.base + x.number) (commits m + 1) ∷ []
unfolding logged reply_of
commit_adds m session x is some = ap (commit_adding m) is ∙ ap (commit_of m x) (ne_eqb (length x.writes) 0 (λ none. omega (arith, some, none)))

pub empty_commit_adds_nothing : (m : Machine) (session : ℕ) (x : Open) → open_of m session ≡ Some x → length x.writes ≡ 0 → logged m session Commit ≡ []
unfolding logged reply_of
empty_commit_adds_nothing m session x is none = ap (commit_adding m) is ∙ ap (commit_of m x) (eq-eqb (length x.writes) 0 none)

pub no_commit_adds_nothing : (m : Machine) (session : ℕ) → open_of m session ≡ None → logged m session Commit ≡ []
unfolding logged reply_of
no_commit_adds_nothing m session is = ap (commit_adding m) is

abbrev rollback_adding : Machine → Option Open → List Change
rollback_adding m slot = cond (is_refusal (if_open slot (λ xact. RolledBack))) [] (end_of m slot RollbackChange)

pub rollback_adds : (m : Machine) (session : ℕ) (x : Open) → open_of m session ≡ Some x → 0 < length x.writes
    → logged m session Rollback ≡ RollbackChange (m.base + x.number) ∷ []
unfolding logged reply_of
rollback_adds m session x is some =
    ap (rollback_adding m) is
    ∙ ap (λ (empty : Bool). cond empty [] (RollbackChange (m.base + x.number) ∷ [])) (ne_eqb (length x.writes) 0 (λ none. omega (arith, some, none)))

pub empty_rollback_adds_nothing : (m : Machine) (session : ℕ) (x : Open) → open_of m session ≡ Some x → length x.writes ≡ 0 → logged m session Rollback ≡ []
unfolding logged reply_of
empty_rollback_adds_nothing m session x is none =
    ap (rollback_adding m) is
    ∙ ap (λ (empty : Bool). cond empty [] (RollbackChange (m.base + x.number) ∷ [])) (eq-eqb (length x.writes) 0 none)

pub no_rollback_adds_nothing : (m : Machine) (session : ℕ) → open_of m session ≡ None → logged m session Rollback ≡ []
unfolding logged reply_of
no_rollback_adds_nothing m session is = ap (rollback_adding m) is
