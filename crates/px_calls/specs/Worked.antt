-- Worked examples: what is asked, what is replied, and what is counted then.
use Rattle.std.specs.Prelude.{ℕ, ◌-◌, List, [], ◌∷◌, replicate}
use Rattle.px_model.specs.declared.row.Row.{Row}
use Rattle.px_model.specs.declared.limits.TheConstants.{MOST_BEGINS, STORED_NUMBERS_END}
use Rattle.px_model.specs.Machine.{Machine, fresh, commits, opens}
use Rattle.px_model.specs.Chains.{unswept, variations, live}
use Rattle.px_calls.specs.declared.call.Call.TheVariants.{Begin, Get, Hold, Fetch, Find, Scan, Insert, Update, Delete, Commit, Rollback}
use Rattle.px_calls.specs.declared.reply.Reply.{Reply}
use Rattle.px_calls.specs.declared.reply.Reply.TheVariants.{Began, RowIs, NoRow, Held, Rows, Inserted, Updated, Deleted, Committed, EndedEmpty, RolledBack, NoTransaction, OpenAlready, LimitBegins, NoTable, LimitKey, LimitBody, LimitTickets, NoTicket, Conflict, Duplicate, Missing, Swept, Idle}
use Rattle.px_calls.specs.Histories.{Step, by, sweep}

-- one table, a short length of 64 bytes, no rows, no commits
abbrev pub new_store : Machine
new_store = fresh 1 64 [] 0 0

-- the counts of a machine that `stat` tells
pub record Counts : Type 0 where
  pub commits : ℕ
  pub opens : ℕ
  pub unswept : ℕ
  pub variations : ℕ
  pub live : ℕ

abbrev pub counts_of : Machine → Counts
counts_of m = record { commits = commits m; opens = opens m; unswept = unswept m; variations = variations m; live = live m }

-- sessions, by their letters in a script
abbrev pub a : ℕ
a = 0

abbrev pub b : ℕ
b = 1

abbrev pub c : ℕ
c = 2

abbrev pub d : ℕ
d = 3

abbrev pub e : ℕ
e = 4

-- keys and bodies of one byte, by their hexadecimal digits
abbrev pub key01 : List ℕ
key01 = 1 ∷ []

abbrev pub key02 : List ℕ
key02 = 2 ∷ []

abbrev pub aa : List ℕ
aa = 170 ∷ []

abbrev pub bb : List ℕ
bb = 187 ∷ []

-- the row of table 1 with key 01
abbrev pub row01 : (tag : ℕ) → (body : List ℕ) → Row
row01 tag body = record { table = 1; key = key01; tag = tag; body = body }

-- ---- one session reads what it wrote, and so does its next transaction

abbrev pub k1 : List ℕ
k1 = 107 ∷ 49 ∷ []

abbrev pub abc : List ℕ
abc = 97 ∷ 98 ∷ 99 ∷ []

abbrev pub row_k1 : Row
row_k1 = record { table = 1; key = k1; tag = 7; body = abc }

abbrev pub alone : List Step
alone = by a Begin ∷ by a (Insert 1 k1 7 abc) ∷ by a (Get 1 k1) ∷ by a Commit ∷ by a Begin ∷ by a (Get 1 k1) ∷ []

abbrev pub alone_replies : List Reply
alone_replies = Began 1 ∷ Inserted ∷ RowIs row_k1 ∷ Committed 1 ∷ Began 2 ∷ RowIs row_k1 ∷ []

-- ---- a snapshot does not see a later commit

abbrev pub later_commit : List Step
later_commit =
    by a Begin ∷ by b Begin ∷ by a (Insert 1 key01 0 aa) ∷ by b (Get 1 key01) ∷ by a Commit ∷ by b (Get 1 key01)
    ∷ by b Commit ∷ []

abbrev pub later_commit_replies : List Reply
later_commit_replies = Began 1 ∷ Began 2 ∷ Inserted ∷ NoRow ∷ Committed 1 ∷ NoRow ∷ EndedEmpty ∷ []

-- ---- a key that an open transaction wrote is refused to another

abbrev pub two_writers : List Step
two_writers =
    by a Begin ∷ by b Begin ∷ by a (Insert 1 key01 0 aa) ∷ by b (Insert 1 key01 0 bb) ∷ by b (Get 1 key01) ∷ []

abbrev pub two_writers_replies : List Reply
two_writers_replies = Began 1 ∷ Began 2 ∷ Inserted ∷ Conflict 1 ∷ NoRow ∷ []

-- ---- so is a key that was committed since the snapshot

abbrev pub late_writer : List Step
late_writer =
    by a Begin ∷ by b Begin ∷ by a (Insert 1 key01 0 aa) ∷ by a Commit ∷ by b (Update 1 key01 0 bb) ∷ []

abbrev pub late_writer_replies : List Reply
late_writer_replies = Began 1 ∷ Began 2 ∷ Inserted ∷ Committed 1 ∷ Conflict 1 ∷ []

-- ---- of two that committed past the snapshot the last one is named

abbrev pub overtaken_twice : List Step
overtaken_twice =
    by a Begin ∷ by a (Insert 1 key01 3 aa) ∷ by a Commit
    ∷ by b Begin
    ∷ by c Begin ∷ by c (Delete 1 key01) ∷ by c Commit
    ∷ by d Begin ∷ by d (Insert 1 key01 4 bb) ∷ by d Commit
    ∷ by b (Update 1 key01 3 aa) ∷ []

abbrev pub overtaken_twice_replies : List Reply
overtaken_twice_replies =
    Began 1 ∷ Inserted ∷ Committed 1
    ∷ Began 2
    ∷ Began 3 ∷ Deleted ∷ Committed 2
    ∷ Began 4 ∷ Inserted ∷ Committed 3
    ∷ Conflict 4 ∷ []

-- ---- a write that was rolled back stays in its chain until it is swept, and keeps nobody from the key

abbrev pub rolled_back : List Step
rolled_back =
    by a Begin ∷ by a (Insert 1 key01 0 aa) ∷ by a Rollback ∷ by b Begin ∷ by b (Insert 1 key01 0 bb) ∷ []

abbrev pub rolled_back_replies : List Reply
rolled_back_replies = Began 1 ∷ Inserted ∷ RolledBack ∷ Began 2 ∷ Inserted ∷ []

abbrev pub rolled_back_counts : Counts
rolled_back_counts = record { commits = 0; opens = 1; unswept = 1; variations = 2; live = 0 }

abbrev pub two_sweeps : List Step
two_sweeps = sweep ∷ sweep ∷ []

abbrev pub rolled_back_swept_replies : List Reply
rolled_back_swept_replies = Swept 1 ∷ Idle ∷ []

abbrev pub rolled_back_swept_counts : Counts
rolled_back_swept_counts = record { commits = 0; opens = 1; unswept = 0; variations = 1; live = 0 }

-- ---- the sweeper keeps what a snapshot may read, and takes it once nobody may

abbrev pub kept_for_a_snapshot : List Step
kept_for_a_snapshot =
    by a Begin ∷ by a (Insert 1 key01 3 aa) ∷ by a Commit
    ∷ by b Begin
    ∷ by c Begin ∷ by c (Delete 1 key01) ∷ by c Commit
    ∷ by d Begin ∷ by d (Insert 1 key01 4 bb) ∷ by d Commit
    ∷ by b (Get 1 key01) ∷ by e Begin ∷ by e (Get 1 key01)
    ∷ sweep ∷ sweep ∷ by b Rollback ∷ sweep ∷ sweep ∷ []

abbrev pub kept_for_a_snapshot_replies : List Reply
kept_for_a_snapshot_replies =
    Began 1 ∷ Inserted ∷ Committed 1
    ∷ Began 2
    ∷ Began 3 ∷ Deleted ∷ Committed 2
    ∷ Began 4 ∷ Inserted ∷ Committed 3
    ∷ RowIs (row01 3 aa) ∷ Began 5 ∷ RowIs (row01 4 bb)
    ∷ Swept 1 ∷ Idle ∷ RolledBack ∷ Swept 3 ∷ Swept 4 ∷ []

abbrev pub kept_for_a_snapshot_counts : Counts
kept_for_a_snapshot_counts = record { commits = 3; opens = 1; unswept = 0; variations = 1; live = 0 }

-- ---- an update waits for the snapshot that does not see it

abbrev pub waiting_update : List Step
waiting_update =
    by a Begin ∷ by a (Insert 1 key01 0 aa) ∷ by a Commit
    ∷ by b Begin
    ∷ by c Begin ∷ by c (Update 1 key01 0 bb) ∷ by c Commit
    ∷ sweep ∷ sweep ∷ []

abbrev pub waiting_update_replies : List Reply
waiting_update_replies =
    Began 1 ∷ Inserted ∷ Committed 1 ∷ Began 2 ∷ Began 3 ∷ Updated ∷ Committed 2 ∷ Swept 1 ∷ Idle ∷ []

abbrev pub waiting_update_counts : Counts
waiting_update_counts = record { commits = 2; opens = 1; unswept = 1; variations = 2; live = 0 }

abbrev pub last_reader_ends : List Step
last_reader_ends = by b Commit ∷ sweep ∷ []

abbrev pub last_reader_ends_replies : List Reply
last_reader_ends_replies = EndedEmpty ∷ Swept 3 ∷ []

abbrev pub last_reader_ends_counts : Counts
last_reader_ends_counts = record { commits = 2; opens = 0; unswept = 0; variations = 1; live = 0 }

-- ---- rows are found by the tag that the snapshot has

abbrev pub changed_tag : List Step
changed_tag =
    by a Begin ∷ by a (Insert 1 key01 5 aa) ∷ by a Commit
    ∷ by b Begin
    ∷ by c Begin ∷ by c (Update 1 key01 6 bb) ∷ by c Commit
    ∷ by b (Find 1 5) ∷ by b (Find 1 6)
    ∷ by c Begin ∷ by c (Find 1 5) ∷ by c (Find 1 6) ∷ []

abbrev pub changed_tag_replies : List Reply
changed_tag_replies =
    Began 1 ∷ Inserted ∷ Committed 1 ∷ Began 2 ∷ Began 3 ∷ Updated ∷ Committed 2
    ∷ Rows (row01 5 aa ∷ []) ∷ Rows []
    ∷ Began 4 ∷ Rows [] ∷ Rows (row01 6 bb ∷ []) ∷ []

-- ---- refusals, tickets and the empty body

abbrev pub refusals : List Step
refusals =
    by a (Get 1 key01) ∷ by a Begin ∷ by a Begin ∷ by a (Get 2 key01) ∷ by a (Update 1 key01 0 aa)
    ∷ by a (Insert 1 key01 0 []) ∷ by a (Insert 1 key01 0 aa) ∷ by a (Get 1 key01)
    ∷ by a (Fetch 1) ∷ by a (Hold 1 key02)
    ∷ by a (Hold 1 key01) ∷ by a (Hold 1 key01) ∷ by a (Hold 1 key01) ∷ by a (Hold 1 key01) ∷ by a (Hold 1 key01)
    ∷ by a (Scan 1) ∷ by a (Delete 1 key01) ∷ by a (Get 1 key01) ∷ by a (Fetch 4) ∷ by a Commit ∷ []

abbrev pub refusals_replies : List Reply
refusals_replies =
    NoTransaction ∷ Began 1 ∷ OpenAlready ∷ NoTable ∷ Missing
    ∷ Inserted ∷ Duplicate ∷ RowIs (row01 0 [])
    ∷ NoTicket ∷ Missing
    ∷ Held 1 ∷ Held 2 ∷ Held 3 ∷ Held 4 ∷ LimitTickets
    ∷ Rows (row01 0 [] ∷ []) ∷ Deleted ∷ NoRow ∷ RowIs (row01 0 []) ∷ Committed 1 ∷ []

-- ---- limits

abbrev pub too_long : List Step
too_long =
    by a Begin ∷ by a (Insert 1 (replicate 64 1) 0 (replicate 64 170)) ∷ by a (Insert 1 key01 0 (replicate 65 170))
    ∷ by a (Insert 1 (replicate 65 1) 0 (replicate 65 170)) ∷ by a (Get 1 []) ∷ []

abbrev pub too_long_replies : List Reply
too_long_replies = Began 1 ∷ Inserted ∷ LimitBody ∷ LimitKey ∷ LimitKey ∷ []

-- the last stored number is left
abbrev pub one_number_left : Machine
one_number_left = fresh 1 64 [] 0 (STORED_NUMBERS_END - 2)

-- the last begin is left
abbrev pub one_begin_left : Machine
one_begin_left = record new_store { begun = MOST_BEGINS - 1 }

abbrev pub two_begins : List Step
two_begins = by a Begin ∷ by b Begin ∷ []

abbrev pub last_number_replies : List Reply
last_number_replies = Began 1 ∷ LimitBegins ∷ []

abbrev pub last_begin_replies : List Reply
last_begin_replies = Began MOST_BEGINS ∷ LimitBegins ∷ []

-- ---- an opening with rows: a body that is longer than a slot holds has a part of its own beside it

abbrev pub zeros_at : (key : ℕ) → (count : ℕ) → Row
zeros_at key count = record { table = 1; key = key ∷ []; tag = 0; body = replicate count 0 }

-- seven commits led to the rows
abbrev pub opened_store : Machine
opened_store = fresh 1 64 (zeros_at 1 64 ∷ zeros_at 2 65 ∷ []) 7 0

abbrev pub opened_counts : Counts
opened_counts = record { commits = 7; opens = 0; unswept = 0; variations = 2; live = 17 }

abbrev pub one_deletion : List Step
one_deletion = by a Begin ∷ by a (Delete 1 key01) ∷ by a Commit ∷ []

abbrev pub one_deletion_counts : Counts
one_deletion_counts = record { commits = 8; opens = 0; unswept = 1; variations = 3; live = 17 }
