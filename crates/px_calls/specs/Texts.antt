-- The text of each reply, and of what else a run tells. Each line ends with a line feed.
use Rattle.std.specs.Prelude.{◌≡◌, ℕ, List, take, [], ◌∷◌, ◌++◌, length, flat_map, codes}
use Rattle.std.specs.Fmt.{decimal}
use Rattle.hex.specs.Hex.{encode_lower}
use Rattle.px_site.specs.Names.{file_text}
use Rattle.px_model.specs.declared.row.Row.{Row}
use Rattle.px_calls.specs.declared.reply.Reply.{Reply}
use Rattle.px_calls.specs.declared.reply.Reply.TheVariants.{Began, RowIs, NoRow, Held, Rows, Inserted, Updated, Deleted, Committed, EndedEmpty, RolledBack, NoTransaction, OpenAlready, LimitBegins, NoTable, LimitKey, LimitBody, LimitWrites, LimitTickets, NoTicket, Conflict, Duplicate, Missing, TableFull, Applied, Swept, Moved, Dropped, Noted, Synced, Saved, Trimmed, Idle}

-- what stands in front of a text that grew is as it was
pub record BeginsWith (new old : List ℕ) : Type 0 where
  pub kept : take (length old) new ≡ old

abbrev pub line : List ℕ → List ℕ
line words = words ++ 10 ∷ []

-- a word, a space and a number
abbrev pub numbered : List ℕ → ℕ → List ℕ
numbered word n = word ++ codes " " ++ decimal n

abbrev pub body_text : List ℕ → List ℕ
body_text [] = codes "-"
body_text (byte ∷ body) = encode_lower (byte ∷ body)

-- a row's tag and body, which end its line
abbrev pub tag_and_body : Row → List ℕ
tag_and_body row = line (decimal row.tag ++ codes " " ++ body_text row.body)

-- a row among those that `find` and `scan` found
abbrev pub found_line : Row → List ℕ
found_line row = codes "at " ++ encode_lower row.key ++ codes " " ++ tag_and_body row

unfoldable pub reply_text : Reply → List ℕ
reply_text (Began n) = line (numbered (codes "began") n)
reply_text (RowIs row) = codes "row " ++ tag_and_body row
reply_text NoRow = line (codes "none")
reply_text (Held k) = line (numbered (codes "held") k)
reply_text (Rows rows) = line (numbered (codes "found") (length rows)) ++ flat_map found_line rows
reply_text Inserted = line (codes "inserted")
reply_text Updated = line (codes "updated")
reply_text Deleted = line (codes "deleted")
reply_text (Committed c) = line (numbered (codes "committed") c)
reply_text EndedEmpty = line (codes "ended")
reply_text RolledBack = line (codes "rolled back")
reply_text NoTransaction = line (codes "no transaction")
reply_text OpenAlready = line (codes "open already")
reply_text LimitBegins = line (codes "limit begins")
reply_text NoTable = line (codes "no table")
reply_text LimitKey = line (codes "limit key")
reply_text LimitBody = line (codes "limit body")
reply_text LimitWrites = line (codes "limit writes")
reply_text LimitTickets = line (codes "limit tickets")
reply_text NoTicket = line (codes "no ticket")
reply_text (Conflict n) = line (numbered (codes "conflict") n)
reply_text Duplicate = line (codes "duplicate")
reply_text Missing = line (codes "missing")
reply_text (TableFull n) = line (numbered (codes "table full") n)
reply_text (Applied n) = line (numbered (codes "applied") n)
reply_text (Swept n) = line (numbered (codes "swept") n)
reply_text (Moved k) = line (numbered (codes "moved") k)
reply_text (Dropped k) = line (numbered (codes "dropped") k)
reply_text Noted = line (codes "noted")
reply_text (Synced file) = line (codes "synced " ++ file_text file)
reply_text (Saved s) = line (numbered (codes "saved") s)
reply_text (Trimmed k) = line (numbered (codes "trimmed") k)
reply_text Idle = line (codes "idle")

-- what `run` tells first
unfoldable pub opened_line : (commits rows redone : ℕ) → List ℕ
opened_line commits rows redone =
    line (numbered (codes "opened commits") commits ++ codes " " ++ numbered (codes "rows") rows ++ codes " " ++ numbered (codes "redone") redone)

-- what `make` tells
unfoldable pub made_line : (tables short : ℕ) → List ℕ
made_line tables short = line (numbered (codes "made") tables ++ codes " " ++ decimal short)

-- what `dump` tells: how many rows, and each of them
unfoldable pub count_line : ℕ → List ℕ
count_line rows = line (numbered (codes "rows") rows)

unfoldable pub row_line : Row → List ℕ
row_line row = numbered (codes "row") row.table ++ codes " " ++ encode_lower row.key ++ codes " " ++ tag_and_body row
