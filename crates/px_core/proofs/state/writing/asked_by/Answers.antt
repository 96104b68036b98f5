use Rattle.std.proofs.Common.{sym}
use Rattle.px_core.proofs.state.writing.asked_by.Goals as goal

pub returns-in-Insert : goal.returns-in-Insert
returns-in-Insert c = rw (c.in-Insert.is, sym c.as_slice.ensures, sym c.as_slice-in-Insert.ensures) (c.insert.ensures c.in-Insert.tag)

pub returns-in-Update : goal.returns-in-Update
returns-in-Update c = rw (c.in-Update.is, sym c.as_slice-in-Update.ensures, sym c.as_slice-in-Update-2.ensures) (c.update.ensures c.in-Update.tag)
