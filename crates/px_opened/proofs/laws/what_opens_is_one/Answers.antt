use Rattle.px_opened.proofs.One.{same_layouts, same_shown, same_tables}
use Rattle.px_opened.proofs.laws.what_opens_is_one.Goals as goal

pub returns-clause-tables : goal.returns-clause-tables
returns-clause-tables c = same_tables (record { header = c.one_reading.ensures.header; pointer = c.one_reading.ensures.pointer; slot = c.one_reading.ensures.slot })

pub returns-clause-layouts : goal.returns-clause-layouts
returns-clause-layouts c = same_layouts (record { header = c.one_reading.ensures.header; pointer = c.one_reading.ensures.pointer; slot = c.one_reading.ensures.slot })

pub returns-clause-shows : goal.returns-clause-shows
returns-clause-shows c = same_shown (record { header = c.one_reading.ensures.header; pointer = c.one_reading.ensures.pointer; slot = c.one_reading.ensures.slot })
