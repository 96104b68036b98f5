use Rattle.px_laid.proofs.Readings.{cells_said, only_memory}
use Rattle.px_laid.proofs.laws.what_is_said_is_read.Goals as goal

pub returns-clause-cells : goal.returns-clause-cells
returns-clause-cells c = cells_said (record { header = c.one_reading.ensures.header; pointer = c.one_reading.ensures.pointer; slot = c.one_reading.ensures.slot })

pub returns-clause-error : goal.returns-clause-error
returns-clause-error c = only_memory (record { header = c.one_reading.ensures.header; pointer = c.one_reading.ensures.pointer; slot = c.one_reading.ensures.slot })
