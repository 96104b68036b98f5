use Rattle.px_opened.proofs.Harm.{no_damage}
use Rattle.px_opened.proofs.laws.what_opens_has_no_damage.Goals as goal

pub returns : goal.returns
returns c = no_damage (record { header = c.one_reading.ensures.header; pointer = c.one_reading.ensures.pointer; slot = c.one_reading.ensures.slot })
