use Rattle.px_opened.proofs.OneDamage.{damage_one}
use Rattle.px_opened.proofs.laws.a_damage_is_one.Goals as goal

pub returns : goal.returns
returns c = damage_one (record { header = c.one_reading.ensures.header; pointer = c.one_reading.ensures.pointer; slot = c.one_reading.ensures.slot })
