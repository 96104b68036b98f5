-- A table of which no place was ever used.
use Rattle.px_cells.specs.Unused.{free_pointer, unused_slot}
use Rattle.px_chain.specs.Sound.{no_places}
use Rattle.px_chain.specs.Table.{Table}

abbrev pub unused_table : Table
unused_table = record { header = no_places; slot = λ n. unused_slot; pointer = λ n. free_pointer }
