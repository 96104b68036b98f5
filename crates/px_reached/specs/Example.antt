-- A store that was just made.
use Rattle.px_reached.specs.Reachable.{Marks}

abbrev pub no_marks : Marks
no_marks = record { durable = 0; applied = 0 }
