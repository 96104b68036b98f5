-- The counts that a `Tally` stands for.
use Rattle.std.specs.Prelude.{ℕ}
use Rattle.px_site.specs.Cause.{Counts}
use Rattle.px_site.specs.declared.error.Fault.{Fault}
use Rattle.px_site.specs.declared.error.Fault.TheVariants.{Read, Write, Sync, Remove, List, Tell}
use Rattle.px_site.specs.declared.tally.Tally.{Tally as Counters}

-- how many file calls answered a fault of each kind; none answers that of `tell`
abbrev pub faults_of : Counters → Fault → ℕ
faults_of tally Read = tally.read
faults_of tally Write = tally.write
faults_of tally Sync = tally.sync
faults_of tally Remove = tally.remove
faults_of tally List = tally.list
faults_of tally Tell = 0

abbrev pub counts_of : Counters → Counts
counts_of tally = record { faults = faults_of tally; tell_faults = tally.tell; shorts = tally.short; reference = 0 }
