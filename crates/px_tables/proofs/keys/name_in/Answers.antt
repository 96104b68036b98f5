use Rattle.std.proofs.Common.{rules}
use Rattle.px_tables.proofs.keys.name_in.Goals as goal

pub returns-in-Some : goal.returns-in-Some
returns-in-Some c = (c.get_mut.follows.holds c.args.row).3 (search rules)
