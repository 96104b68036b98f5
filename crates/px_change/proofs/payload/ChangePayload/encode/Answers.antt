use Rattle.std.proofs.Common.{arith}
use Rattle.px_change.proofs.Bounds.{in_grammar}
use Rattle.px_change.proofs.payload.ChangePayload.encode.Goals as goal

pub append_change-appended-requires-clause-count : goal.append_change-appended-requires-clause-count
append_change-appended-requires-clause-count c = omega (arith, (in_grammar c.args.short c.args.self.now c.requires).few)

pub append_change-appended-requires-clause-fit : goal.append_change-appended-requires-clause-fit
append_change-appended-requires-clause-fit c = (in_grammar c.args.short c.args.self.now c.requires).fit
