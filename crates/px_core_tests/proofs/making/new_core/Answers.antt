use Rattle.std.proofs.Common.{refl}
use Rattle.px_held.proofs.Making.{made_sound}
use Rattle.px_held.specs.Serving.{HeldTables}
use Rattle.px_core_tests.proofs.Made.{has_after, made_store}
use Rattle.px_core_tests.proofs.making.new_core.Goals as goal

pub new-requires-3-clause-store : goal.new-requires-3-clause-store
new-requires-3-clause-store c =
    let tables = c.in_ok-tables.field-0.items in
    let held : HeldTables = record { short = 64; tables = tables } in
    let log = c.in_ok-log.log in
    let marks = c.in_ok-log.ensures.marks in
    let unused = c.in_ok-tables.ensures.unused in
    let serves = c.new-held.ensures.serves _ (made_store tables) (λ t. refl) (made_sound 64 tables unused) in
    has_after _ _ held log c.new-held.ensures.is serves unused refl c.in_ok-tables.ensures.count marks.0 marks.1 c.in_ok-log.ensures.below
