use Rattle.std.proofs.Common.{refl, sym, subst}
use Rattle.px_held.proofs.Making.{made_sound}
use Rattle.px_held.specs.Serving.{HeldTables, Serves}
use Rattle.px_history.specs.Store.{Store}
use Rattle.px_tidying.specs.Opening.{HasStore, opening}
use Rattle.px_appending_tests.proofs.Made.{has_made, made_store}
use Rattle.px_appending_tests.proofs.appending.a_version_and_its_commit_are_read_again.Goals as goal

pub write-requires-clause-store : goal.write-requires-clause-store
write-requires-clause-store g c = λ site.
    let tables = c.in_ok-tables.field-0.items in
    let held : HeldTables = record { short = 16; tables = tables } in
    let log = c.in_ok-log.log in
    let marks = c.in_ok-log.ensures.marks in
    let unused = c.in_ok-tables.ensures.unused in
    let serves : Serves site held (made_store tables) =
    subst (λ (h : HeldTables). Serves site h (made_store tables)) c.new-held.ensures.is
    (c.new-held.ensures.serves site (made_store tables) (λ t. refl) (made_sound 16 tables unused)) in
    subst (λ (h : HeldTables). (store : Store) × HasStore store (opening site h log)) (sym c.new-held.ensures.is)
    (made_store tables, has_made site held log serves unused refl c.in_ok-tables.ensures.count marks.0 marks.1 c.in_ok-log.ensures.below)
