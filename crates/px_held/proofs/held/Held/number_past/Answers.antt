use Rattle.std.proofs.Common.{ℕ, arith, refl, sym, subst, ◌∙◌}
use Rattle.px_chain.specs.Table.{Table}
use Rattle.px_chain.specs.Unused.{unused_table}
use Rattle.px_held.specs.Numbers.{IsPastVersions, IsUnstored}
use Rattle.px_held.proofs.Serving.{served, table_served}
use Rattle.px_held.proofs.Stored.{past_all, past_none, unstored_at}
use Rattle.px_held.proofs.held.Held.number_past.Goals as goal

pub returns-in_default-clause-past : goal.returns-in_default-clause-past
returns-in_default-clause-past g c = λ store serves.
    let first = c.args.first in
    subst (λ (t : Table). IsPastVersions first t first)
    (sym c.in_default.ensures ∙ (served (g.W.Site.state c.args.site.now) c.args.self.now store serves).tables c.args.table)
    (past_all first unused_table 0 first (past_none first unused_table c.requires) (omega arith))

pub returns-in-Ok-clause-past : goal.returns-in-Ok-clause-past
returns-in-Ok-clause-past g c = λ store serves.
    subst (λ (t : Table). IsPastVersions c.args.first t c.in-Ok.next)
    (sym (table_served (g.W.Site.state c.args.site.now) c.args.self.now store c.args.table serves c.in-Some.ensures))
    c.in-Ok.ensures.past

pub returns-in-Err-clause-unstored : goal.returns-in-Err-clause-unstored
returns-in-Err-clause-unstored g c = λ tells store serves.
    let site = g.W.Site.state c.args.site.now in
    let there = subst (λ (t : Table). IsUnstored t c.in-Err.slot)
    (sym (table_served site c.args.self.now store c.args.table serves c.in-Some.ensures)) c.in-Err.ensures.unstored in
    unstored_at c.args.self.now.short c.args.table (store.tables c.args.table) c.in-Err.slot c.damage.result there
    (c.damage.ensures.slot refl there.version.0.0)
