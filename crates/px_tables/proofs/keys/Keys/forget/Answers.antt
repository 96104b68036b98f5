use Rattle.std.proofs.Common.{List, ℕ, ap, ◌∙◌}
use Rattle.px_tables.specs.Keys.{row_named}
use Rattle.px_tables.proofs.Names.{itself_forgotten, others_named}
use Rattle.px_tables.proofs.keys.Keys.forget.Goals as goal

pub returns-clause-named : goal.returns-clause-named
returns-clause-named c = itself_forgotten (λ k. k.items) c.args.key.now c.remove-row.new.self.entries c.remove-row.ensures.updates.1

pub returns-clause-others : goal.returns-clause-others
returns-clause-others c = λ q other.
    others_named (λ k. k.items) c.args.key.now q c.self.inside.rows.entries c.remove-row.new.self.entries other c.remove-row.ensures.updates.3
    ∙ ap (λ (keys : List (List ℕ × ℕ)). row_named keys q) c.self.view_is
