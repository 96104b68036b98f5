use Rattle.std.proofs.Common.{List, ℕ, sym, ap, ◌∙◌}
use Rattle.px_tables.specs.Keys.{row_named}
use Rattle.px_tables.proofs.Names.{itself_named, others_named, seen}
use Rattle.px_tables.proofs.keys.Keys.add.Goals as goal

pub returns-clause-named : goal.returns-clause-named
returns-clause-named c =
    ap (row_named (seen (λ k. k.items) c.insert.new.self.entries)) (sym c.in_ok-key.ensures.items)
    ∙ itself_named (λ k. k.items) c.in_ok-key.key.items c.args.row c.insert.new.self.entries c.in_ok-insert.ensures.updates.1

pub returns-clause-others : goal.returns-clause-others
returns-clause-others c = λ q other.
    others_named (λ k. k.items) c.in_ok-key.key.items q c.self.inside.rows.entries c.insert.new.self.entries (λ same. other (same ∙ c.in_ok-key.ensures.items)) c.in_ok-insert.ensures.updates.3
    ∙ ap (λ (keys : List (List ℕ × ℕ)). row_named keys q) c.self.view_is
