use Rattle.std.proofs.Common.{List, ℕ, sym, ap, ◌∙◌}
use Rattle.px_tables.specs.Keys.{entry_in, row_named}
use Rattle.px_tables.proofs.Names.{entered_same, itself_entered, none_entered}
use Rattle.px_tables.proofs.keys.Keys.enter.Goals as goal

pub returns-clause-entered : goal.returns-clause-entered
returns-clause-entered c =
    itself_entered (λ k. k.items) c.args.key.now c.in_ok-key.key.items 0 c.insert.new.self.entries c.in_ok-key.ensures.items c.in_ok-insert.ensures.updates.1

pub returns-clause-same : goal.returns-clause-same
returns-clause-same c = λ q.
    entered_same (λ k. k.items) c.args.key.now c.in_ok-key.key.items c.self.inside.rows.entries c.insert.new.self.entries c.in_ok-key.ensures.items
    (ap (λ (keys : List (List ℕ × ℕ)). entry_in keys c.args.key.now) c.self.view_is ∙ sym c.entry.ensures ∙ none_entered c.entry.result (sym c.is_some.ensures ∙ c.if-is_some.false))
    c.in_ok-insert.ensures.updates.1 c.in_ok-insert.ensures.updates.3 q
    ∙ ap (λ (keys : List (List ℕ × ℕ)). row_named keys q) c.self.view_is
