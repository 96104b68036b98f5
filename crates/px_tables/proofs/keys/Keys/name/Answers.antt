use Rattle.std.proofs.Common.{List, ℕ, sym, ap, ◌∙◌}
use Rattle.std.specs.Prelude.{is_some}
use Rattle.px_tables.specs.Keys.{entry_in, row_named}
use Rattle.px_tables.proofs.Names.{entries_seen, itself_named, others_named}
use Rattle.px_tables.proofs.keys.Keys.name.Goals as goal

pub name_in-requires : goal.name_in-requires
name_in-requires c =
    ap is_some (sym (entries_seen (λ k. k.items) c.self.inside.rows.entries c.args.key.now) ∙ ap (λ (keys : List (List ℕ × ℕ)). entry_in keys c.args.key.now) c.self.view_is)
    ∙ c.requires

pub returns-clause-named : goal.returns-clause-named
returns-clause-named c = itself_named (λ k. k.items) c.args.key.now c.args.row c.name_in.new.rows.entries c.name_in.ensures.1

pub returns-clause-others : goal.returns-clause-others
returns-clause-others c = λ q other.
    others_named (λ k. k.items) c.args.key.now q c.self.inside.rows.entries c.name_in.new.rows.entries other c.name_in.ensures.3
    ∙ ap (λ (keys : List (List ℕ × ℕ)). row_named keys q) c.self.view_is
