use Rattle.std.proofs.Common.{sym, ap, ◌∙◌}
use Rattle.px_tables.specs.Keys.{entry_in}
use Rattle.px_tables.proofs.Names.{entries_seen}
use Rattle.px_tables.proofs.keys.Keys.entry.Goals as goal

pub returns : goal.returns
returns c =
    c.copied.ensures ∙ c.get.ensures.value ∙ sym (entries_seen (λ k. k.items) c.self.inside.rows.entries c.args.key.now)
    ∙ ap (λ keys. entry_in keys c.args.key.now) c.self.view_is
