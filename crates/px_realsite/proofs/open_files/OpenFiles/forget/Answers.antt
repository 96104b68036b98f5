use Rattle.std.proofs.Common.{rules, ◌≢◌}
use Rattle.std.proofs.lemmas.Fn.{All-from_retain}
use Rattle.px_realsite.proofs.open_files.OpenFiles.forget.Goals as goal

pub returns-clause-gone : goal.returns-clause-gone
returns-clause-gone c =
    All-from_retain _ (λ file. file.handle.name ≢ c.args.name) _ (λ file kept after called. search rules) _ _ c.retain.ensures.filtered
