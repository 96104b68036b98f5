use Rattle.std.proofs.Common.{◌≡◌, ◌∷◌, ◌++◌, [], ap, ◌∙◌}
use Rattle.px_memsite.specs.Files.{newest_first}
use Rattle.px_memsite.proofs.Pending.{newest_first-push}
use Rattle.px_memsite.proofs.file.MemFile.begin.Goals as goal

pub returns-clause-view : goal.returns-clause-view
returns-clause-view c =
    let self = c.args.self.now in
    let pushed : c.push.new.self.items ≡ self.pending.items ++ c.args.change ∷ [] = rw c.unwrap.ensures at c.push.ensures.items in
    ap (λ pending. record { content = c.args.content.items; state = record { synced = self.synced.items; pending = pending } }) (ap newest_first pushed ∙ newest_first-push self.pending.items c.args.change)
