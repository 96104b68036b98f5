use Rattle.std.proofs.Common.{ap, ◌∙◌}
use Rattle.px_memsite.specs.Events.{reached}
use Rattle.px_memsite.specs.Files.{View, next_in}
use Rattle.px_memsite.proofs.Listing.{next_listed, next_of}
use Rattle.px_memsite.proofs.disk.Disk.next_file.Goals as goal

pub returns-clause-listed : goal.returns-clause-listed
returns-clause-listed c = rw c.next_file.ensures (next_listed c.deref.result.now c.args.after)

pub returns-clause-next : goal.returns-clause-next
returns-clause-next c =
    let self = c.args.self.now in
    next_of self.files.items c.args.after c.next_file.result (reached self.history.items).content self.shows.in_order
    (λ name. ap (λ (v : View). v.content) (self.shows.views name)) (c.next_file.ensures ∙ ap (λ files. next_in files c.args.after) c.deref.ensures.value)
