use Rattle.std.proofs.Common.{length, ap, ◌∙◌, arith}
use Rattle.px_memsite.specs.Files.{View, view_in}
use Rattle.px_memsite.specs.Sound.{reached_sound}
use Rattle.px_memsite.proofs.disk.Disk.content.Goals as goal

pub returns-clause-bound : goal.returns-clause-bound
returns-clause-bound c =
    let self = c.args.self.now in
    let sound = reached_sound self.history.items self.fits c.args.file in
    let is = c.content_of.ensures ∙ ap (λ files. (view_in files c.args.file).content) c.deref.ensures.value ∙ ap (λ (v : View). v.content) (self.shows.views c.args.file) in
    omega (arith, ap length is, sound.image.no_longer, sound.within)
