use Rattle.std.proofs.Common.{sym, ap, ◌∙◌, subst}
use Rattle.px_memsite.specs.declared.event.Event.{Event}
use Rattle.px_memsite.specs.declared.event.Event.TheVariants.{Put}
use Rattle.px_memsite.specs.Disk.{Shows}
use Rattle.px_memsite.specs.Files.{at_rest_view}
use Rattle.px_memsite.proofs.FileLists.{stands_name}
use Rattle.px_memsite.proofs.Shown.{reached_push, fits_push, shows_put}
use Rattle.px_memsite.proofs.disk.Disk.put.Goals as goal

pub invariant_of-self-2 : goal.invariant_of-self-2
invariant_of-self-2 c =
    let old = c.args.self.now in
    let new = c.put.new.self in
    let file = c.args.file in
    let at = c.in_ok-at.at in
    let same = c.in_ok-at.ensures.same in
    let stands = c.in_ok-at.ensures.stands in
    let event : Event = Put file c.args.bytes in
    let pushed = c.in_ok-push.ensures.items in
    let named = c.put.ensures.name ∙ ap (λ f. f.name) c.index_mut.ensures.value ∙ stands_name c.entry.new.files.items file at c.index_mut.result.now stands in
    let view = c.put.ensures.view ∙ ap at_rest_view (c.in_ok-content.ensures.items ∙ c.deref.ensures.value) in
    let shows = shows_put old.shows file at new c.args.bytes.items same stands named view in
    record {
      shows = subst (Shows _ old.told.items old.moments) (sym (reached_push old.history.items c.push.new.self.items event pushed)) shows;
      fits = fits_push old.history.items c.push.new.self.items event pushed old.fits c.requires;
    }
