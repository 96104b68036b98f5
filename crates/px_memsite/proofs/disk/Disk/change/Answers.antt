use Rattle.std.proofs.Common.{sym, ap, ◌∙◌, subst}
use Rattle.px_memsite.specs.declared.event.Event.{Event}
use Rattle.px_memsite.specs.declared.event.Event.TheVariants.{Changed}
use Rattle.px_memsite.specs.Changes.{change_of}
use Rattle.px_memsite.specs.Disk.{Shows}
use Rattle.px_memsite.specs.Files.{view_in}
use Rattle.px_memsite.proofs.FileLists.{stands_name}
use Rattle.px_memsite.proofs.Shown.{reached_push, fits_push, begun_view, shows_change}
use Rattle.px_memsite.proofs.disk.Disk.change.Goals as goal

pub invariant_of-self-2 : goal.invariant_of-self-2
invariant_of-self-2 c =
    let old = c.args.self.now in
    let new = c.begin.new.self in
    let file = c.args.file in
    let at = c.in_ok-at.at in
    let same = c.in_ok-at.ensures.same in
    let stands = c.in_ok-at.ensures.stands in
    let event : Event = Changed file c.args.change c.args.failure in
    let pushed = c.in_ok-push.ensures.items in
    let named = c.begin.ensures.name ∙ ap (λ f. f.name) c.index_mut.ensures.value ∙ stands_name c.roomy_entry.new.files.items file at c.index_mut.result.now stands in
    let before = c.content_of.ensures ∙ ap (λ files. (view_in files file).content) c.deref.ensures.value in
    let view = begun_view old.shows file at new c.args.failure same stands c.index_mut.ensures.value c.begin.ensures.view c.in_ok-copy.ensures c.in_ok-content.ensures before in
    let shows = shows_change old.shows file at new c.saturating_add-self.result (change_of c.args.change) c.args.failure same stands named view c.saturating_add-self.ensures in
    record {
      shows = subst (Shows _ old.told.items c.saturating_add-self.result) (sym (reached_push old.history.items c.push.new.self.items event pushed)) shows;
      fits = fits_push old.history.items c.push.new.self.items event pushed old.fits c.requires;
    }
