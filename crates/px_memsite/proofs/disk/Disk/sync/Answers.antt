use Rattle.std.proofs.Common.{sym, ap, ◌∙◌, subst}
use Rattle.px_memsite.specs.declared.event.Event.{Event}
use Rattle.px_memsite.specs.declared.event.Event.TheVariants.{Synced}
use Rattle.px_memsite.specs.Disk.{Shows}
use Rattle.px_memsite.specs.Files.{View, view_in}
use Rattle.px_memsite.proofs.FileLists.{stands_name}
use Rattle.px_memsite.proofs.Shown.{reached_push, fits_push, view_was, settled_view, shows_sync, shows_not_sync}
use Rattle.px_memsite.proofs.disk.Disk.sync.Goals as goal

pub settle-requires : goal.settle-requires
settle-requires c =
    let at = c.in_ok-at.at in
    let file = c.args.file in
    let was = view_was file at c.in_ok-at.ensures.same c.in_ok-at.ensures.stands c.index_mut.ensures.value in
    c.in_ok-content.ensures.items ∙ c.content_of.ensures ∙ ap (λ files. (view_in files file).content) c.deref.ensures.value ∙ ap (λ (v : View). v.content) (sym was)

pub invariant_of-self-2 : goal.invariant_of-self-2
invariant_of-self-2 c =
    let old = c.args.self.now in
    let new = c.settle.new.self in
    let file = c.args.file in
    let at = c.in_ok-at.at in
    let same = c.in_ok-at.ensures.same in
    let stands = c.in_ok-at.ensures.stands in
    let event : Event = Synced file c.args.failure in
    let pushed = c.in_ok-push.ensures.items in
    let named = c.settle.ensures.name ∙ ap (λ f. f.name) c.index_mut.ensures.value ∙ stands_name c.entry.new.files.items file at c.index_mut.result.now stands in
    let view = settled_view old.shows file at new same stands c.index_mut.ensures.value c.settle.ensures.view in
    let shows = shows_sync old.shows file at new c.saturating_add-self-2.result c.in-None.is same stands named view c.saturating_add-self-2.ensures in
    record {
      shows = subst (Shows _ old.told.items c.saturating_add-self-2.result) (sym (reached_push old.history.items c.push-2.new.self.items event pushed)) shows;
      fits = fits_push old.history.items c.push-2.new.self.items event pushed old.fits tt;
    }

pub invariant_of-self-in-Some : goal.invariant_of-self-in-Some
invariant_of-self-in-Some c =
    let old = c.args.self.now in
    let event : Event = Synced c.args.file c.args.failure in
    let pushed = c.in_ok-push-in-Some.ensures.items in
    let shows = shows_not_sync old.shows c.args.file c.in-Some.field-0 c.saturating_add-self.result c.in-Some.is c.saturating_add-self.ensures in
    record {
      shows = subst (Shows _ old.told.items c.saturating_add-self.result) (sym (reached_push old.history.items c.push.new.self.items event pushed)) shows;
      fits = fits_push old.history.items c.push.new.self.items event pushed old.fits tt;
    }
