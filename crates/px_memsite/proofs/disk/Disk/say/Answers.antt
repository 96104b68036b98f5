use Rattle.std.proofs.Common.{◌≡◌, ◌++◌, sym, ap, ◌∙◌, subst}
use Rattle.px_memsite.specs.declared.event.Event.{Event}
use Rattle.px_memsite.specs.declared.event.Event.TheVariants.{Told}
use Rattle.px_memsite.specs.Disk.{Shows}
use Rattle.px_memsite.specs.Events.{heard}
use Rattle.px_memsite.proofs.Shown.{reached_push, fits_push, shows_tell}
use Rattle.px_memsite.proofs.disk.Disk.say.Goals as goal

pub invariant_of-self-2 : goal.invariant_of-self-2
invariant_of-self-2 c =
    let old = c.args.self.now in
    let event : Event = Told c.args.bytes c.args.failure in
    let pushed = c.in_ok-push.ensures.items in
    let said : c.extend_from_slice.new.self.items ≡ c.reserve.new.self.items ++ c.deref-2.result.now = rw c.unwrap.ensures at c.extend_from_slice.ensures.items in
    let out : c.deref-2.result.now ≡ heard c.args.bytes.items c.args.failure = c.deref-2.ensures.value ∙ c.in_ok-out.ensures.items ∙ c.heard.ensures ∙ ap (λ l. heard l c.args.failure) c.deref.ensures.value in
    let told = said ∙ ap (λ l. l ++ c.deref-2.result.now) c.reserve.ensures.items ∙ ap (λ l. old.told.items ++ l) out in
    let shows = shows_tell old.shows c.args.bytes.items c.args.failure c.saturating_add-self.result told c.saturating_add-self.ensures in
    record {
      shows = subst (Shows _ _ c.saturating_add-self.result) (sym (reached_push old.history.items c.push.new.self.items event pushed)) shows;
      fits = fits_push old.history.items c.push.new.self.items event pushed old.fits tt;
    }
