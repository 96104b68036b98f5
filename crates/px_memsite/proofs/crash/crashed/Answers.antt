use Rattle.std.proofs.Common.{◌≡◌, take, sym, ap, ◌∙◌, subst}
use Rattle.std.proofs.lemmas.Result.{IfOk-weaker}
use Rattle.px_site.specs.declared.name.FileName.{FileName}
use Rattle.px_site.specs.Disk.{FileState}
use Rattle.px_memsite.specs.Crash.{IsCrashed, IsWithin}
use Rattle.px_memsite.specs.Events.{reached}
use Rattle.px_memsite.specs.Files.{View, states_in}
use Rattle.px_memsite.specs.Moments.{moment_at}
use Rattle.px_memsite.specs.Sound.{reached_sound}
use Rattle.px_memsite.proofs.crash.crashed.Goals as goal

pub left-requires-clause-within : goal.left-requires-clause-within
left-requires-clause-within c name =
    let played = c.in_ok-played.played in
    let within = subst (λ (v : View). IsWithin v.state) (sym (played.shows.views name)) (reached_sound played.history.items played.fits name).within in
    subst (λ files. IsWithin (states_in files name)) (sym c.deref-2.ensures.value) within

pub returns : goal.returns
returns c =
    let history = c.args.disk.history.items in
    let moment = c.args.pick.moment in
    let played = c.in_ok-played.played in
    let seen = subst (λ h. (moment_at moment (reached h)).files ≡ (reached (take c.events_seen-seen.result h)).now.files) c.deref.ensures.value c.events_seen-seen.ensures.files in
    let state : (name : FileName) → states_in c.deref-2.result.now name ≡ (moment_at moment (reached history)).files name =
    λ name. ap (λ files. states_in files name) c.deref-2.ensures.value ∙ ap (λ (v : View). v.state) (played.shows.views name) ∙ ap (λ h. (reached h).now.files name) c.in_ok-played.ensures ∙ ap (λ (f : FileName → FileState). f name) (sym seen) in
    let states : states_in c.deref-2.result.now ≡ (moment_at moment (reached history)).files = λ i. λ name. state name i in
    IfOk-weaker c.left.result _ _ (λ left h. subst (λ (files : FileName → FileState). IsCrashed c.args.pick.keep files (reached left.history.items)) states h) c.left.ensures
