-- The site of a core that works for a machine is a settled store with all that the machine has committed.
use Rattle.std.proofs.Common.{refl}
use Rattle.px_cell_standing.proofs.Lasting.{lasting_holds}
use Rattle.px_cell_standing.specs.Found.{HoldsStore}
use Rattle.px_filed.proofs.Lying.{files_lie}
use Rattle.px_history.proofs.Agreeing.{one_layout}
use Rattle.px_life.proofs.Fronts.{front_held}
use Rattle.px_model.specs.Machine.{Machine, commits}
use Rattle.px_opened.proofs.Kept.{steps_held}
use Rattle.px_reached.proofs.Standing.{reachable_stands}
use Rattle.px_shown.proofs.Showing.{alike_shown}
use Rattle.px_site.specs.State.{State}
use Rattle.px_standing.specs.Images.{IsPlainImage}
use Rattle.px_standing.specs.Resting.{ReadsImages}
use Rattle.px_working.proofs.Log.{log_kept}
use Rattle.px_working.proofs.Moments.{crash_leaves}
use Rattle.px_core.specs.Core.{opening_of}
use Rattle.px_core.specs.Working.{WorksFor}
use Rattle.px_core.specs.declared.state.Kept.{Kept}
use Rattle.px_core.proofs.Crashing.{more_opens}

pub works_holds : {W : Type 0} (state : W → State) (core : Kept W) (m : Machine) → ReadsImages (state core.site) → WorksFor state core m → HoldsStore m (state core.site)
works_holds state core m reads works =
    lasting_holds (commits m) m works.life works.restart works.marks (opening_of state core) works.has reads log_kept files_lie (front_held (steps_held one_layout)) more_opens alike_shown
    (crash_leaves (reachable_stands (steps_held one_layout) alike_shown more_opens files_lie IsPlainImage (λ m image plain. plain.each)))
    refl works.works works.found
