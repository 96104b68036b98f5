-- After whatever an opening answers, it may be tried again.
use Rattle.std.proofs.Common.{ℕ, List}
use Rattle.px_model.specs.declared.row.Row.{Row}
use Rattle.px_site.proofs.Moments.{weaker_moments}
use Rattle.px_site.specs.State.{EachMoment, Moment, State}
use Rattle.px_standing.specs.Files.{Files}
use Rattle.px_standing.specs.Images.{IsPlainImage}
use Rattle.px_cell_standing.specs.Images.{ImagesStandFor, KeepsStanding}
use Rattle.px_cell_standing.specs.Settled.{IsAtRest, KeepsOneFile, Settled}
use Rattle.px_cell_standing.specs.Standing.{StandsFor}
use Rattle.px_cell_standing.specs.Touching.{TouchesOwn}
use Rattle.px_recovery.specs.Touching.{SettlesLater}
use Rattle.px_recovery.proofs.Quiet.{last_moment}
use Rattle.px_recovery.proofs.Touched.{none_touched}

-- ---- what is used of the laws below

abbrev pub KeepsIt : Type 0
KeepsIt = (before : State) (now : Moment) (commits : ℕ) (rows : List Row) → Settled before commits rows → TouchesOwn before now → KeepsOneFile now

abbrev pub SettlesIt : Type 0
SettlesIt =
    (now : Moment) (later : State) (image : Files) (commits : ℕ) (rows : List Row) → KeepsOneFile now → IsPlainImage now image
    → StandsFor image commits rows → IsAtRest image later → Settled later commits rows

pub settles_later : (count : ℕ) (rows : List Row) {a b : State} → KeepsIt → SettlesIt → Settled a count rows → EachMoment (KeepsStanding count rows a.now) a b → EachMoment (TouchesOwn a) a b
    → SettlesLater count rows b.now
settles_later count rows {a} {b} keeps settles settled standing own =
    let images = last_moment (ImagesStandFor count rows) settled.images (weaker_moments (λ m stands. stands.images) standing) in
    let touched = last_moment (TouchesOwn a) (none_touched a) own in
    record { each = λ image later plain rests. settles b.now later image count rows (keeps a b.now count rows settled touched) plain (images.each image plain) rests }
