-- What holds at each moment of calls one after the other, which tell nothing.
use Rattle.std.proofs.Common.{◌≡◌, ℕ, List, [], ◌∷◌, ◌++◌, refl, sym, subst, ◌∙◌}
use Rattle.std.specs.List.{AllByRecursion}
use Rattle.px_site.specs.State.{State, Moment, EachMoment, OnFile, history}
use Rattle.px_site.proofs.Moments.{then_moments, weaker_moments}
use Rattle.px_site.specs.declared.name.FileName.{FileName}
use Rattle.px_site.specs.Disk.{FileState}
use Rattle.px_model.specs.declared.row.Row.{Row}
use Rattle.px_cell_standing.specs.Images.{KeepsStanding}
use Rattle.px_recovery.specs.Opening.{TellsNothing}

first_moment : (m n : Moment) (ms ns : List Moment) → m ∷ ms ≡ n ∷ ns → m ≡ n
first_moment m n ms ns e = cc

-- what holds of the first moment and of each later one holds of the last one
pub last_moment : {a b : State} (P : Moment → Type 0) → P a.now → EachMoment P a b → P b.now
last_moment {a} {b} P here moments = by_added moments.added moments.grown moments.each
  where
    by_added : (added : List Moment) → history b ≡ added ++ history a → AllByRecursion P added → P b.now
    by_added [] grown each = subst P (sym (first_moment b.now a.now b.past a.past grown)) here
    by_added (m ∷ added) grown each = subst P (sym (first_moment b.now m b.past (added ++ history a) grown)) each.0

pub told_stays : {a b : State} → EachMoment (TellsNothing a.now) a b → b.now.told ≡ a.now.told
told_stays {a} p = last_moment (λ (m : Moment). m.told ≡ a.now.told) refl (weaker_moments (λ m quiet. quiet.told) p)

pub quiet_then : {a b c : State} → EachMoment (TellsNothing a.now) a b → EachMoment (TellsNothing b.now) b c → EachMoment (TellsNothing a.now) a c
quiet_then p q = then_moments p (weaker_moments (λ m quiet. record { told = quiet.told ∙ told_stays p; telling = quiet.telling }) q)

pub quiet_from : {a b c : State} → b ≡ a → EachMoment (TellsNothing b.now) b c → EachMoment (TellsNothing a.now) a c
quiet_from {a} {b} {c} same p = subst (λ (s : State). EachMoment (TellsNothing s.now) s c) same p

pub standing_then : {a b c : State} {count : ℕ} {rows : List Row} → EachMoment (KeepsStanding count rows a.now) a b → EachMoment (KeepsStanding count rows b.now) b c → EachMoment (KeepsStanding count rows a.now) a c
standing_then {a} p q =
    let quiet = weaker_moments {Q = TellsNothing a.now} (λ m keeps. record { told = keeps.told; telling = keeps.telling }) p in
    then_moments p (weaker_moments (λ m keeps. record { images = keeps.images; told = keeps.told ∙ told_stays quiet; telling = keeps.telling }) q)

pub standing_from : {a b c : State} {count : ℕ} {rows : List Row} → b ≡ a → EachMoment (KeepsStanding count rows b.now) b c → EachMoment (KeepsStanding count rows a.now) a c
standing_from {a} {b} {c} {count} {rows} same p = subst (λ (s : State). EachMoment (KeepsStanding count rows s.now) s c) same p

-- a call of one file
pub file_quiet : {file : FileName} {P : FileState → Type 0} {a b : State} → EachMoment (OnFile file a.now P) a b → EachMoment (TellsNothing a.now) a b
file_quiet p = weaker_moments (λ m on. record { told = on.told; telling = on.telling }) p

-- a call that only reads, one that tells nothing, and one of a file
pub two_quiet : {a b c d : State} {file : FileName} {P : FileState → Type 0} → b ≡ a → EachMoment (TellsNothing b.now) b c → EachMoment (OnFile file c.now P) c d → EachMoment (TellsNothing a.now) a d
two_quiet same one two = quiet_from same (quiet_then one (file_quiet two))
