-- What `make` tells and leaves.
use Rattle.std.proofs.Common.{◌≡◌, ℕ, List, [], ◌++◌, take, Result, Err, Some, refl, sym, ap, subst, ◌∙◌, inl, inr}
use Rattle.std.proofs.lemmas.List.{append-nil}
use Rattle.px_site.specs.declared.error.Fault.{Fault}
use Rattle.px_site.specs.declared.error.Fault.TheVariants.{Read, Write, Sync, Remove, List as ListFault, Tell}
use Rattle.px_site.specs.declared.error.SiteError.{SiteError}
use Rattle.px_site.specs.declared.error.SiteError.TheVariants.{OutOfMemory as SiteShort, Fault as SiteFault}
use Rattle.px_site.specs.declared.name.FileName.{FileName}
use Rattle.px_site.specs.Cause.{Counts}
use Rattle.px_site.specs.State.{State, Moment, EachMoment, Tells, spoke, telling, told}
use Rattle.px_site.proofs.Moments.{same_moment, tell_moments, then_moments, weaker_moments}
use Rattle.px_calls.specs.declared.status.Status.TheVariants.{Done, OutOfMemory, DiskFault, NotEmpty}
use Rattle.px_calls.specs.Texts.{made_line}
use Rattle.px_cell_standing.specs.Images.{CanMake, ImagesAreNew}
use Rattle.px_cell_standing.specs.Settled.{Settled}
use Rattle.px_standing.proofs.Moments.{last_moment}
use Rattle.px_recovery.specs.declared.error.MakeError.{MakeError}
use Rattle.px_recovery.specs.declared.error.MakeError.TheVariants.{OutOfMemory as MakeShort, Fault as MakeFault, NotEmpty as MakeUsed}
use Rattle.px_recovery.specs.Errors.{HasMakeCause, MakesFileFault, LeavesUnmade, status_of_make}
use Rattle.px_recovery.specs.Making.{IsFree, IsMade, StaysNew, WritesFirstFile, first_file, first_saved}
use Rattle.px_play.specs.Told.{status_of_tell}
use Rattle.px_run.specs.declared.command.Command.TheVariants.{Make}
use Rattle.px_run.specs.Causes.{HasStatusCause}
use Rattle.px_run.specs.Making.{Made, MakeEnds, made_pieces}
use Rattle.px_run.specs.Working.{MakesStore}
use Rattle.px_run.specs.Told.{OnlyTells}
use Rattle.px_cell_standing.proofs.Syncing.{settled_alike}
use Rattle.px_run.proofs.Alike.{new_alike}
use Rattle.px_run.proofs.Pieces.{only_nothing, only_spoke, told_nothing}

-- ---- where it isn't made

pub not_made_cause : (tables short : ℕ) (old new : Counts) (error : MakeError) → HasMakeCause old new error → MakesFileFault error → HasStatusCause (Some (Make tables short)) old new 0 0 (status_of_make error)
not_made_cause tables short old new MakeShort rose own = λ none. cc
not_made_cause tables short old new (MakeFault fault) rose own = (λ none. cc, own, rose)
not_made_cause tables short old new MakeUsed rose own = (refl, λ none. cc)

-- nothing is told while the first restart file is written
told_stays : {tables short : ℕ} {a b : State} → EachMoment (WritesFirstFile (first_saved tables short) a) a b → b.now.told ≡ a.now.told
told_stays {tables} {short} {a} {b} moments = elim (last_moment moments) [
  | inl still ↦ ap (λ (m : Moment). m.told) still
  | inr writes ↦ writes.told
]

pub not_made : (tables short : ℕ) (a b : State) (error : MakeError) → EachMoment (WritesFirstFile (first_saved tables short) a) a b → ((IsFree a.content → ⊥) → b ≡ a) → LeavesUnmade a b error → MakesStore tables short a b (status_of_make error)
not_made tables short a b error moments spared refuses = by_error error refuses
  where
    spares : (IsFree a.content → ⊥) → OnlyTells a b
    spares used = only_nothing (spared used)

    -- some of it may have been written
    begun : (fault : Fault) → MakeEnds tables short a b 0 (DiskFault fault) → MakesStore tables short a b (DiskFault fault)
    begun fault ends = record { whole = 0; ends = ends; spared = spares; told = told_nothing (made_pieces tables short) (DiskFault fault) (told_stays moments) }

    by_error : (error : MakeError) → LeavesUnmade a b error → MakesStore tables short a b (status_of_make error)
    by_error MakeShort refuses = record { whole = 0; ends = refl; spared = spares; told = told_nothing (made_pieces tables short) OutOfMemory (told_stays moments) }
    by_error (MakeFault Read) same = begun Read (refl, only_nothing same)
    by_error (MakeFault ListFault) same = begun ListFault (refl, only_nothing same)
    by_error (MakeFault Write) refuses = begun Write refl
    by_error (MakeFault Sync) refuses = begun Sync refl
    by_error (MakeFault Remove) refuses = begun Remove refl
    by_error (MakeFault Tell) refuses = begun Tell refl
    by_error MakeUsed refuses = record {
      whole = 0;
      ends = (refl, record { used = refuses.0; content = ap (λ (s : State). s.content) refuses.1; files = same_moment refuses.1 });
      spared = spares;
      told = told_nothing (made_pieces tables short) NotEmpty (told_stays moments);
    }

-- ---- where it is

made_by : (tables short : ℕ) (a b c : State) → IsFree a.content → IsMade tables short a b → (CanMake a → Settled b 0 []) → OnlyTells b c → Made tables short a c
made_by tables short a b c free made settled only = record {
  was_free = free;
  content = ap (λ (f : FileName → List ℕ). f first_file) only.content ∙ made.content;
  durable = ap (λ f. f first_file) only.files ∙ made.this;
  others = λ name other. ap (λ (f : FileName → List ℕ). f name) only.content ∙ made.others_content name other;
  others_files = λ name other. ap (λ f. f name) only.files ∙ made.others name other;
  settled = λ can. settled_alike b c 0 [] only.content only.files (settled can);
}

-- its line was told
pub made_done : (tables short : ℕ) (a b c : State) (bytes : List ℕ) → bytes ≡ made_line tables short → IsFree a.content → IsMade tables short a b → (CanMake a → Settled b 0 []) → c ≡ spoke bytes bytes b → MakesStore tables short a c Done
made_done tables short a b c bytes is free made settled e =
    let line : List ℕ = made_line tables short in
    record {
      whole = 1;
      ends = (refl, made_by tables short a b c free made settled (only_spoke bytes bytes e));
      spared = λ used. absurd (used free);
      told = record {
        front = 0;
        text = ap (λ (s : State). s.now.told) e ∙ ap (λ (l : List ℕ). l ++ bytes) made.told ∙ ap (λ (l : List ℕ). a.now.told ++ l) is
            ∙ sym (append-nil (a.now.told ++ (line ++ [])) ∙ ap (λ (l : List ℕ). a.now.told ++ l) (append-nil line));
      };
    }

-- it wasn't, or a front of it
pub made_untold : (tables short : ℕ) (a b c : State) (bytes : List ℕ) (error : SiteError) → bytes ≡ made_line tables short → IsFree a.content → IsMade tables short a b → (CanMake a → Settled b 0 []) → Tells {T = Unit {0}} bytes b c (Err error)
    → MakesStore tables short a c (status_of_tell error)
made_untold tables short a b c bytes SiteShort is free made settled tells =
    record { whole = 0; ends = refl; spared = λ used. absurd (used free); told = told_nothing (made_pieces tables short) OutOfMemory (ap (λ (s : State). s.now.told) tells.short ∙ made.told) }
made_untold tables short a b c bytes (SiteFault fault) is free made settled tells =
    let n : ℕ = tells.fault.0 in
    record {
      whole = 0;
      ends = (refl, made_by tables short a b c free made settled (only_spoke bytes (take n bytes) tells.fault.1));
      spared = λ used. absurd (used free);
      told = record {
        front = n;
        text = ap (λ (s : State). s.now.told) tells.fault.1 ∙ ap (λ (l : List ℕ). l ++ take n bytes) (made.told ∙ sym (append-nil a.now.told))
            ∙ ap (λ (l : List ℕ). a.now.told ++ [] ++ take n l) is;
      };
    }

-- ---- at each moment

new_now : {a b : State} → EachMoment (StaysNew a.now) a b → CanMake a → ImagesAreNew b.now
new_now {a} {b} moments can = elim (last_moment moments) [
  | inl still ↦ subst ImagesAreNew (sym still) can.images
  | inr stays ↦ stays.images
]

pub making_moments : {a b : State} → EachMoment (StaysNew a.now) a b → EachMoment ImagesAreNew a b
making_moments moments = weaker_moments (λ m stays. stays.images) moments

pub made_moments : {a b c : State} {r : Result (Unit {0}) SiteError} (bytes : List ℕ) → EachMoment (StaysNew a.now) a b → CanMake a → Tells bytes b c r → EachMoment ImagesAreNew a c
made_moments {a} {b} {c} {r} bytes moments can tells =
    let now : ImagesAreNew b.now = new_now moments can in
    then_moments (making_moments moments) (tell_moments tells (new_alike b.now (telling bytes b.now) refl now) (λ out. new_alike b.now (told out b.now) refl now))
