-- A call on the log's file changes no other file, and tells nothing.
use Rattle.std.proofs.Common.{◌≡◌, Result, refl, subst}
use Rattle.std.specs.Prelude.{⊤}
use Rattle.px_site.proofs.Files.{with_file_other}
use Rattle.px_site.proofs.Moments.{change_moments, sync_moments}
use Rattle.px_site.specs.Disk.{Change, at_rest, pending_more}
use Rattle.px_site.specs.State.{Changes, EachMoment, OnFile, State, Syncs}
use Rattle.px_site.specs.declared.error.SiteError.{SiteError}
use Rattle.px_site.specs.declared.name.FileName.{FileName}
use Rattle.px_xlog.specs.Contents.{the_log}

pub change_alone : {T : Type 0} {file : FileName} {change : Change} {a b : State} {r : Result T SiteError} → file ≡ the_log → Changes file change a b r
    → EachMoment (OnFile the_log a.now (λ file. ⊤)) a b
change_alone {T} {file} {change} {a} {b} {r} is moves =
    let at : Changes the_log change a b r = subst (λ (f : FileName). Changes f change a b r) is moves in
    change_moments at (record {
      this = tt;
      others = λ name away. with_file_other the_log name (pending_more change (a.now.files the_log)) a.now.files away;
      told = refl;
      telling = refl;
    })

pub sync_alone : {T : Type 0} {file : FileName} {a b : State} {r : Result T SiteError} → file ≡ the_log → Syncs file a b r
    → EachMoment (OnFile the_log a.now (λ file. ⊤)) a b
sync_alone {T} {file} {a} {b} {r} is moves =
    let at : Syncs the_log a b r = subst (λ (f : FileName). Syncs f a b r) is moves in
    sync_moments at (record { this = tt; others = λ name away. refl; told = refl; telling = refl }) (record {
      this = tt;
      others = λ name away. with_file_other the_log name (at_rest (a.content the_log)) a.now.files away;
      told = refl;
      telling = refl;
    })
