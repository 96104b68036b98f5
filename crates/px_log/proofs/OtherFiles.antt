-- What a change and a sync of the log's file leave of the other files.
use Rattle.std.proofs.Common.{◌≡◌, false, Result, Ok, Err, ap, subst, ◌∙◌}
use Rattle.px_site.specs.declared.error.SiteError.{SiteError}
use Rattle.px_site.specs.declared.error.SiteError.TheVariants.{OutOfMemory, Fault}
use Rattle.px_site.specs.declared.name.FileName.{FileName}
use Rattle.px_site.specs.Disk.{Change, content_after}
use Rattle.px_site.specs.Names.{same_file}
use Rattle.px_site.specs.State.{State, Changes, Syncs}
use Rattle.px_site.proofs.Files.{with_file_other}
use Rattle.px_xlog.specs.Contents.{the_log}

changed_others : {T : Type 0} {change : Change} {s0 s1 : State} (r : Result T SiteError) → Changes the_log change s0 s1 r → (name : FileName) → same_file the_log name ≡ false → s1.content name ≡ s0.content name
changed_others {T} {change} {s0} {s1} (Ok x) changes name other =
    ap (λ (s : State). s.content name) changes.ok ∙ with_file_other the_log name (content_after change (s0.content the_log)) s0.content other
changed_others {T} {change} {s0} {s1} (Err OutOfMemory) changes name other = ap (λ (s : State). s.content name) changes.short
changed_others {T} {change} {s0} {s1} (Err (Fault fault)) changes name other =
    ap (λ (s : State). s.content name) changes.fault.1 ∙ with_file_other the_log name changes.fault.0 s0.content other

pub change_leaves_others : {T : Type 0} {file : FileName} {change : Change} {s0 s1 : State} {r : Result T SiteError} → file ≡ the_log → Changes file change s0 s1 r
    → (name : FileName) → same_file the_log name ≡ false → s1.content name ≡ s0.content name
change_leaves_others {T} {file} {change} {s0} {s1} {r} there changes = changed_others r (subst (λ (f : FileName). Changes f change s0 s1 r) there changes)

synced_contents : {T : Type 0} {file : FileName} {s0 s1 : State} (r : Result T SiteError) → Syncs file s0 s1 r → (name : FileName) → s1.content name ≡ s0.content name
synced_contents {T} {file} {s0} {s1} (Ok x) syncs name = ap (λ (s : State). s.content name) syncs.ok
synced_contents {T} {file} {s0} {s1} (Err OutOfMemory) syncs name = ap (λ (s : State). s.content name) syncs.short
synced_contents {T} {file} {s0} {s1} (Err (Fault fault)) syncs name = ap (λ (s : State). s.content name) syncs.fault

-- a sync changes no content at all
pub sync_leaves_contents : {T : Type 0} {file : FileName} {s0 s1 : State} {r : Result T SiteError} → Syncs file s0 s1 r → (name : FileName) → s1.content name ≡ s0.content name
sync_leaves_contents {T} {file} {s0} {s1} {r} = synced_contents r
