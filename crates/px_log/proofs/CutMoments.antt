-- The moments at which a log is cut.
use Rattle.std.proofs.Common.{◌≡◌, ℕ, List, length, take, drop, Result, Ok, refl, sym, ap, subst, ◌∙◌, inl, inr}
use Rattle.std.proofs.lemmas.List.{take_at}
use Rattle.px_site.specs.declared.name.FileName.{FileName}
use Rattle.px_site.specs.declared.error.SiteError.{SiteError}
use Rattle.px_site.specs.Disk.{Cut, FileState, IsImage, at_rest}
use Rattle.px_site.specs.State.{State, EachMoment, OnFile, Changes, Syncs, Stands}
use Rattle.px_site.proofs.Files.{stands, stands_changed, stands_synced, change_on_file, sync_on_file}
use Rattle.px_site.proofs.Moments.{then_moments, weaker_moments}
use Rattle.px_change.specs.declared.change.Change.{Change}
use Rattle.px_scan.proofs.Scans.{is_scan, frames_of-frames}
use Rattle.px_scan.specs.Scan.{frames, frames_of}
use Rattle.px_log.specs.Log.{IsCutting, OnlyGrew, ReadsAsBefore}
use Rattle.px_log.specs.Contents.{log_text}
use Rattle.px_xlog.specs.Contents.{the_log}
use Rattle.px_log.specs.Scanning.{ScansTo}
use Rattle.px_log.proofs.AtRest.{image_of_rest}
use Rattle.px_log.proofs.Cuts.{IsCut, cut_reads}

-- ---- call by call

abbrev Cutting : State → ℕ → FileState → Type 0
Cutting s0 len = IsCutting len (s0.now.files the_log) (s0.content the_log)

pub cut_moments : {T : Type 0} {file : FileName} {len : ℕ} {s0 s1 : State} {r : Result T SiteError} → file ≡ the_log → Changes file (Cut len) s0 s1 r → EachMoment (OnFile the_log s0.now (Cutting s0 len)) s0 s1
cut_moments {T} {file} {len} {s0} {s1} {r} there moves =
    change_on_file (stands {s = s0} refl) (subst (λ (f : FileName). Changes f (Cut len) s0 s1 r) there moves) (record { which = inl refl })

pub sync_cut_moments : {T U : Type 0} {file : FileName} {len : ℕ} {s0 s1 s2 : State} {x : T} {r : Result U SiteError} → file ≡ the_log → Changes file (Cut len) s0 s1 (Ok x) → Syncs file s1 s2 r → EachMoment (OnFile the_log s0.now (Cutting s0 len)) s0 s2
sync_cut_moments {T} {U} {file} {len} {s0} {s1} {s2} {x} {r} there cut syncs =
    then_moments (cut_moments there cut)
    (sync_on_file (stands_changed (stands {s = s0} refl) (subst (λ (f : FileName). Changes f (Cut len) s0 s1 (Ok x)) there cut)) (subst (λ (f : FileName). Syncs f s1 s2 r) there syncs)
    (record { which = inl refl }) (record { which = inr refl }))

pub cut_left : {T U : Type 0} {file : FileName} {len : ℕ} {s0 s1 s2 : State} {x : T} {y : U} → file ≡ the_log → Changes file (Cut len) s0 s1 (Ok x) → Syncs file s1 s2 (Ok y)
    → Stands the_log s0 (at_rest (take len (s0.content the_log))) (take len (s0.content the_log)) s2
cut_left {T} {U} {file} {len} {s0} {s1} {s2} {x} {y} there cut syncs =
    stands_synced (stands_changed (stands {s = s0} refl) (subst (λ (f : FileName). Changes f (Cut len) s0 s1 (Ok x)) there cut)) (subst (λ (f : FileName). Syncs f s1 s2 (Ok y)) there syncs)

-- ---- as a whole

scan_here : (content : List ℕ) (changes : List Change) (stop : ℕ) → ScansTo content changes stop → stop ≡ length (frames 0 (frames_of content 0))
unfolding log_text
scan_here content changes stop scan = scan.place ∙ ap (λ (ps : List (List ℕ)). length (frames 0 ps)) (sym scan.scanned)

log_scanned : (content : List ℕ) (changes : List Change) (stop : ℕ) → ScansTo content changes stop → log_text changes ≡ frames 0 (frames_of content 0)
unfolding log_text
log_scanned content changes stop scan = ap (frames 0) (sym scan.scanned)

taken : (content : List ℕ) (changes : List Change) (stop : ℕ) → ScansTo content changes stop → take stop content ≡ log_text changes
taken content changes stop scan = ap (take stop) scan.front ∙ take_at (log_text changes) (drop stop content) stop (sym scan.place)

cutting_reads : (file : FileState) (content : List ℕ) (len : ℕ) (f : FileState) → IsCut file content len → take len content ≡ frames 0 (frames_of content 0) → IsCutting len file content f → ReadsAsBefore file f
cutting_reads file content len f cut front cutting = elim cutting.which [
  | inl begun ↦ subst (ReadsAsBefore file) (sym begun) (cut_reads file content len cut)
  | inr synced ↦ subst (ReadsAsBefore file) (sym synced) (record {
    each = λ image is_image plain.
        (content, cut.reads, cut.plain, ap (λ (b : List ℕ). frames_of b 0) (image_of_rest (take len content) image is_image ∙ front) ∙ frames_of-frames 0 (frames_of content 0) (is_scan content 0).1.can);
  })
]

pub opening_moments : (s0 s1 s2 : State) (changes : List Change) (stop : ℕ) → s1 ≡ s0 → IsImage (s0.now.files the_log) (s0.content the_log) → OnlyGrew (s0.now.files the_log) (s0.content the_log)
    → ScansTo (s0.content the_log) changes stop → EachMoment (OnFile the_log s1.now (IsCutting stop (s1.now.files the_log) (s1.content the_log))) s1 s2
    → EachMoment (OnFile the_log s0.now (ReadsAsBefore (s0.now.files the_log))) s0 s2
opening_moments s0 s1 s2 changes stop same reads grew scan moments =
    let file = s0.now.files the_log in
    let content = s0.content the_log in
    let cut : IsCut file content stop = record { behind = grew.behind; reads = reads; plain = grew.plain; here = scan_here content changes stop scan } in
    let front = taken content changes stop scan ∙ log_scanned content changes stop scan in
    let here = subst (λ (s : State). EachMoment (OnFile the_log s.now (IsCutting stop (s.now.files the_log) (s.content the_log))) s s2) same moments in
    weaker_moments (λ m on. record { this = cutting_reads file content stop (m.files the_log) cut front on.this; others = on.others; told = on.told; telling = on.telling }) here

pub opening_left : (s0 s1 s2 : State) (changes : List Change) (stop : ℕ) → s1 ≡ s0 → ScansTo (s0.content the_log) changes stop
    → Stands the_log s1 (at_rest (take stop (s1.content the_log))) (take stop (s1.content the_log)) s2 → Stands the_log s0 (at_rest (log_text changes)) (log_text changes) s2
opening_left s0 s1 s2 changes stop same scan left =
    let here = subst (λ (s : State). Stands the_log s (at_rest (take stop (s.content the_log))) (take stop (s.content the_log)) s2) same left in
    subst (λ (b : List ℕ). Stands the_log s0 (at_rest b) b s2) (taken (s0.content the_log) changes stop scan) here
