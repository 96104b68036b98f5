-- Files by their names, and a call on one of them.
use Rattle.std.proofs.Common.{List, Result, Ok, ◌≡◌, ℕ, Bool, true, false, cond, refl, sym, ap, ◌∙◌, subst, nat_eq, arith}
use Rattle.std.proofs.lemmas.Bool.Decides.{nat_tests}
use Rattle.px_site.specs.declared.name.FileName.{FileName}
use Rattle.px_site.specs.declared.name.FileName.TheVariants.{Rec, Row, Dlog, Xlog, Restart, Index, Ilog}
use Rattle.px_site.specs.declared.error.SiteError.{SiteError}
use Rattle.px_site.specs.Disk.{Change, FileState, content_after, at_rest, pending_more}
use Rattle.px_site.specs.Names.{same_file, kind, number}
use Rattle.px_site.specs.State.{State, Changes, Syncs, EachMoment, OnFile, Stands, with_file}
use Rattle.px_site.proofs.Moments.{change_moments, sync_moments, weaker_moments}

nat_eq_self : (n : ℕ) → nat_eq n n ≡ true
nat_eq_self n = grind (arith, nat_tests)

same_number : (m n : ℕ) → nat_eq m n ≡ true → m ≡ n
same_number m n h = grind (arith, nat_tests)

-- a name is its own
pub same_file_self : (f : FileName) → same_file f f ≡ true
same_file_self f = rw (nat_eq_self (kind f), nat_eq_self (number f))

-- names of one file are equal
pub same_file_is : (a b : FileName) → same_file a b ≡ true → a ≡ b
same_file_is (Rec m) (Rec n) h = ap Rec (same_number m n h)
same_file_is (Row m) (Row n) h = ap Row (same_number m n h)
same_file_is (Dlog m) (Dlog n) h = ap Dlog (same_number m n h)
same_file_is (Xlog m) (Xlog n) h = ap Xlog (same_number m n h)
same_file_is (Restart m) (Restart n) h = ap Restart (same_number m n h)
same_file_is Index Index h = refl
same_file_is Ilog Ilog h = refl
same_file_is a b h = absurd (cc)

-- the file that was given another value has it
pub with_file_same : {A : Type 0} (f : FileName) (x : A) (m : FileName → A) → with_file f x m f ≡ x
with_file_same f x m = ap (λ (b : Bool). cond b x (m f)) (same_file_self f)

-- and another file has its own
pub with_file_other : {A : Type 0} (f g : FileName) (x : A) (m : FileName → A) → same_file f g ≡ false → with_file f x m g ≡ m g
with_file_other f g x m h = ap (λ (b : Bool). cond b x (m g)) h

-- where a function begins: nothing changed yet
pub stands : {file : FileName} {s : State} {st : FileState} → s.now.files file ≡ st → Stands file s st (s.content file) s
stands is = record { this = is; content = refl; others = λ name other. refl; others_content = λ name other. refl; told = refl }

module _ {file : FileName} {before : State} {st : FileState} {bytes : List ℕ} where
  -- after a change of the file that succeeded
  pub stands_changed : {T : Type 0} {change : Change} {a b : State} {x : T} → Stands file before st bytes a → Changes file change a b (Ok x) → Stands file before (pending_more change st) (content_after change bytes) b
  stands_changed {T} {change} {a} {b} so_far moves = subst (Stands file before (pending_more change st) (content_after change bytes)) (sym moves.ok) (record {
    this = with_file_same file (pending_more change (a.now.files file)) a.now.files ∙ ap (pending_more change) so_far.this;
    content = with_file_same file (content_after change (a.content file)) a.content ∙ ap (content_after change) so_far.content;
    others = λ name other. with_file_other file name (pending_more change (a.now.files file)) a.now.files other ∙ so_far.others name other;
    others_content = λ name other. with_file_other file name (content_after change (a.content file)) a.content other ∙ so_far.others_content name other;
    told = so_far.told;
  })

  -- after a sync of it that succeeded
  pub stands_synced : {T : Type 0} {a b : State} {x : T} → Stands file before st bytes a → Syncs file a b (Ok x) → Stands file before (at_rest bytes) bytes b
  stands_synced {T} {a} {b} so_far moves = subst (Stands file before (at_rest bytes) bytes) (sym moves.ok) (record {
    this = with_file_same file (at_rest (a.content file)) a.now.files ∙ ap at_rest so_far.content;
    content = so_far.content;
    others = λ name other. with_file_other file name (at_rest (a.content file)) a.now.files other ∙ so_far.others name other;
    others_content = so_far.others_content;
    told = so_far.told;
  })

  -- the moments of a change of it, whatever came of it: P is owed of the file with the change begun
  pub change_on_file : {T : Type 0} {P : FileState → Type 0} {change : Change} {a b : State} {r : Result T SiteError} → Stands file before st bytes a → Changes file change a b r → P (pending_more change st) → EachMoment (OnFile file before.now P) a b
  change_on_file {T} {P} {change} {a} so_far moves here = change_moments moves (record {
    this = subst P (sym (with_file_same file (pending_more change (a.now.files file)) a.now.files ∙ ap (pending_more change) so_far.this)) here;
    others = λ name other. with_file_other file name (pending_more change (a.now.files file)) a.now.files other ∙ so_far.others name other;
    told = so_far.told;
    telling = refl;
  })

  -- the moments of a sync of it: P is owed before and at rest
  pub sync_on_file : {T : Type 0} {P : FileState → Type 0} {a b : State} {r : Result T SiteError} → Stands file before st bytes a → Syncs file a b r → P st → P (at_rest bytes) → EachMoment (OnFile file before.now P) a b
  sync_on_file {T} {P} {a} so_far moves here after = sync_moments moves
      (record { this = subst P (sym so_far.this) here; others = so_far.others; told = so_far.told; telling = refl })
      (record {
        this = subst P (sym (with_file_same file (at_rest (a.content file)) a.now.files ∙ ap at_rest so_far.content)) after;
        others = λ name other. with_file_other file name (at_rest (a.content file)) a.now.files other ∙ so_far.others name other;
        told = so_far.told;
        telling = refl;
      })

  -- a callee's moments, said of the caller's start
  pub later_on_file : {P Q : FileState → Type 0} {a b : State} → Stands file before st bytes a → ((f : FileState) → P f → Q f) → EachMoment (OnFile file a.now P) a b → EachMoment (OnFile file before.now Q) a b
  later_on_file {P} {Q} so_far weaker = weaker_moments (λ m on. record {
    this = weaker (m.files file) on.this;
    others = λ name other. on.others name other ∙ so_far.others name other;
    told = on.told ∙ so_far.told;
    telling = on.telling;
  })

  -- and what stands after the callee
  pub stands_later : {st' : FileState} {bytes' : List ℕ} {a b : State} → Stands file before st bytes a → Stands file a st' bytes' b → Stands file before st' bytes' b
  stands_later so_far more = record {
    this = more.this;
    content = more.content;
    others = λ name other. more.others name other ∙ so_far.others name other;
    others_content = λ name other. more.others_content name other ∙ so_far.others_content name other;
    told = more.told ∙ so_far.told;
  }
