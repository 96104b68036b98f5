-- What a sync of a data log does to parts and moments.
use Rattle.std.proofs.lemmas.Bool.Decides.{nat_tests}
use Rattle.std.proofs.Common.{◌≡◌, ◌≢◌, ℕ, nat_eq, Bool, true, false, List, [], ◌∷◌, Option, Some, None, Result, Ok, length, refl, sym, ap, subst, ◌∙◌, arith}
use Rattle.std.specs.List.{AllByRecursion}
use Rattle.px_site.specs.declared.error.SiteError.{SiteError}
use Rattle.px_site.specs.declared.name.FileName.{FileName}
use Rattle.px_site.specs.declared.name.FileName.TheVariants.{Dlog}
use Rattle.px_site.specs.Disk.{FileState, IsImage, at_rest}
use Rattle.px_site.specs.Names.{same_file, kind}
use Rattle.px_site.specs.State.{EachMoment, State, Syncs, durable, with_file}
use Rattle.px_site.proofs.Files.{same_file_is, with_file_other, with_file_same}
use Rattle.px_site.proofs.Moments.{sync_moments}
use Rattle.px_dlog.specs.Logs.{IsDlogOf, KeepsParts, LiesIn, Logs, Rests, RestsIn, Stored, SyncsLog, all_synced, is_unsynced, is_unsynced_in, log_of, to_sync, to_sync_in}
use Rattle.px_dlog.proofs.Resting.{at_rest_rests, rests_in_image}

-- a file of another kind is another file
pub other_kind : (log : ℕ) (name : FileName) → kind name ≢ 2 → same_file (Dlog log) name ≡ false
other_kind log name away = by_test (same_file (Dlog log) name) refl
  where
    by_test : (b : Bool) → same_file (Dlog log) name ≡ b → same_file (Dlog log) name ≡ false
    by_test false is = is
    by_test true is = absurd (away (sym (ap kind (same_file_is (Dlog log) name is))))

-- where one file rests with what it read as, each part that rested then rests yet
pub rests_when_durable : (file : FileName) (s : State) → ((name : FileName) → IsImage (s.now.files name) (s.content name))
    → (stored : Stored) → Rests s.now stored → Rests (durable file (s.content file) s.now) stored
rests_when_durable file s images stored rests = by_test (same_file file (log_of stored)) refl
  where
    by_test : (b : Bool) → same_file file (log_of stored) ≡ b → Rests (durable file (s.content file) s.now) stored
    by_test false is = subst (λ (f : FileState). RestsIn f stored) (sym (with_file_other file (log_of stored) (at_rest (s.content file)) s.now.files is)) rests
    by_test true is =
        let here : file ≡ log_of stored = same_file_is file (log_of stored) is in
        let lies : LiesIn (s.content (log_of stored)) stored = rests_in_image (s.now.files (log_of stored)) (s.content (log_of stored)) stored rests (images (log_of stored)) in
        subst (λ (name : FileName). RestsIn (with_file file (at_rest (s.content file)) s.now.files name) stored) here
        (subst (λ (f : FileState). RestsIn f stored) (sym (with_file_same file (at_rest (s.content file)) s.now.files))
        (at_rest_rests (s.content file) stored (subst (λ (name : FileName). LiesIn (s.content name) stored) (sym here) lies)))

pub sync_keeps : {T : Type 0} {a b : State} {r : Result T SiteError} (log : ℕ) → ((name : FileName) → IsImage (a.now.files name) (a.content name))
    → Syncs (Dlog log) a b r → EachMoment (KeepsParts a.now) a b
sync_keeps {T} {a} {b} {r} log images syncs = sync_moments syncs
    (record { rest = λ stored rests. rests; others = λ name away. refl; told = refl; telling = refl })
    (record {
      rest = λ stored rests. rests_when_durable (Dlog log) a images stored rests;
      others = λ name away. with_file_other (Dlog log) name (at_rest (a.content (Dlog log))) a.now.files (other_kind log name away);
      told = refl;
      telling = refl;
    })

-- once it was synced, a part that lies in the logs rests
one_rests : {T : Type 0} (x : T) (current : Option ℕ) (unsynced : Bool) (a b : State) → ((name : FileName) → IsImage (a.now.files name) (a.content name))
    → SyncsLog {T = T} (to_sync_in current unsynced) a b (Ok x) → (stored : Stored) → LiesIn (a.content (log_of stored)) stored
    → (is_unsynced_in current unsynced stored.part.log ≡ false → Rests a.now stored) → Rests b.now stored
one_rests x None unsynced a b images same stored lies rest = subst (λ (s : State). Rests s.now stored) (sym same) (rest refl)
one_rests x (Some n) false a b images same stored lies rest = subst (λ (s : State). Rests s.now stored) (sym same) (rest refl)
one_rests {T} x (Some n) true a b images syncs stored lies rest = subst (λ (s : State). Rests s.now stored) (sym syncs.ok) (by_test (nat_eq n stored.part.log) refl)
  where
    by_test : (same : Bool) → nat_eq n stored.part.log ≡ same → Rests (durable (Dlog n) (a.content (Dlog n)) a.now) stored
    by_test false is = rests_when_durable (Dlog n) a images stored (rest is)
    by_test true is =
        let here : n ≡ stored.part.log = grind (arith, nat_tests) in
        subst (λ (file : FileName). RestsIn (with_file (Dlog n) (at_rest (a.content (Dlog n))) a.now.files file) stored) (ap Dlog here)
        (subst (λ (f : FileState). RestsIn f stored) (sym (with_file_same (Dlog n) (at_rest (a.content (Dlog n))) a.now.files))
        (at_rest_rests (a.content (Dlog n)) stored (subst (λ (m : ℕ). LiesIn (a.content (Dlog m)) stored) (sym here) lies)))

each_rests : {T : Type 0} (x : T) (current : Option ℕ) (unsynced : Bool) (a b : State) → ((name : FileName) → IsImage (a.now.files name) (a.content name))
    → SyncsLog {T = T} (to_sync_in current unsynced) a b (Ok x) → (parts : List Stored) → AllByRecursion (λ stored. LiesIn (a.content (log_of stored)) stored) parts
    → AllByRecursion (λ stored. is_unsynced_in current unsynced stored.part.log ≡ false → Rests a.now stored) parts → AllByRecursion (Rests b.now) parts
each_rests x current unsynced a b images syncs [] lie rest = tt
each_rests {T} x current unsynced a b images syncs (stored ∷ parts) lie rest =
    (one_rests {T = T} x current unsynced a b images syncs stored lie.0 rest.0, each_rests {T = T} x current unsynced a b images syncs parts lie.1 rest.1)

pub all_rest : {T : Type 0} (x : T) (log : Option ℕ) (logs : Logs) (parts : List Stored) (a b : State) → ((name : FileName) → IsImage (a.now.files name) (a.content name))
    → log ≡ to_sync logs → SyncsLog {T = T} log a b (Ok x) → IsDlogOf logs parts a → AllByRecursion (Rests b.now) parts
all_rest {T} x log logs parts a b images there syncs is =
    each_rests {T = T} x logs.current logs.unsynced a b images (subst (λ (l : Option ℕ). SyncsLog {T = T} l a b (Ok x)) there syncs) parts is.lie is.rest

pub weaken : (P Q : Stored → Type 0) → ((stored : Stored) → P stored → Q stored) → (parts : List Stored) → AllByRecursion P parts → AllByRecursion Q parts
weaken P Q f [] all = tt
weaken P Q f (stored ∷ parts) all = (f stored all.0, weaken P Q f parts all.1)

pub still_dlog : (logs : Logs) (parts : List Stored) (a b : State) → ((name : FileName) → b.content name ≡ a.content name) → AllByRecursion (Rests b.now) parts
    → IsDlogOf logs parts a → IsDlogOf (all_synced logs) parts b
still_dlog logs parts a b contents rest is =
    record {
      lengths = λ n from. ap length (contents (Dlog n)) ∙ is.lengths n from;
      lie = weaken (λ stored. LiesIn (a.content (log_of stored)) stored) (λ stored. LiesIn (b.content (log_of stored)) stored)
          (λ stored lies. subst (λ (content : List ℕ). LiesIn content stored) (sym (contents (log_of stored))) lies) parts is.lie;
      rest = weaken (Rests b.now) (λ stored. is_unsynced (all_synced logs) stored.part.log ≡ false → Rests b.now stored) (λ stored rests none. rests) parts rest;
    }
