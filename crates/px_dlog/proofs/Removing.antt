-- What the removal of a data log does to parts and moments.
use Rattle.std.proofs.Common.{◌≡◌, ◌≢◌, ℕ, ◌≤◌, nat_eq, Bool, true, false, cond, List, [], ◌∷◌, Result, Ok, length, refl, sym, ap, subst, ◌∙◌, arith}
use Rattle.std.proofs.lemmas.Bool.Decides.{nat_tests}
use Rattle.std.specs.List.{AllByRecursion}
use Rattle.px_site.specs.declared.error.SiteError.{SiteError}
use Rattle.px_site.specs.declared.name.FileName.{FileName}
use Rattle.px_site.specs.declared.name.FileName.TheVariants.{Dlog}
use Rattle.px_site.specs.Disk.{FileState, Removed, pending_more}
use Rattle.px_site.specs.Names.{same_file}
use Rattle.px_site.specs.State.{Changes, EachMoment, State}
use Rattle.px_site.proofs.Files.{with_file_other, with_file_same}
use Rattle.px_site.proofs.Moments.{change_moments}
use Rattle.px_dlog.specs.Logs.{IsDlogOf, IsWithout, KeepsOutside, LiesIn, Logs, Rests, RestsIn, Stored, is_unsynced, is_unsynced_in, log_of, outside}

other_log : (log n : ℕ) → n ≢ log → same_file (Dlog log) (Dlog n) ≡ false
other_log log n away = by_test (nat_eq log n) refl
  where
    by_test : (b : Bool) → nat_eq log n ≡ b → nat_eq log n ≡ false
    by_test false is = is
    by_test true is = let here : n ≡ log = grind (arith, nat_tests) in absurd (away here)

pub removal_moments : {T : Type 0} {r : Result T SiteError} (log : ℕ) (a b : State) → Changes (Dlog log) Removed a b r → EachMoment (KeepsOutside log a.now) a b
removal_moments log a b moves = change_moments moves (record {
  rest = λ stored away rests. subst (λ (f : FileState). RestsIn f stored)
      (sym (with_file_other (Dlog log) (log_of stored) (pending_more Removed (a.now.files (Dlog log))) a.now.files (other_log log stored.part.log away))) rests;
  others = λ name away. with_file_other (Dlog log) name (pending_more Removed (a.now.files (Dlog log))) a.now.files away;
  told = refl;
  telling = refl;
})

-- what holds of the parts in other logs
one_outside : (log : ℕ) (Q : Stored → Type 0) (stored : Stored) (parts : List Stored) → AllByRecursion Q (outside log parts) → (b : Bool) → nat_eq stored.part.log log ≡ b
    → (nat_eq stored.part.log log ≡ false → Q stored) → AllByRecursion Q (outside log (stored ∷ parts))
one_outside log Q stored parts rest true here this = rw here rest
one_outside log Q stored parts rest false away this = rw away (this away, rest)

weaken_outside : (log : ℕ) (P Q : Stored → Type 0) → ((stored : Stored) → nat_eq stored.part.log log ≡ false → P stored → Q stored) → (parts : List Stored)
    → AllByRecursion P parts → AllByRecursion Q (outside log parts)
weaken_outside log P Q f [] all = tt
weaken_outside log P Q f (stored ∷ parts) all =
    one_outside log Q stored parts (weaken_outside log P Q f parts all.1) (nat_eq stored.part.log log) refl (λ away. f stored away all.0)

pub removed_dlog : {T : Type 0} {x : T} (log : ℕ) (logs now : Logs) (parts : List Stored) (a b : State) → Changes {T = T} (Dlog log) Removed a b (Ok x) → IsWithout log logs now
    → IsDlogOf logs parts a → IsDlogOf now (outside log parts) b
removed_dlog log logs now parts a b moves without is = record {
  lengths = λ n from. each_length n from (nat_eq n log) refl;
  lie = weaken_outside log (λ stored. LiesIn (a.content (log_of stored)) stored) (λ stored. LiesIn (b.content (log_of stored)) stored)
      (λ stored off lies. subst (λ (content : List ℕ). LiesIn content stored) (sym (content_away (log_of stored) (turned stored.part.log off))) lies) parts is.lie;
  rest = weaken_outside log (λ stored. is_unsynced logs stored.part.log ≡ false → Rests a.now stored) (λ stored. is_unsynced now stored.part.log ≡ false → Rests b.now stored)
      (λ stored off rest none. subst (λ (f : FileState). RestsIn f stored) (sym (files_away (log_of stored) (turned stored.part.log off)))
      (rest (sym (unsynced_is stored.part.log) ∙ none))) parts is.rest;
}
  where
    turned : (n : ℕ) → nat_eq n log ≡ false → nat_eq log n ≡ false
    turned n off = grind (arith, nat_tests)

    content_away : (name : FileName) → same_file (Dlog log) name ≡ false → b.content name ≡ a.content name
    content_away name off = ap (λ (s : State). s.content name) moves.ok ∙ with_file_other (Dlog log) name [] a.content off

    files_away : (name : FileName) → same_file (Dlog log) name ≡ false → b.now.files name ≡ a.now.files name
    files_away name off =
        ap (λ (s : State). s.now.files name) moves.ok ∙ with_file_other (Dlog log) name (pending_more Removed (a.now.files (Dlog log))) a.now.files off

    here : b.content (Dlog log) ≡ []
    here = ap (λ (s : State). s.content (Dlog log)) moves.ok ∙ with_file_same (Dlog log) [] a.content

    each_length : (n : ℕ) → 1 ≤ n → (t : Bool) → nat_eq n log ≡ t → length (b.content (Dlog n)) ≡ now.len n
    each_length n from true same =
        let equal : log ≡ n = grind (arith, nat_tests) in
        subst (λ (m : ℕ). length (b.content (Dlog m)) ≡ 0) equal (ap length here) ∙ sym (without.len n ∙ ap (λ (t : Bool). cond t 0 (logs.len n)) same)
    each_length n from false off =
        ap length (content_away (Dlog n) (turned n off)) ∙ is.lengths n from ∙ sym (without.len n ∙ ap (λ (t : Bool). cond t 0 (logs.len n)) off)

    unsynced_is : (n : ℕ) → is_unsynced now n ≡ is_unsynced logs n
    unsynced_is n = ap (λ c. is_unsynced_in c now.unsynced n) without.current ∙ ap (λ (u : Bool). is_unsynced_in logs.current u n) without.unsynced
