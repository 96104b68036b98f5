-- What a listing of the site has found of the data logs up to some number.
use Rattle.std.proofs.Common.{◌≡◌, ℕ, ◌+◌, ◌<◌, ◌≤◌, nat_eq, nat_le, Bool, true, false, cond, List, [], ◌∷◌, ◌++◌, Some, None, length, refl, sym, ap, subst, ◌∙◌, arith}
use Rattle.std.proofs.lemmas.Bool.Decides.{nat_tests}
use Rattle.std.specs.List.{AllByRecursion}
use Rattle.px_site.specs.declared.name.FileName.{FileName}
use Rattle.px_site.specs.declared.name.FileName.TheVariants.{Dlog}
use Rattle.px_site.specs.Disk.{IsImage}
use Rattle.px_site.specs.State.{State}
use Rattle.px_dlog.specs.declared.inventory.ClosedLog.{ClosedLog}
use Rattle.px_dlog.specs.Finding.{AreLogsOf, IsNextLog, with_log}
use Rattle.px_dlog.specs.Inventory.{Rise, closed_len}
use Rattle.px_dlog.specs.Logs.{IsDlogOf, LiesIn, Logs, Rests, Stored, is_unsynced, log_of}
use Rattle.px_dlog.proofs.Numbers.{closed_push, none_past, rise_push}
use Rattle.px_dlog.proofs.Resting.{rests_in_image}
use Rattle.px_dlog.proofs.Searching.{rise_to}
use Rattle.px_dlog.proofs.Syncing.{weaken}

-- ---- those before

-- the logs up to this number are found
abbrev pub IsFoundTo : (FileName → List ℕ) → List ClosedLog → ℕ → Type 0
IsFoundTo content logs last = (n : ℕ) → 1 ≤ n → n ≤ last → length (content (Dlog n)) ≡ closed_len logs n

pub none_found : (content : FileName → List ℕ) (logs : List ClosedLog) → IsFoundTo content logs 0
none_found content logs = λ n from to. absurd (omega (arith, from, to))

-- a listing that goes on to this number passes over no log
passed : (content : FileName → List ℕ) (logs : List ClosedLog) (last number n : ℕ) → Rise 1 (last + 1) logs → IsFoundTo content logs last → IsNextLog content last (Some number)
    → 1 ≤ n → n < number → length (content (Dlog n)) ≡ closed_len logs n
passed content logs last number n rise found next from below = by_test (nat_le n last) refl
  where
    by_test : (b : Bool) → nat_le n last ≡ b → length (content (Dlog n)) ≡ closed_len logs n
    by_test true earlier = let to : n ≤ last = grind (arith, nat_tests) in found n from to
    by_test false later =
        let past : last < n = grind (arith, nat_tests) in
        ap length (next n past below) ∙ sym (none_past 1 (last + 1) logs rise n (omega (arith, past)))

found_more : (content : FileName → List ℕ) (logs : List ClosedLog) (last : ℕ) (log : ClosedLog) → Rise 1 (last + 1) logs → IsFoundTo content logs last → last < log.number
    → IsNextLog content last (Some log.number) → log.len ≡ length (content (Dlog log.number)) → IsFoundTo content (logs ++ log ∷ []) log.number
found_more content logs last log rise found past next len = λ n from to. by_test n from to (nat_eq n log.number) refl
  where
    to_it : Rise 1 log.number logs
    to_it = rise_to 1 (last + 1) log.number logs (omega (arith, past)) rise

    by_test : (n : ℕ) → 1 ≤ n → n ≤ log.number → (b : Bool) → nat_eq n log.number ≡ b → length (content (Dlog n)) ≡ closed_len (logs ++ log ∷ []) n
    by_test n from to true is =
        let here : log.number ≡ n = grind (arith, nat_tests) in
        subst (λ (m : ℕ). length (content (Dlog m)) ≡ log.len) here (sym len) ∙ sym (closed_push 1 logs log to_it n ∙ ap (λ (t : Bool). cond t log.len (closed_len logs n)) is)
    by_test n from to false is =
        let below : n < log.number = grind (arith, nat_tests) in
        passed content logs last log.number n rise found next from below ∙ sym (closed_push 1 logs log to_it n ∙ ap (λ (t : Bool). cond t log.len (closed_len logs n)) is)

rise_more : (logs : List ClosedLog) (last : ℕ) (log : ClosedLog) → Rise 1 (last + 1) logs → last < log.number → 1 ≤ log.len → Rise 1 (log.number + 1) (logs ++ log ∷ [])
rise_more logs last log rise past some = rise_push 1 (log.number + 1) logs log (rise_to 1 (last + 1) log.number logs (omega (arith, past)) rise) some (omega arith)

-- a log that has no byte is none
found_none : (content : FileName → List ℕ) (logs : List ClosedLog) (last number : ℕ) → Rise 1 (last + 1) logs → IsFoundTo content logs last → last < number
    → IsNextLog content last (Some number) → length (content (Dlog number)) ≡ 0 → IsFoundTo content logs number
found_none content logs last number rise found past next len = λ n from to. by_test n from to (nat_eq n number) refl
  where
    by_test : (n : ℕ) → 1 ≤ n → n ≤ number → (b : Bool) → nat_eq n number ≡ b → length (content (Dlog n)) ≡ closed_len logs n
    by_test n from to true is =
        let here : number ≡ n = grind (arith, nat_tests) in
        subst (λ (m : ℕ). length (content (Dlog m)) ≡ 0) here len ∙ sym (none_past 1 (last + 1) logs rise n (omega (arith, past, here)))
    by_test n from to false is =
        let below : n < number = grind (arith, nat_tests) in
        passed content logs last number n rise found next from below

pub found_next : (content : FileName → List ℕ) (logs : List ClosedLog) (last : ℕ) (log : ClosedLog) → Rise 1 (last + 1) logs → IsFoundTo content logs last → last < log.number
    → IsNextLog content last (Some log.number) → log.len ≡ length (content (Dlog log.number)) → IsFoundTo content (with_log logs log) log.number
found_next content logs last log rise found past next len = by_test (nat_eq log.len 0) refl
  where
    by_test : (b : Bool) → nat_eq log.len 0 ≡ b → IsFoundTo content (cond (nat_eq log.len 0) logs (logs ++ log ∷ [])) log.number
    by_test true is =
        let none : length (content (Dlog log.number)) ≡ 0 = let zero_is : log.len ≡ 0 = grind (arith, nat_tests) in sym len ∙ zero_is in
        rw is (found_none content logs last log.number rise found past next none)
    by_test false is = rw is (found_more content logs last log rise found past next len)

pub rise_next : (logs : List ClosedLog) (last : ℕ) (log : ClosedLog) → Rise 1 (last + 1) logs → last < log.number → Rise 1 (log.number + 1) (with_log logs log)
rise_next logs last log rise past = by_test (nat_eq log.len 0) refl
  where
    by_test : (b : Bool) → nat_eq log.len 0 ≡ b → Rise 1 (log.number + 1) (cond (nat_eq log.len 0) logs (logs ++ log ∷ []))
    by_test true is = rw is (rise_to 1 (last + 1) (log.number + 1) logs (omega (arith, past)) rise)
    by_test false is =
        let some : 1 ≤ log.len = grind (arith, nat_tests) in
        rw is (rise_more logs last log rise past some)

pub all_found : (content : FileName → List ℕ) (logs : List ClosedLog) (last : ℕ) → Rise 1 (last + 1) logs → IsFoundTo content logs last → IsNextLog content last None → AreLogsOf content logs
all_found content logs last rise found next = λ n from. by_test n from (nat_le n last) refl
  where
    by_test : (n : ℕ) → 1 ≤ n → (b : Bool) → nat_le n last ≡ b → length (content (Dlog n)) ≡ closed_len logs n
    by_test n from true earlier = let to : n ≤ last = grind (arith, nat_tests) in found n from to
    by_test n from false later =
        let past : last < n = grind (arith, nat_tests) in
        ap length (next n past) ∙ sym (none_past 1 (last + 1) logs rise n (omega (arith, past)))

-- ---- their parts

pub found_dlog : (logs : Logs) (parts : List Stored) (s : State) → ((name : FileName) → IsImage (s.now.files name) (s.content name)) → ((n : ℕ) → 1 ≤ n → length (s.content (Dlog n)) ≡ logs.len n)
    → AllByRecursion (Rests s.now) parts → IsDlogOf logs parts s
found_dlog logs parts s images lengths rest = record {
  lengths = lengths;
  lie = weaken (Rests s.now) (λ stored. LiesIn (s.content (log_of stored)) stored)
      (λ stored rests. rests_in_image (s.now.files (log_of stored)) (s.content (log_of stored)) stored rests (images (log_of stored))) parts rest;
  rest = weaken (Rests s.now) (λ stored. is_unsynced logs stored.part.log ≡ false → Rests s.now stored) (λ stored rests none. rests) parts rest;
}
