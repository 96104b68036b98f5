-- Closed logs before a number and behind it, and what a search by them finds.
use Rattle.std.proofs.Common.{◌≡◌, ℕ, zero, suc, ◌+◌, ◌-◌, ◌<◌, ◌≤◌, nat_eq, nat_le, nat_lt, max, Bool, true, false, cond, Bor, List, [], ◌∷◌, ◌++◌, Option, Some, None, length, take, drop, get_or, ltb, ltb-false, ltb-true, refl, sym, ap, subst, ◌∙◌, arith}
use Rattle.std.proofs.lemmas.Bool.Decides.{nat_tests}
use Rattle.std.proofs.lemmas.List.{drop-drop, get_or-drop, get_or-take, length-drop, length-take, take-append-drop}
use Rattle.std.proofs.lemmas.List.Elements.{recursion_from_All}
use Rattle.std.specs.List.Sorted.{IsPartitionPoint}
use Rattle.std.specs.Bool.{⊤}
use Rattle.std.specs.Option.{IfNone, IfSome, option_copied}
use Rattle.std.specs.Slice.{IsItemAt}
use Rattle.std.proofs.lemmas.Option.{slice_get_past, slice_get_read}
use Rattle.std.specs.List.{AllByRecursion, slice_get}
use Rattle.px_dlog.specs.declared.inventory.ClosedLog.{ClosedLog}
use Rattle.px_dlog.specs.declared.inventory.CurrentLog.{CurrentLog}
use Rattle.px_dlog.specs.Inventory.{AreInOrder, HasNoneFrom, IsFirstFrom, Rise, closed_len, len_in, logs_of}
use Rattle.px_dlog.specs.Logs.{IsClosed, IsLogPast, IsPast, IsWithout}
use Rattle.px_dlog.proofs.Numbers.{none_past, other_below, other_number, rise_le, same_number}

-- below the first number there is none
pub none_below : (from to : ℕ) (logs : List ClosedLog) → Rise from to logs → (n : ℕ) → n < from → closed_len logs n ≡ 0
none_below from to [] rise n below = refl
none_below from to (log ∷ logs) rise n below =
    ap (λ (b : Bool). cond b log.len (closed_len logs n)) (other_below n log.number (omega (arith, rise.0)))
    ∙ none_below (log.number + 1) to logs rise.2 n (omega (arith, rise.0))

-- those before a number don't have it
pub skip : (xs ys : List ClosedLog) (number n : ℕ) → AllByRecursion (λ log. log.number < number) xs → number ≤ n → closed_len (xs ++ ys) n ≡ closed_len ys n
skip [] ys number n before from = refl
skip (log ∷ xs) ys number n before from =
    ap (λ (b : Bool). cond b log.len (closed_len (xs ++ ys) n)) (other_number n log.number (omega (arith, before.0, from))) ∙ skip xs ys number n before.1 from

-- behind others logs rise too
pub rise_behind : (from to : ℕ) (xs ys : List ClosedLog) → Rise from to (xs ++ ys) → (mid : ℕ) × (from ≤ mid) × Rise mid to ys
rise_behind from to [] ys rise = (from, omega arith, rise)
rise_behind from to (log ∷ xs) ys rise =
    let behind = rise_behind (log.number + 1) to xs ys rise.2 in
    (behind.0, omega (arith, rise.0, behind.1), behind.2)

rise_from : (from later to : ℕ) (logs : List ClosedLog) → from ≤ later → Rise later to logs → Rise from to logs
rise_from from later to [] le rise = omega (arith, rise)
rise_from from later to (log ∷ logs) le rise = (omega (arith, rise.0), rise.1, rise.2)

-- ---- one of them gone

pub rise_without : (from to : ℕ) (xs : List ClosedLog) (log : ClosedLog) (ys : List ClosedLog) → Rise from to (xs ++ log ∷ ys) → Rise from to (xs ++ ys)
rise_without from to [] log ys rise = rise_from from (log.number + 1) to ys (omega (arith, rise.0)) rise.2
rise_without from to (first ∷ xs) log ys rise = (rise.0, rise.1, rise_without (first.number + 1) to xs log ys rise.2)

gone_first : (to : ℕ) (log : ClosedLog) (ys : List ClosedLog) → Rise (log.number + 1) to ys → (n : ℕ) (b : Bool) → nat_eq n log.number ≡ b
    → closed_len ys n ≡ cond (nat_eq n log.number) 0 (cond (nat_eq n log.number) log.len (closed_len ys n))
gone_first to log ys rise n true is =
    let here : n ≡ log.number = grind (arith, nat_tests) in
    rw is (none_below (log.number + 1) to ys rise n (omega (arith, here)))
gone_first to log ys rise n false is = rw is refl

gone_behind : (first log : ClosedLog) (with_it without : List ClosedLog) (n : ℕ) → first.number < log.number → (b : Bool) → nat_eq n first.number ≡ b
    → closed_len without n ≡ cond (nat_eq n log.number) 0 (closed_len with_it n)
    → cond (nat_eq n first.number) first.len (closed_len without n) ≡ cond (nat_eq n log.number) 0 (cond (nat_eq n first.number) first.len (closed_len with_it n))
gone_behind first log with_it without n below true is rest =
    let here : n ≡ first.number = grind (arith, nat_tests) in
    let away : nat_eq n log.number ≡ false = other_below n log.number (omega arith) in
    rw (is, away) refl
gone_behind first log with_it without n below false is rest = rw is rest

pub len_without : (from to : ℕ) (xs : List ClosedLog) (log : ClosedLog) (ys : List ClosedLog) → Rise from to (xs ++ log ∷ ys) → (n : ℕ)
    → closed_len (xs ++ ys) n ≡ cond (nat_eq n log.number) 0 (closed_len (xs ++ log ∷ ys) n)
len_without from to [] log ys rise n = gone_first to log ys rise.2 n (nat_eq n log.number) refl
len_without from to (first ∷ xs) log ys rise n =
    let behind = rise_behind (first.number + 1) to xs (log ∷ ys) rise.2 in
    gone_behind first log (xs ++ log ∷ ys) (xs ++ ys) n (omega (arith, behind.1, behind.2.0)) (nat_eq n first.number) refl (len_without (first.number + 1) to xs log ys rise.2 n)

-- ---- the place of a number among them

-- so many come before the number
pub record IsCount (logs : List ClosedLog) (number at : ℕ) : Type 0 where
  pub before : AllByRecursion (λ log. log.number < number) (take at logs)
  pub not_before : AllByRecursion (λ log. number ≤ log.number) (drop at logs)

-- what stands behind a number of logs
pub got : (logs : List ClosedLog) (at : ℕ) (log : ClosedLog) → slice_get logs at ≡ Some log → (ys : List ClosedLog) × (drop at logs ≡ log ∷ ys)
got [] at log is = absurd (cc)
got (first ∷ logs) zero log is = let same : first ≡ log = cc in (logs, ap (λ (l : ClosedLog). l ∷ logs) same)
got (first ∷ logs) (suc at) log is = got logs at log is

pub got_none : (logs : List ClosedLog) (at : ℕ) → slice_get logs at ≡ None → drop at logs ≡ []
got_none [] zero is = refl
got_none [] (suc at) is = refl
got_none (first ∷ logs) zero is = absurd (cc)
got_none (first ∷ logs) (suc at) is = got_none logs at is

-- and what is read there
pub got_item : (logs : List ClosedLog) (at : ℕ) (r : Option (Bor ClosedLog)) → IsItemAt logs at r → option_copied r ≡ slice_get logs at
got_item logs at None item = sym (slice_get_past logs at item.3)
got_item logs at (Some x) item = sym (slice_get_read logs (length logs) at x.now refl item.3.0 item.1)

-- the number of a log from there on
pub len_from : (logs : List ClosedLog) (number at n : ℕ) → IsCount logs number at → number ≤ n → closed_len logs n ≡ closed_len (drop at logs) n
len_from logs number at n count from =
    ap (λ (l : List ClosedLog). closed_len l n) (sym (take-append-drop at logs)) ∙ skip (take at logs) (drop at logs) number n count.before from

-- what stands there rises
pub rise_there : (from to : ℕ) (logs : List ClosedLog) (at : ℕ) (log : ClosedLog) (ys : List ClosedLog) → Rise from to logs → drop at logs ≡ log ∷ ys → (1 ≤ log.len) × Rise (log.number + 1) to ys
rise_there from to logs at log ys rise is =
    let whole : Rise from to (take at logs ++ drop at logs) = subst (Rise from to) (sym (take-append-drop at logs)) rise in
    let behind = rise_behind from to (take at logs) (drop at logs) whole in
    let split : Rise behind.0 to (log ∷ ys) = subst (Rise behind.0 to) is behind.2 in
    (split.1, split.2)

-- numbers rise along them
rise_first : (from to : ℕ) (logs : List ClosedLog) → Rise from to logs → (j : ℕ) (d : ClosedLog) → j < length logs → from ≤ (get_or logs j d).number
rise_first from to [] rise j d within = absurd (omega (arith, within))
rise_first from to (log ∷ logs) rise zero d within = rise.0
rise_first from to (log ∷ logs) rise (suc j) d within = omega (arith, rise.0, rise_first (log.number + 1) to logs rise.2 j d (omega (arith, within)))

pub rise_sorted : (from to : ℕ) (logs : List ClosedLog) → Rise from to logs → (i j : ℕ) (d : ClosedLog) → i ≤ j → j < length logs → (get_or logs i d).number ≤ (get_or logs j d).number
rise_sorted from to [] rise i j d le within = absurd (omega (arith, within))
rise_sorted from to (log ∷ logs) rise zero zero d le within = omega arith
rise_sorted from to (log ∷ logs) rise zero (suc j) d le within = omega (arith, rise_first (log.number + 1) to logs rise.2 j d (omega (arith, within)))
rise_sorted from to (log ∷ logs) rise (suc i) zero d le within = absurd (omega (arith, le))
rise_sorted from to (log ∷ logs) rise (suc i) (suc j) d le within = rise_sorted (log.number + 1) to logs rise.2 i j d (omega (arith, le)) (omega (arith, within))

pub closed_rise : (closed : List ClosedLog) (current : Option CurrentLog) (next : ℕ) → AreInOrder closed current next → (to : ℕ) × Rise 1 to closed
closed_rise closed None next order = (next, order)
closed_rise closed (Some log) next order = (log.number, order.0)

-- what a search by halves says
pub before_point : (logs : List ClosedLog) (number at : ℕ) → IsPartitionPoint (λ (log : ClosedLog). ltb log.number number ≡ true) (λ (log : ClosedLog). ltb log.number number ≡ false) logs at
    → AllByRecursion (λ log. log.number < number) (take at logs)
before_point logs number at point = recursion_from_All (λ (log : ClosedLog). log.number < number) (take at logs) (λ k d within.
    let inside : k < at = omega (arith, within, length-take at logs) in
    subst (λ (log : ClosedLog). log.number < number) (sym (get_or-take at logs k d inside)) (ltb-true (get_or logs k d).number number (point.0 k d (omega arith) inside)))

pub behind_point : (logs : List ClosedLog) (number at : ℕ) → IsPartitionPoint (λ (log : ClosedLog). ltb log.number number ≡ true) (λ (log : ClosedLog). ltb log.number number ≡ false) logs at
    → AllByRecursion (λ log. number ≤ log.number) (drop at logs)
behind_point logs number at point = recursion_from_All (λ (log : ClosedLog). number ≤ log.number) (drop at logs) (λ k d within.
    let inside : at + k < length logs = omega (arith, within, length-drop at logs) in
    subst (λ (log : ClosedLog). number ≤ log.number) (sym (get_or-drop at logs k d)) (ltb-false (get_or logs (at + k) d).number number (point.1 (at + k) d (omega arith) inside)))

-- ---- among all logs

-- up to the current one the closed logs are all
pub record IsBound (closed : List ClosedLog) (current : Option CurrentLog) (next to : ℕ) : Type 0 where
  pub rise : Rise 1 to closed
  pub below : (n : ℕ) → n < to → len_in closed current n ≡ closed_len closed n
  pub within : to ≤ next

pub bound : (closed : List ClosedLog) (current : Option CurrentLog) (next : ℕ) → AreInOrder closed current next → (to : ℕ) × IsBound closed current next to
bound closed None next order = (next, record { rise = order; below = λ n lt. refl; within = omega arith })
bound closed (Some log) next order =
    (log.number, record { rise = order.0; below = λ n lt. ap (λ (b : Bool). cond b log.len (closed_len closed n)) (other_below n log.number lt); within = omega (arith, order.2) })

-- the first closed log from a number on, as a search finds it
pub first_from : (closed : List ClosedLog) (current : Option CurrentLog) (next number at : ℕ) (r : Option ClosedLog) → AreInOrder closed current next → IsCount closed number at
    → r ≡ slice_get closed at → IfSome r (IsFirstFrom number closed)
first_from closed current next number at None order count is = tt
first_from closed current next number at (Some log) order count is =
    let b = bound closed current next order in
    let split = got closed at log (sym is) in
    let there = rise_there 1 b.0 closed at log split.0 b.1.rise split.1 in
    let not_before = subst (AllByRecursion (λ (l : ClosedLog). number ≤ l.number)) split.1 count.not_before in
    record {
      from = not_before.0;
      there = len_from closed number at log.number count not_before.0 ∙ ap (λ (l : List ClosedLog). closed_len l log.number) split.1
          ∙ ap (λ (t : Bool). cond t log.len (closed_len split.0 log.number)) (same_number log.number);
      some = there.0;
      none_before = λ n from below.
          len_from closed number at n count from ∙ ap (λ (l : List ClosedLog). closed_len l n) split.1 ∙ none_below log.number b.0 (log ∷ split.0) (omega arith, there.0, there.1) n below;
    }

pub none_from : (closed : List ClosedLog) (number at : ℕ) (r : Option ClosedLog) → IsCount closed number at → r ≡ slice_get closed at → IfNone r (HasNoneFrom number closed)
none_from closed number at None count is = λ n from. len_from closed number at n count from ∙ ap (λ (l : List ClosedLog). closed_len l n) (got_none closed at (sym is))
none_from closed number at (Some log) count is = tt

-- a closed log stands before the current one
closed_below : (closed : List ClosedLog) (current : Option CurrentLog) (next to : ℕ) (n : ℕ) → IsBound closed current next to → 1 ≤ closed_len closed n → n < to
closed_below closed current next to n b some = by_test (nat_lt n to) refl
  where
    by_test : (t : Bool) → nat_lt n to ≡ t → n < to
    by_test true is = grind (arith, nat_tests)
    by_test false is =
        let past : to ≤ n = grind (arith, nat_tests) in
        absurd (omega (arith, some, none_past 1 to closed b.rise n past))

-- ---- the next log

pub next_is_closed : (closed : List ClosedLog) (current : Option CurrentLog) (next after : ℕ) (log : ClosedLog) → AreInOrder closed current next → IsFirstFrom (after + 1) closed log
    → IsLogPast after (logs_of record { closed = closed; current = current; next = next }) log.number
next_is_closed closed current next after log order first =
    let b = bound closed current next order in
    let below : log.number < b.0 = closed_below closed current next b.0 log.number b.1 (omega (arith, first.there, first.some)) in
    record {
      past = omega (arith, first.from);
      there = omega (arith, b.1.below log.number below, first.there, first.some);
      least = λ m past before. b.1.below m (omega (arith, below, before)) ∙ first.none_before m (omega (arith, past)) before;
    }

-- ---- a closed log removed

-- the current log has another number
abbrev pub IsOther : Option CurrentLog → ℕ → Type 0
IsOther None number = ⊤
IsOther (Some log) number = nat_eq number log.number ≡ false

other_len : (closed : List ClosedLog) (current : Option CurrentLog) (number : ℕ) → IsOther current number → len_in closed current number ≡ closed_len closed number
other_len closed None number other = refl
other_len closed (Some log) number other = ap (λ (t : Bool). cond t log.len (closed_len closed number)) other

-- where a closed log stands
pub record StandsAt (closed : List ClosedLog) (number at : ℕ) : Type 0 where
  pub log : ClosedLog
  pub ys : List ClosedLog
  pub there : drop at closed ≡ log ∷ ys
  pub number_is : log.number ≡ number
  pub within : at < length closed

pub not_current : (closed : List ClosedLog) (current : Option CurrentLog) (next number : ℕ) → IsClosed (logs_of record { closed = closed; current = current; next = next }) number → IsOther current number
not_current closed None next number is = tt
not_current closed (Some log) next number is = by_test (nat_eq number log.number) refl
  where
    by_test : (b : Bool) → nat_eq number log.number ≡ b → nat_eq number log.number ≡ false
    by_test false away = away
    by_test true here = let same : log.number ≡ number = grind (arith, nat_tests) in absurd (is.other (ap Some same))

there_or_not : (closed : List ClosedLog) (current : Option CurrentLog) (next number at : ℕ) (log : ClosedLog) (ys : List ClosedLog) → AreInOrder closed current next → IsCount closed number at
    → drop at closed ≡ log ∷ ys → 1 ≤ closed_len closed number → (b : Bool) → nat_eq log.number number ≡ b → StandsAt closed number at
there_or_not closed current next number at log ys order count here some true equal =
    let same : log.number ≡ number = grind (arith, nat_tests) in
    record { log = log; ys = ys; there = here; number_is = same; within = omega (arith, ap length here, length-drop at closed) }
there_or_not closed current next number at log ys order count here some false away =
    let b = bound closed current next order in
    let there = rise_there 1 b.0 closed at log ys b.1.rise here in
    let not_before = subst (AllByRecursion (λ (l : ClosedLog). number ≤ l.number)) here count.not_before in
    let first : number ≤ log.number = not_before.0 in
    let below : number < log.number = grind (arith, nat_tests) in
    absurd (omega (
      arith,
      some,
      len_from closed number at number count (omega arith) ∙ ap (λ (l : List ClosedLog). closed_len l number) here
          ∙ none_below log.number b.0 (log ∷ ys) (omega arith, there.0, there.1) number below,
    ))

pub stands : (closed : List ClosedLog) (current : Option CurrentLog) (next number at : ℕ) → AreInOrder closed current next
    → IsClosed (logs_of record { closed = closed; current = current; next = next }) number → IsCount closed number at → StandsAt closed number at
stands closed current next number at order is count = by_list (drop at closed) refl
  where
    some : 1 ≤ closed_len closed number
    some = omega (arith, is.there, other_len closed current number (not_current closed current next number is))

    by_list : (l : List ClosedLog) → drop at closed ≡ l → StandsAt closed number at
    by_list [] none = absurd (omega (arith, some, len_from closed number at number count (omega arith) ∙ ap (λ (l : List ClosedLog). closed_len l number) none))
    by_list (log ∷ ys) here = there_or_not closed current next number at log ys order count here some (nat_eq log.number number) refl

gone : (closed without : List ClosedLog) (current : Option CurrentLog) (number n : ℕ) → IsOther current number → closed_len without n ≡ cond (nat_eq n number) 0 (closed_len closed n)
    → len_in without current n ≡ cond (nat_eq n number) 0 (len_in closed current n)
gone closed without None number n other is = is
gone closed without (Some log) number n other is = by_test (nat_eq n log.number) refl
  where
    by_test : (b : Bool) → nat_eq n log.number ≡ b → cond (nat_eq n log.number) log.len (closed_len without n) ≡ cond (nat_eq n number) 0 (cond (nat_eq n log.number) log.len (closed_len closed n))
    by_test true here =
        let away : nat_eq n number ≡ false = grind (arith, nat_tests) in
        rw (here, away) refl
    by_test false away = rw away is

order_without : (xs : List ClosedLog) (log : ClosedLog) (ys : List ClosedLog) (current : Option CurrentLog) (next : ℕ) → AreInOrder (xs ++ log ∷ ys) current next → AreInOrder (xs ++ ys) current next
order_without xs log ys None next order = rise_without 1 next xs log ys order
order_without xs log ys (Some c) next order = (rise_without 1 c.number xs log ys order.0, order.1, order.2)

-- what is kept of the logs after it
pub record IsRemoved (closed : List ClosedLog) (current : Option CurrentLog) (next number : ℕ) (now : List ClosedLog) : Type 0 where
  pub logs : IsWithout number (logs_of record { closed = closed; current = current; next = next }) (logs_of record { closed = now; current = current; next = next })
  pub order : AreInOrder now current next

pub removes : (closed : List ClosedLog) (current : Option CurrentLog) (next number at : ℕ) (now : List ClosedLog) → AreInOrder closed current next
    → IsClosed (logs_of record { closed = closed; current = current; next = next }) number → IsCount closed number at → now ≡ take at closed ++ drop (at + 1) closed
    → IsRemoved closed current next number now
removes closed current next number at now order is count edited =
    let s = stands closed current next number at order is count in
    let behind : drop (at + 1) closed ≡ s.ys = sym (drop-drop 1 at closed) ∙ ap (drop 1) s.there in
    let left : now ≡ take at closed ++ s.ys = edited ∙ ap (λ (l : List ClosedLog). take at closed ++ l) behind in
    let whole : closed ≡ take at closed ++ s.log ∷ s.ys = sym (take-append-drop at closed) ∙ ap (λ (l : List ClosedLog). take at closed ++ l) s.there in
    let b = bound closed current next order in
    let rise = subst (Rise 1 b.0) whole b.1.rise in
    let other = not_current closed current next number is in
    record {
      logs = record {
        len = λ n. gone closed now current number n other
            (ap (λ (l : List ClosedLog). closed_len l n) left ∙ len_without 1 b.0 (take at closed) s.log s.ys rise n
            ∙ ap (λ (l : List ClosedLog). cond (nat_eq n s.log.number) 0 (closed_len l n)) (sym whole) ∙ ap (λ (m : ℕ). cond (nat_eq n m) 0 (closed_len closed n)) s.number_is);
        current = refl;
        unsynced = refl;
        next = refl;
      };
      order = subst (λ (l : List ClosedLog). AreInOrder l current next) (sym left)
          (order_without (take at closed) s.log s.ys current next (subst (λ (l : List ClosedLog). AreInOrder l current next) whole order));
    }

-- ---- logs that were found

pub rise_to : (from to further : ℕ) (logs : List ClosedLog) → to ≤ further → Rise from to logs → Rise from further logs
rise_to from to further [] le rise = omega (arith, rise)
rise_to from to further (log ∷ logs) le rise = (rise.0, rise.1, rise_to (log.number + 1) to further logs le rise.2)

-- they end with the last one
pub rise_to_last : (from to : ℕ) (logs : List ClosedLog) (log : ClosedLog) → Rise from to logs → slice_get logs (length logs - 1) ≡ Some log
    → Rise from (log.number + 1) logs × (1 ≤ closed_len logs log.number)
rise_to_last from to [] log rise is = absurd (cc)
rise_to_last from to (first ∷ []) log rise is =
    let same : first ≡ log = cc in
    subst (λ (l : ClosedLog). Rise from (l.number + 1) (first ∷ []) × (1 ≤ closed_len (first ∷ []) l.number)) same
    ((rise.0, rise.1, omega arith), omega (arith, rise.1, ap (λ (t : Bool). cond t first.len 0) (same_number first.number)))
rise_to_last from to (first ∷ second ∷ logs) log rise is =
    let index : length (first ∷ second ∷ logs) - 1 ≡ suc (length (second ∷ logs) - 1) = omega arith in
    let there : slice_get (second ∷ logs) (length (second ∷ logs) - 1) ≡ Some log = sym (ap (slice_get (first ∷ second ∷ logs)) index) ∙ is in
    let rest = rise_to_last (first.number + 1) to (second ∷ logs) log rise.2 there in
    let last : first.number + 1 ≤ log.number = omega (arith, rest.0.0, rise_le (second.number + 1) (log.number + 1) logs rest.0.2, rest.1) in
    ((rise.0, rise.1, rest.0), omega (arith, rest.1, ap (λ (t : Bool). cond t first.len (closed_len (second ∷ logs) log.number)) (other_number log.number first.number (omega arith))))

pub no_last : (logs : List ClosedLog) → slice_get logs (length logs - 1) ≡ None → logs ≡ []
no_last [] is = refl
no_last (log ∷ []) is = absurd (cc)
no_last (first ∷ second ∷ logs) is =
    let index : length (first ∷ second ∷ logs) - 1 ≡ suc (length (second ∷ logs) - 1) = omega arith in
    let none : second ∷ logs ≡ [] = no_last (second ∷ logs) (sym (ap (slice_get (first ∷ second ∷ logs)) index) ∙ is) in
    absurd (cc)

pub past_last : (closed : List ClosedLog) (named next to : ℕ) (log : ClosedLog) → Rise 1 to closed → slice_get closed (length closed - 1) ≡ Some log → next ≡ max log.number named + 1
    → IsPast named (logs_of record { closed = closed; current = None; next = next })
past_last closed named next to log rise is next_is = record {
  named_below = omega (arith, next_is);
  logs_below = λ n past. none_past 1 (log.number + 1) closed last.0 n (omega (arith, next_is, past));
  least = λ n past none. by_test n past none (nat_le n log.number) refl;
}
  where
    last : Rise 1 (log.number + 1) closed × (1 ≤ closed_len closed log.number)
    last = rise_to_last 1 to closed log rise is

    by_test : (n : ℕ) → named < n → ((m : ℕ) → n ≤ m → closed_len closed m ≡ 0) → (b : Bool) → nat_le n log.number ≡ b → next ≤ n
    by_test n past none true at_most = let le : n ≤ log.number = grind (arith, nat_tests) in absurd (omega (arith, none log.number le, last.1))
    by_test n past none false more = let lt : log.number < n = grind (arith, nat_tests) in omega (arith, next_is, lt, past)

pub past_none : (closed : List ClosedLog) (named next : ℕ) → closed ≡ [] → next ≡ named + 1 → IsPast named (logs_of record { closed = closed; current = None; next = next })
past_none closed named next none next_is = record {
  named_below = omega (arith, next_is);
  logs_below = λ n past. ap (λ (l : List ClosedLog). closed_len l n) none;
  least = λ n past free. omega (arith, next_is, past);
}

-- the number of the last log; 0 where there is none
abbrev pub last_number : Option ClosedLog → ℕ
last_number None = 0
last_number (Some log) = log.number

pub past_found : (closed : List ClosedLog) (named next to : ℕ) (r : Option ClosedLog) → Rise 1 to closed → r ≡ slice_get closed (length closed - 1) → next ≡ max (last_number r) named + 1
    → IsPast named (logs_of record { closed = closed; current = None; next = next })
past_found closed named next to None rise is next_is = past_none closed named next (no_last closed (sym is)) (omega (arith, next_is))
past_found closed named next to (Some log) rise is next_is = past_last closed named next to log rise (sym is) next_is

pub order_found : (closed : List ClosedLog) (named next to : ℕ) (r : Option ClosedLog) → Rise 1 to closed → r ≡ slice_get closed (length closed - 1) → next ≡ max (last_number r) named + 1 → Rise 1 next closed
order_found closed named next to None rise is next_is = subst (Rise 1 next) (sym (no_last closed (sym is))) (omega (arith, next_is))
order_found closed named next to (Some log) rise is next_is =
    rise_to 1 (log.number + 1) next closed (omega (arith, next_is)) (rise_to_last 1 to closed log rise (sym is)).0
