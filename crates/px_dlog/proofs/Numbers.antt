-- Logs in the order of their numbers.
use Rattle.std.proofs.Common.{◌≡◌, ℕ, ◌+◌, ◌<◌, ◌≤◌, nat_eq, nat_lt, Bool, true, false, cond, max, List, [], ◌∷◌, ◌++◌, Option, Some, None, refl, sym, ap, subst, ◌∙◌, arith}
use Rattle.std.proofs.lemmas.Bool.Decides.{nat_tests}
use Rattle.px_dlog.specs.declared.inventory.ClosedLog.{ClosedLog}
use Rattle.px_dlog.specs.declared.inventory.CurrentLog.{CurrentLog}
use Rattle.px_dlog.specs.declared.inventory.TheConstants.{LOG_SIZE}
use Rattle.px_dlog.specs.Inventory.{Rise, AreInOrder, closed_len, len_in, logs_of}
use Rattle.px_dlog.specs.Logs.{IsGrown, Logs, part_log}

pub rise_le : (from to : ℕ) (logs : List ClosedLog) → Rise from to logs → from ≤ to
rise_le from to [] rise = rise
rise_le from to (log ∷ logs) rise = omega (arith, rise.0, rise_le (log.number + 1) to logs rise.2)

pub other_number : (n m : ℕ) → m < n → nat_eq n m ≡ false
other_number n m lt = grind (arith, nat_tests)

pub other_below : (n m : ℕ) → n < m → nat_eq n m ≡ false
other_below n m lt = grind (arith, nat_tests)

-- past the last number there is none
pub none_past : (from to : ℕ) (logs : List ClosedLog) → Rise from to logs → (n : ℕ) → to ≤ n → closed_len logs n ≡ 0
none_past from to [] rise n past = refl
none_past from to (log ∷ logs) rise n past =
    let below : log.number + 1 ≤ to = rise_le (log.number + 1) to logs rise.2 in
    ap (λ (b : Bool). cond b log.len (closed_len logs n)) (other_number n log.number (omega arith)) ∙ none_past (log.number + 1) to logs rise.2 n past

pub none_at_next : (closed : List ClosedLog) (current : Option CurrentLog) (next : ℕ) → AreInOrder closed current next → (n : ℕ) → next ≤ n → len_in closed current n ≡ 0
none_at_next closed None next order n past = none_past 1 next closed order n past
none_at_next closed (Some log) next order n past =
    let below : log.number < next = order.2 in
    ap (λ (b : Bool). cond b log.len (closed_len closed n)) (other_number n log.number (omega arith)) ∙ none_past 1 log.number closed order.0 n (omega arith)

pub from_one : (closed : List ClosedLog) (current : Option CurrentLog) (next : ℕ) → AreInOrder closed current next → 1 ≤ next
from_one closed None next order = rise_le 1 next closed order
from_one closed (Some log) next order = omega (arith, rise_le 1 log.number closed order.0, order.2)

pub current_from_one : (closed : List ClosedLog) (current : Option CurrentLog) (next : ℕ) (log : CurrentLog) → AreInOrder closed current next → current ≡ Some log → (1 ≤ log.number) × (1 ≤ log.len)
current_from_one closed None next log order is = absurd (cc)
current_from_one closed (Some other) next log order is =
    let same : other ≡ log = cc in
    let number : other.number ≡ log.number = ap (λ (l : CurrentLog). l.number) same in
    let len : other.len ≡ log.len = ap (λ (l : CurrentLog). l.len) same in
    (omega (arith, rise_le 1 other.number closed order.0), omega (arith, order.1))

pub same_number : (n : ℕ) → nat_eq n n ≡ true
same_number n = grind (arith, nat_tests)

-- the length of the current log
pub len_of_current : (closed : List ClosedLog) (current : Option CurrentLog) (log : CurrentLog) → current ≡ Some log → len_in closed current log.number ≡ log.len
len_of_current closed None log is = absurd (cc)
len_of_current closed (Some other) log is =
    let same : other ≡ log = cc in
    let number : other.number ≡ log.number = ap (λ (l : CurrentLog). l.number) same in
    ap (λ (n : ℕ). cond (nat_eq log.number n) other.len (closed_len closed log.number)) number
    ∙ ap (λ (b : Bool). cond b other.len (closed_len closed log.number)) (same_number log.number) ∙ ap (λ (l : CurrentLog). l.len) same

-- it takes the next part while it is short
pub goes_on : (closed : List ClosedLog) (current : Option CurrentLog) (next : ℕ) (log : CurrentLog) → current ≡ Some log → log.len < LOG_SIZE
    → part_log (logs_of record { closed = closed; current = current; next = next }) ≡ log.number
goes_on closed None next log is short = absurd (cc)
goes_on closed (Some other) next log is short =
    let same : other ≡ log = cc in
    let number : other.number ≡ log.number = ap (λ (l : CurrentLog). l.number) same in
    let len : other.len ≡ log.len = ap (λ (l : CurrentLog). l.len) same in
    let whole : len_in closed (Some other) other.number ≡ other.len = len_of_current closed (Some other) other refl in
    let less : nat_lt (len_in closed (Some other) other.number) LOG_SIZE ≡ true = grind (arith, nat_tests) in
    ap (λ (b : Bool). cond b other.number next) less ∙ number

-- and a full one doesn't
pub starts_new : (closed : List ClosedLog) (log : CurrentLog) (next : ℕ) → LOG_SIZE ≤ log.len
    → part_log (logs_of record { closed = closed; current = Some log; next = next }) ≡ next
starts_new closed log next full =
    let whole : len_in closed (Some log) log.number ≡ log.len = len_of_current closed (Some log) log refl in
    let more : nat_lt (len_in closed (Some log) log.number) LOG_SIZE ≡ false = grind (arith, nat_tests) in
    ap (λ (b : Bool). cond b log.number next) more

-- ---- a log closed, and one grown

pushed_behind : (first : ClosedLog) (logs : List ClosedLog) (log : ClosedLog) (n : ℕ) → first.number < log.number → (b : Bool) → nat_eq n first.number ≡ b
    → closed_len (logs ++ log ∷ []) n ≡ cond (nat_eq n log.number) log.len (closed_len logs n)
    → cond (nat_eq n first.number) first.len (closed_len (logs ++ log ∷ []) n) ≡ cond (nat_eq n log.number) log.len (cond (nat_eq n first.number) first.len (closed_len logs n))
pushed_behind first logs log n below true is more =
    let here : n ≡ first.number = grind (arith, nat_tests) in
    let away : nat_eq n log.number ≡ false = other_below n log.number (omega arith) in
    rw (is, away) refl
pushed_behind first logs log n below false is more = rw is more

-- one more behind them
pub closed_push : (from : ℕ) (logs : List ClosedLog) (log : ClosedLog) → Rise from log.number logs → (n : ℕ)
    → closed_len (logs ++ log ∷ []) n ≡ cond (nat_eq n log.number) log.len (closed_len logs n)
closed_push from [] log rise n = refl
closed_push from (first ∷ logs) log rise n = pushed_behind first logs log n (omega (arith, rise_le (first.number + 1) log.number logs rise.2)) (nat_eq n first.number) refl (closed_push (first.number + 1) logs log rise.2 n)

pub rise_push : (from to : ℕ) (logs : List ClosedLog) (log : ClosedLog) → Rise from log.number logs → 1 ≤ log.len → log.number < to → Rise from to (logs ++ log ∷ [])
rise_push from to [] log rise some below = (rise, some, omega arith)
rise_push from to (first ∷ logs) log rise some below = (rise.0, rise.1, rise_push (first.number + 1) to logs log rise.2 some below)

-- a log as it is after so many bytes more in it
pub is_grown : (old : Logs) (closed : List ClosedLog) (log len size next : ℕ) → ((n : ℕ) → nat_eq n log ≡ false → closed_len closed n ≡ old.len n)
    → len ≡ old.len log + size → next ≡ max old.next (log + 1)
    → IsGrown log size old (logs_of record { closed = closed; current = Some record { number = log; len = len; unsynced = true }; next = next })
is_grown old closed log len size next rest len_is next_is = record { len = λ n. by_test n (nat_eq n log) refl; current = refl; unsynced = refl; next = next_is }
  where
    by_test : (n : ℕ) (b : Bool) → nat_eq n log ≡ b → cond (nat_eq n log) len (closed_len closed n) ≡ cond (nat_eq n log) (old.len log + size) (old.len n)
    by_test n true is = rw is len_is
    by_test n false is = rw is (rest n is)

-- the closed logs are all but the current one
pub rest_of_current : (closed : List ClosedLog) (current : Option CurrentLog) (next log : ℕ) → (logs_of record { closed = closed; current = current; next = next }).current ≡ Some log
    → (n : ℕ) → nat_eq n log ≡ false → closed_len closed n ≡ len_in closed current n
rest_of_current closed None next log is n away = absurd (cc)
rest_of_current closed (Some other) next log is n away =
    let same : other.number ≡ log = cc in
    let off : nat_eq n other.number ≡ false = grind (arith, nat_tests) in
    sym (ap (λ (b : Bool). cond b other.len (closed_len closed n)) off)

pub rise_to_current : (closed : List ClosedLog) (current : Option CurrentLog) (next log : ℕ) → (logs_of record { closed = closed; current = current; next = next }).current ≡ Some log
    → AreInOrder closed current next → Rise 1 log closed
rise_to_current closed None next log is order = absurd (cc)
rise_to_current closed (Some other) next log is order =
    let same : other.number ≡ log = cc in
    subst (λ (n : ℕ). Rise 1 n closed) same order.0
