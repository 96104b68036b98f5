-- How many transactions are open, and how many writes wait, are the machine's.
use Rattle.std.proofs.Common.{◌≡◌, ℕ, ◌+◌, cond, fold, List, [], ◌∷◌, drop, length, map, Option, Some, None, refl, sym, ap, ◌∙◌}
use Rattle.std.specs.Prelude.{count_by, is_some}
use Rattle.std.proofs.lemmas.List.{length-drop, length-map}
use Rattle.px_model.specs.Chains.{unswept}
use Rattle.px_model.specs.declared.machine.Open.{Open}
use Rattle.px_model.specs.Machine.{Machine, flat, opens}
use Rattle.px_xacts.specs.declared.transaction.Transaction.{Transaction}
use Rattle.px_xacts.specs.Transactions.{Transactions}
use Rattle.px_xacts_laws.specs.Mirrors.{Known, Mirrors, known_of_flat, known_of_open, known_of_transaction, known_of_unswept}

-- one more where it is open
abbrev plus_open : {X : Type 0} → ℕ → Option X → ℕ
plus_open count slot = count + cond (is_some slot) 1 0

known_transactions : (count : ℕ) (slots : List (Option Transaction)) → fold plus_open count (map known_of_transaction slots) ≡ fold plus_open count slots
known_transactions count [] = refl
known_transactions count (None ∷ slots) = known_transactions (count + 0) slots
known_transactions count (Some x ∷ slots) = known_transactions (count + 1) slots

known_opens : (count : ℕ) (slots : List (Option Open)) → fold plus_open count (map known_of_open slots) ≡ fold plus_open count slots
known_opens count [] = refl
known_opens count (None ∷ slots) = known_opens (count + 0) slots
known_opens count (Some x ∷ slots) = known_opens (count + 1) slots

pub open_mirrors : (m : Machine) (all : Transactions) → Mirrors m all → count_by is_some all.active ≡ opens m
unfolding opens
open_mirrors m all mirrors =
    sym (known_transactions 0 all.active) ∙ ap (λ (slots : List (Option Known)). count_by is_some slots) mirrors.active ∙ known_opens 0 m.active

pub unswept_mirrors : (m : Machine) (all : Transactions) → Mirrors m all → length all.queue ≡ unswept m
unfolding unswept
unswept_mirrors m all mirrors =
    sym (length-map all.queue known_of_unswept) ∙ ap length mirrors.queue ∙ length-map (drop m.swept (flat m)) known_of_flat ∙ length-drop m.swept (flat m)
