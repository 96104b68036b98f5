-- What a walk along a row's versions has found.
use Rattle.std.proofs.Common.{◌≡◌, ℕ, Bool, cond, true, false, List, [], ◌∷◌, map, Option, Some, None, refl, ap, ◌∙◌}
use Rattle.std.specs.Prelude.{find}
use Rattle.px_cell_laws.specs.Reading.{view_of}
use Rattle.px_chain.specs.declared.chain.Linked.{Linked}
use Rattle.px_chain.specs.declared.views.SlotView.{SlotView}
use Rattle.px_chain.specs.Links.{chain_of}
use Rattle.px_chain.specs.Table.{Table}
use Rattle.px_xacts.specs.Transactions.{Transactions, standing}

-- a version that was met, with what became of its transaction
abbrev pub view_met : Transactions → Linked → SlotView
view_met all linked = record { slot = linked.number; xn = linked.slot.xn; standing = standing all linked.slot.xn }

-- what the test finds among the versions
abbrev pub found_in : (test : SlotView → Bool) → Transactions → List Linked → Option SlotView
found_in test all versions = find test (map (view_met all) versions)

pub found_behind : (test : SlotView → Bool) (all : Transactions) (whole left behind : List Linked) (first : Linked) → found_in test all whole ≡ found_in test all left
    → left ≡ first ∷ behind → test (view_met all first) ≡ false → found_in test all whole ≡ found_in test all behind
found_behind test all whole left behind first so is fails =
    so ∙ ap (found_in test all) is ∙ ap (λ b. cond b (Some (view_met all first)) (found_in test all behind)) fails

pub found_here : (test : SlotView → Bool) (all : Transactions) (whole left behind : List Linked) (first : Linked) → found_in test all whole ≡ found_in test all left
    → left ≡ first ∷ behind → test (view_met all first) ≡ true → found_in test all whole ≡ Some (view_met all first)
found_here test all whole left behind first so is passes =
    so ∙ ap (found_in test all) is ∙ ap (λ b. cond b (Some (view_met all first)) (found_in test all behind)) passes

pub found_nowhere : (test : SlotView → Bool) (all : Transactions) (whole left : List Linked) → found_in test all whole ≡ found_in test all left → left ≡ []
    → found_in test all whole ≡ None
found_nowhere test all whole left so is = so ∙ ap (found_in test all) is

met_in_chain : (all : Transactions) (table : Table) (chain : List ℕ) → map (view_met all) (chain_of table chain) ≡ map (view_of all table) chain
met_in_chain all table [] = refl
met_in_chain all table (n ∷ chain) = ap (λ (l : List SlotView). view_of all table n ∷ l) (met_in_chain all table chain)

-- so it is with the chain that was walked
pub found_in_chain : (test : SlotView → Bool) (all : Transactions) (table : Table) (chain : List ℕ) (whole : List Linked) → whole ≡ chain_of table chain
    → found_in test all whole ≡ find test (map (view_of all table) chain)
found_in_chain test all table chain whole is = ap (found_in test all) is ∙ ap (find test) (met_in_chain all table chain)
