-- The slots that are read are in a form that the store may have.
use Rattle.std.proofs.Common.{ℕ, suc, List, [], ◌∷◌, Option, Some, None}
use Rattle.std.specs.Prelude.{All, IsSomeAnd, IsTrue}
use Rattle.std.proofs.lemmas.List.Elements.{All-nil, All-cons}
use Rattle.px_cells.specs.Form.{is_slot}
use Rattle.px_cells.specs.declared.cell.CellKind.TheVariants.{Slot as ASlot}
use Rattle.px_cells.specs.declared.slot.Slot.{Slot}
use Rattle.px_laid.specs.Places.{Places}
use Rattle.px_laid.specs.Whole.{AllFrom, IsLaidSlot}

abbrev pub IsFormed : (short : ℕ) → Slot → Type 0
IsFormed short slot = IsTrue (is_slot short slot)

some_and : {X : Type 0} (P : X → Type 0) (Q : Type 0) → ((x : X) → P x → Q) → (some : Option X)
    → IsSomeAnd some P → Q
some_and P Q then None is = absurd is
some_and P Q then (Some x) is = then x is

pub formed : (short table : ℕ) (places : Places) (number : ℕ) (slots : List Slot)
    → AllFrom (IsLaidSlot short places table) number slots → All (IsFormed short) slots
formed short table places number [] all = All-nil (IsFormed short)
formed short table places number (slot ∷ slots) all =
    All-cons (IsFormed short) slot slots (some_and _ (IsFormed short slot) (λ bytes at. at.form) (places ASlot table number) all.0)
    (formed short table places (suc number) slots all.1)
