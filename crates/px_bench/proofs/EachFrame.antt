-- A frame of any number may hold a row that the first one may hold.
use Rattle.std.proofs.Common.{◌≡◌, ℕ, true, ◌&&◌, refl, sym, subst}
use Rattle.std.specs.List.{list_all}
use Rattle.std.proofs.lemmas.Bool.{and_from, and_parts}
use Rattle.px_change.specs.declared.change.Change.{Change}
use Rattle.px_change.specs.declared.change.ChangeKind.{ChangeKind}
use Rattle.px_change.specs.declared.change.ChangeKind.TheVariants.{Put}
use Rattle.px_change.specs.Grammar.{is_change, is_due, is_of_tables, is_within, may_hold}

pub each_may_hold : (tables short : ℕ) (change : Change) → change.kind ≡ Put → is_change short change ≡ true → is_within tables 0 change ≡ true
    → (number : ℕ) → may_hold tables number short change ≡ true
unfolding may_hold
each_may_hold tables short change put ok within number =
    let of_tables = list_all (is_of_tables tables) change.cells in
    let due : is_due number change.kind change.commit ≡ true = subst (λ (kind : ChangeKind). is_due number kind change.commit ≡ true) (sym put) refl in
    and_from (is_change short change) (of_tables && is_due number change.kind change.commit) ok
    (and_from of_tables (is_due number change.kind change.commit) (and_parts of_tables (is_due 0 change.kind change.commit) within).0 due)
