-- The base of a chain is the row that the swept commits left.
use Rattle.std.proofs.Common.{◌≡◌, Bool, true, false, cond, List, [], ◌∷◌, Option, Some, None, refl, sym, ap, ◌∙◌}
use Rattle.std.specs.Prelude.{take}
use Rattle.std.specs.Option.{option_or}
use Rattle.px_model.specs.declared.row.Row.{Row}
use Rattle.px_model.specs.declared.machine.Flat.{Flat}
use Rattle.px_model.specs.Rows.{Key, key_written, same_key, row_at}
use Rattle.px_model.specs.Machine.{Machine, flat, committed_flat}
use Rattle.px_model.specs.Chains.{base_rows, last_committed}
use Rattle.px_model_laws.specs.Keys.{row_written}
use Rattle.px_model_laws.proofs.RowsAsMap.{newest, row_at-after}

-- what the last committed write of the key put, else what was there
abbrev pub left_by : Option Row → Option Flat → Option Row
left_by was None = was
left_by was (Some f) = row_written f.write

newest-committed : (key : Key) (was : Option Row) (all : List Flat) → newest key was (committed_flat all) ≡ left_by was (last_committed key all)
newest-committed key was [] = refl
newest-committed key was (f ∷ all) =
    elim f.committed as (λ b. f.committed ≡ b → newest key was (committed_flat (f ∷ all)) ≡ left_by was (last_committed key (f ∷ all))) [
      | true ↦ λ e. simp e (newest-committed key (cond (same_key key (key_written f.write)) (row_written f.write) was) all
          ∙ joined (last_committed key all) (same_key key (key_written f.write)) f was)
      | false ↦ λ e. simp e (newest-committed key was all ∙ ap (left_by was) (sym (or_none (last_committed key all))))
    ] refl
  where
    or_none : (o : Option Flat) → option_or o None ≡ o
    or_none None = refl
    or_none (Some g) = refl

    joined : (o : Option Flat) (b : Bool) (f : Flat) (was : Option Row) → left_by (cond b (row_written f.write) was) o ≡ left_by was (option_or o (cond b (Some f) None))
    joined None true f was = refl
    joined None false f was = refl
    joined (Some g) b f was = refl

pub row_at-base_rows : (m : Machine) (key : Key) → row_at key (base_rows m) ≡ left_by (row_at key m.opening) (last_committed key (take m.swept (flat m)))
unfolding base_rows
row_at-base_rows m key = row_at-after key m.opening (committed_flat (take m.swept (flat m))) ∙ newest-committed key (row_at key m.opening) (take m.swept (flat m))
