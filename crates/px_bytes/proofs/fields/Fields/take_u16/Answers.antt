use Rattle.std.proofs.Common.{rules, List, ℕ, ◌++◌, ◌∙◌, ap, sym}
use Rattle.std.proofs.lemmas.Nat.{be_bytes_2}
use Rattle.px_bytes.proofs.fields.Fields.take_u16.Goals as goal

pub returns-clause-taken : goal.returns-clause-taken
returns-clause-taken c = c.in_ok-field.ensures.taken ∙ ap (λ (front : List ℕ). front ++ c.take_array.new.self) (sym (be_bytes_2 c.in_ok-field.field _ (search rules) (search rules) c.from_be_bytes.ensures))
