use Rattle.std.proofs.Common.{rules, List, ℕ, ◌≡◌, ◌++◌, ◌∙◌, Some, ap, sym}
use Rattle.std.specs.Int.{w64, to_be_bytes}
use Rattle.std.proofs.lemmas.Nat.{be_bytes_8}
use Rattle.px_bytes.proofs.Numbers.{one_u64}
use Rattle.px_bytes.proofs.fields.Fields.take_u64.Goals as goal
use Rattle.px_bytes.proofs.fields.Fields.take_u64.Goals.{After-from_be_bytes}

taken : (c : After-from_be_bytes) → c.args.self.now ≡ to_be_bytes w64 c.from_be_bytes.result ++ c.take_array.new.self
taken c = c.in_ok-field.ensures.taken ∙ ap (λ (front : List ℕ). front ++ c.take_array.new.self) (sym (be_bytes_8 c.in_ok-field.field _ (search rules) (search rules) c.from_be_bytes.ensures))

pub returns-clause-taken : goal.returns-clause-taken
returns-clause-taken c = taken c

pub returns-clause-again : goal.returns-clause-again
returns-clause-again c = λ n rest fits e.
    let same = one_u64 c.from_be_bytes.result n c.take_array.new.self rest c.from_be_bytes.type_inv fits (sym (taken c) ∙ e) in
    (ap (λ (m : ℕ). Some m) same.0, same.1)
