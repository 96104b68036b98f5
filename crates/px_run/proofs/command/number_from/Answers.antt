use Rattle.std.proofs.Common.{◌≡◌, ◌≤◌, ℕ, Bool, true, false, leb, ◌&&◌, cond, Some, None, refl, arith, List}
use Rattle.std.proofs.lemmas.Bool.{and_parts, leb-true}
use Rattle.std.specs.Fmt.{decimal}
use Rattle.std.specs.Str.Parse.{digits_value}
use Rattle.px_script.specs.Words.{number_of, same}
use Rattle.px_run.proofs.command.number_from.Goals as goal

guarded : (b : Bool) (v n : ℕ) → Some n ≡ cond b (Some v) None → (b ≡ true) × (n ≡ v)
guarded true v n e = (refl, cc)
guarded false v n e = absurd (cc)

within : (most n : ℕ) (word : List ℕ) → Some n ≡ number_of most word → n ≤ most
unfolding number_of
within most n word e =
    let value : ℕ = digits_value 10 word in
    let g = guarded (leb value most && same word (decimal value)) value n e in
    omega (arith, g.1, leb-true value most (and_parts (leb value most) (same word (decimal value)) g.0).0)

pub returns-then-number-least-clause-between : goal.returns-then-number-least-clause-between
returns-then-number-least-clause-between c = (c.if-number-least.true, within c.args.most c.in_ok-number.number c.args.word.now c.in_ok-number.ensures)
