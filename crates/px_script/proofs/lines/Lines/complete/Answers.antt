use Rattle.std.proofs.Common.{ℕ, ◌+◌, ◌∷◌, ◌++◌, take, drop, refl, ap, ◌∙◌, arith, inl}
use Rattle.std.proofs.lemmas.List.{length-take-le}
use Rattle.px_script.proofs.Cuts.{cut}
use Rattle.px_script.proofs.LineFeeds.{open-none, overlong-at}
use Rattle.px_script.proofs.lines.Lines.complete.Goals as goal

pub returns-then-line-gt-LONGEST_LINE-clause-found : goal.returns-then-line-gt-LONGEST_LINE-clause-found
returns-then-line-gt-LONGEST_LINE-clause-found c =
    (overlong-at c.args.self.now.held c.args.line c.requires.first (omega arith) (omega (arith, c.requires.there)), refl)

pub returns-clause-found : goal.returns-clause-found
returns-clause-found c =
    let held = c.args.self.now.held in
    let line = c.args.line in
    let size = length-take-le line held (omega (arith, c.requires.there)) in
    rw c.hand_out.ensures (
      open-none (take line held) c.requires.first (omega (arith, size)),
      inl (cut held line c.requires.there ∙ ap (λ (feed : ℕ). take line held ++ feed ∷ drop (line + 1) held) c.requires.feed),
    )
