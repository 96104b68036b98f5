use Rattle.std.proofs.Common.{◌≡◌, false, refl, sym, ap, ◌∙◌, arith}
use Rattle.px_script.specs.Progress.{Progress}
use Rattle.px_script.proofs.LineFeeds.{open-none, overlong-none}
use Rattle.px_script.proofs.lines.Lines.incomplete.Goals as goal
use Rattle.px_script.proofs.lines.Lines.incomplete.Goals.{then-self-eq-LONGEST_INPUT, else-self-eq-LONGEST_INPUT}

pub returns-then-size-gt-LONGEST_LINE-clause-found : goal.returns-then-size-gt-LONGEST_LINE-clause-found
returns-then-size-gt-LONGEST_LINE-clause-found c = (overlong-none c.args.self.now.held c.requires.none (omega (arith, c.requires.whole)), refl)

pub last-requires-clause-fits : goal.last-requires-clause-fits
last-requires-clause-fits c = open-none c.args.self.now.held c.requires.none (omega (arith, c.requires.whole))

pub returns-after-self-eq-LONGEST_INPUT-clause-found : goal.returns-after-self-eq-LONGEST_INPUT-clause-found
returns-after-self-eq-LONGEST_INPUT-clause-found c =
    let now = c.args.self.now in
    let fits = open-none now.held c.requires.none (omega (arith, c.requires.whole)) in
    let count : now.count ≡ c.self.inside.count = sym (ap (λ (progress : Progress). progress.count) c.self.view_is) in
    let going : now.ended ≡ false = sym (ap (λ (progress : Progress). progress.ended) c.self.view_is) ∙ c.if-self.false in
    elim c.if-self-eq-LONGEST_INPUT.branch [
      | then-self-eq-LONGEST_INPUT w ↦ rw w.result-is ((fits, count ∙ w.if-self-eq-LONGEST_INPUT.true, going), refl)
      | else-self-eq-LONGEST_INPUT w ↦
          let most = c.self.invariant.4 in
          let other = w.if-self-eq-LONGEST_INPUT.false in
          rw w.result-is (record { open_line = fits; below = omega (arith, count, most, other); going = going }, refl)
    ]
