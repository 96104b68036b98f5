use Rattle.std.proofs.Common.{List, ℕ, Option, Bor, sym, ap, ◌∙◌}
use Rattle.std.specs.Option.{option_copied}
use Rattle.px_script.specs.Splits.{words_left}
use Rattle.px_script.proofs.Cuts.{words-none, words-at}
use Rattle.px_script.proofs.words.Words.next.Goals as goal

pub returns-in-None : goal.returns-in-None
returns-in-None c =
    sym c.self.view_is
    ∙ ap (λ (rest : Option (Bor (List ℕ))). words_left (option_copied rest)) c.in_ok-rest.was
    ∙ words-none c.in_ok-rest.rest.now c.in-None.ensures

pub returns-in-Some : goal.returns-in-Some
returns-in-Some c =
    sym c.self.view_is
    ∙ ap (λ (rest : Option (Bor (List ℕ))). words_left (option_copied rest)) c.in_ok-rest.was
    ∙ words-at c.in_ok-rest.rest.now c.in-Some.end c.in-Some.ensures.0 c.in-Some.ensures.1
