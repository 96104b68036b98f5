use Rattle.std.proofs.Common.{ap, ◌∙◌}
use Rattle.px_shown.specs.Shown.{done_with}
use Rattle.px_tidy.specs.Numbers.{Numbers, done_of}
use Rattle.px_tidy.proofs.Numbers.{one_added}
use Rattle.px_tidy.proofs.done.Done.add.Goals as goal

pub returns-clause-ok : goal.returns-clause-ok
returns-clause-ok c =
    one_added c.self.inside.low c.args.xn c.self.inside.added.keys c.insert.new.self.keys c.in_ok-insert.ensures.keys
    ∙ ap (λ (n : Numbers). done_with c.args.xn (done_of n)) c.self.view_is
