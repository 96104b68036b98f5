use Rattle.std.proofs.lemmas.Result.{err_from_is_err_and}
use Rattle.std.specs.Prelude.{⊤}
use Rattle.px_core.proofs.Reading.{reads_answered, reads_refused}
use Rattle.px_core.proofs.state.Kept.answer.Goals as goal

pub returns-in_err-read : goal.returns-in_err-read
returns-in_err-read g c =
    let p = err_from_is_err_and c.from_residual.result c.from_residual.ensures.1 in
    rw (p.1, p.2)
    (reads_refused g.W.Site.tells g.W.Site.state g.W.Site.counts c.args.session c.args.call c.args.self.now c.read.new.self (λ m works. ⊤)
    c.requires.reads c.requires.well c.requires.whole c.in_err-read.field-0.0 c.in_err-read.ensures)

pub returns : goal.returns
returns g c =
    reads_answered g.W.Site.tells g.W.Site.state g.W.Site.counts c.args.session c.args.call c.args.self.now c.read.new.self (λ m works. ⊤)
    c.requires.reads c.requires.well c.requires.whole c.in_ok-read.field-0 c.in_ok-read.ensures
