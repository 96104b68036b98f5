use Rattle.px_answers.specs.Asking.{IsKeyRefusal}
use Rattle.px_answers.proofs.Leaving.{if_err}
use Rattle.px_answers.proofs.Opened.{key_unread}
use Rattle.px_answers.proofs.caller.Caller.may_read.Goals as goal

pub returns-in_err-opened-clause-refused : goal.returns-in_err-opened-clause-refused
returns-in_err-opened-clause-refused c = λ m of.
    let session = c.args.self.now.session in
    if_err (IsKeyRefusal m session c.args.table c.args.key.now) c.from_residual.result c.in_err-opened.field-0.0 c.from_residual.ensures.1
    (key_unread m session c.args.table c.args.key.now c.in_err-opened.field-0.0 (c.in_err-opened.ensures.refused m of))
