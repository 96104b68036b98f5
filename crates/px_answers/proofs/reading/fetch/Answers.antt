use Rattle.std.proofs.Common.{◌-◌, None, Some, sym, ap, ◌∙◌}
use Rattle.std.proofs.lemmas.Bool.{eq-eqb, ne_eqb}
use Rattle.std.proofs.lemmas.Option.{slice_get-get_or, slice_get_past}
use Rattle.px_calls.specs.declared.reply.Reply.TheVariants.{RowIs}
use Rattle.px_model.specs.declared.row.Row.{Row}
use Rattle.px_answers.specs.Keeping.{kept_in}
use Rattle.px_answers.proofs.Opened.{none_open, some_open}
use Rattle.px_answers.proofs.Replies.{fetch_row, fetch_unopened, fetch_zero}
use Rattle.px_answers.proofs.reading.fetch.Goals as goal

pub returns-in_default : goal.returns-in_default
returns-in_default c = λ m of keeps.
    let caller = c.args.caller.now in
    fetch_unopened m caller.session c.args.ticket (none_open m caller.xacts.now caller.session c.opened.result of.mirrors c.opened.ensures.is c.in_default.is)

pub returns-then-ticket-eq0 : goal.returns-then-ticket-eq0
returns-then-ticket-eq0 c = λ m of keeps.
    let caller = c.args.caller.now in
    let opened = some_open m caller.xacts.now caller.session c.opened.result c.in-Some._opened of.mirrors c.opened.ensures.is c.in-Some.is in
    fetch_zero m caller.session c.args.ticket opened.0 opened.1.is_open (eq-eqb c.args.ticket 0 c.if-ticket-eq0.true)

pub returns-in_ok-copy-in-Some-get : goal.returns-in_ok-copy-in-Some-get
returns-in_ok-copy-in-Some-get c = λ m of keeps.
    let caller = c.args.caller.now in
    let opened = some_open m caller.xacts.now caller.session c.opened.result c.in-Some._opened of.mirrors c.opened.ensures.is c.in-Some.is in
    let lookup = c.in-Some-get.ensures.lookup in
    let kept = c.of.result.now in
    let row = c.in-Some-get.row.now in
    ap (λ (r : Row). RowIs r) c.in_ok-copy-in-Some-get.ensures
    ∙ fetch_row m caller.session c.args.ticket opened.0 kept (Some row) opened.1.is_open (ne_eqb c.args.ticket 0 c.if-ticket-eq0.false)
    (c.of.ensures.is ∙ keeps caller.session c.of.ensures.bound ∙ ap kept_in opened.1.is_open)
    (slice_get-get_or kept (c.args.ticket - 1) row lookup.3.0 ∙ ap (λ (r : Row). Some r) (sym lookup.1))

pub returns-in-None : goal.returns-in-None
returns-in-None c = λ m of keeps.
    let caller = c.args.caller.now in
    let opened = some_open m caller.xacts.now caller.session c.opened.result c.in-Some._opened of.mirrors c.opened.ensures.is c.in-Some.is in
    let kept = c.of.result.now in
    fetch_row m caller.session c.args.ticket opened.0 kept None opened.1.is_open (ne_eqb c.args.ticket 0 c.if-ticket-eq0.false)
    (c.of.ensures.is ∙ keeps caller.session c.of.ensures.bound ∙ ap kept_in opened.1.is_open)
    (slice_get_past kept (c.args.ticket - 1) c.in-None.ensures.lookup.3)
