use Rattle.std.proofs.Common.{sym}
use Rattle.px_answers.proofs.Opened.{no_table_refused, none_open, some_open, unopened_refused}
use Rattle.px_answers.proofs.caller.Caller.may_read_table.Goals as goal

pub returns-in_default-clause-refused : goal.returns-in_default-clause-refused
returns-in_default-clause-refused c = λ m of.
    let caller = c.args.self.now in
    unopened_refused m caller.session c.args.table (none_open m caller.xacts.now caller.session c.opened.result of.mirrors c.opened.ensures.is c.in_default.is)

pub returns-then-not-has_table-clause-refused : goal.returns-then-not-has_table-clause-refused
returns-then-not-has_table-clause-refused c = λ m of.
    let caller = c.args.self.now in
    let opened = some_open m caller.xacts.now caller.session c.opened.result c.in-Some.opened of.mirrors c.opened.ensures.is c.in-Some.is in
    no_table_refused m caller.session c.args.table opened.0 opened.1.is_open (sym (c.if-not-has_table.ensures.is m of))

pub returns-clause-may : goal.returns-clause-may
returns-clause-may c = λ m of.
    let caller = c.args.self.now in
    let opened = some_open m caller.xacts.now caller.session c.opened.result c.in-Some.opened of.mirrors c.opened.ensures.is c.in-Some.is in
    record { xact = opened.0; opened_is = opened.1; has = sym (c.if-not-has_table.ensures.is m of) }
