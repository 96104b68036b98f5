use Rattle.std.proofs.Common.{◌<◌, ◌≤◌, length, sym, subst}
use Rattle.std.proofs.lemmas.Bool.{le-leb, lt-leb}
use Rattle.px_model.specs.declared.limits.TheConstants.{MOST_WRITES}
use Rattle.px_answers.proofs.Opened.{none_open, some_open, writes_of}
use Rattle.px_answers.proofs.Refusing.{bad_body, bad_key, many_writes, no_table, unopened}
use Rattle.px_answers.proofs.writing.may_ask.Goals as goal

pub returns-in_default-clause-refused : goal.returns-in_default-clause-refused
returns-in_default-clause-refused c = λ m of.
    let caller = c.args.caller.now in
    unopened m caller.session c.args.asked.now (none_open m caller.xacts.now caller.session c.opened.result of.mirrors c.opened.ensures.is c.in_default.is)

pub returns-then-not-has_table-clause-refused : goal.returns-then-not-has_table-clause-refused
returns-then-not-has_table-clause-refused c = λ m of.
    let caller = c.args.caller.now in
    let opened = some_open m caller.xacts.now caller.session c.opened.result c.in-Some.opened of.mirrors c.opened.ensures.is c.in-Some.is in
    no_table m caller.session c.args.asked.now opened.0 opened.1.is_open (sym (c.if-not-has_table.ensures.is m of))

pub returns-then-not-fits_key-clause-refused : goal.returns-then-not-fits_key-clause-refused
returns-then-not-fits_key-clause-refused c = λ m of.
    let caller = c.args.caller.now in
    let opened = some_open m caller.xacts.now caller.session c.opened.result c.in-Some.opened of.mirrors c.opened.ensures.is c.in-Some.is in
    bad_key m caller.session c.args.asked.now opened.0 opened.1.is_open (sym (c.if-not-has_table.ensures.is m of)) (sym c.if-not-fits_key.ensures.is)

pub returns-then-not-fits_body-clause-refused : goal.returns-then-not-fits_body-clause-refused
returns-then-not-fits_body-clause-refused c = λ m of.
    let caller = c.args.caller.now in
    let opened = some_open m caller.xacts.now caller.session c.opened.result c.in-Some.opened of.mirrors c.opened.ensures.is c.in-Some.is in
    bad_body m caller.session c.args.asked.now opened.0 opened.1.is_open (sym (c.if-not-has_table.ensures.is m of)) (sym c.if-not-fits_key.ensures.is)
    (sym (c.if-not-fits_body.ensures.is m of))

pub returns-then-opened-ge-MOST_WRITES-clause-refused : goal.returns-then-opened-ge-MOST_WRITES-clause-refused
returns-then-opened-ge-MOST_WRITES-clause-refused c = λ m of.
    let caller = c.args.caller.now in
    let opened = some_open m caller.xacts.now caller.session c.opened.result c.in-Some.opened of.mirrors c.opened.ensures.is c.in-Some.is in
    many_writes m caller.session c.args.asked.now opened.0 opened.1.is_open (sym (c.if-not-has_table.ensures.is m of)) (sym c.if-not-fits_key.ensures.is)
    (sym (c.if-not-fits_body.ensures.is m of))
    (le-leb MOST_WRITES (length opened.0.writes) (subst (λ n. MOST_WRITES ≤ n) (writes_of opened.1) c.if-opened-ge-MOST_WRITES.true))

pub returns-clause-may : goal.returns-clause-may
returns-clause-may c = λ m of.
    let caller = c.args.caller.now in
    let opened = some_open m caller.xacts.now caller.session c.opened.result c.in-Some.opened of.mirrors c.opened.ensures.is c.in-Some.is in
    record {
      xact = opened.0;
      opened_is = opened.1;
      has = sym (c.if-not-has_table.ensures.is m of);
      its_key = sym c.if-not-fits_key.ensures.is;
      its_body = sym (c.if-not-fits_body.ensures.is m of);
      few = lt-leb MOST_WRITES (length opened.0.writes) (subst (λ n. n < MOST_WRITES) (writes_of opened.1) c.if-opened-ge-MOST_WRITES.false);
    }
