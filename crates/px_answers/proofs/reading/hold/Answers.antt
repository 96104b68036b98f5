use Rattle.std.proofs.Common.{◌≡◌, ◌+◌, ◌<◌, ◌≤◌, Some, None, length, refl, sym, ap, subst, ◌∙◌}
use Rattle.std.proofs.lemmas.Bool.{le-leb, lt-leb}
use Rattle.px_calls.specs.declared.reply.Reply.TheVariants.{Held, LimitTickets, Missing}
use Rattle.px_calls.specs.Steps.{plus_kept, with_slot}
use Rattle.px_model.specs.declared.limits.TheConstants.{MOST_TICKETS}
use Rattle.px_answers.specs.Keeping.{Kept, KeepsTickets, kept_in}
use Rattle.px_answers.proofs.KeptByTickets.{held_state, kept_one_more, refused_keeps}
use Rattle.px_answers.proofs.Leaving.{passed_on}
use Rattle.px_answers.proofs.Opened.{caller_of, reader_of, sees_through}
use Rattle.px_answers.proofs.Replies.{hold_many, hold_read, hold_refused}
use Rattle.px_answers.proofs.reading.hold.Goals as goal

pub returns-in-Err-clause-reply : goal.returns-in-Err-clause-reply
returns-in-Err-clause-reply g c = λ tells on holders m store sees keeps.
    hold_refused m c.args.caller.now.session c.args.table c.args.key.now c.in-Err.refusal (c.in-Err.ensures.refused m (caller_of c.args.caller.now sees on))

pub returns-in-Err-clause-keeps : goal.returns-in-Err-clause-keeps
returns-in-Err-clause-keeps g c = λ tells on holders m store sees keeps.
    let replied = hold_refused m c.args.caller.now.session c.args.table c.args.key.now c.in-Err.refusal (c.in-Err.ensures.refused m (caller_of c.args.caller.now sees on)) in
    refused_keeps c.args.tickets.now m c.args.caller.now.session c.args.table c.args.key.now c.in-Err.refusal keeps replied c.in-Err.ensures.refusal

pub returns-then-kept-ge-MOST_TICKETS-clause-reply : goal.returns-then-kept-ge-MOST_TICKETS-clause-reply
returns-then-kept-ge-MOST_TICKETS-clause-reply g c = λ tells on holders m store sees keeps.
    let caller = c.args.caller.now in
    let may = c.in-Ok.ensures.may m (caller_of caller sees on) in
    let same : length c.of-kept.result.now ≡ length may.of_table.xact.kept =
    ap length (c.of-kept.ensures.is ∙ keeps caller.session c.of-kept.ensures.bound ∙ ap kept_in may.of_table.opened_is.is_open) in
    let replied = hold_many may (le-leb MOST_TICKETS (length may.of_table.xact.kept) (subst (λ n. MOST_TICKETS ≤ n) same c.if-kept-ge-MOST_TICKETS.true)) in
    replied

pub returns-then-kept-ge-MOST_TICKETS-clause-keeps : goal.returns-then-kept-ge-MOST_TICKETS-clause-keeps
returns-then-kept-ge-MOST_TICKETS-clause-keeps g c = λ tells on holders m store sees keeps.
    let caller = c.args.caller.now in
    let may = c.in-Ok.ensures.may m (caller_of caller sees on) in
    let same : length c.of-kept.result.now ≡ length may.of_table.xact.kept =
    ap length (c.of-kept.ensures.is ∙ keeps caller.session c.of-kept.ensures.bound ∙ ap kept_in may.of_table.opened_is.is_open) in
    let replied = hold_many may (le-leb MOST_TICKETS (length may.of_table.xact.kept) (subst (λ n. MOST_TICKETS ≤ n) same c.if-kept-ge-MOST_TICKETS.true)) in
    refused_keeps c.args.tickets.now m caller.session c.args.table c.args.key.now LimitTickets keeps replied refl

pub returns-in_err-row-clause-reads : goal.returns-in_err-row-clause-reads
returns-in_err-row-clause-reads g c = passed_on c.from_residual.result c.in_err-row.field-0.0 c.from_residual.ensures.1 c.in_err-row.ensures.reads

pub returns-in_default-clause-reply : goal.returns-in_default-clause-reply
returns-in_default-clause-reply g c = λ tells on holders m store sees keeps.
    let caller = c.args.caller.now in
    let may = c.in-Ok.ensures.may m (caller_of caller sees on) in
    let same : length c.of-kept.result.now ≡ length may.of_table.xact.kept =
    ap length (c.of-kept.ensures.is ∙ keeps caller.session c.of-kept.ensures.bound ∙ ap kept_in may.of_table.opened_is.is_open) in
    let few = lt-leb MOST_TICKETS (length may.of_table.xact.kept) (subst (λ n. n < MOST_TICKETS) same c.if-kept-ge-MOST_TICKETS.false) in
    let reader = reader_of c.reader.result may.of_table.opened_is c.reader.ensures.own c.reader.ensures.snapshot in
    let seen = c.in_ok-row.ensures.row tells holders m store caller.session may.of_table.xact (sees_through caller.xacts.now c.reader.result.xacts.now c.reader.ensures.xacts sees) reader in
    let replied = hold_read may None few (sym c.in_default.is ∙ seen) in
    replied

pub returns-in_default-clause-keeps : goal.returns-in_default-clause-keeps
returns-in_default-clause-keeps g c = λ tells on holders m store sees keeps.
    let caller = c.args.caller.now in
    let may = c.in-Ok.ensures.may m (caller_of caller sees on) in
    let same : length c.of-kept.result.now ≡ length may.of_table.xact.kept =
    ap length (c.of-kept.ensures.is ∙ keeps caller.session c.of-kept.ensures.bound ∙ ap kept_in may.of_table.opened_is.is_open) in
    let few = lt-leb MOST_TICKETS (length may.of_table.xact.kept) (subst (λ n. n < MOST_TICKETS) same c.if-kept-ge-MOST_TICKETS.false) in
    let reader = reader_of c.reader.result may.of_table.opened_is c.reader.ensures.own c.reader.ensures.snapshot in
    let seen = c.in_ok-row.ensures.row tells holders m store caller.session may.of_table.xact (sees_through caller.xacts.now c.reader.result.xacts.now c.reader.ensures.xacts sees) reader in
    let replied = hold_read may None few (sym c.in_default.is ∙ seen) in
    refused_keeps c.args.tickets.now m caller.session c.args.table c.args.key.now Missing keeps replied refl

pub returns-clause-reply : goal.returns-clause-reply
returns-clause-reply g c = λ tells on holders m store sees keeps.
    let caller = c.args.caller.now in
    let may = c.in-Ok.ensures.may m (caller_of caller sees on) in
    let same : length c.of-kept.result.now ≡ length may.of_table.xact.kept =
    ap length (c.of-kept.ensures.is ∙ keeps caller.session c.of-kept.ensures.bound ∙ ap kept_in may.of_table.opened_is.is_open) in
    let few = lt-leb MOST_TICKETS (length may.of_table.xact.kept) (subst (λ n. n < MOST_TICKETS) same c.if-kept-ge-MOST_TICKETS.false) in
    let reader = reader_of c.reader.result may.of_table.opened_is c.reader.ensures.own c.reader.ensures.snapshot in
    let seen = c.in_ok-row.ensures.row tells holders m store caller.session may.of_table.xact (sees_through caller.xacts.now c.reader.result.xacts.now c.reader.ensures.xacts sees) reader in
    let replied = ap (λ n. Held (n + 1)) same ∙ hold_read may (Some c.in-Some.row) few (sym c.in-Some.is ∙ seen) in
    replied

pub returns-clause-keeps : goal.returns-clause-keeps
returns-clause-keeps g c = λ tells on holders m store sees keeps.
    let caller = c.args.caller.now in
    let may = c.in-Ok.ensures.may m (caller_of caller sees on) in
    let same : length c.of-kept.result.now ≡ length may.of_table.xact.kept =
    ap length (c.of-kept.ensures.is ∙ keeps caller.session c.of-kept.ensures.bound ∙ ap kept_in may.of_table.opened_is.is_open) in
    let few = lt-leb MOST_TICKETS (length may.of_table.xact.kept) (subst (λ n. n < MOST_TICKETS) same c.if-kept-ge-MOST_TICKETS.false) in
    let reader = reader_of c.reader.result may.of_table.opened_is c.reader.ensures.own c.reader.ensures.snapshot in
    let seen = c.in_ok-row.ensures.row tells holders m store caller.session may.of_table.xact (sees_through caller.xacts.now c.reader.result.xacts.now c.reader.ensures.xacts sees) reader in
    let replied = ap (λ n. Held (n + 1)) same ∙ hold_read may (Some c.in-Some.row) few (sym c.in-Some.is ∙ seen) in
    let kept = kept_one_more c.args.tickets.now m caller.session may.of_table.xact c.in-Some.row keeps c.of-kept.ensures.place may.of_table.opened_is.is_open in
    let state = held_state m caller.session c.args.table (length c.of-kept.result.now + 1) c.args.key.now may.of_table.xact c.in-Some.row may.of_table.opened_is.is_open
    (sym seen ∙ c.in-Some.is) replied in
    subst (KeepsTickets c.keep.new.self) (sym state)
    (subst (λ (k : Kept). KeepsTickets k (with_slot m caller.session (Some (plus_kept (Some c.in-Some.row) may.of_table.xact)))) (sym c.in_ok-keep.ensures.ok) kept)
