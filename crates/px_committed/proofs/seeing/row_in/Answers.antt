use Rattle.std.proofs.Common.{sym, ◌∙◌}
use Rattle.px_held.specs.Errors.{IsPassing}
use Rattle.px_answers.proofs.Leaving.{if_err}
use Rattle.px_answers.proofs.Seen.{seen_slot}
use Rattle.px_committed.proofs.Now.{IsNow, none_seen, some_seen}
use Rattle.px_committed.proofs.seeing.row_in.Goals as goal

pub returns-in_default-clause-row : goal.returns-in_default-clause-row
returns-in_default-clause-row g c = λ tells holders m store sees used.
    let is : IsNow c.args.xacts.now c.now-reader.result = record { xacts = c.now-reader.ensures.xacts; own = c.now-reader.ensures.own; snapshot = c.now-reader.ensures.snapshot } in
    none_seen c.now-reader.result c.args.table c.args.row c.in_ok-slot.field-0 sees is used (c.in_ok-slot.ensures.seen tells store sees.serves used) c.in_default.is

pub returns-in_err-slot-2-clause-sound : goal.returns-in_err-slot-2-clause-sound
returns-in_err-slot-2-clause-sound g c = λ tells short store serves are used.
    let reader = c.now-reader.result in
    let at = seen_slot short reader.xacts.now store reader.own reader.snapshot c.args.table c.args.row c.in-Some.slot are used
    (sym (c.in_ok-slot.ensures.seen tells store serves used) ∙ c.in-Some.is) in
    if_err IsPassing c.from_residual-in_err-slot-2.result c.in_err-slot-2.field-0.0 c.from_residual-in_err-slot-2.ensures.1
    (c.in_err-slot-2.ensures.sound tells store (c.seen.ensures.keeps store serves) at)

pub returns-clause-row : goal.returns-clause-row
returns-clause-row g c = λ tells holders m store sees used.
    let reader = c.now-reader.result in
    let is : IsNow c.args.xacts.now reader = record { xacts = c.now-reader.ensures.xacts; own = c.now-reader.ensures.own; snapshot = c.now-reader.ensures.snapshot } in
    let seen = c.in_ok-slot.ensures.seen tells store sees.serves used in
    let at = seen_slot m.short reader.xacts.now store reader.own reader.snapshot c.args.table c.args.row c.in-Some.slot sees.holds.sound used (sym seen ∙ c.in-Some.is) in
    c.row_of.ensures
    ∙ some_seen reader c.args.table c.args.row c.in_ok-slot.field-0 c.in-Some.slot c.in_ok-slot-2.slot sees is used seen c.in-Some.is
    (c.in_ok-slot-2.ensures.slot tells store (c.seen.ensures.keeps store sees.serves) at)
