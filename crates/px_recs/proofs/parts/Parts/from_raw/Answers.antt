use Rattle.std.proofs.Common.{◌≡◌, ℕ, length, replicate, refl, sym, ap, ◌∙◌, arith}
use Rattle.std.proofs.lemmas.Bool.{false≢true}
use Rattle.px_cells.specs.declared.slot.Slot.{Slot}
use Rattle.px_recs.specs.declared.raw.Numbers.{Numbers}
use Rattle.px_recs.specs.Text.{padded}
use Rattle.px_recs.specs.Fields.{slot_of}
use Rattle.px_recs.proofs.Slots.{raw_of, raw-text}
use Rattle.px_recs.proofs.Zeros.{field_long}
use Rattle.px_recs.proofs.parts.Parts.from_raw.Goals as goal

pub returns-then-not-are_zeros-clause-none : goal.returns-then-not-are_zeros-clause-none
returns-then-not-are_zeros-clause-none c = λ slot at.
    let raw = c.args.raw.now in
    let of = raw_of _ slot raw.state raw.key_length raw.gap.now raw.numbers raw.key.now raw.short.now c.requires.gap_size c.requires.fit c.requires.key_size at in
    let zero : raw.gap.now ≡ replicate (length raw.gap.now) 0 = of.gap_is ∙ ap (λ (n : ℕ). replicate n 0) (sym c.requires.gap_size) in
    false≢true (c.if-not-are_zeros.ensures.1 zero)

pub returns-in_err-state-clause-none : goal.returns-in_err-state-clause-none
returns-in_err-state-clause-none c = rw c.from_residual.ensures (λ slot at.
    let raw = c.args.raw.now in
    let of = raw_of _ slot raw.state raw.key_length raw.gap.now raw.numbers raw.key.now raw.short.now c.requires.gap_size c.requires.fit c.requires.key_size at in
    c.in_err-state.ensures.none slot.state of.state_is)

pub returns-in_err-key-clause-none : goal.returns-in_err-key-clause-none
returns-in_err-key-clause-none c = rw c.from_residual-in_err-key.ensures (λ slot at.
    let raw = c.args.raw.now in
    let of = raw_of _ slot raw.state raw.key_length raw.gap.now raw.numbers raw.key.now raw.short.now c.requires.gap_size c.requires.fit c.requires.key_size at in
    c.in_err-key.ensures.none slot.key (sym of.key_length_is) (of.key_is ∙ ap (λ (n : ℕ). padded n slot.key) (sym c.requires.key_size)))

pub returns-in_err-short-clause-none : goal.returns-in_err-short-clause-none
returns-in_err-short-clause-none c = rw c.from_residual-in_err-short.ensures (λ slot at.
    let raw = c.args.raw.now in
    let of = raw_of _ slot raw.state raw.key_length raw.gap.now raw.numbers raw.key.now raw.short.now c.requires.gap_size c.requires.fit c.requires.key_size at in
    let total : raw.numbers.total ≡ slot.total = ap (λ (n : Numbers). n.total) of.numbers_are in
    c.in_err-short.ensures.none slot.short (omega (arith, c.min-here.ensures, total, at.short_to)) of.short_is)

pub returns-clause-some : goal.returns-clause-some
returns-clause-some c =
    let raw = c.args.raw.now in
    let key = c.in_ok-key.key.now in
    let short = c.in_ok-short.short.now in
    let slot : Slot = slot_of c.in_ok-state.state raw.numbers key short in
    let fit = c.requires.fit in
    record {
      key_to = omega (arith, field_long raw.key.now key c.in_ok-key.ensures.some, c.requires.key_size);
      short_to = omega (arith, c.in_ok-short.ensures.size, c.min-here.ensures);
      fits = record {
        xn = fit.xn;
        next = fit.next;
        row = fit.row;
        tag = fit.tag;
        total = fit.total;
        log = fit.log;
        place = fit.place;
        key = c.in_ok-key.ensures.fit;
        short = c.in_ok-short.ensures.fit;
      };
      text = raw-text _ slot raw.state raw.key_length raw.gap.now raw.numbers raw.key.now raw.short.now (record {
        state_is = c.in_ok-state.ensures.some;
        key_length_is = sym c.in_ok-key.ensures.size;
        gap_is = c.if-not-are_zeros.ensures.0 refl ∙ ap (λ (n : ℕ). replicate n 0) c.requires.gap_size;
        numbers_are = refl;
        key_is = c.in_ok-key.ensures.some ∙ ap (λ (n : ℕ). padded n key) c.requires.key_size;
        short_is = c.in_ok-short.ensures.some;
      });
    }
