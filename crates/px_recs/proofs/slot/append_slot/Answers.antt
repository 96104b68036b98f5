use Rattle.std.proofs.Common.{◌≡◌, ℕ, List, [], ◌∷◌, ◌++◌, length, ap, ◌∙◌, arith}
use Rattle.px_model.specs.declared.limits.TheConstants.{LONGEST_KEY}
use Rattle.px_cells.specs.declared.slot.Slot.{Slot}
use Rattle.px_recs.specs.Text.{state_code, padded, slot_text}
use Rattle.px_recs.specs.Fields.{numbers_of, numbers_text}
use Rattle.px_recs.proofs.Slots.{form_lengths}
use Rattle.px_recs.proofs.Appends.{appended, kept, at_error}
use Rattle.px_recs.proofs.slot.append_slot.Goals as goal
use Rattle.px_recs.proofs.slot.append_slot.Goals.{In_ok-extend_from_slice, In_ok-append_numbers, In_ok-append_padded}

-- the bytes before a slot's numbers
front_of : Slot → List ℕ
front_of slot = state_code slot.state ∷ (length slot.key ∷ (0 ∷ (0 ∷ [])))

front : (c : In_ok-extend_from_slice) → c.extend_from_slice.new.self.items ≡ c.args.out.now.items ++ front_of c.args.slot.now
unfolding front_of
front c =
    let old = c.args.out.now.items in
    c.in_ok-extend_from_slice.ensures.items
    ∙ ap (λ (code : ℕ). old ++ (code ∷ (length c.as_slice-key.result.now ∷ (0 ∷ (0 ∷ []))))) c.code_of_state.ensures
    ∙ ap (λ (key : List ℕ). old ++ (state_code c.args.slot.now.state ∷ (length key ∷ (0 ∷ (0 ∷ []))))) c.as_slice-key.ensures

key : (c : In_ok-append_padded) → c.append_padded.new.out.items ≡ c.append_numbers.new.out.items ++ padded LONGEST_KEY c.args.slot.now.key
key c = c.in_ok-append_padded.ensures.ok ∙ ap (λ (k : List ℕ). c.append_numbers.new.out.items ++ padded LONGEST_KEY k) c.as_slice-key.ensures

pub returns-clause-ok : goal.returns-clause-ok
unfolding slot_text numbers_text front_of
returns-clause-ok c =
    let slot = c.args.slot.now in
    let new = c.append_padded-2.new.out.items in
    let short = c.in_ok-append_padded-2.ensures.ok ∙ ap (λ (s : List ℕ). c.append_padded.new.out.items ++ padded c.args.short s) c.as_slice.ensures in
    appended c.args.out.now.items c.extend_from_slice.new.self.items new (front_of slot) _ (front (goal.at.returns-clause-ok c).In_ok-extend_from_slice)
    (appended c.extend_from_slice.new.self.items c.append_numbers.new.out.items new (numbers_text (numbers_of slot)) _ c.in_ok-append_numbers.ensures.ok
    (appended c.append_numbers.new.out.items c.append_padded.new.out.items new (padded LONGEST_KEY slot.key) (padded c.args.short slot.short) (key (goal.at.returns-clause-ok c).In_ok-append_padded) short))

pub append_padded-requires-clause-fits : goal.append_padded-requires-clause-fits
append_padded-requires-clause-fits c = omega (arith, (form_lengths c.args.short c.args.slot.now c.requires.form).key_to, ap length c.as_slice-key.ensures)

pub append_padded-requires-2-clause-fits : goal.append_padded-requires-2-clause-fits
append_padded-requires-2-clause-fits c = omega (arith, (form_lengths c.args.short c.args.slot.now c.requires.form).short_to, ap length c.as_slice.ensures)

pub returns-in_err-append_numbers-clause-err : goal.returns-in_err-append_numbers-clause-err
returns-in_err-append_numbers-clause-err c = at_error _ (kept _ _ c.append_numbers.new.out.items (front_of c.args.slot.now) (front (goal.at.returns-in_err-append_numbers-clause-err c).In_ok-extend_from_slice) c.in_err-append_numbers.ensures.err)

pub returns-in_err-append_padded-clause-err : goal.returns-in_err-append_padded-clause-err
returns-in_err-append_padded-clause-err c = at_error _
    (kept _ _ c.append_padded.new.out.items (front_of c.args.slot.now) (front (goal.at.returns-in_err-append_padded-clause-err c).In_ok-extend_from_slice)
    (kept _ _ _ (numbers_text (numbers_of c.args.slot.now)) c.in_ok-append_numbers.ensures.ok c.in_err-append_padded.ensures.err))

pub returns-in_err-append_padded-2-clause-err : goal.returns-in_err-append_padded-2-clause-err
returns-in_err-append_padded-2-clause-err c = at_error _
    (kept _ _ c.append_padded-2.new.out.items (front_of c.args.slot.now) (front (goal.at.returns-in_err-append_padded-2-clause-err c).In_ok-extend_from_slice)
    (kept _ _ _ (numbers_text (numbers_of c.args.slot.now)) c.in_ok-append_numbers.ensures.ok
    (kept _ _ _ (padded LONGEST_KEY c.args.slot.now.key) (key (goal.at.returns-in_err-append_padded-2-clause-err c).In_ok-append_padded) c.in_err-append_padded-2.ensures.err)))

pub overflow_cast-front : goal.overflow_cast-front
overflow_cast-front c = omega (arith, (form_lengths c.args.short c.args.slot.now c.requires.form).key_to, ap length c.as_slice-key.ensures)

pub returns-clause-fits : goal.returns-clause-fits
returns-clause-fits c =
    let fit = c.in_ok-append_numbers.ensures.fit in
    record {
      xn = fit.xn;
      next = fit.next;
      row = fit.row;
      tag = fit.tag;
      total = fit.total;
      log = fit.log;
      place = fit.place;
      key = rw c.as_slice-key.ensures at c.in_ok-append_padded.ensures.fit;
      short = rw c.as_slice.ensures at c.in_ok-append_padded-2.ensures.fit;
    }
