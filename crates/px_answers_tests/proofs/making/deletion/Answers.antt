use Rattle.std.proofs.Common.{◌≢◌, rules, List, ℕ, [], ◌∷◌}
use Rattle.std.specs.Prelude.{IsTrue}
use Rattle.px_cells.specs.declared.slot.Slot.{Slot}
use Rattle.px_cells.specs.declared.slot.SlotState.TheVariants.{Free, Deletion}
use Rattle.px_cells.specs.Form.{is_slot}
use Rattle.px_answers_tests.specs.declared.making.TheConstants.{SHORT}
use Rattle.px_answers_tests.proofs.making.deletion.Goals as goal

abbrev without_body : (xn next row : ℕ) → (key short : List ℕ) → Slot
without_body xn next row key short =
    record { state = Deletion; xn = xn; next = next; row = row; tag = 0; total = 0; log = 0; place = 0; key = key; short = short }

-- a deletion with a key of one byte and no body may stand in a slot
formed : (xn next row byte : ℕ) → IsTrue (is_slot SHORT (without_body xn next row (byte ∷ []) []))
unfolding is_slot
formed xn next row byte = search rules

not_free : Deletion ≢ Free
not_free same = cc

pub returns-clause-stored : goal.returns-clause-stored
returns-clause-stored c = record {
  form = rw (c.in_ok-from_slice.ensures, c.new.ensures) (formed c.from.result c.args.place.next c.args.place.row c.args.key);
  used = not_free;
}
