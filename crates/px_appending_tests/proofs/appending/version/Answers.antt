use Rattle.std.proofs.Common.{◌≢◌, rules, ℕ, [], ◌∷◌}
use Rattle.std.specs.Prelude.{IsTrue}
use Rattle.px_cells.specs.Form.{is_slot}
use Rattle.px_cells.specs.declared.slot.SlotState.TheVariants.{Free, Row}
use Rattle.px_appending_tests.proofs.appending.version.Goals as goal

formed : (next row : ℕ)
    → IsTrue (is_slot 16 (record { state = Row; xn = 3; next = next; row = row; tag = 0; total = 0; log = 0; place = 0; key = 97 ∷ []; short = [] }))
unfolding is_slot
formed next row = search rules

not_free : Row ≢ Free
not_free same = cc

pub returns-clause-stored : goal.returns-clause-stored
returns-clause-stored c = record { form = rw (c.in_ok-from_slice.ensures, c.new.ensures) (formed c.args.place.next c.args.place.row); used = not_free }
