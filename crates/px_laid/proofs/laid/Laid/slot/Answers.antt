use Rattle.std.proofs.Common.{List, ℕ, ◌+◌, Option, replicate, sym, ap, subst, ◌∙◌}
use Rattle.std.specs.Option.{option_copied, unwrap_or}
use Rattle.px_cells.specs.declared.limits.TheConstants.{SLOT_HEAD_SIZE}
use Rattle.px_cells.specs.declared.slot.Slot.{Slot}
use Rattle.px_recs.specs.Text.{SlotAt}
use Rattle.px_cells.specs.Unused.{unused_slot}
use Rattle.px_laid.specs.Reading.{slot_bytes}
use Rattle.px_laid.specs.Places.{places}
use Rattle.px_laid.proofs.Unused.{never_used}
use Rattle.px_laid.proofs.laid.Laid.slot.Goals as goal

pub returns-in-None-clause-some : goal.returns-in-None-clause-some
returns-in-None-clause-some c =
    subst (λ (slot : Slot). SlotAt c.args.short (slot_bytes c.args.short (places c.args.self.now) c.args.table c.args.number) slot) (sym c.unused_slot.ensures)
    (subst (λ (at : Option (List ℕ)). SlotAt c.args.short (unwrap_or at (replicate (SLOT_HEAD_SIZE + c.args.short) 0)) unused_slot) (sym (ap option_copied c.in-None.is) ∙ c.bytes.ensures) (never_used c.args.short))
