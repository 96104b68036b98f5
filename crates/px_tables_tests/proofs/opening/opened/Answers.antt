use Rattle.std.proofs.Common.{List, Option, sym, subst}
use Rattle.std.specs.Prelude.{All, IfNone}
use Rattle.px_cells.specs.declared.header.Header.{Header}
use Rattle.px_cells.specs.declared.pointer.Pointer.{Pointer}
use Rattle.px_cells.specs.declared.slot.Slot.{Slot}
use Rattle.px_chain.specs.Sound.{IsSound, Layout}
use Rattle.px_laid.specs.Places.{places}
use Rattle.px_survey.specs.declared.flaw.Flaw.{Flaw}
use Rattle.px_tables.specs.Held.{table_from}
use Rattle.px_tables_tests.specs.declared.making.TheConstants.{SHORT, TABLE}
use Rattle.px_tables_tests.proofs.Forms.{IsFormed, formed}
use Rattle.px_tables_tests.proofs.opening.opened.Goals as goal

abbrev AreSound : Header → List Pointer → List Slot → Type 0
AreSound header pointers slots = (layout : Layout) × IsSound SHORT (table_from header pointers slots) layout

pub of_cells-requires-clause-sound : goal.of_cells-requires-clause-sound
of_cells-requires-clause-sound c =
    let cells = c.in_ok-header.field-0 in
    let pointers = c.deref.result.now in
    let slots = c.deref-2.result.now in
    let form = formed SHORT TABLE (places c.args.laid.now) 1 cells.slots.items c.in_ok-header.ensures.ok.slots.each in
    let surveyed = c.in_ok-flaw.ensures.sound SHORT (subst (λ (s : List Slot). All (IsFormed SHORT) s) (sym c.deref-2.ensures.value) form) in
    let sound = subst (λ (flaw : Option Flaw). IfNone flaw (AreSound cells.header pointers slots)) c.in-None.is surveyed in
    subst (λ (p : List Pointer). AreSound cells.header p cells.slots.items) c.deref.ensures.value
    (subst (λ (s : List Slot). AreSound cells.header pointers s) c.deref-2.ensures.value sound)
