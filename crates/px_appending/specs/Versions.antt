-- Which version may have its frame.
use Rattle.px_held.specs.Linking.{IsReady}
use Rattle.px_held.specs.Serving.{HeldTables}
use Rattle.px_held.specs.declared.prepared.Prepared.{Prepared}
use Rattle.px_history.specs.Fitting.{IsStoredNumber, PlacesFit}
use Rattle.px_recs.specs.Text.{SlotFits}

-- It is prepared, and who wrote it has a stored number.
pub record MayBeAppended (held : HeldTables) (prepared : Prepared) : Type 0 where
  pub ready : IsReady held prepared
  pub writer : IsStoredNumber prepared.linking.slot.xn

-- its numbers and bytes fit their fields
pub record FitsFields (prepared : Prepared) : Type 0 where
  pub places : PlacesFit prepared.linking.header
  pub its_slot : SlotFits prepared.linking.slot
