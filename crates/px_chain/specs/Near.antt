-- What an unlink reads of a chain: the slots that go and their two neighbours. They tell its cells.
use Rattle.std.specs.Prelude.{ℕ, ◌+◌, ◌==◌, Bool, true, false, ◌&&◌, All, IfSome, take, drop, List, [], ◌∷◌, ◌++◌, map, Option, Some, None, is_none, unwrap_or, if◌then◌else◌}
use Rattle.px_cells.specs.declared.header.Header.{Header}
use Rattle.px_cells.specs.declared.pointer.Pointer.{Pointer}
use Rattle.px_chain.specs.declared.chain.Linked.{Linked}
use Rattle.px_chain.specs.Links.{IsStored, Parts, by_number, chain_of, content_of, first_or, freed, row_of}
use Rattle.px_chain.specs.Places.{slot_before, slot_in}
use Rattle.px_chain.specs.Table.{Content, Table}

-- the slot in front of those that go, those, the newest first, and the number of the slot behind them
pub record Near : Type 0 where
  pub newer : Option Linked
  pub gone : List Linked
  pub older : Option ℕ

abbrev pub last_linked : List Linked → Option Linked
last_linked [] = None
last_linked (last ∷ []) = Some last
last_linked (first ∷ (second ∷ others)) = last_linked (second ∷ others)

abbrev pub first_number : List Linked → Option ℕ
first_number [] = None
first_number (first ∷ others) = Some first.number

abbrev pub near_of : Parts → Near
near_of parts = record { newer = last_linked parts.before; gone = parts.gone; older = first_number parts.behind }

-- the slot with its number, none for 0
abbrev pub linked_at : Table → ℕ → Option Linked
linked_at table number = if number == 0 then None else Some (record { number = number; slot = table.slot number })

abbrev pub number_at : ℕ → Option ℕ
number_at number = if number == 0 then None else Some number

-- so many slots of a chain from a place on, with their neighbours
abbrev pub near_at : Table → (chain : List ℕ) (from count : ℕ) → Near
near_at table chain from count = record {
  newer = linked_at table (slot_before chain from);
  gone = chain_of table (take count (drop from chain));
  older = number_at (slot_in chain (from + count));
}

-- those that go, and the slot in front of them, hold a row or a deletion
pub record IsNearStored (short : ℕ) (near : Near) : Type 0 where
  pub newer : IfSome near.newer (λ linked. IsStored short linked.slot)
  pub gone : All (λ linked. IsStored short linked.slot) near.gone

-- the slot with another `next`, if there is one
abbrev pub led_to : (next : ℕ) → Option Linked → List Linked
led_to next None = []
led_to next (Some linked) = record { number = linked.number; slot = record linked.slot { next = next } } ∷ []

-- the slots that change, in the order of their cells
abbrev pub near_slots : Header → Near → List Linked
near_slots header near = by_number (led_to (unwrap_or near.older 0) near.newer ++ freed near.gone header.free_slot)

-- those that go have no neighbour
abbrev pub is_alone : Near → Bool
is_alone near = is_none near.newer && is_none near.older

-- the header once the slots are given back, and the row pointer too where no slot stays
abbrev pub near_header : Header → Near → Header
near_header header near =
    record header { free_slot = first_or near.gone header.free_slot; free_row = if is_alone near then row_of near.gone else header.free_row }

-- a row pointer with this head, or free where there is none
abbrev pub pointer_to : Header → Option ℕ → Pointer
pointer_to header None = record { used = false; head = header.free_row }
pointer_to header (Some head) = record { used = true; head = head }

-- the row pointer, where no slot stays in front
abbrev pub near_pointer : Header → Near → List Content
near_pointer header near = if is_none near.newer then Content.pointer_is (row_of near.gone) (pointer_to header near.older) ∷ [] else []

abbrev pub near_cells : Header → Near → List Content
near_cells header near = Content.header_is (near_header header near) ∷ (map content_of (near_slots header near) ++ near_pointer header near)
