use Rattle.std.proofs.Common.{List, ◌∷◌, ap, subst, ◌∙◌}
use Rattle.px_cells.specs.declared.pointer.Pointer.{Pointer}
use Rattle.px_cells.specs.declared.slot.Slot.{Slot}
use Rattle.px_tables.specs.Held.{table_at}
use Rattle.px_tables.specs.Keys.{AreKeys}
use Rattle.px_tables.proofs.Opened.{kept_opened, sound_opened}
use Rattle.px_tables.proofs.table.Table.of_cells.Goals as goal

pub keys_of-requires-clause-sound : goal.keys_of-requires-clause-sound
keys_of-requires-clause-sound c =
    let sound = c.requires.sound in
    let a = c.args in (
      a.short,
      sound.0,
      sound_opened a.number a.short a.header a.pointers.items c.as_slice.result.now a.slots.items c.as_slice-2.result.now
          (c.as_slice.ensures.value ∙ c.in_ok-insert-2.ensures.items)
          (c.as_slice-2.ensures.value ∙ c.in_ok-insert.ensures.items ∙ ap (λ (s : Slot). s ∷ a.slots.items) c.unused_slot.ensures)
          sound.0 sound.1,
    )

pub invariant_of-result : goal.invariant_of-result
invariant_of-result c =
    let a = c.args in
    let pointers = c.insert-2.new.self.items in
    let slots = c.insert.new.self.items in
    let keys = c.in_ok-keys.keys in
    kept_opened a.number a.short a.header a.pointers.items pointers a.slots.items slots
    c.in_ok-insert-2.ensures.items (c.in_ok-insert.ensures.items ∙ ap (λ (s : Slot). s ∷ a.slots.items) c.unused_slot.ensures)
    keys c.requires.is_short c.requires.rows c.requires.slots c.requires.sound
    (subst (λ (s : List Slot). AreKeys (table_at a.header pointers s) keys) c.as_slice-2.ensures.value
    (subst (λ (p : List Pointer). AreKeys (table_at a.header p c.as_slice-2.result.now) keys) c.as_slice.ensures.value c.in_ok-keys.ensures))

pub returns-clause-layout : goal.returns-clause-layout
returns-clause-layout c =
    let a = c.args in
    sound_opened a.number a.short a.header a.pointers.items c.insert-2.new.self.items a.slots.items c.insert.new.self.items
    c.in_ok-insert-2.ensures.items (c.in_ok-insert.ensures.items ∙ ap (λ (s : Slot). s ∷ a.slots.items) c.unused_slot.ensures)
