use Rattle.std.proofs.Common.{◌<◌, ◌^◌, ap, arith}
use Rattle.px_tables.specs.Held.{table_of}
use Rattle.px_tidy.proofs.Walks.{chain_small}
use Rattle.px_tidy.proofs.tidying.chain_fits.Goals as goal

pub returns : goal.returns
returns c =
    let sound = c.is_sound.ensures.sound in
    let cells = c.args.table.now.cells in
    let small = chain_small cells.short (table_of cells) sound.0 c.args.row sound.1 c.requires in
    let slots = ap (λ h. h.slots) c.header-slots.ensures in
    let fits : c.header-slots.result.slots < 2 ^ 32 = first_of (omega (arith, c.header-slots.type_inv), assumption (c.header-slots.type_inv)) in
    (sound.0, sound.1, omega (arith, small, slots, fits))
