use Rattle.std.specs.Int.{w32, w64, to_be_bytes}
use Rattle.px_recs.specs.Fields.{numbers_text}
use Rattle.px_recs.proofs.Appends.{appended}
use Rattle.px_recs.proofs.slot.append_numbers.Goals as goal

pub returns-clause-ok : goal.returns-clause-ok
unfolding numbers_text
returns-clause-ok c =
    let slot = c.args.slot.now in
    let new = c.put_u32-6.new.out.items in
    appended c.args.out.now.items c.put_u64.new.out.items new (to_be_bytes w64 slot.xn) _ c.in_ok-put_u64.ensures.ok
    (appended c.put_u64.new.out.items c.put_u32.new.out.items new (to_be_bytes w32 slot.next) _ c.in_ok-put_u32.ensures.ok
    (appended c.put_u32.new.out.items c.put_u32-2.new.out.items new (to_be_bytes w32 slot.row) _ c.in_ok-put_u32-2.ensures.ok
    (appended c.put_u32-2.new.out.items c.put_u32-3.new.out.items new (to_be_bytes w32 slot.tag) _ c.in_ok-put_u32-3.ensures.ok
    (appended c.put_u32-3.new.out.items c.put_u32-4.new.out.items new (to_be_bytes w32 slot.total) _ c.in_ok-put_u32-4.ensures.ok
    (appended c.put_u32-4.new.out.items c.put_u32-5.new.out.items new (to_be_bytes w32 slot.log) (to_be_bytes w32 slot.place) c.in_ok-put_u32-5.ensures.ok
    c.in_ok-put_u32-6.ensures.ok)))))
