use Rattle.std.proofs.Common.{◌≡◌, ◌<◌, ◌&&◌, cond, nat_lt, length, get_or, sym, ap, ◌∙◌, arith, add-one}
use Rattle.px_site.specs.Disk.{written}
use Rattle.px_memsite.specs.Crash.{is_touched, torn_byte}
use Rattle.px_memsite.specs.Files.{state_of}
use Rattle.px_memsite.proofs.Kept.{torn_here, left_more, left_out, fits_more, each_more, touched_later}
use Rattle.px_memsite.proofs.file.MemFile.torn.Goals as goal

pub returns-in-None-clause-torn : goal.returns-in-None-clause-torn
returns-in-None-clause-torn c =
    let inv = c.loop-at.invariant in
    let file = state_of c.args.self.now in
    let out = left_out c.args.left.now file c.loop-at.at c.loop-at.left inv.left c.in-None.ensures.none inv.fits in
    record {
      size = omega (arith, inv.size, out, c.loop-at-test.true, ap length c.requires);
      each = λ at here. inv.each at (omega (arith, inv.size, here));
    }

pub returns-in-None-clause-left : goal.returns-in-None-clause-left
returns-in-None-clause-left c =
    let file = state_of c.args.self.now in
    let within : c.loop-at.at < length (written file) = omega (arith, c.loop-at-test.true, ap length c.requires) in
    omega (arith, c.in-None.ensures.left, c.in-None.ensures.none.1, c.loop-at.invariant.left, touched_later file c.loop-at.at (length (written file)) (omega arith))

pub loop-at-preserved : goal.loop-at-preserved
loop-at-preserved c =
    let inv = c.loop-at.invariant in
    let k = c.args.left.now in
    let file = state_of c.args.self.now in
    let at = c.loop-at.at in
    let left = c.loop-at.left in
    let byte : c.in-Some.byte ≡ torn_byte k file at =
    c.in-Some.ensures.some ∙ ap (λ l. cond (is_touched file at && nat_lt 0 left) (get_or l at 0) (get_or file.synced at 0)) c.requires ∙ sym (torn_here k file at left inv.left) in
    rw add-one (record {
      size = omega (arith, inv.size, c.in_ok-push-in-Some.ensures.len);
      fits = omega (arith, fits_more k file at left inv.left inv.fits c.in-Some.ensures.within);
      left = c.in-Some.ensures.left ∙ left_more k file at left inv.left;
      each = each_more k file c.loop-at.bytes.items c.push.new.self.items at c.in-Some.byte inv.size c.in_ok-push-in-Some.ensures.items byte inv.each;
    })
