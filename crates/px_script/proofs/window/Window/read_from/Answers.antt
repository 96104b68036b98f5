use Rattle.std.proofs.Common.{◌≡◌, ℕ, List, ◌+◌, ◌-◌, ◌≤◌, ◌++◌, length, take, slice_range, ap, ◌∙◌, arith, rules}
use Rattle.std.proofs.lemmas.List.{length-take, length-take-le, length-drop, with_items_is, places}
use Rattle.std.proofs.lemmas.Slice.{between_from_start}
use borrow.Rule.Slice.PartMut.{put_mid}
use Rattle.px_script.proofs.Held.{grown}
use Rattle.px_script.proofs.window.Window.read_from.Goals as goal

pub returns-in-Ok-clause-read : goal.returns-in-Ok-clause-read
returns-in-Ok-clause-read g c =
    let w = c.self.inside in
    let held = w.end - w.start in
    let v = c.make_room.new.bytes in
    let lent = c.deref_mut.result.now in
    let buf = c.read-read.new.buf in
    let count = c.in-Ok.count in
    let room = held + c.args.room - held in
    let value : lent ≡ v.items = c.deref_mut.ensures.value in
    let roomy : held + c.args.room ≤ length v.items = c.in_ok-make_room.ensures.room in
    let same : length lent ≡ length v.items = ap length value in
    let size : length buf ≡ c.args.room = omega (arith, c.read-read.auto.buf, length-take {A = ℕ}, length-drop {A = ℕ}) in
    let bound : count ≤ length buf = c.in-Ok.ensures.bound in
    record {
      piece = take count buf;
      appended = ap (λ (bytes : List ℕ). slice_range bytes 0 (held + count)) (with_items_is v (put_mid held room lent buf) (search (rules, places)))
          ∙ grown lent buf 0 held room count (omega arith) (omega arith) bound
          ∙ ap (λ (front : List ℕ). front ++ take count buf) (between_from_start lent held ∙ ap (take held) value ∙ c.in_ok-make_room.ensures.held ∙ c.self.view_is);
      counted = length-take-le count buf bound;
      within = omega arith;
      taken = λ tells. (c.in-Ok.ensures.bytes tells).ok.taken;
      ended = λ tells none. (c.in-Ok.ensures.bytes tells).ok.ended none (omega (arith, c.requires.some));
    }
