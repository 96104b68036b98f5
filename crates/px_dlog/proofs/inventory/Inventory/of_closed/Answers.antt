use Rattle.std.proofs.Common.{◌≡◌, ◌+◌, ◌-◌, ◌^◌, List, length, sym, ap, ◌∙◌, arith}
use Rattle.std.specs.List.{slice_get}
use Rattle.px_dlog.specs.declared.inventory.ClosedLog.{ClosedLog}
use Rattle.px_dlog.proofs.Searching.{last_number, order_found, past_found}
use Rattle.px_dlog.proofs.inventory.Inventory.of_closed.Goals as goal
use Rattle.px_dlog.proofs.inventory.Inventory.of_closed.Goals.{in-Some, in-None}

pub returns-clause-past : goal.returns-clause-past
returns-clause-past c =
    let closed = c.args.closed.items in
    let is : c.copied.result ≡ slice_get closed (length closed - 1) =
    c.copied.ensures ∙ c.last.ensures.value ∙ ap (λ (l : List ClosedLog). slice_get l (length l - 1)) c.deref.ensures.value in
    let greatest : c.match-copied.greatest ≡ last_number c.copied.result = elim c.match-copied.branch [
      | in-Some w ↦ w.greatest-is ∙ sym (ap last_number w.in-Some.is)
      | in-None w ↦ w.greatest-is ∙ sym (ap last_number w.in-None.is)
    ] in
    past_found closed c.args.named (c.from.result + 1) (2 ^ 32) c.copied.result c.requires is (omega (arith, c.from.ensures, c.max.ensures, greatest))

pub returns-clause-sound : goal.returns-clause-sound
returns-clause-sound c =
    let closed = c.args.closed.items in
    let is : c.copied.result ≡ slice_get closed (length closed - 1) =
    c.copied.ensures ∙ c.last.ensures.value ∙ ap (λ (l : List ClosedLog). slice_get l (length l - 1)) c.deref.ensures.value in
    let greatest : c.match-copied.greatest ≡ last_number c.copied.result = elim c.match-copied.branch [
      | in-Some w ↦ w.greatest-is ∙ sym (ap last_number w.in-Some.is)
      | in-None w ↦ w.greatest-is ∙ sym (ap last_number w.in-None.is)
    ] in
    record {
      order = order_found closed c.args.named (c.from.result + 1) (2 ^ 32) c.copied.result c.requires is (omega (arith, c.from.ensures, c.max.ensures, greatest));
      last = omega (arith, c.from.ensures, c.max.ensures);
    }
