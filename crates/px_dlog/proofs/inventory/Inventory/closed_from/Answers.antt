use Rattle.std.proofs.Common.{◌≡◌, List, ap, ◌∙◌}
use Rattle.std.specs.List.{slice_get}
use Rattle.px_dlog.specs.declared.inventory.ClosedLog.{ClosedLog}
use Rattle.px_dlog.proofs.Searching.{first_from, got_item, none_from}
use Rattle.px_dlog.proofs.inventory.Inventory.closed_from.Goals as goal

pub returns-clause-first : goal.returns-clause-first
returns-clause-first c =
    let logs = c.args.self.now.closed.items in
    let at = c.count_before.result in
    let is : c.copied.result ≡ slice_get logs at =
    c.copied.ensures ∙ got_item c.deref.result.now at c.get.result c.get.ensures.lookup ∙ ap (λ (l : List ClosedLog). slice_get l at) c.deref.ensures.value in
    first_from logs c.args.self.now.current c.args.self.now.next c.args.number at c.copied.result c.requires.order
    (record { before = c.count_before.ensures.before; not_before = c.count_before.ensures.not_before }) is

pub returns-clause-none : goal.returns-clause-none
returns-clause-none c =
    let logs = c.args.self.now.closed.items in
    let at = c.count_before.result in
    let is : c.copied.result ≡ slice_get logs at =
    c.copied.ensures ∙ got_item c.deref.result.now at c.get.result c.get.ensures.lookup ∙ ap (λ (l : List ClosedLog). slice_get l at) c.deref.ensures.value in
    none_from logs c.args.number at c.copied.result (record { before = c.count_before.ensures.before; not_before = c.count_before.ensures.not_before }) is
