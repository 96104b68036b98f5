use Rattle.std.proofs.Common.{◌≡◌, true, false, List, ltb, rules, sym, subst}
use Rattle.std.specs.List.Sorted.{IsPartitionPoint, IsPartitionedBy}
use Rattle.std.proofs.lemmas.List.Sorted.{IsPartitionPoint-from_clause, IsPartitionedBy-ltb}
use Rattle.px_dlog.specs.declared.inventory.ClosedLog.{ClosedLog}
use Rattle.px_dlog.proofs.Searching.{before_point, behind_point, closed_rise, rise_sorted}
use Rattle.px_dlog.proofs.inventory.Inventory.count_before.Goals as goal

pub returns-clause-before : goal.returns-clause-before
returns-clause-before c =
    let logs = c.args.self.now.closed.items in
    let p = λ (log : ClosedLog). ltb log.number c.args.number in
    let rise = closed_rise logs c.args.self.now.current c.args.self.now.next c.requires.order in
    let parted = subst (IsPartitionedBy p) (sym c.deref.ensures.value) (IsPartitionedBy-ltb (λ (log : ClosedLog). log.number) logs c.args.number (rise_sorted 1 rise.0 logs rise.1)) in
    before_point logs c.args.number c.partition_point.result
    (subst (λ (l : List ClosedLog). IsPartitionPoint (λ (log : ClosedLog). p log ≡ true) (λ (log : ClosedLog). p log ≡ false) l c.partition_point.result) c.deref.ensures.value
    (IsPartitionPoint-from_clause p _ _ c.partition_point.ensures.partitioned parted (λ a r q k. search rules)))

pub returns-clause-not_before : goal.returns-clause-not_before
returns-clause-not_before c =
    let logs = c.args.self.now.closed.items in
    let p = λ (log : ClosedLog). ltb log.number c.args.number in
    let rise = closed_rise logs c.args.self.now.current c.args.self.now.next c.requires.order in
    let parted = subst (IsPartitionedBy p) (sym c.deref.ensures.value) (IsPartitionedBy-ltb (λ (log : ClosedLog). log.number) logs c.args.number (rise_sorted 1 rise.0 logs rise.1)) in
    behind_point logs c.args.number c.partition_point.result
    (subst (λ (l : List ClosedLog). IsPartitionPoint (λ (log : ClosedLog). p log ≡ true) (λ (log : ClosedLog). p log ≡ false) l c.partition_point.result) c.deref.ensures.value
    (IsPartitionPoint-from_clause p _ _ c.partition_point.ensures.partitioned parted (λ a r q k. search rules)))
