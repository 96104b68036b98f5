use Rattle.std.proofs.Common.{ℕ, subst, arith}
use Rattle.px_dlog.proofs.Searching.{IsCount, removes, stands}
use Rattle.px_dlog.proofs.inventory.Inventory.remove.Goals as goal

pub remove-requires : goal.remove-requires
remove-requires c =
    let closed = c.args.self.now.closed.items in
    let at = c.count_before-at.result in
    let count = subst (λ (n : ℕ). IsCount closed n at) c.from.ensures (record { before = c.count_before-at.ensures.before; not_before = c.count_before-at.ensures.not_before }) in
    let stand = stands closed c.args.self.now.current c.args.self.now.next c.args.number at c.requires.sound.order c.requires.closed count in
    omega (arith, stand.within, c.args.self.now.closed.ok)

pub returns-clause-logs : goal.returns-clause-logs
returns-clause-logs c =
    let closed = c.args.self.now.closed.items in
    let at = c.count_before-at.result in
    let count = subst (λ (n : ℕ). IsCount closed n at) c.from.ensures (record { before = c.count_before-at.ensures.before; not_before = c.count_before-at.ensures.not_before }) in
    (removes closed c.args.self.now.current c.args.self.now.next c.args.number at c.remove.new.self.items c.requires.sound.order c.requires.closed count c.remove.ensures.by_index.2).logs

pub returns-clause-sound : goal.returns-clause-sound
returns-clause-sound c =
    let closed = c.args.self.now.closed.items in
    let at = c.count_before-at.result in
    let count = subst (λ (n : ℕ). IsCount closed n at) c.from.ensures (record { before = c.count_before-at.ensures.before; not_before = c.count_before-at.ensures.not_before }) in
    record {
      order = (removes closed c.args.self.now.current c.args.self.now.next c.args.number at c.remove.new.self.items c.requires.sound.order c.requires.closed count c.remove.ensures.by_index.2).order;
      last = c.requires.sound.last;
    }
