use Rattle.std.proofs.Common.{◌≡◌, ◌+◌, ◌≤◌, ◌++◌, length, map}
use Rattle.std.specs.VecDeque.{deque_len, deque_capacity}
use Rattle.px_xacts.specs.declared.write.WriteAt.{WriteAt}
use Rattle.px_xacts.specs.declared.transaction.Unswept.{Unswept}
use Rattle.px_xacts.proofs.xacts.ending.enqueue.Given as goal

abbrev pub invariant-loop-write : goal.invariant-loop-write
invariant-loop-write l = record {
  items : l.queue.items ≡ l.initial.queue.items ++ map {A = WriteAt} {B = Unswept} (λ w. record { place = l.place; number = l.number; committed = l.committed; frames = l.frames; write = w }) l.yielded;
  len : deque_len l.queue ≡ deque_len l.initial.queue + length l.yielded;
  capacity : deque_capacity l.initial.queue ≤ deque_capacity l.queue;
}
