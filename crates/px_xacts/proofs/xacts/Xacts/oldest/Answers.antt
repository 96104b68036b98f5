use Rattle.px_xacts.proofs.Marks.{oldest_undone-append, oldest_given}
use Rattle.px_xacts.proofs.xacts.Xacts.oldest.Goals as goal

pub returns-clause-bounds : goal.returns-clause-bounds
returns-clause-bounds c =
    rw (c.oldest_undone-2.ensures, c.oldest_undone.ensures, c.oldest_open.ensures, c.deref.ensures.value, ← oldest_undone-append, c.as_slices.ensures.items, ← c.self.view_is)
    (oldest_given _ _ _ _ _ c.self.invariant.sound)
