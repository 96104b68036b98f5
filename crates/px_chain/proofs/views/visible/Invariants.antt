use Rattle.std.proofs.Common.{◌≡◌, drop}
use Rattle.std.specs.Prelude.{find}
use Rattle.px_chain.specs.Visible.{is_visible}
use Rattle.px_chain.proofs.views.visible.Given as goal

abbrev pub invariant-loop-view : goal.invariant-loop-view
invariant-loop-view l = find (is_visible l.own l.snapshot) l.chain ≡ find (is_visible l.own l.snapshot) (drop l.view-index l.chain)
