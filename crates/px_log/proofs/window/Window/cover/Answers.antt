use Rattle.std.proofs.Common.{◌≡◌, ℕ, ◌≤◌, List, ◌++◌, length, take, drop, sym, subst, arith}
use Rattle.std.specs.Prelude.{nat_lt}
use Rattle.std.proofs.lemmas.List.{take_at}
use Rattle.px_log.specs.Window.{Covers, longest_frame}
use Rattle.px_log.proofs.Windows.{read_covers}
use Rattle.px_log.proofs.window.Window.cover.Goals as goal

pub returns-clause-covers : goal.returns-clause-covers
returns-clause-covers g c =
    let old = c.self.inside.buffer in
    let new = c.read_at.new.buf in
    let large : longest_frame ≤ length old.items = omega (arith, c.self.invariant.2) in
    let kept : length new ≡ length old.items = omega arith in
    let same : old.len ≡ length new = omega arith in
    let room : c.len.result ≡ length new = omega arith in
    let all : take old.len (new ++ drop (length new) old.items) ≡ new = take_at new (drop (length new) old.items) old.len (sym same) in
    subst (λ (b : List ℕ). Covers c.args.place (record { place = c.args.place; bytes = take c.in_ok-len.len b; ended = nat_lt c.in_ok-len.len c.len.result })) (sym all)
    (read_covers c.args.place new c.in_ok-len.len c.len.result c.in_ok-len.ensures.bound room (omega arith))
