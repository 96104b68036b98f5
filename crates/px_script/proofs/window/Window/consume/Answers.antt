use Rattle.std.proofs.Common.{ℕ, drop, ap, ◌∙◌, arith}
use Rattle.std.proofs.lemmas.List.{length-take, length-drop}
use Rattle.px_script.proofs.Held.{consumed}
use Rattle.px_script.proofs.window.Window.consume.Goals as goal

pub returns : goal.returns
returns c =
    let w = c.self.inside in
    let fits = rw (← c.self.view_is) at c.requires in
    consumed w.bytes.items w.start w.end c.args.count (omega (arith, fits, length-take {A = ℕ}, length-drop {A = ℕ}))
    ∙ ap (drop c.args.count) c.self.view_is
