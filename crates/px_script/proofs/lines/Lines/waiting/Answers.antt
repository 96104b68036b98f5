use Rattle.std.proofs.Common.{◌≡◌, ℕ, ◌+◌, ◌-◌, ◌==◌, false, length, take, drop, sym, ap, ◌∙◌, arith}
use Rattle.std.proofs.lemmas.List.{take_rest, take_all}
use Rattle.std.proofs.lemmas.List.Elements.{All-same}
use Rattle.px_script.specs.Progress.{Progress}
use Rattle.px_script.proofs.LineFeeds.{searched-until, searched-all}
use Rattle.px_script.proofs.lines.Lines.waiting.Goals as goal

pub complete-requires-clause-first : goal.complete-requires-clause-first
complete-requires-clause-first c =
    let w = c.self.inside in
    let bytes = c.as_slice.result.now in
    let slice = take (length bytes - w.handed) (drop w.handed bytes) in
    let whole : slice ≡ drop w.handed w.window = take_rest bytes w.handed ∙ ap (drop w.handed) c.as_slice.ensures in
    let held : slice ≡ c.args.self.now.held = whole ∙ ap (λ (progress : Progress). progress.held) c.self.view_is in
    let IsOther : ℕ → Type 0 = λ byte. (byte == 10) ≡ false in
    let none = All-same IsOther (take w.searched slice) (take w.searched (drop w.handed w.window)) (ap (take w.searched) whole) c.self.invariant.3 in
    let until = w.searched + c.in-Some.place in
    All-same IsOther (take until c.args.self.now.held) (take until slice) (ap (take until) (sym held))
    (searched-until slice w.searched c.in-Some.place none c.in-Some.ensures.0)

pub invariant_of-self : goal.invariant_of-self
invariant_of-self c =
    let w = c.self.inside in
    let bytes = c.as_slice.result.now in
    let slice = take (length bytes - w.handed) (drop w.handed bytes) in
    let whole : slice ≡ drop w.handed w.window = take_rest bytes w.handed ∙ ap (drop w.handed) c.as_slice.ensures in
    let IsOther : ℕ → Type 0 = λ byte. (byte == 10) ≡ false in
    let none = All-same IsOther (take w.searched slice) (take w.searched (drop w.handed w.window)) (ap (take w.searched) whole) c.self.invariant.3 in
    let all : take (length slice) (drop w.handed w.window) ≡ slice = ap (take (length slice)) (sym whole) ∙ take_all (length slice) slice (omega arith) in (
      c.self.invariant.0,
      c.self.invariant.1,
      omega (arith, ap length whole),
      All-same IsOther (take (length slice) (drop w.handed w.window)) slice all (searched-all slice w.searched none c.in-None.ensures),
      c.self.invariant.4,
      c.self.invariant.5,
    )

pub incomplete-requires-clause-none : goal.incomplete-requires-clause-none
incomplete-requires-clause-none c =
    let w = c.self.inside in
    let bytes = c.as_slice.result.now in
    let slice = take (length bytes - w.handed) (drop w.handed bytes) in
    let whole : slice ≡ drop w.handed w.window = take_rest bytes w.handed ∙ ap (drop w.handed) c.as_slice.ensures in
    let IsOther : ℕ → Type 0 = λ byte. (byte == 10) ≡ false in
    let none = All-same IsOther (take w.searched slice) (take w.searched (drop w.handed w.window)) (ap (take w.searched) whole) c.self.invariant.3 in
    All-same IsOther (drop w.handed w.window) slice (sym whole) (searched-all slice w.searched none c.in-None.ensures)
