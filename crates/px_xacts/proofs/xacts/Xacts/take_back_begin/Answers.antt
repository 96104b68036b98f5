use Rattle.std.proofs.Common.{◌≡◌, ◌-◌, take, vec_len, sym, ap, ◌∙◌, arith}
use Rattle.px_xacts.specs.Transactions.{Transactions, open_of}
use Rattle.px_xacts.proofs.Keeping.{kept-unbegun}
use Rattle.px_xacts.proofs.xacts.Xacts.take_back_begin.Goals as goal

pub overflow_sub-self : goal.overflow_sub-self
overflow_sub-self c =
    let kept = c.self.invariant in
    let at = ap (λ (all : Transactions). open_of all c.args.session) c.self.view_is ∙ c.requires.is in
    omega (arith, (kept.sound.are_open.each c.args.session c.requires.transaction at).from_one, c.requires.last, ap (λ (all : Transactions). all.begun) c.self.view_is)

pub invariant_of-self : goal.invariant_of-self
invariant_of-self c =
    let kept = c.self.invariant in
    let x = c.requires.transaction in
    let at = ap (λ (all : Transactions). open_of all c.args.session) c.self.view_is ∙ c.requires.is in
    let last : x.number ≡ c.self.inside.begun = c.requires.last ∙ sym (ap (λ (all : Transactions). all.begun) c.self.view_is) in
    let as_many : vec_len c.self.inside.standings ≡ c.self.inside.begun = c.self.inside.standings.ok.0 ∙ kept.sound.as_many in
    let popped : c.pop-open.new.self.items ≡ take (c.self.inside.begun - 1) c.self.inside.standings.items =
    c.pop-open.ensures.rest ∙ ap (λ n. take (n - 1) c.self.inside.standings.items) as_many in
    rw (popped, c.index.ensures.is)
    (kept-unbegun _ _ _ _ _ c.self.inside.active.items _ _ _ c.args.session x kept at last c.requires.empty)
