use Rattle.std.proofs.Common.{◌≡◌, ℕ, Bor, List, Vec, Global, option_map, sym, ap, subst, ◌∙◌}
use Rattle.px_tables.specs.Order.{IsNextName, NamesNonePast}
use Rattle.px_tables.proofs.Ordered.{next_name, no_name, start_of, walked_all, walked_to}
use Rattle.px_tables.proofs.keys.Keys.past.Goals.{in-Some, in-None}
use Rattle.px_tables.proofs.keys.Keys.past.Goals as goal

abbrev bytes : Vec ℕ Global → List ℕ
bytes key = key.items

pub returns-then-row-ne0 : goal.returns-then-row-ne0
returns-then-row-ne0 c =
    let first : Vec ℕ Global × ℕ = (c.in-Some-2.key.now, c.in-Some-2.row.now) in
    let whole = c.into_iter-key-iterator.result in
    let after = option_map (λ (key : Bor (Vec ℕ Global)). key.now.items) c.args.after in
    let from : c.match-after.start ≡ start_of c.args.after = elim c.match-after.branch [
      | in-Some w ↦ w.start-is ∙ sym (ap start_of w.in-Some.is)
      | in-None w ↦ w.start-is ∙ sym (ap start_of w.in-None.is)
    ] in
    let next = next_name bytes c.self.inside.rows.entries whole c.args.after c.match-after.start first from
    (c.into_iter-key-iterator.ensures.into_iter_gives ∙ c.range-key-items.ensures.between tt) c.range-key-items.ensures.ordered
    (walked_to whole c.loop-key.key-iterator c.next.new.self first c.loop-key.invariant c.in-Some-2.ensures.steps c.if-row-ne0.true) in
    subst (λ (key : List ℕ). IsNextName c.args.self.now after key c.in-Some-2.row.now) (sym c.as_slice.ensures.value)
    (subst (λ (keys : List (List ℕ × ℕ)). IsNextName keys after c.in-Some-2.key.now.items c.in-Some-2.row.now) c.self.view_is next)

pub returns : goal.returns
returns c =
    let whole = c.into_iter-key-iterator.result in
    let after = option_map (λ (key : Bor (Vec ℕ Global)). key.now.items) c.args.after in
    let from : c.match-after.start ≡ start_of c.args.after = elim c.match-after.branch [
      | in-Some w ↦ w.start-is ∙ sym (ap start_of w.in-Some.is)
      | in-None w ↦ w.start-is ∙ sym (ap start_of w.in-None.is)
    ] in
    subst (λ (keys : List (List ℕ × ℕ)). NamesNonePast keys after) c.self.view_is
    (no_name bytes c.self.inside.rows.entries whole c.args.after c.match-after.start from
    (c.into_iter-key-iterator.ensures.into_iter_gives ∙ c.range-key-items.ensures.between tt)
    (walked_all whole c.loop-key.key-iterator c.loop-key.invariant c.in-None-2.ensures.steps.0))
