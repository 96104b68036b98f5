use Rattle.std.proofs.Common.{ℕ, List, Option, subst, ◌∙◌, ap, sym, ◌+◌}
use Rattle.std.specs.Prelude.{MatchOption}
use Rattle.px_answers.proofs.Leaving.{stays_here, then_stays}
use Rattle.px_answers.specs.Reading.{Stays}
use Rattle.px_history.specs.Store.{Store}
use Rattle.px_tables.specs.Order.{HasNoKeyPast, IsNextKey}
use Rattle.px_recovery.proofs.Counted.{all_keys, next_key, no_keys}
use Rattle.px_recovery.proofs.counting.count_keys.Goals as goal

-- what the next key is, past the last one
abbrev IsNext : Store → (t : ℕ) → Option (List ℕ) → Option (List ℕ × ℕ) → Type 0
IsNext store t last next = MatchOption next (HasNoKeyPast (store.tables t) last) (λ found. IsNextKey (store.tables t) last found.0 found.1)

pub loop-count-init : goal.loop-count-init
loop-count-init g c = record {
  stays = stays_here g.W.Site.tells g.W.Site.state g.W.Site.counts c.args.site.now c.args.held.now;
  count = λ tells store rows serves has. no_keys c.args.table rows;
}

pub returns-in_default-clause-count : goal.returns-in_default-clause-count
returns-in_default-clause-count g c = λ tells store rows serves has.
    let now = c.loop-count.invariant.stays.keeps store serves in
    let next = subst (λ (last : Option (List ℕ)). IsNext store c.args.table last c.in_ok-key.field-0) c.bytes_of.ensures (c.in_ok-key.ensures.next tells store now) in
    let none : HasNoKeyPast (store.tables c.args.table) c.loop-count.last =
    subst (λ (o : Option (List ℕ × ℕ)). IsNext store c.args.table c.loop-count.last o) c.in_default.is next in
    c.loop-count.invariant.count tells store rows serves has ∙ all_keys store rows c.args.table c.loop-count.last has none

pub loop-count-preserved : goal.loop-count-preserved
loop-count-preserved g c =
    let past : Stays g.W.Site.tells g.W.Site.state g.W.Site.counts c.loop-count.site c.key_past.new.site c.loop-count.held c.key_past.new.self =
    record { form = c.key_past.ensures.form; keeps = c.key_past.ensures.keeps; same = c.key_past.ensures.same; none_fell = c.key_past.ensures.none_fell } in
    record {
      stays = then_stays c.loop-count.invariant.stays past;
      count = λ tells store rows serves has.
          let now = c.loop-count.invariant.stays.keeps store serves in
          let next = subst (λ (last : Option (List ℕ)). IsNext store c.args.table last c.in_ok-key.field-0) c.bytes_of.ensures (c.in_ok-key.ensures.next tells store now) in
          let found : IsNextKey (store.tables c.args.table) c.loop-count.last c.in-Some.key c.in-Some._row =
          subst (λ (o : Option (List ℕ × ℕ)). IsNext store c.args.table c.loop-count.last o) c.in-Some.is next in
          ap (λ (n : ℕ). n + 1) (c.loop-count.invariant.count tells store rows serves has)
          ∙ sym (next_key store rows c.args.table c.loop-count.last c.in-Some.key c.in-Some._row has found);
    }
