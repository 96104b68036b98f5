use Rattle.std.proofs.Common.{◌≡◌, ℕ, List, Option, None, Some, sym, subst, ◌∙◌, option_map}
use Rattle.std.specs.Prelude.{MatchOption}
use Rattle.px_held.specs.Errors.{HasReadCause, IsPassing}
use Rattle.px_history.specs.Store.{Store}
use Rattle.px_logged.specs.Recounting.{rows_now}
use Rattle.px_model.specs.Rows.{row_at}
use Rattle.px_tables.specs.Order.{HasNoKeyPast, IsNextKey}
use Rattle.px_answers.specs.Reading.{Stays}
use Rattle.px_answers.proofs.Leaving.{if_err, reads_behind, sees_still, then_stays}
use Rattle.px_committed.specs.Walking.{last_passed}
use Rattle.px_committed.proofs.Firsts.{come_further, least_found, none_left}
use Rattle.px_committed.proofs.Now.{gap_before, none_behind}
use Rattle.px_committed.proofs.rows.row_past.Goals as goal

-- what the next key is, past the last one
abbrev IsNext : Store → (t : ℕ) → Option (List ℕ) → Option (List ℕ × ℕ) → Type 0
IsNext store t last next = MatchOption next (HasNoKeyPast (store.tables t) last) (λ found. IsNextKey (store.tables t) last found.0 found.1)

pub returns-in_default-clause-row : goal.returns-in_default-clause-row
returns-in_default-clause-row g c = λ tells holders m store sees.
    let after = option_map (λ key. key.now) c.args.after in
    let last = last_passed after c.loop-key.passed in
    let now = c.loop-key.invariant.stays.keeps store sees.serves in
    let next = subst (λ (k : Option (List ℕ)). IsNext store c.args.table k c.in_ok-key.field-0) c.last_passed.ensures (c.in_ok-key.ensures.next tells store now) in
    let none : HasNoKeyPast (store.tables c.args.table) last = subst (λ (o : Option (List ℕ × ℕ)). IsNext store c.args.table last o) c.in_default.is next in
    none_left (rows_now m) c.args.table after last (c.loop-key.invariant.come tells holders m store sees) (none_behind c.args.table last sees none)

pub returns-in_err-row-clause-reads : goal.returns-in_err-row-clause-reads
returns-in_err-row-clause-reads g c =
    let after = option_map (λ key. key.now) c.args.after in
    let last = last_passed after c.loop-key.passed in
    let past : Stays g.W.Site.tells g.W.Site.state g.W.Site.counts c.loop-key.site c.key_past.new.site c.loop-key.held c.key_past.new.self =
    record { form = c.key_past.ensures.form; keeps = c.key_past.ensures.keeps; same = c.key_past.ensures.same; none_fell = c.key_past.ensures.none_fell } in
    reads_behind c.from_residual-in_err-row.result (then_stays c.loop-key.invariant.stays past) c.row_in.ensures.stays
    (if_err (HasReadCause (g.W.Site.counts c.key_past.new.site) (g.W.Site.counts c.row_in.new.site)) c.from_residual-in_err-row.result c.in_err-row.field-0.0
    c.from_residual-in_err-row.ensures.1 c.in_err-row.ensures.fault)
    (λ tells short store serves still are.
    let now = c.loop-key.invariant.stays.keeps store serves in
    let next = subst (λ (k : Option (List ℕ)). IsNext store c.args.table k c.in_ok-key.field-0) c.last_passed.ensures (c.in_ok-key.ensures.next tells store now) in
    let found : IsNextKey (store.tables c.args.table) last c.in-Some.key c.in-Some.row = subst (λ (o : Option (List ℕ × ℕ)). IsNext store c.args.table last o) c.in-Some.is next in
    if_err IsPassing c.from_residual-in_err-row.result c.in_err-row.field-0.0 c.from_residual-in_err-row.ensures.1
    (c.in_err-row.ensures.sound tells short store still are found.its_row.0))

pub returns-in-Some-2-clause-row : goal.returns-in-Some-2-clause-row
returns-in-Some-2-clause-row g c = λ tells holders m store sees.
    let after = option_map (λ key. key.now) c.args.after in
    let last = last_passed after c.loop-key.passed in
    let past : Stays g.W.Site.tells g.W.Site.state g.W.Site.counts c.loop-key.site c.key_past.new.site c.loop-key.held c.key_past.new.self =
    record { form = c.key_past.ensures.form; keeps = c.key_past.ensures.keeps; same = c.key_past.ensures.same; none_fell = c.key_past.ensures.none_fell } in
    let before = then_stays c.loop-key.invariant.stays past in
    let now = c.loop-key.invariant.stays.keeps store sees.serves in
    let next = subst (λ (k : Option (List ℕ)). IsNext store c.args.table k c.in_ok-key.field-0) c.last_passed.ensures (c.in_ok-key.ensures.next tells store now) in
    let found : IsNextKey (store.tables c.args.table) last c.in-Some.key c.in-Some.row = subst (λ (o : Option (List ℕ × ℕ)). IsNext store c.args.table last o) c.in-Some.is next in
    let seen : row_at (c.args.table, c.in-Some.key) (rows_now m) ≡ Some c.in-Some-2.row =
    subst (λ (k : List ℕ). row_at (c.args.table, k) (rows_now m) ≡ Some c.in-Some-2.row) found.its_row.1
    (sym (c.in_ok-row.ensures.row tells holders m store (sees_still tells before sees) found.its_row.0) ∙ c.in-Some-2.is) in
    least_found (rows_now m) c.args.table after last c.in-Some.key c.in-Some-2.row (c.loop-key.invariant.come tells holders m store sees)
    found.past (gap_before c.args.table last c.in-Some.key c.in-Some.row sees found) seen

pub loop-key-preserved : goal.loop-key-preserved
loop-key-preserved g c =
    let after = option_map (λ key. key.now) c.args.after in
    let last = last_passed after c.loop-key.passed in
    let past : Stays g.W.Site.tells g.W.Site.state g.W.Site.counts c.loop-key.site c.key_past.new.site c.loop-key.held c.key_past.new.self =
    record { form = c.key_past.ensures.form; keeps = c.key_past.ensures.keeps; same = c.key_past.ensures.same; none_fell = c.key_past.ensures.none_fell } in
    let before = then_stays c.loop-key.invariant.stays past in
    record {
      stays = then_stays before c.row_in.ensures.stays;
      come = λ tells holders m store sees.
          let now = c.loop-key.invariant.stays.keeps store sees.serves in
          let next = subst (λ (k : Option (List ℕ)). IsNext store c.args.table k c.in_ok-key.field-0) c.last_passed.ensures (c.in_ok-key.ensures.next tells store now) in
          let found : IsNextKey (store.tables c.args.table) last c.in-Some.key c.in-Some.row = subst (λ (o : Option (List ℕ × ℕ)). IsNext store c.args.table last o) c.in-Some.is next in
          let seen : row_at (c.args.table, c.in-Some.key) (rows_now m) ≡ None =
          subst (λ (k : List ℕ). row_at (c.args.table, k) (rows_now m) ≡ None) found.its_row.1
          (sym (c.in_ok-row.ensures.row tells holders m store (sees_still tells before sees) found.its_row.0) ∙ c.in_default-2.is) in
          come_further (rows_now m) c.args.table after last c.in-Some.key (c.loop-key.invariant.come tells holders m store sees)
          found.past (gap_before c.args.table last c.in-Some.key c.in-Some.row sees found) seen;
    }
