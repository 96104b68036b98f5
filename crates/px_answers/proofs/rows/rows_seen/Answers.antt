use Rattle.std.proofs.Common.{◌≡◌, ◌++◌, ℕ, List, Option, sym, ap, subst, ◌∙◌}
use Rattle.std.specs.Prelude.{MatchOption, filter, option_to_list}
use Rattle.px_held.specs.Errors.{HasReadCause, IsPassing}
use Rattle.px_history.specs.Store.{Store}
use Rattle.px_model.specs.declared.row.Row.{Row}
use Rattle.px_model.specs.Machine.{view}
use Rattle.px_model.specs.Rows.{row_at}
use Rattle.px_tables.specs.Order.{HasNoKeyPast, IsBefore, IsNextKey, IsPast}
use Rattle.px_answers.specs.Reading.{Stays, has_tag, rows_to}
use Rattle.px_answers.proofs.Gathering.{all_gathered, next_with_tag, none_gathered}
use Rattle.px_answers.proofs.Leaving.{if_err, reads_behind, sees_still, stays_here, then_stays}
use Rattle.px_answers.proofs.Seen.{no_row_of_view, view_rows}
use Rattle.px_answers.proofs.rows.rows_seen.Goals as goal

-- what the next key is, past the last one
abbrev IsNext : Store → (t : ℕ) → Option (List ℕ) → Option (List ℕ × ℕ) → Type 0
IsNext store t last next = MatchOption next (HasNoKeyPast (store.tables t) last) (λ found. IsNextKey (store.tables t) last found.0 found.1)

pub loop-key-init : goal.loop-key-init
loop-key-init g c = record {
  stays = stays_here g.W.Site.tells g.W.Site.state g.W.Site.counts c.args.site.now c.args.held.now;
  rows = λ tells holders m store session xact sees is.
      c.new-rows.ensures ∙ sym (ap (filter (has_tag c.args.tag)) (none_gathered c.args.table (view m xact)));
}

pub returns-in_default-clause-rows : goal.returns-in_default-clause-rows
returns-in_default-clause-rows g c = λ tells holders m store session xact sees is.
    let now = c.loop-key.invariant.stays.keeps store sees.serves in
    let next = subst (λ (last : Option (List ℕ)). IsNext store c.args.table last c.in_ok-key.field-0) c.bytes_of.ensures (c.in_ok-key.ensures.next tells store now) in
    let none : HasNoKeyPast (store.tables c.args.table) c.loop-key.last =
    subst (λ (o : Option (List ℕ × ℕ)). IsNext store c.args.table c.loop-key.last o) c.in_default.is next in
    c.loop-key.invariant.rows tells holders m store session xact sees is
    ∙ ap (filter (has_tag c.args.tag)) (all_gathered c.args.table c.loop-key.last (view m xact) (view_rows xact sees)
    (λ key past. no_row_of_view c.args.reader.now c.args.table key sees is (λ row used same. none row used (subst (IsPast c.loop-key.last) (sym same) past))))

pub returns-in_err-seen-clause-reads : goal.returns-in_err-seen-clause-reads
returns-in_err-seen-clause-reads g c =
    let past : Stays g.W.Site.tells g.W.Site.state g.W.Site.counts c.loop-key.site c.key_past.new.site c.loop-key.held c.key_past.new.self =
    record { form = c.key_past.ensures.form; keeps = c.key_past.ensures.keeps; same = c.key_past.ensures.same; none_fell = c.key_past.ensures.none_fell } in
    reads_behind c.from_residual-in_err-seen.result (then_stays c.loop-key.invariant.stays past) c.row_in.ensures.stays
    (if_err (HasReadCause (g.W.Site.counts c.key_past.new.site) (g.W.Site.counts c.row_in.new.site)) c.from_residual-in_err-seen.result c.in_err-seen.field-0.0
    c.from_residual-in_err-seen.ensures.1 c.in_err-seen.ensures.fault)
    (λ tells short store serves still are.
    let now = c.loop-key.invariant.stays.keeps store serves in
    let next = subst (λ (last : Option (List ℕ)). IsNext store c.args.table last c.in_ok-key.field-0) c.bytes_of.ensures (c.in_ok-key.ensures.next tells store now) in
    let found : IsNextKey (store.tables c.args.table) c.loop-key.last c.in-Some.key c.in-Some.row =
    subst (λ (o : Option (List ℕ × ℕ)). IsNext store c.args.table c.loop-key.last o) c.in-Some.is next in
    if_err IsPassing c.from_residual-in_err-seen.result c.in_err-seen.field-0.0 c.from_residual-in_err-seen.ensures.1
    (c.in_err-seen.ensures.sound tells short store still are found.its_row.0))

pub loop-key-preserved : goal.loop-key-preserved
loop-key-preserved g c =
    let past : Stays g.W.Site.tells g.W.Site.state g.W.Site.counts c.loop-key.site c.key_past.new.site c.loop-key.held c.key_past.new.self =
    record { form = c.key_past.ensures.form; keeps = c.key_past.ensures.keeps; same = c.key_past.ensures.same; none_fell = c.key_past.ensures.none_fell } in
    let before = then_stays c.loop-key.invariant.stays past in
    record {
      stays = then_stays before c.row_in.ensures.stays;
      rows = λ tells holders m store session xact sees is.
          let now = c.loop-key.invariant.stays.keeps store sees.serves in
          let next = subst (λ (last : Option (List ℕ)). IsNext store c.args.table last c.in_ok-key.field-0) c.bytes_of.ensures (c.in_ok-key.ensures.next tells store now) in
          let found : IsNextKey (store.tables c.args.table) c.loop-key.last c.in-Some.key c.in-Some.row =
          subst (λ (o : Option (List ℕ × ℕ)). IsNext store c.args.table c.loop-key.last o) c.in-Some.is next in
          let seen : c.in_ok-seen.seen ≡ row_at (c.args.table, c.in-Some.key) (view m xact) =
          subst (λ (k : List ℕ). c.in_ok-seen.seen ≡ row_at (c.args.table, k) (view m xact)) found.its_row.1
          (c.in_ok-seen.ensures.row tells holders m store session xact (sees_still tells before sees) is found.its_row.0) in
          let tagged : List Row → List Row = filter (has_tag c.args.tag) in
          c.in_ok-push_wanted.ensures
          ∙ ap (λ (l : List Row). l ++ tagged (option_to_list c.in_ok-seen.seen)) (c.loop-key.invariant.rows tells holders m store session xact sees is)
          ∙ ap (λ (o : Option Row). tagged (rows_to c.args.table c.loop-key.last (view m xact)) ++ tagged (option_to_list o)) seen
          ∙ sym (next_with_tag c.args.tag c.args.table c.loop-key.last c.in-Some.key (view m xact) (view_rows xact sees) found.past
          (λ other past_last before_key. no_row_of_view c.args.reader.now c.args.table other sees is
          (λ row used same. found.least row used (subst (IsPast c.loop-key.last) (sym same) past_last)
          (subst (λ (k : List ℕ). IsBefore k c.in-Some.key) (sym same) before_key))));
    }
