use Rattle.std.proofs.Common.{◌≡◌, ℕ, List, Option, sym, subst}
use Rattle.std.specs.Prelude.{IfOk, MatchOption}
use Rattle.px_model.specs.declared.row.Row.{Row}
use Rattle.px_model.specs.Machine.{view}
use Rattle.px_model.specs.Rows.{row_at}
use Rattle.px_tables.specs.Keys.{HasNoRow, IsRowOf}
use Rattle.px_answers.specs.Reading.{Stays}
use Rattle.px_answers.proofs.Leaving.{reads_behind, sees_still}
use Rattle.px_answers.proofs.Seen.{no_row_of_view}
use Rattle.px_answers.proofs.rows.row_seen.Goals as goal

pub returns-in-Some-clause-row : goal.returns-in-Some-clause-row
returns-in-Some-clause-row g c = λ tells holders m store session xact sees is.
    let before : Stays g.W.Site.tells g.W.Site.state g.W.Site.counts c.args.site.now c.row_of.new.site c.args.held.now c.row_of.new.self =
    record { form = c.row_of.ensures.form; keeps = c.row_of.ensures.keeps; same = c.row_of.ensures.same; none_fell = c.row_of.ensures.none_fell } in
    let its = subst (λ (o : Option ℕ). MatchOption o (HasNoRow (store.tables c.args.table) c.args.key.now) (λ row. IsRowOf (store.tables c.args.table) c.args.key.now row))
    c.in-Some.is (c.in_ok-row.ensures.row tells store sees.serves) in
    subst (λ (k : List ℕ). IfOk c.row_in.result (λ (row : Option Row). row ≡ row_at (c.args.table, k) (view m xact))) its.1
    (c.row_in.ensures.row tells holders m store session xact (sees_still tells before sees) is its.0)

pub returns-in-Some-clause-reads : goal.returns-in-Some-clause-reads
returns-in-Some-clause-reads g c =
    let before : Stays g.W.Site.tells g.W.Site.state g.W.Site.counts c.args.site.now c.row_of.new.site c.args.held.now c.row_of.new.self =
    record { form = c.row_of.ensures.form; keeps = c.row_of.ensures.keeps; same = c.row_of.ensures.same; none_fell = c.row_of.ensures.none_fell } in
    reads_behind c.row_in.result before c.row_in.ensures.stays c.row_in.ensures.fault
    (λ tells short store serves still are. c.row_in.ensures.sound tells short store still are
    (subst (λ (o : Option ℕ). MatchOption o (HasNoRow (store.tables c.args.table) c.args.key.now) (λ row. IsRowOf (store.tables c.args.table) c.args.key.now row))
    c.in-Some.is (c.in_ok-row.ensures.row tells store serves)).0)

pub returns-in-None-clause-row : goal.returns-in-None-clause-row
returns-in-None-clause-row g c = λ tells holders m store session xact sees is.
    sym (no_row_of_view c.args.reader.now c.args.table c.args.key.now sees is
    (subst (λ (o : Option ℕ). MatchOption o (HasNoRow (store.tables c.args.table) c.args.key.now) (λ row. IsRowOf (store.tables c.args.table) c.args.key.now row))
    c.in-None.is (c.in_ok-row.ensures.row tells store sees.serves)))
