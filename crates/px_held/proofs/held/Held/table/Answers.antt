use Rattle.std.proofs.Common.{◌≡◌, ◌-◌, Bor, List, length, ltb, get_or, ap, subst, ◌∙◌}
use Rattle.std.specs.Prelude.{IfSome, MatchOption, is_some}
use Rattle.px_chain.specs.Unused.{unused_table}
use Rattle.px_opened.specs.Opened.{tables_of}
use Rattle.px_tables.specs.Held.{Held}
use Rattle.px_held.specs.Serving.{HeldTables, IsTableOf}
use Rattle.px_held.proofs.Numbered.{no_table_0, table_got}
use Rattle.px_held.proofs.held.Held.table.Goals as goal

pub returns-then-number-eq0 : goal.returns-then-number-eq0
returns-then-number-eq0 c = ap (tables_of c.args.self.now.tables) c.if-number-eq0.true ∙ no_table_0 c.args.self.now.tables

pub returns : goal.returns
returns c =
    let number = c.args.number in
    let got = c.get.result in
    let same = c.deref.ensures.value in
    let lookup = c.get.ensures.lookup in
    subst (λ (held : HeldTables). MatchOption got (tables_of held.tables number ≡ unused_table) (λ (table : Bor Held). IsTableOf held number table.now)) c.self.view_is
    (table_got (record { short = c.self.inside.short; tables = c.self.inside.tables.items }) number got c.self.invariant.1 c.if-number-eq0.false
    (subst (λ (l : List Held). is_some got ≡ ltb (number - 1) (length l)) same lookup.0)
    (subst (λ (l : List Held). IfSome got (λ (table : Bor Held). table.now ≡ get_or l (number - 1) table.now)) same lookup.1))
