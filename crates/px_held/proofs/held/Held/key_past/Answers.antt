use Rattle.std.proofs.Common.{ℕ, List, Bor, Option, Some, None, option_map, sym, subst}
use Rattle.std.specs.Prelude.{MatchOption}
use Rattle.px_chain.specs.Table.{Table}
use Rattle.px_tables.specs.Held.{table_of}
use Rattle.px_tables.specs.Order.{HasNoKeyPast, IsNextKey}
use Rattle.px_held.proofs.Serving.{no_key, table_served}
use Rattle.px_held.proofs.held.Held.key_past.Goals as goal

abbrev bytes : Option (Bor (List ℕ)) → Option (List ℕ)
bytes after = option_map (λ (key : Bor (List ℕ)). key.now) after

abbrev IsNext : Table → Option (List ℕ) → Option (Bor (List ℕ) × ℕ) → Type 0
IsNext table after found = MatchOption found (HasNoKeyPast table after) (λ next. IsNextKey table after next.0.now next.1)

pub returns-in_default-clause-next : goal.returns-in_default-clause-next
returns-in_default-clause-next g c = λ tells store serves.
    no_key (g.W.Site.state c.args.site.now) c.args.self.now store c.args.table (bytes c.args.after) serves c.in_default.ensures

pub returns-in_default-2-clause-next : goal.returns-in_default-2-clause-next
returns-in_default-2-clause-next g c = λ tells store serves.
    let table = table_of c.in-Some.table.now.cells in
    let after = bytes c.args.after in
    let none : IsNext table after None = subst (λ (o : Option (Bor (List ℕ) × ℕ)). IsNext table after o) c.in_default-2.is c.in_ok-key.ensures in
    subst (λ (t : Table). HasNoKeyPast t after) (sym (table_served (g.W.Site.state c.args.site.now) c.args.self.now store c.args.table serves c.in-Some.ensures)) none

pub returns-clause-next : goal.returns-clause-next
returns-clause-next g c = λ tells store serves.
    let table = table_of c.in-Some.table.now.cells in
    let after = bytes c.args.after in
    let next : IsNext table after (Some (c.in-Some-2.key, c.in-Some-2.row)) = subst (λ (o : Option (Bor (List ℕ) × ℕ)). IsNext table after o) c.in-Some-2.is c.in_ok-key.ensures in
    subst (λ (t : Table). IsNextKey t after c.in_ok-key-2.key c.in-Some-2.row)
    (sym (table_served (g.W.Site.state c.args.site.now) c.args.self.now store c.args.table serves c.in-Some.ensures))
    (subst (λ (key : List ℕ). IsNextKey table after key c.in-Some-2.row) (sym c.in_ok-key-2.ensures) next)
