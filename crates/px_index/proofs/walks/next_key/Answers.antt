use Rattle.std.proofs.Common.{List, ℕ, Bor, Option, Some, None, option_map, subst}
use Rattle.px_index.specs.Listed.{IsNextFrom}
use Rattle.px_index.specs.Walks.{entry_at}
use Rattle.px_index.specs.declared.entry.Entry.{Entry}
use Rattle.px_index.specs.declared.field.Field.TheVariants.{Key}
use Rattle.px_index.proofs.Next as next
use Rattle.px_index.proofs.walks.next_key.Goals as goal

pub returns-in-Some-clause-next : goal.returns-in-Some-clause-next
returns-in-Some-clause-next g c listed is =
    let after = option_map (λ (key : Bor (List ℕ)). key.now) c.args.after in
    let from = c.in_ok-least_past.ensures in
    let read = subst (λ (o : Option Entry). IsNextFrom listed (entry_at c.args.table (Key c.in_ok-least_past.field-0) 0) o) c.in-Some.is (c.in_ok-next.ensures.next listed is) in
    let found = subst (λ (key : List ℕ). IsNextFrom listed (entry_at c.args.table (Key key) 0) (Some c.in-Some.next)) from read in
    rw c.key_there.ensures (next.next_key listed c.args.table after c.in-Some.next found)

pub returns-clause-next : goal.returns-clause-next
returns-clause-next g c listed is =
    let after = option_map (λ (key : Bor (List ℕ)). key.now) c.args.after in
    let from = c.in_ok-least_past.ensures in
    let read = subst (λ (o : Option Entry). IsNextFrom listed (entry_at c.args.table (Key c.in_ok-least_past.field-0) 0) o) c.in-None.is (c.in_ok-next.ensures.next listed is) in
    let none = subst (λ (key : List ℕ). IsNextFrom listed (entry_at c.args.table (Key key) 0) None) from read in
    next.none_past listed c.args.table after none
