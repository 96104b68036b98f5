use Rattle.std.proofs.Common.{◌≡◌, ℕ, ◌<◌, ◌≤◌, Bor, List, [], Option, Some, get_or, length, sym, ap, subst, ◌∙◌}
use Rattle.std.specs.Prelude.{IfSome, MatchOption}
use Rattle.std.specs.List.{HoldsAt}
use Rattle.px_site.specs.Disk.{at_rest}
use Rattle.px_site.specs.State.{State}
use Rattle.px_tidy.specs.Rows.{HasNoRowPast, IsNextRow}
use Rattle.px_tidy.specs.declared.tidying.Unneeded.{Unneeded}
use Rattle.px_held.proofs.Serving.{anywhere}
use Rattle.px_held.specs.Unlinking.{HasVersions}
use Rattle.px_held_tests.proofs.making.unlink_oldest.Goals as goal

-- a site without a byte
no_bytes : State
no_bytes = record { content = λ name. []; now = record { files = λ name. at_rest []; told = []; telling = [] }; past = [] }

pub prepare_unlink-requires : goal.prepare_unlink-requires
prepare_unlink-requires c =
    let old = c.requires no_bytes in
    let store = old.0 in
    let row = c.in_ok-row.row in
    let versions = c.in_ok-versions.versions.items in
    let oldest = c.in_ok-oldest.field-0 in
    let used = (subst (λ (o : Option ℕ). MatchOption o (HasNoRowPast (store.tables 1) 0) (IsNextRow (store.tables 1) 0)) c.in_ok-row.ensures.ok_part
    (c.in_ok-next_row.ensures.next store (anywhere no_bytes _ _ store old.1))).used in
    let stand = c.in_ok-versions.ensures.stand store (c.next_row.ensures.keeps store (anywhere no_bytes _ _ store old.1)) used in
    let met = subst (λ (o : Option (Bor Unneeded)). IfSome o (λ x. x.now ≡ get_or c.deref.result.now 0 x.now)) c.in_ok-oldest.ensures.ok_part c.first.ensures.item.1 in
    let some = subst (λ (o : Option (Bor Unneeded)). MatchOption o (length c.deref.result.now ≤ 0) (λ x. (0 < length c.deref.result.now) × HoldsAt (λ y. x.now ≡ y) c.deref.result.now 0))
    c.in_ok-oldest.ensures.ok_part c.first.ensures.item.3 in
    let first : oldest.now ≡ get_or versions 0 oldest.now = met ∙ ap (λ (l : List Unneeded). get_or l 0 oldest.now) c.deref.ensures.value in
    let within : 0 < length versions = subst (λ (l : List Unneeded). 0 < length l) c.deref.ensures.value some.0 in
    record {
      store = store;
      serves = c.versions_to_tidy.ensures.keeps store (c.next_row.ensures.keeps store (anywhere no_bytes _ _ store old.1));
      versions = subst (λ (v : Unneeded). HasVersions store 1 row v.newer v.slot 1) (sym first) (stand 0 oldest.now within);
    }
