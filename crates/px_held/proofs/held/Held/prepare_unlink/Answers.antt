use Rattle.std.proofs.Common.{sym, subst, arith}
use Rattle.px_held.specs.Serving.{HeldTables}
use Rattle.px_held.specs.Unlinking.{IsUnlinkReady, ServesVersions}
use Rattle.px_held.proofs.Replaced.{held_at, held_there}
use Rattle.px_held.proofs.Unlinked.{run_held, used_held, used_there}
use Rattle.px_held.proofs.held.Held.prepare_unlink.Goals as goal

pub overflow_sub-table : goal.overflow_sub-table
overflow_sub-table g c =
    let site = g.W.Site.state c.args.site.now in
    (used_there site c.args.self.now c.requires.store c.args.table c.args.row c.requires.serves c.requires.versions.used).0

pub index-requires : goal.index-requires
index-requires g c =
    let site = g.W.Site.state c.args.site.now in
    let held : HeldTables = record { short = c.self.inside.short; tables = c.self.inside.tables.items } in
    let ours = subst (λ (h : HeldTables). ServesVersions site h c.args.table c.args.row c.args.newer c.args.first c.args.count) (sym c.self.view_is) c.requires in
    let there = used_there site held ours.store c.args.table c.args.row ours.serves ours.versions.used in
    let some = there.0 in
    let within = there.1 in
    omega (arith, some, within)

pub prepare_unlink-requires-clause-used : goal.prepare_unlink-requires-clause-used
prepare_unlink-requires-clause-used g c =
    let site = g.W.Site.state c.args.site.now in
    let held : HeldTables = record { short = c.self.inside.short; tables = c.self.inside.tables.items } in
    let ours = subst (λ (h : HeldTables). ServesVersions site h c.args.table c.args.row c.args.newer c.args.first c.args.count) (sym c.self.view_is) c.requires in
    let there = used_there site held ours.store c.args.table c.args.row ours.serves ours.versions.used in
    let at = held_there held c.args.table c.index.result.now c.self.invariant.1 there c.index.ensures in
    used_held site held ours.store c.args.table c.args.row c.index.result.now ours.serves at ours.versions.used

pub prepare_unlink-requires-clause-run : goal.prepare_unlink-requires-clause-run
prepare_unlink-requires-clause-run g c =
    let site = g.W.Site.state c.args.site.now in
    let held : HeldTables = record { short = c.self.inside.short; tables = c.self.inside.tables.items } in
    let ours = subst (λ (h : HeldTables). ServesVersions site h c.args.table c.args.row c.args.newer c.args.first c.args.count) (sym c.self.view_is) c.requires in
    let there = used_there site held ours.store c.args.table c.args.row ours.serves ours.versions.used in
    let at = held_there held c.args.table c.index.result.now c.self.invariant.1 there c.index.ensures in
    run_held site held ours.store c.args.table c.args.row c.args.newer c.args.first c.args.count c.index.result.now ours.serves at ours.versions

pub returns-clause-ready : goal.returns-clause-ready
returns-clause-ready g c =
    let site = g.W.Site.state c.args.site.now in
    let held : HeldTables = record { short = c.self.inside.short; tables = c.self.inside.tables.items } in
    let ours = subst (λ (h : HeldTables). ServesVersions site h c.args.table c.args.row c.args.newer c.args.first c.args.count) (sym c.self.view_is) c.requires in
    let there = used_there site held ours.store c.args.table c.args.row ours.serves ours.versions.used in
    subst (λ (h : HeldTables). IsUnlinkReady h (record { table = c.args.table; unlinking = c.in_ok-unlinking.unlinking })) c.self.view_is (record {
      table = c.index.result.now;
      at = held_at held c.args.table c.index.result.now c.self.invariant.1 there c.index.ensures;
      unlink_is = c.in_ok-unlinking.ensures.unlink;
    })
