use Rattle.std.proofs.Common.{Option, subst}
use Rattle.std.specs.Prelude.{IfSome}
use Rattle.px_tables.specs.declared.linking.Place.{Place}
use Rattle.px_tables.specs.Linking.{IsPlaceFor}
use Rattle.px_tables.proofs.Prepared.{fits_longest, version_prepared}
use Rattle.px_tables.proofs.table.Table.prepare.Goals as goal

pub version-slot-requires : goal.version-slot-requires
version-slot-requires c = fits_longest c.args.self.now.cells.short c.args.write c.in_ok-place.ensures.short c.requires

pub returns-clause-prepared : goal.returns-clause-prepared
returns-clause-prepared c =
    version_prepared c.args.self.now c.place_for.new.self c.key_of.result.now c.in-Some.place c.args.xn c.args.write c.version-slot.result c.link.result
    c.in_ok-place.ensures.cells c.key_of.ensures c.version-slot.ensures c.in_ok-place.ensures.short c.requires
    (subst (λ (found : Option Place). IfSome found (IsPlaceFor c.place_for.new.self c.key_of.result.now)) c.in-Some.is c.in_ok-place.ensures.place) c.link.ensures.prepared
