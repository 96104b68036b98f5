use Rattle.std.proofs.Common.{ℕ, sym, subst}
use Rattle.px_chain.specs.Links.{IsStored}
use Rattle.px_held.proofs.prepared.Prepared.link.Goals as goal

pub returns-clause-ready : goal.returns-clause-ready
returns-clause-ready c = λ held place stored. record {
  table = place.table;
  at = place.at;
  linking_is = c.link-linking.ensures.prepared place.table place.place_is
      (subst (λ (n : ℕ). IsStored n c.args.slot) (sym place.at.numbered.its_short) stored);
}
