use Rattle.std.proofs.Common.{◌≡◌, ap, false, refl}
use Rattle.px_chain.specs.Sound.{no_layout}
use Rattle.px_held.proofs.Making.{made_sound}
use Rattle.px_held.specs.Serving.{HeldTables}
use Rattle.px_history.specs.Store.{Store}
use Rattle.px_opened.specs.Opened.{tables_of}
use Rattle.px_held_tests.specs.declared.making.TheConstants.{SHORT}
use Rattle.px_held_tests.proofs.making.held.Goals as goal

pub loop-key-init : goal.loop-key-init
loop-key-init c =
    let tables = c.in_ok-alone.field-0.items in
    let store : Store = record { tables = tables_of tables; layouts = λ t. no_layout; done = λ xn. false; over = λ xn. false } in
    record {
      short = ap (λ (held : HeldTables). held.short) c.new-held.ensures.is;
      serves = λ site. (store, c.new-held.ensures.serves site store (λ t. refl) (made_sound SHORT tables c.in_ok-alone.ensures.unused));
    }
