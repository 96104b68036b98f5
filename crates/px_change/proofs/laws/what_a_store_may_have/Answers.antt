use Rattle.std.proofs.Common.{refl}
use Rattle.px_change.specs.Grammar.{is_change}
use Rattle.px_change.proofs.laws.what_a_store_may_have.Goals as goal

pub returns : goal.returns
unfolding is_change
returns c = record {
  put = refl;
  other_short = refl;
  no_slot = refl;
  sweep = refl;
  tidy = refl;
  falling = refl;
  twice = refl;
  two_tables = refl;
  no_table = refl;
  fifth = refl;
  move_one = refl;
  unnumbered = refl;
  end_with_cell = refl;
  end_alone = refl;
}
