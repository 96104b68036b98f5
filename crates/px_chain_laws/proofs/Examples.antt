-- The worked example, computed.
use Rattle.std.proofs.Common.{◌≡◌, [], ◌∷◌, Some, None, refl}
use Rattle.px_model.specs.Rows.{same_key, key_cmp}
use Rattle.px_model.specs.Chains.{chain}
use Rattle.px_chain_laws.specs.Reading.{seen, row_seen, newest_committed, writer_past}
use Rattle.px_chain_laws.specs.Worked.{row, key, early, late, writer, example, of}

pub example_chain : chain example key ≡ of None 1 ∷ of (Some 11) 2 ∷ of (Some 12) 3 ∷ of (Some 15) 4 ∷ of (Some 15) 5 ∷ []
unfolding chain same_key key_cmp
example_chain = refl

pub early_sees : row_seen (seen example early key) ≡ Some (row 1)
unfolding seen chain same_key key_cmp
early_sees = refl

pub late_sees : row_seen (seen example late key) ≡ Some (row 2)
unfolding seen chain same_key key_cmp
late_sees = refl

pub writer_sees : row_seen (seen example writer key) ≡ Some (row 5)
unfolding seen chain same_key key_cmp
writer_sees = refl

pub early_meets : writer_past example early.snap (newest_committed example key) ≡ Some 1
unfolding newest_committed chain same_key key_cmp
early_meets = refl

pub late_meets : writer_past example late.snap (newest_committed example key) ≡ None
unfolding newest_committed chain same_key key_cmp
late_meets = refl
