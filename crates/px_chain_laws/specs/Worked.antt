-- A worked example: a row of the opening, a commit, a rollback, and three open transactions.
use Rattle.std.specs.Prelude.{ℕ, true, false, [], ◌∷◌, Option, Some}
use Rattle.px_model.specs.declared.row.Row.{Row}
use Rattle.px_model.specs.declared.write.Write.TheVariants.{Put}
use Rattle.px_model.specs.declared.machine.Open.{Open}
use Rattle.px_model.specs.declared.machine.Variation.{Variation}
use Rattle.px_model.specs.Rows.{Key, key_of}
use Rattle.px_model.specs.Machine.{Machine}

abbrev pub row : (tag : ℕ) → Row
row tag = record { table = 1; key = 1 ∷ []; tag = tag; body = [] }

abbrev pub key : Key
key = key_of (row 0)

-- it began before the commit
abbrev pub early : Open
early = record { number = 3; snap = 0; writes = []; kept = [] }

-- it began after the commit and the rollback
abbrev pub late : Open
late = record { number = 4; snap = 2; writes = []; kept = [] }

-- it began then too, and wrote the row twice
abbrev pub writer : Open
writer = record { number = 5; snap = 2; writes = Put (row 4) ∷ Put (row 5) ∷ []; kept = [] }

abbrev pub example : Machine
example = record {
  tables = 1;
  short = 64;
  opening = row 1 ∷ [];
  before = 0;
  base = 10;
  ended =
      record { number = 1; committed = true; snap = 0; writes = Put (row 2) ∷ [] }
      ∷ record { number = 2; committed = false; snap = 1; writes = Put (row 3) ∷ [] }
      ∷ [];
  active = Some early ∷ Some late ∷ Some writer ∷ [];
  begun = 5;
  swept = 0;
}

abbrev pub of : Option ℕ → (tag : ℕ) → Variation
of xn tag = record { xn = xn; write = Put (row tag) }
