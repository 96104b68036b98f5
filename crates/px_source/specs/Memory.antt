-- What a source in memory is, and what a read of it gives.
use Rattle.std.specs.Prelude.{◌≡◌, ℕ, ◌↔◌, min, List, length, Contains, Result, IfOk, IsErr}
use Rattle.px_source.specs.Source.{one_more}

-- the bytes left, how many a call gives at most, the numbers of the calls that fail, the next call's number, and how
-- many calls failed
pub record Memory : Type 0 where
  pub left : List ℕ
  pub piece : ℕ
  pub fails : List ℕ
  pub calls : ℕ
  pub faults : ℕ

-- a call fails exactly where its number stands among those that are to fail; else it gives as many bytes as the buffer,
-- the piece and what is left allow
pub record Gives {E : Type 0} (old new : Memory) (buf : List ℕ) (result : Result ℕ E) : Type 0 where
  pub fault : IsErr result ↔ Contains old.fails old.calls
  pub count : IfOk result (λ n. n ≡ min (length buf) (min old.piece (length old.left)))
  pub calls : new.calls ≡ one_more old.calls
  pub piece : new.piece ≡ old.piece
  pub fails : new.fails ≡ old.fails
