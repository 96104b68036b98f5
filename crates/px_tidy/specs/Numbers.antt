-- Which stored numbers of transactions are done.
use Rattle.std.specs.Prelude.{ℕ, ◌==◌, ◌||◌, nat_lt, List}
use Rattle.std.specs.List.{list_any}
use Rattle.px_shown.specs.Shown.{Done}

-- the restart's low mark, and the numbers that were added
pub record Numbers : Type 0 where
  pub low : ℕ
  pub added : List ℕ

-- those below a low mark
abbrev pub done_below : ℕ → Done
done_below low = λ number. nat_lt number low

abbrev pub done_of : Numbers → Done
done_of numbers = λ number. list_any (λ added. number == added) numbers.added || done_below numbers.low number
