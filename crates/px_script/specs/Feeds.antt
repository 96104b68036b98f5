-- Bytes without a line feed.
use Rattle.std.specs.Prelude.{◌≡◌, ℕ, ◌==◌, false, List}
use Rattle.std.specs.List.{All}

abbrev pub NoFeed : List ℕ → Type 0
NoFeed bytes = All (λ byte. (byte == 10) ≡ false) bytes
