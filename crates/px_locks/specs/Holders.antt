-- Which transaction holds which key.
use Rattle.std.specs.Prelude.{ℕ, ◌==◌, Option, Some, None, if◌then◌else◌}
use Rattle.std.specs.Coded.{Coded, coded_ℕ, coded_list, coded×}
use Rattle.std.specs.FinMap.{FinMap, get, code}
use Rattle.px_model.specs.Rows.{Key, key_cmp}

-- each key that is held, with the number of the transaction that holds it
abbrev pub Holders : Type 0
Holders = FinMap key_cmp ℕ

abbrev pub holders_code : Coded Holders
holders_code = code (coded× coded_ℕ (coded_list coded_ℕ)) coded_ℕ

abbrev pub holder_of : Key → Holders → Option ℕ
holder_of key holders = get holders key

-- a key's holder, once all keys of that number are free
abbrev pub unless_held_by : ℕ → Option ℕ → Option ℕ
unless_held_by number None = None
unless_held_by number (Some holder) = if holder == number then None else Some holder
