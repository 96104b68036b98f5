-- The sum that frames, restart files, parts and pages carry (docs/FORMATS.md, 'The sum').
use Rattle.std.specs.Prelude.{ℕ, ◌*◌, ◌%◌, ◌^◌, List, fold, bit_xor}
use Rattle.px_bytes.specs.declared.sum.TheConstants.{FNV_OFFSET, FNV_PRIME}

-- the sum with one byte more
abbrev pub fnv_step : ℕ → ℕ → ℕ
fnv_step sum byte = (bit_xor sum byte * FNV_PRIME) % 2 ^ 32

-- FNV-1a with 32 bits
unfoldable pub fnv_of : List ℕ → ℕ
fnv_of bytes = fold fnv_step FNV_OFFSET bytes
