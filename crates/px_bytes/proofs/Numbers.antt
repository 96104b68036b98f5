-- Numbers at the front of bytes are read in one way, and a sum fits four bytes.
use Rattle.std.proofs.Common.{◌≡◌, ℕ, ◌^◌, ◌<◌, List, [], ◌∷◌, ◌++◌, drop, fold, sym, ap, ◌∙◌, arith}
use Rattle.std.specs.Int.{w16, w32, w64, to_be_bytes, from_be_bytes}
use Rattle.std.proofs.lemmas.Nat.{from_be_bytes-to_be_bytes_2, from_be_bytes-to_be_bytes_4, from_be_bytes-to_be_bytes_8, mod_below}
use Rattle.px_bytes.specs.Sum.{fnv_step, fnv_of}
use Rattle.px_bytes.specs.declared.sum.TheConstants.{FNV_OFFSET}

-- the same bytes begin with the same number, and go on the same
pub one_u16 : (m n : ℕ) (x y : List ℕ) → m < 2 ^ 16 → n < 2 ^ 16 → to_be_bytes w16 m ++ x ≡ to_be_bytes w16 n ++ y → (m ≡ n) × (x ≡ y)
one_u16 m n x y m_fits n_fits e =
    let read : from_be_bytes w16 (to_be_bytes w16 m ++ x) ≡ from_be_bytes w16 (to_be_bytes w16 n ++ y) = ap (λ (bytes : List ℕ). from_be_bytes w16 bytes) e in
    (sym (from_be_bytes-to_be_bytes_2 m m_fits) ∙ read ∙ from_be_bytes-to_be_bytes_2 n n_fits, ap (λ (bytes : List ℕ). drop 2 bytes) e)

pub one_u32 : (m n : ℕ) (x y : List ℕ) → m < 2 ^ 32 → n < 2 ^ 32 → to_be_bytes w32 m ++ x ≡ to_be_bytes w32 n ++ y → (m ≡ n) × (x ≡ y)
one_u32 m n x y m_fits n_fits e =
    let read : from_be_bytes w32 (to_be_bytes w32 m ++ x) ≡ from_be_bytes w32 (to_be_bytes w32 n ++ y) = ap (λ (bytes : List ℕ). from_be_bytes w32 bytes) e in
    (sym (from_be_bytes-to_be_bytes_4 m m_fits) ∙ read ∙ from_be_bytes-to_be_bytes_4 n n_fits, ap (λ (bytes : List ℕ). drop 4 bytes) e)

pub one_u64 : (m n : ℕ) (x y : List ℕ) → m < 2 ^ 64 → n < 2 ^ 64 → to_be_bytes w64 m ++ x ≡ to_be_bytes w64 n ++ y → (m ≡ n) × (x ≡ y)
one_u64 m n x y m_fits n_fits e =
    let read : from_be_bytes w64 (to_be_bytes w64 m ++ x) ≡ from_be_bytes w64 (to_be_bytes w64 n ++ y) = ap (λ (bytes : List ℕ). from_be_bytes w64 bytes) e in
    (sym (from_be_bytes-to_be_bytes_8 m m_fits) ∙ read ∙ from_be_bytes-to_be_bytes_8 n n_fits, ap (λ (bytes : List ℕ). drop 8 bytes) e)

fold_fits : (bytes : List ℕ) (sum : ℕ) → sum < 2 ^ 32 → fold fnv_step sum bytes < 2 ^ 32
fold_fits [] sum fits = fits
fold_fits (b ∷ bytes) sum fits = fold_fits bytes (fnv_step sum b) (mod_below _ (2 ^ 32) (omega arith))

pub fnv_of_fits : (bytes : List ℕ) → fnv_of bytes < 2 ^ 32
unfolding fnv_of
fnv_of_fits bytes = fold_fits bytes FNV_OFFSET (omega arith)

-- ---- one field after the other

pub u32_then : (n : ℕ) (bytes rest tail : List ℕ) → bytes ≡ to_be_bytes w32 n ++ rest → rest ≡ tail → bytes ≡ to_be_bytes w32 n ++ tail
u32_then n bytes rest tail e f = e ∙ ap (λ (x : List ℕ). to_be_bytes w32 n ++ x) f

pub u64_then : (n : ℕ) (bytes rest tail : List ℕ) → bytes ≡ to_be_bytes w64 n ++ rest → rest ≡ tail → bytes ≡ to_be_bytes w64 n ++ tail
u64_then n bytes rest tail e f = e ∙ ap (λ (x : List ℕ). to_be_bytes w64 n ++ x) f
