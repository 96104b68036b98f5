-- File names in their order.
use Rattle.std.proofs.Common.{◌≡◌, ℕ, Bool, true, false, ◌||◌, ◌&&◌, nat_eq, nat_lt, arith}
use Rattle.std.proofs.lemmas.Bool.Decides.{nat_tests}
use Rattle.px_site.specs.declared.name.FileName.{FileName}
use Rattle.px_site.specs.Names.{same_file, is_before, kind, number}

-- pairs of numbers, compared as names are
abbrev is_less : ℕ → ℕ → ℕ → ℕ → Bool
is_less a b c d = nat_lt a c || (nat_eq a c && nat_lt b d)

less_apart : (a b c d : ℕ) → is_less a b c d ≡ true → (nat_eq a c && nat_eq b d) ≡ false
less_apart a b c d h = grind (arith, nat_tests)

less_later : (a b c d : ℕ) → is_less a b c d ≡ false → (nat_eq a c && nat_eq b d) ≡ false → is_less c d a b ≡ true
less_later a b c d h apart = grind (arith, nat_tests)

less_not_back : (a b c d : ℕ) → is_less a b c d ≡ true → is_less c d a b ≡ false
less_not_back a b c d h = grind (arith, nat_tests)

less_then : (a b c d e f : ℕ) → is_less a b c d ≡ true → is_less c d e f ≡ true → is_less a b e f ≡ true
less_then a b c d e f h k = grind (arith, nat_tests)

less_self : (a b : ℕ) → is_less a b a b ≡ false
less_self a b = grind (arith, nat_tests)

pub before_apart : (a b : FileName) → is_before a b ≡ true → same_file a b ≡ false
before_apart a b h = less_apart (kind a) (number a) (kind b) (number b) h

-- a name that is neither before another nor that one comes after it
pub before_back : (a b : FileName) → is_before a b ≡ false → same_file a b ≡ false → is_before b a ≡ true
before_back a b h apart = less_later (kind a) (number a) (kind b) (number b) h apart

pub before_not_back : (a b : FileName) → is_before a b ≡ true → is_before b a ≡ false
before_not_back a b h = less_not_back (kind a) (number a) (kind b) (number b) h

pub before_then : (a b c : FileName) → is_before a b ≡ true → is_before b c ≡ true → is_before a c ≡ true
before_then a b c h k = less_then (kind a) (number a) (kind b) (number b) (kind c) (number c) h k

pub before_self : (a : FileName) → is_before a a ≡ false
before_self a = less_self (kind a) (number a)
