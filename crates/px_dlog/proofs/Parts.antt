-- The bytes of a part, and what a part at the front of a text says of it.
use Rattle.std.proofs.Common.{◌≡◌, ℕ, ◌^◌, ◌<◌, ◌≤◌, List, ◌++◌, length, take, drop, refl, sym, ap, ◌∙◌, arith}
use Rattle.std.specs.Int.{w32, to_be_bytes, from_be_bytes}
use Rattle.std.proofs.lemmas.List.{take_at, drop_at, length-append}
use Rattle.std.proofs.lemmas.Nat.{from_be_bytes-to_be_bytes_4}
use Rattle.px_bytes.specs.Sum.{fnv_of}
use Rattle.px_bytes.proofs.Numbers.{one_u32}
use Rattle.px_dlog.specs.declared.part.TheConstants.{HEADER_SIZE, LONGEST_PART}
use Rattle.px_dlog.specs.Part.{summed, part_text, part_size, CanPart, PartAt}

-- a length, a sum, a table, a slot, and what follows
unfoldable pub header_text : ℕ → ℕ → ℕ → ℕ → List ℕ → List ℕ
header_text length sum table slot rest = to_be_bytes w32 length ++ (to_be_bytes w32 sum ++ (to_be_bytes w32 table ++ (to_be_bytes w32 slot ++ rest)))

pub part-header_text : (table slot : ℕ) (bytes rest : List ℕ) → part_text table slot bytes ++ rest ≡ header_text (length bytes) (fnv_of (summed table slot bytes)) table slot (bytes ++ rest)
unfolding part_text header_text
part-header_text table slot bytes rest = refl

pub length-part : (table slot : ℕ) (bytes : List ℕ) → length (part_text table slot bytes) ≡ part_size (length bytes)
unfolding part_text
length-part table slot bytes = omega arith

-- the bytes of a part are there
pub part_long : (text : List ℕ) (table slot : ℕ) (bytes : List ℕ) → PartAt text table slot bytes → part_size (length bytes) ≤ length text
part_long text table slot bytes at =
    omega (arith, ap length at.front, length-append (part_text table slot bytes) (drop (part_size (length bytes)) text), length-part table slot bytes)

-- what was written checks, whatever follows
pub written_again : (table slot : ℕ) (bytes rest : List ℕ) → CanPart table slot bytes → PartAt (part_text table slot bytes ++ rest) table slot bytes
written_again table slot bytes rest can = record {
  can = can;
  front = ap (λ (r : List ℕ). part_text table slot bytes ++ r) (sym (drop_at (part_text table slot bytes) rest (part_size (length bytes)) (length-part table slot bytes)));
}

-- ---- one reading

pub spelled : (text : List ℕ) (table slot : ℕ) (bytes : List ℕ) → PartAt text table slot bytes → text ≡ header_text (length bytes) (fnv_of (summed table slot bytes)) table slot (bytes ++ drop (part_size (length bytes)) text)
spelled text table slot bytes at = at.front ∙ part-header_text table slot bytes (drop (part_size (length bytes)) text)

-- the length at the front names the bytes
named : (text : List ℕ) (table slot : ℕ) (bytes : List ℕ) → PartAt text table slot bytes → take (from_be_bytes w32 (take 4 text)) (drop HEADER_SIZE text) ≡ bytes
unfolding header_text
named text table slot bytes at =
    let rest = drop (part_size (length bytes)) text in
    let longest : length bytes ≤ LONGEST_PART = at.can.longest in
    let size : from_be_bytes w32 (take 4 text) ≡ length bytes = ap (λ (b : List ℕ). from_be_bytes w32 (take 4 b)) (spelled text table slot bytes at) ∙ from_be_bytes-to_be_bytes_4 (length bytes) (omega arith) in
    ap (λ (n : ℕ). take n (drop HEADER_SIZE text)) size
    ∙ ap (λ (b : List ℕ). take (length bytes) (drop HEADER_SIZE b)) (spelled text table slot bytes at)
    ∙ take_at bytes rest (length bytes) refl

pub one_text : (text : List ℕ) (t u m n : ℕ) (x y : List ℕ) → PartAt text t m x → PartAt text u n y → (t ≡ u) × (m ≡ n) × (x ≡ y)
unfolding header_text
one_text text t u m n x y at_x at_y =
    let t_fits : t < 2 ^ 8 = at_x.can.table_fits in
    let u_fits : u < 2 ^ 8 = at_y.can.table_fits in
    let both = sym (spelled text t m x at_x) ∙ spelled text u n y at_y in
    let tables = one_u32 t u _ _ (omega arith) (omega arith) (ap (λ (b : List ℕ). drop 8 b) both) in
    (tables.0, (one_u32 m n _ _ at_x.can.slot_fits at_y.can.slot_fits tables.1).0, sym (named text t m x at_x) ∙ named text u n y at_y)
