-- The bytes behind a header fit it exactly where a part checks.
use Rattle.std.proofs.Common.{◌≡◌, ℕ, ◌+◌, ◌-◌, ◌^◌, ◌<◌, ◌≤◌, List, ◌++◌, length, take, drop, sym, ap, subst, ◌∙◌, arith}
use Rattle.std.specs.Prelude.{slice_range}
use Rattle.std.specs.Int.{w32, to_be_bytes}
use Rattle.std.proofs.lemmas.List.{take_at, drop-drop, take-append-drop, length-take, length-drop}
use Rattle.px_bytes.specs.Sum.{fnv_of}
use Rattle.px_bytes.proofs.Numbers.{one_u32, fnv_of_fits}
use Rattle.px_dlog.specs.declared.part.TheConstants.{HEADER_SIZE, LONGEST_PART}
use Rattle.px_dlog.specs.declared.header.TheConstants.{SUMMED_FROM}
use Rattle.px_dlog.specs.declared.header.Header.{Header}
use Rattle.px_dlog.specs.Part.{summed, part_text, PartAt}
use Rattle.px_dlog.specs.Header.{IsHeader, Checks}
use Rattle.px_dlog.proofs.Parts.{header_text, part-header_text, part_long, spelled}

pub length-checked : (text : List ℕ) (header : Header) (size table slot : ℕ) → Checks text header size table slot → length (take header.length (drop HEADER_SIZE text)) ≡ header.length
length-checked text header size table slot checks =
    let there : HEADER_SIZE + header.length ≤ length text = checks.there in
    simp (length-take, length-drop) (omega arith)

pub checks_part : (text : List ℕ) (header : Header) (size table slot : ℕ) → table < 2 ^ 8 → slot < 2 ^ 32 → IsHeader text header → Checks text header size table slot → PartAt text table slot (take header.length (drop HEADER_SIZE text))
unfolding header_text
checks_part text header size table slot table_fits slot_fits is_header checks =
    let bytes = take header.length (drop HEADER_SIZE text) in
    let rest = drop (HEADER_SIZE + header.length) text in
    let long : length bytes ≡ header.length = length-checked text header size table slot checks in
    let whole : drop HEADER_SIZE text ≡ bytes ++ rest = sym (take-append-drop header.length (drop HEADER_SIZE text)) ∙ ap (λ (r : List ℕ). bytes ++ r) (drop-drop header.length HEADER_SIZE text) in
    let second : drop SUMMED_FROM text ≡ summed header.table header.slot bytes ++ rest = ap (λ (b : List ℕ). drop SUMMED_FROM b) is_header.front ∙ ap (λ (r : List ℕ). to_be_bytes w32 header.table ++ (to_be_bytes w32 header.slot ++ r)) whole in
    let summed_part : slice_range text SUMMED_FROM (HEADER_SIZE + header.length) ≡ summed header.table header.slot bytes =
    ap (λ (b : List ℕ). take (HEADER_SIZE + header.length - SUMMED_FROM) b) second ∙ take_at (summed header.table header.slot bytes) rest (HEADER_SIZE + header.length - SUMMED_FROM) (omega (arith, long)) in
    let right : fnv_of (summed header.table header.slot bytes) ≡ header.sum = ap fnv_of (sym summed_part) ∙ checks.right in
    let front : text ≡ part_text header.table header.slot bytes ++ rest =
    is_header.front
    ∙ ap (λ (r : List ℕ). header_text header.length header.sum header.table header.slot r) whole
    ∙ ap (λ (n : ℕ). header_text n header.sum header.table header.slot (bytes ++ rest)) (sym long)
    ∙ ap (λ (s : ℕ). header_text (length bytes) s header.table header.slot (bytes ++ rest)) (sym right)
    ∙ sym (part-header_text header.table header.slot bytes rest) in
    let sized : text ≡ part_text header.table header.slot bytes ++ drop (HEADER_SIZE + length bytes) text = subst (λ (k : ℕ). text ≡ part_text header.table header.slot bytes ++ drop (HEADER_SIZE + k) text) (sym long) front in
    record {
      can = record { table_fits = table_fits; slot_fits = slot_fits; shortest = omega (arith, long, checks.shortest); longest = omega (arith, long, checks.longest) };
      front = subst (λ (n : ℕ). text ≡ part_text table n bytes ++ drop (HEADER_SIZE + length bytes) text) checks.same_slot
          (subst (λ (t : ℕ). text ≡ part_text t header.slot bytes ++ drop (HEADER_SIZE + length bytes) text) checks.same_table sized);
    }

pub part_checks : (text : List ℕ) (header : Header) (size table slot : ℕ) (bytes : List ℕ) → IsHeader text header → length bytes ≡ size → PartAt text table slot bytes → Checks text header size table slot
unfolding header_text
part_checks text header size table slot bytes is_header sized at =
    let rest = drop (HEADER_SIZE + length bytes) text in
    let longest : length bytes ≤ LONGEST_PART = at.can.longest in
    let table_fits : table < 2 ^ 8 = at.can.table_fits in
    let both : header_text header.length header.sum header.table header.slot (drop HEADER_SIZE text) ≡ header_text (length bytes) (fnv_of (summed table slot bytes)) table slot (bytes ++ rest) = sym is_header.front ∙ spelled text table slot bytes at in
    let lengths = one_u32 header.length (length bytes) _ _ is_header.length_fits (omega arith) both in
    let sums = one_u32 header.sum (fnv_of (summed table slot bytes)) _ _ is_header.sum_fits (fnv_of_fits (summed table slot bytes)) lengths.1 in
    let tables = one_u32 header.table table _ _ is_header.table_fits (omega arith) sums.1 in
    let slots = one_u32 header.slot slot _ _ is_header.slot_fits at.can.slot_fits tables.1 in
    let second : drop SUMMED_FROM text ≡ summed table slot bytes ++ rest = ap (λ (b : List ℕ). drop SUMMED_FROM b) (spelled text table slot bytes at) in
    let summed_part : slice_range text SUMMED_FROM (HEADER_SIZE + header.length) ≡ summed table slot bytes =
    ap (λ (b : List ℕ). take (HEADER_SIZE + header.length - SUMMED_FROM) b) second ∙ take_at (summed table slot bytes) rest (HEADER_SIZE + header.length - SUMMED_FROM) (omega (arith, lengths.0)) in
    record {
      same_size = lengths.0 ∙ sized;
      same_table = tables.0;
      same_slot = slots.0;
      shortest = omega (arith, lengths.0, at.can.shortest);
      longest = omega (arith, lengths.0);
      there = omega (arith, lengths.0, part_long text table slot bytes at);
      right = ap fnv_of summed_part ∙ sym sums.0;
    }
