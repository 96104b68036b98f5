-- The bytes of a restart file are those of one restart.
use Rattle.std.proofs.Common.{◌≡◌, ℕ, ◌≤◌, List, ◌++◌, length, drop, refl, sym, ap, ◌∙◌, arith}
use Rattle.std.proofs.lemmas.List.{drop_at, length-append}
use Rattle.std.specs.Int.{w32, w64, to_be_bytes}
use Rattle.px_bytes.specs.Sum.{fnv_of}
use Rattle.px_bytes.proofs.Numbers.{one_u32, one_u64}
use Rattle.px_restart.specs.declared.restart.Restart.{Restart}
use Rattle.px_restart.specs.declared.restart.TheConstants.{RESTART_SIZE}
use Rattle.px_restart.specs.declared.text.TheConstants.{MAGIC, VERSION}
use Rattle.px_restart.specs.declared.file.TheConstants.{FIELDS_SIZE}
use Rattle.px_restart.specs.Restart.{fields_text, FieldsFit, summed, restart_text, CanRestart, RestartAt}
use Rattle.px_restart.specs.File.{file_text}

pub text-file : (version : ℕ) (r : Restart) (rest : List ℕ) → restart_text version r ++ rest ≡ file_text MAGIC version r (fnv_of (summed version r)) rest
unfolding restart_text fields_text file_text
text-file version r rest = refl

pub length-text : (version : ℕ) (r : Restart) → length (restart_text version r) ≡ RESTART_SIZE
unfolding restart_text fields_text
length-text version r = refl

pub length-fields : (r : Restart) → length (fields_text r) ≡ FIELDS_SIZE
unfolding fields_text
length-fields r = refl

-- the bytes of a restart are there
pub restart_long : (bytes : List ℕ) (r : Restart) → RestartAt bytes r → RESTART_SIZE ≤ length bytes
restart_long bytes r at = omega (arith, ap length at.front, length-append (restart_text VERSION r) (drop RESTART_SIZE bytes), length-text VERSION r)

-- a restart with bytes behind it
pub restart_then : (r : Restart) (rest : List ℕ) → CanRestart r → RestartAt (restart_text VERSION r ++ rest) r
restart_then r rest can = record {
  can = can;
  front = ap (λ (b : List ℕ). restart_text VERSION r ++ b) (sym (drop_at (restart_text VERSION r) rest RESTART_SIZE (length-text VERSION r)));
}

-- ---- one reading

pub can_fit : (r : Restart) → CanRestart r → FieldsFit r
can_fit r can =
    let shape = can.shape in
    let marks = can.marks in
    record {
      serial = omega (arith, shape.serial_to);
      tables = omega (arith, shape.tables_to);
      short = omega (arith, shape.short_to);
      commits = omega (arith, marks.commits_to, marks.durable_to);
      next = omega (arith, marks.next_to);
      low = omega (arith, marks.low_to, marks.next_to);
      first = omega (arith, marks.first_to, marks.redo_to, marks.durable_to);
      redo = omega (arith, marks.redo_to, marks.durable_to);
      durable = omega (arith, marks.durable_to);
      segment = shape.segment_to;
    }

restart_of : (serial tables short commits next low first redo durable segment : ℕ) → Restart
restart_of serial tables short commits next low first redo durable segment = record {
  serial = serial;
  tables = tables;
  short = short;
  commits = commits;
  next = next;
  low = low;
  first = first;
  redo = redo;
  durable = durable;
  segment = segment;
}

same_parts : (r s : Restart) → r.serial ≡ s.serial → r.tables ≡ s.tables → r.short ≡ s.short → r.commits ≡ s.commits → r.next ≡ s.next → r.low ≡ s.low → r.first ≡ s.first → r.redo ≡ s.redo → r.durable ≡ s.durable → r.segment ≡ s.segment
    → restart_of r.serial r.tables r.short r.commits r.next r.low r.first r.redo r.durable r.segment ≡ restart_of s.serial s.tables s.short s.commits s.next s.low s.first s.redo s.durable s.segment
same_parts r s serial tables short commits next low first redo durable segment = cc

same_fields : (r s : Restart) → r.serial ≡ s.serial → r.tables ≡ s.tables → r.short ≡ s.short → r.commits ≡ s.commits → r.next ≡ s.next → r.low ≡ s.low → r.first ≡ s.first → r.redo ≡ s.redo → r.durable ≡ s.durable → r.segment ≡ s.segment → r ≡ s
unfolding restart_of
same_fields r s serial tables short commits next low first redo durable segment = same_parts r s serial tables short commits next low first redo durable segment

pub one_fields : (r s : Restart) (x y : List ℕ) → FieldsFit r → FieldsFit s → fields_text r ++ x ≡ fields_text s ++ y → (r ≡ s) × (x ≡ y)
unfolding fields_text
one_fields r s x y f g e =
    let serial = one_u64 r.serial s.serial _ _ f.serial g.serial e in
    let tables = one_u32 r.tables s.tables _ _ f.tables g.tables serial.1 in
    let short = one_u32 r.short s.short _ _ f.short g.short tables.1 in
    let commits = one_u64 r.commits s.commits _ _ f.commits g.commits short.1 in
    let next = one_u64 r.next s.next _ _ f.next g.next commits.1 in
    let low = one_u64 r.low s.low _ _ f.low g.low next.1 in
    let first = one_u64 r.first s.first _ _ f.first g.first low.1 in
    let redo = one_u64 r.redo s.redo _ _ f.redo g.redo first.1 in
    let durable = one_u64 r.durable s.durable _ _ f.durable g.durable redo.1 in
    let segment = one_u32 r.segment s.segment _ _ f.segment g.segment durable.1 in
    (same_fields r s serial.0 tables.0 short.0 commits.0 next.0 low.0 first.0 redo.0 durable.0 segment.0, segment.1)

pub spelled : (bytes : List ℕ) (r : Restart) → RestartAt bytes r → bytes ≡ file_text MAGIC VERSION r (fnv_of (summed VERSION r)) (drop RESTART_SIZE bytes)
spelled bytes r at = at.front ∙ text-file VERSION r (drop RESTART_SIZE bytes)

pub one_restart : (bytes : List ℕ) (r s : Restart) → RestartAt bytes r → RestartAt bytes s → r ≡ s
unfolding file_text
one_restart bytes r s at_r at_s =
    let both = sym (spelled bytes r at_r) ∙ spelled bytes s at_s in
    (one_fields r s _ _ (can_fit r at_r.can) (can_fit s at_s.can) (ap (λ (b : List ℕ). drop 8 b) both)).0

-- ---- bytes that are taken field by field

pub fields_then : (r : Restart) (bytes rest tail : List ℕ) → bytes ≡ fields_text r ++ rest → rest ≡ tail → bytes ≡ fields_text r ++ tail
fields_then r bytes rest tail e f = e ∙ ap (λ (x : List ℕ). fields_text r ++ x) f
