-- The bytes of a slot are those of one value.
use Rattle.std.proofs.Common.{◌≡◌, ℕ, ◌==◌, nat_le, ◌⊎◌, inl, inr, ◌+◌, ◌≤◌, min, List, [], ◌∷◌, ◌++◌, length, take, drop, slice_index_or, refl, sym, ap, ◌∙◌, IsTrue, arith}
use Rattle.std.proofs.lemmas.Bool.{and_parts, or_cases, leb-true, eqb-true}
use Rattle.std.proofs.lemmas.List.{length-append, take_at, drop_at}
use Rattle.px_bytes.proofs.Numbers.{one_u32, one_u64}
use Rattle.px_model.specs.declared.limits.TheConstants.{LONGEST_KEY}
use Rattle.px_cells.specs.declared.slot.Slot.{Slot}
use Rattle.px_cells.specs.declared.slot.SlotState.{SlotState}
use Rattle.px_cells.specs.declared.slot.SlotState.TheVariants.{Free, Row, Deletion}
use Rattle.px_cells.specs.declared.limits.TheConstants.{SLOT_HEAD_SIZE}
use Rattle.px_model.specs.declared.limits.TheConstants.{LONGEST_BODY}
use Rattle.px_cells.specs.Form.{has_key, has_no_body, is_unused, is_in_state, is_slot}
use Rattle.px_recs.specs.declared.raw.Numbers.{Numbers}
use Rattle.px_recs.specs.declared.raw.TheConstants.{GAP_SIZE, NUMBERS_SIZE}
use Rattle.px_recs.specs.Text.{slot_text, padded, SlotFits, SlotAt, state_code}
use Rattle.px_recs.specs.Fields.{numbers_text, numbers_of, NumbersFit, raw_text, slot_of, PartsAt}
use Rattle.px_recs.proofs.Zeros.{length-padded, one_padded}

pub numbers_size : (n : Numbers) → length (numbers_text n) ≡ NUMBERS_SIZE
unfolding numbers_text
numbers_size n = refl

pub length-raw : (state key_length : ℕ) (gap : List ℕ) (n : Numbers) (key short : List ℕ) → length (raw_text state key_length gap n key short) ≡ 2 + length gap + NUMBERS_SIZE + length key + length short
unfolding raw_text
length-raw state key_length gap n key short = omega (arith, length-append gap (numbers_text n ++ (key ++ short)), length-append (numbers_text n) (key ++ short), length-append key short, numbers_size n)

-- a slot's fields in their places
pub slot-raw : (short : ℕ) (slot : Slot) → slot_text short slot ≡ raw_text (state_code slot.state) (length slot.key) (0 ∷ 0 ∷ []) (numbers_of slot) (padded LONGEST_KEY slot.key) (padded short slot.short)
unfolding slot_text raw_text numbers_text
slot-raw short slot = refl

pub slot_size : (short : ℕ) (slot : Slot) → length slot.key ≤ LONGEST_KEY → length slot.short ≤ short → length (slot_text short slot) ≡ SLOT_HEAD_SIZE + short
slot_size short slot key_to short_to = omega (arith, ap length (slot-raw short slot), length-raw (state_code slot.state) (length slot.key) (0 ∷ 0 ∷ []) (numbers_of slot) (padded LONGEST_KEY slot.key) (padded short slot.short), length-padded LONGEST_KEY slot.key key_to, length-padded short slot.short short_to)

pub parts_size : (short : ℕ) (bytes : List ℕ) (slot : Slot) → PartsAt short bytes slot → length bytes ≡ SLOT_HEAD_SIZE + short
parts_size short bytes slot at = omega (arith, ap length at.text, slot_size short slot at.key_to (omega (arith, at.short_to)))

-- a slot in the form has parts as long as it says
pub record HasLengths (short : ℕ) (slot : Slot) : Type 0 where
  pub key_to : length slot.key ≤ LONGEST_KEY
  pub short_to : length slot.short ≡ min slot.total short

key_fits : (slot : Slot) → IsTrue (has_key slot) → length slot.key ≤ LONGEST_KEY
key_fits slot has = leb-true _ _ (and_parts (nat_le 1 (length slot.key)) _ has).1

free_key : (slot : Slot) → IsTrue (has_key slot) ⊎ IsTrue (is_unused slot) → length slot.key ≤ LONGEST_KEY
free_key slot (inl has) = key_fits slot has
free_key slot (inr unused) = omega (arith, eqb-true _ _ (and_parts (length slot.key == 0) _ unused).0)

no_body : (short : ℕ) (slot : Slot) → length slot.key ≤ LONGEST_KEY → IsTrue (has_no_body slot) → HasLengths short slot
no_body short slot key_to none =
    let parts = and_parts (slot.total == 0) _ none in
    let total : slot.total ≡ 0 = eqb-true _ _ parts.0 in
    let empty : length slot.short ≡ 0 = eqb-true _ _ (and_parts (length slot.short == 0) _ parts.1).0 in
    record {
      key_to = key_to;
      short_to = omega (arith, total, empty);
    }

state_lengths : (short : ℕ) (slot : Slot) (state : SlotState) → IsTrue (is_in_state short slot state) → HasLengths short slot
state_lengths short slot Free is =
    let parts = and_parts (slot.row == 0) _ (and_parts (slot.xn == 0) _ is).1 in
    let body = and_parts (has_no_body slot) _ parts.1 in
    no_body short slot (free_key slot (or_cases (has_key slot) (is_unused slot) body.1)) body.0
state_lengths short slot Row is =
    let parts = and_parts (has_key slot) _ is in
    record {
      key_to = key_fits slot parts.0;
      short_to = eqb-true _ _ (and_parts (length slot.short == min slot.total short) _ (and_parts (nat_le slot.total LONGEST_BODY) _ parts.1).1).0;
    }
state_lengths short slot Deletion is =
    let parts = and_parts (has_key slot) _ is in
    no_body short slot (key_fits slot parts.0) (and_parts (slot.tag == 0) _ parts.1).1

pub form_lengths : (short : ℕ) (slot : Slot) → IsTrue (is_slot short slot) → HasLengths short slot
unfolding is_slot
form_lengths short slot is = state_lengths short slot slot.state is

-- ---- one reading

numbers_with : (xn next row tag total log place : ℕ) → Numbers
numbers_with xn next row tag total log place = record {
  xn = xn;
  next = next;
  row = row;
  tag = tag;
  total = total;
  log = log;
  place = place;
}

same_numbers_with : (m n : Numbers) → m.xn ≡ n.xn → m.next ≡ n.next → m.row ≡ n.row → m.tag ≡ n.tag → m.total ≡ n.total → m.log ≡ n.log → m.place ≡ n.place
    → numbers_with m.xn m.next m.row m.tag m.total m.log m.place ≡ numbers_with n.xn n.next n.row n.tag n.total n.log n.place
same_numbers_with m n xn next row tag total log place = cc

same_numbers : (m n : Numbers) → m.xn ≡ n.xn → m.next ≡ n.next → m.row ≡ n.row → m.tag ≡ n.tag → m.total ≡ n.total → m.log ≡ n.log → m.place ≡ n.place → m ≡ n
unfolding numbers_with
same_numbers m n xn next row tag total log place = same_numbers_with m n xn next row tag total log place

one_numbers : (m n : Numbers) (x y : List ℕ) → NumbersFit m → NumbersFit n → numbers_text m ++ x ≡ numbers_text n ++ y → (m ≡ n) × (x ≡ y)
unfolding numbers_text
one_numbers m n x y f g e =
    let xn = one_u64 m.xn n.xn _ _ f.xn g.xn e in
    let next = one_u32 m.next n.next _ _ f.next g.next xn.1 in
    let row = one_u32 m.row n.row _ _ f.row g.row next.1 in
    let tag = one_u32 m.tag n.tag _ _ f.tag g.tag row.1 in
    let total = one_u32 m.total n.total _ _ f.total g.total tag.1 in
    let log = one_u32 m.log n.log _ _ f.log g.log total.1 in
    let place = one_u32 m.place n.place _ _ f.place g.place log.1 in
    (same_numbers m n xn.0 next.0 row.0 tag.0 total.0 log.0 place.0, place.1)

-- two lists with fronts of one length
one_front : (a b x y : List ℕ) → length a ≡ length b → a ++ x ≡ b ++ y → (a ≡ b) × (x ≡ y)
one_front a b x y same e = (
  sym (take_at a x (length a) refl) ∙ ap (λ (l : List ℕ). take (length a) l) e ∙ take_at b y (length a) (sym same),
  sym (drop_at a x (length a) refl) ∙ ap (λ (l : List ℕ). drop (length a) l) e ∙ drop_at b y (length a) (sym same),
)

-- the fields of bytes that are a slot's
pub record RawOf (size : ℕ) (slot : Slot) (state key_length : ℕ) (gap : List ℕ) (n : Numbers) (key short : List ℕ) : Type 0 where
  pub state_is : state ≡ state_code slot.state
  pub key_length_is : key_length ≡ length slot.key
  pub gap_is : gap ≡ 0 ∷ 0 ∷ []
  pub numbers_are : n ≡ numbers_of slot
  pub key_is : key ≡ padded LONGEST_KEY slot.key
  pub short_is : short ≡ padded size slot.short

fits_numbers : (slot : Slot) → SlotFits slot → NumbersFit (numbers_of slot)
fits_numbers slot fits = record {
  xn = fits.xn;
  next = fits.next;
  row = fits.row;
  tag = fits.tag;
  total = fits.total;
  log = fits.log;
  place = fits.place;
}

pub raw_of : (size : ℕ) (slot : Slot) (state key_length : ℕ) (gap : List ℕ) (n : Numbers) (key short : List ℕ) → length gap ≡ GAP_SIZE → NumbersFit n → length key ≡ LONGEST_KEY
    → PartsAt size (raw_text state key_length gap n key short) slot → RawOf size slot state key_length gap n key short
unfolding raw_text
raw_of size slot state key_length gap n key short gap_size fit key_size at =
    let e : raw_text state key_length gap n key short ≡ raw_text (state_code slot.state) (length slot.key) (0 ∷ 0 ∷ []) (numbers_of slot) (padded LONGEST_KEY slot.key) (padded size slot.short) = at.text ∙ slot-raw size slot in
    let after_gap = one_front gap (0 ∷ 0 ∷ []) _ _ gap_size (ap (λ (x : List ℕ). drop 2 x) e) in
    let after_numbers = one_numbers n (numbers_of slot) _ _ fit (fits_numbers slot at.fits) after_gap.1 in
    let parts = one_front key (padded LONGEST_KEY slot.key) _ _ (omega (arith, key_size, length-padded LONGEST_KEY slot.key at.key_to)) after_numbers.1 in
    record {
      state_is = ap (λ (x : List ℕ). slice_index_or x 0 0) e;
      key_length_is = ap (λ (x : List ℕ). slice_index_or x 1 0) e;
      gap_is = after_gap.0;
      numbers_are = after_numbers.0;
      key_is = parts.0;
      short_is = parts.1;
    }

pub raw-text : (size : ℕ) (slot : Slot) (state key_length : ℕ) (gap : List ℕ) (n : Numbers) (key short : List ℕ) → RawOf size slot state key_length gap n key short
    → raw_text state key_length gap n key short ≡ slot_text size slot
raw-text size slot state key_length gap n key short of =
    ap (λ (x : ℕ). raw_text x key_length gap n key short) of.state_is
    ∙ ap (λ (x : ℕ). raw_text (state_code slot.state) x gap n key short) of.key_length_is
    ∙ ap (λ (x : List ℕ). raw_text (state_code slot.state) (length slot.key) x n key short) of.gap_is
    ∙ ap (λ (x : Numbers). raw_text (state_code slot.state) (length slot.key) (0 ∷ 0 ∷ []) x key short) of.numbers_are
    ∙ ap (λ (x : List ℕ). raw_text (state_code slot.state) (length slot.key) (0 ∷ 0 ∷ []) (numbers_of slot) x short) of.key_is
    ∙ ap (λ (x : List ℕ). raw_text (state_code slot.state) (length slot.key) (0 ∷ 0 ∷ []) (numbers_of slot) (padded LONGEST_KEY slot.key) x) of.short_is
    ∙ sym (slot-raw size slot)

pub one_state : (a b : SlotState) → state_code a ≡ state_code b → a ≡ b
one_state Free Free e = refl
one_state Row Row e = refl
one_state Deletion Deletion e = refl
one_state Free Row e = absurd (omega (arith, e))
one_state Free Deletion e = absurd (omega (arith, e))
one_state Row Free e = absurd (omega (arith, e))
one_state Row Deletion e = absurd (omega (arith, e))
one_state Deletion Free e = absurd (omega (arith, e))
one_state Deletion Row e = absurd (omega (arith, e))

same_slot_of : (a b : Slot) → a.state ≡ b.state → numbers_of a ≡ numbers_of b → a.key ≡ b.key → a.short ≡ b.short → slot_of a.state (numbers_of a) a.key a.short ≡ slot_of b.state (numbers_of b) b.key b.short
same_slot_of a b state numbers key short =
    ap (λ (s : SlotState). slot_of s (numbers_of a) a.key a.short) state
    ∙ ap (λ (n : Numbers). slot_of b.state n a.key a.short) numbers
    ∙ ap (λ (k : List ℕ). slot_of b.state (numbers_of b) k a.short) key
    ∙ ap (λ (s : List ℕ). slot_of b.state (numbers_of b) b.key s) short

pub one_parts : (short : ℕ) (bytes : List ℕ) (a b : Slot) → PartsAt short bytes a → PartsAt short bytes b → a ≡ b
one_parts short bytes a b at_a at_b =
    let at : PartsAt short (raw_text (state_code a.state) (length a.key) (0 ∷ 0 ∷ []) (numbers_of a) (padded LONGEST_KEY a.key) (padded short a.short)) b = record {
      key_to = at_b.key_to;
      short_to = at_b.short_to;
      fits = at_b.fits;
      text = sym (slot-raw short a) ∙ sym at_a.text ∙ at_b.text;
    } in
    let of = raw_of short b (state_code a.state) (length a.key) (0 ∷ 0 ∷ []) (numbers_of a) (padded LONGEST_KEY a.key) (padded short a.short) refl (fits_numbers a at_a.fits) (length-padded LONGEST_KEY a.key at_a.key_to) at in
    let key = one_padded LONGEST_KEY a.key b.key of.key_length_is of.key_is in
    let total : a.total ≡ b.total = ap (λ (n : Numbers). n.total) of.numbers_are in
    let short_part = one_padded short a.short b.short (omega (arith, at_a.short_to, at_b.short_to, total)) of.short_is in
    same_slot_of a b (one_state a.state b.state of.state_is) of.numbers_are key short_part

-- ---- slots in the form

pub at_parts : (short : ℕ) (bytes : List ℕ) (slot : Slot) → SlotAt short bytes slot → PartsAt short bytes slot
at_parts short bytes slot at =
    let lengths = form_lengths short slot at.form in
    record {
      key_to = lengths.key_to;
      short_to = lengths.short_to;
      fits = at.fits;
      text = at.text;
    }

pub one_slot : (short : ℕ) (bytes : List ℕ) (a b : Slot) → SlotAt short bytes a → SlotAt short bytes b → a ≡ b
one_slot short bytes a b at_a at_b = one_parts short bytes a b (at_parts short bytes a at_a) (at_parts short bytes b at_b)
