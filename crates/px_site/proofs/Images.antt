-- What a file reads as stays one of its images, over changes that succeed and that fail.
use Rattle.std.proofs.Common.{◌≡◌, ℕ, ◌+◌, ◌-◌, ◌<◌, ◌≤◌, max, Bool, true, false, ◌||◌, ◌&&◌, ◌⊎◌, nat_lt, nat_le, List, [], ◌∷◌, ◌++◌, length, take, drop, replicate, get_or, refl, ap, ◌∙◌, inl, inr, arith, length-append, length-take, length-drop}
use Rattle.std.proofs.lemmas.Bool.Decides.{nat_tests}
use Rattle.std.proofs.lemmas.List.{length-replicate, get_or_append_left, get_or-append_right, get_or-take, get_or-drop}
use Rattle.px_site.specs.Disk.{Change, Wrote, Cut, Removed, FileState, IsImage, overlay, content_after, pending_more, at_rest, touches, touched, least, most}

-- how long a content is after a write
pub length-overlay : (old : List ℕ) (place : ℕ) (bytes : List ℕ) → length (overlay old place bytes) ≡ max (length old) (place + length bytes)
length-overlay old place bytes =
    let zeros : List ℕ = replicate (place - length old) 0 in
    omega (arith, length-append (take place (old ++ zeros) ++ bytes) (drop (place + length bytes) old), length-append (take place (old ++ zeros)) bytes, length-take place (old ++ zeros), length-append old zeros, length-replicate {A = ℕ} (place - length old) 0, length-drop (place + length bytes) old)

-- the parts of a test that came out false
pub not_either : (x y : Bool) → (x || y) ≡ false → (x ≡ false) × (y ≡ false)
not_either true y h = absurd (cc)
not_either false y h = (refl, h)

not_both : (x y : Bool) → (x && y) ≡ false → (x ≡ false) ⊎ (y ≡ false)
not_both true y h = inr h
not_both false y h = inl refl

below_of : (m n : ℕ) → nat_le m n ≡ false → n < m
below_of m n h = grind (arith, nat_tests)

above_of : (m n : ℕ) → nat_lt m n ≡ false → n ≤ m
above_of m n h = grind (arith, nat_tests)

-- a place that a write doesn't touch lies before its bytes or behind them
pub outside : (place : ℕ) (bytes : List ℕ) (at : ℕ) → touches (Wrote place bytes) at ≡ false → (at < place) ⊎ (place + length bytes ≤ at)
outside place bytes at h = elim (not_both (nat_le place at) (nat_lt at (place + length bytes)) h) [
  | inl below ↦ inl (below_of place at below)
  | inr above ↦ inr (above_of at (place + length bytes) above)
]

-- a write leaves the bytes outside it
pub overlay_other : (old : List ℕ) (place : ℕ) (bytes : List ℕ) (at : ℕ) → at < length old → (at < place) ⊎ (place + length bytes ≤ at) → get_or (overlay old place bytes) at 0 ≡ get_or old at 0
overlay_other old place bytes at lt where_ =
    let zeros : List ℕ = replicate (place - length old) 0 in
    let front = take place (old ++ zeros) in
    let rest = drop (place + length bytes) old in
    let size : length front ≡ place = omega (arith, length-take place (old ++ zeros), length-append old zeros, length-replicate {A = ℕ} (place - length old) 0) in
    elim where_ [
      | inl below ↦
          get_or_append_left (front ++ bytes) rest 0 at (omega (arith, length-append front bytes, size))
          ∙ get_or_append_left front bytes 0 at (omega (arith, size))
          ∙ get_or-take place (old ++ zeros) at 0 below
          ∙ get_or_append_left old zeros 0 at lt
      | inr above ↦
          let back : place + length bytes + (at - (place + length bytes)) ≡ at = omega arith in
          get_or-append_right (front ++ bytes) rest (place + length bytes) at 0 (omega (arith, length-append front bytes, size)) above
          ∙ get_or-drop (place + length bytes) old (at - (place + length bytes)) 0
          ∙ ap (λ (i : ℕ). get_or old i 0) back
    ]

-- a place that was synced and that no change touched is in each image
pub untouched_within : (len : ℕ) (pending : List Change) (at : ℕ) → at < len → touched pending at ≡ false → at < least len pending
untouched_within len [] at lt none = lt
untouched_within len (Wrote place bytes ∷ earlier) at lt none = untouched_within len earlier at lt (not_either (touches (Wrote place bytes) at) (touched earlier at) none).1
untouched_within len (Cut to ∷ earlier) at lt none =
    let both = not_either (nat_le to at) (touched earlier at) none in
    omega (arith, below_of to at both.0, untouched_within len earlier at lt both.1)
untouched_within len (Removed ∷ earlier) at lt none = absurd (cc)

-- after a change that succeeds the new content is an image
pub image_after : (file : FileState) (change : Change) (content : List ℕ) → IsImage file content → IsImage (pending_more change file) (content_after change content)
image_after file (Wrote place bytes) content image =
    record {
      no_shorter = omega (arith, image.no_shorter, length-overlay content place bytes);
      no_longer = omega (arith, image.no_longer, length-overlay content place bytes);
      kept = λ at within here none.
          let both = not_either (touches (Wrote place bytes) at) (touched file.pending at) none in
          let there : at < length content = omega (arith, image.no_shorter, untouched_within (length file.synced) file.pending at within both.1) in
          overlay_other content place bytes at there (outside place bytes at both.0) ∙ image.kept at within there both.1;
    }
image_after file (Cut to) content image =
    record {
      no_shorter = omega (arith, image.no_shorter, length-take to content);
      no_longer = omega (arith, image.no_longer, length-take to content);
      kept = λ at within here none.
          let both = not_either (nat_le to at) (touched file.pending at) none in
          get_or-take to content at 0 (below_of to at both.0) ∙ image.kept at within (omega (arith, here, length-take to content)) both.1;
    }
image_after file Removed content image = record { no_shorter = omega arith; no_longer = omega arith; kept = λ at within here none. absurd (cc) }

-- where a change fails, or isn't done yet, the old content is one
pub image_before : (file : FileState) (change : Change) (content : List ℕ) → IsImage file content → IsImage (pending_more change file) content
image_before file change content image =
    record {
      no_shorter = fewer change;
      no_longer = more change;
      kept = λ at within here none. image.kept at within here (not_either (touches change at) (touched file.pending at) none).1;
    }
  where
    fewer : (change : Change) → least (length file.synced) (change ∷ file.pending) ≤ length content
    fewer (Wrote place bytes) = image.no_shorter
    fewer (Cut to) = omega (arith, image.no_shorter)
    fewer Removed = omega arith

    more : (change : Change) → length content ≤ most (length file.synced) (change ∷ file.pending)
    more (Wrote place bytes) = omega (arith, image.no_longer)
    more (Cut to) = image.no_longer
    more Removed = image.no_longer

-- of a file at rest its content is one
pub image_at_rest : (content : List ℕ) → IsImage (at_rest content) content
image_at_rest content = record { no_shorter = omega arith; no_longer = omega arith; kept = λ at within here none. refl }
