-- What a crash leaves of a file is one of its images.
use Rattle.std.proofs.Common.{◌≡◌, ℕ, zero, suc, ◌+◌, ◌-◌, ◌^◌, ◌<◌, ◌≤◌, Bool, true, false, cond, ◌||◌, ◌&&◌, nat_lt, nat_le, List, [], ◌∷◌, ◌++◌, length, get_or, refl, sym, ap, ◌∙◌, inl, inr, arith}
use Rattle.std.proofs.lemmas.Bool.{cases_lt}
use Rattle.std.proofs.lemmas.List.{get_or_append_left, get_or_push}
use Rattle.std.proofs.lemmas.Bool.Decides.{nat_tests}
use Rattle.px_site.specs.declared.name.FileName.{FileName}
use Rattle.px_site.specs.Disk.{Change as DiskChange, Wrote, Cut as CutTo, Removed, FileState, IsImage, at_rest, overlaid, touched, written, least, most, touches}
use Rattle.px_site.proofs.Images.{length-overlay, overlay_other, outside, not_either}
use Rattle.px_memsite.specs.declared.crash.Keep.{Keep}
use Rattle.px_memsite.specs.declared.crash.Keep.TheVariants.{Synced, Written, Torn}
use Rattle.px_memsite.specs.Crash.{is_touched, touched_below, torn_byte, IsTorn, IsKept, IsLeft, IsWithin}

least_fits : (len : ℕ) (pending : List DiskChange) → least len pending ≤ len
least_fits len [] = omega arith
least_fits len (Wrote place bytes ∷ earlier) = least_fits len earlier
least_fits len (CutTo to ∷ earlier) = omega (arith, least_fits len earlier)
least_fits len (Removed ∷ earlier) = omega arith

length-overlaid : (base : List ℕ) (pending : List DiskChange) → length (overlaid base pending) ≡ most (length base) pending
length-overlaid base [] = refl
length-overlaid base (Wrote place bytes ∷ earlier) = omega (arith, length-overlay (overlaid base earlier) place bytes, length-overlaid base earlier)
length-overlaid base (CutTo to ∷ earlier) = length-overlaid base earlier
length-overlaid base (Removed ∷ earlier) = length-overlaid base earlier

most_covers : (len : ℕ) (pending : List DiskChange) → len ≤ most len pending
most_covers len [] = omega arith
most_covers len (Wrote place bytes ∷ earlier) = omega (arith, most_covers len earlier)
most_covers len (CutTo to ∷ earlier) = most_covers len earlier
most_covers len (Removed ∷ earlier) = most_covers len earlier

pub length-written : (file : FileState) → length (written file) ≡ most (length file.synced) file.pending
length-written file = length-overlaid file.synced file.pending

pub written_covers : (file : FileState) → length file.synced ≤ length (written file)
written_covers file = omega (arith, length-written file, most_covers (length file.synced) file.pending)

written_kept : (base : List ℕ) (pending : List DiskChange) (at : ℕ) → at < length base → touched pending at ≡ false → get_or (overlaid base pending) at 0 ≡ get_or base at 0
written_kept base [] at lt none = refl
written_kept base (Wrote place bytes ∷ earlier) at lt none =
    let both = not_either (touches (Wrote place bytes) at) (touched earlier at) none in
    let there : at < length (overlaid base earlier) = omega (arith, length-overlaid base earlier, most_covers (length base) earlier) in
    overlay_other (overlaid base earlier) place bytes at there (outside place bytes at both.0) ∙ written_kept base earlier at lt both.1
written_kept base (CutTo to ∷ earlier) at lt none = written_kept base earlier at lt (not_either (touches (CutTo to) at) (touched earlier at) none).1
written_kept base (Removed ∷ earlier) at lt none = absurd (cc)

synced_image : (file : FileState) → IsImage file file.synced
synced_image file = record { no_shorter = least_fits (length file.synced) file.pending; no_longer = most_covers (length file.synced) file.pending; kept = λ at within here none. refl }

written_image : (file : FileState) → IsImage file (written file)
written_image file = record {
  no_shorter = omega (arith, least_fits (length file.synced) file.pending, written_covers file);
  no_longer = omega (arith, length-written file);
  kept = λ at within here none. written_kept file.synced file.pending at within none;
}

untouched : (file : FileState) (at : ℕ) → at < length file.synced → touched file.pending at ≡ false → is_touched file at ≡ false
untouched file at within none = let front : nat_le (length file.synced) at ≡ false = grind (arith, nat_tests) in rw (front, none) refl

torn_image : (k : ℕ) (file : FileState) (bytes : List ℕ) → IsTorn k file bytes → IsImage file bytes
torn_image k file bytes torn = record {
  no_shorter = omega (arith, torn.size, least_fits (length file.synced) file.pending, written_covers file);
  no_longer = omega (arith, torn.size, length-written file);
  kept = λ at within here none. torn.each at here ∙ ap (λ (b : Bool). cond (b && nat_lt (touched_below file at) k) (get_or (written file) at 0) (get_or file.synced at 0)) (untouched file at within none);
}

pub kept_image : (keep : Keep) (file : FileState) (bytes : List ℕ) → IsKept keep file bytes → IsImage file bytes
kept_image Synced file bytes kept = rw kept (synced_image file)
kept_image Written file bytes kept = rw kept (written_image file)
kept_image (Torn k) file bytes kept = torn_image k file bytes kept

pub kept_within : (keep : Keep) (file : FileState) (bytes : List ℕ) → IsWithin file → IsKept keep file bytes → length bytes ≤ 2 ^ 48
kept_within keep file bytes within kept = omega (arith, (kept_image keep file bytes kept).no_longer, within)

-- what a crash leaves of all files is an image of each
pub left_image : (keep : Keep) (files : FileName → FileState) (content : FileName → List ℕ) → IsLeft keep files content → (name : FileName) → IsImage (files name) (content name)
left_image Synced files content left name = kept_image Synced (files name) (content name) (left name)
left_image Written files content left name = kept_image Written (files name) (content name) (left name)
left_image (Torn k) files content left name = torn_image _ (files name) (content name) (left.each name)

-- a file that isn't there
pub kept_blank : (keep : Keep) → IsKept keep (at_rest []) []
kept_blank Synced = refl
kept_blank Written = refl
kept_blank (Torn k) = record { size = omega arith; each = λ at here. absurd (omega arith) }

-- the touched bytes in front of a later place are no fewer
pub touched_grows : (file : FileState) (at more : ℕ) → touched_below file at ≤ touched_below file (at + more)
touched_grows file at zero = let here : at + 0 ≡ at = omega arith in omega (arith, ap (touched_below file) here)
touched_grows file at (suc more) = let next : at + suc more ≡ suc (at + more) = omega arith in omega (arith, ap (touched_below file) next, touched_grows file at more)

-- past what was synced all are touched
pub touched_tail : (file : FileState) (more : ℕ) → touched_below file (length file.synced + more) ≡ touched_below file (length file.synced) + more
touched_tail file zero = let here : length file.synced + 0 ≡ length file.synced = omega arith in omega (arith, ap (touched_below file) here)
touched_tail file (suc more) =
    let next : length file.synced + suc more ≡ suc (length file.synced + more) = omega arith in
    let past : nat_le (length file.synced) (length file.synced + more) ≡ true = grind (arith, nat_tests) in
    let here : is_touched file (length file.synced + more) ≡ true = ap (λ (b : Bool). b || touched file.pending (length file.synced + more)) past in
    omega (arith, ap (touched_below file) next, touched_tail file more, ap {B = ℕ} (λ (b : Bool). cond b 1 0) here)

-- the byte after the first ones, as the loop takes it
module _ (k : ℕ) (file : FileState) (at left : ℕ) (left_is : left ≡ k - touched_below file at) where
  pub torn_here : torn_byte k file at ≡ cond (is_touched file at && nat_lt 0 left) (get_or (written file) at 0) (get_or file.synced at 0)
  torn_here = let same : nat_lt (touched_below file at) k ≡ nat_lt 0 left = grind (arith, nat_tests) in ap (λ (b : Bool). cond (is_touched file at && b) (get_or (written file) at 0) (get_or file.synced at 0)) same

  pub left_more : left - cond (is_touched file at) 1 0 ≡ k - touched_below file (suc at)
  left_more = omega arith

  -- none are left past what was synced
  pub left_out : (length file.synced ≤ at) × (left ≡ 0) → at ≤ length file.synced + (k - touched_below file (length file.synced)) → at ≡ length file.synced + (k - touched_below file (length file.synced))
  left_out (past, none) fits =
      let more : length file.synced + (at - length file.synced) ≡ at = omega arith in
      omega (arith, touched_tail file (at - length file.synced), ap (touched_below file) more)

  pub fits_more : at ≤ length file.synced + (k - touched_below file (length file.synced)) → (length file.synced ≤ at → 0 < left) → at + 1 ≤ length file.synced + (k - touched_below file (length file.synced))
  fits_more fits some = elim (cases_lt at (length file.synced)) [
    | inl within ↦ omega arith
    | inr past ↦
        let more : length file.synced + (at - length file.synced) ≡ at = omega arith in
        omega (arith, touched_tail file (at - length file.synced), ap (touched_below file) more, some past)
  ]

-- one byte more
pub each_more : (k : ℕ) (file : FileState) (old new : List ℕ) (at byte : ℕ) → length old ≡ at → new ≡ old ++ byte ∷ [] → byte ≡ torn_byte k file at → ((i : ℕ) → i < at → get_or old i 0 ≡ torn_byte k file i) → (i : ℕ) → i < suc at → get_or new i 0 ≡ torn_byte k file i
each_more k file old new at byte size pushed byte_is each i lt = elim (cases_lt i at) [
  | inl before ↦ ap (λ (l : List ℕ). get_or l i 0) pushed ∙ get_or_append_left old (byte ∷ []) 0 i (omega arith) ∙ each i before
  | inr past ↦
      let here : i ≡ at = omega arith in
      ap (λ (l : List ℕ). get_or l i 0) pushed ∙ get_or_push old byte 0 i (omega arith) ∙ byte_is ∙ ap (torn_byte k file) (sym here)
]

pub touched_later : (file : FileState) (at later : ℕ) → at ≤ later → touched_below file at ≤ touched_below file later
touched_later file at later le = let more : at + (later - at) ≡ later = omega arith in omega (arith, touched_grows file at (later - at), ap (touched_below file) more)
