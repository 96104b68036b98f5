-- What a site in memory reads as is one of its images, and no file is longer than the greatest length.
use Rattle.std.proofs.Common.{◌≡◌, ℕ, zero, suc, ◌+◌, ◌^◌, ◌≤◌, ◌<◌, Bool, true, false, cond, ◌||◌, ◌⊎◌, inl, inr, List, [], ◌∷◌, length, take, Some, None, refl, subst, arith, length-take}
use Rattle.std.proofs.lemmas.Bool.Decides.{nat_tests}
use Rattle.px_site.specs.declared.name.FileName.{FileName}
use Rattle.px_site.specs.Disk.{Change as DiskChange, Wrote, Cut as CutTo, Removed, FileState, IsImage, at_rest, pending_more, touches, touched, most}
use Rattle.px_site.specs.Names.{same_file}
use Rattle.px_site.specs.State.{State}
use Rattle.px_site.proofs.Files.{same_file_is}
use Rattle.px_site.proofs.Images.{image_after, image_before, image_at_rest, outside, not_either}
use Rattle.px_memsite.specs.declared.event.Event.{Event}
use Rattle.px_memsite.specs.declared.event.Event.TheVariants.{Changed, Synced, Told, Put}
use Rattle.px_memsite.specs.Changes.{change_of, left_by, IsWithinLimit}
use Rattle.px_memsite.specs.Events.{after_event, after_events, empty, reached, FitsLimit, AllFitLimit}

-- a file that reads as one of its images, none of which is longer than the greatest length
pub record IsSoundFile (file : FileState) (content : List ℕ) : Type 0 where
  pub image : IsImage file content
  pub within : most (length file.synced) file.pending ≤ 2 ^ 48

abbrev pub IsSound : State → Type 0
IsSound s = (name : FileName) → IsSoundFile (s.now.files name) (s.content name)

sound_at_rest : (content : List ℕ) → length content ≤ 2 ^ 48 → IsSoundFile (at_rest content) content
sound_at_rest content within = record { image = image_at_rest content; within = within }

most_within : (file : FileState) (change : DiskChange) → IsWithinLimit change → most (length file.synced) file.pending ≤ 2 ^ 48 → most (length file.synced) (change ∷ file.pending) ≤ 2 ^ 48
most_within file (Wrote place bytes) fits within = omega arith
most_within file (CutTo len) fits within = within
most_within file Removed fits within = within

-- a place that a write doesn't touch isn't touched by a part of it
part_outside : (place : ℕ) (part : List ℕ) (at : ℕ) → (at < place) ⊎ (place + length part ≤ at) → touches (Wrote place part) at ≡ false
part_outside place part at (inl below) = grind (arith, nat_tests)
part_outside place part at (inr above) = grind (arith, nat_tests)

outside_part : (place : ℕ) (part bytes : List ℕ) (at : ℕ) → length part ≤ length bytes → (at < place) ⊎ (place + length bytes ≤ at) → (at < place) ⊎ (place + length part ≤ at)
outside_part place part bytes at fewer (inl below) = inl below
outside_part place part bytes at fewer (inr above) = inr (omega arith)

neither : (x y : Bool) → x ≡ false → y ≡ false → (x || y) ≡ false
neither x y p q = rw (p, q) refl

-- what a part of a write leaves is an image of the whole
image_part : (file : FileState) (place : ℕ) (part bytes content : List ℕ) → length part ≤ length bytes → IsImage (pending_more (Wrote place part) file) content → IsImage (pending_more (Wrote place bytes) file) content
image_part file place part bytes content fewer image = record {
  no_shorter = image.no_shorter;
  no_longer = omega (arith, image.no_longer);
  kept = λ at within here none.
      let both = not_either (touches (Wrote place bytes) at) (touched file.pending at) none in
      let untouched : touches (Wrote place part) at ≡ false = part_outside place part at (outside_part place part bytes at fewer (outside place bytes at both.0)) in
      image.kept at within here (neither (touches (Wrote place part) at) (touched file.pending at) untouched both.1);
}

image_left : (file : FileState) (change : DiskChange) (through : ℕ) (content : List ℕ) → IsImage file content → IsImage (pending_more change file) (left_by change through content)
image_left file change zero content image = image_before file change content image
image_left file (Wrote place bytes) (suc through) content image =
    image_part file place (take (suc through) bytes) bytes _ (omega (arith, length-take (suc through) bytes)) (image_after file (Wrote place (take (suc through) bytes)) content image)
image_left file (CutTo len) (suc through) content image = image_before file (CutTo len) content image
image_left file Removed (suc through) content image = image_before file Removed content image

either : (b : Bool) {f g : FileState} {x y : List ℕ} → IsSoundFile f x → IsSoundFile g y → IsSoundFile (cond b f g) (cond b x y)
either true p q = p
either false p q = q

pub event_sound : (s : State) (event : Event) → FitsLimit event → IsSound s → IsSound (after_event event s)
event_sound s (Changed file change None) fits sound name =
    either (same_file file name) (record { image = image_after (s.now.files file) (change_of change) (s.content file) (sound file).image; within = most_within (s.now.files file) (change_of change) fits (sound file).within }) (sound name)
event_sound s (Changed file change (Some through)) fits sound name =
    either (same_file file name) (record { image = image_left (s.now.files file) (change_of change) through (s.content file) (sound file).image; within = most_within (s.now.files file) (change_of change) fits (sound file).within }) (sound name)
event_sound s (Synced file None) fits sound name = settled (same_file file name) refl
  where
    settled : (b : Bool) → same_file file name ≡ b → IsSoundFile (cond b (at_rest (s.content file)) (s.now.files name)) (s.content name)
    settled true same = subst (λ (n : FileName). IsSoundFile (at_rest (s.content file)) (s.content n)) (same_file_is file name same) (sound_at_rest (s.content file) (omega (arith, (sound file).image.no_longer, (sound file).within)))
    settled false apart = sound name
event_sound s (Synced file (Some through)) fits sound name = sound name
event_sound s (Told bytes failure) fits sound name = sound name
event_sound s (Put file bytes) fits sound name = either (same_file file name) (sound_at_rest bytes.items fits) (sound name)

pub events_sound : (s : State) (history : List Event) → AllFitLimit history → IsSound s → IsSound (after_events history s)
events_sound s [] fits sound = sound
events_sound s (event ∷ rest) fits sound = events_sound (after_event event s) rest fits.1 (event_sound s event fits.0 sound)

pub reached_sound : (history : List Event) → AllFitLimit history → IsSound (reached history)
reached_sound history fits = events_sound empty history fits (λ name. sound_at_rest [] (omega arith))
