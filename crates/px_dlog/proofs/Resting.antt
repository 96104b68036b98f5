-- Parts that rest, and what a crash and a sync leave of them.
use Rattle.std.proofs.Common.{◌≡◌, ◌≢◌, ℕ, ◌+◌, ◌-◌, ◌<◌, ◌≤◌, List, [], ◌∷◌, ◌++◌, length, take, drop, get_or, refl, sym, ap, subst, ◌∙◌, arith}
use Rattle.std.specs.List.{AllByRecursion}
use Rattle.std.proofs.lemmas.Grind.{same_number_lists}
use Rattle.std.proofs.lemmas.List.{get_or-drop, get_or-take, length-drop, length-take, take-append-drop}
use Rattle.px_site.specs.Disk.{FileState, IsImage, at_rest, least}
use Rattle.px_site.specs.State.{EachMoment, Moment, State, history}
use Rattle.px_site.proofs.Images.{untouched_within}
use Rattle.px_dlog.specs.Errors.{HasNoPart}
use Rattle.px_dlog.specs.Part.{PartAt, part_size, part_text}
use Rattle.px_dlog.specs.Logs.{KeepsOutside, KeepsParts, LiesIn, Reads, Rests, RestsIn, Stored, end_of}
use Rattle.px_dlog.proofs.Parts.{length-part, one_text}

-- a list that has the same numbers from a place on has the same bytes there
same_part : (a b : List ℕ) (place count : ℕ) → place + count ≤ length a → place + count ≤ length b → ((k : ℕ) → k < count → get_or a (place + k) 0 ≡ get_or b (place + k) 0)
    → take count (drop place a) ≡ take count (drop place b)
same_part a b place count in_a in_b same =
    let long : length (take count (drop place a)) ≡ count = omega (arith, length-take count (drop place a), length-drop place a, in_a) in
    let other : length (take count (drop place b)) ≡ count = omega (arith, length-take count (drop place b), length-drop place b, in_b) in
    same_number_lists (take count (drop place a)) (take count (drop place b)) (long ∙ sym other) (λ k inside.
    let within : k < count = omega (arith, long, inside) in
    (get_or-take count (drop place a) k 0 within ∙ get_or-drop place a k 0)
    ∙ same k within
    ∙ sym (get_or-take count (drop place b) k 0 within ∙ get_or-drop place b k 0))

-- a part that lies in a content ends within it
pub ends_within : (content : List ℕ) (stored : Stored) → LiesIn content stored → end_of stored.part ≤ length content
ends_within content stored lies =
    let size = part_size stored.part.length in
    let one : 1 ≤ length stored.bytes = lies.is_part.can.shortest in
    omega (arith, ap length lies.there, length-take size (drop stored.part.place content), length-drop stored.part.place content, length-part stored.part.table stored.part.slot stored.bytes, lies.is_part.length_is)

-- whatever a crash leaves of the file has a part that rests
pub rests_in_image : (file : FileState) (image : List ℕ) (stored : Stored) → RestsIn file stored → IsImage file image → LiesIn image stored
rests_in_image file image stored rests is_image =
    record { is_part = rests.synced.is_part; there = same_part image file.synced place size in_image in_synced same ∙ rests.synced.there }
  where
    place : ℕ
    place = stored.part.place

    size : ℕ
    size = part_size stored.part.length

    in_synced : place + size ≤ length file.synced
    in_synced = ends_within file.synced stored rests.synced

    last : place + size - 1 < least (length file.synced) file.pending
    last = untouched_within (length file.synced) file.pending (place + size - 1) (omega (arith, in_synced)) (rests.untouched (place + size - 1) (omega arith) (omega arith))

    in_image : place + size ≤ length image
    in_image = omega (arith, last, is_image.no_shorter)

    same : (k : ℕ) → k < size → get_or image (place + k) 0 ≡ get_or file.synced (place + k) 0
    same k inside = is_image.kept (place + k) (omega (arith, in_synced)) (omega (arith, in_image)) (rests.untouched (place + k) (omega arith) (omega arith))

-- and so does the file once it is synced
pub at_rest_rests : (content : List ℕ) (stored : Stored) → LiesIn content stored → RestsIn (at_rest content) stored
at_rest_rests content stored lies = record { synced = lies; untouched = λ at from to. refl }

-- a part that lies in a content is read there
pub lies_read : (content : List ℕ) (stored : Stored) → LiesIn content stored → PartAt (drop stored.part.place content) stored.part.table stored.part.slot stored.bytes
lies_read content stored lies =
    let rest = drop stored.part.place content in
    let text = part_text stored.part.table stored.part.slot stored.bytes in
    let size : part_size stored.part.length ≡ part_size (length stored.bytes) = ap part_size (sym lies.is_part.length_is) in
    record {
      can = lies.is_part.can;
      front = sym (take-append-drop (part_size stored.part.length) rest) ∙ ap (λ (l : List ℕ). l ++ drop (part_size stored.part.length) rest) lies.there
          ∙ ap (λ (n : ℕ). text ++ drop n rest) size;
    }

-- ---- what was appended is read

pub appended_read : (stored : Stored) (content before after : List ℕ) → LiesIn content stored → Reads stored.part content before after → after ≡ before ++ stored.bytes
appended_read stored content before after lies reads =
    let one = one_text (drop stored.part.place content) stored.part.table stored.part.table stored.part.slot stored.part.slot reads.bytes stored.bytes reads.checks (lies_read content stored lies) in
    reads.behind ∙ ap (λ (l : List ℕ). before ++ l) one.2

pub appended_sound : (stored : Stored) (content : List ℕ) → LiesIn content stored → HasNoPart stored.part content → ⊥
appended_sound stored content lies none = none stored.bytes lies.is_part.length_is (lies_read content stored lies)

-- ---- moments

-- what holds at each moment holds at the last one
at_last : (P : Moment → Type 0) (a b : State) (added : List Moment) → history b ≡ added ++ history a → AllByRecursion P added → P a.now → P b.now
at_last P a b [] grown each first = let same : b.now ≡ a.now = cc in subst P (sym same) first
at_last P a b (m ∷ added) grown each first = let same : b.now ≡ m = cc in subst P (sym same) each.0

pub rested_rests : (a b : State) (stored : Stored) → EachMoment (KeepsParts a.now) a b → Rests a.now stored → Rests b.now stored
rested_rests a b stored moments rests =
    at_last (λ m. Rests m stored) a b moments.added moments.grown (each moments.added moments.each) rests
  where
    each : (added : List Moment) → AllByRecursion (KeepsParts a.now) added → AllByRecursion (λ m. Rests m stored) added
    each [] keeps = tt
    each (m ∷ added) keeps = (keeps.0.rest stored rests, each added keeps.1)

pub others_rested : (log : ℕ) (a b : State) (stored : Stored) → EachMoment (KeepsOutside log a.now) a b → stored.part.log ≢ log → Rests a.now stored → Rests b.now stored
others_rested log a b stored moments away rests =
    at_last (λ m. Rests m stored) a b moments.added moments.grown (each moments.added moments.each) rests
  where
    each : (added : List Moment) → AllByRecursion (KeepsOutside log a.now) added → AllByRecursion (λ m. Rests m stored) added
    each [] keeps = tt
    each (m ∷ added) keeps = (keeps.0.rest stored away rests, each added keeps.1)
