-- A file that only grew since its last sync: what a crash may leave of it.
use Rattle.std.proofs.Common.{◌≡◌, ℕ, zero, suc, ◌+◌, ◌-◌, ◌<◌, ◌≤◌, Bool, false, ◌||◌, ◌&&◌, nat_le, nat_lt, List, [], ◌∷◌, ◌++◌, length, take, drop, replicate, get_or, refl, sym, ap, ◌∙◌, append_assoc, inl, arith, length-take, length-drop}
use Rattle.std.specs.List.{AllByRecursion}
use Rattle.std.proofs.lemmas.Bool.Decides.{nat_tests}
use Rattle.std.proofs.lemmas.Grind.{same_number_lists}
use Rattle.std.proofs.lemmas.List.{take_at, drop_all, append-nil, get_or-take, take-append-le, drop-append-le}
use Rattle.px_site.specs.Disk.{Change, Wrote, Cut, Removed, FileState, IsImage, overlay, overlaid, touches, touched, least}
use Rattle.px_site.proofs.Images.{length-overlay, overlay_other}
use Rattle.px_xlog.specs.Written.{IsBehind, HasAt}

-- a write at the end
pub overlay_end : (old bytes : List ℕ) (place : ℕ) → place ≡ length old → overlay old place bytes ≡ old ++ bytes
overlay_end old bytes place at_end =
    ap (λ (l : List ℕ). l ++ bytes ++ drop (place + length bytes) old) (take_at old (replicate (place - length old) 0) place (sym at_end))
    ∙ ap (λ (l : List ℕ). old ++ bytes ++ l) (drop_all (place + length bytes) old (omega arith))
    ∙ append-nil (old ++ bytes)

-- bytes that a front of the content has, the content has
pub has_longer : (front more : List ℕ) (place : ℕ) (bytes : List ℕ) → 0 < length bytes → HasAt front place bytes → HasAt (front ++ more) place bytes
has_longer front more place bytes some has =
    let there : length bytes ≤ length (drop place front) = omega (arith, ap length has, length-take (length bytes) (drop place front)) in
    let within : place ≤ length front = omega (arith, length-drop place front) in
    ap (take (length bytes)) (drop-append-le place front more within) ∙ take-append-le (length bytes) (drop place front) more there ∙ has

-- ---- writes behind what was synced touch none of it

not_between : (place len at : ℕ) → at < place → (nat_le place at && nat_lt at (place + len)) ≡ false
not_between place len at below = grind (arith, nat_tests)

neither : (x y : Bool) → x ≡ false → y ≡ false → (x || y) ≡ false
neither x y e f = rw (e, f)

pub behind_untouched : (synced : List ℕ) (pending : List Change) (at : ℕ) → AllByRecursion (IsBehind synced) pending → at < length synced → touched pending at ≡ false
behind_untouched synced [] at behind below = refl
behind_untouched synced (Wrote place bytes ∷ earlier) at behind below =
    let past : length synced ≤ place = behind.0 in
    neither (touches (Wrote place bytes) at) (touched earlier at) (not_between place (length bytes) at (omega arith)) (behind_untouched synced earlier at behind.1 below)
behind_untouched synced (Cut len ∷ earlier) at behind below = absurd behind.0
behind_untouched synced (Removed ∷ earlier) at behind below = absurd behind.0

pub behind_least : (synced : List ℕ) (pending : List Change) → AllByRecursion (IsBehind synced) pending → least (length synced) pending ≡ length synced
behind_least synced [] behind = refl
behind_least synced (Wrote place bytes ∷ earlier) behind = behind_least synced earlier behind.1
behind_least synced (Cut len ∷ earlier) behind = absurd behind.0
behind_least synced (Removed ∷ earlier) behind = absurd behind.0

-- so each image has it at its front
pub image_front : (file : FileState) (image : List ℕ) → AllByRecursion (IsBehind file.synced) file.pending → IsImage file image → take (length file.synced) image ≡ file.synced
image_front file image behind is_image =
    let long : length file.synced ≤ length image = omega (arith, is_image.no_shorter, behind_least file.synced file.pending behind) in
    let cut : length (take (length file.synced) image) ≡ length file.synced = omega (arith, length-take (length file.synced) image) in
    same_number_lists (take (length file.synced) image) file.synced cut (λ k inside.
    let below : k < length file.synced = omega (arith, cut, inside) in
    get_or-take (length file.synced) image k 0 below ∙ is_image.kept k below (omega arith) (behind_untouched file.synced file.pending k behind below))

-- and so has whatever was written at a moment since
pub overlaid_long : (synced : List ℕ) (pending : List Change) → AllByRecursion (IsBehind synced) pending → length synced ≤ length (overlaid synced pending)
overlaid_long synced [] behind = omega arith
overlaid_long synced (Wrote place bytes ∷ earlier) behind = omega (arith, overlaid_long synced earlier behind.1, length-overlay (overlaid synced earlier) place bytes)
overlaid_long synced (Cut len ∷ earlier) behind = absurd behind.0
overlaid_long synced (Removed ∷ earlier) behind = absurd behind.0

pub overlaid_kept : (synced : List ℕ) (pending : List Change) (at : ℕ) → AllByRecursion (IsBehind synced) pending → at < length synced → get_or (overlaid synced pending) at 0 ≡ get_or synced at 0
overlaid_kept synced [] at behind below = refl
overlaid_kept synced (Wrote place bytes ∷ earlier) at behind below =
    let past : length synced ≤ place = behind.0 in
    overlay_other (overlaid synced earlier) place bytes at (omega (arith, overlaid_long synced earlier behind.1)) (inl (omega arith)) ∙ overlaid_kept synced earlier at behind.1 below
overlaid_kept synced (Cut len ∷ earlier) at behind below = absurd behind.0
overlaid_kept synced (Removed ∷ earlier) at behind below = absurd behind.0

pub behind_earlier : (synced : List ℕ) (pending : List Change) (later : ℕ) → AllByRecursion (IsBehind synced) pending → AllByRecursion (IsBehind synced) (drop later pending)
behind_earlier synced pending zero behind = behind
behind_earlier synced [] (suc later) behind = tt
behind_earlier synced (change ∷ earlier) (suc later) behind = behind_earlier synced earlier later behind.1

-- ---- what was written at each moment is a front of what is written

pub record Fronts (synced : List ℕ) (pending : List Change) (content : List ℕ) : Type 0 where
  pub whole : overlaid synced pending ≡ content
  pub each : (later : ℕ) → (more : List ℕ) × (overlaid synced (drop later pending) ++ more ≡ content)

pub fronts_none : (synced : List ℕ) → Fronts synced [] synced
fronts_none synced = record { whole = refl; each = λ later. ([], append-nil (overlaid synced (drop later [])) ∙ none later) }
  where
    none : (later : ℕ) → overlaid synced (drop {A = Change} later []) ≡ synced
    none zero = refl
    none (suc later) = refl

pub fronts_write : (synced : List ℕ) (pending : List Change) (content : List ℕ) (place : ℕ) (bytes : List ℕ) → Fronts synced pending content → place ≡ length content → Fronts synced (Wrote place bytes ∷ pending) (content ++ bytes)
fronts_write synced pending content place bytes fronts at_end = record { whole = grown; each = each }
  where
    grown : overlay (overlaid synced pending) place bytes ≡ content ++ bytes
    grown = ap (λ (c : List ℕ). overlay c place bytes) fronts.whole ∙ overlay_end content bytes place at_end

    each : (later : ℕ) → (more : List ℕ) × (overlaid synced (drop later (Wrote place bytes ∷ pending)) ++ more ≡ content ++ bytes)
    each zero = ([], append-nil (overlay (overlaid synced pending) place bytes) ∙ grown)
    each (suc later) =
        let before = fronts.each later in
        (before.0 ++ bytes, sym (append_assoc (overlaid synced (drop later pending)) before.0 bytes) ∙ ap (λ (c : List ℕ). c ++ bytes) before.1)
