-- The changes since a file's last sync.
use Rattle.std.proofs.Common.{◌≡◌, ℕ, zero, suc, ◌+◌, ◌^◌, ◌<◌, ◌≤◌, Bool, true, false, ◌||◌, List, [], ◌∷◌, ◌++◌, length, take, drop, get_or, refl, sym, ap, ◌∙◌, arith}
use Rattle.std.proofs.lemmas.List.{take_more, drop_more}
use Rattle.px_site.specs.Disk.{Change as DiskChange, Wrote, Cut as CutTo, Removed, overlaid, touches, touched, most}
use Rattle.px_memsite.specs.declared.change.Change.{Change}
use Rattle.px_memsite.specs.Changes.{change_of, IsWithinLimit}
use Rattle.px_memsite.specs.Files.{newest_first}

-- one change more is the newest
pub newest_first-push : (changes : List Change) (change : Change) → newest_first (changes ++ change ∷ []) ≡ change_of change ∷ newest_first changes
newest_first-push [] change = refl
newest_first-push (first ∷ later) change = ap (λ l. l ++ change_of first ∷ []) (newest_first-push later change)

-- what was written, with one change more
over : (base : List ℕ) (change : DiskChange) (earlier : List DiskChange) → overlaid (overlaid base earlier) (change ∷ []) ≡ overlaid base (change ∷ earlier)
over base (Wrote place bytes) earlier = refl
over base (CutTo len) earlier = refl
over base Removed earlier = refl

pub overlaid_more : (base : List ℕ) (changes : List Change) (i : ℕ) (change : Change) → i < length changes → change ≡ get_or changes i change → overlaid (overlaid base (newest_first (take i changes))) (change_of change ∷ []) ≡ overlaid base (newest_first (take (i + 1) changes))
overlaid_more base changes i change lt is =
    over base (change_of change) (newest_first (take i changes))
    ∙ ap (overlaid base) (sym (newest_first-push (take i changes) change) ∙ ap (λ (c : Change). newest_first (take i changes ++ c ∷ [])) is ∙ ap newest_first (sym (take_more changes i change lt)))

-- the oldest of the later changes touches a place, or the others do
touched-oldest : (later : List DiskChange) (oldest : DiskChange) (at : ℕ) → touched (later ++ oldest ∷ []) at ≡ (touched later at || touches oldest at)
touched-oldest [] oldest at = or_none (touches oldest at)
  where
    or_none : (b : Bool) → (b || false) ≡ b
    or_none true = refl
    or_none false = refl
touched-oldest (change ∷ later) oldest at = ap (λ (b : Bool). touches change at || b) (touched-oldest later oldest at) ∙ regroup (touches change at) (touched later at) (touches oldest at)
  where
    regroup : (x y z : Bool) → (x || (y || z)) ≡ ((x || y) || z)
    regroup true y z = refl
    regroup false y z = refl

module _ (changes : List Change) (i : ℕ) (change : Change) (at : ℕ) (lt : i < length changes) (is : change ≡ get_or changes i change) where
  touched_at : touched (newest_first (drop i changes)) at ≡ (touched (newest_first (drop (i + 1) changes)) at || touches (change_of change) at)
  touched_at = ap (λ (l : List Change). touched (newest_first l) at) (drop_more changes i change lt ∙ ap (λ (c : Change). c ∷ drop (i + 1) changes) (sym is)) ∙ touched-oldest (newest_first (drop (i + 1) changes)) (change_of change) at

  pub touched_here : touches (change_of change) at ≡ true → touched (newest_first (drop i changes)) at ≡ true
  touched_here h = touched_at ∙ ap (λ (b : Bool). touched (newest_first (drop (i + 1) changes)) at || b) h ∙ or_true (touched (newest_first (drop (i + 1) changes)) at)
    where
      or_true : (b : Bool) → (b || true) ≡ true
      or_true true = refl
      or_true false = refl

  pub touched_past : touches (change_of change) at ≡ false → touched (newest_first (drop (i + 1) changes)) at ≡ touched (newest_first (drop i changes)) at
  touched_past h = sym (touched_at ∙ ap (λ (b : Bool). touched (newest_first (drop (i + 1) changes)) at || b) h ∙ or_false (touched (newest_first (drop (i + 1) changes)) at))
    where
      or_false : (b : Bool) → (b || false) ≡ b
      or_false true = refl
      or_false false = refl

pub either_true : (x : Bool) {y : Bool} → y ≡ true → true ≡ (x || y)
either_true true is = refl
either_true false is = sym is

-- each change of a file within the greatest length is within it
most_later : (len : ℕ) (later : List DiskChange) (oldest : DiskChange) → most len later ≤ most len (later ++ oldest ∷ [])
most_later len [] (Wrote place bytes) = omega arith
most_later len [] (CutTo to) = omega arith
most_later len [] Removed = omega arith
most_later len (Wrote place bytes ∷ later) oldest = omega (arith, most_later len later oldest)
most_later len (CutTo to ∷ later) oldest = most_later len later oldest
most_later len (Removed ∷ later) oldest = most_later len later oldest

most_oldest : (len : ℕ) (later : List DiskChange) (oldest : DiskChange) → most len (oldest ∷ []) ≤ most len (later ++ oldest ∷ [])
most_oldest len [] oldest = omega arith
most_oldest len (Wrote place bytes ∷ later) oldest = omega (arith, most_oldest len later oldest)
most_oldest len (CutTo to ∷ later) oldest = most_oldest len later oldest
most_oldest len (Removed ∷ later) oldest = most_oldest len later oldest

change_within : (len : ℕ) (change : DiskChange) → most len (change ∷ []) ≤ 2 ^ 48 → IsWithinLimit change
change_within len (Wrote place bytes) within = omega arith
change_within len (CutTo to) within = tt
change_within len Removed within = tt

pub each_within : (len : ℕ) (changes : List Change) (i : ℕ) (d : Change) → i < length changes → most len (newest_first changes) ≤ 2 ^ 48 → IsWithinLimit (change_of (get_or changes i d))
each_within len [] i d lt within = absurd (omega arith)
each_within len (change ∷ later) zero d lt within = change_within len (change_of change) (omega (arith, most_oldest len (newest_first later) (change_of change)))
each_within len (change ∷ later) (suc i) d lt within = each_within len later i d (omega arith) (omega (arith, most_later len (newest_first later) (change_of change)))
