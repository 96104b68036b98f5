-- What one write leaves of each byte. Past its end a content reads as zeros.
use Rattle.std.proofs.Common.{◌≡◌, ℕ, ◌+◌, ◌-◌, ◌<◌, ◌≤◌, Bool, true, false, cond, ◌&&◌, inl, inr, leb, ltb, List, ◌++◌, length, take, drop, replicate, get_or, refl, sym, ap, ◌∙◌, arith, length-append, length-take}
use Rattle.std.proofs.lemmas.Bool.{and_parts, cases_lt, leb-true, ltb-true}
use Rattle.std.proofs.lemmas.List.{length-replicate, get_or-replicate, get_or_past, get_or_append_left, get_or-append_right, get_or-take, get_or-drop}
use Rattle.px_site.specs.declared.name.FileName.{FileName}
use Rattle.px_site.specs.Disk.{Wrote, overlay, content_after, touches}
use Rattle.px_site.proofs.Files.{same_file_is, with_file_other}
use Rattle.px_site.proofs.Images.{outside}
use Rattle.px_cells.specs.declared.cell.Cell.{Cell}
use Rattle.px_recs.specs.Place.{place_of}
use Rattle.px_apply.specs.Writes.{file_of, write_of}
use Rattle.px_apply.specs.Contents.{Contents, with_cell, is_in, is_byte_of}

-- ---- one write

zeros_at : (n at : ℕ) → ◌≡◌ {A = ℕ} (get_or (replicate n 0) at 0) 0
zeros_at n at = elim (cases_lt at n) [
  | inl below ↦ get_or-replicate n at 0 0 below
  | inr past ↦ get_or_past (replicate n 0) at 0 (omega (arith, past, length-replicate {A = ℕ} n 0))
]

padded_at : (old : List ℕ) (n at : ℕ) → get_or (old ++ replicate n 0) at 0 ≡ get_or old at 0
padded_at old n at = elim (cases_lt at (length old)) [
  | inl below ↦ get_or_append_left old (replicate n 0) 0 at below
  | inr past ↦ get_or-append_right old (replicate n 0) (length old) at 0 refl past ∙ zeros_at n (at - length old) ∙ sym (get_or_past old at 0 past)
]

abbrev front_of : (old : List ℕ) (place : ℕ) → List ℕ
front_of old place = take place (old ++ replicate (place - length old) 0)

length-front : (old : List ℕ) (place : ℕ) → length (front_of old place) ≡ place
length-front old place =
    let zeros : List ℕ = replicate (place - length old) 0 in
    omega (arith, length-take place (old ++ zeros), length-append old zeros, length-replicate {A = ℕ} (place - length old) 0)

pub overlay_outside : (old : List ℕ) (place : ℕ) (bytes : List ℕ) (at : ℕ) → touches (Wrote place bytes) at ≡ false → get_or (overlay old place bytes) at 0 ≡ get_or old at 0
overlay_outside old place bytes at none =
    let front = front_of old place in
    let rest = drop (place + length bytes) old in
    let size : length front ≡ place = length-front old place in
    elim (outside place bytes at none) [
      | inl below ↦
          get_or_append_left (front ++ bytes) rest 0 at (omega (arith, below, length-append front bytes, size))
          ∙ get_or_append_left front bytes 0 at (omega (arith, below, size))
          ∙ get_or-take place (old ++ replicate (place - length old) 0) at 0 below
          ∙ padded_at old (place - length old) at
      | inr above ↦
          let back : place + length bytes + (at - (place + length bytes)) ≡ at = omega (arith, above) in
          get_or-append_right (front ++ bytes) rest (place + length bytes) at 0 (omega (arith, length-append front bytes, size)) above
          ∙ get_or-drop (place + length bytes) old (at - (place + length bytes)) 0
          ∙ ap (λ (i : ℕ). get_or old i 0) back
    ]

pub overlay_inside : (old : List ℕ) (place : ℕ) (bytes : List ℕ) (at : ℕ) → touches (Wrote place bytes) at ≡ true → get_or (overlay old place bytes) at 0 ≡ get_or bytes (at - place) 0
overlay_inside old place bytes at in_it =
    let front = front_of old place in
    let rest = drop (place + length bytes) old in
    let size : length front ≡ place = length-front old place in
    let both = and_parts (leb place at) (ltb at (place + length bytes)) in_it in
    let from : place ≤ at = leb-true place at both.0 in
    let to : at < place + length bytes = ltb-true at (place + length bytes) both.1 in
    get_or_append_left (front ++ bytes) rest 0 at (omega (arith, to, length-append front bytes, size))
    ∙ get_or-append_right front bytes place at 0 size from

-- ---- one cell

pub laid_here : (short : ℕ) (contents : Contents) (cell : Cell) (file : FileName) → is_in file cell ≡ true
    → with_cell short contents cell file ≡ overlay (contents file) (place_of short cell.what cell.number) cell.bytes
laid_here short contents cell file here =
    let laid : FileName → List ℕ = λ f. content_after (write_of short cell) (contents f) in
    ap (λ (b : Bool). cond b (laid (file_of cell)) (contents file)) here ∙ ap laid (same_file_is (file_of cell) file here)

pub laid_elsewhere : (short : ℕ) (contents : Contents) (cell : Cell) (file : FileName) → is_in file cell ≡ false → with_cell short contents cell file ≡ contents file
laid_elsewhere short contents cell file other = with_file_other (file_of cell) file (content_after (write_of short cell) (contents (file_of cell))) contents other

pub cell_inside : (short : ℕ) (contents : Contents) (cell : Cell) (file : FileName) (at : ℕ) → is_byte_of short file at cell ≡ true
    → get_or (with_cell short contents cell file) at 0 ≡ get_or cell.bytes (at - place_of short cell.what cell.number) 0
cell_inside short contents cell file at in_it =
    let both = and_parts (is_in file cell) (touches (write_of short cell) at) in_it in
    ap (λ (l : List ℕ). get_or l at 0) (laid_here short contents cell file both.0) ∙ overlay_inside (contents file) (place_of short cell.what cell.number) cell.bytes at both.1

pub cell_outside : (short : ℕ) (contents : Contents) (cell : Cell) (file : FileName) (at : ℕ) → is_byte_of short file at cell ≡ false
    → get_or (with_cell short contents cell file) at 0 ≡ get_or (contents file) at 0
cell_outside short contents cell file at none = by_file (is_in file cell) refl
  where
    by_file : (b : Bool) → is_in file cell ≡ b → get_or (with_cell short contents cell file) at 0 ≡ get_or (contents file) at 0
    by_file true here =
        ap (λ (l : List ℕ). get_or l at 0) (laid_here short contents cell file here)
        ∙ overlay_outside (contents file) (place_of short cell.what cell.number) cell.bytes at (ap (λ (b : Bool). b && touches (write_of short cell) at) (sym here) ∙ none)
    by_file false other = ap (λ (l : List ℕ). get_or l at 0) (laid_elsewhere short contents cell file other)
