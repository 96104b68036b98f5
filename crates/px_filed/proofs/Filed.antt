-- What a crash leaves of the table files lies under the frames.
use Rattle.std.proofs.Common.{◌≡◌, ℕ, ◌+◌, ◌-◌, ◌<◌, ◌≤◌, Bool, cond, List, ◌++◌, Some, None, drop, length, replicate, take, refl, sym, ap, ◌∙◌, arith, get_or}
use Rattle.std.proofs.lemmas.Bool.{lt-ltb}
use Rattle.std.proofs.lemmas.Grind.{same_number_lists}
use Rattle.std.proofs.lemmas.List.{get_or-drop, get_or-take, length-drop, length-take, take-append-le}
use Rattle.px_site.specs.Disk.{FileState, IsImage, at_rest}
use Rattle.px_site.specs.declared.name.FileName.{FileName}
use Rattle.px_cells.specs.declared.cell.Cell.{Cell}
use Rattle.px_cells.specs.declared.cell.CellKind.{CellKind}
use Rattle.px_cells.specs.declared.cell.CellKind.TheVariants as kinds
use Rattle.px_recs.specs.Place.{place_of, size_of}
use Rattle.px_apply.specs.Writes.{file_of}
use Rattle.px_apply.specs.Contents.{Contents}
use Rattle.px_filed.specs.Filed.{Rests, file_places}

-- what a crash leaves of a file at rest
pub image_of_rest : (content image : List ℕ) → IsImage (at_rest content) image → image ≡ content
image_of_rest content image is_image =
    let same : length image ≡ length content = omega (arith, is_image.no_shorter, is_image.no_longer) in
    same_number_lists image content same (λ k inside. is_image.kept k (omega (arith, same, inside)) inside refl)

-- ---- one cell

-- a list that has the same numbers from a place on has the same bytes there
same_part : (a b : List ℕ) (place count : ℕ) → place + count ≤ length a → count ≤ length b - place → ((k : ℕ) → k < count → get_or a (place + k) 0 ≡ get_or b (place + k) 0)
    → take count (drop place a) ≡ take count (drop place b)
same_part a b place count in_a in_b same =
    let long : length (take count (drop place a)) ≡ count = omega (arith, length-take count (drop place a), length-drop place a, in_a) in
    let other : length (take count (drop place b)) ≡ count = omega (arith, length-take count (drop place b), length-drop place b, in_b) in
    same_number_lists (take count (drop place a)) (take count (drop place b)) (long ∙ sym other) (λ k inside.
    let within : k < count = omega (arith, long, inside) in
    (get_or-take count (drop place a) k 0 within ∙ get_or-drop place a k 0)
    ∙ same k within
    ∙ sym (get_or-take count (drop place b) k 0 within ∙ get_or-drop place b k 0))

some_size : (short : ℕ) (what : CellKind) → 1 ≤ size_of short what
some_size short kinds.Header = omega arith
some_size short kinds.Slot = omega arith
some_size short kinds.Pointer = omega arith

-- a cell that rests lies in each image
pub rests_in : (short : ℕ) (files : FileName → FileState) (image : Contents) (cell : Cell) → Rests short files cell
    → ((name : FileName) → IsImage (files name) (image name)) → file_places short image cell.what cell.table cell.number ≡ Some cell.bytes
rests_in short files image cell rests images =
    ap (λ (b : Bool). cond b (Some (take size (drop place img ++ replicate size 0))) None) (lt-ltb place (length img) begins)
    ∙ ap Some (take-append-le size (drop place img) (replicate size 0) fits ∙ ap (λ (n : ℕ). take n (drop place img)) (sym rests.size) ∙ same_part img synced place count whole there bytes_same ∙ rests.synced)
  where
    file : FileName
    file = file_of cell

    img : List ℕ
    img = image file

    synced : List ℕ
    synced = (files file).synced

    place : ℕ
    place = place_of short cell.what cell.number

    size : ℕ
    size = size_of short cell.what

    count : ℕ
    count = length cell.bytes

    one : 1 ≤ size
    one = some_size short cell.what

    whole : place + count ≤ length img
    whole = omega (arith, rests.there, (images file).no_shorter)

    begins : place < length img
    begins = omega (arith, whole, one, rests.size)

    fits : size ≤ length (drop place img)
    fits = omega (arith, whole, rests.size, length-drop place img)

    there : count ≤ length synced - place
    there = omega (arith, ap length rests.synced, length-take count (drop place synced), length-drop place synced)

    bytes_same : (k : ℕ) → k < count → get_or img (place + k) 0 ≡ get_or synced (place + k) 0
    bytes_same k within =
        let inside : place + k < length synced = omega (arith, there, within) in
        let has : place + k < length img = omega (arith, whole, within) in
        let from : place ≤ place + k = omega arith in
        let to : place + k < place + count = omega (arith, within) in
        (images file).kept (place + k) inside has (rests.untouched (place + k) from to)
