-- What writes of cells touch.
use Rattle.std.proofs.Common.{◌≡◌, ℕ, ◌<◌, ◌≤◌, max, Bool, true, false, cond, ◌&&◌, ◌||◌, List, [], ◌∷◌, ◌++◌, length, get_or, Err, refl, sym, ap, subst, ◌∙◌, arith}
use Rattle.std.proofs.lemmas.Bool.{or_parts, true≢false}
use Rattle.std.proofs.lemmas.List.Folds.{list_any-append}
use Rattle.px_site.specs.declared.error.SiteError.{SiteError}
use Rattle.px_site.specs.declared.error.SiteError.TheVariants.{OutOfMemory, Fault}
use Rattle.px_site.specs.declared.name.FileName.{FileName}
use Rattle.px_site.specs.Disk.{FileState, IsImage, pending_more, touches, touched, most}
use Rattle.px_site.specs.State.{State, Moment}
use Rattle.px_site.proofs.Files.{same_file_is, with_file_other}
use Rattle.px_site.proofs.Images.{untouched_within}
use Rattle.px_cells.specs.declared.cell.Cell.{Cell}
use Rattle.px_apply.specs.Writes.{file_of, write_of, cells_written, StopsAt}
use Rattle.px_apply.specs.Contents.{is_in, is_file_of, is_byte_of, is_byte_of_some, reach}
use Rattle.px_apply.specs.Moments.{cell_begun, cells_begun, IsWithin, TouchesCells, TouchesOnly}
use Rattle.px_apply.proofs.Laid.{now_after, told_after, reach_here, reach_elsewhere}

-- ---- one file

pub no_change : (short : ℕ) (cells : List Cell) (file : FileName) (a : FileState) → TouchesCells short cells file a a
no_change short cells file a = record {
  synced = refl;
  outside = λ at none. refl;
  no_shorter = λ len. refl;
  no_longer = λ len. omega arith;
  unless = λ none. refl;
}

reach-append : (short : ℕ) (xs ys : List Cell) (file : FileName) → reach short (xs ++ ys) file ≡ max (reach short xs file) (reach short ys file)
reach-append short [] ys file = omega arith
reach-append short (x ∷ xs) ys file = by_file (reach-append short xs ys file) (is_in file x) refl
  where
    by_file : reach short (xs ++ ys) file ≡ max (reach short xs file) (reach short ys file) → (b : Bool) → is_in file x ≡ b → reach short ((x ∷ xs) ++ ys) file ≡ max (reach short (x ∷ xs) file) (reach short ys file)
    by_file rest true here = omega (arith, rest, reach_here short x xs file here, reach_here short x (xs ++ ys) file here)
    by_file rest false other = omega (arith, rest, reach_elsewhere short x xs file other, reach_elsewhere short x (xs ++ ys) file other)

pub in_turn : (short : ℕ) (xs ys : List Cell) (file : FileName) (a b c : FileState) → TouchesCells short xs file a b → TouchesCells short ys file b c → TouchesCells short (xs ++ ys) file a c
in_turn short xs ys file a b c p q = record {
  synced = q.synced ∙ p.synced;
  outside = λ at none.
      let two = or_parts (is_byte_of_some short xs file at) (is_byte_of_some short ys file at) (sym (list_any-append (is_byte_of short file at) xs ys) ∙ none) in
      q.outside at two.1 ∙ p.outside at two.0;
  no_shorter = λ len. q.no_shorter len ∙ p.no_shorter len;
  no_longer = λ len. omega (arith, q.no_longer len, p.no_longer len, reach-append short xs ys file);
  unless = λ none.
      let two = or_parts (is_file_of xs file) (is_file_of ys file) (sym (list_any-append (is_in file) xs ys) ∙ none) in
      q.unless two.1 ∙ p.unless two.0;
}

-- ---- one write

begun_here : (short : ℕ) (m : Moment) (cell : Cell) (file : FileName) → is_in file cell ≡ true → (cell_begun short m cell).files file ≡ pending_more (write_of short cell) (m.files file)
begun_here short m cell file here =
    let more : FileName → FileState = λ f. pending_more (write_of short cell) (m.files f) in
    ap (λ (b : Bool). cond b (more (file_of cell)) (m.files file)) here ∙ ap more (same_file_is (file_of cell) file here)

begun_elsewhere : (short : ℕ) (m : Moment) (cell : Cell) (file : FileName) → is_in file cell ≡ false → (cell_begun short m cell).files file ≡ m.files file
begun_elsewhere short m cell file other = with_file_other (file_of cell) file (pending_more (write_of short cell) (m.files (file_of cell))) m.files other

touches_here : (short : ℕ) (cell : Cell) (file : FileName) (a : FileState) → is_in file cell ≡ true → TouchesCells short (cell ∷ []) file a (pending_more (write_of short cell) a)
touches_here short cell file a here = record {
  synced = refl;
  outside = λ at none.
      let out = (or_parts (is_byte_of short file at cell) false none).0 in
      let untouched : touches (write_of short cell) at ≡ false = ap (λ (b : Bool). b && touches (write_of short cell) at) (sym here) ∙ out in
      ap (λ (b : Bool). b || touched a.pending at) untouched;
  no_shorter = λ len. refl;
  no_longer = λ len. omega (arith, reach_here short cell [] file here);
  unless = λ none. absurd (true≢false (sym here ∙ (or_parts (is_in file cell) false none).0));
}

one_touches : (short : ℕ) (m : Moment) (cell : Cell) (file : FileName) → TouchesCells short (cell ∷ []) file (m.files file) ((cell_begun short m cell).files file)
one_touches short m cell file = by_file (is_in file cell) refl
  where
    by_file : (b : Bool) → is_in file cell ≡ b → TouchesCells short (cell ∷ []) file (m.files file) ((cell_begun short m cell).files file)
    by_file true here = subst (TouchesCells short (cell ∷ []) file (m.files file)) (sym (begun_here short m cell file here)) (touches_here short cell file (m.files file) here)
    by_file false other = subst (TouchesCells short (cell ∷ []) file (m.files file)) (sym (begun_elsewhere short m cell file other)) (no_change short (cell ∷ []) file (m.files file))

-- ---- writes in a row

all_touch : (short : ℕ) (m : Moment) (cells : List Cell) (file : FileName) → TouchesCells short cells file (m.files file) ((cells_begun short m cells).files file)
all_touch short m [] file = no_change short [] file (m.files file)
all_touch short m (cell ∷ cells) file =
    in_turn short (cell ∷ []) cells file _ _ _ (one_touches short m cell file) (all_touch short (cell_begun short m cell) cells file)

told_same : (short : ℕ) (m : Moment) (cells : List Cell) → (cells_begun short m cells).told ≡ m.told
told_same short m [] = refl
told_same short m (cell ∷ cells) = told_same short (cell_begun short m cell) cells

pub within_touches : (short : ℕ) (cells : List Cell) (before m : Moment) → IsWithin short cells before m → TouchesOnly short cells before m
within_touches short cells before m is =
    let mid = cells_begun short before is.done in
    let last = cell_begun short mid is.cell in
    let there : TouchesOnly short (is.done ++ is.cell ∷ is.rest) before last = record {
      files = λ file.
          in_turn short is.done (is.cell ∷ is.rest) file _ _ _ (all_touch short before is.done file)
          (in_turn short (is.cell ∷ []) is.rest file _ _ _ (one_touches short mid is.cell file) (no_change short is.rest file (last.files file)));
      told = told_same short before is.done;
      telling = refl;
    } in
    subst (λ (m : Moment). TouchesOnly short cells before m) (sym is.begun) (subst (λ (l : List Cell). TouchesOnly short l before last) (sym is.in_order) there)

pub only_in_turn : (short : ℕ) (xs ys : List Cell) (a b c : Moment) → TouchesOnly short xs a b → TouchesOnly short ys b c → TouchesOnly short (xs ++ ys) a c
only_in_turn short xs ys a b c p q = record {
  files = λ file. in_turn short xs ys file _ _ _ (p.files file) (q.files file);
  told = q.told ∙ p.told;
  telling = q.telling;
}

-- ---- in the end

pub written_touches : (short : ℕ) (cells : List Cell) (s : State) (file : FileName) → TouchesCells short cells file (s.now.files file) ((cells_written short s cells).now.files file)
written_touches short cells s file =
    subst (λ (m : Moment). TouchesCells short cells file (s.now.files file) (m.files file)) (sym (now_after short s cells)) (all_touch short s.now cells file)

module _ {short : ℕ} {cells : List Cell} {old new : State} {T : Type 0} where
  -- of a write that didn't succeed: it was begun, or nothing was done
  begun_or_not : (P : Moment → Type 0) (error : SiteError) (at : StopsAt {T = T} short cells old new (Err error)) → P (cell_begun short (cells_written short old at.done).now at.cell) → P (cells_written short old at.done).now → P new.now
  begun_or_not P OutOfMemory at begun not = subst (λ (s : State). P s.now) (sym at.moves.short) not
  begun_or_not P (Fault kind) at begun not = subst (λ (s : State). P s.now) (sym at.moves.fault.1) begun

  pub stopped_touches : (error : SiteError) (file : FileName) → StopsAt {T = T} short cells old new (Err error) → TouchesCells short cells file (old.now.files file) (new.now.files file)
  stopped_touches error file at =
      let mid = (cells_written short old at.done).now in
      let done = written_touches short at.done old file in
      let more : (m : Moment) → TouchesCells short (at.cell ∷ at.rest) file (mid.files file) (m.files file) → TouchesCells short cells file (old.now.files file) (m.files file) =
      λ m touches. subst (λ (l : List Cell). TouchesCells short l file (old.now.files file) (m.files file)) (sym at.in_order) (in_turn short at.done (at.cell ∷ at.rest) file _ _ _ done touches) in
      begun_or_not (λ m. TouchesCells short cells file (old.now.files file) (m.files file)) error at
      (more (cell_begun short mid at.cell) (in_turn short (at.cell ∷ []) at.rest file _ _ _ (one_touches short mid at.cell file) (no_change short at.rest file _)))
      (more mid (no_change short (at.cell ∷ at.rest) file (mid.files file)))

  pub stopped_told : (error : SiteError) → StopsAt {T = T} short cells old new (Err error) → new.now.told ≡ old.now.told
  stopped_told error at =
      let told = told_after short old at.done in
      begun_or_not (λ m. m.told ≡ old.now.told) error at told told

-- ---- what a crash leaves

pub kept : (short : ℕ) (cells : List Cell) (before m : Moment) (file : FileName) (image : List ℕ) (at : ℕ) → TouchesOnly short cells before m → IsImage (m.files file) image → at < length (before.files file).synced
    → touched (before.files file).pending at ≡ false → is_byte_of_some short cells file at ≡ false → get_or image at 0 ≡ get_or (before.files file).synced at 0
kept short cells before m file image at only is below untouched outside =
    let now = only.files file in
    let still : touched (m.files file).pending at ≡ false = now.outside at outside ∙ untouched in
    let there : at < length (m.files file).synced = omega (arith, below, ap length now.synced) in
    is.kept at there (omega (arith, is.no_shorter, untouched_within (length (m.files file).synced) (m.files file).pending at there still)) still
    ∙ ap (λ (l : List ℕ). get_or l at 0) now.synced

pub no_longer : (short : ℕ) (cells : List Cell) (before m : Moment) (file : FileName) (image : List ℕ) → TouchesOnly short cells before m → IsImage (m.files file) image
    → length image ≤ max (reach short cells file) (most (length (before.files file).synced) (before.files file).pending)
no_longer short cells before m file image only is =
    let now = only.files file in
    let bound : length image ≤ most (length (before.files file).synced) (m.files file).pending = subst (λ (l : List ℕ). length image ≤ most (length l) (m.files file).pending) now.synced is.no_longer in
    omega (arith, bound, now.no_longer (length (before.files file).synced))
