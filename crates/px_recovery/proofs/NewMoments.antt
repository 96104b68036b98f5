-- While a store is made, a crash leaves no restart, or a store without commits and rows.
use Rattle.std.proofs.Common.{◌≡◌, ◌⊎◌, ℕ, zero, suc, ◌-◌, ◌≤◌, ◌<◌, Bool, true, false, cond, List, [], ◌∷◌, length, drop, get_or, refl, sym, ap, subst, ◌∙◌, inl, inr, arith, Result, Ok}
use Rattle.px_site.specs.declared.name.FileName.{FileName}
use Rattle.px_site.specs.declared.error.SiteError.{SiteError}
use Rattle.px_site.specs.Disk.{Change, Wrote, Cut, Removed, FileState, IsImage, overlaid, at_rest, pending_more, touches, touched, least, most}
use Rattle.px_site.specs.Names.{same_file}
use Rattle.px_site.specs.State.{State, Moment, EachMoment, Changes, Syncs, with_file}
use Rattle.px_site.proofs.Files.{stands, stands_changed, change_on_file, sync_on_file, same_file_is}
use Rattle.px_site.proofs.Images.{length-overlay, not_either, outside, overlay_other}
use Rattle.px_site.proofs.Moments.{then_moments, weaker_moments}
use Rattle.px_model.specs.declared.limits.TheConstants.{MOST_TABLES, SHORTEST_SHORT, LONGEST_SHORT}
use Rattle.px_cells.specs.declared.cell.CellKind.{CellKind}
use Rattle.px_cells.specs.declared.cell.CellKind.TheVariants as kind
use Rattle.px_laid.specs.Places.{Places}
use Rattle.px_opened.specs.Opened.{Opens, changes_over}
use Rattle.px_recs.specs.Place.{table_file}
use Rattle.px_restart.specs.declared.restart.Restart.{Restart}
use Rattle.px_restart.specs.declared.text.TheConstants.{VERSION}
use Rattle.px_restart.specs.Restart.{CanRestart, RestartAt, IsPicked, restart_text}
use Rattle.px_restart.proofs.Restarts.{one_restart}
use Rattle.px_xlog.specs.Written.{HasAt, WasWritten, IsPlainLog}
use Rattle.px_xlog.specs.Contents.{the_log}
use Rattle.px_xlog.proofs.AtRest.{image_of_rest}
use Rattle.px_standing.specs.Images.{IsPlainRestart, IsPlainImage}
use Rattle.px_cell_standing.specs.Images.{ImagesAreNew, CanMake}
use Rattle.px_cell_standing.specs.Settled.{Settled}
use Rattle.px_standing.specs.Files.{Files, HasNoRestart}
use Rattle.px_cell_standing.specs.Standing.{StandsFor}
use Rattle.px_recovery.specs.Making.{first_file, second_file, first_saved, with_restart, IsFree, IsWritten, NewSettles, NewStands, WritesFirstFile, StaysNew}
use Rattle.px_recovery.proofs.Alike.{last_alike, places_alike, scanned_alike}
use Rattle.px_recovery.proofs.Deciding.{decide_restart}
use Rattle.px_recovery.proofs.NewStore.{new_store, written_checks, other_image, no_second, has_nothing, made_settled}
use Rattle.px_recovery.proofs.Fronts.{has_text, is_text}
use Rattle.px_recovery.proofs.Quiet.{last_moment}

-- ---- call by call

module _ {restart : Restart} {s0 s1 : State} where
  pub writing_moments : {T : Type 0} {bytes : List ℕ} {r : Result T SiteError} → bytes ≡ restart_text VERSION restart → Changes first_file (Wrote 0 bytes) s0 s1 r
      → EachMoment (WritesFirstFile restart s0) s0 s1
  writing_moments {T} {bytes} {r} is moves = change_on_file (stands {s = s0} refl) (subst (λ (b : List ℕ). Changes first_file (Wrote 0 b) s0 s1 r) is moves) (record { which = inl refl })

  pub syncing_moments : {T U : Type 0} {bytes : List ℕ} {s2 : State} {x : T} {r : Result U SiteError} → bytes ≡ restart_text VERSION restart → Changes first_file (Wrote 0 bytes) s0 s1 (Ok x) → Syncs first_file s1 s2 r
      → EachMoment (WritesFirstFile restart s0) s0 s2
  syncing_moments {T} {U} {bytes} {s2} {x} {r} is moves syncs =
      let here = subst (λ (b : List ℕ). Changes first_file (Wrote 0 b) s0 s1 (Ok x)) is moves in
      then_moments (change_on_file (stands {s = s0} refl) here (record { which = inl refl }))
      (sync_on_file (stands_changed (stands {s = s0} refl) here) syncs (record { which = inl refl }) (record { which = inr refl }))

-- ---- what was written by some change is an image

overlaid_long : (synced : List ℕ) (pending : List Change) → length synced ≤ length (overlaid synced pending)
overlaid_long synced [] = omega arith
overlaid_long synced (Wrote place bytes ∷ earlier) = omega (arith, overlaid_long synced earlier, length-overlay (overlaid synced earlier) place bytes)
overlaid_long synced (Cut to ∷ earlier) = overlaid_long synced earlier
overlaid_long synced (Removed ∷ earlier) = overlaid_long synced earlier

least_short : (len : ℕ) (pending : List Change) → least len pending ≤ len
least_short len [] = omega arith
least_short len (Wrote place bytes ∷ earlier) = least_short len earlier
least_short len (Cut to ∷ earlier) = omega (arith, least_short len earlier)
least_short len (Removed ∷ earlier) = omega arith

overlaid_short : (synced : List ℕ) (pending : List Change) → length (overlaid synced pending) ≤ most (length synced) pending
overlaid_short synced [] = omega arith
overlaid_short synced (Wrote place bytes ∷ earlier) = omega (arith, overlaid_short synced earlier, length-overlay (overlaid synced earlier) place bytes)
overlaid_short synced (Cut to ∷ earlier) = overlaid_short synced earlier
overlaid_short synced (Removed ∷ earlier) = overlaid_short synced earlier

overlaid_keeps : (synced : List ℕ) (pending : List Change) (at : ℕ) → at < length synced → touched pending at ≡ false → get_or (overlaid synced pending) at 0 ≡ get_or synced at 0
overlaid_keeps synced [] at within none = refl
overlaid_keeps synced (Wrote place bytes ∷ earlier) at within none =
    let apart = not_either (touches (Wrote place bytes) at) (touched earlier at) none in
    overlay_other (overlaid synced earlier) place bytes at (omega (arith, within, overlaid_long synced earlier)) (outside place bytes at apart.0) ∙ overlaid_keeps synced earlier at within apart.1
overlaid_keeps synced (Cut to ∷ earlier) at within none = overlaid_keeps synced earlier at within (not_either (touches (Cut to) at) (touched earlier at) none).1
overlaid_keeps synced (Removed ∷ earlier) at within none = overlaid_keeps synced earlier at within (not_either (touches Removed at) (touched earlier at) none).1

most_earlier : (len : ℕ) (change : Change) (pending : List Change) → most len pending ≤ most len (change ∷ pending)
most_earlier len (Wrote place bytes) pending = omega arith
most_earlier len (Cut to) pending = omega arith
most_earlier len Removed pending = omega arith

written_short : (synced : List ℕ) (pending : List Change) (later : ℕ) → length (overlaid synced (drop later pending)) ≤ most (length synced) pending
written_short synced pending zero = overlaid_short synced pending
written_short synced [] (suc later) = omega arith
written_short synced (change ∷ pending) (suc later) = omega (arith, written_short synced pending later, most_earlier (length synced) change pending)

earlier_untouched : (pending : List Change) (later at : ℕ) → touched pending at ≡ false → touched (drop later pending) at ≡ false
earlier_untouched pending zero at none = none
earlier_untouched [] (suc later) at none = refl
earlier_untouched (change ∷ pending) (suc later) at none = earlier_untouched pending later at (not_either (touches change at) (touched pending at) none).1

written_image : (file : FileState) (later : ℕ) → IsImage file (overlaid file.synced (drop later file.pending))
written_image file later = record {
  no_shorter = omega (arith, least_short (length file.synced) file.pending, overlaid_long file.synced (drop later file.pending));
  no_longer = written_short file.synced file.pending later;
  kept = λ at within here none. overlaid_keeps file.synced (drop later file.pending) at within (earlier_untouched file.pending later at none);
}

-- ---- an older restart is that of a store without commits and rows

picked_alike : (a w b : List ℕ) (restart picked : Restart) → RestartAt a restart → RestartAt w restart → IsPicked w b picked → IsPicked a b picked
picked_alike a w b restart picked in_a in_w is = elim is as (λ _. IsPicked a b picked) [
  | inl one ↦ inl (subst (λ (r : Restart). RestartAt a r) (one_restart w restart picked in_w one.0) in_a, one.1)
  | inr two ↦ inr (two.0, λ s at. two.1 s (subst (λ (r : Restart). RestartAt w r) (one_restart a restart s in_a at) in_w))
]

tables_apart : (image : Files) (w : List ℕ) (what : CellKind) (table : ℕ) → image (table_file what table) ≡ with_file first_file w image (table_file what table)
tables_apart image w kind.Header table = refl
tables_apart image w kind.Slot table = refl
tables_apart image w kind.Pointer table = refl

stands_alike : (image : Files) (w : List ℕ) (restart : Restart) → RestartAt (image first_file) restart → RestartAt w restart → StandsFor (with_file first_file w image) 0 [] → StandsFor image 0 []
stands_alike image w restart in_image in_w stands =
    let swap : Files = with_file first_file w image in
    let last = last_alike image swap (λ segment. refl) stands.restart in
    record {
      restart = stands.restart;
      changes = stands.changes;
      found = stands.found;
      layouts = stands.layouts;
      finds = record {
        picked = picked_alike (image first_file) w (image second_file) restart stands.restart in_image in_w stands.finds.picked;
        scanned = scanned_alike image swap (λ segment. refl) stands.restart ∙ stands.finds.scanned;
        held = stands.finds.held;
        reached = stands.finds.reached;
        behind = λ segment past. stands.finds.behind segment (subst (λ (n : ℕ). n < segment) last past);
        opens =
            subst (λ (places : Places). Opens stands.restart.short stands.restart.tables (changes_over places (drop (stands.restart.redo - stands.restart.first) stands.changes)) stands.found stands.layouts)
            (sym (places_alike stands.restart.short image swap (tables_apart image w))) stands.finds.opens;
        numbers = stands.finds.numbers;
      };
      shows = stands.shows;
      commits_are = stands.commits_are;
    }

module _ (stands : NewStands) (tables short : ℕ) (before : State) (can : CanMake before) (free : IsFree before.content) (bounds : CanRestart (first_saved tables short)) where
  swapped_image : (m : Moment) (image : Files) (w : List ℕ) → ((name : FileName) → same_file first_file name ≡ false → m.files name ≡ before.now.files name) → ((name : FileName) → IsImage (m.files name) (image name)) → IsImage (before.now.files first_file) w
      → (name : FileName) → IsImage (before.now.files name) (with_file first_file w image name)
  swapped_image m image w others each this name = by_name (same_file first_file name) refl
    where
      by_name : (b : Bool) → same_file first_file name ≡ b → IsImage (before.now.files name) (cond b w (image name))
      by_name true same = subst (λ (n : FileName). IsImage (before.now.files n) w) (same_file_is first_file name same) this
      by_name false apart = subst (λ (f : FileState). IsImage f (image name)) (others name apart) (each name)

  -- a restart that was written before
  older : (m : Moment) (image : Files) (restart : Restart) (later : ℕ) → WritesFirstFile (first_saved tables short) before m → IsPlainImage m image → RestartAt (image first_file) restart
      → HasAt (overlaid (before.now.files first_file).synced (drop later (before.now.files first_file).pending)) 0 (restart_text VERSION restart) → StandsFor image 0 []
  older m image restart later on plain at has =
      let file = before.now.files first_file in
      let w = overlaid file.synced (drop later file.pending) in
      let in_w : RestartAt w restart = is_text w restart at.can has in
      let swap : Files = with_file first_file w image in
      let is_plain : IsPlainImage before.now swap = record {
        each = swapped_image m image w on.others plain.each (written_image file later);
        first = λ other other_at. (later, has_text w other other_at);
        second = subst (λ (f : FileState). IsPlainRestart f (image second_file)) (on.others second_file refl) plain.second;
        log = subst (λ (f : FileState). IsPlainLog f (image the_log)) (on.others the_log refl) plain.log;
      } in
      elim (can.images.each swap is_plain) as (λ _. StandsFor image 0 []) [
        | inl none ↦ absurd (none.first restart in_w)
        | inr stands ↦ stands_alike image w restart at in_w stands
      ]

  -- that of this store
  newer : (m : Moment) (image : Files) (content : List ℕ) (restart : Restart) → WritesFirstFile (first_saved tables short) before m → IsPlainImage m image → RestartAt (image first_file) restart
      → HasAt (with_restart (first_saved tables short) content) 0 (restart_text VERSION restart) → StandsFor image 0 []
  newer m image content restart on plain at has =
      let first = first_saved tables short in
      let bytes = with_restart first content in
      let same : restart ≡ first = one_restart bytes restart first (is_text bytes restart at.can has) (written_checks first content bounds) in
      let other = other_image before free can m image on.others plain.each in
      new_store stands tables short image (subst (λ (r : Restart). RestartAt (image first_file) r) same at)
      (no_second before free (image second_file) (other second_file refl)) (has_nothing before free image other)

  with_one : (m : Moment) (image : Files) (restart : Restart) → WritesFirstFile (first_saved tables short) before m → IsPlainImage m image → RestartAt (image first_file) restart → StandsFor image 0 []
  with_one m image restart on plain at = elim on.this.which as (λ _. StandsFor image 0 []) [
    | inl begun ↦ by_later (subst (λ (f : FileState). IsPlainRestart f (image first_file)) begun plain.first restart at)
    | inr done ↦
        let bytes = with_restart (first_saved tables short) (before.content first_file) in
        let is : image first_file ≡ bytes = image_of_rest bytes (image first_file) (subst (λ (f : FileState). IsImage f (image first_file)) done (plain.each first_file)) in
        newer m image (before.content first_file) restart on plain at (has_text bytes restart (subst (λ (b : List ℕ). RestartAt b restart) is at))
  ]
    where
      by_which : (later : ℕ) → HasAt (overlaid (before.now.files first_file).synced (drop later (Wrote 0 (restart_text VERSION (first_saved tables short)) ∷ (before.now.files first_file).pending))) 0 (restart_text VERSION restart) → StandsFor image 0 []
      by_which zero has = newer m image (overlaid (before.now.files first_file).synced (before.now.files first_file).pending) restart on plain at has
      by_which (suc later) has = older m image restart later on plain at has

      by_later : WasWritten (pending_more (Wrote 0 (restart_text VERSION (first_saved tables short))) (before.now.files first_file)) 0 (restart_text VERSION restart) → StandsFor image 0 []
      by_later was = by_which was.0 was.1

  new_image : (m : Moment) (image : Files) → WritesFirstFile (first_saved tables short) before m → IsPlainImage m image → HasNoRestart image ⊎ StandsFor image 0 []
  new_image m image on plain =
      let other = other_image before free can m image on.others plain.each in
      elim (decide_restart (image first_file)) as (λ _. HasNoRestart image ⊎ StandsFor image 0 []) [
        | inl one ↦ inr (with_one m image one.0 on plain one.1)
        | inr none ↦ inl (record { first = none; second = no_second before free (image second_file) (other second_file refl) })
      ]

  pub new_moments : {now : State} → EachMoment (WritesFirstFile (first_saved tables short) before) before now → EachMoment (StaysNew before.now) before now
  new_moments moments = weaker_moments (λ m on. record { images = record { each = λ image plain. new_image m image on plain }; told = on.told; telling = on.telling }) moments

-- ---- as a whole

pub first_bounds : (tables short : ℕ) → 1 ≤ tables → tables ≤ MOST_TABLES → SHORTEST_SHORT ≤ short → short ≤ LONGEST_SHORT → CanRestart (first_saved tables short)
first_bounds tables short tables_from tables_to short_from short_to = record {
  shape = record { serial_from = omega arith; serial_to = omega arith; tables_from = tables_from; tables_to = tables_to; short_from = short_from; short_to = short_to; segment_from = omega arith; segment_to = omega arith };
  marks = record { commits_to = omega arith; low_from = omega arith; low_to = omega arith; next_to = omega arith; first_to = omega arith; redo_to = omega arith; durable_to = omega arith };
}

module _ (stands : NewStands) (tables short : ℕ) (before middle now : State) (restart : Restart) (is_first : restart ≡ first_saved tables short) (still : middle ≡ before) (bounds : CanRestart (first_saved tables short)) (free : IsFree before.content) (can : CanMake before) where
  pub make_moments : EachMoment (WritesFirstFile restart middle) middle now → EachMoment (StaysNew before.now) before now
  make_moments moments =
      let here = subst (λ (r : Restart). EachMoment (WritesFirstFile r middle) middle now) is_first moments in
      new_moments stands tables short before can free bounds
      (subst (λ (s : State). EachMoment (WritesFirstFile (first_saved tables short) s) s now) still here)

  pub make_settled : NewSettles → IsWritten restart middle now → Settled now 0 []
  make_settled settles written =
      let here = subst (λ (r : Restart). IsWritten r middle now) is_first written in
      made_settled tables short before now can free bounds (subst (λ (s : State). IsWritten (first_saved tables short) s now) still here) settles

  -- after an error, where others' contents are as they were
  pub make_again : EachMoment (WritesFirstFile restart middle) middle now → ((name : FileName) → same_file first_file name ≡ false → now.content name ≡ middle.content name) → CanMake now
  make_again moments others =
      let here = subst (λ (s : State). EachMoment (WritesFirstFile restart s) s now) still moments in
      let kept = subst (λ (s : State). (name : FileName) → same_file first_file name ≡ false → now.content name ≡ s.content name) still others in
      record {
        others = λ name apart.
            last_moment (λ (m : Moment). m.files name ≡ before.now.files name) refl (weaker_moments (λ m on. on.others name apart) here)
            ∙ can.others name apart
            ∙ ap at_rest (sym (kept name apart));
        images = last_moment ImagesAreNew can.images (weaker_moments (λ m new. new.images) (make_moments moments));
      }
