-- A store stands for the same while a file of it is synced, and where nothing but what was told changes.
use Rattle.std.proofs.Common.{◌≡◌, ℕ, Bool, true, false, cond, List, [], Result, Ok, Err, OnOk, refl, sym, ap, subst, ◌∙◌}
use Rattle.std.specs.List.{AllByRecursion}
use Rattle.px_log.proofs.AtRest.{image_of_rest}
use Rattle.px_model.specs.Machine.{Machine}
use Rattle.px_model.specs.declared.row.Row.{Row}
use Rattle.px_recs.specs.Place.{table_file}
use Rattle.px_site.proofs.Files.{same_file_is}
use Rattle.px_site.proofs.Images.{image_at_rest}
use Rattle.px_site.proofs.Moments.{sync_moments}
use Rattle.px_site.specs.Disk.{FileState, IsImage, at_rest}
use Rattle.px_site.specs.Names.{same_file}
use Rattle.px_site.specs.State.{EachMoment, Moment, State, Syncs, durable, quiet, synced}
use Rattle.px_site.specs.declared.error.SiteError.{SiteError}
use Rattle.px_site.specs.declared.name.FileName.{FileName}
use Rattle.px_site.specs.declared.name.FileName.TheVariants.{Restart as RestartFile, Xlog}
use Rattle.px_standing.specs.Images.{IsPlainImage, IsPlainRestart}
use Rattle.px_standing.specs.Files.{Files}
use Rattle.px_xlog.specs.Contents.{the_log}
use Rattle.px_xlog.specs.Written.{IsBehind, IsPlainLog}
use Rattle.px_cell_standing.specs.Found.{HoldsStore, IsFound}
use Rattle.px_cell_standing.specs.Images.{ImagesStandFor, KeepsStanding}
use Rattle.px_cell_standing.specs.Settled.{Settled}
use Rattle.px_cell_standing.proofs.Plain.{plain_restart, rest_is_plain}
use Rattle.px_cell_standing.proofs.Resting.{image_is_one}

-- ---- what holds of a file as it reads holds of it when it is synced

rested : (P : FileState → List ℕ → Type 0) → ((content : List ℕ) → P (at_rest content) content) → (file : FileName) (s : State) (name : FileName)
    → P (s.now.files name) (s.content name) → P ((durable file (s.content file) s.now).files name) (s.content name)
rested P at file s name here = by_name (same_file file name) refl
  where
    by_name : (b : Bool) → same_file file name ≡ b → P (cond b (at_rest (s.content file)) (s.now.files name)) (s.content name)
    by_name true same = subst (λ (n : FileName). P (at_rest (s.content file)) (s.content n)) (same_file_is file name same) (at (s.content file))
    by_name false apart = here

-- and what holds of an image then held before, where it holds of the file as it reads
unrested : (P : FileState → List ℕ → Type 0) (file : FileName) (s : State) (image : Files) (name : FileName) → P (s.now.files name) (s.content name)
    → IsImage ((durable file (s.content file) s.now).files name) (image name) → P ((durable file (s.content file) s.now).files name) (image name) → P (s.now.files name) (image name)
unrested P file s image name here is_image there = by_name (same_file file name) refl is_image there
  where
    by_name : (b : Bool) → same_file file name ≡ b → IsImage (cond b (at_rest (s.content file)) (s.now.files name)) (image name)
        → P (cond b (at_rest (s.content file)) (s.now.files name)) (image name) → P (s.now.files name) (image name)
    by_name true same is_image there =
        let as_read : s.content name ≡ image name =
        subst (λ (n : FileName). s.content n ≡ image name) (same_file_is file name same) (sym (image_of_rest (s.content file) (image name) is_image)) in
        subst (λ (content : List ℕ). P (s.now.files name) content) as_read here
    by_name false apart is_image there = there

module _ (file : FileName) (s : State) where
  abbrev resting : Moment
  resting = durable file (s.content file) s.now

  rested_plain : IsPlainImage s.now s.content → IsPlainImage resting s.content
  rested_plain plain = record {
    each = λ name. rested IsImage image_at_rest file s name (plain.each name);
    first = rested IsPlainRestart (λ content. plain_restart (at_rest content) content refl) file s (RestartFile 0) plain.first;
    second = rested IsPlainRestart (λ content. plain_restart (at_rest content) content refl) file s (RestartFile 1) plain.second;
    log = rested IsPlainLog rest_is_plain file s the_log plain.log;
  }

  unrested_plain : (image : Files) → IsPlainImage s.now s.content → IsPlainImage resting image → IsPlainImage s.now image
  unrested_plain image plain there = record {
    each = λ name. unrested IsImage file s image name (plain.each name) (there.each name) (there.each name);
    first = unrested IsPlainRestart file s image (RestartFile 0) plain.first (there.each (RestartFile 0)) there.first;
    second = unrested IsPlainRestart file s image (RestartFile 1) plain.second (there.each (RestartFile 1)) there.second;
    log = unrested IsPlainLog file s image the_log plain.log (there.each the_log) there.log;
  }

-- ---- the store

quiet_stands : (count : ℕ) (rows : List Row) (m : Moment) → ImagesStandFor count rows m → ImagesStandFor count rows (quiet m)
quiet_stands count rows m images = record {
  each = λ image plain. images.each image (record { each = plain.each; first = plain.first; second = plain.second; log = plain.log });
}

durable_stands : (file : FileName) (s : State) (count : ℕ) (rows : List Row) → Settled s count rows → ImagesStandFor count rows (durable file (s.content file) s.now)
durable_stands file s count rows settled = record { each = λ image plain. settled.images.each image (unrested_plain file s image settled.plain plain) }

-- a file without a byte still has none
abbrev HasNone : FileState → List ℕ → Type 0
HasNone file content = content ≡ [] → file ≡ at_rest []

synced_settled : (file : FileName) (s : State) (count : ℕ) (rows : List Row) → Settled s count rows → Settled (synced file s) count rows
synced_settled file s count rows settled =
    let one = image_is_one s.now s.content settled.alone settled.plain in
    record {
      plain = rested_plain file s settled.plain;
      images = durable_stands file s count rows settled;
      grew = rested (λ (f : FileState) (content : List ℕ). AllByRecursion (IsBehind f.synced) f.pending) (λ content. tt) file s the_log settled.grew;
      alone = record {
        tables = λ what table. rested HasNone (λ content none. ap at_rest none) file s (table_file what table) (λ none. settled.alone.tables what table) (one.cells what table);
        segments = λ segment past. rested HasNone (λ content none. ap at_rest none) file s (Xlog segment) (λ none. settled.alone.segments segment past) (one.segments segment past);
        begins = λ image plain. settled.alone.begins image (unrested_plain file s image settled.plain plain);
      };
    }

pub syncing_stands : {T : Type 0} (file : FileName) (a b : State) (r : Result T SiteError) (count : ℕ) (rows : List Row) → Settled a count rows → Syncs file a b r
    → EachMoment (KeepsStanding count rows a.now) a b
syncing_stands file a b r count rows settled syncs = sync_moments syncs
    (record { images = quiet_stands count rows a.now settled.images; told = refl; telling = refl })
    (record { images = durable_stands file a count rows settled; told = refl; telling = refl })

pub sync_settles : {T : Type 0} (file : FileName) (a b : State) (r : Result T SiteError) (count : ℕ) (rows : List Row) → Settled a count rows → Syncs file a b r → OnOk r (Settled b count rows)
sync_settles {T} file a b r count rows settled syncs = by_result r syncs.ok
  where
    by_result : (r : Result T SiteError) → OnOk r (b ≡ synced file a) → OnOk r (Settled b count rows)
    by_result (Ok _) ok = subst (λ (s : State). Settled s count rows) (sym ok) (synced_settled file a count rows settled)
    by_result (Err _) ok = tt

-- ---- what was told counts for nothing

plain_alike : (a b : Moment) (image : Files) → b.files ≡ a.files → IsPlainImage b image → IsPlainImage a image
plain_alike a b image same plain =
    let at : IsPlainImage (record { files = b.files; told = a.told; telling = a.telling }) image = record { each = plain.each; first = plain.first; second = plain.second; log = plain.log } in
    subst (λ (files : FileName → FileState). IsPlainImage (record { files = files; told = a.told; telling = a.telling }) image) same at

pub stand_alike : (a b : Moment) (count : ℕ) (rows : List Row) → b.files ≡ a.files → ImagesStandFor count rows a → ImagesStandFor count rows b
stand_alike a b count rows same images = record { each = λ image plain. images.each image (plain_alike a b image same plain) }

pub settled_alike : (a b : State) (count : ℕ) (rows : List Row) → b.content ≡ a.content → b.now.files ≡ a.now.files → Settled a count rows → Settled b count rows
settled_alike a b count rows content files settled = record {
  plain = plain_alike b.now a.now b.content (sym files) (subst (λ (c : Files). IsPlainImage a.now c) (sym content) settled.plain);
  images = stand_alike a.now b.now count rows files settled.images;
  grew = subst (λ (f : FileName → FileState). AllByRecursion (IsBehind (f the_log).synced) (f the_log).pending) (sym files) settled.grew;
  alone = record {
    tables = λ what table. ap (λ (f : FileName → FileState). f (table_file what table)) files ∙ settled.alone.tables what table;
    segments = λ segment past. ap (λ (f : FileName → FileState). f (Xlog segment)) files ∙ settled.alone.segments segment past;
    begins = λ image plain. settled.alone.begins image (plain_alike a.now b.now image files plain);
  };
}

pub store_alike : (m : Machine) (a b : State) → b.content ≡ a.content → b.now.files ≡ a.now.files → HoldsStore m a → HoldsStore m b
store_alike m a b content files holds = record {
  found = holds.found;
  store = record {
    is_found = subst (IsFound holds.found) (sym content) holds.store.is_found;
    settled = settled_alike a b holds.found.commits holds.found.rows content files holds.store.settled;
  };
  has_all = holds.has_all;
}
