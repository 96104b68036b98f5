-- Files whose bytes are all on the disk, and what they stand for.
use Rattle.std.proofs.Common.{◌≡◌, ℕ, List, [], refl, sym, ap, subst, ◌∙◌}
use Rattle.std.proofs.Math.Path.{fun_ext}
use Rattle.std.specs.List.{AllByRecursion}
use Rattle.px_log.proofs.AtRest.{image_of_rest}
use Rattle.px_model.specs.declared.row.Row.{Row}
use Rattle.px_recs.specs.Place.{table_file}
use Rattle.px_site.proofs.Images.{image_at_rest}
use Rattle.px_site.specs.Disk.{FileState, IsImage, at_rest}
use Rattle.px_site.specs.State.{Moment, State}
use Rattle.px_site.specs.declared.name.FileName.{FileName}
use Rattle.px_site.specs.declared.name.FileName.TheVariants.{Restart as RestartFile, Xlog}
use Rattle.px_standing.specs.Images.{IsPlainImage}
use Rattle.px_standing.specs.Files.{Files}
use Rattle.px_xlog.specs.Contents.{the_log}
use Rattle.px_xlog.specs.Written.{IsBehind, IsPlainLog}
use Rattle.px_cell_standing.specs.Settled.{BeginsAtStart, IsAlone, IsAtRest, IsOneFile, KeepsOneFile, Settled}
use Rattle.px_cell_standing.specs.Standing.{StandsFor}
use Rattle.px_cell_standing.proofs.Plain.{plain_restart, rest_is_plain}

-- a crash leaves of such files just their bytes
pub image_is_same : (files : Files) (s : State) → IsAtRest files s → (image : Files) → IsPlainImage s.now image → (name : FileName) → image name ≡ files name
image_is_same files s rests image plain name =
    image_of_rest (files name) (image name) (subst (λ (f : FileState). IsImage f (image name)) (rests.rests name) (plain.each name))

-- files with the same bytes are the same
same_files : (files image : Files) → ((name : FileName) → image name ≡ files name) → files ≡ image
same_files files image same = fun_ext (λ name. sym (same name))

pub rest_settles : (s : State) (commits : ℕ) (rows : List Row) → IsAtRest s.content s → IsOneFile s.content → StandsFor s.content commits rows → Settled s commits rows
rest_settles s commits rows rests one stands = record {
  plain = record {
    each = λ name. subst (λ (f : FileState). IsImage f (s.content name)) (sym (rests.rests name)) (image_at_rest (s.content name));
    first = plain_restart (s.now.files (RestartFile 0)) (s.content (RestartFile 0)) (rests.rests (RestartFile 0));
    second = plain_restart (s.now.files (RestartFile 1)) (s.content (RestartFile 1)) (rests.rests (RestartFile 1));
    log = subst (λ (f : FileState). IsPlainLog f (s.content the_log)) (sym (rests.rests the_log)) (rest_is_plain (s.content the_log));
  };
  images = record { each = λ image plain. subst (λ (files : Files). StandsFor files commits rows) (all_same image plain) stands };
  grew = subst (λ (f : FileState). AllByRecursion (IsBehind f.synced) f.pending) (sym (rests.rests the_log)) tt;
  alone = record {
    tables = λ what table. rests.rests (table_file what table) ∙ ap at_rest (one.cells what table);
    segments = λ segment past. rests.rests (Xlog segment) ∙ ap at_rest (one.segments segment past);
    begins = λ image plain. subst BeginsAtStart (all_same image plain) one.begins;
  };
}
  where
    all_same : (image : Files) → IsPlainImage s.now image → s.content ≡ image
    all_same image plain = same_files s.content image (image_is_same s.content s rests image plain)

-- what a crash leaves of a settled site lies in one file
pub image_is_one : (now : Moment) (image : Files) → KeepsOneFile now → IsPlainImage now image → IsOneFile image
image_is_one now image one plain = record {
  cells = λ what table. empty (table_file what table) (one.tables what table);
  segments = λ segment past. empty (Xlog segment) (one.segments segment past);
  begins = one.begins image plain;
}
  where
    empty : (name : FileName) → now.files name ≡ at_rest [] → image name ≡ []
    empty name rests = image_of_rest [] (image name) (subst (λ (f : FileState). IsImage f (image name)) rests (plain.each name))

-- what is read of it is one of these
pub settled_alone : (s : State) (commits : ℕ) (rows : List Row) → Settled s commits rows → IsAlone s
settled_alone s commits rows settled = record {
  content = image_is_one s.now s.content settled.alone settled.plain;
  tables = settled.alone.tables;
  segments = settled.alone.segments;
}

pub crash_settles : (s later : State) (commits : ℕ) (rows : List Row) (image : Files) → Settled s commits rows → IsPlainImage s.now image → IsAtRest image later
    → Settled later commits rows
crash_settles s later commits rows image settled plain rests =
    rest_settles later commits rows
    (record { content = refl; rests = λ name. rests.rests name ∙ ap (λ (files : Files). at_rest (files name)) (sym rests.content) })
    (subst IsOneFile (sym rests.content) (image_is_one s.now image settled.alone plain))
    (subst (λ (files : Files). StandsFor files commits rows) (sym rests.content) (settled.images.each image plain))
