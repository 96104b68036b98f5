-- Two moments whose files are the same, and what is found on a settled site.
use Rattle.std.proofs.Common.{◌≡◌, subst}
use Rattle.px_site.specs.declared.name.FileName.{FileName}
use Rattle.px_site.specs.Disk.{FileState}
use Rattle.px_site.specs.State.{Moment, State}
use Rattle.px_standing.specs.Files.{Files}
use Rattle.px_cell_standing.specs.Found.{Found, IsFoundOn, IsSettledStore}
use Rattle.px_cell_standing.specs.Images.{ImagesAreNew}
use Rattle.px_cell_standing.proofs.Resting.{image_is_one}
use Rattle.px_standing.specs.Images.{IsPlainImage}

-- what a crash may leave depends on the files alone
pub plain_alike : (a b : Moment) (image : Files) → b.files ≡ a.files → IsPlainImage b image → IsPlainImage a image
plain_alike a b image same plain =
    let at : IsPlainImage (record { files = b.files; told = a.told; telling = a.telling }) image = record { each = plain.each; first = plain.first; second = plain.second; log = plain.log } in
    let P : (FileName → FileState) → Type 0 = λ files. IsPlainImage (record { files = files; told = a.told; telling = a.telling }) image in
    subst P same at

pub new_alike : (a b : Moment) → b.files ≡ a.files → ImagesAreNew a → ImagesAreNew b
new_alike a b same new = record { each = λ image plain. new.each image (plain_alike a b image same plain) }

pub settled_found : (found : Found) (s : State) → IsSettledStore found s → IsFoundOn found s
settled_found found s store = record {
  is_found = store.is_found;
  alone = record {
    content = image_is_one s.now s.content store.settled.alone store.settled.plain;
    tables = store.settled.alone.tables;
    segments = store.settled.alone.segments;
  };
}
