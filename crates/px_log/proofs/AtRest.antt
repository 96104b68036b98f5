-- A file at rest, of which a crash leaves what it is.
use Rattle.std.proofs.Common.{◌≡◌, ℕ, List, length, refl, arith}
use Rattle.std.proofs.lemmas.Grind.{same_number_lists}
use Rattle.px_site.specs.Disk.{IsImage, at_rest}

pub image_of_rest : (content image : List ℕ) → IsImage (at_rest content) image → image ≡ content
image_of_rest content image is_image =
    let same : length image ≡ length content = omega (arith, is_image.no_shorter, is_image.no_longer) in
    same_number_lists image content same (λ k inside. is_image.kept k (omega (arith, same, inside)) inside refl)
