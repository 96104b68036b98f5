use Rattle.std.proofs.Common.{refl}
use Rattle.std.specs.Fmt.{digits}
use Rattle.px_site.proofs.laws.texts_of_file_names.Goals as goal

pub returns : goal.returns
unfolding digits
returns c = record { rec = refl; row = refl; dlog = refl; xlog = refl; restart = refl }
