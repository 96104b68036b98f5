use Rattle.px_tidy.proofs.Stores.{tables_tidied}
use Rattle.px_tidy.proofs.laws.tidying_shows_the_same.Goals as goal

pub returns : goal.returns
returns c = λ parts short store last rows sound shows. (tables_tidied short store last sound).shows parts rows shows
