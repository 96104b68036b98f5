use Rattle.px_laid.proofs.Says.{says_laid}
use Rattle.px_laid.proofs.laws.laid_texts_are_texts_of_what_is_laid.Goals as goal

pub returns : goal.returns
returns c = says_laid
