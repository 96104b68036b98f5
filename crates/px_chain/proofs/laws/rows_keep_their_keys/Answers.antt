use Rattle.px_chain.proofs.SoundUnlink.{part_keys, part_rows}
use Rattle.px_chain.proofs.laws.rows_keep_their_keys.Goals as goal

pub returns-clause-rows : goal.returns-clause-rows
returns-clause-rows c = part_rows

pub returns-clause-keys : goal.returns-clause-keys
returns-clause-keys c = part_keys
