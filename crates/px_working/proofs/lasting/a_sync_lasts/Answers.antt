use Rattle.px_working.proofs.Moments.{synced_all, synced_meanwhile}
use Rattle.px_working.proofs.lasting.a_sync_lasts.Goals as goal

pub returns-clause-meanwhile : goal.returns-clause-meanwhile
returns-clause-meanwhile c = synced_meanwhile

pub returns-clause-all : goal.returns-clause-all
returns-clause-all c = synced_all
