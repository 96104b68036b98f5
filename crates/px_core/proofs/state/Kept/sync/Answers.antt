use Rattle.px_core.proofs.state.Kept.sync.Goals as goal

pub returns-in-Ok-clause-flushed : goal.returns-in-Ok-clause-flushed
returns-in-Ok-clause-flushed g c = c.in-Ok.ensures.flushed c.args.self.now.held
