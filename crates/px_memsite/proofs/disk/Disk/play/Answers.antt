use Rattle.px_memsite.proofs.Shown.{reached_on_ok}
use Rattle.px_memsite.proofs.disk.Disk.play.Goals as goal

pub returns-in-Changed-clause-state : goal.returns-in-Changed-clause-state
returns-in-Changed-clause-state c = reached_on_ok c.change.result c.args.self.now.history.items c.change.new.self.history.items c.args.event _ c.in-Changed.is c.change.ensures.ok

pub returns-in-Synced-clause-state : goal.returns-in-Synced-clause-state
returns-in-Synced-clause-state c = reached_on_ok c.sync.result c.args.self.now.history.items c.sync.new.self.history.items c.args.event _ c.in-Synced.is c.sync.ensures.ok

pub returns-in-Told-clause-state : goal.returns-in-Told-clause-state
returns-in-Told-clause-state c = reached_on_ok c.say.result c.args.self.now.history.items c.say.new.self.history.items c.args.event _ c.in-Told.is c.say.ensures.ok

pub returns-in-Put-clause-state : goal.returns-in-Put-clause-state
returns-in-Put-clause-state c = reached_on_ok c.put.result c.args.self.now.history.items c.put.new.self.history.items c.args.event _ c.in-Put.is c.put.ensures.ok
