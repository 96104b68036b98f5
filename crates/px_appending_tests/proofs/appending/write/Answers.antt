use Rattle.std.proofs.Common.{[]}
use Rattle.px_held.proofs.Serving.{anywhere}
use Rattle.px_site.specs.Disk.{at_rest}
use Rattle.px_site.specs.State.{State}
use Rattle.px_tidying.proofs.Readying.{still_store}
use Rattle.px_appending_tests.proofs.appending.write.Goals as goal

-- a site without a byte
no_bytes : State
no_bytes = record { content = λ name. []; now = record { files = λ name. at_rest []; told = []; telling = [] }; past = [] }

pub append_version-requires-clause-store : goal.append_version-requires-clause-store
append_version-requires-clause-store c =
    let old = c.requires.store no_bytes in
    let has = old.1 in (
      old.0,
      still_store old.0 no_bytes _ c.args.held.now c.place_for.new.self c.args.log.now
          (c.place_for.ensures.keeps old.0 (anywhere no_bytes _ c.args.held.now old.0 has.serves)) c.place_for.ensures.form has,
    )
