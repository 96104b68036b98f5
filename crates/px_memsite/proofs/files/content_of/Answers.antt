use Rattle.std.proofs.Common.{sym, ap, ◌∙◌}
use Rattle.px_memsite.specs.Files.{View}
use Rattle.px_memsite.proofs.FileLists.{view_at, view_absent}
use Rattle.px_memsite.proofs.files.content_of.Goals as goal

pub returns-in-Ok : goal.returns-in-Ok
returns-in-Ok c = c.deref.ensures.value ∙ ap (λ (v : View). v.content) (sym (view_at c.args.files.now c.args.name c.in-Ok.at c.index-files-at.result c.in-Ok.ensures.place))

pub returns-in-Err : goal.returns-in-Err
returns-in-Err c = ap (λ (v : View). v.content) (sym (view_absent c.args.files.now c.args.name c.in-Err.field-0 c.requires c.in-Err.ensures.place))
