use Rattle.std.proofs.Common.{List, Option, sym, ap, subst, ◌∙◌}
use Rattle.px_site.specs.State.{State}
use Rattle.px_dlog.specs.declared.inventory.ClosedLog.{ClosedLog}
use Rattle.px_dlog.specs.declared.inventory.CurrentLog.{CurrentLog}
use Rattle.px_dlog.specs.Inventory.{closed_len, kept_of, len_in, logs_of}
use Rattle.px_dlog.specs.Logs.{IsDlogOf}
use Rattle.px_dlog.proofs.Listing.{found_dlog}
use Rattle.px_dlog.proofs.dlogs.Dlogs.load.Goals as goal

pub returns-clause-found : goal.returns-clause-found
returns-clause-found g c = λ t parts rest.
    let logs = logs_of (kept_of c.of_closed.result) in
    let items = c.of_closed.result.closed.items in
    subst (λ (s : State). IsDlogOf logs parts s) (sym (c.find_logs.ensures.same t))
    (found_dlog logs parts (g.W.Site.state c.args.site.now) (λ name. g.met.W.Site.reads_image t c.args.site.now name)
    (λ n from. c.in_ok-closed.ensures.found t n from ∙ ap (λ (l : List ClosedLog). closed_len l n) (sym c.of_closed.ensures.closed)
    ∙ ap (λ (current : Option CurrentLog). len_in items current n) (sym c.of_closed.ensures.current)) rest)
