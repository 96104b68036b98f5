use Rattle.std.proofs.Common.{◌≡◌, ◌==◌, List, Option, Some, not, length, sym, ap, subst, ◌∙◌, arith}
use Rattle.std.specs.Prelude.{IfSome}
use Rattle.std.specs.Option.{option_copied}
use Rattle.px_active.specs.declared.active.Active.{Active}
use Rattle.px_active.specs.Active.{AreReleased, AreStored}
use Rattle.px_active.proofs.Ending.{counts, end_answers, end_leaves, no_end, no_end_leaves}
use Rattle.px_active.proofs.Sweeping.{end_stored}
use Rattle.px_xacts.specs.Sound.{IsOpen}
use Rattle.px_xacts.specs.declared.transaction.Transaction.{Transaction}
use Rattle.px_xacts.specs.declared.write.WriteAt.{WriteAt}
use Rattle.px_xacts.specs.Transactions.{open_of}
use Rattle.px_active.proofs.active.Active.end.Goals as goal

pub returns-in_default-clause-reply : goal.returns-in_default-clause-reply
returns-in_default-clause-reply c = λ m is.
    no_end m c.args.self.now c.args.session c.args.committed is (sym c.open_of.ensures.is ∙ ap option_copied c.in_default.is)

pub returns-in_default-clause-active : goal.returns-in_default-clause-active
returns-in_default-clause-active c = λ m kept is.
    no_end_leaves m c.args.self.now c.args.session c.args.committed is (sym c.open_of.ensures.is ∙ ap option_copied c.in_default.is)

pub returns-clause-reply : goal.returns-clause-reply
returns-clause-reply c = λ m is.
    let t = c.in-Some.transaction.now in
    let at : open_of c.args.self.now.xacts c.args.session ≡ Some t = sym c.open_of.ensures.is ∙ ap option_copied c.in-Some.is in
    let has : not c.is_empty-has_writes.result ≡ not (length t.writes == 0) =
    ap not (c.is_empty-has_writes.ensures ∙ ap (λ (l : List WriteAt). length l == 0) c.as_slice-writes.ensures) in
    c.answer.ensures.reply ∙ end_answers m c.args.self.now c.args.session c.args.committed (not c.is_empty-has_writes.result) t is at has

pub returns-clause-active : goal.returns-clause-active
returns-clause-active c = λ m kept is.
    let t = c.in-Some.transaction.now in
    let at : open_of c.args.self.now.xacts c.args.session ≡ Some t = sym c.open_of.ensures.is ∙ ap option_copied c.in-Some.is in
    let has : not c.is_empty-has_writes.result ≡ not (length t.writes == 0) =
    ap not (c.is_empty-has_writes.ensures ∙ ap (λ (l : List WriteAt). length l == 0) c.as_slice-writes.ensures) in
    let new : Active = record { xacts = c.end.new.self; locks = c.release.new.locks; tickets = c.clear.new.self; commits = c.answer.new.commits } in
    end_leaves m c.args.self.now new c.args.session c.args.committed t kept is at c.end.ensures
    (subst (λ (l : List WriteAt). AreReleased l t.number c.args.self.now.locks c.release.new.locks) c.as_slice-writes.ensures c.release.ensures)
    c.clear.ensures
    (c.answer.ensures.counted ∙ counts c.args.self.now c.args.session c.args.committed (not c.is_empty-has_writes.result) t at has)

pub returns-clause-stored : goal.returns-clause-stored
returns-clause-stored c = λ stored.
    let all = c.args.self.now.xacts in
    let t = c.in-Some.transaction.now in
    let there = ap option_copied c.in-Some.is in
    let at : open_of all c.args.session ≡ Some t = sym c.open_of.ensures.is ∙ there in
    let sound : IsOpen all.begun all.outcomes t =
    subst (λ (slot : Option Transaction). IfSome slot (IsOpen all.begun all.outcomes)) there c.open_of.ensures.sound in
    let below = c.open_of.ensures.stored in
    subst AreStored (sym c.end.ensures)
    (end_stored all c.args.session c.args.committed t at (omega (arith, sound.from_one), omega (arith, sound.given, below)) stored)
