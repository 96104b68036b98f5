use Rattle.std.proofs.Common.{sym, ◌∙◌}
use Rattle.px_script.proofs.Taken.{no_fault_by, read_faults, read_ok, piece-ahead, piece-end, moves-ahead}
use Rattle.px_script.proofs.lines.Lines.read_on.Goals as goal

pub returns-in-Some-clause-moves : goal.returns-in-Some-clause-moves
returns-in-Some-clause-moves g c = λ tells.
    let left = g.S.Source.left c.reads.source in
    let left_now = g.S.Source.left c.read_piece.new.source in
    let read = c.read_piece.new.self in
    let adds = read_ok c.in_ok-read_piece.field-0 (sym c.is_err.ensures.value ∙ c.if-is_err.false) c.in_ok-read_piece.ensures.read in
    let before = piece-ahead g.S.Source.tells c.reads.self read left left_now tells adds ∙ c.reads.invariant.same tells in
    rw (← before)
    (moves-ahead read.held c.waiting.new.self.held left_now c.waiting.new.self c.in-Some.next
    (λ over. piece-end g.S.Source.tells c.reads.self read left left_now tells adds (sym c.in-Some.ensures.ended ∙ over))
    c.in-Some.ensures.found.1)

pub returns-in-Some-clause-faults : goal.returns-in-Some-clause-faults
returns-in-Some-clause-faults g c =
    no_fault_by c.in-Some.next (g.S.Source.faults c.args.source.now) (g.S.Source.faults c.read_piece.new.source) c.in-Some.ensures.no_fault
    (read_faults c.in_ok-read_piece.field-0 (g.S.Source.faults c.reads.source) (g.S.Source.faults c.read_piece.new.source) (sym c.is_err.ensures.value ∙ c.if-is_err.false) c.in_ok-read_piece.ensures.faults
    ∙ c.reads.invariant.faults)
