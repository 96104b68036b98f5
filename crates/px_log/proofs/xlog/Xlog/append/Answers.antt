use Rattle.std.proofs.Common.{◌≡◌, ℕ, ◌+◌, ◌*◌, ◌^◌, ◌<◌, ◌≤◌, true, [], ◌∷◌, ◌++◌, length, sym, ap, subst, ◌∙◌, arith}
use Rattle.px_change.specs.Grammar.{is_change}
use Rattle.px_log.specs.Window.{longest_frame}
use Rattle.px_log.specs.Log.{Log, IsLogOf, with_frame}
use Rattle.px_log.proofs.FramesOfChanges.{may_be_written}
use Rattle.px_log.proofs.Appends.{may_append, short_frame, append_moments, append_logged}
use Rattle.px_log.proofs.Touching.{change_touches}
use Rattle.px_log.proofs.xlog.Xlog.append.Goals as goal

pub fill-requires : goal.fill-requires
fill-requires g c =
    subst (λ (short : ℕ). is_change short (g.P.Payload.change c.args.payload.now) ≡ true) (sym (ap (λ (l : Log). l.short) c.self.view_is)) (may_be_written _ _ _ _ c.requires)

pub write_at-requires : goal.write_at-requires
write_at-requires g c =
    let below : c.self.inside.frames < 2 ^ 32 = c.if-number-ge-MOST_FRAMES.false in
    let may = may_append c.args.self.now (g.P.Payload.change c.args.payload.now) c.as_slice-frame.result.now c.self.inside.frames (ap (λ (l : Log). l.frames) c.self.view_is) (omega arith) c.requires (c.as_slice-frame.ensures ∙ c.in_ok-fill.ensures.frame) in
    let short = short_frame c.args.self.now (g.P.Payload.change c.args.payload.now) c.as_slice-frame.result.now may in
    let sized : c.self.inside.size ≤ longest_frame * c.self.inside.frames = c.self.invariant.0 in
    omega arith

pub returns-in_err-write_at-clause-moments : goal.returns-in_err-write_at-clause-moments
returns-in_err-write_at-clause-moments g c t = λ changes is.
    let below : c.self.inside.frames < 2 ^ 32 = c.if-number-ge-MOST_FRAMES.false in
    let may = may_append c.args.self.now (g.P.Payload.change c.args.payload.now) c.as_slice-frame.result.now c.self.inside.frames (ap (λ (l : Log). l.frames) c.self.view_is) (omega arith) c.requires (c.as_slice-frame.ensures ∙ c.in_ok-fill.ensures.frame) in
    append_moments is may c.log_file.ensures (ap (λ (l : Log). l.size) c.self.view_is) (c.write_at.ensures.moves t)

pub invariant_of-self-2 : goal.invariant_of-self-2
invariant_of-self-2 g c =
    let below : c.self.inside.frames < 2 ^ 32 = c.if-number-ge-MOST_FRAMES.false in
    let may = may_append c.args.self.now (g.P.Payload.change c.args.payload.now) c.as_slice-frame.result.now c.self.inside.frames (ap (λ (l : Log). l.frames) c.self.view_is) (omega arith) c.requires (c.as_slice-frame.ensures ∙ c.in_ok-fill.ensures.frame) in
    let short = short_frame c.args.self.now (g.P.Payload.change c.args.payload.now) c.as_slice-frame.result.now may in
    let sized : c.self.inside.size ≤ longest_frame * c.self.inside.frames = c.self.invariant.0 in
    let more : c.self.inside.size + length c.as_slice-frame.result.now ≤ longest_frame * (c.self.inside.frames + 1) = omega arith in
    (more, omega arith)

pub returns-clause-moments : goal.returns-clause-moments
returns-clause-moments g c t = λ changes is.
    let below : c.self.inside.frames < 2 ^ 32 = c.if-number-ge-MOST_FRAMES.false in
    let may = may_append c.args.self.now (g.P.Payload.change c.args.payload.now) c.as_slice-frame.result.now c.self.inside.frames (ap (λ (l : Log). l.frames) c.self.view_is) (omega arith) c.requires (c.as_slice-frame.ensures ∙ c.in_ok-fill.ensures.frame) in
    append_moments is may c.log_file.ensures (ap (λ (l : Log). l.size) c.self.view_is) (c.write_at.ensures.moves t)

pub returns-clause-logged : goal.returns-clause-logged
returns-clause-logged g c t = λ changes is.
    let below : c.self.inside.frames < 2 ^ 32 = c.if-number-ge-MOST_FRAMES.false in
    let may = may_append c.args.self.now (g.P.Payload.change c.args.payload.now) c.as_slice-frame.result.now c.self.inside.frames (ap (λ (l : Log). l.frames) c.self.view_is) (omega arith) c.requires (c.as_slice-frame.ensures ∙ c.in_ok-fill.ensures.frame) in
    let logged = append_logged is may c.log_file.ensures (ap (λ (l : Log). l.size) c.self.view_is) (c.in_ok-write_at.ensures.moves t) in
    let i = c.self.inside in
    let next : ℕ → Log = λ size. record { tables = i.tables; short = i.short; frames = i.frames + 1; durable = i.durable; size = size } in
    let grown = ap length (c.as_slice-frame.ensures ∙ c.in_ok-fill.ensures.frame) in
    let same : with_frame (g.P.Payload.change c.args.payload.now) c.args.self.now ≡ next (i.size + length c.as_slice-frame.result.now) =
    ap (with_frame (g.P.Payload.change c.args.payload.now)) (sym c.self.view_is) ∙ ap (λ (n : ℕ). next (i.size + n)) (sym grown) in
    subst (λ (l : Log). IsLogOf l (changes ++ g.P.Payload.change c.args.payload.now ∷ []) (g.W.Site.state c.write_at.new.self)) same logged

pub returns-in_err-write_at-clause-touches : goal.returns-in_err-write_at-clause-touches
returns-in_err-write_at-clause-touches g c t = change_touches c.log_file.ensures (c.write_at.ensures.moves t)

pub returns-clause-touches : goal.returns-clause-touches
returns-clause-touches g c t = change_touches c.log_file.ensures (c.write_at.ensures.moves t)
