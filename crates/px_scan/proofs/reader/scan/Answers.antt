use Rattle.std.proofs.Common.{◌≡◌, ◌++◌, List, ℕ, drop, length, map, Bor, None, sym, subst, ap, ◌∙◌, arith}
use Rattle.std.proofs.lemmas.List.{map_push, take_rest, length-drop}
use Rattle.px_frame.specs.Frame.{FrameAt, payload_at}
use Rattle.px_frame.proofs.Frames.{frame_long, payload_at-none}
use Rattle.px_scan.specs.Scan.{frames_of, frames}
use Rattle.px_scan.proofs.Loop.{scan_begins, scan_goes_on, scan_ends}
use Rattle.px_scan.proofs.reader.scan.Goals as goal
use Rattle.px_scan.proofs.reader.scan.Goals.{In-Some, In_default}

-- the frame that was read stands at the place
found : (c : In-Some) → FrameAt (drop c.loop-payload.stop c.args.bytes.now) c.loop-payload.next c.in-Some.payload.now
found c = subst (λ (b : List ℕ). FrameAt b c.loop-payload.next c.in-Some.payload.now) (take_rest c.args.bytes.now c.loop-payload.stop) c.in-Some.ensures.found

-- all was read
all : (c : In_default) → map (λ (p : Bor (List ℕ)). p.now) c.loop-payload.payloads.items ≡ frames_of c.args.bytes.now c.args.number
all c =
    let rest = drop c.loop-payload.stop c.args.bytes.now in
    let none : payload_at rest c.loop-payload.next ≡ None =
    payload_at-none rest c.loop-payload.next (λ payload at. c.in_default.ensures.none payload (subst (λ (b : List ℕ). FrameAt b c.loop-payload.next payload) (sym (take_rest c.args.bytes.now c.loop-payload.stop)) at)) in
    scan_ends c.args.bytes.now c.args.number (map (λ (p : Bor (List ℕ)). p.now) c.loop-payload.payloads.items) c.loop-payload.stop c.loop-payload.next c.loop-payload.invariant none

pub loop-payload-init : goal.loop-payload-init
loop-payload-init c = rw c.new-payloads.ensures.items (scan_begins c.args.bytes.now c.args.number)

pub loop-payload-preserved : goal.loop-payload-preserved
loop-payload-preserved c =
    let done = map (λ (p : Bor (List ℕ)). p.now) c.loop-payload.payloads.items in
    rw (c.in_ok-push.ensures.items, map_push (λ (p : Bor (List ℕ)). p.now) c.loop-payload.payloads.items c.in-Some.payload, c.in-Some.ensures.size)
    (scan_goes_on c.args.bytes.now c.args.number done c.loop-payload.stop c.loop-payload.next c.in-Some.payload.now c.loop-payload.invariant (found ((goal.at.loop-payload-preserved c).In-Some)))

pub loop-payload-smaller : goal.loop-payload-smaller
loop-payload-smaller c =
    let long = frame_long (drop c.loop-payload.stop c.args.bytes.now) c.loop-payload.next c.in-Some.payload.now (found ((goal.at.loop-payload-smaller c).In-Some)) in
    omega (arith, c.in-Some.ensures.size, c.loop-payload.invariant.within, length-drop c.loop-payload.stop c.args.bytes.now)

pub returns-clause-payloads : goal.returns-clause-payloads
returns-clause-payloads c = all ((goal.at.returns-clause-payloads c).In_default)

pub returns-clause-front : goal.returns-clause-front
returns-clause-front c = c.loop-payload.invariant.front ∙ ap (λ (ps : List (List ℕ)). frames c.args.number ps ++ drop c.loop-payload.stop c.args.bytes.now) (all ((goal.at.returns-clause-front c).In_default))

pub returns-clause-stop : goal.returns-clause-stop
returns-clause-stop c = c.loop-payload.invariant.place ∙ ap (λ (ps : List (List ℕ)). length (frames c.args.number ps)) (all ((goal.at.returns-clause-stop c).In_default))
