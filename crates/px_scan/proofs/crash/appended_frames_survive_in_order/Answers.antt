use Rattle.px_scan.proofs.Recovery.{survives}
use Rattle.px_scan.proofs.crash.appended_frames_survive_in_order.Goals as goal

pub returns : goal.returns
returns c = λ number durable payloads image behind can le parts plain.
    let r = survives number durable payloads image behind can le parts plain in
    (r.kept, r.at_least, r.at_most, r.scan)
