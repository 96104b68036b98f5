use Rattle.std.proofs.Common.{◌+◌, ◌++◌, List, ℕ, length, ap, ◌∙◌}
use Rattle.px_scan.specs.Segments.{all_of}
use Rattle.px_scan.proofs.FullSegments.{full_then}
use Rattle.px_scan.proofs.Recovery.{survives}
use Rattle.px_scan.proofs.crash.segments_survive_in_order.Goals as goal

pub returns : goal.returns
returns c = λ first durable full payloads image behind full_ones can le parts plain.
    let r = survives (first + length (all_of full)) durable payloads image behind can le parts plain in
    (r.kept, r.at_least, r.at_most, full_then first full image full_ones ∙ ap (λ (ps : List (List ℕ)). all_of full ++ ps) r.scan)
