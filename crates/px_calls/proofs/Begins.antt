-- Texts that grew behind what they were.
use Rattle.std.proofs.Common.{◌≡◌, ℕ, List, ◌++◌, length, take, drop, sym, ap, ◌∙◌, append_assoc}
use Rattle.std.proofs.Math.Seq.{take-append_seam}
use Rattle.std.proofs.lemmas.List.{take-append-drop}
use Rattle.px_calls.specs.Texts.{BeginsWith}

-- what begins with a text that grew begins with what it was
pub begins_shorter : (new old more : List ℕ) → BeginsWith new (old ++ more) → BeginsWith new old
begins_shorter new old more begins =
    let rest : List ℕ = drop (length (old ++ more)) new in
    let whole : new ≡ (old ++ more) ++ rest =
    sym (take-append-drop (length (old ++ more)) new) ∙ ap (λ (front : List ℕ). front ++ rest) begins.kept in
    record { kept = ap (take (length old)) (whole ∙ append_assoc old more rest) ∙ take-append_seam old (more ++ rest) }
