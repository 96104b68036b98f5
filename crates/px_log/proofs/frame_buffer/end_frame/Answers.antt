use Rattle.std.proofs.Common.{◌≡◌, ℕ, List, [], ◌++◌, length, drop, ap, ◌∙◌, arith}
use Rattle.std.proofs.lemmas.List.{append-nil, take_at, drop_at, drop_all}
use borrow.Rule.Slice.PartMut.{put_mid}
use Rattle.px_frame.specs.Frame.{frame}
use Rattle.px_log.proofs.frame_buffer.end_frame.Goals as goal

-- two parts that fill a list
filled : (header rest payload : List ℕ) → length header ≡ 16 → length rest ≡ 18 → put_mid 16 18 (header ++ rest) payload ≡ header ++ payload
filled header rest payload front back =
    let behind : drop 18 (drop 16 (header ++ rest)) ≡ [] = ap (drop 18) (drop_at header rest 16 front) ∙ drop_all 18 rest (omega (arith, back)) in
    ap (λ (b : List ℕ). b ++ (payload ++ drop 18 (drop 16 (header ++ rest)))) (take_at header rest 16 front)
    ∙ ap (λ (b : List ℕ). header ++ (payload ++ b)) behind
    ∙ ap (λ (b : List ℕ). header ++ b) (append-nil payload)

pub returns : goal.returns
returns c =
    filled c.copy_from_slice.new.self _ c.copy_from_slice-2.new.self (omega arith) (omega arith)
    ∙ ap (λ (b : List ℕ). b ++ c.copy_from_slice-2.new.self) c.copy_from_slice.ensures.after
    ∙ ap (λ (b : List ℕ). c.frame_header-header.result ++ b) c.copy_from_slice-2.ensures.after
    ∙ c.frame_header-header.ensures
