-- What is read through a window is what stands in the file.
use Rattle.std.proofs.Common.{◌≡◌, ◌⊎◌, ℕ, ◌+◌, ◌-◌, ◌≤◌, true, nat_lt, List, ◌++◌, length, take, drop, Option, Some, None, refl, sym, ap, ◌∙◌, append_assoc, arith, inl, inr, length-take, length-drop}
use Rattle.std.proofs.lemmas.Bool.{cases_lt, lt-ltb}
use Rattle.std.proofs.lemmas.List.{take_at, drop_at, take-append-drop, drop-take, drop-drop, take-append-le}
use Rattle.px_frame.specs.Frame.{frame, FrameAt, payload_at}
use Rattle.px_frame.proofs.Frames.{length-frame, frame_long, payload_at-found, payload_at-again, payload_at-none}
use Rattle.px_log.specs.Window.{Seen, Sees, Covers, Shows, longest_frame}

-- ---- a frame at the front

pub shown_frame : (rest bytes : List ℕ) (number : ℕ) (payload : List ℕ) → Shows rest bytes → FrameAt bytes number payload → FrameAt rest number payload
shown_frame rest bytes number payload shows at =
    let size = 16 + length payload in
    let behind = drop size bytes ++ drop (length bytes) rest in
    let whole : rest ≡ frame number payload ++ behind =
    sym (take-append-drop (length bytes) rest)
    ∙ ap (λ (b : List ℕ). b ++ drop (length bytes) rest) (sym shows.front ∙ at.front)
    ∙ append_assoc (frame number payload) (drop size bytes) (drop (length bytes) rest) in
    let left : drop size rest ≡ behind = ap (drop size) whole ∙ drop_at (frame number payload) behind size (length-frame number payload) in
    record { can = at.can; front = whole ∙ ap (λ (b : List ℕ). frame number payload ++ b) (sym left) }

frame_shown : (rest bytes : List ℕ) (number : ℕ) (payload : List ℕ) → Shows rest bytes → FrameAt rest number payload → FrameAt bytes number payload
frame_shown rest bytes number payload shows at =
    let size = 16 + length payload in
    let text = frame number payload in
    let longest : length payload ≤ 8192 = at.can.longest in
    let there : size ≤ length rest = frame_long rest number payload at in
    let within : size ≤ length bytes = elim shows.enough as (λ _. size ≤ length bytes) [ inl long ↦ omega (arith, long) | inr all ↦ omega (arith, all) ] in
    let first : take size bytes ≡ text =
    ap (take size) shows.front
    ∙ sym (take-append-le size (take (length bytes) rest) (drop (length bytes) rest) (omega (arith, length-take (length bytes) rest)))
    ∙ ap (take size) (take-append-drop (length bytes) rest)
    ∙ ap (take size) at.front
    ∙ take_at text (drop size rest) size (length-frame number payload) in
    record { can = at.can; front = sym (take-append-drop size bytes) ∙ ap (λ (b : List ℕ). b ++ drop size bytes) first }

-- so the test says the same of both
pub shown : (rest bytes : List ℕ) (number : ℕ) → Shows rest bytes → payload_at bytes number ≡ payload_at rest number
shown rest bytes number shows = by_option (payload_at bytes number) refl
  where
    by_option : (o : Option (List ℕ)) → payload_at bytes number ≡ o → payload_at bytes number ≡ payload_at rest number
    by_option None e = e ∙ sym (payload_at-none rest number (λ payload at.
        let some : payload_at bytes number ≡ Some payload = payload_at-again bytes number payload (frame_shown rest bytes number payload shows at) in absurd cc))
    by_option (Some payload) e = e ∙ sym (payload_at-again rest number payload (shown_frame rest bytes number payload shows (payload_at-found bytes number payload e)))

-- ---- the window

pub window_shows : (content : List ℕ) (seen : Seen) (place : ℕ) (bytes : List ℕ) → Sees content seen → Covers place seen → bytes ≡ drop (place - seen.place) seen.bytes → Shows (drop place content) bytes
window_shows content seen place bytes sees covers is =
    let skip = place - seen.place in
    let from : seen.place ≤ place = covers.from in
    let to : place ≤ seen.place + length seen.bytes = covers.to in
    let size : length bytes ≡ length seen.bytes - skip = omega (arith, ap length is, length-drop skip seen.bytes) in
    let total : length seen.bytes ≡ skip + length bytes = omega (arith, size) in
    let there : seen.place + skip ≡ place = omega arith in
    let later : drop skip (drop seen.place content) ≡ drop place content = drop-drop skip seen.place content ∙ ap (λ (n : ℕ). drop n content) there in
    record {
      front =
          is
          ∙ ap (drop skip) sees.bytes
          ∙ ap (λ (n : ℕ). drop skip (take n (drop seen.place content))) total
          ∙ drop-take skip (length bytes) (drop seen.place content)
          ∙ ap (take (length bytes)) later;
      enough = elim covers.enough as (λ _. (longest_frame ≤ length bytes) ⊎ (length (drop place content) ≤ length bytes)) [
        | inl long ↦ inl (omega (arith, long, total, there))
        | inr ended ↦ inr (omega (arith, sees.ended ended, total, ap length (sym later), length-drop skip (drop seen.place content)))
      ];
    }

-- a read into a buffer that holds each frame covers the place
pub read_covers : (place : ℕ) (buffer : List ℕ) (n room : ℕ) → n ≤ length buffer → room ≡ length buffer → longest_frame ≤ room → Covers place (record { place = place; bytes = take n buffer; ended = nat_lt n room })
read_covers place buffer n room within same large =
    let size : length (take n buffer) ≡ n = omega (arith, length-take n buffer) in
    record {
      from = omega arith;
      to = omega arith;
      enough = elim (cases_lt n room) as (λ _. (place + longest_frame ≤ place + length (take n buffer)) ⊎ (nat_lt n room ≡ true)) [
        | inl lt ↦ inr (lt-ltb n room lt)
        | inr ge ↦ inl (omega (arith, size, ge))
      ];
    }
