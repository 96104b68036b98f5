-- The bytes of a frame, and what a frame at the front of bytes says of them.
use Rattle.std.proofs.Common.{◌≡◌, ℕ, ◌+◌, ◌<◌, ◌≤◌, Bool, true, ◌&&◌, cond, List, ◌++◌, length, take, drop, Option, Some, None, refl, sym, ap, subst, ◌∙◌, arith}
use Rattle.std.specs.Prelude.{nat_eq}
use Rattle.std.specs.List.{starts_with}
use Rattle.std.specs.Int.{w32, w64, to_be_bytes, from_be_bytes}
use Rattle.std.proofs.lemmas.Bool.{and_parts, and_from, ltb-true, lt-ltb, leb-true, le-leb}
use Rattle.std.proofs.lemmas.Bool.Decides.{Decides-eqb}
use Rattle.std.proofs.lemmas.List.{take_at, drop_at, length-append}
use Rattle.std.proofs.lemmas.Nat.{from_be_bytes-to_be_bytes_4}
use Rattle.std.proofs.lemmas.Option.{cond_some}
use Rattle.std.proofs.lemmas.Slice.Eq.{starts_is}
use Rattle.px_bytes.specs.Sum.{fnv_of}
use Rattle.px_bytes.proofs.Numbers.{one_u64}
use Rattle.px_frame.specs.declared.frame.TheConstants.{HEADER_SIZE}
use Rattle.px_bytes.specs.declared.limits.TheConstants.{NUMBER_LIMIT, SHORTEST_PAYLOAD, LONGEST_PAYLOAD}
use Rattle.px_frame.specs.Frame.{summed, frame, CanFrame, FrameAt, can_frame, named_payload, payload_at}

-- a length, a sum, a number, and what follows
unfoldable pub header_text : ℕ → ℕ → ℕ → List ℕ → List ℕ
header_text length sum number rest = to_be_bytes w32 length ++ (to_be_bytes w32 sum ++ (to_be_bytes w64 number ++ rest))

pub frame-header_text : (number : ℕ) (payload rest : List ℕ) → frame number payload ++ rest ≡ header_text (length payload) (fnv_of (summed number payload)) number (payload ++ rest)
unfolding frame header_text
frame-header_text number payload rest = refl

pub length-frame : (number : ℕ) (payload : List ℕ) → length (frame number payload) ≡ HEADER_SIZE + length payload
unfolding frame
length-frame number payload = omega arith

-- the bytes of a frame are there
pub frame_long : (bytes : List ℕ) (number : ℕ) (payload : List ℕ) → FrameAt bytes number payload → HEADER_SIZE + length payload ≤ length bytes
frame_long bytes number payload at =
    omega (arith, ap length at.front, length-append (frame number payload) (drop (HEADER_SIZE + length payload) bytes), length-frame number payload)

-- what was written checks, whatever follows
pub written_again : (number : ℕ) (payload rest : List ℕ) → CanFrame number payload → FrameAt (frame number payload ++ rest) number payload
written_again number payload rest can = record {
  can = can;
  front = ap (λ (r : List ℕ). frame number payload ++ r) (sym (drop_at (frame number payload) rest (HEADER_SIZE + length payload) (length-frame number payload)));
}

-- ---- one reading

pub spelled : (bytes : List ℕ) (number : ℕ) (payload : List ℕ) → FrameAt bytes number payload → bytes ≡ header_text (length payload) (fnv_of (summed number payload)) number (payload ++ drop (HEADER_SIZE + length payload) bytes)
spelled bytes number payload at = at.front ∙ frame-header_text number payload (drop (HEADER_SIZE + length payload) bytes)

-- the length at the front names the payload
pub named : (bytes : List ℕ) (number : ℕ) (payload : List ℕ) → FrameAt bytes number payload → named_payload bytes ≡ payload
unfolding header_text named_payload
named bytes number payload at =
    let rest = drop (HEADER_SIZE + length payload) bytes in
    let longest : length payload ≤ LONGEST_PAYLOAD = at.can.longest in
    let size : from_be_bytes w32 (take 4 bytes) ≡ length payload = ap (λ (b : List ℕ). from_be_bytes w32 (take 4 b)) (spelled bytes number payload at) ∙ from_be_bytes-to_be_bytes_4 (length payload) (omega arith) in
    ap (λ (n : ℕ). take n (drop HEADER_SIZE bytes)) size
    ∙ ap (λ (b : List ℕ). take (length payload) (drop HEADER_SIZE b)) (spelled bytes number payload at)
    ∙ take_at payload rest (length payload) refl

pub one_payload : (bytes : List ℕ) (m n : ℕ) (p q : List ℕ) → FrameAt bytes m p → FrameAt bytes n q → p ≡ q
one_payload bytes m n p q at_p at_q = sym (named bytes m p at_p) ∙ named bytes n q at_q

pub one_number : (bytes : List ℕ) (m n : ℕ) (p q : List ℕ) → FrameAt bytes m p → FrameAt bytes n q → m ≡ n
unfolding header_text
one_number bytes m n p q at_p at_q =
    let m_fits : m < NUMBER_LIMIT = at_p.can.numbered in
    let n_fits : n < NUMBER_LIMIT = at_q.can.numbered in
    let both = sym (spelled bytes m p at_p) ∙ spelled bytes n q at_q in
    (one_u64 m n _ _ (omega arith) (omega arith) (ap (λ (b : List ℕ). drop 8 b) both)).0

-- ---- the test that computes is exact

starts_then : (bytes text : List ℕ) → starts_with nat_eq bytes text ≡ true → bytes ≡ text ++ drop (length text) bytes
starts_then bytes text e = (starts_is Decides-eqb bytes text (starts_with nat_eq bytes text) refl).0 e

then_starts : (bytes text rest : List ℕ) → bytes ≡ text ++ rest → starts_with nat_eq bytes text ≡ true
then_starts bytes text rest e = (starts_is Decides-eqb bytes text (starts_with nat_eq bytes text) refl).1 rest e

can_test : (number : ℕ) (payload : List ℕ) → CanFrame number payload → can_frame number payload ≡ true
can_test number payload can = and_from _ _ (lt-ltb number NUMBER_LIMIT can.numbered) (and_from _ _ (le-leb SHORTEST_PAYLOAD (length payload) can.shortest) (le-leb (length payload) LONGEST_PAYLOAD can.longest))

test_can : (number : ℕ) (payload : List ℕ) → can_frame number payload ≡ true → CanFrame number payload
test_can number payload e =
    let first = and_parts _ _ e in
    let second = and_parts _ _ first.1 in
    record { numbered = ltb-true number NUMBER_LIMIT first.0; shortest = leb-true SHORTEST_PAYLOAD (length payload) second.0; longest = leb-true (length payload) LONGEST_PAYLOAD second.1 }

pub payload_at-found : (bytes : List ℕ) (number : ℕ) (payload : List ℕ) → payload_at bytes number ≡ Some payload → FrameAt bytes number payload
unfolding payload_at
payload_at-found bytes number payload e =
    let tested = cond_some (can_frame number (named_payload bytes) && starts_with nat_eq bytes (frame number (named_payload bytes))) (named_payload bytes) payload e in
    let parts = and_parts _ _ tested.0 in
    let at : FrameAt bytes number (named_payload bytes) = record {
      can = test_can number (named_payload bytes) parts.0;
      front = subst (λ (k : ℕ). bytes ≡ frame number (named_payload bytes) ++ drop k bytes) (length-frame number (named_payload bytes)) (starts_then bytes (frame number (named_payload bytes)) parts.1);
    } in
    subst (λ (p : List ℕ). FrameAt bytes number p) tested.1 at

pub payload_at-again : (bytes : List ℕ) (number : ℕ) (payload : List ℕ) → FrameAt bytes number payload → payload_at bytes number ≡ Some payload
unfolding payload_at
payload_at-again bytes number payload at =
    let tested : (can_frame number payload && starts_with nat_eq bytes (frame number payload)) ≡ true = and_from _ _ (can_test number payload at.can) (then_starts bytes (frame number payload) (drop (HEADER_SIZE + length payload) bytes) at.front) in
    ap (λ (p : List ℕ). cond (can_frame number p && starts_with nat_eq bytes (frame number p)) (Some p) None) (named bytes number payload at) ∙ ap (λ (b : Bool). cond b (Some payload) None) tested

pub payload_at-none : (bytes : List ℕ) (number : ℕ) → ((payload : List ℕ) → ¬ FrameAt bytes number payload) → payload_at bytes number ≡ None
payload_at-none bytes number none = by_answer (payload_at bytes number) refl
  where
    by_answer : (answer : Option (List ℕ)) → payload_at bytes number ≡ answer → answer ≡ None
    by_answer None e = refl
    by_answer (Some p) e = absurd (none p (payload_at-found bytes number p e))
