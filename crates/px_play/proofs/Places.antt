-- The request at a place of a script: what is before it and behind it.
use Rattle.std.proofs.Common.{◌≡◌, ℕ, zero, suc, ◌+◌, List, [], ◌∷◌, ◌++◌, take, drop, Option, Some, None, refl, sym, ap, ◌∙◌, append_assoc}
use Rattle.std.specs.Prelude.{slice_get}
use Rattle.std.proofs.lemmas.List.{append-nil, take-append-drop, take_more, drop_more}
use Rattle.std.proofs.lemmas.Option.{slice_get_within, get_or_from_slice_get}
use Rattle.px_engine.specs.Engine.{Engine}
use Rattle.px_engine.specs.Requests.{Request, after_request, after_requests, answer_text, answer_texts}
use Rattle.px_engine.proofs.Stepping.{engine_behind}
use Rattle.px_play.specs.Told.{joined}
use Rattle.px_play.specs.Playing.{pieces_of}

-- ---- lists

pub front_more : {A : Type 0} (xs : List A) (n : ℕ) (x : A) → slice_get xs n ≡ Some x → take (n + 1) xs ≡ take n xs ++ x ∷ []
front_more xs n x at = take_more xs n x (slice_get_within xs n x at) ∙ ap (λ y. take n xs ++ y ∷ []) (get_or_from_slice_get xs n x x at)

pub parts_at : {A : Type 0} (xs : List A) (n : ℕ) (x : A) → slice_get xs n ≡ Some x → xs ≡ take n xs ++ x ∷ drop (n + 1) xs
parts_at xs n x at =
    sym (take-append-drop n xs) ∙ ap (λ l. take n xs ++ l) (drop_more xs n x (slice_get_within xs n x at))
    ∙ ap (λ y. take n xs ++ y ∷ drop (n + 1) xs) (get_or_from_slice_get xs n x x at)

pub joined_more : (pieces : List (List ℕ)) (piece : List ℕ) → joined (pieces ++ piece ∷ []) ≡ joined pieces ++ piece
joined_more [] piece = append-nil piece
joined_more (first ∷ pieces) piece = ap (λ (b : List ℕ). first ++ b) (joined_more pieces piece) ∙ sym (append_assoc first (joined pieces) piece)

-- ---- requests, one after the other

answer_at : (e : Engine) (requests : List Request) (n : ℕ) (request : Request) → slice_get requests n ≡ Some request
    → slice_get (answer_texts e requests) n ≡ Some (answer_text (after_requests e (take n requests)) request)
answer_at e [] n request at = absurd (cc at)
answer_at e (first ∷ requests) zero request at = ap (λ (o : Option Request). of_request o) at
  where
    of_request : Option Request → Option (List ℕ)
    of_request None = None
    of_request (Some request) = Some (answer_text e request)
answer_at e (first ∷ requests) (suc n) request at = answer_at (after_request e first) requests n request at

-- the piece at a request's place is its answer's text
pub piece_at : (e : Engine) (requests : List Request) (n : ℕ) (request : Request) → slice_get requests n ≡ Some request
    → slice_get (pieces_of e requests) n ≡ Some (answer_text (after_requests e (take n requests)) request)
unfolding pieces_of
piece_at e requests n request at = answer_at e requests n request at

-- the engine after one request more
pub engine_more : (e : Engine) (requests : List Request) (n : ℕ) (request : Request) → slice_get requests n ≡ Some request
    → after_requests e (take (n + 1) requests) ≡ after_request (after_requests e (take n requests)) request
engine_more e requests n request at = ap (after_requests e) (front_more requests n request at) ∙ engine_behind e (take n requests) (request ∷ [])
